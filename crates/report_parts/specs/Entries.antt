-- What a block says of its items: of each an answer, and perhaps, in a line behind it, the same told in another way. Of the least or the
-- greatest text it says where the text lies, and that there is no other answer, in its line and in the one behind.
use Rattle.std.specs.Prelude.{ℕ, ◌-◌, pos, is_some, Bool, List, length, map, slice_index_or}
use Rattle.std.specs.declared.option.Option.{Option}
use Rattle.std.specs.declared.option.Option.TheVariants.{Some, None}
use Rattle.std.specs.List.{list_all}
use Rattle.query_model.specs.declared.bounds.Nullity.TheVariants.{Always}
use Rattle.report_text.specs.declared.answers.Answer.{Answer}
use Rattle.report_text.specs.declared.answers.Answer.TheVariants.{Value}
use Rattle.report_text.specs.declared.forms.Form.TheVariants.{Decimals}
use Rattle.report_parts.specs.declared.entry.Entry.{Entry}

-- no answer
abbrev pub no_answer : Answer
no_answer = Value (record { form = Decimals 0; bound = record { null = Always; lo = pos 0; hi = pos 0 } })

abbrev pub no_entry : Entry
no_entry = record { answer = no_answer; extra = None; text = None; clip = None }

-- what a block says of an item
abbrev pub entry_at : ℕ → List Entry → Entry
entry_at item block = slice_index_or block item no_entry

abbrev pub last_entry : List Entry → Entry
last_entry block = entry_at (length block - 1) block

-- a line stands behind that of its last item
abbrev pub ends_with_extra : List Entry → Bool
ends_with_extra block = is_some (last_entry block).extra

-- ---- what several parts say of one item

abbrev pub answers_of : List Entry → List Answer
answers_of entries = map (λ entry. entry.answer) entries

-- each tells its answer in a line behind too
abbrev pub have_extras : List Entry → Bool
have_extras entries = list_all (λ entry. is_some entry.extra) entries

abbrev pub or_no_answer : Option Answer → Answer
or_no_answer None = no_answer
or_no_answer (Some answer) = answer

abbrev pub extras_of : List Entry → List Answer
extras_of entries = map (λ entry. or_no_answer entry.extra) entries
