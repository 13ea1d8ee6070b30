-- What is said over all parts of averages beside which the sums and the numbers of their values are asked.
use Rattle.std.specs.Prelude.{ℕ, ◌+◌, Bool, true, false, List, [], ◌∷◌, map, slice_index_or}
use Rattle.std.specs.declared.option.Option.{Option}
use Rattle.std.specs.declared.option.Option.TheVariants.{Some, None}
use Rattle.narrow_averages.specs.Beside.{average_beside}
use Rattle.query_kinds.specs.declared.beside.Beside.{Beside}
use Rattle.query_model.specs.declared.bounds.Bound.{Bound}
use Rattle.part_groups.specs.declared.group.Group.{Group}
use Rattle.report_text.specs.declared.answers.Answer.{Answer}
use Rattle.report_text.specs.declared.answers.Answer.TheVariants.{Average, Value}
use Rattle.report_text.specs.declared.averages.ShownAverage.{ShownAverage}
use Rattle.report_parts.specs.Combined.{are_alike, average_of, shown_average}
use Rattle.report_parts.specs.Entries.{entry_at, no_answer}
use Rattle.report_parts.specs.declared.entry.Entry.{Entry}

-- where the sum is written as the sums of the average are, it is narrowed by the sum and the number of its values
abbrev pub narrowed : Bool → Bound → Bound → ShownAverage → Answer
narrowed true sum count shown = Average (shown_average shown.low.sum.decimals (average_beside sum count (average_of (Average shown))))
narrowed false sum count shown = Average shown

-- the answer of an average, from those of the sum, of the number of values and of the average over all parts; another answer stays
abbrev pub answer_beside : Answer → Answer → Answer → Answer
answer_beside (Value sum) (Value count) (Average shown) = narrowed (are_alike (Average shown ∷ Value sum ∷ [])) sum.bound count.bound shown
answer_beside (Value sum) (Value count) (Value shown) = Value shown
answer_beside (Value sum) (Average count) answer = answer
answer_beside (Average sum) count answer = answer

-- ---- of totals

-- what is said of an item, where these stand beside it in its block
abbrev pub entry_by : List Entry → Option Beside → Entry → Entry
entry_by block None entry = entry
entry_by block (Some beside) entry = record {
  answer = answer_beside (entry_at beside.sum block).answer (entry_at beside.count block).answer entry.answer;
  extra = entry.extra;
  text = entry.text;
  clip = entry.clip;
}

-- so it is of the items from that one on
abbrev pub entries_by : List Entry → List (Option Beside) → ℕ → List Entry → List Entry
entries_by block besides item [] = []
entries_by block besides item (entry ∷ entries) =
    entry_by block (slice_index_or besides item None) entry ∷ entries_by block besides (item + 1) entries

-- and of all items of a block
abbrev pub entries_beside : List (Option Beside) → List Entry → List Entry
entries_beside besides entries = entries_by entries besides 0 entries

-- ---- of groups

-- what a group says of an item
abbrev pub told_at : ℕ → List Answer → Answer
told_at item answers = slice_index_or answers item no_answer

-- the answer of an item, where these stand beside it in its group
abbrev pub answer_by : List Answer → Option Beside → Answer → Answer
answer_by answers None answer = answer
answer_by answers (Some beside) answer = answer_beside (told_at beside.sum answers) (told_at beside.count answers) answer

-- so it is of the items from that one on
abbrev pub answers_by : List Answer → List (Option Beside) → ℕ → List Answer → List Answer
answers_by answers besides item [] = []
answers_by answers besides item (answer ∷ others) =
    answer_by answers (slice_index_or besides item None) answer ∷ answers_by answers besides (item + 1) others

-- the group, with each average narrowed by what stands beside it there
abbrev pub group_beside : List (Option Beside) → Group → Group
group_beside besides group = record { line = group.line; answers = answers_by group.answers besides 0 group.answers; texts = group.texts }

abbrev pub groups_beside : List (Option Beside) → List Group → List Group
groups_beside besides groups = map (group_beside besides) groups
