-- Where the parts say that the least or the greatest text lies, and where it lies over all.
use Rattle.std.specs.Prelude.{ℕ, Bool, false, is_some, List, [], ◌++◌, map, codes, decimal, if◌then◌else◌}
use Rattle.std.specs.List.{list_any}
use Rattle.std.specs.declared.option.Option.{Option}
use Rattle.std.specs.declared.option.Option.TheVariants.{Some, None}
use Rattle.query_model.specs.declared.query.ItemKind.{ItemKind}
use Rattle.part_groups.specs.Texts.{extreme_of}
use Rattle.report_text.specs.TextAnswers.{text_of}
use Rattle.report_text.specs.declared.text_answers.TextAnswer.{TextAnswer}
use Rattle.report_parts.specs.declared.entry.Entry.{Entry}
use Rattle.text_extremes.specs.Answers.{said_over}
use Rattle.text_extremes.specs.declared.extreme.Extreme.{Extreme}

-- it may ask for a text
abbrev pub is_extreme : Option ItemKind → Bool
is_extreme None = false
is_extreme (Some kind) = is_some (extreme_of kind)

-- the number of an item, and where the clipped text lies
abbrev pub text_clip_line : ℕ → TextAnswer → List ℕ
text_clip_line number clip = decimal number ++ (codes " " ++ (codes "clip " ++ text_of clip))

-- where the parts say that it lies, in the line of the item and in the one behind
abbrev pub texts_of : List Entry → List (Option TextAnswer)
texts_of entries = map (λ entry. entry.text) entries

abbrev pub clips_of : List Entry → List (Option TextAnswer)
clips_of entries = map (λ entry. entry.clip) entries

-- some part tells a text
abbrev pub tell_text : List (Option TextAnswer) → Bool
tell_text texts = list_any (λ text. is_some text) texts

abbrev pub said_by : Option Extreme → List (Option TextAnswer) → Option TextAnswer
said_by None texts = None
said_by (Some extreme) texts = said_over extreme texts

-- what a section tells of texts, item by item; nothing is listed where it tells none
abbrev pub group_texts : List Entry → List (Option TextAnswer)
group_texts entries = if tell_text (texts_of entries) then texts_of entries else []

-- where the text lies over all parts, if one tells a text
abbrev pub text_over : ItemKind → List (Option TextAnswer) → Option TextAnswer
text_over kind texts = if tell_text texts then said_by (extreme_of kind) texts else None
