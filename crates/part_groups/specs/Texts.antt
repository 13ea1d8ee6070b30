-- Where the least or the greatest texts of groups lie: what each group tells, and what is said over all parts.
use Rattle.std.specs.Prelude.{ℕ, ◌+◌, Bool, not, ◌||◌, List, [], ◌∷◌, is_some, map, slice_get, if◌then◌else◌}
use Rattle.std.specs.List.{filter, flat_map, list_any}
use Rattle.std.specs.declared.option.Option.{Option}
use Rattle.std.specs.declared.option.Option.TheVariants.{Some, None}
use Rattle.query_model.specs.declared.query.ItemKind.{ItemKind}
use Rattle.query_model.specs.declared.query.ItemKind.TheVariants.{Count, Sum, Min, Max, Avg}
use Rattle.report_text.specs.declared.text_answers.TextAnswer.{TextAnswer}
use Rattle.shard_groups.specs.Keys.{is_within}
use Rattle.shard_groups.specs.declared.keys.Span.{Span}
use Rattle.text_extremes.specs.Answers.{said_over}
use Rattle.text_extremes.specs.declared.extreme.Extreme.{Extreme}
use Rattle.text_extremes.specs.declared.extreme.Extreme.TheVariants.{Least, Greatest}
use Rattle.part_groups.specs.Cells.{keys_of}
use Rattle.part_groups.specs.declared.group.Group.{Group}
use Rattle.part_groups.specs.declared.text_cells.TextCell.{TextCell}

-- which text an item of that kind may ask for
abbrev pub extreme_of : ItemKind → Option Extreme
extreme_of Count = None
extreme_of Sum = None
extreme_of Min = Some Least
extreme_of Max = Some Greatest
extreme_of Avg = None

-- ---- what a group tells

abbrev pub or_no_text : Option (Option TextAnswer) → Option TextAnswer
or_no_text None = None
or_no_text (Some text) = text

-- where the text of an item lies, if it is told
abbrev pub text_at : ℕ → List (Option TextAnswer) → Option TextAnswer
text_at item texts = or_no_text (slice_get texts item)

abbrev pub text_cell : Group → TextCell
text_cell group = record { keys = keys_of group.line.keys; texts = group.texts }

abbrev pub text_cells : List (List Group) → List (List TextCell)
text_cells parts = map (map text_cell) parts

-- some group of some part tells a text
abbrev pub tell_texts : List (List Group) → Bool
tell_texts parts = list_any (λ groups. list_any (λ group. list_any is_some group.texts) groups) parts

-- ---- the keys of a line

-- the same text, or none
abbrev pub loosened : Bool → TextAnswer → TextAnswer
loosened loose text = record { null = loose || text.null; ends = text.ends }

-- a cell that has all keys of the line tells its text of each; of another it is not known whether it has the key
abbrev pub told_by : Bool → Option TextAnswer → Option TextAnswer
told_by has_all None = None
told_by has_all (Some text) = Some (loosened (not has_all) text)

abbrev pub told_to : ℕ → List Span → TextCell → Option TextAnswer
told_to item line cell = told_by (is_within line cell.keys) (text_at item cell.texts)

abbrev pub cells_within : List Span → List TextCell → List TextCell
cells_within line cells = filter (λ cell. is_within cell.keys line) cells

-- what the cells of a part tell of each key of the line
abbrev pub texts_within : ℕ → List Span → List TextCell → List (Option TextAnswer)
texts_within item line cells = map (told_to item line) (cells_within line cells)

-- and those of all parts
abbrev pub all_texts : ℕ → List Span → List (List TextCell) → List (Option TextAnswer)
all_texts item line parts = flat_map (texts_within item line) parts

-- ---- all parts

abbrev pub text_by : Option Extreme → ℕ → List Span → List (List TextCell) → Option TextAnswer
text_by None item line parts = None
text_by (Some extreme) item line parts = said_over extreme (all_texts item line parts)

-- item by item, from one on
abbrev pub texts_from : ℕ → List ItemKind → List Span → List (List TextCell) → List (Option TextAnswer)
texts_from item [] line parts = []
texts_from item (kind ∷ kinds) line parts = text_by (extreme_of kind) item line parts ∷ texts_from (item + 1) kinds line parts

-- the cells of all parts, if one tells a text
abbrev pub told_cells : List (List Group) → Option (List (List TextCell))
told_cells parts = if tell_texts parts then Some (text_cells parts) else None

abbrev pub texts_with : List ItemKind → Option (List (List TextCell)) → List Span → List (Option TextAnswer)
texts_with kinds None line = []
texts_with kinds (Some cells) line = texts_from 0 kinds line cells

-- where the texts of all items lie for the keys of a line; none is listed where no part tells one
abbrev pub texts_over : List ItemKind → List (List Group) → List Span → List (Option TextAnswer)
texts_over kinds parts line = texts_with kinds (told_cells parts) line
