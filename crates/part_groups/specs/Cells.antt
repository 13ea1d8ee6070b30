-- What the lines of a group say, as a cell.
use Rattle.std.specs.Borrow.{Bor}
use Rattle.std.specs.Prelude.{Bool, List, map, max}
use Rattle.std.specs.declared.option.Option.{Option}
use Rattle.std.specs.declared.option.Option.TheVariants.{Some, None}
use Rattle.interval_calc.specs.Intervals.{Fraction}
use Rattle.query_model.specs.Bounds.{AverageBound}
use Rattle.report_text.specs.declared.answers.Answer.{Answer}
use Rattle.report_text.specs.declared.answers.Answer.TheVariants as report
use Rattle.report_text.specs.declared.averages.Ratio.{Ratio}
use Rattle.report_text.specs.declared.averages.ShownAverage.{ShownAverage}
use Rattle.report_text.specs.declared.keys.ShownEnds.{ShownEnds}
use Rattle.report_text.specs.declared.keys.ShownEnds.TheVariants.{NoText, Texts, Values}
use Rattle.report_text.specs.declared.keys.ShownSpan.{ShownSpan}
use Rattle.shard_groups.specs.declared.cells.Cell.{Cell}
use Rattle.shard_groups.specs.declared.keys.Ends.{Ends}
use Rattle.shard_groups.specs.declared.keys.KeyValue.TheVariants.{Number, Text}
use Rattle.shard_groups.specs.declared.keys.Span.{Span}
use Rattle.shard_groups.specs.Groups.{Average, Said, Value, said_of}
use Rattle.part_groups.specs.declared.group.Group.{Group}

-- ---- its keys

-- numbers in units, dates as day numbers, texts as they are; where a column of texts has none there is no value
abbrev pub values_of : ShownEnds → Option Ends
values_of (Values ends) = Some (record { low = Number ends.low; high = Number ends.high })
values_of (Texts ends) = Some (record { low = Text ends.low; high = Text ends.high })
values_of NoText = None

abbrev pub values_in : Option ShownEnds → Option Ends
values_in None = None
values_in (Some ends) = values_of ends

abbrev pub span_of : ShownSpan → Span
span_of span = record { null = span.null; ends = values_in span.ends }

abbrev pub keys_of : List ShownSpan → List Span
keys_of spans = map span_of spans

-- ---- its items

abbrev pub fraction_by : Ratio → Fraction
fraction_by ratio = record { num = ratio.sum.units; den = max ratio.rows 1 }

abbrev pub fractions_by : ShownAverage → AverageBound
fractions_by shown = record { null = shown.null; lo = fraction_by shown.low; hi = fraction_by shown.high }

-- what an answer says of its item: the bound in units, or the average
abbrev pub said_by : Answer → Said
said_by (report.Value shown) = Value shown.bound
said_by (report.Average shown) = Average (fractions_by shown)

-- ---- the cell

-- what a cell tells: an average by its fractions
pub record Told : Type 0 where
  pub keys : List Span
  pub present : Bool
  pub items : List Said

abbrev pub told : Cell → Told
told cell = record { keys = cell.keys; present = cell.present; items = map said_of cell.items }

-- what the line of a group and the answers of its items tell
abbrev pub told_by : Group → Told
told_by group = record { keys = keys_of group.line.keys; present = group.line.present; items = map said_by group.answers }

-- the groups of each part
abbrev pub slices : List (Bor (List Group)) → List (List Group)
slices parts = map (λ part. part.now) parts
