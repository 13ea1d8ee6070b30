-- What the line of a row says of its key: where it lies.
use Rattle.std.specs.Prelude.{ℕ, Bool, true, false, List, [], ◌++◌, codes}
use Rattle.std.specs.declared.option.Option.{Option}
use Rattle.std.specs.declared.option.Option.TheVariants.{Some, None}
use Rattle.std.specs.Ordering.{int_eq}
use Rattle.std.specs.Str.{bytes_eq}
use Rattle.daq_table.specs.ValueTexts.{quoted_text}
use Rattle.report_text.specs.Forms.{text_in}
use Rattle.report_text.specs.Words.{ends_text}
use Rattle.report_text.specs.declared.keys.ShownEnds.{ShownEnds}
use Rattle.report_text.specs.declared.keys.ShownEnds.TheVariants.{NoText, Texts, Values}
use Rattle.report_text.specs.declared.keys.ShownSpan.{ShownSpan}

-- one value, or both ends in brackets
abbrev pub ends_between : ShownEnds → List ℕ
ends_between (Values ends) = ends_text (int_eq ends.low ends.high) (text_in ends.form ends.low) (text_in ends.form ends.high)
ends_between (Texts ends) = ends_text (bytes_eq ends.low ends.high) (quoted_text ends.low) (quoted_text ends.high)
ends_between NoText = codes "-"

-- values, null, or both
abbrev pub interval_by : Bool → Option ShownEnds → List ℕ
interval_by false None = []
interval_by true None = codes "null"
interval_by false (Some ends) = ends_between ends
interval_by true (Some ends) = ends_between ends ++ codes " or null"

abbrev pub key_interval : ShownSpan → List ℕ
key_interval span = interval_by span.null span.ends
