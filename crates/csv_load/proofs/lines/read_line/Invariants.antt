use Rattle.std.proofs.Common.{◌≡◌, ◌≤◌, ◌-◌, [], length, drop}
use Rattle.csv.specs.Machine.{next_record}
use Rattle.csv.specs.Reading.{default_config}
use Rattle.csv.specs.declared.parser.State.TheVariants as st
use Rattle.csv_load.specs.Lines.{record_at}
use Rattle.csv_load.proofs.lines.read_line.Given as goal

abbrev pub invariant-fields : goal.invariant-fields
invariant-fields l = record {
  within : l.at ≤ length l.text;
  read : record_at l.text l.from ≡ next_record default_config st.StartField l.fields [] (drop l.at l.text);
}

abbrev pub decreases-fields : goal.decreases-fields
decreases-fields l = length l.text - l.at
