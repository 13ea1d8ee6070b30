-- The values typed and those left give the same fault and the same members as at the start.
use Rattle.std.proofs.Common.{◌≡◌, ◌++◌, drop, map}
use Rattle.sql_text.specs.Tree.{name_of, operand_of}
use Rattle.sql_typing.specs.Faults.{values_fault}
use Rattle.sql_typing.specs.Names.{kind_of}
use Rattle.sql_typing.specs.Typing.{member, spot_in}
use Rattle.sql_typing.proofs.condition.members.Given as goal

abbrev pub invariant-loop-before : goal.invariant-loop-before
invariant-loop-before l = record {
  faults : values_fault (kind_of l.table (name_of l.column).name) l.before (drop l.before (map operand_of l.values)) ≡ values_fault (kind_of l.table (name_of l.column).name) 0 (map operand_of l.values);
  values : l.members.items ++ map (λ v. member (spot_in l.table (name_of l.column) v)) (drop l.before (map operand_of l.values)) ≡ map (λ v. member (spot_in l.table (name_of l.column) v)) (map operand_of l.values);
}
