-- The units so far and the digits left give the same value as at the start.
use Rattle.std.proofs.Common.{◌≡◌, ◌≤◌, ◌^◌, drop}
use Rattle.sql_tokens.specs.Spelling.{held, value_from}
use Rattle.sql_tokens.proofs.numeral.more_units.Given as goal

abbrev pub invariant-loop-d : goal.invariant-loop-d
invariant-loop-d l = record {
  small : l.units ≤ 2 ^ 63;
  reads : held (value_from l.units (drop l.d-index l.digits)) ≡ held (value_from l.fn.so_far l.digits);
}
