use Rattle.std.proofs.Common.{◌≡◌, ◌<◌, ◌^◌, drop}
use Rattle.std.specs.Str.Parse.{AllDigits, digits_value_after}
use Rattle.csv_load.proofs.plain_cells.plain_digits.Given as goal

abbrev pub invariant-loop-byte : goal.invariant-loop-byte
invariant-loop-byte l = record {
  value : digits_value_after 10 l.number (drop l.byte-index l.bytes) ≡ digits_value_after 10 l.start l.bytes;
  small : l.number < 2 ^ 63;
  digits : AllDigits 10 (drop l.byte-index l.bytes) → AllDigits 10 l.bytes;
}
