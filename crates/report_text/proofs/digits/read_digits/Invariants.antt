use Rattle.std.proofs.Common.{◌≡◌, ◌<◌, ◌^◌, drop}
use Rattle.std.specs.Str.Parse.{AllDigits, digits_value_after}
use Rattle.report_text.proofs.digits.read_digits.Given as goal

abbrev pub invariant-loop-byte : goal.invariant-loop-byte
invariant-loop-byte l = record {
  value : digits_value_after 10 l.number (drop l.byte-index l.bytes) ≡ digits_value_after 10 l.start l.bytes;
  fits : l.number < 2 ^ 128;
  from_rest : AllDigits 10 (drop l.byte-index l.bytes) → AllDigits 10 l.bytes;
  to_rest : AllDigits 10 l.bytes → AllDigits 10 (drop l.byte-index l.bytes);
}
