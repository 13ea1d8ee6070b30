use Rattle.std.proofs.Common.{◌≡◌, ◌+◌, [], drop, get_or, arith}
use Rattle.std.proofs.lemmas.List.{at_drop_more, drop_all}
use Rattle.std.specs.Str.Parse.{digits_value_after}
use Rattle.report_text.proofs.DigitTexts.{too_long}
use Rattle.report_text.proofs.digits.read_digits.Goals as goal

pub returns : goal.returns
returns c =
    let bytes = c.args.bytes.now in
    let nil : drop c.loop-byte.byte-index bytes ≡ [] = drop_all _ bytes (omega arith) in
    let value = rw nil at c.loop-byte.invariant.value in
    let digits = rw nil at c.loop-byte.invariant.from_rest in
    ((digits tt, omega (arith, value)), value)

pub returns-in-None : goal.returns-in-None
returns-in-None c =
    let bytes = c.args.bytes.now in
    let at = c.loop-byte.byte-index in
    let next = at_drop_more (digits_value_after 10 c.loop-byte.number) bytes at 0 (omega arith) in
    λ p. too_long c.loop-byte.number (get_or bytes at 0) (drop (at + 1) bytes) c.if-not-is_ascii_digit.ensures.cases c.in-None.ensures (omega (arith, next, c.loop-byte.invariant.value, p.1))
