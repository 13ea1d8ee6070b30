use Rattle.std.proofs.Common.{◌≡◌, ◌/◌, ◌^◌, ◌∙◌, arith}
use Rattle.std.proofs.lemmas.Option.{same_Some}
use Rattle.report_text.proofs.ReadNumbers.{follows, has_digits}
use Rattle.report_text.proofs.numbers.read_parted.Goals as goal

pub returns-then-fraction-gt-MOST_DECIMALS-clause-read : goal.returns-then-fraction-gt-MOST_DECIMALS-clause-read
returns-then-fraction-gt-MOST_DECIMALS-clause-read c = λ m h d.
    (let f = follows m c.args.whole.now c.args.fraction.now h d in
    absurd (omega (arith, f.many, h.few, c.if-fraction-gt-MOST_DECIMALS.true)))

pub returns-in_err-units-clause-read : goal.returns-in_err-units-clause-read
returns-in_err-units-clause-read c = λ m h d.
    (let f = follows m c.args.whole.now c.args.fraction.now h d in
    let front = same_Some c.in_ok-digits.digits (m.units / 10 ^ m.decimals) (c.in_ok-digits.ensures.read (m.units / 10 ^ m.decimals) f.whole d.before) in
    absurd (c.in_err-units.ensures (f.digits, rw front (omega (arith, f.value, h.fits)))))

pub returns-clause-read : goal.returns-clause-read
returns-clause-read c = λ m h d.
    (let f = follows m c.args.whole.now c.args.fraction.now h d in
    let front = same_Some c.in_ok-digits.digits (m.units / 10 ^ m.decimals) (c.in_ok-digits.ensures.read (m.units / 10 ^ m.decimals) f.whole d.before) in
    let units : c.in_ok-units.units ≡ m.units = c.in_ok-units.ensures.1 ∙ rw front f.value in
    rw (f.many, units))

pub returns-clause-written : goal.returns-clause-written
returns-clause-written c = (
  record { few = omega (arith, c.if-fraction-gt-MOST_DECIMALS.false); fits = omega arith },
  has_digits c.in_ok-digits.digits c.in_ok-units.units c.args.whole.now c.args.fraction.now c.requires (omega (arith, c.if-fraction-gt-MOST_DECIMALS.false))
      c.in_ok-digits.ensures.written c.in_ok-units.ensures.0.0 c.in_ok-units.ensures.1,
)
