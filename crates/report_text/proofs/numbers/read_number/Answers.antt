use Rattle.std.proofs.Common.{◌≡◌, sym, ap, ◌∙◌, unsigned_abs, subst, to_z-of_z, FitsSigned}
use Rattle.std.specs.Int.{w128}
use Rattle.std.proofs.lemmas.Option.{none-some, same_Some}
use Rattle.report_text.proofs.NumberTexts.{abs_small}
use Rattle.report_text.proofs.ReadNumbers.{plain_of_number, sign_of_number}
use Rattle.report_text.specs.Numbers.{CanBeRead, CanBeReadPlain}
use Rattle.report_text.specs.declared.numbers.Magnitude.{Magnitude}
use Rattle.report_text.specs.declared.numbers.Number.{Number}
use Rattle.report_text.proofs.numbers.read_number.Goals as goal

abbrev magnitude_of : Number → Magnitude
magnitude_of number = record { decimals = number.decimals; units = unsigned_abs number.units }

can : (number : Number) → CanBeRead number → CanBeReadPlain (magnitude_of number)
can number h = record { few = h.few; fits = abs_small number.units h.fits }

pub returns-in_err-magnitude-clause-read : goal.returns-in_err-magnitude-clause-read
returns-in_err-magnitude-clause-read c = λ number h e.
    (let part = plain_of_number number c.args.text.now h e ∙ sym c.unsigned_part.ensures in
    absurd (none-some (magnitude_of number) (c.in_err-magnitude.ensures.read (magnitude_of number) (can number h) part)))

pub returns-in_err-units-clause-read : goal.returns-in_err-units-clause-read
returns-in_err-units-clause-read c = λ number h e.
    (let part = plain_of_number number c.args.text.now h e ∙ sym c.unsigned_part.ensures in
    let same = same_Some c.in_ok-magnitude.magnitude (magnitude_of number) (c.in_ok-magnitude.ensures.read (magnitude_of number) (can number h) part) in
    let units = ap (λ (m : Magnitude). m.units) (sym same) in
    let sign = sign_of_number number c.args.text.now h e ∙ sym c.starts_with_minus.ensures in
    absurd (none-some number.units (c.in_err-units.ensures.read number.units h.fits units sign)))

pub returns-clause-read : goal.returns-clause-read
returns-clause-read c = λ number h e.
    (let part = plain_of_number number c.args.text.now h e ∙ sym c.unsigned_part.ensures in
    let same = same_Some c.in_ok-magnitude.magnitude (magnitude_of number) (c.in_ok-magnitude.ensures.read (magnitude_of number) (can number h) part) in
    let units = ap (λ (m : Magnitude). m.units) (sym same) in
    let sign = sign_of_number number c.args.text.now h e ∙ sym c.starts_with_minus.ensures in
    let is : c.in_ok-units.units ≡ number.units = same_Some c.in_ok-units.units number.units (c.in_ok-units.ensures.read number.units h.fits units sign) in
    let decimals = ap (λ (m : Magnitude). m.decimals) same in
    let fits : FitsSigned w128 c.in_ok-units.units = subst (FitsSigned w128) (sym is) h.fits in
    rw (decimals, to_z-of_z fits, is))
