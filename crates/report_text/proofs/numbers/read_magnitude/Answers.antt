use Rattle.std.proofs.Common.{◌≡◌, ◌<◌, ℕ, List, Some, length, sym, ap, subst, ◌∙◌}
use Rattle.std.proofs.lemmas.Option.{IfSome_then, none-some, same_Some}
use Rattle.report_text.proofs.ReadNumbers.{back_of, front_of, is_parted, is_whole, no_length, parted_written, some_length, whole_text}
use Rattle.report_text.specs.Numbers.{HasDigits}
use Rattle.report_text.proofs.numbers.read_magnitude.Goals as goal

pub returns-in_err-units-clause-read : goal.returns-in_err-units-clause-read
returns-in_err-units-clause-read c = λ m h e.
    (let none : length (back_of c.args.text.now) ≡ 0 = subst (λ (t : List ℕ). length t ≡ 0) c.around_first.ensures.after (no_length _ c.if-is_empty.ensures) in
    absurd (none-some m.units (c.in_err-units.ensures.read m.units h.fits (whole_text m c.args.text.now h e none))))

pub returns-in_ok-units-clause-read : goal.returns-in_ok-units-clause-read
returns-in_ok-units-clause-read c = λ m h e.
    (let none : length (back_of c.args.text.now) ≡ 0 = subst (λ (t : List ℕ). length t ≡ 0) c.around_first.ensures.after (no_length _ c.if-is_empty.ensures) in
    let units : c.in_ok-units.units ≡ m.units = same_Some c.in_ok-units.units m.units (c.in_ok-units.ensures.read m.units h.fits (whole_text m c.args.text.now h e none)) in
    let decimals = is_whole m c.args.text.now h e none in
    ap (λ (k : ℕ). Some (record { decimals = 0; units = k })) units ∙ ap (λ (k : ℕ). Some (record { decimals = k; units = m.units })) (sym decimals))

pub returns-else-is_empty-clause-read : goal.returns-else-is_empty-clause-read
returns-else-is_empty-clause-read c = λ m h e.
    (let some : 0 < length (back_of c.args.text.now) = subst (λ (t : List ℕ). 0 < length t) c.around_first.ensures.after (some_length _ c.if-is_empty.ensures) in
    c.read_parted.ensures.read m h
    (subst (λ (t : List ℕ). HasDigits m t c.around_first.result.1.now) (sym c.around_first.ensures.before)
    (subst (λ (t : List ℕ). HasDigits m (front_of c.args.text.now) t) (sym c.around_first.ensures.after) (is_parted m c.args.text.now h e some))))

pub returns-else-is_empty-clause-written : goal.returns-else-is_empty-clause-written
returns-else-is_empty-clause-written c =
    let some : 0 < length (back_of c.args.text.now) = subst (λ (t : List ℕ). 0 < length t) c.around_first.ensures.after (some_length _ c.if-is_empty.ensures) in
    IfSome_then c.read_parted.result c.read_parted.ensures.written
    (λ m p. (
      p.0,
      parted_written m c.args.text.now some
          (subst (λ (t : List ℕ). HasDigits m t (back_of c.args.text.now)) c.around_first.ensures.before
          (subst (λ (t : List ℕ). HasDigits m c.around_first.result.0.now t) c.around_first.ensures.after p.1)),
    ))
