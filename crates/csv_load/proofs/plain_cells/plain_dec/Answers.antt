use Rattle.std.proofs.Common.{◌≡◌, ◌∙◌, ◌+◌, ◌-◌, take, drop, length, arith, ap, w64, to_z-of_z, FitsSigned}
use Rattle.std.proofs.lemmas.List.{length-drop, take_all}
use Rattle.daq_table.specs.CellTexts.{with_sign}
use Rattle.csv_load.proofs.PlainFacts.{plain_decimal}
use Rattle.csv_load.proofs.plain_cells.plain_dec.Goals as goal

pub returns-clause-cell : goal.returns-clause-cell
returns-clause-cell c =
    let xs = c.behind_minus-digits.result.now in
    let i = length xs - c.args.scale - 1 in
    let rest : take (length xs - (i + 1)) (drop (i + 1) xs) ≡ drop (i + 1) xs = take_all _ (drop (i + 1) xs) (omega (arith, length-drop (i + 1) xs)) in
    let units = rw (rest, c.in_ok-whole.ensures.value) at c.in_ok-units.ensures.value in
    (plain_decimal c.args.scale i c.in_ok-units.units c.args.bytes.now xs c.behind_minus-digits.ensures (omega (arith, c.if-digits-places.false)) (omega (arith, c.if-digits-places.false))
    c.if-digits-point-ne46.false c.in_ok-whole.ensures.digits (rw rest at c.in_ok-units.ensures.digits) units c.in_ok-units.ensures.small).0

pub returns-clause-value : goal.returns-clause-value
returns-clause-value c =
    let xs = c.behind_minus-digits.result.now in
    let i = length xs - c.args.scale - 1 in
    let rest : take (length xs - (i + 1)) (drop (i + 1) xs) ≡ drop (i + 1) xs = take_all _ (drop (i + 1) xs) (omega (arith, length-drop (i + 1) xs)) in
    let units = rw (rest, c.in_ok-whole.ensures.value) at c.in_ok-units.ensures.value in
    let value = (plain_decimal c.args.scale i c.in_ok-units.units c.args.bytes.now xs c.behind_minus-digits.ensures (omega (arith, c.if-digits-places.false)) (omega (arith, c.if-digits-places.false))
    c.if-digits-point-ne46.false c.in_ok-whole.ensures.digits (rw rest at c.in_ok-units.ensures.digits) units c.in_ok-units.ensures.small).1 in
    let fits : FitsSigned w64 c.signed.result = record { sfits = c.signed.type_inv } in
    to_z-of_z fits ∙ c.signed.ensures ∙ ap (λ minus. with_sign minus c.in_ok-units.units) c.has_minus.ensures ∙ value
