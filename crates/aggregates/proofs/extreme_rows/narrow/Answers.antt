use Rattle.std.proofs.Common.{cond, subst}
use Rattle.aggregates.specs.ExtremeRows.{IsNarrowed}
use Rattle.aggregates.proofs.BlockWords.{AreEight, narrowed, ones_of, zeros_of}
use Rattle.aggregates.proofs.extreme_rows.narrow.Goals as goal

pub returns-then-digit : goal.returns-then-digit
returns-then-digit c =
    let old = c.args.candidates.now in
    let digits = c.args.digits.now in
    let olds : AreEight old = record { eight = c.told-candidates; fit = c.fits-candidates } in
    let news : AreEight digits = record { eight = c.told-digits; fit = c.fits-digits } in
    subst (λ b. IsNarrowed c.args.extreme old digits (cond b (ones_of old digits) (zeros_of old digits)) c.extreme_digit-digit.result) c.if-digit.true
    (narrowed c.args.extreme old digits olds news c.requires c.extreme_digit-digit.result c.extreme_digit-digit.ensures)

pub returns-else-digit : goal.returns-else-digit
returns-else-digit c =
    let old = c.args.candidates.now in
    let digits = c.args.digits.now in
    let olds : AreEight old = record { eight = c.told-candidates; fit = c.fits-candidates } in
    let news : AreEight digits = record { eight = c.told-digits; fit = c.fits-digits } in
    subst (λ b. IsNarrowed c.args.extreme old digits (cond b (ones_of old digits) (zeros_of old digits)) c.extreme_digit-digit.result) c.if-digit.false
    (narrowed c.args.extreme old digits olds news c.requires c.extreme_digit-digit.result c.extreme_digit-digit.ensures)
