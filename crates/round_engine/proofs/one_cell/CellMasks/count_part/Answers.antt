use Rattle.std.proofs.Common.{◌≡◌, ◌&&◌, ℕ, false, count_by, ap, sym, ◌∙◌, arith}
use Rattle.std.specs.Simd.Lanes.{zip2}
use Rattle.std.proofs.lemmas.Bool.{not-true}
use Rattle.std.proofs.lemmas.Int.{ints}
use Rattle.query_model.specs.declared.bounds.Nullity.TheVariants.{Never}
use Rattle.query_model.specs.declared.query.ItemKind.TheVariants.{Count}
use Rattle.query_model.specs.Groups.{pairs_in_cell}
use Rattle.query_model.specs.Knowledge.{ranges_of}
use Rattle.query_model.specs.Truths.{may_be_null, null_of}
use Rattle.query_model.specs.Validity.{declared_ranges}
use Rattle.aggregates.specs.declared.tally.Tally.{Tally}
use Rattle.aggregates.specs.Tallies.{tally_of}
use Rattle.aggregates.proofs.Appending.{same_tally}
use Rattle.round_engine.proofs.Declared.{never_null}
use Rattle.round_engine.proofs.FewCells.{all_part, sure_part}
use Rattle.round_engine.proofs.Masked.{count_kind}
use Rattle.round_engine.proofs.one_cell.CellMasks.count_part.Goals as goal

pub returns : goal.returns
returns c =
    let query = c.args.query.now in
    let item = c.args.item.now in
    let columns = c.args.columns.now in
    let truths = c.args.filter.now.truths in
    let within = c.args.within.now in
    let counted = count_kind item.kind _ c.requires.counted in
    let null : may_be_null (null_of item.arg (declared_ranges columns.frame)) ≡ false = not-true _ counted.1 in
    let never : (r : ℕ) → null_of item.arg (ranges_of columns.frame columns.known r) ≡ Never = λ r. never_null item.arg columns.frame columns.known r null in
    let none = c.none.ensures Count in
    sym (same_tally _ _ _ _ _ _ _ _ (tally_of Count (pairs_in_cell query item c.args.cell columns.frame columns.known))
    (c.count_sure_within.ensures ∙ sure_part query item columns c.args.cell c.args.certain within c.requires.part never truths c.requires.judged)
    (c.count_and.ensures ∙ ap (λ m. count_by (λ b. b) (zip2 (λ a b. a && b) within m)) c.may.ensures ∙ all_part query item columns c.args.cell c.args.certain within c.requires.part never truths c.requires.judged)
    (ap (λ (t : Tally). t.least_low) none)
    (ap (λ (t : Tally). t.greatest_high) none)
    (ap (λ (t : Tally). t.least_certain_high) none)
    (ap (λ (t : Tally). t.greatest_certain_low) none)
    (omega (arith, ints) ∙ ap (λ (t : Tally). t.low_sum) none)
    (omega (arith, ints) ∙ ap (λ (t : Tally). t.high_sum) none))
    ∙ ap (λ j. tally_of j (pairs_in_cell query item c.args.cell columns.frame columns.known)) (sym counted.0)
