use Rattle.std.proofs.Common.{◌≡◌, Some, set, slice_get, take, ap, sym, subst, ◌∙◌, arith}
use Rattle.std.proofs.Math.Seq.{map-set_same}
use Rattle.std.proofs.lemmas.Option.{slice_get-get_or}
use Rattle.digit_sums.specs.Digits.{AreDigits, AreOf, DigitTallies, GrowBy, HaveRoom, RowDigits, pair_by}
use Rattle.digit_sums.proofs.Kept.{grown, room_left, sums_kept}
use Rattle.digit_sums.proofs.sums.DigitSums.add.Goals as goal

pub add-requires-clause-few : goal.add-requires-clause-few
add-requires-clause-few c =
    let inside = c.self.inside in
    let items = inside.sums.items in
    let old = c.index_mut.result.now in
    let view = c.self.view_is in
    let many = ap (λ (d : DigitTallies). d.count) view in
    let room = c.self.invariant.0 in
    let at : slice_get items c.args.cell ≡ Some old = slice_get-get_or items c.args.cell old (omega (arith, c.requires.cell, many, room)) ∙ ap Some (sym c.index_mut.ensures.value) in
    room_left inside.kind inside.ends inside.outer inside.cells items c.args.cell old (omega (arith, c.requires.cell, many)) room at (subst (λ s. HaveRoom s c.args.cell) (sym view) c.requires.room)

pub returns-clause-certain : goal.returns-clause-certain
returns-clause-certain c =
    let items = c.self.inside.sums.items in
    let old = c.index_mut.result.now in
    ap (take c.self.inside.cells) (map-set_same (λ (d : RowDigits). d.certain) items c.args.cell c.add.new.self old (c.add.ensures.certain ∙ ap (λ (d : RowDigits). d.certain) c.index_mut.ensures.value))
    ∙ ap (λ (d : DigitTallies). d.certain) c.self.view_is

pub returns-clause-added : goal.returns-clause-added
returns-clause-added c = λ sure there tallies are.
    let inside = c.self.inside in
    let items = inside.sums.items in
    let old = c.index_mut.result.now in
    let view = c.self.view_is in
    let ends = ap (λ (d : DigitTallies). d.ends) view in
    let many = ap (λ (d : DigitTallies). d.count) view in
    let room = c.self.invariant.0 in
    let fit = subst (λ e. AreDigits e c.args.digits) (sym ends) c.requires.digits in
    let at : slice_get items c.args.cell ≡ Some old = slice_get-get_or items c.args.cell old (omega (arith, c.requires.cell, many, room)) ∙ ap Some (sym c.index_mut.ensures.value) in
    subst (λ e. GrowBy (sums_kept inside.kind inside.ends inside.outer inside.cells (set items c.args.cell c.add.new.self)) tallies c.args.cell (pair_by e sure c.args.digits)) ends
    (grown inside.kind inside.ends inside.outer inside.cells items c.args.cell old (omega (arith, c.requires.cell, many)) room at c.add.new.self sure c.args.digits inside.top c.self.invariant.1 fit (omega arith) c.self.invariant.2
    (ap (λ (d : DigitTallies). slice_get d.certain c.args.cell) view ∙ there) c.add.ensures.added tallies (subst (λ s. AreOf s tallies) (sym view) are))
