use Rattle.std.proofs.Common.{◌≡◌, length, length-set, ap, ◌∙◌, arith}
use Rattle.digit_sums.specs.Digits.{DigitTallies}
use Rattle.digit_sums.proofs.Cells.{AreFirst, first_blank, first_certain, first_more}
use Rattle.digit_sums.proofs.Kept.{whole_kept}
use Rattle.digit_sums.proofs.sums.DigitSums.begin.Goals as goal

pub loop-cell-preserved : goal.loop-cell-preserved
loop-cell-preserved c =
    let before = c.loop-cell.invariant in
    let items = c.loop-cell.self-inside.sums.items in
    let cell = c.loop-cell.cell in
    let room = ap (λ (d : DigitTallies). d.tallies.room) c.self.view_is in
    record {
      count = length-set items cell c.none.result ∙ before.count;
      done = first_more c.args.certain.now items cell c.none.result (omega (arith, before.count, room, c.requires.cells, c.loop-cell-test.true)) (record { certain_is = c.none.ensures.certain; sound = c.none.ensures.sound; none = c.none.ensures.none }) before.done;
    }

pub returns-clause-blank : goal.returns-clause-blank
returns-clause-blank c =
    let before = c.loop-cell.invariant in
    let items = c.loop-cell.self-inside.sums.items in
    let room : length items ≡ c.args.self.now.tallies.room = before.count ∙ ap (λ (d : DigitTallies). d.tallies.room) c.self.view_is in
    let first : AreFirst c.args.certain.now items c.args.cells = λ k cell below. before.done k cell (omega (arith, below, c.loop-cell-test.false)) in
    first_blank c.args.ends c.args.certain.now items c.args.cells (omega (arith, room, c.requires.cells)) first c.args.kind c.args.self.now.tallies.room c.requires.kind room

pub returns-clause-certain : goal.returns-clause-certain
returns-clause-certain c =
    let before = c.loop-cell.invariant in
    let items = c.loop-cell.self-inside.sums.items in
    let room : length items ≡ c.args.self.now.tallies.room = before.count ∙ ap (λ (d : DigitTallies). d.tallies.room) c.self.view_is in
    first_certain c.args.ends c.args.certain.now items c.args.cells (omega (arith, room, c.requires.cells)) (λ k cell below. before.done k cell (omega (arith, below, c.loop-cell-test.false))) c.requires.certain

pub returns-clause-of : goal.returns-clause-of
returns-clause-of c =
    let before = c.loop-cell.invariant in
    whole_kept c.args.kind c.args.ends c.outer_digits-self-inside.result c.args.cells c.loop-cell.self-inside.sums.items (λ k cell below at. (before.done k cell (omega (arith, below, c.loop-cell-test.false)) at).sound)
