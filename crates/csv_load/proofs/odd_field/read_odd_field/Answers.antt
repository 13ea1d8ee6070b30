use Rattle.csv_load.proofs.OddFacts.{begun, joined, passed}
use Rattle.csv_load.proofs.odd_field.read_odd_field.Goals.{in-Passes, in-Joins+in_ok-push-in-Joins}
use Rattle.csv_load.proofs.odd_field.read_odd_field.Goals as goal

pub loop-at-init : goal.loop-at-init
loop-at-init c = rw c.clear.ensures.items (begun c.args.text.now c.args.start)

pub loop-at-preserved : goal.loop-at-preserved
loop-at-preserved c =
    let text = c.args.text.now in
    let field = c.loop-at.field.items in
    elim c.match-effect_of.branch [
      | in-Passes w ↦ rw (w.field-is, w.within-is) (passed text c.args.start c.loop-at.at c.loop-at.within field c.loop-at-test.true c.loop-at.invariant _ w.in-Passes.ensures)
      | in-Joins+in_ok-push-in-Joins w ↦ rw (w.field-is, w.within-is, w.in_ok-push-in-Joins.ensures.items) (joined text c.args.start c.loop-at.at c.loop-at.within field c.loop-at-test.true c.loop-at.invariant _ w.in-Joins.ensures)
    ]
