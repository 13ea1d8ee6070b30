use Rattle.std.proofs.Common.{◌≡◌, length, sym, subst, ◌∙◌, arith}
use Rattle.std.proofs.Math.Seq.{take-append_seam}
use Rattle.round_engine.specs.Engines.{stage_of}
use Rattle.round_engine.specs.Totals.{AreFilled, HaveRoom}
use Rattle.round_engine.proofs.totals.Totals.fill.Goals as goal

pub tell_each-requires-clause-filled : goal.tell_each-requires-clause-filled
tell_each-requires-clause-filled c =
    let filled = c.add_each.ensures.filled in
    let xs = c.add_each.new.runnings in
    let count : length xs ≡ c.args.self.now.runnings.len = omega (arith, filled.count, c.requires.room.count, c.args.self.now.runnings.ok.0) in
    subst (AreFilled (stage_of c.args.query.now c.args.columns.now) c.args.marks.now) (sym (c.deref.ensures.value ∙ rw (sym count) (take-append_seam xs _))) filled

pub returns-clause-room : goal.returns-clause-room
returns-clause-room c =
    let filled = c.add_each.ensures.filled in
    let xs = c.add_each.new.runnings in
    let count : length xs ≡ c.args.self.now.runnings.len = omega (arith, filled.count, c.requires.room.count, c.args.self.now.runnings.ok.0) in
    subst (λ rs. HaveRoom c.args.query.now.items rs) (sym (rw (sym count) (take-append_seam xs _))) c.add_each.ensures.room
