use Rattle.std.proofs.Common.{List, ℕ, subst, sym}
use Rattle.plane_file.proofs.OpeningSteps.{front_opened, front_refused, then_err, then_if_ok}
use Rattle.plane_file.specs.Checks.{first_fault, front_checks}
use Rattle.plane_file.specs.Fronts.{HandsFront, IsFrontOf, MayFail}
use Rattle.plane_file.specs.Opening.{Opens, Refuses}
use Rattle.plane_file.proofs.opening.open.Goals as goal

pub returns-clause-refused : goal.returns-clause-refused
returns-clause-refused g c =
    let old = g.P.Store.state c.args.store.now in
    let new = g.P.Store.state c.read_front.new.store in
    let size = c.in_ok-front.size in
    let hands : HandsFront old new c.deref.result.now size = subst (λ (xs : List ℕ). HandsFront old new xs size) (sym c.deref.ensures.value) c.in_ok-front.ensures.read in
    then_err c.read_head.result (MayFail (first_fault (front_checks c.deref.result.now size))) (Refuses old new) (λ why h. front_refused old new c.deref.result.now size why hands h) c.read_head.ensures.err

pub returns-clause-opened : goal.returns-clause-opened
returns-clause-opened g c =
    let old = g.P.Store.state c.args.store.now in
    let new = g.P.Store.state c.read_front.new.store in
    let front = c.deref.result.now in
    let size = c.in_ok-front.size in
    let hands : HandsFront old new front size = subst (λ (xs : List ℕ). HandsFront old new xs size) (sym c.deref.ensures.value) c.in_ok-front.ensures.read in
    then_if_ok c.read_head.result (IsFrontOf front size) (Opens old new) (λ file f. front_opened old new front size file hands f) c.read_head.ensures.ok
