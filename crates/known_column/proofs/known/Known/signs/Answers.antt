use Rattle.std.proofs.Common.{length, take, subst, IfSome}
use Rattle.known_column.specs.Marks.{prefixes_after, AreSigns, TellSigns}
use Rattle.known_column.proofs.Nulls.{signs_tell}
use Rattle.known_column.proofs.known.Known.signs.Goals as goal

pub returns : goal.returns
returns c =
    let k = c.self.inside in
    let kept = c.self.invariant in
    let ps = prefixes_after (length k.marks.at_top) (take k.read k.planes.items) in
    let are : AreSigns k.ends k.read ps c.in-Some.signs = subst (λ o. IfSome o (AreSigns k.ends k.read ps)) c.in-Some.is kept.marked.signs in
    subst (λ v. TellSigns v c.in-Some.signs) c.self.view_is (signs_tell k.ends k.read ps c.in-Some.signs kept.some_read kept.legal are)
