-- The query stands where it would alone.
use Rattle.std.proofs.Common.{◌<◌, Some, length, sym, ap, ◌∙◌, subst, slice_get}
use Rattle.std.proofs.lemmas.List.{length-map}
use Rattle.multi_session.specs.Members.{stage_in}
use Rattle.multi_session.specs.Sessions.{Session}
use Rattle.multi_session.proofs.Alone.{stage_alone}
use Rattle.multi_session.proofs.Stepping.{is_abreast_now, stands}
use Rattle.multi_session.proofs.session.Session.view.Goals as goal

pub view-requires : goal.view-requires
view-requires c =
    let s = c.self.inside in
    let table = s.columns.known in
    let members = s.members.items in
    let inside : c.args.query < length members =
    subst (λ n. c.args.query < n) (ap (λ (s : Session). length s.stages) (sym c.self.view_is) ∙ length-map members (stage_in table)) c.requires.query in
    is_abreast_now s.near s.steps s.columns.places.items table members c.self.invariant c.args.query c.index.result.now inside c.index.ensures c.args.self.now c.self.view_is c.requires.current

pub returns-clause-stage : goal.returns-clause-stage
returns-clause-stage c =
    let s = c.self.inside in
    let table = s.columns.known in
    let members = s.members.items in
    let inside : c.args.query < length members =
    subst (λ n. c.args.query < n) (ap (λ (s : Session). length s.stages) (sym c.self.view_is) ∙ length-map members (stage_in table)) c.requires.query in
    ap (λ (t : Session). slice_get t.stages c.args.query) (sym c.self.view_is)
    ∙ stands s.near s.steps s.columns.places.items table members c.self.invariant c.args.query c.index.result.now inside c.index.ensures
    ∙ ap Some (sym c.view.ensures)

pub returns-clause-alone : goal.returns-clause-alone
returns-clause-alone c = λ queries head steps stands_for.
    stage_alone queries head steps c.args.self.now stands_for c.args.query c.view.result (returns-clause-stage c)
