use Rattle.std.proofs.Common.{◌≡◌, ◌<◌, length, sym, ap, ◌∙◌, subst, slice_get}
use Rattle.std.proofs.lemmas.List.{length-map}
use Rattle.std.specs.Prelude.{IfSome}
use Rattle.round_engine.specs.Progresses.{planes_read}
use Rattle.round_engine.specs.Stages.{Stage}
use Rattle.multi_session.specs.Members.{stage_in}
use Rattle.multi_session.specs.Sessions.{Session}
use Rattle.multi_session.proofs.Counting.{counts_read}
use Rattle.multi_session.proofs.Stepping.{member_is, stands}
use Rattle.multi_session.proofs.session.Session.reads.Goals as goal

pub returns : goal.returns
returns c =
    let s = c.self.inside in
    let places = s.columns.places.items in
    let table = s.columns.known in
    let members = s.members.items in
    let m = c.index.result.now in
    let inside : c.args.query < length members =
    subst (λ n. c.args.query < n) (ap (λ (s : Session). length s.stages) (sym c.self.view_is) ∙ length-map members (stage_in table)) c.requires in
    let is = member_is s.near s.steps places table members c.self.invariant c.args.query m inside c.index.ensures in
    let there = stands s.near s.steps places table members c.self.invariant c.args.query m inside c.index.ensures in
    let reads = c.reads.ensures ∙ sym (counts_read table m.numbers.items m.counts.items is.counts) in
    subst (λ (t : Session). IfSome (slice_get t.stages c.args.query) (λ (stage : Stage). c.reads.result ≡ planes_read stage.known)) c.self.view_is
    (subst (λ o. IfSome o (λ (stage : Stage). c.reads.result ≡ planes_read stage.known)) (sym there) reads)
