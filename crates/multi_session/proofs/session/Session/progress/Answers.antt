-- What is told of the members is told of the session.
use Rattle.std.proofs.Common.{rules, ◌≡◌, ◌<◌, ◌^◌, Some, length, refl, sym, ap, ◌∙◌, subst, slice_get}
use Rattle.std.specs.List.{All}
use Rattle.plane_schedule.specs.declared.progress.Progress.{Progress}
use Rattle.multi_session.specs.Members.{IsMember, stages_of}
use Rattle.multi_session.specs.Sessions.{Awaits, IsSessionProgress, Session, TellsColumns, possible_in, unknown_in}
use Rattle.multi_session.proofs.Progressing.{all_alike, all_known, progress_is}
use Rattle.multi_session.proofs.session.Session.progress.Goals as goal

pub told_of-requires-clause-kept : goal.told_of-requires-clause-kept
told_of-requires-clause-kept c =
    let s = c.self.inside in
    let each = subst (All (IsMember s.near s.steps s.columns.places.items s.columns.known)) (sym c.deref.ensures.value) c.self.invariant.each in
    (c.self.invariant.columns, (s.steps, each))

pub rows_in-unknown-requires-clause-kept : goal.rows_in-unknown-requires-clause-kept
rows_in-unknown-requires-clause-kept c =
    let s = c.self.inside in
    let each = subst (All (IsMember s.near s.steps s.columns.places.items s.columns.known)) (sym c.deref-2.ensures.value) c.self.invariant.each in
    (c.self.invariant.columns, (s.steps, each))

pub returns-clause-progress : goal.returns-clause-progress
returns-clause-progress c =
    let s = c.self.inside in
    let places = s.columns.places.items in
    let table = s.columns.known in
    let members = s.members.items in
    let told : TellsColumns s.near places (stages_of table members) (length places) c.told_of.result.unread c.told_of.result.read c.told_of.result.role c.told_of.result.gives_values =
    subst (λ ms. TellsColumns s.near places (stages_of table ms) (length places) c.told_of.result.unread c.told_of.result.read c.told_of.result.role c.told_of.result.gives_values) c.deref.ensures.value c.told_of.ensures in
    let unknown = c.rows_in-unknown.ensures.unknown ∙ ap (λ ms. unknown_in s.near (stages_of table ms)) c.deref-2.ensures.value in
    let possible = c.rows_in-unknown.ensures.possible ∙ ap (λ ms. possible_in s.near (stages_of table ms)) c.deref-2.ensures.value in
    let count : c.len.result ≡ length places = search rules in
    let small_u : c.rows_in-unknown.result.unknown < 2 ^ 64 = search rules in
    let small_p : c.rows_in-unknown.result.possible < 2 ^ 64 = search rules in
    let p : Progress = record {
      columns = c.len.result;
      unread = c.told_of.result.unread;
      read = c.told_of.result.read;
      role = c.told_of.result.role;
      gives_values = c.told_of.result.gives_values;
      unknown = c.rows_in-unknown.result.unknown;
      possible = c.rows_in-unknown.result.possible;
      done = s.steps;
    } in
    subst (λ (t : Session). IsSessionProgress t p) c.self.view_is
    (progress_is s.near s.steps places table members c.self.invariant p told count unknown small_u possible small_p refl)

pub returns-clause-alike : goal.returns-clause-alike
returns-clause-alike c = λ column stage own inside awaits.
    let s = c.self.inside in
    let places = s.columns.places.items in
    let table = s.columns.known in
    let members = s.members.items in
    let told : TellsColumns s.near places (stages_of table members) (length places) c.told_of.result.unread c.told_of.result.read c.told_of.result.role c.told_of.result.gives_values =
    subst (λ ms. TellsColumns s.near places (stages_of table ms) (length places) c.told_of.result.unread c.told_of.result.read c.told_of.result.role c.told_of.result.gives_values) c.deref.ensures.value c.told_of.ensures in
    all_alike s.near s.steps places table members c.self.invariant told column stage own (subst (λ (t : Session). column < length t.columns) (sym c.self.view_is) inside)
    (subst (λ (t : Session). Awaits t column stage own) (sym c.self.view_is) awaits)

pub returns-clause-known : goal.returns-clause-known
returns-clause-known c = λ query stage there.
    let s = c.self.inside in
    all_known s.near s.steps s.columns.places.items s.columns.known s.members.items c.self.invariant query stage
    (subst (λ (t : Session). slice_get t.stages query ≡ Some stage) (sym c.self.view_is) there)
