-- A step of the session is one of its members, and so of each query alone.
use Rattle.std.proofs.Common.{◌≡◌, ◌+◌, ◌<◌, ◌++◌, ◌∷◌, [], length, take, drop, refl, sym, ap, ◌∙◌, subst, arith, slice_index}
use Rattle.std.proofs.lemmas.List.{take_at}
use Rattle.std.proofs.lemmas.Result.{err_from_is_err_and}
use Rattle.known_column.specs.declared.known.OverTop.{OverTop}
use Rattle.known_column.specs.KnownTables.{read_column}
use Rattle.plane_schedule.specs.Choices.{IsUnread}
use Rattle.round_engine.specs.Progresses.{Step}
use Rattle.round_engine.specs.Stages.{IsFirstOver}
use Rattle.multi_session.specs.Alone.{StandsFor}
use Rattle.multi_session.specs.Members.{HandedBelow, IsSession, session_of, stages_of}
use Rattle.multi_session.specs.Sessions.{Awaits, Session, session_outlook, session_stepped}
use Rattle.multi_session.proofs.Alone.{stands_more}
use Rattle.multi_session.proofs.Counting.{few_steps}
use Rattle.multi_session.proofs.Found.{can_take, first_over, found}
use Rattle.multi_session.proofs.Stepping.{of_awaits, place_inside, plane_left, session_after, session_kept}
use Rattle.multi_session.proofs.session.Session.step.Goals as goal

pub overflow_add-step : goal.overflow_add-step
overflow_add-step c =
    let s = c.self.inside in
    let is = c.self.invariant in
    omega (arith, few_steps s.near s.steps s.columns.places.items s.columns.known s.members.items is.each is.few_members is.counted)

pub take-requires-clause-unread : goal.take-requires-clause-unread
take-requires-clause-unread c =
    let s = c.self.inside in
    plane_left s.near s.steps c.args.column s.columns.places.items s.columns.known s.members.items c.self.invariant
    (subst (λ (t : Session). IsUnread (session_outlook t) c.args.column) (sym c.self.view_is) c.requires.plane)

pub returns-in_err-take-clause-over : goal.returns-in_err-take-clause-over
returns-in_err-take-clause-over c =
    let p = err_from_is_err_and c.from_residual.result c.from_residual.ensures.1 in
    let s = c.self.inside in
    let is = c.self.invariant in
    let places = s.columns.places.items in
    let table = s.columns.known in
    let column = c.args.column in
    let inside : column < length places = subst (λ (t : Session). column < length t.columns) (sym c.self.view_is) c.requires.plane.column in
    let rows = is.columns.known.knowledge.rows column (place_inside places table column is.columns inside) in
    rw p.1 (λ stage own awaits. subst (λ (e : OverTop). IsFirstOver stage own c.args.plane.now e.row) (sym p.2)
    (first_over table column stage own c.in_err-take.field-0.0.row c.args.plane.now
    (of_awaits s.near s.steps column places table s.members.items is inside stage own (subst (λ (t : Session). Awaits t column stage own) (sym c.self.view_is) awaits))
    rows c.in_err-take.ensures.over))

pub invariant_of-self-2 : goal.invariant_of-self-2
invariant_of-self-2 c =
    let s = c.self.inside in
    let places = s.columns.places.items in
    let table = s.columns.known in
    let column = c.args.column in
    let place = slice_index places column in
    let bits = c.args.plane.now in
    let members = s.members.items in
    let new = c.hand.new.members in
    let taken : c.take.new.self ≡ read_column table column bits = c.in_ok-take.ensures.taken in
    let handed : HandedBelow s.near (s.steps + 1) place places bits (read_column table column bits) members new (length members) =
    subst (λ t. HandedBelow s.near (s.steps + 1) place places bits t members new (length members)) taken
    (subst (λ old. HandedBelow s.near (s.steps + 1) place places bits c.take.new.self old new (length old)) c.deref_mut.ensures.value c.hand.ensures) in
    let back : take s.members.len (new ++ drop (length new) members) ≡ new =
    take_at new (drop (length new) members) s.members.len (handed.wide ∙ ap length (sym c.deref_mut.ensures.value) ∙ c.deref_mut.ensures.len) in
    let unread = subst (λ (t : Session). IsUnread (session_outlook t) column) (sym c.self.view_is) c.requires.plane in
    subst (λ ms. IsSession s.near places c.take.new.self ms (s.steps + 1)) (sym back)
    (subst (λ t. IsSession s.near places t new (s.steps + 1)) (sym taken)
    (session_kept s.near s.steps column places bits table members new c.self.invariant c.in_ok-take.ensures.legal handed c.taken_is_knowledge.ensures
    (found s.near place (stages_of table members) unread.unread)))

pub returns-clause-taken : goal.returns-clause-taken
returns-clause-taken c =
    let s = c.self.inside in
    let places = s.columns.places.items in
    let table = s.columns.known in
    let column = c.args.column in
    let place = slice_index places column in
    let bits = c.args.plane.now in
    let members = s.members.items in
    let new = c.hand.new.members in
    let taken : c.take.new.self ≡ read_column table column bits = c.in_ok-take.ensures.taken in
    let handed : HandedBelow s.near (s.steps + 1) place places bits (read_column table column bits) members new (length members) =
    subst (λ t. HandedBelow s.near (s.steps + 1) place places bits t members new (length members)) taken
    (subst (λ old. HandedBelow s.near (s.steps + 1) place places bits c.take.new.self old new (length old)) c.deref_mut.ensures.value c.hand.ensures) in
    let back : take s.members.len (new ++ drop (length new) members) ≡ new =
    take_at new (drop (length new) members) s.members.len (handed.wide ∙ ap length (sym c.deref_mut.ensures.value) ∙ c.deref_mut.ensures.len) in
    ap (λ ms. session_of s.near places c.take.new.self ms (s.steps + 1)) back
    ∙ ap (λ t. session_of s.near places t new (s.steps + 1)) taken
    ∙ session_after s.near s.steps column places bits table members new c.self.invariant c.in_ok-take.ensures.legal handed
    ∙ ap (λ (t : Session). session_stepped t column bits) c.self.view_is

pub returns-clause-stands : goal.returns-clause-stands
returns-clause-stands c = λ queries head steps stands.
    let s = c.args.self.now in
    let step : Step = record { column = slice_index s.columns c.args.column; bits = c.args.plane.now } in
    subst (StandsFor queries head (steps ++ step ∷ [])) (sym (returns-clause-taken c))
    (stands_more queries head steps step s (session_stepped s c.args.column c.args.plane.now) stands refl refl refl)

pub returns-clause-legal : goal.returns-clause-legal
returns-clause-legal c = λ stage own awaits.
    let s = c.self.inside in
    let column = c.args.column in
    let inside : column < length s.columns.places.items = subst (λ (t : Session). column < length t.columns) (sym c.self.view_is) c.requires.plane.column in
    can_take s.columns.known column stage own c.args.plane.now
    (of_awaits s.near s.steps column s.columns.places.items s.columns.known s.members.items c.self.invariant inside stage own
    (subst (λ (t : Session). Awaits t column stage own) (sym c.self.view_is) awaits)) c.in_ok-take.ensures.legal
