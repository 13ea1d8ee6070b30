-- What a policy sees of a session, and where a plane is unread.
use Rattle.plane_schedule.specs.declared.policy.Nearness.{Nearness}
use Rattle.std.proofs.Common.{◌≡◌, ℕ, ◌<◌, ◌==◌, Bool, true, false, if◌then◌else◌, Option, Some, None, option_map, List, length, get_or, map, refl, sym, ap, ◌∙◌, subst, arith, IsFalse, IsNone, IsTrue, slice_get, slice_index}
use Rattle.std.proofs.lemmas.Option.{slice_get-map}
use Rattle.std.specs.List.{position}
use Rattle.multi_session.proofs.Awaiting.{no_own, own_there}
use Rattle.multi_session.proofs.Keeping.{stands_once}
use Rattle.multi_session.proofs.Named.{columns_stand}
use Rattle.multi_session.specs.Sessions.{Awaits, IsSessionProgress, Session, awaited, columns_named, own_column, session_outlook, unread_in, unread_of}
use Rattle.plane_schedule.proofs.Same.{AreSame}
use Rattle.plane_schedule.specs.Choices.{HasChoice, HasUnread, outlook_of}
use Rattle.plane_schedule.specs.Laws.{PoliciesChoose}
use Rattle.plane_schedule.specs.Plans.{first_ending, no_extras}
use Rattle.plane_schedule.specs.declared.policy.Listing.TheVariants.{Certain}
use Rattle.plane_schedule.specs.declared.policy.Plan.{Plan}
use Rattle.plane_schedule.specs.declared.policy.Policy.{Policy}
use Rattle.plane_schedule.specs.declared.policies.FixedPolicy.TheVariants.{Widest}
use Rattle.plane_schedule.specs.declared.policy.Policy.TheVariants.{By, Listed}
use Rattle.plane_schedule.specs.declared.progress.Progress.{Progress}
use Rattle.query_model.specs.Knowledge.{IsKnowledge}
use Rattle.query_model.specs.Validity.{no_repeats}
use Rattle.round_engine.specs.Narrowness.{is_narrow}
use Rattle.round_engine.specs.Stages.{Stage}
use Rattle.table_rounds.specs.Steps.{IsUnlisted}
use Rattle.table_rounds.specs.Courses.{Tells}
use Rattle.table_rounds.specs.Headline.{RoundsHavePlanes}
use Rattle.table_rounds.proofs.Courses.{tells_of}

-- ---- a progress tells a policy what the session does

pub same_outlook : (s : Session) (p : Progress) → IsSessionProgress s p → AreSame (outlook_of p) (session_outlook s)
same_outlook s p is = record {
  columns = (let all = is.columns in let few = is.sound.columns in omega (arith, all, few));
  unread = λ c h. is.unread c (let all = is.columns in let few = is.sound.columns in omega (arith, h, all, few));
  taken = λ c h. is.taken c (let all = is.columns in let few = is.sound.columns in omega (arith, h, all, few));
  role = λ c h. is.role c (let all = is.columns in let few = is.sound.columns in omega (arith, h, all, few));
  gives = λ c h. is.gives c (let all = is.columns in let few = is.sound.columns in omega (arith, h, all, few));
  unknown = is.unknown;
  possible = is.possible;
  read = is.done;
}

pub tells : (s : Session) (p : Progress) → IsSessionProgress s p → Tells (session_outlook s) p
tells s p is = tells_of (session_outlook s) p is.sound (same_outlook s p is)

-- a policy that is no list chooses a column where a plane is unread
pub choice_of : PoliciesChoose → (policy : Policy) (s : Session) → IsUnlisted policy → HasUnread (session_outlook s) → HasChoice policy (session_outlook s)
choice_of choose (By fixed) s is unread = choose (session_outlook s) unread fixed
choice_of choose (Listed list) s is unread = absurd is

-- ---- a query that is not finished awaits a plane

own_is : (columns : List ℕ) (c : ℕ) → IsTrue (no_repeats columns) → c < length columns → position (λ column. column == get_or columns c 0) columns ≡ Some c
own_is columns c once h = by (position (λ column. column == get_or columns c 0) columns) refl
  where
    by : (o : Option ℕ) → position (λ column. column == get_or columns c 0) columns ≡ o → position (λ column. column == get_or columns c 0) columns ≡ Some c
    by None e = absurd (no_own columns (get_or columns c 0) e c h refl)
    by (Some d) e =
        let (inside, there) = own_there columns (get_or columns c 0) d e in
        e ∙ ap Some (stands_once columns once d c inside h there)

awaits_own : (near : Nearness) (c : ℕ) (stage : Stage) → IsFalse (is_narrow near stage) → IsTrue (no_repeats stage.query.columns) → c < length stage.query.columns →
    awaited near (get_or stage.query.columns c 0) stage ≡ Some c
awaits_own near c stage wide once h = ap (λ b. if b then None else own_column stage.query (get_or stage.query.columns c 0)) wide ∙ own_is stage.query.columns c once h

none_yet : (narrow : Bool) → IsFalse narrow → IsNone (first_ending narrow false false)
none_yet true wide = cc
none_yet false wide = refl

-- all that await a plane of a column have the same number of them unread
abbrev pub AreAlike : Session → Type 0
AreAlike s = (column : ℕ) (stage : Stage) (own : ℕ) → column < length s.columns → Awaits s column stage own →
    unread_in s.near (slice_index s.columns column) s.stages ≡ unread_of stage own

pub awaits_some : RoundsHavePlanes → (s : Session) (k : ℕ) (stage : Stage) → AreAlike s → s.columns ≡ columns_named (map (λ stage. stage.query) s.stages) →
    slice_get s.stages k ≡ Some stage → IsFalse (is_narrow s.near stage) → IsKnowledge stage.frame stage.known → IsTrue (no_repeats stage.query.columns) →
    length stage.frame.columns ≡ length stage.query.columns → HasUnread (session_outlook s)
awaits_some have s k stage alike named there wide known once long =
    let plan : Plan = record { policy = By Widest; near = s.near; most = None; listing = Certain; extras = no_extras } in
    let (c, unread) = have plan stage known (none_yet (is_narrow s.near stage) wide) in
    let inside : c < length stage.query.columns = subst (λ n. c < n) long unread.column in
    let place = get_or stage.query.columns c 0 in
    let (column, below, is) = columns_stand (map (λ (stage : Stage). stage.query) s.stages) k stage.query place
    (slice_get-map (λ (stage : Stage). stage.query) s.stages k ∙ ap (option_map (λ (stage : Stage). stage.query)) there) (c, inside, refl) in
    let in_session : column < length s.columns = subst (λ cs. column < length cs) (sym named) below in
    let place_is : slice_index s.columns column ≡ place = ap (λ cs. slice_index cs column) named ∙ is in
    let waits : awaited s.near (slice_index s.columns column) stage ≡ Some c = ap (λ p. awaited s.near p stage) place_is ∙ awaits_own s.near c stage wide once inside in
    let all = alike column stage c in_session (record { query = k; there = there; reads = waits }) in
    (column, record { column = in_session; unread = (let some = unread.unread in omega (arith, all, some)) })
