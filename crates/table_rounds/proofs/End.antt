-- Steps go on to a last one, or to a plane that is refused or cannot be read.
use Rattle.std.proofs.Common.{◌≡◌, ◌⊎◌, inl, inr, ℕ, suc, ◌+◌, ◌-◌, ◌<◌, ◌&&◌, Bool, true, false, Some, List, [], ◌∷◌, ◌++◌, length, get_or, map, refl, sym, ap, ◌∙◌, subst, arith, sum, IsTrue, IsFalse, IsNone, slice_get}
use Rattle.std.proofs.lemmas.Bool.{false≢true}
use Rattle.std.proofs.lemmas.List.{length-map}
use Rattle.std.specs.List.{list_all}
use Rattle.daq_table.specs.declared.table_head.Head.{Head}
use Rattle.daq_table.specs.Tables.{ends_at, ends_of, frame_of, planes}
use Rattle.known_column.specs.Columns.{KnownColumn}
use Rattle.multi_session.proofs.Awaiting.{awaited_own, over_alike, own_there}
use Rattle.multi_session.specs.Members.{column_of}
use Rattle.multi_session.specs.Sessions.{Awaits, Session, columns_named, session_outlook}
use Rattle.plane_schedule.specs.Choices.{HasUnread, IsUnread}
use Rattle.plane_schedule.specs.Laws.{PoliciesChoose}
use Rattle.plane_schedule.specs.Plans.{is_list_end, is_most}
use Rattle.plane_schedule.specs.declared.policy.Plan.{Plan}
use Rattle.query_model.specs.Knowledge.{CanTake, IsKnowledge, IsLegal, is_legal, known_at, longer}
use Rattle.query_model.specs.Laws.{TakenIsKnowledge}
use Rattle.query_model.specs.Queries.{Query}
use Rattle.query_model.specs.Validity.{IsValid}
use Rattle.round_engine.specs.Narrowness.{is_narrow}
use Rattle.round_engine.specs.Stages.{IsFirstOver, Stage}
use Rattle.table_rounds.proofs.SessionsBegin.{sessions_begin}
use Rattle.table_rounds.proofs.Lists.{all_there}
use Rattle.table_rounds.proofs.SessionOutlooks.{AreAlike, awaits_some, choice_of}
use Rattle.table_rounds.proofs.Short.{sessions_are_short}
use Rattle.table_rounds.proofs.StepsAreOne.{one_step_more}
use Rattle.table_rounds.proofs.Standing.{Found, are_columns, first_awaits, found, found_with, from_map, next_unread}
use Rattle.table_rounds.proofs.StepsTake.{AllTake, legal_stepped}
use Rattle.table_rounds.proofs.SessionColumns.{shape_of, told, told_of}
use Rattle.table_rounds.specs.SessionLaws.{AreValid, Passes, SessionsHaveAnEnd}
use Rattle.table_rounds.specs.Steps.{AreSteps, IsUnlisted, ending_in, place_of, places_read, session_after, stage_in, steps_of}
use Rattle.table_rounds.proofs.Courses.{GoesOn, has_outcome}
use Rattle.table_rounds.proofs.Going.{first_failure}
use Rattle.table_rounds.proofs.Listing.{all_at}
use Rattle.table_rounds.proofs.Outlooks.{not_narrow}
use Rattle.table_rounds.specs.Headline.{RoundsBegin, RoundsHavePlanes}
use Rattle.table_rounds.specs.Courses.{IsFollowed, IsRefused, number_after}
use Rattle.table_rounds.specs.Rounds.{HaveRows, Planes}

-- ---- tests

-- an element that fails
one_fails : {X : Type 0} (test : X → Bool) (xs : List X) → list_all test xs ≡ false → (k : ℕ) × (x : X) × (slice_get xs k ≡ Some x) × IsFalse (test x)
one_fails test [] e = cc
one_fails test (x ∷ xs) e = by (test x) refl e (one_fails test xs)
  where
    by : (b : Bool) → test x ≡ b → (b && list_all test xs) ≡ false → (list_all test xs ≡ false → (k : ℕ) × (y : _) × (slice_get xs k ≡ Some y) × IsFalse (test y)) →
        (k : ℕ) × (y : _) × (slice_get (x ∷ xs) k ≡ Some y) × IsFalse (test y)
    by false here fails later = (0, x, refl, here)
    by true here fails later = let (k, y, there, is) = later fails in (suc k, y, there, is)

-- two columns of which the same is known take the same planes
can_alike : (a b : Stage) (c d : ℕ) (bits : List Bool) → column_of a c ≡ column_of b d → a.frame.rows ≡ b.frame.rows → d < length b.frame.columns →
    CanTake a.frame a.known c bits → CanTake b.frame b.known d bits
can_alike a b c d bits same rows inside can = record {
  column = inside;
  unread = subst (λ (k : KnownColumn). k.known.read < planes k.ends) same can.unread;
  rows = can.rows ∙ rows;
  legal = λ r h. subst (λ (k : KnownColumn). IsLegal k.ends (k.known.read + 1) (get_or (longer k.known.prefixes bits) r 0)) same (can.legal r (subst (λ n. r < n) (sym rows) h));
}

same_queries : (queries : List Query) (stage : Query → Stage) → ((query : Query) → (stage query).query ≡ query) → map (λ (s : Stage). s.query) (map stage queries) ≡ queries
same_queries [] stage is = refl
same_queries (q ∷ qs) stage is = rw (is q, same_queries qs stage is) refl

module _ (have : RoundsHavePlanes) (choose : PoliciesChoose) (taken_is : TakenIsKnowledge) (plan : Plan) (queries : List Query) (head : Head) (bits : Planes)
    (valid : AreValid head queries) (long : HaveRows (frame_of head) bits) where
  abbrev at : List ℕ → Session
  at reads = session_after plan.near queries head bits reads (length reads)

  abbrev stage : List ℕ → Query → Stage
  stage reads query = stage_in plan.near (frame_of head) bits (places_read queries reads) query (length reads)

  query_there : (reads : List ℕ) (k : ℕ) (s : Stage) → slice_get (at reads).stages k ≡ Some s → IsValid head s.query
  query_there reads k s there =
      let (query, here, is) = from_map (stage reads) queries k s there in
      subst (λ (t : Stage). IsValid head t.query) is (all_there (IsValid head) queries k query valid here)

  known_there : (reads : List ℕ) → AreSteps plan queries head bits reads → (k : ℕ) (s : Stage) → slice_get (at reads).stages k ≡ Some s → IsKnowledge s.frame s.known
  known_there reads steps k s there = all_there (λ (s : Stage). IsKnowledge s.frame s.known) (at reads).stages k s (steps.legal (length reads) (omega arith)) there

  same_known : (reads : List ℕ) → AreSteps plan queries head bits reads → (column : ℕ) (s : Stage) (own : ℕ) → column < length (columns_named queries) → Awaits (at reads) column s own →
      column_of s own ≡ told plan.near queries head bits reads (length reads) column
  same_known reads steps column s own inside awaits =
      told_of plan.near queries head bits reads (length reads) column s own (omega arith) (are_columns plan queries head bits reads steps) inside awaits

  -- ---- where the session goes on a query awaits a plane

  alike : (reads : List ℕ) → AreSteps plan queries head bits reads → AreAlike (at reads)
  alike reads steps = λ column s own inside awaits.
      let f = found_with plan.near (place_of queries column) (at reads).stages awaits.query s own awaits.there awaits.reads in
      let there = same_known reads steps column f.stage f.own inside (first_awaits (at reads) column f) in
      let here = same_known reads steps column s own inside awaits in
      f.unread ∙ ap (λ (k : KnownColumn). planes k.ends - k.known.read) (there ∙ sym here)

  goes_unread : (reads : List ℕ) → AreSteps plan queries head bits reads → IsNone (ending_in plan (at reads)) → HasUnread (session_outlook (at reads))
  goes_unread reads steps going =
      let s = at reads in
      let wide = not_narrow (list_all (is_narrow s.near) s.stages) (is_most plan.most s.steps) (is_list_end plan.policy s.steps) going in
      let (k, query, there, is) = one_fails (is_narrow s.near) s.stages wide in
      let named = ap columns_named (sym (same_queries queries (stage reads) (λ query. refl))) in
      awaits_some have s k query (alike reads steps) named there is (known_there reads steps k query there) (query_there reads k query there).distinct
      (shape_of plan.near queries head bits reads (length reads) k query there).1

  -- ---- the next plane is refused, or there is one step more

  module _ (reads : List ℕ) (next : ℕ) (followed : IsFollowed (steps_of plan queries head bits) reads next) where
    abbrev place : ℕ
    place = place_of queries next

    abbrev number : ℕ
    number = number_after reads (length reads) next

    abbrev next_plane : List Bool
    next_plane = bits place number

    has : IsUnread (session_outlook (at reads)) next
    has = next_unread plan queries head bits reads next followed

    abbrev first : Found plan.near place (at reads).stages
    first = found plan.near place (at reads).stages has.unread

    first_is : column_of first.stage first.own ≡ told plan.near queries head bits reads (length reads) next
    first_is = same_known reads followed.rounds next first.stage first.own has.column (first_awaits (at reads) next first)

    first_shape : (first.stage.frame.rows ≡ (frame_of head).rows) × (length first.stage.frame.columns ≡ length first.stage.query.columns)
    first_shape = shape_of plan.near queries head bits reads (length reads) first.query first.stage first.there

    same_column : (s : Stage) (own : ℕ) → Awaits (at reads) next s own → column_of first.stage first.own ≡ column_of s own
    same_column s own awaits = first_is ∙ sym (same_known reads followed.rounds next s own has.column awaits)

    same_rows : (s : Stage) (own : ℕ) → Awaits (at reads) next s own → first.stage.frame.rows ≡ s.frame.rows
    same_rows s own awaits = first_shape.0 ∙ sym (shape_of plan.near queries head bits reads (length reads) awaits.query s awaits.there).0

    own_inside : (s : Stage) (own : ℕ) → Awaits (at reads) next s own → own < length s.frame.columns
    own_inside s own awaits =
        subst (λ n. own < n) (sym (shape_of plan.near queries head bits reads (length reads) awaits.query s awaits.there).1)
        (own_there s.query.columns place own (awaited_own plan.near place s own awaits.reads).1).0

    some_left : (known_at first.stage.known first.own).read < planes (ends_at first.stage.frame first.own)
    some_left = let left = first.unread in let some = has.unread in omega (arith, left, some)

    plane_rows : length next_plane ≡ first.stage.frame.rows
    plane_rows =
        let (inside, there) = own_there first.stage.query.columns place first.own (awaited_own plan.near place first.stage first.own first.waits).1 in
        let in_head = all_at (λ i. i < length head.columns) first.stage.query.columns first.own (query_there reads first.query first.stage first.there).in_range inside in
        let in_frame : place < length (frame_of head).columns = subst (λ n. place < n) (sym (length-map head.columns ends_of)) (subst (λ p. p < length head.columns) there in_head) in
        let few : number < planes (ends_at (frame_of head) place) = subst (λ (k : KnownColumn). k.known.read < planes k.ends) first_is some_left in
        long place number in_frame few ∙ sym first_shape.0

    abbrev stays_legal : ℕ → Bool
    stays_legal row = is_legal (ends_at first.stage.frame first.own) ((known_at first.stage.known first.own).read + 1) (get_or (longer (known_at first.stage.known first.own).prefixes next_plane) row 0)

    refused_or_further : ((column plane row : ℕ) × IsRefused (steps_of plan queries head bits) reads column plane row) ⊎ AreSteps plan queries head bits (reads ++ next ∷ [])
    refused_or_further = by (first_failure stays_legal first.stage.frame.rows)
      where
        by : (((r : ℕ) × (r < first.stage.frame.rows) × IsFalse (stays_legal r) × ((s : ℕ) → s < r → IsTrue (stays_legal s))) ⊎ ((r : ℕ) → r < first.stage.frame.rows → IsTrue (stays_legal r))) →
            ((column plane row : ℕ) × IsRefused (steps_of plan queries head bits) reads column plane row) ⊎ AreSteps plan queries head bits (reads ++ next ∷ [])
        by (inl (r, in_range, fails, before)) =
            let over : IsFirstOver first.stage first.own next_plane r = record { in_range = in_range; over = λ legal. false≢true (sym fails ∙ legal); first = before } in
            inl (
              place,
              number,
              r,
              record {
                before = record { next = next; followed = followed; column_is = refl; plane_is = refl };
                over = λ s own awaits. over_alike first.stage s first.own own next_plane r (same_column s own awaits) (same_rows s own awaits) over;
              },
            )
        by (inr legal) =
            let inside = own_inside first.stage first.own (first_awaits (at reads) next first) in
            let can : CanTake first.stage.frame first.stage.known first.own next_plane = record { column = inside; unread = some_left; rows = plane_rows; legal = legal } in
            let all : AllTake (at reads) next next_plane = λ s own awaits.
            can_alike first.stage s first.own own next_plane (same_column s own awaits) (same_rows s own awaits) (own_inside s own awaits) can in
            inr (one_step_more plan queries head bits reads next followed (legal_stepped taken_is (at reads) next next_plane (followed.rounds.legal (length reads) (omega arith)) all))

  pub steps_go_on : IsUnlisted plan.policy → GoesOn (steps_of plan queries head bits)
  steps_go_on unlisted = record {
    most = sum (map (λ place. planes (ends_at (frame_of head) place)) (columns_named queries));
    few = sessions_are_short plan queries head bits;
    chooses = λ reads steps going. choice_of choose plan.policy (at reads) unlisted (goes_unread reads steps going);
    further = refused_or_further;
  }

pub sessions_have_an_end : RoundsBegin → RoundsHavePlanes → PoliciesChoose → TakenIsKnowledge → SessionsHaveAnEnd
sessions_have_an_end begin have choose taken_is plan queries head bits readable valid long unlisted =
    has_outcome (steps_of plan queries head bits) (steps_go_on have choose taken_is plan queries head bits valid long unlisted) (Passes readable) (λ column plane. judge (readable column plane))
    [] (sessions_begin begin plan queries head bits).rounds (λ step h. absurd (omega (arith, h)))
  where
    judge : (b : Bool) → IsTrue b ⊎ (IsTrue b → ⊥)
    judge true = inl refl
    judge false = inr (λ e. cc)
