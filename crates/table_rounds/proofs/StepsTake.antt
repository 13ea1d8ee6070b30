-- What a step leaves: legal prefixes, and fewer unread planes.
use Rattle.plane_schedule.specs.declared.policy.Nearness.{Nearness}
use Rattle.std.proofs.Common.{◌≡◌, ℕ, zero, suc, ◌<◌, ◌≤◌, Bool, Option, Some, None, List, [], ◌∷◌, map, refl, sym, ap, subst, arith, slice_get, slice_index, sum_by}
use Rattle.std.proofs.lemmas.List.Sums.{sum_by-cons}
use Rattle.std.proofs.lemmas.Option.{same_Some}
use Rattle.std.specs.Option.{option_map_or}
use Rattle.multi_session.specs.Sessions.{Awaits, Session, awaited, followed, session_outlook, session_stepped}
use Rattle.plane_schedule.specs.Choices.{IsUnread}
use Rattle.query_model.specs.Knowledge.{CanTake, IsKnowledge}
use Rattle.query_model.specs.Laws.{TakenIsKnowledge}
use Rattle.round_engine.specs.Stages.{HasPlane, Stage, stepped}
use Rattle.table_rounds.proofs.Lists.{all_of, all_there}
use Rattle.table_rounds.proofs.Standing.{found, from_map}
use Rattle.table_rounds.specs.Steps.{IsLegalSession, planes_left}
use Rattle.table_rounds.proofs.Fewer.{fewer_unread}
use Rattle.table_rounds.specs.Rounds.{unread_planes}

pub followed_none : (near : Nearness) (place : ℕ) (bits : List Bool) (stage : Stage) → awaited near place stage ≡ None → followed near place bits stage ≡ stage
followed_none near place bits stage e = ap (λ o. option_map_or (λ c. stepped stage c bits) o stage) e

pub followed_some : (near : Nearness) (place c : ℕ) (bits : List Bool) (stage : Stage) → awaited near place stage ≡ Some c → followed near place bits stage ≡ stepped stage c bits
followed_some near place c bits stage e = ap (λ o. option_map_or (λ c. stepped stage c bits) o stage) e

-- each query that awaits the plane can take it
abbrev pub AllTake : Session → ℕ → List Bool → Type 0
AllTake s column bits = (stage : Stage) (own : ℕ) → Awaits s column stage own → CanTake stage.frame stage.known own bits

-- ---- legal prefixes

legal_followed : TakenIsKnowledge → (near : Nearness) (place : ℕ) (bits : List Bool) (stage : Stage) → IsKnowledge stage.frame stage.known →
    ((c : ℕ) → awaited near place stage ≡ Some c → CanTake stage.frame stage.known c bits) →
    IsKnowledge (followed near place bits stage).frame (followed near place bits stage).known
legal_followed taken_is near place bits stage known can = by (awaited near place stage) refl
  where
    by : (o : Option ℕ) → awaited near place stage ≡ o → IsKnowledge (followed near place bits stage).frame (followed near place bits stage).known
    by None e = subst (λ (s : Stage). IsKnowledge s.frame s.known) (sym (followed_none near place bits stage e)) known
    by (Some c) e = subst (λ (s : Stage). IsKnowledge s.frame s.known) (sym (followed_some near place c bits stage e)) (taken_is stage.frame stage.known c bits known (can c e))

pub legal_stepped : TakenIsKnowledge → (s : Session) (column : ℕ) (bits : List Bool) → IsLegalSession s → AllTake s column bits → IsLegalSession (session_stepped s column bits)
legal_stepped taken_is s column bits legal can =
    let place = slice_index s.columns column in
    all_of (λ (s : Stage). IsKnowledge s.frame s.known) (map (followed s.near place bits) s.stages) (λ k stage there.
    let (old, at, is) = from_map (followed s.near place bits) s.stages k stage there in
    subst (λ (s : Stage). IsKnowledge s.frame s.known) is
    (legal_followed taken_is s.near place bits old (all_there (λ (s : Stage). IsKnowledge s.frame s.known) s.stages k old legal at)
    (λ c waits. can old c (record { query = k; there = at; reads = waits }))))

-- ---- fewer unread planes

has_plane : (stage : Stage) (c : ℕ) (bits : List Bool) → CanTake stage.frame stage.known c bits → HasPlane stage c
has_plane stage c bits can = record { column = can.column; unread = can.unread }

module _ (near : Nearness) (place : ℕ) (bits : List Bool) where
  -- of a query that may or may not await the plane
  abbrev TakesIf : Stage → Type 0
  TakesIf stage = IsKnowledge stage.frame stage.known × ((c : ℕ) → awaited near place stage ≡ Some c → CanTake stage.frame stage.known c bits)

  some_fewer : (stage : Stage) (c : ℕ) → TakesIf stage → awaited near place stage ≡ Some c → unread_planes (followed near place bits stage) < unread_planes stage
  some_fewer stage c (known, can) e = fewer_unread stage (followed near place bits stage) c bits known (has_plane stage c bits (can c e)) (followed_some near place c bits stage e)

  no_more : (stage : Stage) → TakesIf stage → unread_planes (followed near place bits stage) ≤ unread_planes stage
  no_more stage takes = by (awaited near place stage) refl
    where
      by : (o : Option ℕ) → awaited near place stage ≡ o → unread_planes (followed near place bits stage) ≤ unread_planes stage
      by None e = (let same = ap unread_planes (followed_none near place bits stage e) in omega (arith, same))
      by (Some c) e = (let less = some_fewer stage c takes e in omega (arith, less))

  none_more : (stages : List Stage) → ((k : ℕ) (stage : Stage) → slice_get stages k ≡ Some stage → TakesIf stage) →
      sum_by unread_planes (map (followed near place bits) stages) ≤ sum_by unread_planes stages
  none_more [] takes = omega arith
  none_more (stage ∷ stages) takes =
      let rest = none_more stages (λ k s there. takes (suc k) s there) in
      let first = no_more stage (takes 0 stage refl) in
      let old = sum_by-cons unread_planes stage stages in
      let new = sum_by-cons unread_planes (followed near place bits stage) (map (followed near place bits) stages) in
      omega (arith, rest, first, old, new)

  one_fewer : (stages : List Stage) → ((k : ℕ) (stage : Stage) → slice_get stages k ≡ Some stage → TakesIf stage) → (k : ℕ) (stage : Stage) (c : ℕ) →
      slice_get stages k ≡ Some stage → awaited near place stage ≡ Some c → sum_by unread_planes (map (followed near place bits) stages) < sum_by unread_planes stages
  one_fewer [] takes k stage c there waits = cc
  one_fewer (s ∷ ss) takes zero stage c there waits =
      let rest = none_more ss (λ k t at. takes (suc k) t at) in
      let first = some_fewer s c (takes 0 s refl) (subst (λ t. awaited near place t ≡ Some c) (sym (same_Some s stage there)) waits) in
      let old = sum_by-cons unread_planes s ss in
      let new = sum_by-cons unread_planes (followed near place bits s) (map (followed near place bits) ss) in
      omega (arith, rest, first, old, new)
  one_fewer (s ∷ ss) takes (suc k) stage c there waits =
      let rest = one_fewer ss (λ k t at. takes (suc k) t at) k stage c there waits in
      let first = no_more s (takes 0 s refl) in
      let old = sum_by-cons unread_planes s ss in
      let new = sum_by-cons unread_planes (followed near place bits s) (map (followed near place bits) ss) in
      omega (arith, rest, first, old, new)

pub fewer_left : (s new : Session) (column : ℕ) (bits : List Bool) → ((k : ℕ) (stage : Stage) → slice_get s.stages k ≡ Some stage → IsKnowledge stage.frame stage.known) →
    AllTake s column bits → IsUnread (session_outlook s) column → new ≡ session_stepped s column bits → planes_left new < planes_left s
fewer_left s new column bits known can unread step =
    let place = slice_index s.columns column in
    let f = found s.near place s.stages unread.unread in
    subst (λ t. planes_left t < planes_left s) (sym step)
    (one_fewer s.near place bits s.stages (λ k stage there. (known k stage there, λ c waits. can stage c (record { query = k; there = there; reads = waits }))) f.query f.stage f.own f.there f.waits)
