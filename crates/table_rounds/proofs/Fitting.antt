-- A session over tables with a head: its columns' planes, and which of them is next.
use Rattle.plane_schedule.specs.declared.policy.Nearness.{Nearness}
use Rattle.std.proofs.Common.{◌≡◌, ℕ, ◌-◌, ◌<◌, ◌≤◌, Bool, Option, Some, None, List, [], ◌∷◌, length, get_or, map, refl, sym, ap, ◌∙◌, subst, arith, slice_get, slice_index}
use Rattle.std.proofs.lemmas.List.{get_or-map}
use Rattle.std.specs.Option.{option_map_or}
use Rattle.std.specs.List.{AllByRecursion}
use Rattle.daq_table.specs.declared.table_head.Head.{Head}
use Rattle.daq_table.specs.Tables.{ends_at, ends_of, frame_of, no_ends, planes}
use Rattle.daq_table.specs.declared.head.ColumnHead.{ColumnHead}
use Rattle.multi_session.proofs.Awaiting.{awaited_own, own_there}
use Rattle.multi_session.specs.Sessions.{Awaits, IsSessionProgress, Session, awaited, columns_named, followed, session_opened, session_outlook, session_stepped, unread_in, unread_of}
use Rattle.plane_schedule.specs.Choices.{HasUnread, IsUnread}
use Rattle.plane_schedule.specs.declared.progress.Progress.{Progress}
use Rattle.query_model.specs.Knowledge.{IsKnowledge}
use Rattle.query_model.specs.Queries.{Query}
use Rattle.query_model.specs.Validity.{FitsHead, IsValid}
use Rattle.round_engine.specs.Stages.{Stage, opened, stepped}
use Rattle.table_rounds.proofs.Lists.{all_of, all_there}
use Rattle.table_rounds.proofs.SessionOutlooks.{AreAlike, awaits_some}
use Rattle.table_rounds.proofs.Standing.{Found, found, from_map}
use Rattle.table_rounds.specs.Steps.{FitsSession, next_number}
use Rattle.table_rounds.specs.Steps.{IsWide}
use Rattle.table_rounds.proofs.Listing.{all_at}
use Rattle.table_rounds.proofs.Reached.{columns_of_part, ends_there}
use Rattle.table_rounds.specs.Headline.{RoundsHavePlanes}

fits_query : (s : Session) (head : Head) (k : ℕ) (stage : Stage) → FitsSession s head → slice_get s.stages k ≡ Some stage → FitsHead stage.query stage.frame head
fits_query s head k stage fits there = all_there (λ (stage : Stage). FitsHead stage.query stage.frame head) s.stages k stage fits.stages there

columns_of : (stage : Stage) (head : Head) → FitsHead stage.query stage.frame head → length stage.frame.columns ≡ length stage.query.columns
columns_of stage head fits = ap (λ f. length f.columns) (sym fits.same) ∙ columns_of_part stage.query (frame_of head)

-- as the session's progress tells it
pub alike_by : (s : Session) (p : Progress) → IsSessionProgress s p →
    ((column : ℕ) (stage : Stage) (own : ℕ) → column < length s.columns → Awaits s column stage own → slice_index p.unread column ≡ unread_of stage own) → AreAlike s
alike_by s p is alike column stage own inside awaits = sym (is.unread column inside) ∙ alike column stage own inside awaits

pub going_awaits : RoundsHavePlanes → (s : Session) (head : Head) (k : ℕ) → AreAlike s → ((k : ℕ) (stage : Stage) → slice_get s.stages k ≡ Some stage → IsKnowledge stage.frame stage.known) →
    FitsSession s head → IsWide s k → HasUnread (session_outlook s)
going_awaits have s head k alike known fits wide =
    let its = fits_query s head k wide.stage fits wide.there in
    awaits_some have s k wide.stage alike fits.columns wide.there wide.wide (known k wide.stage wide.there) its.valid.distinct (columns_of wide.stage head its)

-- ---- the next plane

-- of a column with an unread plane: its place, how many planes it has, and the number of the next one
pub record IsPlace (s : Session) (head : Head) (column place count unread : ℕ) : Type 0 where
  pub inside : place < length head.columns
  pub few : unread ≤ count
  pub next : count - unread ≡ next_number s column
  pub there : count - unread < planes (ends_at (frame_of head) place)

module _ (s : Session) (head : Head) (column place unread : ℕ) (fits : FitsSession s head) (has : IsUnread (session_outlook s) column)
    (is : unread ≡ unread_in s.near (slice_index s.columns column) s.stages) (there : place ≡ slice_index s.columns column) where
  first : Found s.near (slice_index s.columns column) s.stages
  first = found s.near (slice_index s.columns column) s.stages has.unread

  its : FitsHead first.stage.query first.stage.frame head
  its = fits_query s head first.query first.stage fits first.there

  own : (first.own < length first.stage.query.columns) × (get_or first.stage.query.columns first.own 0 ≡ slice_index s.columns column)
  own = own_there first.stage.query.columns (slice_index s.columns column) first.own (awaited_own s.near (slice_index s.columns column) first.stage first.own first.waits).1

  pub place_inside : place < length head.columns
  place_inside = subst (λ p. p < length head.columns) (own.1 ∙ sym there) (all_at (λ i. i < length head.columns) first.stage.query.columns first.own its.valid.in_range own.0)

  pub place_is : (count : ℕ) (element : ColumnHead) → element ≡ get_or head.columns place element → count ≡ planes (ends_of element) → IsPlace s head column place count unread
  place_is count element here all =
      let declared : planes (ends_of element) ≡ planes (ends_at (frame_of head) place) =
      ap planes (ap ends_of here ∙ sym (get_or-map ends_of head.columns place element no_ends place_inside)) in
      let ends : planes (ends_at (frame_of head) place) ≡ planes (ends_at first.stage.frame first.own) =
      ap planes (ap (ends_at (frame_of head)) (there ∙ sym own.1) ∙ ends_there first.stage.query (frame_of head) first.own own.0 ∙ ap (λ frame. ends_at frame first.own) its.same) in
      let left = first.unread in
      let some = has.unread in
      let read = first.read in
      record {
        inside = place_inside;
        few = omega (arith, all, declared, ends, is, left);
        next = omega (arith, all, declared, ends, is, left, some, read);
        there = omega (arith, all, declared, is, left, some);
      }

-- ---- a step leaves the queries and what is declared

fits_followed : (near : Nearness) (place : ℕ) (bits : List Bool) (head : Head) (stage : Stage) → FitsHead stage.query stage.frame head →
    FitsHead (followed near place bits stage).query (followed near place bits stage).frame head
fits_followed near place bits head stage fits = by (awaited near place stage)
  where
    by : (o : Option ℕ) → FitsHead (option_map_or (λ c. stepped stage c bits) o stage).query (option_map_or (λ c. stepped stage c bits) o stage).frame head
    by None = fits
    by (Some c) = fits

same_queries : (near : Nearness) (place : ℕ) (bits : List Bool) (stages : List Stage) → map (λ (stage : Stage). stage.query) stages ≡ map (λ (stage : Stage). stage.query) (map (followed near place bits) stages)
same_queries near place bits [] = refl
same_queries near place bits (stage ∷ stages) = rw (same_queries near place bits stages) (by (awaited near place stage))
  where
    by : (o : Option ℕ) → stage.query ∷ map (λ (stage : Stage). stage.query) (map (followed near place bits) stages)
        ≡ (option_map_or (λ c. stepped stage c bits) o stage).query ∷ map (λ (stage : Stage). stage.query) (map (followed near place bits) stages)
    by None = refl
    by (Some c) = refl

pub fits_stepped : (s new : Session) (head : Head) (column : ℕ) (bits : List Bool) → FitsSession s head → new ≡ session_stepped s column bits → FitsSession new head
fits_stepped s new head column bits fits step =
    let place = slice_index s.columns column in
    subst (λ t. FitsSession t head) (sym step) (record {
      rows = fits.rows;
      columns = fits.columns ∙ ap columns_named (same_queries s.near place bits s.stages);
      stages = all_of (λ (stage : Stage). FitsHead stage.query stage.frame head) (map (followed s.near place bits) s.stages) (λ k stage there.
          let (old, at, is) = from_map (followed s.near place bits) s.stages k stage there in
          subst (λ (stage : Stage). FitsHead stage.query stage.frame head) is (fits_followed s.near place bits head old (fits_query s head k old fits at)));
    })

-- ---- a session of which nothing is read

queries_of : (queries : List Query) (head : Head) → queries ≡ map (λ (stage : Stage). stage.query) (map (λ query. opened query head) queries)
queries_of [] head = refl
queries_of (query ∷ queries) head = ap (λ qs. query ∷ qs) (queries_of queries head)

pub fits_opened : (queries : List Query) (head : Head) (near : Nearness) → AllByRecursion (IsValid head) queries → FitsSession (session_opened queries head near) head
fits_opened queries head near valid = record {
  rows = refl;
  columns = ap columns_named (queries_of queries head);
  stages = all_of (λ (stage : Stage). FitsHead stage.query stage.frame head) (map (λ query. opened query head) queries) (λ k stage there.
      let (query, at, is) = from_map (λ query. opened query head) queries k stage there in
      subst (λ (stage : Stage). FitsHead stage.query stage.frame head) is (record { valid = all_there (IsValid head) queries k query valid at; same = refl }));
}
