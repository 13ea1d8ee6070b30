-- A session after steps over planes: what its queries await, and one step more.
use Rattle.plane_schedule.specs.declared.policy.Nearness.{Nearness}
use Rattle.std.proofs.Common.{◌≡◌, ℕ, zero, suc, ◌+◌, ◌<◌, ◌≤◌, Bool, Option, Some, None, List, [], ◌∷◌, ◌++◌, length, get_or, map, take, refl, sym, ap, ◌∙◌, subst, arith, length-append, slice_get}
use Rattle.std.proofs.lemmas.List.{get_or-map, length-map, take-map}
use Rattle.std.proofs.lemmas.Option.{same_Some}
use Rattle.std.specs.Option.{is_some, option_map_or}
use Rattle.daq_table.specs.declared.table_head.Head.{Head}
use Rattle.daq_table.specs.Tables.{Frame, frame_of}
use Rattle.multi_session.proofs.Awaiting.{awaited_own}
use Rattle.multi_session.proofs.Named.{columns_once, get_before, get_last}
use Rattle.multi_session.specs.Sessions.{Awaits, Session, awaited, columns_named, followed, session_outlook, session_stepped, unread_in, unread_of}
use Rattle.plane_schedule.proofs.Same.{choice_is_unread}
use Rattle.plane_schedule.specs.Choices.{IsUnread}
use Rattle.plane_schedule.specs.declared.policy.Plan.{Plan}
use Rattle.query_model.specs.Knowledge.{known_at}
use Rattle.query_model.specs.Queries.{Query}
use Rattle.round_engine.specs.Stages.{Stage, stepped}
use Rattle.table_rounds.proofs.Lists.{count_of_images, same_maps}
use Rattle.table_rounds.proofs.Own.{counted, read_awaited, same_own, stage_none, stage_some, times}
use Rattle.table_rounds.specs.Steps.{next_number, read_in}
use Rattle.table_rounds.specs.Steps.{AreSteps, is_moved, own_reads, place_of, places_read, session_after, stage_in, steps_of}
use Rattle.table_rounds.specs.Courses.{IsFollowed, number_after}
use Rattle.table_rounds.specs.Rounds.{Planes, stage_after}

-- ---- the first query that awaits a column's next plane

pub record Found (near : Nearness) (place : ℕ) (stages : List Stage) : Type 0 where
  pub query : ℕ
  pub stage : Stage
  pub own : ℕ
  pub there : slice_get stages query ≡ Some stage
  pub waits : awaited near place stage ≡ Some own
  pub unread : unread_in near place stages ≡ unread_of stage own
  pub read : read_in near place stages ≡ (known_at stage.known own).read

abbrev read_own : Stage → ℕ → ℕ
read_own stage own = (known_at stage.known own).read

found_first : (near : Nearness) (place own : ℕ) (stage : Stage) (stages : List Stage) → awaited near place stage ≡ Some own → Found near place (stage ∷ stages)
found_first near place own stage stages e = record {
  query = 0;
  stage = stage;
  own = own;
  there = refl;
  waits = e;
  unread = ap (λ o. option_map_or (unread_of stage) o (unread_in near place stages)) e;
  read = ap (λ o. option_map_or (read_own stage) o (read_in near place stages)) e;
}

found_later : (near : Nearness) (place : ℕ) (stage : Stage) (stages : List Stage) → awaited near place stage ≡ None → Found near place stages → Found near place (stage ∷ stages)
found_later near place stage stages e rest = record {
  query = suc rest.query;
  stage = rest.stage;
  own = rest.own;
  there = rest.there;
  waits = rest.waits;
  unread = ap (λ o. option_map_or (unread_of stage) o (unread_in near place stages)) e ∙ rest.unread;
  read = ap (λ o. option_map_or (read_own stage) o (read_in near place stages)) e ∙ rest.read;
}

-- where a plane is unread there is one
pub found : (near : Nearness) (place : ℕ) (stages : List Stage) → 0 < unread_in near place stages → Found near place stages
found near place [] some = absurd (omega (arith, some))
found near place (stage ∷ stages) some = by (awaited near place stage) refl (found near place stages)
  where
    by : (o : Option ℕ) → awaited near place stage ≡ o → (0 < unread_in near place stages → Found near place stages) → Found near place (stage ∷ stages)
    by None e later =
        let none = ap (λ o. option_map_or (unread_of stage) o (unread_in near place stages)) e in
        found_later near place stage stages e (later (subst (λ n. 0 < n) none some))
    by (Some own) e later = found_first near place own stage stages e

-- and where some query awaits one
pub found_with : (near : Nearness) (place : ℕ) (stages : List Stage) (k : ℕ) (stage : Stage) (own : ℕ) → slice_get stages k ≡ Some stage → awaited near place stage ≡ Some own →
    Found near place stages
found_with near place [] k stage own there waits = cc
found_with near place (s ∷ ss) zero stage own there waits =
    found_first near place own s ss (subst (λ t. awaited near place t ≡ Some own) (sym (same_Some s stage there)) waits)
found_with near place (s ∷ ss) (suc k) stage own there waits = by (awaited near place s) refl (found_with near place ss k stage own there waits)
  where
    by : (o : Option ℕ) → awaited near place s ≡ o → Found near place ss → Found near place (s ∷ ss)
    by None e rest = found_later near place s ss e rest
    by (Some first) e rest = found_first near place first s ss e

pub first_awaits : (s : Session) (column : ℕ) → (f : Found s.near (get_or s.columns column 0) s.stages) → Awaits s column f.stage f.own
first_awaits s column f = record { query = f.query; there = f.there; reads = f.waits }

-- ---- a query of a list

pub from_map : {X Y : Type 0} (f : X → Y) (xs : List X) (k : ℕ) (y : Y) → slice_get (map f xs) k ≡ Some y → (x : X) × (slice_get xs k ≡ Some x) × (f x ≡ y)
from_map f [] k y e = cc
from_map f (x ∷ xs) zero y e = (x, refl, same_Some (f x) y e)
from_map f (x ∷ xs) (suc k) y e = from_map f xs k y e

pub map_map : {X Y Z : Type 0} (f : X → Y) (h : Y → Z) (xs : List X) → map h (map f xs) ≡ map (λ x. h (f x)) xs
map_map f h [] = refl
map_map f h (x ∷ xs) = rw (map_map f h xs) refl

-- the reads are columns of the session
abbrev pub AreColumns : List Query → List ℕ → Type 0
AreColumns queries reads = (k : ℕ) → k < length reads → get_or reads k 0 < length (columns_named queries)

module _ (near : Nearness) (queries : List Query) (head : Head) (bits : Planes) where
  abbrev frame : Frame
  frame = frame_of head

  abbrev pub session : List ℕ → ℕ → Session
  session reads n = session_after near queries head bits reads n

  abbrev stage : List ℕ → ℕ → Query → Stage
  stage reads n query = stage_in near frame bits (places_read queries reads) query n

  length_of_places : (reads : List ℕ) → length (places_read queries reads) ≡ length reads
  length_of_places reads = length-map reads (place_of queries)

  place_there : (reads : List ℕ) (k : ℕ) → k < length reads → get_or (places_read queries reads) k 0 ≡ place_of queries (get_or reads k 0)
  place_there reads k h = get_or-map (place_of queries) reads k 0 0 h

  -- ---- what was read so far alone decides

  same_places : (a b : List ℕ) (n : ℕ) → n ≤ length a → n ≤ length b → ((k : ℕ) → k < n → get_or a k 0 ≡ get_or b k 0) →
      (k : ℕ) → k < n → get_or (places_read queries a) k 0 ≡ get_or (places_read queries b) k 0
  same_places a b n ha hb same k h = place_there a k (omega (arith, ha, h)) ∙ ap (place_of queries) (same k h) ∙ sym (place_there b k (omega (arith, hb, h)))

  same_stage : (a b : List ℕ) (n : ℕ) → ((k : ℕ) → k < n → get_or (places_read queries a) k 0 ≡ get_or (places_read queries b) k 0) → (query : Query) → stage a n query ≡ stage b n query
  same_stage a b n same query = ap (λ own. stage_after query frame bits own (length own)) (same_own near query frame bits (places_read queries a) (places_read queries b) n same)

  same_moved : (a b : List ℕ) (n : ℕ) → ((k : ℕ) → k < n → get_or (places_read queries a) k 0 ≡ get_or (places_read queries b) k 0) → (query : Query) →
      is_moved near frame bits (places_read queries a) query n ≡ is_moved near frame bits (places_read queries b) query n
  same_moved a b zero same query = refl
  same_moved a b (suc n) same query =
      ap (λ place. is_some (awaited near place (stage a n query))) (same n (omega arith))
      ∙ ap (λ s. is_some (awaited near (get_or (places_read queries b) n 0) s)) (same_stage a b n (λ k h. same k (omega (arith, h))) query)

  pub same_session : (a b : List ℕ) (n : ℕ) → n ≤ length a → n ≤ length b → ((k : ℕ) → k < n → get_or a k 0 ≡ get_or b k 0) → session a n ≡ session b n
  same_session a b n ha hb same =
      let places = same_places a b n ha hb same in
      let stages = same_maps (stage a n) (stage b n) queries (λ k query e. same_stage a b n places query) in
      let moved = same_maps (λ query. is_moved near frame bits (places_read queries a) query n) (λ query. is_moved near frame bits (places_read queries b) query n) queries
      (λ k query e. same_moved a b n places query) in
      ap (λ ss. record { near = near; rows = head.rows; columns = columns_named queries; stages = ss; moved = map (λ query. is_moved near frame bits (places_read queries a) query n) queries; steps = n }) stages
      ∙ ap (λ ms. record { near = near; rows = head.rows; columns = columns_named queries; stages = map (stage b n) queries; moved = ms; steps = n }) moved

  -- ---- what a query awaits

  get_of_take : (xs : List ℕ) (n k : ℕ) → k < length (take n xs) → (k < length xs) × (get_or (take n xs) k 0 ≡ get_or xs k 0)
  get_of_take xs zero k h = absurd (omega (arith, h))
  get_of_take [] (suc n) k h = absurd (omega (arith, h))
  get_of_take (x ∷ xs) (suc n) zero h = (omega arith, refl)
  get_of_take (x ∷ xs) (suc n) (suc k) h = let (inside, same) = get_of_take xs n k (omega (arith, h)) in (omega (arith, inside), same)

  -- a column's planes are those of its place
  pub times_of_place : (reads : List ℕ) (n column : ℕ) → AreColumns queries reads → column < length (columns_named queries) →
      times (place_of queries column) (take n (places_read queries reads)) ≡ number_after reads n column
  times_of_place reads n column are inside =
      ap (times (place_of queries column)) (take-map (place_of queries) n reads)
      ∙ count_of_images (place_of queries) column (take n reads) (λ k h same.
      let (there, is) = get_of_take reads n k h in
      columns_once queries (get_or (take n reads) k 0) column (subst (λ c. c < length (columns_named queries)) (sym is) (are k there)) inside same)

  -- all that await a column's next plane have read the same number of them
  pub read_of_query : (reads : List ℕ) (n column own : ℕ) (query : Query) → n ≤ length reads → AreColumns queries reads → column < length (columns_named queries) →
      awaited near (place_of queries column) (stage reads n query) ≡ Some own → (known_at (stage reads n query).known own).read ≡ number_after reads n column
  read_of_query reads n column own query h are inside waits =
      read_awaited near query frame bits (places_read queries reads) n (place_of queries column) own (subst (λ m. n ≤ m) (sym (length_of_places reads)) h) waits
      ∙ times_of_place reads n column are inside

  pub read_of : (reads : List ℕ) (n column : ℕ) (s : Stage) (own : ℕ) → n ≤ length reads → AreColumns queries reads → column < length (columns_named queries) →
      Awaits (session reads n) column s own → (known_at s.known own).read ≡ number_after reads n column
  read_of reads n column s own h are inside w =
      let (query, at, is) = from_map (stage reads n) queries w.query s w.there in
      subst (λ t. (known_at t.known own).read ≡ number_after reads n column) is
      (read_of_query reads n column own query h are inside (subst (λ t. awaited near (place_of queries column) t ≡ Some own) (sym is) w.reads))

  pub next_of : (reads : List ℕ) (n column : ℕ) → n ≤ length reads → AreColumns queries reads → IsUnread (session_outlook (session reads n)) column →
      next_number (session reads n) column ≡ number_after reads n column
  next_of reads n column h are unread =
      let f = found near (place_of queries column) (session reads n).stages unread.unread in
      f.read ∙ read_of reads n column f.stage f.own h are unread.column (first_awaits (session reads n) column f)

  -- ---- one step more

  module _ (reads : List ℕ) (column : ℕ) (are : AreColumns queries reads) (inside : column < length (columns_named queries)) where
    abbrev all : List ℕ
    all = reads ++ column ∷ []

    abbrev place : ℕ
    place = place_of queries column

    abbrev plane : List Bool
    plane = bits place (number_after reads (length reads) column)

    -- the last place
    last_place : get_or (places_read queries all) (length reads) 0 ≡ place
    last_place =
        place_there all (length reads) (let long = length-append reads (column ∷ []) in omega (arith, long))
        ∙ ap (place_of queries) (get_last reads column (length reads) refl)

    old_stage : (query : Query) → stage all (length reads) query ≡ stage reads (length reads) query
    old_stage query =
        same_stage all reads (length reads)
        (same_places all reads (length reads) (let long = length-append reads (column ∷ []) in omega (arith, long)) (omega arith) (λ k h. get_before reads (column ∷ []) k 0 h)) query

    awaited_there : (query : Query) → awaited near (get_or (places_read queries all) (length reads) 0) (stage all (length reads) query) ≡ awaited near place (stage reads (length reads) query)
    awaited_there query = ap (λ p. awaited near p (stage all (length reads) query)) last_place ∙ ap (awaited near place) (old_stage query)

    follow_query : (query : Query) → followed near place plane (stage reads (length reads) query) ≡ stage all (suc (length reads)) query
    follow_query query = by (awaited near place (stage reads (length reads) query)) refl
      where
        old : Stage
        old = stage reads (length reads) query

        by : (o : Option ℕ) → awaited near place old ≡ o → followed near place plane old ≡ stage all (suc (length reads)) query
        by None e =
            ap (λ o. option_map_or (λ c. stepped old c plane) o old) e
            ∙ sym (old_stage query)
            ∙ sym (stage_none near query frame bits (places_read queries all) (length reads) (awaited_there query ∙ e))
        by (Some own) e =
            let n = length reads in
            let waits = awaited_there query ∙ e in
            let (wide, is) = awaited_own near place old own e in
            let same : own_reads near frame bits (places_read queries all) query n ≡ own_reads near frame bits (places_read queries reads) query n =
            same_own near query frame bits (places_read queries all) (places_read queries reads) n
            (same_places all reads n (let long = length-append reads (column ∷ []) in omega (arith, long)) (omega arith) (λ k h. get_before reads (column ∷ []) k 0 h)) in
            let number : times own (own_reads near frame bits (places_read queries all) query n) ≡ number_after reads n column =
            ap (times own) same
            ∙ counted near query frame bits (places_read queries reads) n (let places = length_of_places reads in omega (arith, places)) place own is wide
            ∙ times_of_place reads n column are inside in
            ap (λ o. option_map_or (λ c. stepped old c plane) o old) e
            ∙ ap (λ s. stepped s own plane) (sym (old_stage query))
            ∙ ap (λ m. stepped (stage all n query) own (bits place m)) (sym number)
            ∙ ap (λ p. stepped (stage all n query) own (bits p (times own (own_reads near frame bits (places_read queries all) query n)))) (sym last_place)
            ∙ sym (stage_some near query frame bits (places_read queries all) n own waits)

    moved_query : (query : Query) → is_some (awaited near place (stage reads (length reads) query)) ≡ is_moved near frame bits (places_read queries all) query (suc (length reads))
    moved_query query = ap is_some (sym (awaited_there query))

    -- the session after the next plane of the column
    pub session_more : session_stepped (session reads (length reads)) column plane ≡ session all (length all)
    session_more =
        let n = length reads in
        let one : suc n ≡ length all = (let long = length-append reads (column ∷ []) in omega (arith, long)) in
        let add : n + 1 ≡ suc n = omega arith in
        let stages : map (followed near place plane) (map (stage reads n) queries) ≡ map (stage all (suc n)) queries =
        map_map (stage reads n) (followed near place plane) queries
        ∙ same_maps (λ query. followed near place plane (stage reads n query)) (stage all (suc n)) queries (λ k query e. follow_query query) in
        let moved : map (λ s. is_some (awaited near place s)) (map (stage reads n) queries) ≡ map (λ query. is_moved near frame bits (places_read queries all) query (suc n)) queries =
        map_map (stage reads n) (λ s. is_some (awaited near place s)) queries
        ∙ same_maps (λ query. is_some (awaited near place (stage reads n query))) (λ query. is_moved near frame bits (places_read queries all) query (suc n)) queries (λ k query e. moved_query query) in
        ap (λ ss. record { near = near; rows = head.rows; columns = columns_named queries; stages = ss; moved = map (λ s. is_some (awaited near place s)) (map (stage reads n) queries); steps = n + 1 }) stages
        ∙ ap (λ ms. record { near = near; rows = head.rows; columns = columns_named queries; stages = map (stage all (suc n)) queries; moved = ms; steps = n + 1 }) moved
        ∙ ap (λ m. record { near = near; rows = head.rows; columns = columns_named queries; stages = map (stage all (suc n)) queries; moved = map (λ query. is_moved near frame bits (places_read queries all) query (suc n)) queries; steps = m }) add
        ∙ ap (session all) one

-- ---- steps

module _ (plan : Plan) (queries : List Query) (head : Head) (bits : Planes) where
  abbrev at : List ℕ → ℕ → Session
  at reads n = session_after plan.near queries head bits reads n

  pub chosen_unread : (reads : List ℕ) → AreSteps plan queries head bits reads → (n : ℕ) → n < length reads → IsUnread (session_outlook (at reads n)) (get_or reads n 0)
  chosen_unread reads steps n h = choice_is_unread plan.policy (session_outlook (at reads n)) (get_or reads n 0) (steps.chosen n h)

  pub next_unread : (reads : List ℕ) (next : ℕ) → IsFollowed (steps_of plan queries head bits) reads next → IsUnread (session_outlook (at reads (length reads))) next
  next_unread reads next followed = choice_is_unread plan.policy (session_outlook (at reads (length reads))) next followed.chosen

  -- what steps read are columns of the session
  pub are_columns : (reads : List ℕ) → AreSteps plan queries head bits reads → AreColumns queries reads
  are_columns reads steps k h = (chosen_unread reads steps k h).column
