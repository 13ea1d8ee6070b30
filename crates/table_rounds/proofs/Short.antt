-- A session reads each plane of its columns once at most.
use Rattle.std.proofs.Common.{◌≡◌, ℕ, zero, suc, ◌+◌, ◌<◌, ◌≤◌, zero-le, List, [], length, get_or, map, refl, sym, ap, ◌∙◌, subst, arith, sum}
use Rattle.daq_table.specs.declared.table_head.Head.{Head}
use Rattle.daq_table.specs.Tables.{Frame, ends_at, frame_of, no_ends, planes}
use Rattle.known_column.specs.Columns.{KnownColumn}
use Rattle.multi_session.specs.Sessions.{columns_named}
use Rattle.plane_schedule.specs.declared.policy.Plan.{Plan}
use Rattle.query_model.specs.Knowledge.{AreCounts}
use Rattle.query_model.specs.Projection.{projected_frame}
use Rattle.query_model.specs.Queries.{All, Query}
use Rattle.query_model.specs.declared.query.Shape.TheVariants.{Plain}
use Rattle.table_rounds.proofs.Standing.{are_columns, chosen_unread, first_awaits, found, map_map}
use Rattle.table_rounds.proofs.SessionColumns.{told_of}
use Rattle.table_rounds.specs.SessionLaws.{SessionsAreShort}
use Rattle.table_rounds.specs.Steps.{AreSteps, place_of, session_after}
use Rattle.table_rounds.proofs.Counts.{count_of, count_there, length_of_counts, next_counts, sum_below, sum_of_none, sum_raised}
use Rattle.table_rounds.proofs.Reached.{columns_of_part, ends_there, more_counts}
use Rattle.table_rounds.specs.Rounds.{Planes, counts_after}

-- the session's columns as those of one query
abbrev joint : List Query → Query
joint queries = record { columns = columns_named queries; items = []; pred = All; shape = Plain }

module _ (plan : Plan) (queries : List Query) (head : Head) (bits : Planes) (reads : List ℕ) (steps : AreSteps plan queries head bits reads) where
  abbrev frame : Frame
  frame = frame_of head

  abbrev part : Frame
  part = projected_frame (joint queries) frame

  abbrev counts : ℕ → List ℕ
  counts n = counts_after (joint queries) reads n

  abbrev column : ℕ → ℕ
  column n = get_or reads n 0

  inside : (n : ℕ) → n < length reads → column n < length (columns_named queries)
  inside n h = (chosen_unread plan queries head bits reads steps n h).column

  -- a step reads an unread plane
  unread_there : (n : ℕ) → n < length reads → get_or (counts n) (column n) 0 < planes (ends_at part (column n))
  unread_there n h =
      let s = session_after plan.near queries head bits reads n in
      let c = column n in
      let has = chosen_unread plan queries head bits reads steps n h in
      let f = found s.near (place_of queries c) s.stages has.unread in
      let told = told_of plan.near queries head bits reads n c f.stage f.own (omega (arith, h)) (are_columns plan queries head bits reads steps) (inside n h) (first_awaits s c f) in
      let read = ap (λ (k : KnownColumn). k.known.read) told in
      let all = ap (λ (k : KnownColumn). planes k.ends) told in
      let ends = ap planes (ends_there (joint queries) frame c (inside n h)) in
      let count = count_there (joint queries) reads n c 0 (inside n h) in
      let some = has.unread in
      let left = f.unread in
      omega (arith, read, all, ends, count, some, left)

  few : (n : ℕ) → n ≤ length reads → AreCounts part (counts n)
  few zero h = record {
    columns = length_of_counts (joint queries) reads 0 ∙ sym (columns_of_part (joint queries) frame);
    few = λ c below. (let none : get_or (counts 0) c 0 ≡ 0 = count_there (joint queries) reads 0 c 0 (subst (λ n. c < n) (columns_of_part (joint queries) frame) below) in
        subst (λ n. n ≤ planes (ends_at part c)) (sym none) zero-le);
  }
  few (suc n) h =
      let here : n < length reads = omega (arith, h) in
      let in_part : column n < length part.columns = subst (λ m. column n < m) (sym (columns_of_part (joint queries) frame)) (inside n here) in
      let next = more_counts part (counts n) (column n) (few n (omega (arith, h))) in_part (unread_there n here) in
      let counted = next_counts (joint queries) reads n here (inside n here) in
      let one_more : n + 1 ≡ suc n = omega arith in
      subst (λ m. AreCounts part (counts m)) one_more (subst (AreCounts part) (sym counted) next)

  total : (n : ℕ) → n ≤ length reads → sum (counts n) ≡ n
  total zero h = sum_of_none 0 (length (columns_named queries)) (count_of reads 0) (λ c. refl)
  total (suc n) h =
      let here : n < length reads = omega (arith, h) in
      let counted = ap sum (next_counts (joint queries) reads n here (inside n here)) in
      let rest = total n (omega (arith, h)) in
      let raised = sum_raised (counts n) (column n) (subst (λ m. column n < m) (sym (length_of_counts (joint queries) reads n)) (inside n here)) in
      let one_more : n + 1 ≡ suc n = omega arith in
      let same : sum (counts (suc n)) ≡ sum (counts (n + 1)) = ap (λ m. sum (counts m)) (sym one_more) in
      omega (arith, rest, raised, same, counted)

  short : length reads ≤ sum (map (λ place. planes (ends_at frame place)) (columns_named queries))
  short =
      let all = total (length reads) (omega arith) in
      let are = few (length reads) (omega arith) in
      let below = sum_below (counts (length reads)) part.columns no_ends are.columns are.few in
      let same = ap sum (map_map (ends_at frame) planes (columns_named queries)) in
      omega (arith, all, below, same)

pub sessions_are_short : SessionsAreShort
sessions_are_short plan queries head bits reads steps = short plan queries head bits reads steps
