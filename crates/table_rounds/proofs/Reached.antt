-- What is known after rounds over planes: the next plane of the column that is chosen gives what is known after one round more.
use Rattle.std.proofs.Common.{◌≡◌, ◌≢◌, ◌⊎◌, ℕ, zero, suc, ◌+◌, ◌<◌, ◌≤◌, zero-le, List, [], length, map, get_or, set, refl, sym, ap, ◌∙◌, subst, arith, sum, inl, inr}
use Rattle.std.proofs.lemmas.Bool.{cases_eq}
use Rattle.std.proofs.lemmas.List.{get_or-map, get_or_default, get_or-set_same, get_or-set_other, length-map, length-set, same_lists}
use Rattle.std.proofs.lemmas.List.FromFn.{length-map-range_with_len, get_or-map-range_with_len}
use Rattle.daq_table.specs.Tables.{Frame, ends_at, no_ends, planes}
use Rattle.plane_schedule.proofs.Same.{choice_is_unread}
use Rattle.plane_schedule.specs.Choices.{IsUnread}
use Rattle.plane_schedule.specs.declared.policy.Plan.{Plan}
use Rattle.round_engine.specs.Progresses.{planes_read}
use Rattle.query_model.specs.Knowledge.{AreCounts, ColumnKnowledge, known_at, longer_column, taken}
use Rattle.query_model.specs.Projection.{projected_frame}
use Rattle.query_model.specs.Worlds.{IsPart, NamesColumns}
use Rattle.query_model.specs.declared.query.TypedQuery.{TypedQuery}
use Rattle.table_rounds.specs.Headline.{RoundsAreCounted, all_planes}
use Rattle.table_rounds.specs.Rounds.{AreRounds, Planes, counts_after, outlook_at, prefixes_by, stage_after, stage_by}
use Rattle.table_rounds.proofs.Counts.{count_of, count_there, length_of_counts, next_counts, sum_below, sum_of_none, sum_raised}

abbrev pub part_of : TypedQuery → Frame → Frame
part_of query frame = projected_frame query frame

pub is_part : (query : TypedQuery) (frame : Frame) → NamesColumns query frame → IsPart query frame (part_of query frame)
is_part query frame named = record { columns = named; same = refl }

pub columns_of_part : (query : TypedQuery) (frame : Frame) → length (part_of query frame).columns ≡ length query.columns
columns_of_part query frame = length-map query.columns (ends_at frame)

-- the ends of a column of the query's part are those of the table's column
pub ends_there : (query : TypedQuery) (frame : Frame) (c : ℕ) → c < length query.columns → ends_at frame (get_or query.columns c 0) ≡ ends_at (part_of query frame) c
ends_there query frame c h = sym (get_or-map (ends_at frame) query.columns c 0 no_ends h)

none_read : (query : TypedQuery) (frame : Frame) (reads : List ℕ) → AreCounts (part_of query frame) (counts_after query reads 0)
none_read query frame reads = record {
  columns = length_of_counts query reads 0 ∙ sym (columns_of_part query frame);
  few = λ c h. (let none : get_or (counts_after query reads 0) c 0 ≡ 0 = count_there query reads 0 c 0 (subst (λ n. c < n) (columns_of_part query frame) h) in
      subst (λ n. n ≤ planes (ends_at (part_of query frame) c)) (sym none) zero-le);
}

-- one plane more of a column
pub more_counts : (frame : Frame) (counts : List ℕ) (c : ℕ) → AreCounts frame counts → c < length frame.columns → get_or counts c 0 < planes (ends_at frame c) →
    AreCounts frame (set counts c (get_or counts c 0 + 1))
more_counts frame counts c are inside unread = record {
  columns = length-set counts c (get_or counts c 0 + 1) ∙ are.columns;
  few = λ d h. by d h (cases_eq d c);
}
  where
    by : (d : ℕ) → d < length frame.columns → ((d ≡ c) ⊎ (d ≢ c)) → get_or (set counts c (get_or counts c 0 + 1)) d 0 ≤ planes (ends_at frame d)
    by d h (inl e) =
        subst (λ n. get_or (set counts c (get_or counts c 0 + 1)) n 0 ≤ planes (ends_at frame n)) (sym e)
        (subst (λ n. n ≤ planes (ends_at frame c)) (sym (get_or-set_same counts c (get_or counts c 0 + 1) 0 (subst (λ n. c < n) (sym are.columns) inside))) (omega arith))
    by d h (inr n) = subst (λ k. k ≤ planes (ends_at frame d)) (sym (get_or-set_other counts c d (get_or counts c 0 + 1) 0 n)) (are.few d h)

module _ (query : TypedQuery) (frame : Frame) (bits : Planes) where
  -- what is known of a column
  pub known_there : (counts : List ℕ) (c : ℕ) → c < length query.columns →
      known_at (stage_by query frame bits counts).known c ≡ record { read = get_or counts c 0; prefixes = prefixes_by frame.rows (bits (get_or query.columns c 0)) (get_or counts c 0) }
  known_there counts c h =
      get_or-map-range_with_len (λ c. record { read = get_or counts c 0; prefixes = prefixes_by frame.rows (bits (get_or query.columns c 0)) (get_or counts c 0) }) 0 (length query.columns) c c _ h (omega arith)

  pub length_of_known : (counts : List ℕ) → length (stage_by query frame bits counts).known ≡ length query.columns
  length_of_known counts = length-map-range_with_len _ 0 (length query.columns)

  -- the planes of a column that are read, and unread
  pub read_there : (counts : List ℕ) (c : ℕ) → c < length (part_of query frame).columns → (known_at (stage_by query frame bits counts).known c).read ≡ get_or counts c 0
  read_there counts c h = ap (λ k. k.read) (known_there counts c (subst (λ n. c < n) (columns_of_part query frame) h))

  -- a plane of the column is unread
  pub has_plane : (counts : List ℕ) (c : ℕ) → IsUnread (outlook_at (stage_by query frame bits counts)) c → get_or counts c 0 < planes (ends_at (part_of query frame) c)
  has_plane counts c w =
      let read = read_there counts c w.column in
      let some = w.unread in
      omega (arith, read, some)

  -- what is known tells how many planes of each column were read
  reads_back : (counts : List ℕ) → length counts ≡ length query.columns → map (λ column. column.read) (stage_by query frame bits counts).known ≡ counts
  reads_back counts long =
      let known = (stage_by query frame bits counts).known in
      let n = length_of_known counts in
      let whole : length (map (λ (column : ColumnKnowledge). column.read) known) ≡ length known = length-map known (λ column. column.read) in
      same_lists (map (λ column. column.read) known) counts (whole ∙ n ∙ sym long) (λ c d h.
      let c_in : c < length query.columns = subst (λ k. c < k) (whole ∙ n) h in
      let nothing : ColumnKnowledge = record { read = 0; prefixes = [] } in
      get_or-map (λ (column : ColumnKnowledge). column.read) known c nothing d (subst (λ k. c < k) whole h)
      ∙ ap (λ k. k.read) (known_there counts c c_in) ∙ get_or_default counts c 0 d (subst (λ k. c < k) (sym long) c_in))

  -- to take the next plane of a column is to count it once more
  pub next_known : (counts : List ℕ) (c : ℕ) → length counts ≡ length query.columns → c < length query.columns →
      taken (stage_by query frame bits counts).known c (bits (get_or query.columns c 0) (get_or counts c 0)) ≡ (stage_by query frame bits (set counts c (get_or counts c 0 + 1))).known
  next_known counts c long inside =
      let old = (stage_by query frame bits counts).known in
      let new = (stage_by query frame bits (set counts c (get_or counts c 0 + 1))).known in
      let n = length_of_known counts in
      let n' = length_of_known (set counts c (get_or counts c 0 + 1)) in
      let nothing : ColumnKnowledge = record { read = 0; prefixes = [] } in
      let column = longer_column (known_at old c) (bits (get_or query.columns c 0) (get_or counts c 0)) in
      same_lists (set old c column) new (length-set old c column ∙ n ∙ sym n') (λ i d h.
      let i_in : i < length query.columns = subst (λ k. i < k) (length-set old c column ∙ n) h in
      get_or_default (set old c column) i d nothing h ∙ by i i_in (cases_eq i c) ∙ get_or_default new i nothing d (subst (λ k. i < k) (sym n') i_in))
    where
      by : (i : ℕ) → i < length query.columns → ((i ≡ c) ⊎ (i ≢ c)) →
          known_at (taken (stage_by query frame bits counts).known c (bits (get_or query.columns c 0) (get_or counts c 0))) i ≡ known_at (stage_by query frame bits (set counts c (get_or counts c 0 + 1))).known i
      by i h (inl e) =
          let old = (stage_by query frame bits counts).known in
          let new = (stage_by query frame bits (set counts c (get_or counts c 0 + 1))).known in
          let here = bits (get_or query.columns c 0) in
          let k = get_or counts c 0 in
          let nothing : ColumnKnowledge = record { read = 0; prefixes = [] } in
          let one_more : suc k ≡ k + 1 = omega arith in
          let read : get_or (set counts c (k + 1)) c 0 ≡ k + 1 = get_or-set_same counts c (k + 1) 0 (subst (λ n. c < n) (sym long) inside) in
          subst (λ i. known_at (taken old c (here k)) i ≡ known_at new i) (sym e)
          (get_or-set_same old c (longer_column (known_at old c) (here k)) nothing (subst (λ n. c < n) (sym (length_of_known counts)) inside)
          ∙ ap (λ w. longer_column w (here k)) (known_there counts c inside)
          ∙ ap (λ ps. record { read = k + 1; prefixes = ps }) (ap (prefixes_by frame.rows here) one_more)
          ∙ ap (λ n. record { read = n; prefixes = prefixes_by frame.rows here n }) (sym read)
          ∙ sym (known_there (set counts c (k + 1)) c inside))
      by i h (inr other) =
          let old = (stage_by query frame bits counts).known in
          let k = get_or counts c 0 in
          let nothing : ColumnKnowledge = record { read = 0; prefixes = [] } in
          get_or-set_other old c i (longer_column (known_at old c) (bits (get_or query.columns c 0) k)) nothing other ∙ known_there counts i h
          ∙ ap (λ n. record { read = n; prefixes = prefixes_by frame.rows (bits (get_or query.columns i 0)) n }) (sym (get_or-set_other counts c i (k + 1) 0 other))
          ∙ sym (known_there (set counts c (k + 1)) i h)

module _ (plan : Plan) (query : TypedQuery) (frame : Frame) (bits : Planes) where
  -- the column that a round read had an unread plane
  pub chosen_unread : (reads : List ℕ) → AreRounds plan query frame bits reads → (round : ℕ) → round < length reads →
      IsUnread (outlook_at (stage_after query frame bits reads round)) (get_or reads round 0)
  chosen_unread reads rounds round h = choice_is_unread plan.policy (outlook_at (stage_after query frame bits reads round)) (get_or reads round 0) (rounds.chosen round h)

  -- and is one of the query
  pub chosen_column : (reads : List ℕ) → AreRounds plan query frame bits reads → (round : ℕ) → round < length reads → get_or reads round 0 < length query.columns
  chosen_column reads rounds round h = subst (λ n. get_or reads round 0 < n) (columns_of_part query frame) (chosen_unread reads rounds round h).column

  -- the columns that were read so far were there, each with a plane unread
  pub reads_after : (reads : List ℕ) → AreRounds plan query frame bits reads → (round : ℕ) → round ≤ length reads → AreCounts (part_of query frame) (counts_after query reads round)
  reads_after reads rounds zero h = none_read query frame reads
  reads_after reads rounds (suc before) h =
      let inside : before < length reads = omega arith in
      let w = chosen_unread reads rounds before inside in
      let next = more_counts (part_of query frame) (counts_after query reads before) (get_or reads before 0) (reads_after reads rounds before (omega arith)) w.column
      (has_plane query frame bits (counts_after query reads before) (get_or reads before 0) w) in
      let counted = next_counts query reads before inside (chosen_column reads rounds before inside) in
      let one_more : before + 1 ≡ suc before = omega arith in
      subst (λ n. AreCounts (part_of query frame) (counts_after query reads n)) one_more (subst (AreCounts (part_of query frame)) (sym counted) next)

  -- each round reads one plane
  pub sum_of_counts : (reads : List ℕ) → AreRounds plan query frame bits reads → (round : ℕ) → round ≤ length reads → sum (counts_after query reads round) ≡ round
  sum_of_counts reads rounds zero h = sum_of_none 0 (length query.columns) (count_of reads 0) (λ c. refl)
  sum_of_counts reads rounds (suc before) h =
      let inside : before < length reads = omega arith in
      let in_query = chosen_column reads rounds before inside in
      let counted = next_counts query reads before inside in_query in
      let rest = sum_of_counts reads rounds before (omega arith) in
      let raised = sum_raised (counts_after query reads before) (get_or reads before 0) (subst (λ n. get_or reads before 0 < n) (sym (length_of_counts query reads before)) in_query) in
      let one_more : before + 1 ≡ suc before = omega arith in
      let same : sum (counts_after query reads (suc before)) ≡ sum (counts_after query reads (before + 1)) = ap (λ n. sum (counts_after query reads n)) (sym one_more) in
      let there = ap sum counted in
      omega (arith, rest, raised, same, there)

  -- so there are no more rounds than planes
  pub few_rounds : (reads : List ℕ) → AreRounds plan query frame bits reads → length reads ≤ all_planes query frame
  few_rounds reads rounds =
      let all = sum_of_counts reads rounds (length reads) (omega arith) in
      let are = reads_after reads rounds (length reads) (omega arith) in
      let below = sum_below (counts_after query reads (length reads)) (part_of query frame).columns no_ends are.columns are.few in
      omega (arith, all, below)

  -- so many planes were read after a round
  pub counted_after : (reads : List ℕ) → AreRounds plan query frame bits reads → (round : ℕ) → round ≤ length reads → planes_read (stage_after query frame bits reads round).known ≡ round
  counted_after reads rounds round h =
      ap sum (reads_back query frame bits (counts_after query reads round) (length_of_counts query reads round)) ∙ sum_of_counts reads rounds round h

pub rounds_are_counted : RoundsAreCounted
rounds_are_counted plan query frame bits reads stage after = ap (λ s. planes_read s.known) after.known ∙ counted_after plan query frame bits reads after.rounds (length reads) (omega arith)
