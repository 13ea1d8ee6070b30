-- Each step is read by some query, so there are no more steps than reads of all queries.
use Rattle.plane_schedule.specs.declared.policy.Nearness.{Nearness}
use Rattle.std.proofs.Common.{◌≡◌, ℕ, zero, suc, ◌+◌, ◌^◌, ◌<◌, ◌≤◌, Bool, Option, Some, None, List, [], ◌∷◌, length, map, get_or, set, refl, sym, ap, ◌∙◌, subst, arith, sum, sum_by, slice_get}
use Rattle.std.proofs.lemmas.List.{get_or-map, length-map, map-set}
use Rattle.std.proofs.lemmas.List.Sums.{sum_by-cons, sum_by-le, sum_by-set}
use Rattle.std.proofs.lemmas.Option.{same_Some}
use Rattle.std.specs.List.{All}
use Rattle.std.specs.Option.{option_map_or}
use Rattle.known_column.specs.KnownTables.{KnownTable}
use Rattle.query_model.specs.Knowledge.{ColumnKnowledge, Knowledge, known_at, longer_column, taken}
use Rattle.round_engine.specs.Progresses.{planes_read}
use Rattle.round_engine.specs.Stages.{IsOpenStage, Stage, stepped}
use Rattle.multi_session.specs.declared.member.Member.{Member}
use Rattle.multi_session.specs.Members.{HasFewPlanes, IsMember, earlier_table, stage_in, stages_of}
use Rattle.multi_session.specs.Sessions.{awaited, followed}
use Rattle.multi_session.proofs.Awaiting.{awaited_own, own_there}

-- ---- planes read

abbrev counts_of : Knowledge → List ℕ
counts_of known = map (λ column. column.read) known

-- a plane that is taken is one more
one_more_read : (known : Knowledge) (c : ℕ) (bits : List Bool) → c < length known → planes_read (taken known c bits) ≡ planes_read known + 1
one_more_read known c bits h =
    let nothing : ColumnKnowledge = record { read = 0; prefixes = [] } in
    let counts = counts_of known in
    let inside : c < length counts = subst (λ n. c < n) (sym (length-map known (λ (column : ColumnKnowledge). column.read))) h in
    let here : get_or counts c 0 ≡ (known_at known c).read = get_or-map (λ (column : ColumnKnowledge). column.read) known c nothing 0 h in
    let after : counts_of (taken known c bits) ≡ set counts c ((known_at known c).read + 1) = map-set (λ (column : ColumnKnowledge). column.read) known c (longer_column (known_at known c) bits) in
    let added = sum_by-set (λ (n : ℕ). n) counts c ((known_at known c).read + 1) 0 inside in
    let same : planes_read (taken known c bits) ≡ sum (set counts c ((known_at known c).read + 1)) = ap sum after in
    omega (arith, added, here, same)

-- a query has few planes
few_read : (stage : Stage) → IsOpenStage stage → HasFewPlanes stage → planes_read stage.known ≤ 1040
few_read stage is few =
    let wide = length-map stage.known (λ (column : ColumnKnowledge). column.read) in
    let all = sum_by-le (λ (n : ℕ). n) 65 (counts_of stage.known) each in
    let columns = is.knowledge.columns in
    let of_query = is.open_query.columns in
    let sixteen = is.open_query.few_columns in
    omega (arith, wide, all, columns, of_query, sixteen)
  where
    each : (k d : ℕ) → k < length (counts_of stage.known) → get_or (counts_of stage.known) k d ≤ 65
    each k d h =
        let nothing : ColumnKnowledge = record { read = 0; prefixes = [] } in
        let inside : k < length stage.known = subst (λ n. k < n) (length-map stage.known (λ (column : ColumnKnowledge). column.read)) h in
        let column : k < length stage.frame.columns = subst (λ n. k < n) is.knowledge.columns inside in
        let here : get_or (counts_of stage.known) k d ≡ (known_at stage.known k).read = get_or-map (λ (column : ColumnKnowledge). column.read) stage.known k nothing d inside in
        let within = is.knowledge.read k column in
        let fits = few k column in
        omega (arith, here, within, fits)

abbrev pub reads_of : Stage → ℕ
reads_of stage = planes_read stage.known

-- so there are few steps
pub few_steps : (near : Nearness) (steps : ℕ) (places : List ℕ) (table : KnownTable) (members : List Member) → All (IsMember near steps places table) members → length members ≤ 16 →
    steps ≤ sum_by reads_of (stages_of table members) → steps + 1 < 2 ^ 32
few_steps near steps places table members each sixteen counted =
    let all = sum_by-le reads_of 1040 (stages_of table members) few in
    let long = length-map members (stage_in table) in
    omega (arith, all, sixteen, counted, long)
  where
    few : (k : ℕ) (d : Stage) → k < length (stages_of table members) → reads_of (get_or (stages_of table members) k d) ≤ 1040
    few = by members each
      where
        by : (ms : List Member) → All (IsMember near steps places table) ms → (k : ℕ) (d : Stage) → k < length (stages_of table ms) → reads_of (get_or (stages_of table ms) k d) ≤ 1040
        by [] each k d h = absurd (omega arith)
        by (m ∷ ms) each zero d h = (let is = each 0 m (omega arith) in few_read (stage_in table m) is.open_stage is.few)
        by (m ∷ ms) each (suc k) d h = by ms (λ j e i. each (suc j) e (omega arith)) k d (omega arith)

-- ---- a step

columns_known : (stage : Stage) → IsOpenStage stage → (c : ℕ) → c < length stage.query.columns → c < length stage.known
columns_known stage is c h = let a = is.open_query.columns in let b = is.knowledge.columns in omega (arith, a, b)

module _ (near : Nearness) (place : ℕ) (bits : List Bool) where
  follows_none : (s : Stage) → awaited near place s ≡ None → reads_of (followed near place bits s) ≡ reads_of s
  follows_none s e = ap (λ o. reads_of (option_map_or (λ c. stepped s c bits) o s)) e

  follows_some : (s : Stage) → IsOpenStage s → (own : ℕ) → awaited near place s ≡ Some own → reads_of (followed near place bits s) ≡ reads_of s + 1
  follows_some s is own e =
      let (wide, here) = awaited_own near place s own e in
      let there = own_there s.query.columns place own here in
      ap (λ o. reads_of (option_map_or (λ c. stepped s c bits) o s)) e ∙ one_more_read s.known own bits (columns_known s is own there.0)

  no_less : (s : Stage) → IsOpenStage s → reads_of s ≤ reads_of (followed near place bits s)
  no_less s is = by (awaited near place s) refl
    where
      by : (o : Option ℕ) → awaited near place s ≡ o → reads_of s ≤ reads_of (followed near place bits s)
      by None e = let same = follows_none s e in omega (arith, same)
      by (Some own) e = let more = follows_some s is own e in omega (arith, more)

  all_read : (stages : List Stage) → All IsOpenStage stages → sum_by reads_of stages ≤ sum_by reads_of (map (followed near place bits) stages)
  all_read [] each = omega arith
  all_read (s ∷ ss) each =
      let first = no_less s (each 0 s (omega arith)) in
      let rest = all_read ss (λ k d h. each (suc k) d (omega arith)) in
      omega (arith, first, rest, sum_by-cons reads_of s ss, sum_by-cons reads_of (followed near place bits s) (map (followed near place bits) ss))

  -- a plane that some query awaits is one more read
  pub one_more_step : (stages : List Stage) → All IsOpenStage stages → (k : ℕ) (stage : Stage) (own : ℕ) → slice_get stages k ≡ Some stage → awaited near place stage ≡ Some own →
      sum_by reads_of stages + 1 ≤ sum_by reads_of (map (followed near place bits) stages)
  one_more_step [] each k stage own there waits = cc
  one_more_step (s ∷ ss) each zero stage own there waits =
      let first = follows_some s (each 0 s (omega arith)) own (ap (awaited near place) (same_Some s stage there) ∙ waits) in
      let rest = all_read ss (λ k d h. each (suc k) d (omega arith)) in
      omega (arith, first, rest, sum_by-cons reads_of s ss, sum_by-cons reads_of (followed near place bits s) (map (followed near place bits) ss))
  one_more_step (s ∷ ss) each (suc k) stage own there waits =
      let first = no_less s (each 0 s (omega arith)) in
      let rest = one_more_step ss (λ j d h. each (suc j) d (omega arith)) k stage own there waits in
      omega (arith, first, rest, sum_by-cons reads_of s ss, sum_by-cons reads_of (followed near place bits s) (map (followed near place bits) ss))

-- ---- the reads of a query

-- they are the planes that it took of its columns
pub counts_read : (table : KnownTable) (numbers counts : List ℕ) → length counts ≡ length numbers → planes_read (earlier_table table numbers counts).known ≡ sum counts
counts_read table numbers counts long = ap sum (same numbers counts long)
  where
    same : (numbers counts : List ℕ) → length counts ≡ length numbers → counts_of (earlier_table table numbers counts).known ≡ counts
    same [] [] long = refl
    same [] (k ∷ ks) long = absurd (omega arith)
    same (n ∷ ns) [] long = absurd (omega arith)
    same (n ∷ ns) (k ∷ ks) long = rw (same ns ks (omega arith)) refl
