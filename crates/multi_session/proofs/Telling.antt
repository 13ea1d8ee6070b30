-- How far a session has come, query by query.
use Rattle.plane_schedule.specs.declared.policy.Nearness.{Nearness}
use Rattle.std.proofs.Common.{◌≡◌, ℕ, suc, ◌+◌, ◌<◌, ◌≤◌, ◌||◌, max, Bool, true, false, Some, None, if◌then◌else◌, List, [], ◌∷◌, ◌++◌, length, map, get_or, take, drop, drop-cons, refl, sym, ap, ◌∙◌, arith, fold, count_by, sum_by}
use Rattle.std.proofs.lemmas.List.{map_more}
use Rattle.std.proofs.lemmas.List.FromFn.{length-range_with_len}
use Rattle.std.proofs.lemmas.List.Sums.{count_by-le-length, sum_by-append, sum_by-cons}
use Rattle.std.specs.List.{range_with_len}
use Rattle.std.specs.Option.{option_map_or}
use Rattle.kleene_filter.specs.Filters.{is_possible, is_unknown}
use Rattle.known_column.specs.KnownTables.{KnownTable}
use Rattle.plane_schedule.specs.declared.progress.Role.{Role}
use Rattle.plane_schedule.specs.declared.progress.Role.TheVariants.{Filter, Group, Value}
use Rattle.query_model.specs.Knowledge.{ranges_of}
use Rattle.query_model.specs.Truths.{truth_of}
use Rattle.query_model.specs.declared.bounds.Truth.{Truth}
use Rattle.round_engine.specs.Narrowness.{is_narrow}
use Rattle.round_engine.specs.Progresses.{gives_values, possible_rows, role_of, taken_of, unknown_rows}
use Rattle.round_engine.specs.Stages.{IsOpenStage, Stage}
use Rattle.multi_session.specs.declared.member.Member.{Member}
use Rattle.multi_session.specs.Members.{stage_in, stages_of}
use Rattle.multi_session.specs.Sessions.{awaited, first_role, gives_for, role_for, rows_in, taken_for, unread_in, unread_of}

pub value_last : (role : Role) → first_role role Value ≡ role
value_last Filter = refl
value_last Group = refl
value_last Value = refl

pub role_some : (near : Nearness) (place own : ℕ) (stage : Stage) → awaited near place stage ≡ Some own → role_for near place stage ≡ role_of stage.query own
role_some near place own stage e = ap (λ o. option_map_or (role_of stage.query) o Value) e

pub role_none : (near : Nearness) (place : ℕ) (role : Role) (stage : Stage) → awaited near place stage ≡ None → first_role role (role_for near place stage) ≡ role
role_none near place role stage e = ap (λ o. first_role role (option_map_or (role_of stage.query) o Value)) e ∙ value_last role

pub taken_some : (near : Nearness) (place own : ℕ) (stage : Stage) → awaited near place stage ≡ Some own → taken_for near place stage ≡ taken_of stage own
taken_some near place own stage e = ap (λ o. option_map_or (taken_of stage) o 0) e

pub taken_none : (near : Nearness) (place taken : ℕ) (stage : Stage) → awaited near place stage ≡ None → max taken (taken_for near place stage) ≡ taken
taken_none near place taken stage e =
    let none : taken_for near place stage ≡ 0 = ap (λ o. option_map_or (taken_of stage) o 0) e in
    ap (max taken) none ∙ (omega arith)

pub gives_some : (near : Nearness) (place own : ℕ) (stage : Stage) → awaited near place stage ≡ Some own → gives_for near place stage ≡ gives_values stage.query own
gives_some near place own stage e = ap (λ o. option_map_or (gives_values stage.query) o false) e

or_nothing : (b : Bool) → b || false ≡ b
or_nothing true = refl
or_nothing false = refl

pub gives_none : (near : Nearness) (place : ℕ) (gives : Bool) (stage : Stage) → awaited near place stage ≡ None → gives || gives_for near place stage ≡ gives
gives_none near place gives stage e = ap (λ o. gives || option_map_or (gives_values stage.query) o false) e ∙ or_nothing gives

-- the rows that are counted of a query that goes on
abbrev pub rows_at : (Stage → ℕ) → Nearness → Stage → ℕ
rows_at count near stage = if is_narrow near stage then 0 else count stage

few_counted : (test : Truth → Bool) (stage : Stage) → IsOpenStage stage → count_by (λ r. test (truth_of stage.query.pred (ranges_of stage.frame stage.known r))) (range_with_len 0 stage.frame.rows) ≤ 16777216
few_counted test stage is =
    let all = count_by-le-length (λ r. test (truth_of stage.query.pred (ranges_of stage.frame stage.known r))) (range_with_len 0 stage.frame.rows) in
    let rows = length-range_with_len 0 stage.frame.rows in
    let few = is.open_query.few_rows in
    omega (arith, all, rows, few)

pub few_unknown : (stage : Stage) → IsOpenStage stage → unknown_rows stage ≤ 16777216
few_unknown stage is = few_counted is_unknown stage is

pub few_possible : (stage : Stage) → IsOpenStage stage → possible_rows stage ≤ 16777216
few_possible stage is = few_counted is_possible stage is

module _ (table : KnownTable) where
  -- the members from a place on
  pub unread_from : (near : Nearness) (place : ℕ) (members : List Member) (i : ℕ) (d : Member) → i < length members →
      unread_in near place (stages_of table (drop i members))
      ≡ option_map_or (unread_of (stage_in table (get_or members i d))) (awaited near place (stage_in table (get_or members i d))) (unread_in near place (stages_of table (drop (i + 1) members)))
  unread_from near place members i d h =
      let next : suc i ≡ i + 1 = omega arith in
      ap (λ ms. unread_in near place (stages_of table ms)) (drop-cons members i d h ∙ ap (λ n. get_or members i d ∷ drop n members) next)

  pub folded_from : {X : Type 0} (join : X → X → X) (of : Stage → X) (x : X) (members : List Member) (i : ℕ) (d : Member) → i < length members →
      fold join x (map of (stages_of table (drop i members))) ≡ fold join (join x (of (stage_in table (get_or members i d)))) (map of (stages_of table (drop (i + 1) members)))
  folded_from join of x members i d h =
      let next : suc i ≡ i + 1 = omega arith in
      ap (λ ms. fold join x (map of (stages_of table ms))) (drop-cons members i d h ∙ ap (λ n. get_or members i d ∷ drop n members) next)

  pub rows_to : (count : Stage → ℕ) (near : Nearness) (members : List Member) (i : ℕ) (d : Member) → i < length members →
      rows_in count near (stages_of table (take (i + 1) members)) ≡ rows_in count near (stages_of table (take i members)) + rows_at count near (stage_in table (get_or members i d))
  rows_to count near members i d h =
      let stage = (stage_in table (get_or members i d)) in
      let more : stages_of table (take (i + 1) members) ≡ stages_of table (take i members) ++ stage ∷ [] = map_more (stage_in table) members i d h in
      let all = ap (sum_by (rows_at count near)) more in
      let parts = sum_by-append (rows_at count near) (stages_of table (take i members)) (stage ∷ []) in
      let one = sum_by-cons (rows_at count near) stage [] in
      omega (arith, all, parts, one)

  pub folded_more : {X : Type 0} (join : X → X → X) (of : Stage → X) (x next all : X) (members : List Member) (i : ℕ) (m : Member) → i < length members → m ≡ get_or members i m →
      next ≡ join x (of (stage_in table m)) → fold join x (map of (stages_of table (drop i members))) ≡ all →
      fold join next (map of (stages_of table (drop (i + 1) members))) ≡ all
  folded_more join of x next all members i m h is first kept =
      let told : next ≡ join x (of (stage_in table (get_or members i m))) = first ∙ ap (λ (n : Member). join x (of (stage_in table n))) is in
      ap (λ r. fold join r (map of (stages_of table (drop (i + 1) members)))) told
      ∙ sym (folded_from join of x members i m h) ∙ kept

  pub rows_wide : (count : Stage → ℕ) (near : Nearness) (m : Member) → m.finished ≡ is_narrow near (stage_in table m) → m.finished ≡ false → rows_at count near (stage_in table m) ≡ count (stage_in table m)
  rows_wide count near m is e = ap (λ b. if b then 0 else count (stage_in table m)) (sym is ∙ e)

  pub rows_narrow : (count : Stage → ℕ) (near : Nearness) (m : Member) → m.finished ≡ is_narrow near (stage_in table m) → m.finished ≡ true → rows_at count near (stage_in table m) ≡ 0
  rows_narrow count near m is e = ap (λ b. if b then 0 else count (stage_in table m)) (sym is ∙ e)

  pub rows_more : (count : Stage → ℕ) (near : Nearness) (members : List Member) (i rows next : ℕ) (m : Member) → i < length members → m ≡ get_or members i m →
      rows ≡ rows_in count near (stages_of table (take i members)) → next ≡ rows + rows_at count near (stage_in table m) → next ≡ rows_in count near (stages_of table (take (i + 1) members))
  rows_more count near members i rows next m h is counted adds =
      let more = rows_to count near members i m h in
      let same : rows_at count near (stage_in table m) ≡ rows_at count near (stage_in table (get_or members i m)) = ap (λ (n : Member). rows_at count near (stage_in table n)) is in
      omega (arith, more, same, counted, adds)
