-- The queries that await a plane, among the stages of a session: the first of them, and what each knows of the column.
use Rattle.plane_schedule.specs.declared.policy.Nearness.{Nearness}
use Rattle.std.proofs.Common.{◌≡◌, ◌⊎◌, inl, inr, ℕ, zero, suc, ◌+◌, ◌-◌, ◌<◌, ◌≤◌, Bool, true, if◌then◌else◌, is_some, Option, Some, None, option_map, List, [], ◌∷◌, length, get_or, refl, sym, ap, ◌∙◌, subst, arith, slice_get, slice_index}
use Rattle.std.proofs.lemmas.Option.{same_Some, slice_get-get_or, slice_get-map, slice_get_cases}
use Rattle.std.proofs.lemmas.List.{length-map}
use Rattle.std.specs.List.{All}
use Rattle.std.specs.Option.{option_map_or}
use Rattle.daq_table.specs.Tables.{ends_at, planes}
use Rattle.known_column.specs.Columns as columns
use Rattle.known_column.specs.Columns.{KnownColumn}
use Rattle.known_column.specs.KnownTables.{KnownTable, column_at}
use Rattle.query_model.specs.Knowledge.{CanTake, IsLegal, known_at, longer}
use Rattle.round_engine.specs.Stages.{IsFirstOver, Stage}
use Rattle.multi_session.specs.declared.member.Member.{Member}
use Rattle.multi_session.specs.Members.{AreColumns, IsAbreast, IsMember, column_of, stage_in, stages_of}
use Rattle.multi_session.specs.Sessions.{awaited, own_column, unread_in, unread_of}
use Rattle.multi_session.proofs.Awaiting.{awaited_own}
use Rattle.multi_session.proofs.Following.{column_now, own_number}

-- ---- the first query that awaits a plane

pub record Found (near : Nearness) (place : ℕ) (stages : List Stage) : Type 0 where
  pub number : ℕ
  pub stage : Stage
  pub own : ℕ
  pub there : slice_get stages number ≡ Some stage
  pub waits : awaited near place stage ≡ Some own
  pub unread : unread_of stage own ≡ unread_in near place stages

found_first : (near : Nearness) (place own : ℕ) (s : Stage) (ss : List Stage) → awaited near place s ≡ Some own → Found near place (s ∷ ss)
found_first near place own s ss e = record {
  number = 0;
  stage = s;
  own = own;
  there = refl;
  waits = e;
  unread = sym (ap (λ o. option_map_or (unread_of s) o (unread_in near place ss)) e);
}

found_later : (near : Nearness) (place : ℕ) (s : Stage) (ss : List Stage) → awaited near place s ≡ None → Found near place ss → Found near place (s ∷ ss)
found_later near place s ss e rest = record {
  number = suc rest.number;
  stage = rest.stage;
  own = rest.own;
  there = rest.there;
  waits = rest.waits;
  unread = rest.unread ∙ sym (ap (λ o. option_map_or (unread_of s) o (unread_in near place ss)) e);
}

-- where a plane is unread
pub found : (near : Nearness) (place : ℕ) (stages : List Stage) → 0 < unread_in near place stages → Found near place stages
found near place [] some = absurd (omega arith)
found near place (s ∷ ss) some = by (awaited near place s) refl (found near place ss)
  where
    by : (o : Option ℕ) → awaited near place s ≡ o → (0 < unread_in near place ss → Found near place ss) → Found near place (s ∷ ss)
    by None e later = found_later near place s ss e (later (subst (λ n. 0 < n) (ap (λ o. option_map_or (unread_of s) o (unread_in near place ss)) e) some))
    by (Some own) e later = found_first near place own s ss e

-- where some query awaits one
pub found_with : (near : Nearness) (place : ℕ) (stages : List Stage) (k : ℕ) (stage : Stage) (own : ℕ) → slice_get stages k ≡ Some stage → awaited near place stage ≡ Some own → Found near place stages
found_with near place [] k stage own there waits = cc
found_with near place (s ∷ ss) zero stage own there waits = found_first near place own s ss (ap (awaited near place) (same_Some s stage there) ∙ waits)
found_with near place (s ∷ ss) (suc k) stage own there waits = by (awaited near place s) refl (found_with near place ss k stage own there waits)
  where
    by : (o : Option ℕ) → awaited near place s ≡ o → Found near place ss → Found near place (s ∷ ss)
    by None e later = found_later near place s ss e later
    by (Some first) e later = found_first near place first s ss e

-- ---- the member behind a stage

pub record Behind (table : KnownTable) (members : List Member) (k : ℕ) (stage : Stage) : Type 0 where
  pub member : Member
  pub inside : k < length members
  pub there : get_or members k member ≡ member
  pub stands : stage_in table member ≡ stage

none_is_some : {X : Type 0} (x : X) (P : Type 0) → None ≡ Some x → P
none_is_some x P e = cc

pub behind : (table : KnownTable) (members : List Member) (k : ℕ) (stage : Stage) → slice_get (stages_of table members) k ≡ Some stage → Behind table members k stage
behind table members k stage there = by (slice_get_cases members k).1
  where
    mapped : option_map (stage_in table) (slice_get members k) ≡ Some stage
    mapped = sym (slice_get-map (stage_in table) members k) ∙ there

    by : ((m : Member) × (k < length members) × (slice_get members k ≡ Some m) × (get_or members k m ≡ m)) ⊎ ((length members ≤ k) × (slice_get members k ≡ None)) →
        Behind table members k stage
    by (inl (m, inside, is, same)) = record {
      member = m;
      inside = inside;
      there = same;
      stands = same_Some (stage_in table m) stage (sym (ap (option_map (stage_in table)) is) ∙ mapped);
    }
    by (inr (past, none)) = none_is_some stage (Behind table members k stage) (sym (ap (option_map (stage_in table)) none) ∙ mapped)

-- what holds of each member's stage holds of each stage
pub of_each : (table : KnownTable) (members : List Member) (P : Stage → Type 0) → All (λ m. P (stage_in table m)) members →
    (k : ℕ) (stage : Stage) → slice_get (stages_of table members) k ≡ Some stage → P stage
of_each table members P all k stage there =
    let b = behind table members k stage there in
    subst P b.stands (subst (λ m. P (stage_in table m)) b.there (all k b.member b.inside))

-- ---- what is known of the column

-- a query's column is that of the session
pub record IsColumn (table : KnownTable) (column : ℕ) (stage : Stage) (own : ℕ) : Type 0 where
  pub inside : own < length stage.frame.columns
  pub same : column_of stage own ≡ column_at table column
  pub rows : stage.frame.rows ≡ table.frame.rows

-- a query that awaits a plane of a column knows of it what the session does
pub awaits_column : (near : Nearness) (steps column : ℕ) (places : List ℕ) (table : KnownTable) (m : Member) → AreColumns places table → column < length places →
    IsMember near steps places table m → (own : ℕ) → awaited near (slice_index places column) (stage_in table m) ≡ Some own → IsColumn table column (stage_in table m) own
awaits_column near steps column places table m columns inside is own waits =
    let (wide, here) = awaited_own near (slice_index places column) (stage_in table m) own waits in
    let at : IsAbreast table m = is.abreast (inl (is.finished ∙ wide)) in
    let (below, number) = own_number places m.numbers.items m.follower.query.columns column is.named columns.once inside is.inside own here in
    record {
      inside = subst (λ n. own < n) (sym (length-map m.numbers.items (ends_at table.frame))) below;
      same = column_now table m own at below ∙ ap (column_at table) number;
      rows = refl;
    }

abbrev pub left_of : KnownColumn → ℕ
left_of k = planes k.ends - k.known.read

module _ (near : Nearness) (steps column : ℕ) (places : List ℕ) (table : KnownTable) (members : List Member) (columns : AreColumns places table) (inside : column < length places)
    (each : All (IsMember near steps places table) members) where
  -- all that await it
  pub all_columns : (k : ℕ) (stage : Stage) → slice_get (stages_of table members) k ≡ Some stage → (own : ℕ) → awaited near (slice_index places column) stage ≡ Some own → IsColumn table column stage own
  all_columns = of_each table members (λ stage. (own : ℕ) → awaited near (slice_index places column) stage ≡ Some own → IsColumn table column stage own)
      (λ k d h. awaits_column near steps column places table (get_or members k d) columns inside (each k d h))

  -- have as many planes of it unread
  pub first_unread : Found near (slice_index places column) (stages_of table members) → unread_in near (slice_index places column) (stages_of table members) ≡ left_of (column_at table column)
  first_unread f = sym f.unread ∙ ap left_of (all_columns f.number f.stage f.there f.own f.waits).same

  pub unread_alike : (k : ℕ) (stage : Stage) → slice_get (stages_of table members) k ≡ Some stage → (own : ℕ) → awaited near (slice_index places column) stage ≡ Some own →
      unread_in near (slice_index places column) (stages_of table members) ≡ unread_of stage own
  unread_alike k stage there own waits =
      first_unread (found_with near (slice_index places column) (stages_of table members) k stage own there waits)
      ∙ sym (ap left_of (all_columns k stage there own waits).same)

-- a plane that the session's column takes is one that the query's column takes
pub can_take : (table : KnownTable) (column : ℕ) (stage : Stage) (own : ℕ) (bits : List Bool) → IsColumn table column stage own → CanTake table.frame table.known column bits →
    CanTake stage.frame stage.known own bits
can_take table column stage own bits is legal = record {
  column = is.inside;
  unread = subst (λ (k : KnownColumn). k.known.read < planes k.ends) (sym is.same) legal.unread;
  rows = legal.rows ∙ sym is.rows;
  legal = λ r h. subst (λ (k : KnownColumn). IsLegal k.ends (k.known.read + 1) (slice_index (longer k.known.prefixes bits) r)) (sym is.same) (legal.legal r (subst (λ n. r < n) is.rows h));
}

-- and one that is refused is refused there
pub first_over : (table : KnownTable) (column : ℕ) (stage : Stage) (own row : ℕ) (bits : List Bool) → IsColumn table column stage own →
    columns.rows_of_column (column_at table column) ≡ table.frame.rows → columns.IsFirstOver (column_at table column) bits row → IsFirstOver stage own bits row
first_over table column stage own row bits is rows over = record {
  in_range = subst (λ n. row < n) (rows ∙ sym is.rows) over.in_range;
  over = λ legal. over.over (subst (λ (k : KnownColumn). columns.StaysLegal k bits row) is.same legal);
  first = λ r h. subst (λ (k : KnownColumn). columns.StaysLegal k bits r) (sym is.same) (over.first r h);
}

-- ---- what a member is asked

module _ (near : Nearness) (steps : ℕ) (places : List ℕ) (table : KnownTable) (m : Member) (is : IsMember near steps places table m) (place : ℕ) where
  -- what it awaits is what its stage awaits
  pub awaits_is : (o : Option ℕ) → o ≡ (if m.finished then None else own_column m.follower.query place) → awaited near place (stage_in table m) ≡ o
  awaits_is o e = sym (e ∙ ap (λ b. if b then None else own_column m.follower.query place) is.finished)

some_of : (o : Option ℕ) → is_some o ≡ true → (own : ℕ) × (o ≡ Some own)
some_of None e = cc
some_of (Some own) e = (own, refl)

module _ (near : Nearness) (steps column : ℕ) (places : List ℕ) (table : KnownTable) (members : List Member) (columns : AreColumns places table) (inside : column < length places)
    (each : All (IsMember near steps places table) members) (k : ℕ) (m : Member) (below : k < length members) (is : m ≡ get_or members k m)
    (place : ℕ) (there : place ≡ slice_index places column) (o : Option ℕ) (asked : o ≡ (if m.finished then None else own_column m.follower.query place)) (some : is_some o ≡ true) where
  member : IsMember near steps places table m
  member = subst (IsMember near steps places table) (sym is) (each k m below)

  own : (own : ℕ) × (o ≡ Some own)
  own = some_of o some

  waits : awaited near (slice_index places column) (stage_in table m) ≡ Some own.0
  waits = sym (ap (λ p. awaited near p (stage_in table m)) there) ∙ awaits_is near steps places table m member place o asked ∙ own.1

  stands : slice_get (stages_of table members) k ≡ Some (stage_in table m)
  stands = slice_get-map (stage_in table) members k ∙ ap (option_map (stage_in table)) (slice_get-get_or members k m below ∙ ap Some (sym is))

  -- the unread planes of the column, where a member awaits one
  pub unread_here : (unread : ℕ) → unread + (known_at table.known column).read ≡ planes (ends_at table.frame column) →
      unread ≡ unread_in near (slice_index places column) (stages_of table members)
  unread_here unread e =
      let first = first_unread near steps column places table members columns inside each (found_with near (slice_index places column) (stages_of table members) k (stage_in table m) own.0 stands waits) in
      omega (arith, e, first)

  -- are few
  pub few_here : (unread : ℕ) → unread + (known_at table.known column).read ≡ planes (ends_at table.frame column) → unread ≤ 65
  few_here unread e =
      let here = awaits_column near steps column places table m columns inside member own.0 waits in
      let few = member.few own.0 here.inside in
      let same : planes (ends_at (stage_in table m).frame own.0) ≡ planes (ends_at table.frame column) = ap (λ (k : KnownColumn). planes k.ends) here.same in
      omega (arith, e, few, same)
