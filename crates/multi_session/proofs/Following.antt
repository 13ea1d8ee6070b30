-- A query of a session follows its columns: a plane that it awaits is one of a column of its own, and no other plane changes where it stands.
use Rattle.plane_schedule.specs.declared.policy.Nearness.{Nearness}
use Rattle.std.proofs.Common.{◌≡◌, ◌≢◌, ◌⊎◌, inl, inr, ℕ, ◌+◌, ◌<◌, ◌≤◌, ◌==◌, Bool, true, false, if◌then◌else◌, Option, Some, None, List, length, map, get_or, set, refl, sym, ap, ◌∙◌, subst, arith, IsFalse, IsTrue, slice_index, is_some}
use Rattle.std.proofs.lemmas.Bool.{cases_eq}
use Rattle.std.proofs.lemmas.List.{get_or-map, get_or-set_other, get_or-set_same, get_or_read, length-map, length-set}
use Rattle.std.specs.List.{All, position}
use Rattle.std.specs.Option.{option_map_or}
use Rattle.daq_table.specs.Tables.{ends_at, planes}
use Rattle.known_column.specs.Columns.{KnownColumn}
use Rattle.known_column.specs.KnownTables.{KnownTable, column_at, lent_table, read_column}
use Rattle.query_model.specs.Knowledge.{CanTake, ColumnKnowledge, known_at}
use Rattle.query_model.specs.Validity.{no_repeats}
use Rattle.round_engine.specs.Engines.{stage_of}
use Rattle.round_engine.specs.Followers.{Follows, HasFollowed}
use Rattle.round_engine.specs.Narrowness.{is_narrow}
use Rattle.round_engine.specs.Stages.{IsOpenStage, Stage, stepped}
use Rattle.multi_session.specs.declared.member.Member.{Member}
use Rattle.multi_session.specs.Members.{AreColumns, CountAll, IsAbreast, IsBehind, IsCurrent, IsMember, StandOnce, WasHanded, column_of, judged, stage_in}
use Rattle.multi_session.specs.Sessions.{awaited, followed, own_column}
use Rattle.multi_session.proofs.Awaiting.{no_own, own_there}
use Rattle.multi_session.proofs.Earlier.{column_known, known_elsewhere, known_there, lent_column, lent_more, lent_still, lent_takes, table_all, table_still}
use Rattle.multi_session.proofs.Keeping.{stands_once}

-- ---- numbers of columns

module _ (places numbers columns : List ℕ) (column : ℕ) (named : columns ≡ map (slice_index places) numbers) where
  long : length columns ≡ length numbers
  long = ap length named ∙ length-map numbers (slice_index places)

  place_of : (c : ℕ) → c < length numbers → get_or columns c 0 ≡ slice_index places (slice_index numbers c)
  place_of c h = ap (λ cs. get_or cs c 0) named ∙ get_or-map (slice_index places) numbers c 0 0 h

  -- the query's column at the place of a column of the session is this one
  pub own_number : StandOnce places → column < length places → All (λ n. n < length places) numbers → (own : ℕ) →
      position (λ c. c == slice_index places column) columns ≡ Some own → (own < length numbers) × (slice_index numbers own ≡ column)
  own_number once inside below own e =
      let there = own_there columns (slice_index places column) own e in
      let here : own < length numbers = omega (arith, there.0, long) in
      (here, once (slice_index numbers own) column (below own 0 here) inside (sym (place_of own here) ∙ there.1))

  pub other_numbers : IsTrue (no_repeats columns) → (own : ℕ) → own < length numbers → slice_index numbers own ≡ column →
      (c : ℕ) → c < length numbers → c ≢ own → slice_index numbers c ≢ column
  other_numbers distinct own inside is c h other e =
      other (stands_once columns distinct c own (omega (arith, h, long)) (omega (arith, inside, long))
      (place_of c h ∙ ap (slice_index places) (e ∙ sym is) ∙ sym (place_of own inside)))

  pub no_number : position (λ c. c == slice_index places column) columns ≡ None → (c : ℕ) → c < length numbers → slice_index numbers c ≢ column
  no_number none c h e = no_own columns (slice_index places column) none c (omega (arith, h, long)) (place_of c h ∙ ap (slice_index places) e)

-- ---- a query that took all planes

-- what it took is what is known
pub stage_now : (table : KnownTable) (m : Member) → IsAbreast table m → stage_in table m ≡ stage_of m.follower.query (lent_table table m.numbers.items)
stage_now table m is = ap (stage_of m.follower.query) (table_all table m.numbers.items m.counts.items is.counts is.all)

pub column_now : (table : KnownTable) (m : Member) (own : ℕ) → IsAbreast table m → own < length m.numbers.items →
    column_of (stage_in table m) own ≡ column_at table (slice_index m.numbers.items own)
column_now table m own is h = ap (λ (s : Stage). column_of s own) (stage_now table m is) ∙ lent_column table m.numbers.items own h

-- ---- a plane of a column of the session

own_of_none : (b : Bool) (o : Option ℕ) → (if b then None else o) ≡ None → IsFalse b → o ≡ None
own_of_none true o e wide = cc
own_of_none false o e wide = e

some_own : (b : Bool) (o : Option ℕ) (own : ℕ) → (if b then None else o) ≡ Some own → IsFalse b × (o ≡ Some own)
some_own true o own e = cc
some_own false o own e = (refl, e)

module _ (near : Nearness) (steps column : ℕ) (places : List ℕ) (bits : List Bool) (before : KnownTable) (m : Member) (columns : AreColumns places before)
    (legal : CanTake before.frame before.known column bits) (is : IsMember near steps places before m) where
  inside : column < length places
  inside = let here = legal.column in let all = columns.count in omega (arith, here, all)

  known : column < length before.known
  known = column_known before column bits columns.known legal

  -- where it stands is not changed by what the session takes
  pub same_stage : stage_in (read_column before column bits) m ≡ stage_in before m
  same_stage = ap (stage_of m.follower.query) (table_still before column bits columns.known legal m.numbers.items m.counts.items is.counts is.taken)

  -- what it awaits
  pub waits_for : awaited near (slice_index places column) (stage_in (read_column before column bits) m)
      ≡ (if m.finished then None else own_column m.follower.query (slice_index places column))
  waits_for = ap (λ b. if b then None else own_column m.follower.query (slice_index places column)) (ap (is_narrow near) same_stage ∙ sym is.finished)

  further : (c : ℕ) → c < length m.numbers.items → slice_index m.counts.items c ≤ (known_at (read_column before column bits).known (slice_index m.numbers.items c)).read
  further c h = by (cases_eq (slice_index m.numbers.items c) column)
    where
      by : (slice_index m.numbers.items c ≡ column) ⊎ (slice_index m.numbers.items c ≢ column) →
          slice_index m.counts.items c ≤ (known_at (read_column before column bits).known (slice_index m.numbers.items c)).read
      by (inl e) = subst (λ n. slice_index m.counts.items c ≤ (known_at (read_column before column bits).known n).read) (sym e)
          (let few = is.taken c h in
          let there = ap (λ (k : ColumnKnowledge). k.read) (known_there before column bits known) in
          let same = ap (λ n. (known_at before.known n).read) e in
          omega (arith, few, there, same))
      by (inr other) =
          let few = is.taken c h in
          let same = ap (λ (k : ColumnKnowledge). k.read) (known_elsewhere before column bits (slice_index m.numbers.items c) other) in
          omega (arith, few, same)

  -- ---- where it does not await the plane

  still_abreast : (if m.finished then None else own_column m.follower.query (slice_index places column)) ≡ None → IsCurrent (steps + 1) m →
      IsAbreast (read_column before column bits) m
  still_abreast none (inr moved) = absurd (let past = is.past in omega (arith, past, moved))
  still_abreast none (inl wide) =
      let at = is.abreast (inl wide) in
      let others = no_number places m.numbers.items m.follower.query.columns column is.named
      (own_of_none m.finished (own_column m.follower.query (slice_index places column)) none wide) in
      record {
        inside = at.inside;
        counts = at.counts;
        all = λ c h. at.all c h ∙ sym (ap (λ (k : ColumnKnowledge). k.read) (known_elsewhere before column bits (slice_index m.numbers.items c) (others c h)));
        follows = subst (λ t. Follows t m.follower) (sym (lent_still before column bits m.numbers.items others)) at.follows;
      }

  pub not_handed : (if m.finished then None else own_column m.follower.query (slice_index places column)) ≡ None →
      WasHanded near (steps + 1) (slice_index places column) places bits (read_column before column bits) m m
  not_handed none =
      let waits = waits_for ∙ none in
      let stage = stage_in (read_column before column bits) m in
      record {
        stage = sym (ap (λ o. option_map_or (λ c. stepped stage c bits) o stage) waits);
        moved = sym (ap (λ o. if is_some o then steps + 1 else m.moved) waits);
        kept = record {
          inside = is.inside;
          named = is.named;
          distinct = is.distinct;
          counts = is.counts;
          taken = further;
          open_stage = subst IsOpenStage (sym same_stage) is.open_stage;
          few = is.few;
          finished = is.finished ∙ sym (ap (is_narrow near) same_stage);
          past = (let past = is.past in omega (arith, past));
          abreast = still_abreast none;
        };
      }

  -- ---- where it awaits the plane

  module _ (own : ℕ) (awaits : (if m.finished then None else own_column m.follower.query (slice_index places column)) ≡ Some own) where
    wide : IsFalse m.finished × (own_column m.follower.query (slice_index places column) ≡ Some own)
    wide = some_own m.finished (own_column m.follower.query (slice_index places column)) own awaits

    at : IsAbreast before m
    at = is.abreast (inl wide.0)

    pub here : (own < length m.numbers.items) × (slice_index m.numbers.items own ≡ column)
    here = own_number places m.numbers.items m.follower.query.columns column is.named columns.once inside is.inside own wide.1

    others : (c : ℕ) → c < length m.numbers.items → c ≢ own → slice_index m.numbers.items c ≢ column
    others = other_numbers places m.numbers.items m.follower.query.columns column is.named is.distinct own here.0 here.1

    lent : lent_table (read_column before column bits) m.numbers.items ≡ read_column (lent_table before m.numbers.items) own bits
    lent = lent_more before column bits m.numbers.items own known here.0 here.1 others

    -- it took all planes but this one
    pub counted : slice_index m.counts.items own ≡ (known_at before.known column).read
    counted = at.all own here.0 ∙ ap (λ n. (known_at before.known n).read) here.1

    -- what it keeps is to be brought up to this plane
    pub has_followed : HasFollowed (lent_table (read_column before column bits) m.numbers.items) own bits m.follower
    has_followed = record {
      before = lent_table before m.numbers.items;
      kept = at.follows;
      legal = lent_takes before m.numbers.items own column bits here.0 here.1 legal;
      read = lent;
    }

    all_counted : CountAll (read_column before column bits) m.numbers.items (set m.counts.items own (slice_index m.counts.items own + 1))
    all_counted c h = by (cases_eq c own)
      where
        reads : List ℕ
        reads = set m.counts.items own (slice_index m.counts.items own + 1)

        by : (c ≡ own) ⊎ (c ≢ own) → slice_index (set m.counts.items own (slice_index m.counts.items own + 1)) c ≡ (known_at (read_column before column bits).known (slice_index m.numbers.items c)).read
        by (inl e) = subst (λ i. slice_index (set m.counts.items own (slice_index m.counts.items own + 1)) i ≡ (known_at (read_column before column bits).known (slice_index m.numbers.items i)).read) (sym e)
            (get_or-set_same m.counts.items own (slice_index m.counts.items own + 1) 0 (subst (λ n. own < n) (sym at.counts) here.0)
            ∙ ap (λ n. n + 1) counted
            ∙ sym (ap (λ (k : ColumnKnowledge). k.read) (known_there before column bits known))
            ∙ sym (ap (λ n. (known_at (read_column before column bits).known n).read) here.1))
        by (inr other) =
            get_or-set_other m.counts.items own c (slice_index m.counts.items own + 1) 0 other ∙ at.all c h
            ∙ sym (ap (λ (k : ColumnKnowledge). k.read) (known_elsewhere before column bits (slice_index m.numbers.items c) (others c h other)))

    -- the member with the plane
    module _ (next : Member) (numbered : next.numbers ≡ m.numbers) (counting : next.counts.items ≡ set m.counts.items own (slice_index m.counts.items own + 1))
        (queried : next.follower.query ≡ m.follower.query) (follows : Follows (lent_table (read_column before column bits) m.numbers.items) next.follower) where
      pub now_abreast : IsAbreast (read_column before column bits) next
      now_abreast = record {
        inside = subst (λ v. All (λ number. number < length before.frame.columns) v.items) (sym numbered) at.inside;
        counts = ap length counting ∙ length-set m.counts.items own (slice_index m.counts.items own + 1) ∙ at.counts ∙ sym (ap (λ v. length v.items) numbered);
        all = subst (λ v. CountAll (read_column before column bits) v.items next.counts.items) (sym numbered)
            (subst (λ (cs : List ℕ). CountAll (read_column before column bits) m.numbers.items cs) (sym counting) all_counted);
        follows = subst (λ v. Follows (lent_table (read_column before column bits) v.items) next.follower) (sym numbered) follows;
      }

      next_stage : stage_in (read_column before column bits) next ≡ followed near (slice_index places column) bits (stage_in (read_column before column bits) m)
      next_stage =
          stage_now (read_column before column bits) next now_abreast
          ∙ ap (λ v. stage_of next.follower.query (lent_table (read_column before column bits) v.items)) numbered
          ∙ ap (λ q. stage_of q (lent_table (read_column before column bits) m.numbers.items)) queried
          ∙ ap (stage_of m.follower.query) lent
          ∙ ap (λ (s : Stage). stepped s own bits) (sym (stage_now before m at) ∙ sym same_stage)
          ∙ sym (ap (λ o. option_map_or (λ c. stepped (stage_in (read_column before column bits) m) c bits) o (stage_in (read_column before column bits) m)) (waits_for ∙ awaits))

      pub was_handed : next.moved ≡ steps + 1 → IsOpenStage (stage_in (read_column before column bits) next) →
          WasHanded near (steps + 1) (slice_index places column) places bits (read_column before column bits) m (judged near (read_column before column bits) next)
      was_handed moved is_open = record {
        stage = next_stage;
        moved = moved ∙ sym (ap (λ o. if is_some o then steps + 1 else m.moved) (waits_for ∙ awaits));
        kept = record {
          inside = subst (λ v. All (λ number. number < length places) v.items) (sym numbered) is.inside;
          named = ap (λ q. q.columns) queried ∙ is.named ∙ sym (ap (λ v. map (slice_index places) v.items) numbered);
          distinct = subst (λ q. IsTrue (no_repeats q.columns)) (sym queried) is.distinct;
          counts = now_abreast.counts;
          taken = λ c h. (let all = now_abreast.all c h in omega (arith, all));
          open_stage = is_open;
          few = subst (λ v. HasFew v.items) (sym numbered) is.few;
          finished = refl;
          past = (omega (arith, moved));
          abreast = λ current. let at = now_abreast in record { inside = at.inside; counts = at.counts; all = at.all; follows = at.follows };
        };
      }
        where
          HasFew : List ℕ → Type 0
          HasFew ns = (c : ℕ) → c < length (lent_table before ns).frame.columns → planes (ends_at (lent_table before ns).frame c) ≤ 65

-- ---- a member that was not handed the plane yet

module _ (near : Nearness) (step column : ℕ) (places : List ℕ) (bits : List Bool) (table : KnownTable) (m : Member) (behind : IsBehind near step column places bits table m)
    (place : ℕ) (there : place ≡ slice_index places column) where
  at_place : (o : Option ℕ) → o ≡ (if m.finished then None else own_column m.follower.query place) → o ≡ (if m.finished then None else own_column m.follower.query (slice_index places column))
  at_place o e = e ∙ ap (λ p. if m.finished then None else own_column m.follower.query p) there

  -- it does not await it
  pub is_passed : (o : Option ℕ) → o ≡ (if m.finished then None else own_column m.follower.query place) → o ≡ None →
      WasHanded near step (slice_index places column) places bits table m m
  is_passed o e none =
      subst (λ t. WasHanded near step (slice_index places column) places bits t m m) (sym behind.read)
      (subst (λ n. WasHanded near n (slice_index places column) places bits (read_column behind.before column bits) m m) (sym behind.next)
      (not_handed near behind.steps column places bits behind.before m behind.columns behind.legal behind.kept (sym (at_place o e) ∙ none)))

  -- it awaits it as one of a column of its own
  module _ (o : Option ℕ) (e : o ≡ (if m.finished then None else own_column m.follower.query place)) (own : ℕ) (some : o ≡ Some own) where
    awaits_it : (if m.finished then None else own_column m.follower.query (slice_index places column)) ≡ Some own
    awaits_it = sym (at_place o e) ∙ some

    own_here : (own < length m.numbers.items) × (slice_index m.numbers.items own ≡ column)
    own_here = here near behind.steps column places bits behind.before m behind.columns behind.legal behind.kept own awaits_it

    lent_is : (given : KnownTable) → given ≡ lent_table table m.numbers.items → given ≡ lent_table (read_column behind.before column bits) m.numbers.items
    lent_is given is = is ∙ ap (λ t. lent_table t m.numbers.items) behind.read

    pub may_refresh : (given : KnownTable) → given ≡ lent_table table m.numbers.items → HasFollowed given own bits m.follower
    may_refresh given is =
        subst (λ t. HasFollowed t own bits m.follower) (sym (lent_is given is))
        (has_followed near behind.steps column places bits behind.before m behind.columns behind.legal behind.kept own awaits_it)

    counts_below : own < length m.counts.items
    counts_below = let below = own_here.0 in let all = behind.kept.counts in omega (arith, below, all)

    -- there are few planes
    pub few_counted : (n : ℕ) → n ≡ get_or m.counts.items own n → n + 1 ≤ 65
    few_counted n is =
        let counts : n ≡ (known_at behind.before.known column).read =
        get_or_read m.counts.items own n counts_below is 0 ∙ counted near behind.steps column places bits behind.before m behind.columns behind.legal behind.kept own awaits_it in
        let unread = behind.legal.unread in
        let same : ends_at (lent_table behind.before m.numbers.items).frame own ≡ ends_at behind.before.frame column =
        ap (λ (k : KnownColumn). k.ends) (lent_column behind.before m.numbers.items own own_here.0) ∙ ap (ends_at behind.before.frame) own_here.1 in
        let few : planes (ends_at behind.before.frame column) ≤ 65 =
        subst (λ ends. planes ends ≤ 65) same (behind.kept.few own (subst (λ k. own < k) (sym (length-map m.numbers.items (ends_at behind.before.frame))) own_here.0)) in
        omega (arith, counts, unread, few)

    -- with it, it took all that was read
    module _ (next : Member) (n : ℕ) (numbered : next.numbers ≡ m.numbers) (is : n ≡ get_or m.counts.items own n) (counting : next.counts.items ≡ set m.counts.items own (n + 1))
        (queried : next.follower.query ≡ m.follower.query) (given : KnownTable) (lends : given ≡ lent_table table m.numbers.items) (follows : Follows given next.follower) where
      counting_is : next.counts.items ≡ set m.counts.items own (slice_index m.counts.items own + 1)
      counting_is = counting ∙ ap (λ k. set m.counts.items own (k + 1)) (get_or_read m.counts.items own n counts_below is 0)

      follows_it : Follows (lent_table (read_column behind.before column bits) m.numbers.items) next.follower
      follows_it = subst (λ t. Follows t next.follower) (lent_is given lends) follows

      pub is_abreast : IsAbreast table next
      is_abreast =
          subst (λ t. IsAbreast t next) (sym behind.read)
          (now_abreast near behind.steps column places bits behind.before m behind.columns behind.legal behind.kept own awaits_it next numbered counting_is queried follows_it)

      pub is_handed : next.moved ≡ step → IsOpenStage (stage_in table next) → WasHanded near step (slice_index places column) places bits table m (judged near table next)
      is_handed moved is_open =
          subst (λ t. WasHanded near step (slice_index places column) places bits t m (judged near t next)) (sym behind.read)
          (subst (λ k. WasHanded near k (slice_index places column) places bits (read_column behind.before column bits) m (judged near (read_column behind.before column bits) next)) (sym behind.next)
          (was_handed near behind.steps column places bits behind.before m behind.columns behind.legal behind.kept own awaits_it next numbered counting_is queried follows_it
          (moved ∙ behind.next) (subst (λ t. IsOpenStage (stage_in t next)) behind.read is_open)))
