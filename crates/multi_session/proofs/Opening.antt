-- A query of which nothing is read is a member of the session.
use Rattle.plane_schedule.specs.declared.policy.Nearness.{Nearness}
use Rattle.std.proofs.Common.{◌≡◌, ℕ, zero, suc, ◌^◌, ◌<◌, ◌≤◌, ◌==◌, true, List, [], ◌∷◌, ◌++◌, length, map, replicate, get_or, refl, sym, ap, ◌∙◌, subst, arith, slice_index, IsTrue}
use Rattle.std.proofs.lemmas.Bool.{eq-eqb}
use Rattle.std.proofs.lemmas.List.{get_or-map, get_or-replicate, get_or_default, length-map, length-replicate, map-append}
use Rattle.std.proofs.lemmas.List.Elements.{All-push}
use Rattle.std.proofs.lemmas.Option.{slice_get-get_or}
use Rattle.std.specs.List.{All, AllByRecursion}
use Rattle.daq_table.specs.declared.head.Ends.{Ends}
use Rattle.daq_table.specs.declared.table_head.Head.{Head}
use Rattle.daq_table.specs.Tables.{Frame, ends_at, frame_of, no_ends}
use Rattle.known_column.specs.KnownTables.{IsKnownTable, KnownTable, frame_at, lent_table, unread_table}
use Rattle.plane_schedule.specs.declared.progress.Progress.{Progress}
use Rattle.query_model.specs.Knowledge.{ColumnKnowledge, known_at, start}
use Rattle.query_model.specs.Projection.{projected_frame}
use Rattle.query_model.specs.Queries.{Query}
use Rattle.query_model.specs.Validity.{IsValid, no_repeats}
use Rattle.round_engine.specs.Engines.{stage_of}
use Rattle.round_engine.specs.Followers.{AreUnreadFor, Follows}
use Rattle.round_engine.specs.Progresses.{IsProgress}
use Rattle.round_engine.specs.Stages.{IsOpenStage, Stage, opened}
use Rattle.multi_session.specs.declared.member.Member.{Member}
use Rattle.multi_session.specs.Alone.{StandsFor}
use Rattle.multi_session.specs.Members.{AreColumns, AreOpened, AreUnread, CountAll, HasFewPlanes, IsAbreast, IsMember, IsOpened, IsReady, IsSession, Stands, judged, session_of, stage_in, stages_of}
use Rattle.multi_session.specs.Sessions.{columns_named, session_opened}
use Rattle.multi_session.proofs.Following.{stage_now}
use Rattle.multi_session.proofs.Named.{columns_hold, columns_once, columns_stand}

abbrev unread : ℕ → ColumnKnowledge
unread rows = record { read = 0; prefixes = replicate rows 0 }

abbrev nothing : ColumnKnowledge
nothing = record { read = 0; prefixes = [] }

-- ---- columns that are lent

unread_there : (frame : Frame) (c : ℕ) → c < length frame.columns → known_at (start frame) c ≡ unread frame.rows
unread_there frame c h = get_or-map (λ (_ : Ends). unread frame.rows) frame.columns c no_ends nothing h

module _ (head : Head) (places : List ℕ) where
  part : Frame
  part = frame_at (frame_of head) places

  inside_part : (numbers : List ℕ) → All (λ n. n < length places) numbers → All (λ n. n < length (frame_at (frame_of head) places).columns) numbers
  inside_part numbers inside k d h = subst (λ m. get_or numbers k d < m) (sym (length-map places (ends_at (frame_of head)))) (inside k d h)

  all_ends : (numbers : List ℕ) → All (λ n. n < length places) numbers →
      map (ends_at (frame_at (frame_of head) places)) numbers ≡ map (ends_at (frame_of head)) (map (slice_index places) numbers)
  all_ends [] inside = refl
  all_ends (n ∷ ns) inside =
      rw (get_or-map (ends_at (frame_of head)) places n 0 no_ends (inside 0 n (omega arith)), all_ends ns (λ k d h. inside (suc k) d (omega arith))) refl

  all_unread : (numbers : List ℕ) → All (λ n. n < length (frame_at (frame_of head) places).columns) numbers →
      map (known_at (start (frame_at (frame_of head) places))) numbers ≡ map (λ (_ : Ends). unread head.rows) (map (ends_at (frame_at (frame_of head) places)) numbers)
  all_unread [] inside = refl
  all_unread (n ∷ ns) inside =
      rw (unread_there (frame_at (frame_of head) places) n (inside 0 n (omega arith)), all_unread ns (λ k d h. inside (suc k) d (omega arith))) refl

  abbrev with_ends : List Ends → KnownTable
  with_ends columns = unread_table (record { rows = head.rows; columns = columns })

  -- nothing is read of those of a query
  lent_unread : (query : Query) (numbers : List ℕ) → All (λ n. n < length places) numbers → query.columns ≡ map (slice_index places) numbers →
      lent_table (unread_table (frame_at (frame_of head) places)) numbers ≡ unread_table (projected_frame query (frame_of head))
  lent_unread query numbers inside named =
      ap (λ ks. let t : KnownTable = record { frame = frame_at (frame_at (frame_of head) places) numbers; known = ks } in t) (all_unread numbers (inside_part numbers inside))
      ∙ ap with_ends (all_ends numbers inside ∙ ap (map (ends_at (frame_of head))) (sym named))

  lent_is : (table : KnownTable) (query : Query) (numbers : List ℕ) → AreUnread head places table → All (λ n. n < length places) numbers → query.columns ≡ map (slice_index places) numbers →
      lent_table table numbers ≡ unread_table (projected_frame query (frame_of head))
  lent_is table query numbers none inside named = ap (λ t. lent_table t numbers) none ∙ lent_unread query numbers inside named

  pub unread_for : (table : KnownTable) (query : Query) (numbers : List ℕ) → AreUnread head places table → IsValid head query → All (λ n. n < length places) numbers →
      query.columns ≡ map (slice_index places) numbers → AreUnreadFor query (lent_table table numbers)
  unread_for table query numbers none valid inside named = record { head = head; valid = valid; unread = lent_is table query numbers none inside named }

  none_counted : (table : KnownTable) (numbers : List ℕ) → AreUnread head places table → All (λ n. n < length places) numbers → CountAll table numbers (replicate (length numbers) 0)
  none_counted table numbers none inside c h =
      get_or-replicate (length numbers) c 0 0 h
      ∙ sym (ap (λ t. (known_at t.known (slice_index numbers c)).read) none
      ∙ ap (λ (k : ColumnKnowledge). k.read) (unread_there (frame_at (frame_of head) places) (slice_index numbers c) (inside_part numbers inside c 0 h)))

  -- a query that follows them took all that was read
  pub opened_abreast : (table : KnownTable) (m : Member) → AreUnread head places table → AreColumns places table → All (λ n. n < length places) m.numbers.items →
      m.counts.items ≡ replicate (length m.numbers.items) 0 → Follows (lent_table table m.numbers.items) m.follower → IsAbreast table m
  opened_abreast table m none columns inside counts follows = record {
    inside = λ k d h. (let below = inside k d h in let all = columns.count in omega (arith, below, all));
    counts = ap length counts ∙ length-replicate (length m.numbers.items) 0;
    all = subst (λ (cs : List ℕ). CountAll table m.numbers.items cs) (sym counts) (none_counted table m.numbers.items none inside);
    follows = follows;
  }

  opened_stage : (table : KnownTable) (query : Query) (m : Member) → AreUnread head places table → IsAbreast table m → All (λ n. n < length places) m.numbers.items →
      query.columns ≡ map (slice_index places) m.numbers.items → m.follower.query ≡ query → stage_in table m ≡ opened query head
  opened_stage table query m none abreast inside named is =
      stage_now table m abreast ∙ ap (λ q. stage_of q (lent_table table m.numbers.items)) is
      ∙ ap (stage_of query) (lent_is table query m.numbers.items none inside named)

  few_planes : (query : Query) (p : Progress) → IsProgress (opened query head) p → HasFewPlanes (opened query head)
  few_planes query p is c h =
      let all = is.unread c h in
      let few = is.sound.unread c in
      let none = ap (λ (k : ColumnKnowledge). k.read) (unread_there (projected_frame query (frame_of head)) c h) in
      omega (arith, all, few, none)

  pub opened_is : (near : Nearness) (table : KnownTable) (query : Query) (p : Progress) (m : Member) → IsValid head query → AreUnread head places table → IsAbreast table m →
      All (λ n. n < length places) m.numbers.items → query.columns ≡ map (slice_index places) m.numbers.items → m.follower.query ≡ query → m.moved ≡ 0 →
      IsProgress (stage_in table m) p → IsOpenStage (stage_in table m) → IsOpened query head near places table (judged near table m)
  opened_is near table query p m valid none abreast inside named is unmoved progress is_open = record {
    stage = stage;
    unmoved = unmoved;
    kept = record {
      inside = inside;
      named = ap (λ q. q.columns) is ∙ named;
      distinct = subst (λ q. IsTrue (no_repeats q.columns)) (sym is) valid.distinct;
      counts = abreast.counts;
      taken = λ c h. (let all = abreast.all c h in omega (arith, all));
      open_stage = is_open;
      few = subst HasFewPlanes (sym stage) (few_planes query p (subst (λ (s : Stage). IsProgress s p) stage progress));
      finished = refl;
      past = (omega (arith, unmoved));
      abreast = λ current. record { inside = abreast.inside; counts = abreast.counts; all = abreast.all; follows = abreast.follows };
    };
  }
    where
      stage : stage_in table m ≡ opened query head
      stage = opened_stage table query m none abreast inside named is

-- ---- all queries

-- one query more is opened
opened_more : (queries : List Query) (query : Query) (head : Head) (near : Nearness) (places : List ℕ) (table : KnownTable) (members new : List Member) (m : Member) →
    AreOpened queries head near places table members → new ≡ members ++ m ∷ [] → IsOpened query head near places table m →
    AreOpened (queries ++ query ∷ []) head near places table new
opened_more queries query head near places table members new m are pushed is = record {
  stages = ap (stages_of table) pushed
      ∙ map-append (stage_in table) members (m ∷ [])
      ∙ ap (λ ss. ss ++ stage_in table m ∷ []) are.stages
      ∙ ap (λ s. map (λ q. opened q head) queries ++ s ∷ []) is.stage
      ∙ sym (map-append (λ (q : Query). opened q head) queries (query ∷ []));
  unmoved = subst (All (λ (n : Member). n.moved ≡ 0)) (sym pushed) (All-push (λ (n : Member). n.moved ≡ 0) members m are.unmoved is.unmoved);
  each = subst (All (IsMember near 0 places table)) (sym pushed) (All-push (IsMember near 0 places table) members m are.each is.kept);
}

-- ---- the next query

cons : {X : Type 0} (P : X → Type 0) (x : X) (xs : List X) → P x → All P xs → All P (x ∷ xs)
cons P x xs here rest zero d h = here
cons P x xs here rest (suc k) d h = rest k d (omega arith)

all_parts : {X : Type 0} (P : X → Type 0) (xs : List X) (x : X) → All P (xs ++ x ∷ []) → All P xs × P x
all_parts P [] x all = ((λ k d h. absurd (omega arith)), all 0 x (omega arith))
all_parts P (y ∷ ys) x all =
    let (rest, last) = all_parts P ys x (λ k d h. all (suc k) d (omega arith)) in
    (cons P y ys (all 0 y (omega arith)) rest, last)

pub open_more : (queries : List Query) (query : Query) (near : Nearness) (places : List ℕ) (table : KnownTable) (members new : List Member) (m : Member) →
    ((head : Head) → All (IsValid head) queries → AreUnread head places table → AreOpened queries head near places table members) →
    new ≡ members ++ m ∷ [] → ((head : Head) → IsValid head query → AreUnread head places table → IsOpened query head near places table m) →
    (head : Head) → All (IsValid head) (queries ++ query ∷ []) → AreUnread head places table → AreOpened (queries ++ query ∷ []) head near places table new
open_more queries query near places table members new m before pushed opens head valid none =
    let (rest, last) = all_parts (IsValid head) queries query valid in
    opened_more queries query head near places table members new m (before head rest none) pushed (opens head last none)

all_zero : (members : List Member) → All (λ (m : Member). m.moved ≡ 0) members → map (λ (m : Member). m.moved == 0) members ≡ replicate (length members) true
all_zero [] zeros = refl
all_zero (m ∷ ms) zeros = rw (eq-eqb m.moved 0 (zeros 0 m (omega arith)), all_zero ms (λ k d h. zeros (suc k) d (omega arith))) refl

module _ (queries : List Query) (head : Head) (near : Nearness) (places : List ℕ) (table : KnownTable) (members : List Member) (are : AreOpened queries head near places table members) where
  count_of : length members ≡ length queries
  count_of = sym (length-map members (stage_in table)) ∙ ap length are.stages ∙ length-map queries (λ (q : Query). opened q head)

  -- so a session is opened
  pub session_is : places ≡ columns_named queries → AreUnread head places table → session_of near places table members 0 ≡ session_opened queries head near
  session_is named none =
      let moved : map (λ (m : Member). m.moved == 0) members ≡ replicate (length queries) true = all_zero members are.unmoved ∙ ap (λ n. replicate n true) count_of in
      ap (λ cs. session_of near cs table members 0) named
      ∙ ap (λ (r : ℕ). record { near = near; rows = r; columns = columns_named queries; stages = stages_of table members; moved = map (λ (m : Member). m.moved == 0) members; steps = 0 }) (ap (λ t. t.frame.rows) none)
      ∙ ap (λ ss. record { near = near; rows = head.rows; columns = columns_named queries; stages = ss; moved = map (λ (m : Member). m.moved == 0) members; steps = 0 }) are.stages
      ∙ ap (λ ms. record { near = near; rows = head.rows; columns = columns_named queries; stages = map (λ q. opened q head) queries; moved = ms; steps = 0 }) moved

  -- and keeps what a session does
  pub session_opens : near.width < 2 ^ 63 → AreColumns places table → length places ≤ 16 → length queries ≤ 16 → IsSession near places table members 0
  session_opens small columns few_columns few_queries = record {
    narrow = small;
    columns = columns;
    few_columns = few_columns;
    few_members = subst (λ n. n ≤ 16) (sym count_of) few_queries;
    each = are.each;
    counted = omega arith;
  }

-- nothing is read, so each query stands where it would alone
pub stands_at_first : (queries : List Query) (head : Head) (near : Nearness) → StandsFor queries head [] (session_opened queries head near)
stands_at_first queries head near = record { stages = refl; count = refl }

-- ---- the columns of the session

pub each_of : {X : Type 0} (P : X → Type 0) (xs : List X) → AllByRecursion P xs → All P xs
each_of P [] all k d h = absurd (omega arith)
each_of P (x ∷ xs) all zero d h = all.0
each_of P (x ∷ xs) all (suc k) d h = each_of P xs all.1 k d (omega arith)

-- they are in the table
pub named_inside : (queries : List Query) (head : Head) → All (IsValid head) queries → All (λ place. place < length head.columns) (columns_named queries)
named_inside queries head valid = columns_hold (λ place. place < length head.columns) queries (λ k d h. each_of (λ place. place < length head.columns) (get_or queries k d).columns (valid k d h).in_range)

-- and nothing is read of them
pub columns_are : (queries : List Query) (head : Head) (places : List ℕ) (table : KnownTable) → places ≡ columns_named queries → AreUnread head places table → IsKnownTable table → AreColumns places table
columns_are queries head places table named none known = record {
  count = ap (λ t. length t.frame.columns) none ∙ length-map places (ends_at (frame_of head));
  once = subst (λ cs. (i j : ℕ) → i < length cs → j < length cs → slice_index cs i ≡ slice_index cs j → i ≡ j) (sym named) (columns_once queries);
  known = known;
}

-- each query reads some of them
named_stand : (queries : List Query) (places : List ℕ) → places ≡ columns_named queries → All (λ (q : Query). All (Stands places) q.columns) queries
named_stand queries places named k q h j p i =
    subst (λ cs. Stands cs (get_or (get_or queries k q).columns j p)) (sym named)
    (columns_stand queries k (get_or queries k q) (get_or (get_or queries k q).columns j p) (slice_get-get_or queries k q h) (j, i, get_or_default (get_or queries k q).columns j 0 p i))

-- so each can be opened
pub all_ready : (queries : List Query) (head : Head) (places : List ℕ) (table : KnownTable) → places ≡ columns_named queries → All (IsValid head) queries → AreUnread head places table →
    All (IsReady places table) queries
all_ready queries head places table named valid none k d h = record { named = named_stand queries places named k d h; head = head; valid = valid k d h; unread = none }
