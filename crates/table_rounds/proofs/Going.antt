-- Rounds go on: where one is not the last the policy chooses a column, and its next plane is legal or refused, so there is a last round or such a plane.
use Rattle.std.proofs.Common.{◌≡◌, ◌⊎◌, ℕ, zero, suc, ◌+◌, ◌<◌, ◌≤◌, ◌==◌, Bool, List, map, count_by, [], ◌∷◌, ◌++◌, length, get_or, set, take, refl, sym, ap, ◌∙◌, subst, arith, inl, inr, IsNone, IsTrue, IsFalse, length-append, slice_get}
use Rattle.std.proofs.lemmas.Bool.{cases_Bool, cases_lt, false≢true}
use Rattle.std.proofs.lemmas.Bool.Decides.{nat_tests}
use Rattle.std.proofs.lemmas.List.{get_or-set_same, take-append-le}
use Rattle.std.proofs.lemmas.Option.{slice_get-get_or}
use Rattle.std.specs.declared.option.Option.TheVariants.{Some}
use Rattle.std.specs.List.{range_with_len}
use Rattle.daq_table.specs.Tables.{Frame, ends_at, planes}
use Rattle.multi_session.proofs.Named.{get_last}
use Rattle.plane_schedule.proofs.Same.{choice_is_unread}
use Rattle.plane_schedule.specs.Choices.{Chooses, HasChoice, HasUnread, IsNextListed, IsUnread}
use Rattle.plane_schedule.specs.Laws.{ChoicesAreOne, PoliciesChoose}
use Rattle.plane_schedule.specs.Plans.{IsReadable, IsReadableList, is_list_end, is_most}
use Rattle.plane_schedule.specs.declared.policy.Plan.{Plan}
use Rattle.plane_schedule.specs.declared.policy.Policy.{Policy}
use Rattle.plane_schedule.specs.declared.policy.Policy.TheVariants.{By, Listed}
use Rattle.query_model.specs.Knowledge.{CanTake, ColumnKnowledge, IsKnowledge, IsLegal, is_legal, known_at, longer, longer_column, taken}
use Rattle.query_model.specs.Laws.{TakenIsKnowledge}
use Rattle.query_model.specs.Worlds.{NamesColumns}
use Rattle.query_model.specs.declared.query.TypedQuery.{TypedQuery}
use Rattle.round_engine.specs.Narrowness.{is_narrow}
use Rattle.round_engine.specs.Progresses.{planes_read}
use Rattle.round_engine.specs.Stages.{IsFirstOver, Stage}
use Rattle.table_rounds.specs.Headline.{ListsAreRead, RoundsAreOne, RoundsHaveAnEnd, RoundsHavePlanes, all_planes}
use Rattle.table_rounds.specs.Courses.{IsFollowed, IsRefused, number_after}
use Rattle.table_rounds.specs.Outcomes.{ended, refused, unreadable}
use Rattle.table_rounds.specs.Rounds.{AreAllRounds, AreRounds, HaveRows, Planes, counts_after, ending_at, outlook_at, rounds_of, stage_after, stage_by}
use Rattle.table_rounds.proofs.Courses.{GoesOn, HasOutcome, IsLawful, has_outcome, one_list, one_more, same_take}
use Rattle.table_rounds.proofs.Counts.{count_there, length_of_counts, next_counts}
use Rattle.table_rounds.proofs.Listing.{all_at, longer_list, one_more_there, same_first}
use Rattle.table_rounds.proofs.Outlooks.{not_most}
use Rattle.table_rounds.proofs.Reached.{columns_of_part, counted_after, ends_there, few_rounds, next_known, part_of, read_there}

-- ---- one read more

pub take_all : (xs : List ℕ) → take (length xs) xs ≡ xs
take_all [] = refl
take_all (x ∷ xs) = ap (λ l. x ∷ l) (take_all xs)

-- what is known up to a round does not depend on later reads
pub same_counts : (query : TypedQuery) (reads more : List ℕ) (round : ℕ) → round ≤ length reads → counts_after query (reads ++ more) round ≡ counts_after query reads round
same_counts query reads more round h = ap (λ first. map (λ c. count_by (λ d. d == c) first) (range_with_len 0 (length query.columns))) (take-append-le round reads more h)

pub same_before : (query : TypedQuery) (frame : Frame) (bits : Planes) (reads more : List ℕ) (round : ℕ) → round ≤ length reads →
    stage_after query frame bits (reads ++ more) round ≡ stage_after query frame bits reads round
same_before query frame bits reads more round h = ap (stage_by query frame bits) (same_counts query reads more round h)

-- the last read counts for its column alone
pub last_counts : (query : TypedQuery) (reads : List ℕ) (c : ℕ) → c < length query.columns →
    counts_after query (reads ++ c ∷ []) (length reads + 1) ≡ set (counts_after query reads (length reads)) c (get_or (counts_after query reads (length reads)) c 0 + 1)
last_counts query reads c inside =
    let counts = counts_after query reads (length reads) in
    let long : length (reads ++ c ∷ []) ≡ length reads + 1 = length-append reads (c ∷ []) in
    let last : get_or (reads ++ c ∷ []) (length reads) 0 ≡ c = get_last reads c (length reads) refl in
    let counted = next_counts query (reads ++ c ∷ []) (length reads) (omega (arith, long)) (subst (λ k. k < length query.columns) (sym last) inside) in
    let unchanged : counts_after query (reads ++ c ∷ []) (length reads) ≡ counts = same_counts query reads (c ∷ []) (length reads) (omega arith) in
    counted ∙ ap (λ xs. set xs (get_or (reads ++ c ∷ []) (length reads) 0) (get_or xs (get_or (reads ++ c ∷ []) (length reads) 0) 0 + 1)) unchanged
    ∙ ap (λ k. set counts k (get_or counts k 0 + 1)) last

-- what is known after one read more
pub last_known : (query : TypedQuery) (frame : Frame) (bits : Planes) (reads : List ℕ) (c : ℕ) → c < length query.columns →
    taken (stage_after query frame bits reads (length reads)).known c (bits (get_or query.columns c 0) (get_or (counts_after query reads (length reads)) c 0))
    ≡ (stage_after query frame bits (reads ++ c ∷ []) (length reads + 1)).known
last_known query frame bits reads c inside =
    next_known query frame bits (counts_after query reads (length reads)) c (length_of_counts query reads (length reads)) inside
    ∙ ap (λ counts. (stage_by query frame bits counts).known) (sym (last_counts query reads c inside))

-- the same, by the number of the plane
pub last_taken : (query : TypedQuery) (frame : Frame) (bits : Planes) (reads : List ℕ) (c : ℕ) → c < length query.columns →
    taken (stage_after query frame bits reads (length reads)).known c (bits (get_or query.columns c 0) (number_after reads (length reads) c)) ≡ (stage_after query frame bits (reads ++ c ∷ []) (length reads + 1)).known
last_taken query frame bits reads c inside =
    ap (λ n. taken (stage_after query frame bits reads (length reads)).known c (bits (get_or query.columns c 0) n)) (sym (count_there query reads (length reads) c 0 inside))
    ∙ last_known query frame bits reads c inside

-- ---- the course of the rounds

-- what is known after a round depends on the reads up to it alone
pub same_stage : (query : TypedQuery) (frame : Frame) (bits : Planes) (a b : List ℕ) (n : ℕ) → take n a ≡ take n b → stage_after query frame bits a n ≡ stage_after query frame bits b n
same_stage query frame bits a b n same = ap (λ first. stage_by query frame bits (map (λ c. count_by (λ d. d == c) first) (range_with_len 0 (length query.columns)))) same

-- a row is the first over its top, and no other
pub one_row : (stage : Stage) (c : ℕ) (bits : List Bool) (a b : ℕ) → IsFirstOver stage c bits a → IsFirstOver stage c bits b → a ≡ b
one_row stage c bits a b p r = by (cases_lt a b) (cases_lt b a)
  where
    by : ((a < b) ⊎ (b ≤ a)) → ((b < a) ⊎ (a ≤ b)) → a ≡ b
    by (inl less) other = absurd (p.over (r.first a less))
    by (inr k) (inl less) = absurd (r.over (p.first b less))
    by (inr k) (inr l) = omega (arith, k, l)

-- a plane with which each prefix is legal is over no row
pub taken_over : (stage : Stage) (c : ℕ) (bits : List Bool) (row : ℕ) → IsKnowledge stage.frame stage.known → IsKnowledge stage.frame (taken stage.known c bits) →
    c < length stage.frame.columns → IsFirstOver stage c bits row → ⊥
taken_over stage c bits row old new inside over =
    let nothing : ColumnKnowledge = record { read = 0; prefixes = [] } in
    let here : known_at (taken stage.known c bits) c ≡ longer_column (known_at stage.known c) bits =
    get_or-set_same stage.known c (longer_column (known_at stage.known c) bits) nothing (subst (λ n. c < n) (sym old.columns) inside) in
    over.over (subst (λ (k : ColumnKnowledge). IsLegal (ends_at stage.frame c) k.read (get_or k.prefixes row 0)) here (new.legal c row inside over.in_range))

module _ (plan : Plan) (query : TypedQuery) (frame : Frame) (bits : Planes) where
  -- the next column is one of the query
  next_unread : (reads : List ℕ) (c : ℕ) → IsFollowed (rounds_of plan query frame bits) reads c → IsUnread (outlook_at (stage_after query frame bits reads (length reads))) c
  next_unread reads c followed = choice_is_unread plan.policy (outlook_at (stage_after query frame bits reads (length reads))) c followed.chosen

  next_inside : (reads : List ℕ) (c : ℕ) → IsFollowed (rounds_of plan query frame bits) reads c → c < length query.columns
  next_inside reads c followed = subst (λ n. c < n) (columns_of_part query frame) (next_unread reads c followed).column

  pub rounds_lawful : IsLawful (rounds_of plan query frame bits)
  rounds_lawful = record {
    ending = λ a b n alike. ap (ending_at plan) (same_stage query frame bits a b n (same_take a b n alike));
    outlook = λ a b n alike. ap outlook_at (same_stage query frame bits a b n (same_take a b n alike));
    legal = λ a b n alike. subst (λ s. IsKnowledge (part_of query frame) s.known) (same_stage query frame bits a b n (same_take a b n alike));
    illegal = λ reads c row followed over legal.
        taken_over (stage_after query frame bits reads (length reads)) c (bits (get_or query.columns c 0) (number_after reads (length reads) c)) row (followed.rounds.legal (length reads) (omega arith))
        (subst (IsKnowledge (part_of query frame)) (sym (last_taken query frame bits reads c (next_inside reads c followed))) legal) (next_unread reads c followed).column over;
    one_row = λ reads c a b followed p r. one_row (stage_after query frame bits reads (length reads)) c (bits (get_or query.columns c 0) (number_after reads (length reads) c)) a b p r;
  }

-- a round that is not the last, the column that the policy chooses, and legal prefixes with its next plane
pub one_round_more : (plan : Plan) (query : TypedQuery) (frame : Frame) (bits : Planes) (reads : List ℕ) (c : ℕ) → IsFollowed (rounds_of plan query frame bits) reads c →
    IsKnowledge (part_of query frame) (taken (stage_after query frame bits reads (length reads)).known c (bits (get_or query.columns c 0) (get_or (counts_after query reads (length reads)) c 0))) →
    AreRounds plan query frame bits (reads ++ c ∷ [])
one_round_more plan query frame bits reads c followed legal =
    one_more (rounds_of plan query frame bits) (rounds_lawful plan query frame bits) reads c followed
    (subst (IsKnowledge (part_of query frame)) (last_known query frame bits reads c (next_inside plan query frame bits reads c followed)) legal)

pub rounds_are_one : ChoicesAreOne → RoundsAreOne
rounds_are_one one plan query frame bits = one_list one (rounds_of plan query frame bits) (rounds_lawful plan query frame bits)

-- the first number below a limit at which a test fails, if there is one
pub first_failure : (test : ℕ → Bool) (n : ℕ) → ((r : ℕ) × (r < n) × IsFalse (test r) × ((s : ℕ) → s < r → IsTrue (test s))) ⊎ ((r : ℕ) → r < n → IsTrue (test r))
first_failure test zero = inr (λ r h. absurd (omega arith))
first_failure test (suc n) = by (first_failure test n) (cases_Bool (test n))
  where
    by : (((r : ℕ) × (r < n) × IsFalse (test r) × ((s : ℕ) → s < r → IsTrue (test s))) ⊎ ((r : ℕ) → r < n → IsTrue (test r))) → (IsTrue (test n) ⊎ IsFalse (test n)) →
        ((r : ℕ) × (r < suc n) × IsFalse (test r) × ((s : ℕ) → s < r → IsTrue (test s))) ⊎ ((r : ℕ) → r < suc n → IsTrue (test r))
    by (inl (r, inside, fails, first)) last = inl (r, omega (arith, inside), fails, first)
    by (inr all) (inr fails) = inl (n, omega arith, fails, all)
    by (inr all) (inl holds) = inr (λ r h. to r h (cases_lt r n))
      where
        to : (r : ℕ) → r < suc n → ((r < n) ⊎ (n ≤ r)) → IsTrue (test r)
        to r h (inl less) = all r less
        to r h (inr le) = let same : n ≡ r = omega (arith, h, le) in subst (λ k. IsTrue (test k)) same holds

other_number : (a b : ℕ) → IsFalse (a == b) → a ≡ b → ⊥
other_number a b differ e = grind (arith, nat_tests)

module _ (plan : Plan) (query : TypedQuery) (frame : Frame) (bits : Planes) where
  -- each column that rounds by a list read is the list's at its place
  pub listed_at : (list reads : List ℕ) → plan.policy ≡ Listed list → AreRounds plan query frame bits reads → (round : ℕ) → round < length reads → slice_get list round ≡ Some (get_or reads round 0)
  listed_at list reads is rounds round h =
      let stage = stage_after query frame bits reads round in
      let chosen : IsNextListed list (outlook_at stage) (get_or reads round 0) = subst (λ p. Chooses p (outlook_at stage) (get_or reads round 0)) is (rounds.chosen round h) in
      subst (λ n. slice_get list n ≡ Some (get_or reads round 0)) (counted_after plan query frame bits reads rounds round (omega arith)) chosen.next

  -- where the list is not at its end, its next column has an unread plane
  next_listed : (list reads : List ℕ) → plan.policy ≡ Listed list → AreRounds plan query frame bits reads → IsReadableList list (part_of query frame) →
      IsFalse (planes_read (stage_after query frame bits reads (length reads)).known == length list) → HasChoice (Listed list) (outlook_at (stage_after query frame bits reads (length reads)))
  next_listed list reads is rounds readable more = (
    c,
    record {
      next = subst (λ n. slice_get list n ≡ Some c) (sym read_all) (slice_get-get_or list (length reads) 0 inside);
      unread = record {
        column = column;
        unread = omega (arith, read, counted, fewer, few, same);
      };
    },
  )
    where
      there : (i : ℕ) → i < length reads → slice_get list i ≡ Some (get_or reads i 0)
      there i h = listed_at list reads is rounds i h

      read_all : planes_read (stage_after query frame bits reads (length reads)).known ≡ length reads
      read_all = counted_after plan query frame bits reads rounds (length reads) (omega arith)

      inside : length reads < length list
      inside =
          let long = longer_list reads list there in
          let other = other_number (length reads) (length list) (subst (λ n. IsFalse (n == length list)) read_all more) in
          by long other (cases_lt (length reads) (length list))
        where
          by : length reads ≤ length list → (length reads ≡ length list → ⊥) → ((length reads < length list) ⊎ (length list ≤ length reads)) → length reads < length list
          by long other (inl less) = less
          by long other (inr k) = absurd (other (omega (arith, long, k)))

      c : ℕ
      c = get_or list (length reads) 0

      column : c < length (part_of query frame).columns
      column = all_at (λ d. d < length (part_of query frame).columns) list (length reads) readable.columns inside

      fewer : count_by (λ d. d == c) (take (length reads) list) < count_by (λ d. d == c) list
      fewer = one_more_there list (length reads) c inside refl

      few : count_by (λ d. d == c) list ≤ planes (ends_at (part_of query frame) c)
      few = readable.few c column

      read : (known_at (stage_after query frame bits reads (length reads)).known c).read ≡ get_or (counts_after query reads (length reads)) c 0
      read = read_there query frame bits (counts_after query reads (length reads)) c column

      counted : get_or (counts_after query reads (length reads)) c 0 ≡ count_by (λ d. d == c) (take (length reads) reads)
      counted = count_there query reads (length reads) c 0 (subst (λ n. c < n) (columns_of_part query frame) column)

      same : count_by (λ d. d == c) (take (length reads) reads) ≡ count_by (λ d. d == c) (take (length reads) list)
      same = ap (count_by (λ d. d == c)) (take_all reads ∙ same_first reads list there)

  -- where the rounds go on, the policy chooses a column
  pub choice_of : RoundsHavePlanes → PoliciesChoose → (policy : Policy) → plan.policy ≡ policy → IsReadable policy (part_of query frame) → (reads : List ℕ) → AreRounds plan query frame bits reads →
      IsNone (ending_at plan (stage_after query frame bits reads (length reads))) → HasChoice policy (outlook_at (stage_after query frame bits reads (length reads)))
  choice_of have choose policy is readable reads rounds going = by policy is readable
    where
      stage_unread : HasUnread (outlook_at (stage_after query frame bits reads (length reads)))
      stage_unread = have plan (stage_after query frame bits reads (length reads)) (rounds.legal (length reads) (omega arith)) going

      by : (p : Policy) → plan.policy ≡ p → IsReadable p (part_of query frame) → HasChoice p (outlook_at (stage_after query frame bits reads (length reads)))
      by (By fixed) e able = choose (outlook_at (stage_after query frame bits reads (length reads))) stage_unread fixed
      by (Listed list) e able =
          let stage = stage_after query frame bits reads (length reads) in
          let round = planes_read stage.known in
          let end : IsFalse (is_list_end plan.policy round) = not_most (is_narrow plan.near stage) (is_most plan.most round) (is_list_end plan.policy round) going in
          next_listed list reads e rounds able (subst (λ p. IsFalse (is_list_end p round)) e end)

  -- so the next plane is refused, or there is one round more
  refused_or_further : TakenIsKnowledge → NamesColumns query frame → HaveRows frame bits → (reads : List ℕ) (c : ℕ) → IsFollowed (rounds_of plan query frame bits) reads c →
      ((column plane row : ℕ) × IsRefused (rounds_of plan query frame bits) reads column plane row) ⊎ AreRounds plan query frame bits (reads ++ c ∷ [])
  refused_or_further taken_is named long reads c followed = by (first_failure stays_legal frame.rows)
    where
      stage : Stage
      stage = stage_after query frame bits reads (length reads)

      k : ℕ
      k = number_after reads (length reads) c

      plane : List Bool
      plane = bits (get_or query.columns c 0) k

      stays_legal : ℕ → Bool
      stays_legal r = is_legal (ends_at (part_of query frame) c) ((known_at stage.known c).read + 1) (get_or (longer (known_at stage.known c).prefixes plane) r 0)

      unread : IsUnread (outlook_at stage) c
      unread = next_unread plan query frame bits reads c followed

      inside : c < length query.columns
      inside = next_inside plan query frame bits reads c followed

      read : (known_at stage.known c).read ≡ k
      read = read_there query frame bits (counts_after query reads (length reads)) c unread.column ∙ count_there query reads (length reads) c 0 inside

      some : (known_at stage.known c).read < planes (ends_at (part_of query frame) c)
      some = let u = unread.unread in omega (arith, u)

      rows : length plane ≡ frame.rows
      rows = long (get_or query.columns c 0) k (all_at (λ i. i < length frame.columns) query.columns c named.in_range inside)
          (subst (λ e. k < planes e) (sym (ends_there query frame c inside)) (subst (λ n. n < planes (ends_at (part_of query frame) c)) read some))

      by : (((r : ℕ) × (r < frame.rows) × IsFalse (stays_legal r) × ((s : ℕ) → s < r → IsTrue (stays_legal s))) ⊎ ((r : ℕ) → r < frame.rows → IsTrue (stays_legal r))) →
          ((column plane row : ℕ) × IsRefused (rounds_of plan query frame bits) reads column plane row) ⊎ AreRounds plan query frame bits (reads ++ c ∷ [])
      by (inl (r, in_range, over, first)) = inl (
        get_or query.columns c 0,
        k,
        r,
        record {
          before = record { next = c; followed = followed; column_is = refl; plane_is = refl };
          over = record { in_range = in_range; over = λ legal. false≢true (sym over ∙ legal); first = first };
        },
      )
      by (inr legal) =
          let can : CanTake (part_of query frame) stage.known c plane = record { column = unread.column; unread = some; rows = rows; legal = legal } in
          inr (one_more (rounds_of plan query frame bits) (rounds_lawful plan query frame bits) reads c followed
          (subst (IsKnowledge (part_of query frame)) (last_taken query frame bits reads c inside) (taken_is (part_of query frame) stage.known c plane (followed.rounds.legal (length reads) (omega arith)) can)))

  pub rounds_go_on : RoundsHavePlanes → PoliciesChoose → TakenIsKnowledge → NamesColumns query frame → HaveRows frame bits → IsReadable plan.policy (part_of query frame) → GoesOn (rounds_of plan query frame bits)
  rounds_go_on have choose taken_is named long readable = record {
    most = all_planes query frame;
    few = few_rounds plan query frame bits;
    chooses = λ reads rounds going. choice_of have choose plan.policy refl readable reads rounds going;
    further = refused_or_further taken_is named long;
  }

pub rounds_have_an_end : RoundsHavePlanes → PoliciesChoose → TakenIsKnowledge → RoundsHaveAnEnd
rounds_have_an_end have choose taken_is plan query frame bits reads named long readable rounds =
    by (has_outcome (rounds_of plan query frame bits) (rounds_go_on plan query frame bits have choose taken_is named long readable) (λ column plane. Unit {0}) (λ column plane. inl tt) reads rounds (λ round h. tt))
  where
    by : HasOutcome (rounds_of plan query frame bits) (rounds_go_on plan query frame bits have choose taken_is named long readable) (λ column plane. Unit {0}) (λ column plane. inl tt) reads →
        (rest : List ℕ) × (AreAllRounds plan query frame bits (reads ++ rest) ⊎ ((column plane row : ℕ) × IsRefused (rounds_of plan query frame bits) (reads ++ rest) column plane row))
    by (rest, ended, ends) = (rest, inl ends.come)
    by (rest, unreadable column plane, ends) = absurd (ends.come.1 tt)
    by (rest, refused column plane row, ends) = (rest, inr (column, plane, row, ends.come.0))

pub lists_are_read : ListsAreRead
lists_are_read plan list query frame bits reads is rounds = same_first reads list (listed_at plan query frame bits list reads is rounds)
