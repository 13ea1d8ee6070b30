-- A query runs on the course of its rounds.
use Rattle.std.proofs.Common.{◌≡◌, ℕ, ◌+◌, ◌<◌, Bool, List, [], ◌∷◌, ◌++◌, length, get_or, refl, sym, ap, ◌∙◌, subst, IsNone, length-append}
use Rattle.daq_table.specs.declared.table_head.Head.{Head}
use Rattle.daq_table.specs.Tables.{Frame, frame_of}
use Rattle.multi_session.proofs.Keeping.{stands_once}
use Rattle.plane_schedule.specs.Choices.{HasChoice, IsUnread}
use Rattle.plane_schedule.specs.Laws.{PoliciesChoose}
use Rattle.plane_schedule.specs.Plans.{IsReadable}
use Rattle.plane_schedule.specs.declared.policy.Plan.{Plan}
use Rattle.query_model.specs.Knowledge.{CanTake, IsKnowledge, known_at}
use Rattle.query_model.specs.Laws.{TakenIsKnowledge}
use Rattle.query_model.specs.Validity.{FitsHead}
use Rattle.query_model.specs.declared.query.TypedQuery.{TypedQuery}
use Rattle.round_engine.specs.Stages.{IsFirstOver, Stage, stepped}
use Rattle.table_rounds.specs.Courses.{AreReads, HaveSameRead, IsFollowed, number_after}
use Rattle.table_rounds.specs.Headline.{RoundsHavePlanes}
use Rattle.table_rounds.specs.Rounds.{HaveSame, IsAfter, Planes, counts_after, ending_at, outlook_at, rounds_of, stage_after}
use Rattle.table_rounds.proofs.Counts.{count_there}
use Rattle.table_rounds.proofs.Courses.{one_more}
use Rattle.table_rounds.proofs.Going.{choice_of, last_taken, rounds_lawful}
use Rattle.table_rounds.proofs.OfTables.{alike_rounds, alike_stages}
use Rattle.table_rounds.proofs.Reached.{columns_of_part, part_of, read_there}

pub by_policy : (first : Stage) (plan : Plan) (head : Head) (bits : Planes) → (rounds_of plan first.query (frame_of head) bits).policy ≡ plan.policy
by_policy first plan head bits = refl

pub rows_are : (now : Stage) (head : Head) → FitsHead now.query now.frame head → now.frame.rows ≡ head.rows
rows_are now head fits = ap (λ f. f.rows) (sym fits.same)

pub apart : (now : Stage) (head : Head) (c d : ℕ) → FitsHead now.query now.frame head → c < length now.frame.columns → d < length now.frame.columns →
    get_or now.query.columns c 0 ≡ get_or now.query.columns d 0 → c ≡ d
apart now head c d fits h k same =
    let long : length now.frame.columns ≡ length now.query.columns = ap (λ f. length f.columns) (sym fits.same) ∙ columns_of_part now.query (frame_of head) in
    stands_once now.query.columns fits.valid.distinct c d (subst (λ n. c < n) long h) (subst (λ n. d < n) long k) same

module _ (first now : Stage) (plan : Plan) (head : Head) (bits : Planes) (reads : List ℕ) where
  abbrev query : TypedQuery
  query = first.query

  abbrev frame : Frame
  frame = frame_of head

  abbrev counts : List ℕ
  counts = counts_after query reads (length reads)

  abbrev IsNow : Type 0
  IsNow = IsAfter plan query frame bits reads now

  pub are_reads : IsNow → AreReads (rounds_of plan query frame bits) reads
  are_reads after = after.rounds

  pub sees : IsNow → outlook_at now ≡ outlook_at (stage_after query frame bits reads (length reads))
  sees after = ap outlook_at after.known

  pub place_is : (c : ℕ) → IsNow → get_or now.query.columns c 0 ≡ get_or query.columns c 0
  place_is c after = ap (λ s. get_or s.query.columns c 0) after.known

  inside : (c : ℕ) → IsNow → IsUnread (outlook_at now) c → c < length (part_of query frame).columns
  inside c after unread = subst (λ (s : Stage). c < length s.frame.columns) after.known unread.column

  pub number_is : (c : ℕ) → IsNow → IsUnread (outlook_at now) c → (known_at now.known c).read ≡ number_after reads (length reads) c
  number_is c after unread =
      ap (λ s. (known_at s.known c).read) after.known ∙ read_there query frame bits counts c (inside c after unread)
      ∙ count_there query reads (length reads) c 0 (subst (λ n. c < n) (columns_of_part query frame) (inside c after unread))

  -- where the rounds go on, the policy chooses a column
  pub chooses : RoundsHavePlanes → PoliciesChoose → FitsHead now.query now.frame head → IsNow → IsReadable plan.policy now.frame → IsNone (ending_at plan now) → HasChoice plan.policy (outlook_at now)
  chooses have choose fits after readable going =
      subst (λ s. HasChoice plan.policy (outlook_at s)) (sym after.known)
      (choice_of plan query frame bits have choose plan.policy refl (subst (λ (s : Stage). IsReadable plan.policy s.frame) after.known readable) reads after.rounds
      (subst (λ s. IsNone (ending_at plan s)) after.known going))

  -- the next plane is taken, or refused
  pub further : TakenIsKnowledge → (new : Stage) (c : ℕ) (plane : List Bool) → IsNow → IsFollowed (rounds_of plan query frame bits) reads c → IsUnread (outlook_at now) c → IsKnowledge now.frame now.known →
      CanTake now.frame now.known c plane → plane ≡ bits (get_or now.query.columns c 0) (known_at now.known c).read → new ≡ stepped now c plane →
      IsAfter plan query frame bits (reads ++ c ∷ []) new
  further taken_is new c plane after followed unread known can is step =
      let cut : List Bool = bits (get_or query.columns c 0) (number_after reads (length reads) c) in
      let here : plane ≡ cut = is ∙ ap (λ i. bits i (known_at now.known c).read) (place_is c after) ∙ ap (bits (get_or query.columns c 0)) (number_is c after unread) in
      let there = stage_after query frame bits reads (length reads) in
      let column = subst (λ n. c < n) (columns_of_part query frame) (inside c after unread) in
      let all : stepped now c plane ≡ stepped there c cut = ap (stepped now c) here ∙ ap (λ s. stepped s c cut) after.known in
      let next : stepped there c cut ≡ stage_after query frame bits (reads ++ c ∷ []) (length reads + 1) =
      ap (λ k. record { query = query; frame = part_of query frame; known = k }) (last_taken query frame bits reads c column) in
      let legal = subst (λ (s : Stage). IsKnowledge s.frame s.known) (all ∙ next) (taken_is now.frame now.known c plane known can) in
      record {
        rounds = one_more (rounds_of plan query frame bits) (rounds_lawful plan query frame bits) reads c followed legal;
        known = step ∙ all ∙ next ∙ ap (stage_after query frame bits (reads ++ c ∷ [])) (sym (length-append reads (c ∷ [])));
      }

  pub over_there : (c row : ℕ) (plane : List Bool) → IsNow → IsUnread (outlook_at now) c → plane ≡ bits (get_or now.query.columns c 0) (known_at now.known c).read → IsFirstOver now c plane row →
      IsFirstOver (stage_after query frame bits reads (length reads)) c (bits (get_or query.columns c 0) (number_after reads (length reads) c)) row
  over_there c row plane after unread is over =
      subst (λ s. IsFirstOver s c (bits (get_or query.columns c 0) (number_after reads (length reads) c)) row) after.known
      (subst (λ bs. IsFirstOver now c bs row) (is ∙ ap (λ i. bits i (known_at now.known c).read) (place_is c after) ∙ ap (bits (get_or query.columns c 0)) (number_is c after unread)) over)

-- the planes of its columns that were read are the same
pub have_same : (plan : Plan) (query : TypedQuery) (frame : Frame) (a b : Planes) (reads : List ℕ) → HaveSameRead (rounds_of plan query frame a) reads a b →
    HaveSame query (counts_after query reads (length reads)) a b
have_same plan query frame a b reads same = λ c j h lt.
    same c j (subst (λ n. c < n) (sym (columns_of_part query frame)) h) (subst (λ n. j < n) (count_there query reads (length reads) c 0 h) lt)

pub agrees : (first now : Stage) (plan : Plan) (head : Head) (a b : Planes) (reads : List ℕ) → IsAfter plan first.query (frame_of head) a reads now →
    HaveSameRead (rounds_of plan first.query (frame_of head) a) reads a b → IsAfter plan first.query (frame_of head) b reads now
agrees first now plan head a b reads after same =
    let query = first.query in
    let frame = frame_of head in
    let have = have_same plan query frame a b reads same in
    record { rounds = alike_rounds query frame a b reads have plan after.rounds; known = after.known ∙ alike_stages query frame a b reads have (length reads) }
