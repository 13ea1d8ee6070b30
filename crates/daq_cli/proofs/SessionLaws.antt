-- Each step of a `session` is exact, and accepts something or shows a refusal.
use Rattle.std.proofs.Common.{◌≡◌, ◌≢◌, ◌∙◌, ◌⊎◌, ℕ, List, [], ◌∷◌, Option, Some, None, Ok, Err, Result, ap, inl, inr, refl, subst, sym}
use Rattle.command_line.specs.Commands.{Options, ReadOrder}
use Rattle.command_line.specs.Commands as line
use Rattle.daq_table.specs.declared.table_head.Head.{Head}
use Rattle.plane_course.proofs.Pads.{padded_or_not}
use Rattle.plane_course.proofs.RowsBack.{length-rows_in}
use Rattle.plane_course.specs.Told.{IsUnpadded, bits_at}
use Rattle.multi_session.specs.Limits.{limit_passed}
use Rattle.multi_session.specs.declared.limits.SessionFault.{SessionFault}
use Rattle.plane_file.specs.Bytes.{AreBytes}
use Rattle.plane_file.specs.Laws as file_laws
use Rattle.plane_file.specs.Places.{plane_in}
use Rattle.plane_schedule.specs.declared.policy.Plan.{Plan}
use Rattle.plane_schedule.specs.declared.policy.Policy.{Policy}
use Rattle.plane_schedule.specs.declared.policy.Policy.TheVariants as p
use Rattle.query_model.specs.declared.query.TypedQuery.{TypedQuery}
use Rattle.plane_schedule.specs.Laws.{ChoicesAreOne, PoliciesChoose}
use Rattle.query_model.specs.Laws.{TakenIsKnowledge}
use Rattle.table_rounds.proofs.Courses.{each_of_none, has_outcome, outcomes_are_one}
use Rattle.table_rounds.proofs.End.{steps_go_on}
use Rattle.table_rounds.proofs.SessionsBegin.{sessions_begin}
use Rattle.table_rounds.proofs.StepsAreOne.{steps_lawful}
use Rattle.table_rounds.specs.Courses.{Course}
use Rattle.table_rounds.specs.Headline.{RoundsBegin, RoundsHavePlanes}
use Rattle.table_rounds.specs.Outcomes.{EndIn}
use Rattle.table_rounds.specs.SessionLaws.{AreValid}
use Rattle.table_rounds.specs.Steps.{steps_of}
use Rattle.table_rounds.specs.Steps.{IsUnlisted}
use Rattle.session_script.specs.Answers.{AnswersAreOne, IsAnswer, ScriptsHaveAnswers}
use Rattle.session_script.specs.Answers as scripts
use Rattle.session_script.specs.Lines.{Line}
use Rattle.session_script.specs.declared.fault.ScriptFault.{ScriptFault}
use Rattle.session_script.specs.declared.fault.ScriptFault.TheVariants as s
use Rattle.sql_text.specs.Answer.{IsText}
use Rattle.sql_text.specs.Tree.{Query}
use Rattle.sql_typing.specs.Laws as typing_laws
use Rattle.sql_typing.specs.Refusals as typing
use Rattle.sql_typing.specs.Refusals.{IsTyped}
use Rattle.sql_typing.specs.declared.fault.TypeFault.{TypeFault}
use Rattle.sql_typing.specs.declared.fault.TypeFault.TheVariants as y
use Rattle.table_rounds.specs.Outcomes.{Outcome, ended, refused, unreadable}
use Rattle.daq_cli.specs.Questions.{extras_of, nearness_of}
use Rattle.daq_cli.specs.Scripts.{Scripted, ShowsLine, line_step, queries_step, script_step}
use Rattle.daq_cli.specs.SessionReport.{session_report}
use Rattle.daq_cli.specs.Steps.{IsComplete, IsExact, each}
use Rattle.daq_cli.specs.commands.Session.{AskedTogether, IsPolicyFor, IsSessionPlan, IsSessionReport, ShowsPlane, StepsEndIn, asked_together, limits_step, planes_step, printed_forms, report_step, session_step, together_step, typing_step}
use Rattle.daq_cli.specs.FileReports.{refusal_at}
use Rattle.daq_cli.specs.declared.refusal.Refusal.{Refusal}
use Rattle.daq_cli.specs.declared.refusal.Refusal.TheVariants.{LineTyping, OverTop, PadBits, Script, Session}
use Rattle.daq_cli.proofs.Files.{file_complete, file_exact}
use Rattle.daq_cli.proofs.Steps.{each_complete, each_exact, then_complete, then_exact}

-- ---- exact

-- what is known of each step from the crate that carries it out
pub record Laws : Type 0 where
  pub scripts : AnswersAreOne
  pub queries : (text : List ℕ) (a b : Query) → IsText text a → IsText text b → a ≡ b
  pub faults : (line : Line) (why other : Refusal) → ShowsLine line why → ShowsLine line other → why ≡ other
  pub apart : (line : Line) (query : Query) (why : Refusal) → IsText line.text query → ShowsLine line why → ⊥
  pub typings : typing_laws.IsTypedOnce
  pub type_faults : typing_laws.HasOneFault
  pub good_typings : typing_laws.IsFaultless
  pub faultless : file_laws.AreFaultless
  pub heads : file_laws.HaveOneHead
  pub choices : ChoicesAreOne

one_scripted : (a b : Scripted) → a.line ≡ b.line → a.query ≡ b.query → a ≡ b
one_scripted a b lines queries = ap (λ n. record { line = n; query = a.query }) lines ∙ ap (λ t. record { line = b.line; query = t }) queries

same_limit : (found : Option SessionFault) (a b : SessionFault) → found ≡ Some a → found ≡ Some b → a ≡ b
same_limit found a b e f = cc

no_limit : (found : Option SessionFault) (a : SessionFault) → found ≡ None → found ≡ Some a → ⊥
no_limit found a e f = cc

fault_answers : (bytes : List ℕ) (fault : ScriptFault) → fault ≢ s.NoMemory → scripts.Refuses bytes fault → IsAnswer bytes (Err fault)
fault_answers bytes (s.TooLong limit) shown faulty = faulty
fault_answers bytes (s.NoText at) shown faulty = faulty
fault_answers bytes s.NoQuery shown faulty = faulty
fault_answers bytes (s.TooMany count) shown faulty = faulty
fault_answers bytes s.NoMemory shown faulty = absurd (shown refl)

one_refusal : {a b : Refusal} → Some a ≡ Some b → a ≡ b
one_refusal e = cc

no_refusal : {a : Refusal} → ◌≡◌ {A = Option Refusal} None (Some a) → ⊥
no_refusal e = cc

limits_exact : (asked : AskedTogether) → IsExact (limits_step asked)
limits_exact asked = record {
  once = λ a b p r. p.same ∙ sym r.same;
  same = λ why other p r. p.is ∙ ap Session (same_limit (limit_passed asked.head.rows asked.typed) p.fault r.fault p.passed r.passed) ∙ sym r.is;
  apart = λ a why p r. no_limit (limit_passed asked.head.rows asked.typed) r.fault p.within r.passed;
}

-- ---- the plan

one_policy : (order : ReadOrder) (a b : Policy) → IsPolicyFor order a → IsPolicyFor order b → a ≡ b
one_policy (line.fixed named) a b e f = e ∙ sym f
one_policy (line.reads names) a b e f = absurd e

one_plan : (options : Options) (a b : Plan) → IsSessionPlan options a → IsSessionPlan options b → a ≡ b
one_plan options a b e f =
    let policy = one_policy options.order a.policy b.policy e.policy f.policy in
    let near = e.near ∙ sym f.near in
    let most = e.most ∙ sym f.most in
    let listing = e.listing ∙ sym f.listing in
    let extras = e.extras ∙ sym f.extras in
    λ i. record { policy = policy i; near = near i; most = most i; listing = listing i; extras = extras i }

pub unlisted_policy : (order : ReadOrder) (policy : Policy) → IsPolicyFor order policy → IsUnlisted policy
unlisted_policy (line.fixed named) policy is = subst IsUnlisted (sym is) tt
unlisted_policy (line.reads names) policy is = absurd is

-- ---- the planes that can be read

module _ (asked : AskedTogether) (bytes : List ℕ) where
  judged : (column number : ℕ) → IsUnpadded asked.head bytes column number ⊎ (IsUnpadded asked.head bytes column number → ⊥)
  judged column number = padded_or_not asked.head.rows (plane_in asked.head column number bytes)

module _ (law : Laws) where
  script_exact : (bytes : List ℕ) → IsExact (script_step bytes)
  script_exact bytes = record {
    once = λ a b p r. let both = law.scripts bytes (Ok a) (Ok b) p r in cc;
    same = λ why other p r. let both = law.scripts bytes (Err p.fault) (Err r.fault) (fault_answers bytes p.fault p.shown p.faulty) (fault_answers bytes r.fault r.shown r.faulty) in
        p.is ∙ ap Script (let same : p.fault ≡ r.fault = cc in same) ∙ sym r.is;
    apart = λ lines why is p. let both = law.scripts bytes (Ok lines) (Err p.fault) is (fault_answers bytes p.fault p.shown p.faulty) in absurd cc;
  }

  line_exact : (line : Line) → IsExact (line_step line)
  line_exact line = record {
    once = λ a b p r. one_scripted a b (p.numbered ∙ sym r.numbered) (law.queries line.text a.query b.query p.is_text r.is_text);
    same = law.faults line;
    apart = λ one why p r. law.apart line one.query why p.is_text r;
  }

  pub queries_exact : (script : List ℕ) → IsExact (queries_step script)
  queries_exact script = then_exact _ _ (script_exact script) (λ lines. each_exact line_step line_exact lines)

  typing_exact : (head : Head) (one : Scripted) → IsExact (typing_step head one)
  typing_exact head one = record {
    once = law.typings one.query head;
    same = λ why other p r. p.is ∙ ap (LineTyping one.line) (law.type_faults one.query head p.fault r.fault p.shown r.shown p.faulty r.faulty) ∙ sym r.is;
    apart = λ typed why is p. law.good_typings one.query head p.fault typed p.shown is p.faulty;
  }

  pub session_exact : (script bytes : List ℕ) → IsExact (session_step script bytes)
  session_exact script bytes =
      then_exact _ _ (queries_exact script) (λ queries.
      then_exact _ _ (file_exact law.faultless law.heads bytes) (λ file.
      then_exact _ _ (each_exact (typing_step file.head) (typing_exact file.head) queries) (λ typed. limits_exact (asked_together queries typed file.head))))

  module _ (options : Options) (asked : AskedTogether) (bytes : List ℕ) where
    -- the plan, the steps and what they come to are one
    one_end : (x y : Outcome) (p : StepsEndIn options asked bytes x) (r : StepsEndIn options asked bytes y) → (r.plan ≡ p.plan) × (p.reads ≡ r.reads) × (x ≡ y)
    one_end x y p r =
        let plan : r.plan ≡ p.plan = one_plan options r.plan p.plan r.planned p.planned in
        let course : Plan → Course = λ plan. steps_of plan asked.typed asked.head (bits_at asked.head bytes) in
        let ends : EndIn (course p.plan) (IsUnpadded asked.head bytes) r.reads y = subst (λ (n : Plan). EndIn (course n) (IsUnpadded asked.head bytes) r.reads y) plan r.ends in
        let (reads, outcomes) = outcomes_are_one law.choices (course p.plan) (steps_lawful p.plan asked.typed asked.head (bits_at asked.head bytes)) (IsUnpadded asked.head bytes) p.reads r.reads x y p.ends ends in
        (plan, reads, outcomes)

    abbrev text_of : Plan → List ℕ → List ℕ
    text_of plan reads = session_report (printed_forms asked.queries) asked.head plan asked.typed (bits_at asked.head bytes) reads

    one_text : (a b : List ℕ) → IsSessionReport options asked bytes a → IsSessionReport options asked bytes b → a ≡ b
    one_text a b p r =
        let (plan, reads, outcomes) = one_end ended ended p.steps r.steps in
        p.is ∙ sym (ap (λ (n : Plan). text_of n p.steps.reads) plan) ∙ ap (text_of r.steps.plan) reads ∙ sym r.is

    one_plane : (why other : Refusal) → ShowsPlane options asked bytes why → ShowsPlane options asked bytes other → why ≡ other
    one_plane why other p r =
        let (plan, reads, outcomes) = one_end p.outcome r.outcome p.steps r.steps in
        one_refusal (sym p.is ∙ ap refusal_at outcomes ∙ r.is)

    not_both : (text : List ℕ) (why : Refusal) → IsSessionReport options asked bytes text → ShowsPlane options asked bytes why → ⊥
    not_both text why is p =
        let (plan, reads, outcomes) = one_end ended p.outcome is.steps p.steps in
        no_refusal (ap refusal_at outcomes ∙ p.is)

    planes_exact : IsExact (planes_step options asked bytes)
    planes_exact = record { once = one_text; same = one_plane; apart = not_both }

  pub report_exact : (words : line.Session) (script bytes : List ℕ) → IsExact (report_step words script bytes)
  report_exact words script bytes = then_exact _ _ (session_exact script bytes) (λ asked. planes_exact words.options asked bytes)

-- ---- complete

-- why each step goes on
pub record GoOn : Type 0 where
  pub scripts : ScriptsHaveAnswers
  pub lines : (line : Line) → ((query : Query) × IsText line.text query) ⊎ ((why : Refusal) × ShowsLine line why)
  pub typings : typing_laws.HasTyping
  pub valid : typing_laws.IsTypedValid
  pub heads : file_laws.HasHead
  pub begin : RoundsBegin
  pub have : RoundsHavePlanes
  pub choose : PoliciesChoose
  pub taken : TakenIsKnowledge

policy_for : (order : ReadOrder) → ((names : List ℕ) → order ≢ line.reads names) → (policy : Policy) × IsPolicyFor order policy
policy_for (line.fixed named) by_policy = (p.By named, refl)
policy_for (line.reads names) by_policy = absurd (by_policy names refl)

-- each query is valid as it is typed
pub each_valid : typing_laws.IsTypedValid → (head : Head) (queries : List Scripted) (typed : List TypedQuery) → (each (typing_step head) queries).accepts typed → AreValid head typed
each_valid valid head [] typed accepted = subst (AreValid head) (sym accepted) tt
each_valid valid head (one ∷ rest) typed (first, is_typed, (others, accepted, is)) =
    subst (AreValid head) (sym is) (valid one.query head first is_typed, each_valid valid head rest others accepted)

module _ (law : GoOn) where
  script_complete : (bytes : List ℕ) → IsComplete (script_step bytes)
  script_complete bytes = by (law.scripts bytes)
    where
      shows : (fault : ScriptFault) → fault ≢ s.NoMemory → scripts.Refuses bytes fault → IsComplete (script_step bytes)
      shows fault shown faulty = inr (Script fault, record { fault = fault; shown = shown; is = refl; faulty = faulty })

      by : ((answer : Result (List Line) ScriptFault) × IsAnswer bytes answer) → IsComplete (script_step bytes)
      by (Ok lines, is) = inl (lines, is)
      by (Err (s.TooLong limit), faulty) = shows (s.TooLong limit) (λ e. cc) faulty
      by (Err (s.NoText at), faulty) = shows (s.NoText at) (λ e. cc) faulty
      by (Err s.NoQuery, faulty) = shows s.NoQuery (λ e. cc) faulty
      by (Err (s.TooMany count), faulty) = shows (s.TooMany count) (λ e. cc) faulty
      by (Err s.NoMemory, faulty) = absurd faulty

  line_complete : (line : Line) → IsComplete (line_step line)
  line_complete line = by (law.lines line)
    where
      by : ((query : Query) × IsText line.text query) ⊎ ((why : Refusal) × ShowsLine line why) → IsComplete (line_step line)
      by (inl (query, is)) = inl (record { line = line.number; query = query }, record { numbered = refl; is_text = is })
      by (inr shown) = inr shown

  pub queries_complete : (script : List ℕ) → IsComplete (queries_step script)
  queries_complete script = then_complete _ _ (script_complete script) (λ lines _. each_complete line_step line_complete lines)

  typing_complete : (head : Head) (one : Scripted) → IsComplete (typing_step head one)
  typing_complete head one = by (law.typings one.query head)
    where
      by : ((typed : TypedQuery) × IsTyped one.query head typed) ⊎ ((fault : TypeFault) × (fault ≢ y.NoMemory) × typing.Refuses one.query head fault) → IsComplete (typing_step head one)
      by (inl typed) = inl typed
      by (inr (fault, shown, faulty)) = inr (LineTyping one.line fault, record { fault = fault; shown = shown; is = refl; faulty = faulty })

  limits_complete : (asked : AskedTogether) → IsComplete (limits_step asked)
  limits_complete asked = by (limit_passed asked.head.rows asked.typed) refl
    where
      by : (found : Option SessionFault) → limit_passed asked.head.rows asked.typed ≡ found → IsComplete (limits_step asked)
      by None e = inl (asked, record { same = refl; within = e })
      by (Some fault) e = inr (Session fault, record { fault = fault; is = refl; passed = e })

  together_complete : (queries : List Scripted) (head : Head) → IsComplete (together_step queries head)
  together_complete queries head = then_complete _ _ (each_complete (typing_step head) (typing_complete head) queries) (λ typed _. limits_complete (asked_together queries typed head))

  pub session_complete : (script bytes : List ℕ) → AreBytes bytes → IsComplete (session_step script bytes)
  session_complete script bytes are =
      then_complete _ _ (queries_complete script) (λ queries _.
      then_complete _ _ (file_complete law.heads bytes are) (λ file _. together_complete queries file.head))

  module _ (options : Options) (by_policy : (names : List ℕ) → options.order ≢ line.reads names) (asked : AskedTogether) (bytes : List ℕ) (valid : AreValid asked.head asked.typed) where
    abbrev plan_so : Policy → Plan
    plan_so policy = record { policy = policy; near = nearness_of options; most = options.rounds; listing = options.listing; extras = extras_of options }

    to_end : (outcome : Outcome) → StepsEndIn options asked bytes outcome → IsComplete (planes_step options asked bytes)
    to_end ended steps = inl (session_report (printed_forms asked.queries) asked.head steps.plan asked.typed (bits_at asked.head bytes) steps.reads, record { steps = steps; is = refl })
    to_end (unreadable column plane) steps = inr (PadBits column plane, record { outcome = unreadable column plane; steps = steps; is = refl })
    to_end (refused column plane row) steps = inr (OverTop column plane row, record { outcome = refused column plane row; steps = steps; is = refl })

    planes_complete : IsComplete (planes_step options asked bytes)
    planes_complete =
        let (policy, is) = policy_for options.order by_policy in
        let head = asked.head in
        let course = steps_of (plan_so policy) asked.typed head (bits_at head bytes) in
        let (reads, outcome, ends) = has_outcome course
        (steps_go_on law.have law.choose law.taken (plan_so policy) asked.typed head (bits_at head bytes) valid (λ c j h lt. length-rows_in head.rows (plane_in head c j bytes)) (unlisted_policy options.order policy is))
        (IsUnpadded head bytes) (judged asked bytes) [] (sessions_begin law.begin (plan_so policy) asked.typed head (bits_at head bytes)).rounds (each_of_none (IsUnpadded head bytes) course) in
        to_end outcome (record {
          plan = plan_so policy;
          planned = record { policy = is; near = refl; most = refl; listing = refl; extras = refl };
          reads = reads;
          ends = ends;
        })

  pub report_complete : (words : line.Session) (script bytes : List ℕ) → ((names : List ℕ) → words.options.order ≢ line.reads names) → AreBytes bytes → IsComplete (report_step words script bytes)
  report_complete words script bytes by_policy are =
      then_complete _ _ (session_complete script bytes are) (λ asked (queries, from_script, (file, is_head, (typed, accepted, is_within))).
      planes_complete words.options by_policy asked bytes
      (subst (λ (a : AskedTogether). AreValid a.head a.typed) (sym is_within.same) (each_valid law.valid file.head queries typed accepted)))
