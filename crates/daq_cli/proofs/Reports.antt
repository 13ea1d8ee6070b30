-- A question has one report.
use Rattle.std.proofs.Common.{◌≡◌, ℕ, List, Ok, Result, refl, sym, ap, ◌∙◌, subst}
use Rattle.command_line.specs.Commands.{Options, ReadOrder, fixed, reads}
use Rattle.daq_table.specs.Tables.{frame_of}
use Rattle.daq_table.specs.declared.table_head.Head.{Head}
use Rattle.outer_world.specs.Device.{SinkState}
use Rattle.plane_reads.specs.Reads as reads_laws
use Rattle.plane_reads.specs.declared.fault.ReadsFault.{ReadsFault}
use Rattle.plane_schedule.specs.declared.policy.Plan.{Plan}
use Rattle.plane_schedule.specs.declared.policy.Policy.{Policy}
use Rattle.plane_schedule.specs.declared.policy.Policy.TheVariants.{Listed}
use Rattle.query_model.specs.Validity.{IsValid}
use Rattle.query_model.specs.declared.query.TypedQuery.{TypedQuery}
use Rattle.sql_print.specs.Printed.{printed}
use Rattle.sql_typing.specs.Laws as typing_laws
use Rattle.table_rounds.specs.Headline.{RoundsAreOne}
use Rattle.table_rounds.specs.Rounds.{AreAllRounds}
use Rattle.daq_cli.specs.Questions.{IsPlanOf, IsPlanned, IsPolicyOf, IsReport, Question, Reports, ReportsRounds, asked_of, planes_of}
use Rattle.daq_cli.specs.Report.{report}
use Rattle.daq_cli.specs.Worlds.{Extent}

-- what is known of each part from the crate that carries it out
pub record Laws : Type 0 where
  pub typings : typing_laws.IsTypedOnce
  pub valid : typing_laws.IsTypedValid
  pub lists : reads_laws.AnswersAreOne
  pub rounds : RoundsAreOne

listed_once : {a b : List ℕ} → ◌≡◌ {A = Result (List ℕ) ReadsFault} (Ok a) (Ok b) → a ≡ b
listed_once e = cc

module _ (lists : reads_laws.AnswersAreOne) (options : Options) (head : Head) (typed : TypedQuery) (valid : IsValid head typed) where
  one_policy : (order : ReadOrder) (a b : Policy) → IsPolicyOf order typed head a → IsPolicyOf order typed head b → a ≡ b
  one_policy (fixed named) a b p r = p ∙ sym r
  one_policy (reads names) a b (list, is, all) (other, is_too, all_too) =
      is ∙ ap Listed (listed_once (lists names typed head (Ok list) (Ok other) valid all all_too)) ∙ sym is_too

  pub one_plan : (a b : Plan) → IsPlanOf options typed head a → IsPlanOf options typed head b → a ≡ b
  one_plan a b p r =
      let policy = one_policy options.order a.policy b.policy p.policy r.policy in
      let near = p.near ∙ sym r.near in
      let most = p.most ∙ sym r.most in
      let listing = p.listing ∙ sym r.listing in
      let extras = p.extras ∙ sym r.extras in
      λ i. record { policy = policy i; near = near i; most = most i; listing = listing i; extras = extras i }

module _ (law : Laws) (question : Question) where
  pub one_report : (a b : List ℕ) → IsReport question a → IsReport question b → a ≡ b
  one_report a b p r =
      let head = question.table.head in
      let bits = planes_of question.table in
      let same : r.typed ≡ p.typed = law.typings question.query head r.typed p.typed r.planned.is_typed p.planned.is_typed in
      let plan : r.plan ≡ p.plan =
      one_plan law.lists question.options head p.typed (law.valid question.query head p.typed p.planned.is_typed) r.plan p.plan (subst (λ (t : TypedQuery). IsPlanOf question.options t head r.plan) same r.planned.planned) p.planned.planned in
      let rounds : AreAllRounds p.plan p.typed (frame_of head) bits r.reads =
      subst (λ (t : TypedQuery). AreAllRounds p.plan t (frame_of head) bits r.reads) same (subst (λ (n : Plan). AreAllRounds n r.typed (frame_of head) bits r.reads) plan r.rounds) in
      let reads : r.reads ≡ p.reads = law.rounds p.plan p.typed (frame_of head) bits r.reads p.reads rounds p.rounds in
      p.is
      ∙ sym (ap (λ (t : TypedQuery). report (printed question.query) head p.plan t bits p.reads) same)
      ∙ sym (ap (λ (n : Plan). report (printed question.query) head n r.typed bits p.reads) plan)
      ∙ sym (ap (λ (n : List ℕ). report (printed question.query) head r.plan r.typed bits n) reads) ∙ sym r.is

  -- the report of the rounds is that of the question
  pub reports_of : (typed other : TypedQuery) (plan : Plan) (extent : Extent) (old new : SinkState) → other ≡ typed → IsPlanned (asked_of question) typed plan →
      ReportsRounds question.query other plan question.table extent old new → Reports question extent old new
  reports_of typed other plan extent old new same planned done =
      let rounds = subst (λ (t : TypedQuery). ReportsRounds question.query t plan question.table extent old new) same done in
      let text = report (printed question.query) question.table.head plan typed (planes_of question.table) rounds.written.reads in
      let is_report : IsReport question text = record {
        typed = typed;
        plan = plan;
        planned = planned;
        reads = rounds.written.reads;
        rounds = rounds.written.rounds;
        headline = rounds.headline;
        is = refl;
      } in
      record { text = text; is_report = is_report; only = λ other is. one_report other text is is_report; written = rounds.written.written }
