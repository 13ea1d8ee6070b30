-- What the faults of a question's typing and of its reads show.
use Rattle.std.proofs.Common.{◌≡◌, ◌≢◌, ◌∙◌, refl, sym, subst, inl, inr}
use Rattle.command_line.specs.Commands.{ReadOrder, fixed, reads}
use Rattle.daq_table.specs.Tables.{frame_of}
use Rattle.daq_table.specs.declared.table_head.Head.{Head}
use Rattle.outer_world.specs.Device.{SinkState}
use Rattle.plane_reads.specs.declared.fault.ReadsFault.{ReadsFault}
use Rattle.plane_reads.specs.declared.fault.ReadsFault.TheVariants as r
use Rattle.plane_schedule.specs.Plans.{IsReadable}
use Rattle.plane_schedule.specs.declared.policy.Policy.{Policy}
use Rattle.query_model.specs.Projection.{projected_frame}
use Rattle.query_model.specs.declared.query.TypedQuery.{TypedQuery}
use Rattle.sql_typing.specs.Refusals as typing
use Rattle.sql_typing.specs.Refusals.{IsTyped}
use Rattle.sql_typing.specs.declared.fault.TypeFault.{TypeFault}
use Rattle.sql_typing.specs.declared.fault.TypeFault.TheVariants as y
use Rattle.daq_cli.specs.Faults as of
use Rattle.daq_cli.specs.Questions.{Asked, IsPolicyOf, Question, QuestionCause, RefusesOrder, StopsPlanning, asked_of, step, no_memory}
use Rattle.daq_cli.specs.declared.refusal.Refusal.{Refusal}
use Rattle.daq_cli.specs.declared.refusal.Refusal.TheVariants.{Reads, Typing}

module _ (asked : Asked) where
  untyped : (fault : TypeFault) (why : Refusal) → fault ≢ y.NoMemory → typing.Refuses asked.query asked.head fault → why ≡ of.typing fault → of.typing fault ≡ Typing fault → StopsPlanning asked why
  untyped fault why shown faulty is same = inl (inl (record { fault = fault; shown = shown; is = is ∙ same; faulty = faulty }))

  pub typing_cause : (fault : TypeFault) (why : Refusal) → typing.Refuses asked.query asked.head fault → why ≡ of.typing fault → StopsPlanning asked why
  typing_cause (y.UnknownTable at) why faulty is = untyped (y.UnknownTable at) why (λ n. cc) faulty is refl
  typing_cause (y.UnknownColumn at) why faulty is = untyped (y.UnknownColumn at) why (λ n. cc) faulty is refl
  typing_cause y.TooManyColumns why faulty is = untyped y.TooManyColumns why (λ n. cc) faulty is refl
  typing_cause y.TooManyItems why faulty is = untyped y.TooManyItems why (λ n. cc) faulty is refl
  typing_cause (y.KindsDiffer at) why faulty is = untyped (y.KindsDiffer at) why (λ n. cc) faulty is refl
  typing_cause (y.ScaleTooFine at) why faulty is = untyped (y.ScaleTooFine at) why (λ n. cc) faulty is refl
  typing_cause (y.NotGrouped at) why faulty is = untyped (y.NotGrouped at) why (λ n. cc) faulty is refl
  typing_cause (y.TooManyValues at) why faulty is = untyped (y.TooManyValues at) why (λ n. cc) faulty is refl
  typing_cause (y.LimitOutOfRange at) why faulty is = untyped (y.LimitOutOfRange at) why (λ n. cc) faulty is refl
  typing_cause (y.GroupTooWide bits) why faulty is = untyped (y.GroupTooWide bits) why (λ n. cc) faulty is refl
  typing_cause (y.TooWide item) why faulty is = untyped (y.TooWide item) why (λ n. cc) faulty is refl
  typing_cause y.NoMemory why faulty is = inr is

  module _ (typed : TypedQuery) (is_typed : IsTyped asked.query asked.head typed) where
    unread : (fault : ReadsFault) (why : Refusal) → fault ≢ r.NoMemory → RefusesOrder asked.options.order typed asked.head fault → why ≡ of.reads fault →
        of.reads fault ≡ Reads fault → StopsPlanning asked why
    unread fault why shown faulty is same =
        inl (inr (record { typed = typed; is_typed = is_typed; fault = fault; shown = shown; is = is ∙ same; faulty = faulty }))

    pub reads_cause : (fault : ReadsFault) (why : Refusal) → RefusesOrder asked.options.order typed asked.head fault → why ≡ of.reads fault → StopsPlanning asked why
    reads_cause (r.UnknownName place) why faulty is = unread (r.UnknownName place) why (λ n. cc) faulty is refl
    reads_cause (r.PastEnd place) why faulty is = unread (r.PastEnd place) why (λ n. cc) faulty is refl
    reads_cause r.NoMemory why faulty is = inr is

-- so the question is not answered
pub stops_question : (question : Question) (out : SinkState) (why : Refusal) → StopsPlanning (asked_of question) why → QuestionCause question out out why
stops_question question out why (inl shown) = step shown refl
stops_question question out why (inr e) = subst (QuestionCause question out out) (sym e) (no_memory refl)

-- the policy of a plan can be followed to its end
pub readable_of : (order : ReadOrder) (typed : TypedQuery) (head : Head) (policy : Policy) → IsPolicyOf order typed head policy → IsReadable policy (projected_frame typed (frame_of head))
readable_of (fixed named) typed head policy is = subst (λ p. IsReadable p (projected_frame typed (frame_of head))) (sym is) tt
readable_of (reads names) typed head policy (list, is, all) = subst (λ p. IsReadable p (projected_frame typed (frame_of head))) (sym is) all.first.readable
