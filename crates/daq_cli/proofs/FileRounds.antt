-- The rounds of a question over the planes in a file come to one report, or to one plane that is refused.
use Rattle.std.proofs.Common.{◌≡◌, ℕ, List, [], refl, sym, ap, ◌∙◌, subst, inl, inr, Option, Some, None}
use Rattle.daq_table.specs.Tables.{Frame, frame_of}
use Rattle.plane_course.proofs.Pads.{padded_or_not}
use Rattle.plane_course.proofs.RowsBack.{length-rows_in}
use Rattle.plane_course.specs.Told.{IsUnpadded, bits_at}
use Rattle.plane_file.specs.Places.{plane_in}
use Rattle.plane_reads.specs.Reads as reads_laws
use Rattle.plane_schedule.specs.Laws.{ChoicesAreOne, PoliciesChoose}
use Rattle.plane_schedule.specs.declared.policy.Plan.{Plan}
use Rattle.query_model.specs.Laws.{TakenIsKnowledge, ValidQueriesNameColumns}
use Rattle.query_model.specs.declared.query.TypedQuery.{TypedQuery}
use Rattle.sql_print.specs.Printed.{printed}
use Rattle.sql_typing.specs.Laws as typing_laws
use Rattle.table_rounds.proofs.Courses.{each_of_none, has_outcome, outcomes_are_one}
use Rattle.table_rounds.proofs.Going.{rounds_go_on, rounds_lawful}
use Rattle.table_rounds.specs.Headline.{RoundsBegin, RoundsHavePlanes}
use Rattle.table_rounds.specs.Outcomes.{EndIn, Outcome, ended, refused, unreadable}
use Rattle.table_rounds.specs.Rounds.{Planes, rounds_of}
use Rattle.daq_cli.specs.FileReports.{refusal_at}
use Rattle.daq_cli.specs.Questions.{Asked, IsAnswerable, IsPlanOf}
use Rattle.daq_cli.specs.Report.{report}
use Rattle.daq_cli.specs.Steps.{IsComplete, IsExact}
use Rattle.daq_cli.specs.commands.Query.{EndsIn, IsFileReport, ShowsPlane, rounds_step}
use Rattle.daq_cli.specs.declared.refusal.Refusal.{Refusal}
use Rattle.daq_cli.specs.declared.refusal.Refusal.TheVariants.{PadBits, OverTop}
use Rattle.daq_cli.proofs.QuestionCauses.{readable_of}
use Rattle.daq_cli.proofs.Reports.{one_plan}

-- what is known of each part from the crate that carries it out
pub record Laws : Type 0 where
  pub typings : typing_laws.IsTypedOnce
  pub valid : typing_laws.IsTypedValid
  pub lists : reads_laws.AnswersAreOne
  pub choices : ChoicesAreOne

one_refusal : {a b : Refusal} → Some a ≡ Some b → a ≡ b
one_refusal e = cc

no_refusal : {a : Refusal} → ◌≡◌ {A = Option Refusal} None (Some a) → ⊥
no_refusal e = cc

module _ (law : Laws) (asked : Asked) (bytes : List ℕ) where
  abbrev frame : Frame
  frame = frame_of asked.head

  abbrev bits : Planes
  bits = bits_at asked.head bytes

  abbrev text_of : Plan → TypedQuery → List ℕ → List ℕ
  text_of plan typed reads = report (printed asked.query) asked.head plan typed bits reads

  -- the typing, the plan, the rounds and what they come to are one
  one_end : (x y : Outcome) (p : EndsIn asked bytes x) (r : EndsIn asked bytes y) → (r.typed ≡ p.typed) × (r.plan ≡ p.plan) × (p.reads ≡ r.reads) × (x ≡ y)
  one_end x y p r =
      let head = asked.head in
      let typed : r.typed ≡ p.typed = law.typings asked.query head r.typed p.typed r.planned.is_typed p.planned.is_typed in
      let plan : r.plan ≡ p.plan =
      one_plan law.lists asked.options head p.typed (law.valid asked.query head p.typed p.planned.is_typed) r.plan p.plan (subst (λ (t : TypedQuery). IsPlanOf asked.options t head r.plan) typed r.planned.planned) p.planned.planned in
      let ends : EndIn (rounds_of p.plan p.typed frame bits) (IsUnpadded head bytes) r.reads y =
      subst (λ (t : TypedQuery). EndIn (rounds_of p.plan t frame bits) (IsUnpadded head bytes) r.reads y) typed (subst (λ (n : Plan). EndIn (rounds_of n r.typed frame bits) (IsUnpadded head bytes) r.reads y) plan r.ends) in
      let (reads, outcomes) = outcomes_are_one law.choices (rounds_of p.plan p.typed frame bits) (rounds_lawful p.plan p.typed frame bits) (IsUnpadded head bytes) p.reads r.reads x y p.ends ends in
      (typed, plan, reads, outcomes)

  one_text : (a b : List ℕ) → IsFileReport asked bytes a → IsFileReport asked bytes b → a ≡ b
  one_text a b p r =
      let (typed, plan, reads, outcomes) = one_end ended ended p.rounds r.rounds in
      p.is
      ∙ sym (ap (λ (t : TypedQuery). text_of p.rounds.plan t p.rounds.reads) typed)
      ∙ sym (ap (λ (n : Plan). text_of n r.rounds.typed p.rounds.reads) plan)
      ∙ ap (text_of r.rounds.plan r.rounds.typed) reads ∙ sym r.is

  one_plane : (why other : Refusal) → ShowsPlane asked bytes why → ShowsPlane asked bytes other → why ≡ other
  one_plane why other p r =
      let (typed, plan, reads, outcomes) = one_end p.outcome r.outcome p.rounds r.rounds in
      one_refusal (sym p.is ∙ ap refusal_at outcomes ∙ r.is)

  not_both : (text : List ℕ) (why : Refusal) → IsFileReport asked bytes text → ShowsPlane asked bytes why → ⊥
  not_both text why is p =
      let (typed, plan, reads, outcomes) = one_end ended p.outcome is.rounds p.rounds in
      no_refusal (ap refusal_at outcomes ∙ p.is)

  pub rounds_exact : IsExact (rounds_step asked bytes)
  rounds_exact = record { once = one_text; same = one_plane; apart = not_both }

-- why rounds go on to one of these
pub record GoOn : Type 0 where
  pub valid : typing_laws.IsTypedValid
  pub columns : ValidQueriesNameColumns
  pub choose : PoliciesChoose
  pub have : RoundsHavePlanes
  pub taken : TakenIsKnowledge
  pub begin : RoundsBegin

module _ (law : GoOn) (asked : Asked) (bytes : List ℕ) (answerable : IsAnswerable asked) where
  pub rounds_complete : IsComplete (rounds_step asked bytes)
  rounds_complete =
      let head = asked.head in
      let typed = answerable.typed in
      let plan = answerable.plan in
      let planned = answerable.planned in
      let bits = bits_at head bytes in
      by (has_outcome (rounds_of plan typed (frame_of head) bits)
      (rounds_go_on plan typed (frame_of head) bits law.have law.choose law.taken (law.columns head typed (law.valid asked.query head typed planned.is_typed)) (λ c j h lt. length-rows_in head.rows (plane_in head c j bytes))
      (readable_of asked.options.order typed head plan.policy planned.planned.policy)) (IsUnpadded head bytes) (λ c j. padded_or_not head.rows (plane_in head c j bytes))
      [] (law.begin plan typed head bits).rounds (each_of_none (IsUnpadded head bytes) (rounds_of plan typed (frame_of head) bits)))
    where
      ends_in : (outcome : Outcome) (reads : List ℕ) → EndIn (rounds_of answerable.plan answerable.typed (frame_of asked.head) (bits_at asked.head bytes)) (IsUnpadded asked.head bytes) reads outcome → EndsIn asked bytes outcome
      ends_in outcome reads ends = record { typed = answerable.typed; plan = answerable.plan; planned = answerable.planned; reads = reads; ends = ends }

      by : ((reads : List ℕ) × (outcome : Outcome) × EndIn (rounds_of answerable.plan answerable.typed (frame_of asked.head) (bits_at asked.head bytes)) (IsUnpadded asked.head bytes) reads outcome) →
          IsComplete (rounds_step asked bytes)
      by (reads, ended, ends) =
          inl (report (printed asked.query) asked.head answerable.plan answerable.typed (bits_at asked.head bytes) reads, record { rounds = ends_in ended reads ends; is = refl })
      by (reads, unreadable column plane, ends) = inr (PadBits column plane, record { outcome = unreadable column plane; rounds = ends_in (unreadable column plane) reads ends; is = refl })
      by (reads, refused column plane row, ends) =
          inr (OverTop column plane row, record { outcome = refused column plane row; rounds = ends_in (refused column plane row) reads ends; is = refl })
