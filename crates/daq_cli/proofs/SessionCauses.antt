-- Why each step of a `session` stops it, and what it comes to.
use Rattle.std.proofs.Common.{◌≡◌, ◌⊎◌, ℕ, List, length, Ok, Err, refl, sym, subst, inl, inr, IsSome}
use Rattle.command_line.specs.Commands as line
use Rattle.daq_table.specs.Tables.{frame_of}
use Rattle.daq_table.specs.declared.table_head.Head.{Head}
use Rattle.plane_course.specs.Told.{bits_at}
use Rattle.multi_session.specs.Limits.{RefusesSession}
use Rattle.multi_session.specs.declared.limits.SessionFault.{SessionFault}
use Rattle.multi_session.specs.declared.limits.SessionFault.TheVariants as m
use Rattle.outer_world.specs.Device.{SinkState, SourceState, StoreState}
use Rattle.plane_file.specs.Opening.{IsFileHead, Opened, Refuses}
use Rattle.plane_file.specs.declared.file_fault.FileFault.{FileFault}
use Rattle.plane_file.specs.declared.plane_fault.PlaneFault.{PlaneFault}
use Rattle.query_model.specs.Laws.{ValidQueriesNameColumns}
use Rattle.query_model.specs.Queries.{Query}
use Rattle.query_model.specs.Validity.{IsValid}
use Rattle.table_rounds.specs.SessionLaws.{AreValid, SessionsAreCertain}
use Rattle.table_rounds.proofs.Lists.{all_there}
use Rattle.table_rounds.specs.Steps.{AreAllSteps, AreSteps, own_reads, places_read, plan_alone}
use Rattle.table_rounds.proofs.OfTables.{same_stages}
use Rattle.table_rounds.specs.Headline.{AreOfLongs, RoundsHaveTables}
use Rattle.daq_cli.specs.Faults as of
use Rattle.daq_cli.specs.FileReports.{EndsFile, FileReport, StopsAfter}
use Rattle.daq_cli.specs.OfTables.{AllAreOfTables}
use Rattle.daq_cli.specs.Scripts.{ReadsScript, Scripted}
use Rattle.daq_cli.specs.Report.{EndsOverSome, HasStopCause, WritesOverSome}
use Rattle.daq_cli.specs.SessionReport.{QueriesAreShownAlone}
use Rattle.daq_cli.specs.Steps.{StopsStep, each}
use Rattle.daq_cli.specs.commands.Session.{AreAllCertain, AskedTogether, BeginsSteps, HasOpened, SessionCause, Sessions, ShowsLimit, asked_together, report_of, together_step, typing_step, at_file, at_queries, at_write, at_plane, no_memory}
use Rattle.daq_cli.specs.declared.refusal.Refusal.{Refusal}
use Rattle.daq_cli.specs.declared.refusal.Refusal.TheVariants.{NoMemory, Session}
use Rattle.daq_cli.specs.declared.stop.Stop.{Stop}
use Rattle.daq_cli.specs.declared.stop.Stop.TheVariants.{Failed, Step}
use Rattle.daq_cli.proofs.FileReports.{cut_off, reported, stopped_at}
use Rattle.daq_cli.proofs.OfTables.{are_of_tables}

-- ---- what is asked of the table

limit_shown : (asked : AskedTogether) (fault : SessionFault) (why : Refusal) → RefusesSession asked.head.rows asked.typed fault → why ≡ of.session fault → ShowsLimit asked why ⊎ (why ≡ NoMemory)
limit_shown asked (m.TooMany count) why passed is = inl (record { fault = m.TooMany count; is = is; passed = passed })
limit_shown asked (m.TooManyColumns count) why passed is = inl (record { fault = m.TooManyColumns count; is = is; passed = passed })
limit_shown asked (m.TooLarge cells) why passed is = inl (record { fault = m.TooLarge cells; is = is; passed = passed })
limit_shown asked m.NoMemory why passed is = inr is

module _ (queries : List Scripted) (head : Head) where
  -- the typings
  pub typings_stop : (why : Refusal) → StopsStep (each (typing_step head) queries) why → StopsStep (together_step queries head) why
  typings_stop why (inl shown) = inl (inl shown)
  typings_stop why (inr e) = inr e

  -- the limits
  pub limits_stop : (typed : List Query) → (each (typing_step head) queries).accepts typed → (fault : SessionFault) (why : Refusal) → RefusesSession head.rows typed fault →
      why ≡ of.session fault → StopsStep (together_step queries head) why
  limits_stop typed accepted fault why passed is = by (limit_shown (asked_together queries typed head) fault why passed is)
    where
      by : ShowsLimit (asked_together queries typed head) why ⊎ (why ≡ NoMemory) → StopsStep (together_step queries head) why
      by (inl shown) = inl (inr (typed, accepted, shown))
      by (inr e) = inr e

-- ---- before the steps

module _ (words : line.Session) (side side' : SourceState) (out : SinkState) where
  -- the file
  pub session_file : (queries : List Scripted) → ReadsScript side side' queries → (planes planes' : StoreState) (fault : FileFault) (why : Refusal) → Refuses planes planes' fault → why ≡ of.opening fault →
      SessionCause words side side' planes planes' out out why
  session_file queries read planes planes' fault why refused is = at_file queries read (record { fault = fault; is = is; refused = refused }) refl

  -- what is asked of its table
  pub session_queries : (queries : List Scripted) (file : Opened) (planes planes' : StoreState) → HasOpened side side' planes planes' queries file → (why : Refusal) →
      StopsStep (together_step queries file.head) why → SessionCause words side side' planes planes' out out why
  session_queries queries file planes planes' has why (inl shown) = at_queries queries file has shown refl
  session_queries queries file planes planes' has why (inr e) = subst (SessionCause words side side' planes planes' out out) (sym e) (no_memory queries file has refl)

-- ---- the steps

module _ (words : line.Session) (side side' : SourceState) (planes opened planes' : StoreState) (out out' : SinkState) (begun : BeginsSteps words side side' planes opened)
    (certain : SessionsAreCertain) (alone : QueriesAreShownAlone) (have : RoundsHaveTables) (names : ValidQueriesNameColumns) (valid : AreValid begun.file.head begun.typed) (longs : AreOfLongs (frame_of begun.file.head)) where
  abbrev said : FileReport
  said = report_of words side side' planes opened begun

  headline : (bytes reads : List ℕ) → AreSteps begun.plan begun.typed begun.file.head (bits_at begun.file.head bytes) reads →
      AreAllCertain begun.plan begun.typed begun.file.head (bits_at begun.file.head bytes) reads
  headline bytes reads steps = λ n query there cells has. (
    certain begun.plan begun.typed begun.file.head (bits_at begun.file.head bytes) reads n query cells valid longs steps there has,
    λ round h. same_stages query (frame_of begun.file.head) (bits_at begun.file.head bytes)
        (own_reads begun.plan.near (frame_of begun.file.head) (bits_at begun.file.head bytes) (places_read begun.typed reads) query (length reads)) cells has round,
  )

  -- each query alone
  tables : (bytes reads : List ℕ) → AreAllSteps begun.plan begun.typed begun.file.head (bits_at begun.file.head bytes) reads → IsFileHead bytes begun.file.version begun.file.head →
      AllAreOfTables begun.plan begun.typed begun.file.head bytes reads
  tables bytes reads all front n query there =
      let steps = all.rounds in
      let head = begun.file.head in
      let own = own_reads begun.plan.near (frame_of head) (bits_at head bytes) (places_read begun.typed reads) query (length reads) in
      let shown = alone begun.plan begun.typed head (bits_at head bytes) reads n query steps there in
      let named = names head query (all_there (IsValid head) begun.typed n query valid there) in
      (shown, are_of_tables have head begun.file.version (plan_alone begun.plan own) query bytes own front named shown.rounds (λ cells has. (headline bytes reads steps n query there cells has).0))

  pub session_done : WritesOverSome said.line said.shown IsSome out out' → EndsFile said.line said.shown said.head (Ok tt) opened planes' out out' → Sessions words side side' planes planes' out out'
  session_done written ends =
      record { opened = opened; begun = begun; reported = reported said planes opened planes' out out' begun.has_opened.same headline tables begun.has_opened.opens.spelled written ends }

  pub session_stop : (stop : Stop PlaneFault) (why : Refusal) → why ≡ of.stop stop → HasStopCause (StopsAfter said.head opened planes') (Err stop) out out' →
      EndsOverSome said.line said.shown (Err stop) out out' → EndsFile said.line said.shown said.head (Err stop) opened planes' out out' → SessionCause words side side' planes planes' out out' why
  session_stop Failed why is cause written ends =
      subst (SessionCause words side side' planes planes' out out') (sym is) (at_write opened begun (cut_off said planes opened planes' out out' begun.has_opened.same headline cause written ends))
  session_stop (Step fault) why is cause written ends =
      at_plane opened begun fault (stopped_at said planes opened planes' out out' begun.has_opened.same headline fault why is cause written ends)
