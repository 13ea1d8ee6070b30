-- What a `session` shows and accepts, where its script and its store tell their bytes, is what becomes of it.
use Rattle.std.proofs.Common.{◌≡◌, ℕ, ◌≤◌, ◌<◌, List, length, refl, sym, subst, arith, inl, inr, ◌⊎◌, Some}
use Rattle.std.proofs.lemmas.Bool.{cases_lt}
use Rattle.command_line.specs.Commands as line
use Rattle.plane_course.specs.Told.{IsUnpadded, bits_at}
use Rattle.outer_world.specs.Device.{Rose, SinkState, SourceState, StoreState}
use Rattle.outer_world.specs.Whole.{Writes}
use Rattle.table_rounds.specs.Outcomes.{EndIn, Outcome, ended}
use Rattle.table_rounds.specs.Steps.{steps_of}
use Rattle.session_script.specs.Answers.{most_bytes}
use Rattle.session_script.specs.declared.fault.ScriptFault.TheVariants as s
use Rattle.daq_cli.specs.FileReports.{Completed}
use Rattle.daq_cli.specs.Files.{file_step}
use Rattle.daq_cli.specs.Laws.{StepsAreExact}
use Rattle.daq_cli.specs.Scripts.{ScriptCause, StopsAtScript, queries_step}
use Rattle.daq_cli.specs.Scripts as scripts
use Rattle.daq_cli.specs.SessionReport.{session_report}
use Rattle.daq_cli.specs.Worlds.{whole}
use Rattle.daq_cli.specs.commands.Session.{AskedTogether, BeginsSteps, SessionAccepts, SessionCause, SessionShows, Sessions, StepsEndIn, asked_together, printed_forms, report_of, report_step, session_step, at_script, at_file, at_queries, at_write, at_plane, no_memory}
use Rattle.daq_cli.specs.declared.refusal.Refusal.{Refusal}
use Rattle.daq_cli.specs.declared.refusal.Refusal.TheVariants.{NoMemory, Script, WriteFault}
use Rattle.daq_cli.proofs.Ask.{all_bytes, few_bytes}
use Rattle.daq_cli.proofs.FileReports.{StopsCourse, stop_shown}
use Rattle.daq_cli.proofs.Files.{if_told, opened_told, stop_told}
use Rattle.daq_cli.proofs.ScriptCauses.{script_told}

-- ---- the script

too_long : (script : List ℕ) → most_bytes < length script → (queries_step script).shows (Script (s.TooLong most_bytes))
too_long script long = inl (record { fault = s.TooLong most_bytes; shown = λ n. cc; is = refl; faulty = (refl, long) })

module _ (law : StepsAreExact) (side side' : SourceState) (script : List ℕ) (told : side.left ≡ Some script) where
  -- what is shown by the part that was read is shown by all that was told
  stop_script : (why : Refusal) → StopsAtScript side side' why → (queries_step script).shows why
  stop_script why stop = by (cases_lt most_bytes (length stop.script))
    where
      by : (most_bytes < length stop.script) ⊎ (length stop.script ≤ most_bytes) → (queries_step script).shows why
      by (inl long) =
          let few = few_bytes side.left side'.left script stop.script told stop.came in
          subst (queries_step script).shows (sym ((law.script stop.script).same why (Script (s.TooLong most_bytes)) stop.shown (too_long stop.script long))) (too_long script (omega (arith, long, few)))
      by (inr small) = subst (λ l. (queries_step l).shows why) (all_bytes side.left side'.left script stop.script told stop.came (stop.ended small)) stop.shown

  -- there are no queries: this is shown, or memory ran out, or a read failed
  pub cause_told : (why : Refusal) → ScriptCause side side' why → (queries_step script).shows why ⊎ (why ≡ NoMemory) ⊎ Rose side.faults side'.faults
  cause_told why (scripts.at_bytes stop) = inl (stop_script why stop)
  cause_told why (scripts.read_fault rose taken) = inr (inr rose)
  cause_told why (scripts.no_memory taken) = inr (inl refl)

-- ---- the steps that were begun

module _ (words : line.Session) (side side' : SourceState) (planes opened : StoreState) (begun : BeginsSteps words side side' planes opened) (script bytes : List ℕ) (told : side.left ≡ Some script)
    (held : planes.held ≡ Some bytes) where
  -- what was asked
  abbrev asked : AskedTogether
  asked = asked_together begun.queries begun.typed begun.file.head

  -- it is accepted
  accepted : (session_step script bytes).accepts asked
  accepted = (begun.queries, script_told side side' script told begun.queries begun.has_opened.read, (begun.file, opened_told planes opened bytes held begun.file begun.has_opened.opens, begun.accepted))

  -- what its steps come to
  abbrev ends_in : (outcome : Outcome) (reads : List ℕ) → EndIn (steps_of begun.plan begun.typed begun.file.head (bits_at begun.file.head bytes)) (IsUnpadded begun.file.head bytes) reads outcome →
      StepsEndIn words.options asked bytes outcome
  ends_in outcome reads ends = record { plan = begun.plan; planned = begun.planned; reads = reads; ends = ends }

  -- the report that was written is the one
  report_written : (planes' : StoreState) (out out' : SinkState) → Completed (report_of words side side' planes opened begun) opened planes' out out' bytes → (text : List ℕ) × (report_step words script bytes).accepts text × Writes whole out out' text
  report_written planes' out out' completed =
      let steps = completed.rounds in
      let text = session_report (printed_forms begun.queries) begun.file.head begun.plan begun.typed (bits_at begun.file.head bytes) steps.reads in
      (text, (asked, accepted, record { steps = ends_in ended steps.reads (record { each = steps.each; come = steps.rounds }); is = refl }), steps.written)

-- ---- what is shown, and what is accepted

module _ (law : StepsAreExact) (words : line.Session) (side side' : SourceState) (planes planes' : StoreState) (out out' : SinkState) where
  -- the report that was written
  answered : (script bytes : List ℕ) → side.left ≡ Some script → planes.held ≡ Some bytes → Sessions words side side' planes planes' out out' →
      (text : List ℕ) × (report_step words script bytes).accepts text × Writes whole out out' text
  answered script bytes told held does =
      report_written words side side' planes does.opened does.begun script bytes told held planes' out out'
      (if_told (λ b. Completed (report_of words side side' planes does.opened does.begun) does.opened planes' out out' b) planes.held bytes held does.reported.completed)

  -- it was written only where nothing is shown
  pub sessions_apart : (other : Refusal) → Sessions words side side' planes planes' out out' → SessionShows words side.left planes.held other → ⊥
  sessions_apart other does (inl (script, told, p)) = (law.script script).apart does.begun.queries other (script_told side side' script told does.begun.queries does.begun.has_opened.read) p
  sessions_apart other does (inr (script, bytes, told, held, p)) = let (text, is, written) = answered script bytes told held does in (law.session words script bytes).apart text other is p

  -- and is the one that is accepted
  pub sessions_text : (text : List ℕ) → Sessions words side side' planes planes' out out' → SessionAccepts words side.left planes.held text → Writes whole out out' text
  sessions_text text does (script, bytes, told, held, accepts) =
      let (other, is, written) = answered script bytes told held does in
      subst (Writes whole out out') ((law.session words script bytes).once other text is accepts) written

  -- memory ran out, or a read failed
  abbrev pub Unread : Refusal → Type 0
  Unread why = (why ≡ NoMemory) ⊎ Rose side.faults side'.faults ⊎ Rose planes.faults planes'.faults

  -- steps were begun, and their report was not written to its end
  abbrev pub Fails : Refusal → Type 0
  Fails why = ((opened : StoreState) × BeginsSteps words side side' planes opened) × Rose out.faults out'.faults × (why ≡ WriteFault)

  module _ (script : List ℕ) (told : side.left ≡ Some script) (bytes : List ℕ) (held : planes.held ≡ Some bytes) where
    -- the refusal is shown, but for want of memory, a failed read and a failed write
    pub cause_shown : (why : Refusal) → SessionCause words side side' planes planes' out out' why →
        (report_step words script bytes).shows why ⊎ Unread why ⊎ Fails why
    cause_shown why (at_script cause s o) = by (cause_told law side side' script told why cause)
      where
        by : (queries_step script).shows why ⊎ (why ≡ NoMemory) ⊎ Rose side.faults side'.faults → (report_step words script bytes).shows why ⊎ Unread why ⊎ Fails why
        by (inl shown) = inl (inl (inl shown))
        by (inr (inl e)) = inr (inl (inl e))
        by (inr (inr rose)) = inr (inl (inr (inl rose)))
    cause_shown why (at_file queries read stop o) = by (stop_told planes planes' bytes held why stop)
      where
        by : (file_step bytes).shows why ⊎ (why ≡ NoMemory) ⊎ Rose planes.faults planes'.faults → (report_step words script bytes).shows why ⊎ Unread why ⊎ Fails why
        by (inl shown) = inl (inl (inr (queries, script_told side side' script told queries read, inl shown)))
        by (inr (inl e)) = inr (inl (inl e))
        by (inr (inr rose)) = inr (inl (inr (inr rose)))
    cause_shown why (at_queries queries file has shown o) =
        inl (inl (inr (queries, script_told side side' script told queries has.read, inr (file, opened_told planes planes' bytes held file has.opens, shown))))
    cause_shown why (no_memory queries file has o) = inr (inl (inl refl))
    cause_shown why (at_write opened begun cut) = inr (inr ((opened, begun), cut.rose, refl))
    cause_shown why (at_plane opened begun fault stop) =
        by (stop_shown (report_of words side side' planes opened begun) planes opened planes' out out' begun.has_opened.same bytes held fault why stop)
      where
        by : StopsCourse (steps_of begun.plan begun.typed begun.file.head (bits_at begun.file.head bytes)) begun.file.head bytes why ⊎ Rose planes.faults planes'.faults →
            (report_step words script bytes).shows why ⊎ Unread why ⊎ Fails why
        by (inl shown) = inl (inr (
          asked words side side' planes opened begun script bytes told held,
          accepted words side side' planes opened begun script bytes told held,
          record { outcome = shown.outcome; steps = ends_in words side side' planes opened begun script bytes told held shown.outcome shown.reads shown.ends; is = shown.is },
        ))
        by (inr rose) = inr (inl (inr (inr rose)))

  -- what a told script shows is the cause, unless memory runs out or its read fails: the file was not opened
  script_shown : (why other : Refusal) (script : List ℕ) → side.left ≡ Some script → SessionCause words side side' planes planes' out out' why → (queries_step script).shows other →
      (why ≡ other) ⊎ (why ≡ NoMemory) ⊎ Rose side.faults side'.faults
  script_shown why other script told (at_script cause s o) r = by (cause_told law side side' script told why cause)
    where
      by : (queries_step script).shows why ⊎ (why ≡ NoMemory) ⊎ Rose side.faults side'.faults → (why ≡ other) ⊎ (why ≡ NoMemory) ⊎ Rose side.faults side'.faults
      by (inl shown) = inl ((law.script script).same why other shown r)
      by (inr rest) = inr rest
  script_shown why other script told (at_file queries read stop o) r = absurd ((law.script script).apart queries other (script_told side side' script told queries read) r)
  script_shown why other script told (at_queries queries file has shown o) r = absurd ((law.script script).apart queries other (script_told side side' script told queries has.read) r)
  script_shown why other script told (no_memory queries file has o) r = inr (inl refl)
  script_shown why other script told (at_write opened begun cut) r = absurd ((law.script script).apart begun.queries other (script_told side side' script told begun.queries begun.has_opened.read) r)
  script_shown why other script told (at_plane opened begun fault stop) r =
      absurd ((law.script script).apart begun.queries other (script_told side side' script told begun.queries begun.has_opened.read) r)

  -- what is shown is the cause, unless memory runs out, a read fails or the report of the steps before is not written
  pub session_shown : (why other : Refusal) → SessionCause words side side' planes planes' out out' why → SessionShows words side.left planes.held other → (why ≡ other) ⊎ Unread why ⊎ Fails why
  session_shown why other cause (inl (script, told, r)) = by (script_shown why other script told cause r)
    where
      by : (why ≡ other) ⊎ (why ≡ NoMemory) ⊎ Rose side.faults side'.faults → (why ≡ other) ⊎ Unread why ⊎ Fails why
      by (inl e) = inl e
      by (inr (inl e)) = inr (inl (inl e))
      by (inr (inr rose)) = inr (inl (inr (inl rose)))
  session_shown why other cause (inr (script, bytes, told, held, r)) = by (cause_shown script told bytes held why cause)
    where
      by : (report_step words script bytes).shows why ⊎ Unread why ⊎ Fails why → (why ≡ other) ⊎ Unread why ⊎ Fails why
      by (inl shown) = inl ((law.session words script bytes).same why other shown r)
      by (inr rest) = inr rest

  -- where a report is accepted, nothing but want of memory and faults stops the run
  pub session_accepted : (why : Refusal) (text : List ℕ) → SessionCause words side side' planes planes' out out' why → SessionAccepts words side.left planes.held text →
      Unread why ⊎ Rose out.faults out'.faults
  session_accepted why text cause (script, bytes, told, held, accepts) = by (cause_shown script told bytes held why cause)
    where
      by : (report_step words script bytes).shows why ⊎ Unread why ⊎ Fails why → Unread why ⊎ Rose out.faults out'.faults
      by (inl shown) = absurd ((law.session words script bytes).apart text why accepts shown)
      by (inr (inl unread)) = inl unread
      by (inr (inr (begun, rose, e))) = inr rose

-- before the steps nothing was written
pub session_unwritten : (words : line.Session) (side side' : SourceState) (planes planes' : StoreState) (out out' : SinkState) (why : Refusal) → SessionCause words side side' planes planes' out out' why →
    (out' ≡ out) ⊎ ((opened : StoreState) × BeginsSteps words side side' planes opened) ⊎ (why ≡ WriteFault)
session_unwritten words side side' planes planes' out out' why (at_script cause s o) = inl o
session_unwritten words side side' planes planes' out out' why (at_file queries read stop o) = inl o
session_unwritten words side side' planes planes' out out' why (at_queries queries file has shown o) = inl o
session_unwritten words side side' planes planes' out out' why (no_memory queries file has o) = inl o
session_unwritten words side side' planes planes' out out' why (at_write opened begun cut) = inr (inr refl)
session_unwritten words side side' planes planes' out out' why (at_plane opened begun fault stop) = inr (inl (opened, begun))
