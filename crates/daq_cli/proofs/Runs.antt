-- What the words and a told input show or accept is what the run comes to.
use Rattle.std.proofs.Common.{◌≡◌, ◌≢◌, ℕ, Bool, List, IsFalse, IsTrue, refl, sym, ap, ◌∙◌, subst, inl, inr, ◌⊎◌}
use Rattle.command_line.specs.Commands.{Ask, Combine, Command, Demo, GoesWrong, IsCommand, Load, Session, ask, combine, demo, help, info, load, query, session, upgrade, version}
use Rattle.command_line.specs.Commands as line
use Rattle.outer_world.specs.Device.{Rose, SinkState, SourceState, StoreState}
use Rattle.daq_cli.specs.Notices.{NoticeCause}
use Rattle.daq_cli.specs.Refusals.{IsTold, status_of}
use Rattle.daq_cli.specs.Runs.{Accepts, BeginsRounds, CommandAccepts, CommandShows, Completes, Does, EndsSo, IsCause, IsDone, IsFulfilled, IsRefused, IsUnwritten, ReadFails, Shows, StopsFor, Task, Uses, of_ask, of_combine, of_demo, of_help, of_info, of_load, of_query, of_session, of_upgrade, of_version, in_combine, in_query, in_session, uses}
use Rattle.daq_cli.specs.Worlds.{Device, IsSame, WorldState}
use Rattle.daq_cli.specs.Worlds as device
use Rattle.daq_cli.specs.commands.Ask.{AskCause}
use Rattle.daq_cli.specs.commands.Combine.{BeginsReport, CombineCause}
use Rattle.daq_cli.specs.commands.Demo.{DemoCause}
use Rattle.daq_cli.specs.commands.Help.{help_text}
use Rattle.daq_cli.specs.commands.Info.{InfoCause}
use Rattle.daq_cli.specs.commands.Load.{LoadCause}
use Rattle.daq_cli.specs.commands.Query.{Begins, QueryCause}
use Rattle.daq_cli.specs.commands.Session.{BeginsSteps, SessionCause}
use Rattle.daq_cli.specs.commands.Upgrade.{UpgradeCause}
use Rattle.daq_cli.specs.commands.Version.{version_text}
use Rattle.daq_cli.specs.declared.refusal.Refusal.{Refusal}
use Rattle.daq_cli.specs.declared.refusal.Refusal.TheVariants.{NoMemory, Usage, WriteFault}
use Rattle.daq_cli.specs.declared.status.Status.{Status}
use Rattle.daq_cli.specs.declared.status.Status.TheVariants as s
use Rattle.daq_cli.proofs.Ask.{ask_accepted, ask_shown, ask_unwritten, asks_apart, asks_question}
use Rattle.daq_cli.proofs.Combine.{combine_accepted, combine_shown, combine_unwritten, combines_apart, combines_text}
use Rattle.daq_cli.proofs.Demo.{demo_accepted, demo_apart, demo_question, demo_shown, demo_unwritten}
use Rattle.daq_cli.proofs.Info.{info_accepted, info_shown, info_unwritten, informs_apart, informs_file}
use Rattle.daq_cli.proofs.Load.{load_accepted, load_shown, load_unwritten, loads_apart, loads_table}
use Rattle.daq_cli.proofs.Notices.{notice_accepted, notice_unwritten}
use Rattle.daq_cli.proofs.Query.{queries_apart, queries_text, query_accepted, query_shown, query_unwritten}
use Rattle.daq_cli.proofs.Session.{session_accepted, session_shown, session_unwritten, sessions_apart, sessions_text}
use Rattle.daq_cli.proofs.Upgrade.{upgrade_accepted, upgrade_shown, upgrade_unwritten, upgrades_apart, upgrades_table}
use Rattle.daq_cli.specs.Laws.{StepsAreExact}

-- words ask for one command at most, and go wrong at one place at most
abbrev pub IsOneCommand : Type 0
IsOneCommand = (words : List (List ℕ)) (c d : Command) → IsCommand words c → IsCommand words d → c ≡ d

abbrev pub IsOnePlace : Type 0
IsOnePlace = (words : List (List ℕ)) (p q : ℕ) → GoesWrong words p → GoesWrong words q → p ≡ q

-- a read failed
abbrev pub FailsToRead : WorldState → WorldState → Command → Type 0
FailsToRead before after command =
    (IsTrue (uses command device.input) × Rose before.input.faults after.input.faults)
    ⊎ (IsTrue (uses command device.planes) × Rose before.planes.faults after.planes.faults)
    ⊎ (IsTrue (uses command device.side) × Rose before.side.faults after.side.faults)

-- memory ran out, or a device failed
abbrev pub Excused : WorldState → WorldState → Command → Refusal → Type 0
Excused before after command why =
    (why ≡ NoMemory) ⊎ FailsToRead before after command
    ⊎ (IsTrue (uses command device.made) × Rose before.made.faults after.made.faults)
    ⊎ (IsTrue (uses command device.out) × Rose before.out.faults after.out.faults)

-- rounds of the command were begun: it is a `query`, or a `session`; or its report can begin: it is a `combine`
pub data HasBegun (before : WorldState) : Command → Type 0 where
  rounds : (q : line.Query) (opened : StoreState) → Begins q before.planes opened → HasBegun before (query q)
  steps : (s : Session) (read : SourceState) (opened : StoreState) → BeginsSteps s before.side read before.planes opened → HasBegun before (session s)
  reports : (c : Combine) (read : SourceState) → BeginsReport c before.input read → HasBegun before (combine c)

-- its report was not written to its end
abbrev pub FailsToReport : WorldState → WorldState → Command → Refusal → Type 0
FailsToReport before after command why = HasBegun before command × Rose before.out.faults after.out.faults × (why ≡ WriteFault)

-- ---- for a command

-- a read of the input, or of the store, that failed is a failed read
by_input : {A B C : Type 0} (before after : WorldState) (command : Command) → IsTrue (uses command device.input) → A ⊎ B ⊎ Rose before.input.faults after.input.faults → A ⊎ B ⊎ FailsToRead before after command ⊎ C
by_input before after command used (inl a) = inl a
by_input before after command used (inr (inl b)) = inr (inl b)
by_input before after command used (inr (inr rose)) = inr (inr (inl (inl (used, rose))))

by_store : {A B C : Type 0} (before after : WorldState) (command : Command) → IsTrue (uses command device.planes) → A ⊎ B ⊎ Rose before.planes.faults after.planes.faults → A ⊎ B ⊎ FailsToRead before after command ⊎ C
by_store before after command used (inl a) = inl a
by_store before after command used (inr (inl b)) = inr (inl b)
by_store before after command used (inr (inr rose)) = inr (inr (inl (inr (inl (used, rose)))))

module _ (law : StepsAreExact) (before after : WorldState) where
  command_apart : (command : Command) (other : Refusal) → Does command before after → CommandShows command before other → ⊥
  command_apart (ask a) other does shows = asks_apart law a before.input after.input before.out after.out _ other does shows
  command_apart (combine c) other does shows = combines_apart law c before.input after.input before.out after.out other does shows
  command_apart (demo d) other does shows = demo_apart law d before.out after.out _ other does shows
  command_apart (load l) other does shows = loads_apart law l before.input after.input before.made after.made before.out after.out other does shows
  command_apart (query q) other does shows = queries_apart law q before.planes after.planes before.out after.out other does shows
  command_apart (session s) other does shows = sessions_apart law s before.side after.side before.planes after.planes before.out after.out other does shows
  command_apart (info i) other does shows = informs_apart law before.planes after.planes before.out after.out _ other does shows
  command_apart (upgrade u) other does shows = upgrades_apart law before.planes after.planes before.made after.made before.out after.out other does shows
  command_apart help other does shows = absurd shows
  command_apart version other does shows = absurd shows

  -- what is shown is why the command stops, but for this
  abbrev Shown : Command → Refusal → Refusal → Type 0
  Shown command why other = (why ≡ other) ⊎ (why ≡ NoMemory) ⊎ FailsToRead before after command ⊎ FailsToReport before after command why

  command_shown : (command : Command) (why other : Refusal) → StopsFor command before after why → CommandShows command before other → Shown command why other
  command_shown (ask a) why other cause shows = by_input before after (ask a) refl (ask_shown law a before.input after.input before.out after.out why other cause shows)
  command_shown (combine c) why other cause shows = more (combine_shown law c before.input after.input before.out after.out why other cause shows)
    where
      more : (why ≡ other) ⊎ (why ≡ NoMemory) ⊎ Rose before.input.faults after.input.faults ⊎ (BeginsReport c before.input after.input × Rose before.out.faults after.out.faults × (why ≡ WriteFault)) →
          Shown (combine c) why other
      more (inl e) = inl e
      more (inr (inl e)) = inr (inl e)
      more (inr (inr (inl rose))) = inr (inr (inl (inl (refl, rose))))
      more (inr (inr (inr (begins, rose, e)))) = inr (inr (inr (reports c after.input begins, rose, e)))
  command_shown (demo d) why other cause shows = more (demo_shown law d before.out after.out why other cause shows)
    where
      more : (why ≡ other) ⊎ (why ≡ NoMemory) → Shown (demo d) why other
      more (inl e) = inl e
      more (inr e) = inr (inl e)
  command_shown (load l) why other cause shows =
      by_input before after (load l) refl (load_shown law l before.input after.input before.made after.made before.out after.out why other cause shows)
  command_shown (query q) why other cause shows = more (query_shown law q before.planes after.planes before.out after.out why other cause shows)
    where
      more : (why ≡ other) ⊎ (why ≡ NoMemory) ⊎ Rose before.planes.faults after.planes.faults ⊎ (((opened : StoreState) × Begins q before.planes opened) × Rose before.out.faults after.out.faults × (why ≡ WriteFault)) →
          Shown (query q) why other
      more (inl e) = inl e
      more (inr (inl e)) = inr (inl e)
      more (inr (inr (inl rose))) = inr (inr (inl (inr (inl (refl, rose)))))
      more (inr (inr (inr ((opened, begun), rose, e)))) = inr (inr (inr (rounds q opened begun, rose, e)))
  command_shown (session s) why other cause shows = more (session_shown law s before.side after.side before.planes after.planes before.out after.out why other cause shows)
    where
      more : (why ≡ other) ⊎ ((why ≡ NoMemory) ⊎ Rose before.side.faults after.side.faults ⊎ Rose before.planes.faults after.planes.faults)
          ⊎ (((opened : StoreState) × BeginsSteps s before.side after.side before.planes opened) × Rose before.out.faults after.out.faults × (why ≡ WriteFault)) → Shown (session s) why other
      more (inl e) = inl e
      more (inr (inl (inl e))) = inr (inl e)
      more (inr (inl (inr (inl rose)))) = inr (inr (inl (inr (inr (refl, rose)))))
      more (inr (inl (inr (inr rose)))) = inr (inr (inl (inr (inl (refl, rose)))))
      more (inr (inr ((opened, begun), rose, e))) = inr (inr (inr (steps s after.side opened begun, rose, e)))
  command_shown (info i) why other cause shows = by_store before after (info i) refl (info_shown law before.planes after.planes before.out after.out why other cause shows)
  command_shown (upgrade u) why other cause shows =
      by_store before after (upgrade u) refl (upgrade_shown law before.planes after.planes before.made after.made before.out after.out why other cause shows)
  command_shown help why other cause shows = absurd shows
  command_shown version why other cause shows = absurd shows

  command_fulfils : {command : Command} {task : Task} → CommandAccepts before command task → Does command before after → IsFulfilled task before after
  command_fulfils (of_ask a question accepted) does = asks_question law a before.input after.input before.out after.out _ question does accepted
  command_fulfils (of_combine c text accepted) does = combines_text law c before.input after.input before.out after.out text does accepted
  command_fulfils (of_demo d question accepted) does = demo_question law d before.out after.out _ question does accepted
  command_fulfils (of_load l table accepted) does = loads_table law l before.input after.input before.made after.made before.out after.out table does accepted
  command_fulfils (of_query q text accepted) does = queries_text law q before.planes after.planes before.out after.out text does accepted
  command_fulfils (of_session s text accepted) does = sessions_text law s before.side after.side before.planes after.planes before.out after.out text does accepted
  command_fulfils (of_info i file accepted) does = informs_file law before.planes after.planes before.out after.out _ file does accepted
  command_fulfils (of_upgrade u table accepted) does = upgrades_table law before.planes after.planes before.made after.made before.out after.out table does accepted
  command_fulfils of_help does = does
  command_fulfils of_version does = does

  command_accepted : {command : Command} {task : Task} (why : Refusal) → CommandAccepts before command task → StopsFor command before after why → Excused before after command why
  command_accepted why (of_ask a question accepted) cause = more (ask_accepted law a before.input after.input before.out after.out why question cause accepted)
    where
      more : (why ≡ NoMemory) ⊎ Rose before.input.faults after.input.faults ⊎ Rose before.out.faults after.out.faults → Excused before after (ask a) why
      more (inl e) = inl e
      more (inr (inl rose)) = inr (inl (inl (refl, rose)))
      more (inr (inr rose)) = inr (inr (inr (refl, rose)))
  command_accepted why (of_combine c text accepted) cause = more (combine_accepted law c before.input after.input before.out after.out why text cause accepted)
    where
      more : (why ≡ NoMemory) ⊎ Rose before.input.faults after.input.faults ⊎ Rose before.out.faults after.out.faults → Excused before after (combine c) why
      more (inl e) = inl e
      more (inr (inl rose)) = inr (inl (inl (refl, rose)))
      more (inr (inr rose)) = inr (inr (inr (refl, rose)))
  command_accepted why (of_demo d question accepted) cause = more (demo_accepted law d before.out after.out why question cause accepted)
    where
      more : (why ≡ NoMemory) ⊎ Rose before.out.faults after.out.faults → Excused before after (demo d) why
      more (inl e) = inl e
      more (inr rose) = inr (inr (inr (refl, rose)))
  command_accepted why (of_load l table accepted) cause =
      more (load_accepted law l before.input after.input before.made after.made before.out after.out why table cause accepted)
    where
      more : (why ≡ NoMemory) ⊎ Rose before.input.faults after.input.faults ⊎ Rose before.made.faults after.made.faults ⊎ Rose before.out.faults after.out.faults
          → Excused before after (load l) why
      more (inl e) = inl e
      more (inr (inl rose)) = inr (inl (inl (refl, rose)))
      more (inr (inr (inl rose))) = inr (inr (inl (refl, rose)))
      more (inr (inr (inr rose))) = inr (inr (inr (refl, rose)))
  command_accepted why (of_query q text accepted) cause = more (query_accepted law q before.planes after.planes before.out after.out why text cause accepted)
    where
      more : (why ≡ NoMemory) ⊎ Rose before.planes.faults after.planes.faults ⊎ Rose before.out.faults after.out.faults → Excused before after (query q) why
      more (inl e) = inl e
      more (inr (inl rose)) = inr (inl (inr (inl (refl, rose))))
      more (inr (inr rose)) = inr (inr (inr (refl, rose)))
  command_accepted why (of_session s text accepted) cause = more (session_accepted law s before.side after.side before.planes after.planes before.out after.out why text cause accepted)
    where
      more : ((why ≡ NoMemory) ⊎ Rose before.side.faults after.side.faults ⊎ Rose before.planes.faults after.planes.faults) ⊎ Rose before.out.faults after.out.faults → Excused before after (session s) why
      more (inl (inl e)) = inl e
      more (inl (inr (inl rose))) = inr (inl (inr (inr (refl, rose))))
      more (inl (inr (inr rose))) = inr (inl (inr (inl (refl, rose))))
      more (inr rose) = inr (inr (inr (refl, rose)))
  command_accepted why (of_info i file accepted) cause = more (info_accepted law before.planes after.planes before.out after.out why file cause accepted)
    where
      more : (why ≡ NoMemory) ⊎ Rose before.planes.faults after.planes.faults ⊎ Rose before.out.faults after.out.faults → Excused before after (info i) why
      more (inl e) = inl e
      more (inr (inl rose)) = inr (inl (inr (inl (refl, rose))))
      more (inr (inr rose)) = inr (inr (inr (refl, rose)))
  command_accepted why (of_upgrade u table accepted) cause =
      more (upgrade_accepted law before.planes after.planes before.made after.made before.out after.out why table cause accepted)
    where
      more : (why ≡ NoMemory) ⊎ Rose before.planes.faults after.planes.faults ⊎ Rose before.made.faults after.made.faults ⊎ Rose before.out.faults after.out.faults
          → Excused before after (upgrade u) why
      more (inl e) = inl e
      more (inr (inl rose)) = inr (inl (inr (inl (refl, rose))))
      more (inr (inr (inl rose))) = inr (inr (inl (refl, rose)))
      more (inr (inr (inr rose))) = inr (inr (inr (refl, rose)))
  command_accepted why of_help cause = inr (inr (inr (refl, notice_accepted help_text before.out after.out why cause)))
  command_accepted why of_version cause = inr (inr (inr (refl, notice_accepted version_text before.out after.out why cause)))

-- but for a failed write, and for rounds that were begun, nothing was written; a device that the command does not use is unchanged
abbrev pub IsEarly : WorldState → WorldState → Command → Refusal → Type 0
IsEarly before after command why = IsUnwritten before after ⊎ HasBegun before command ⊎ (why ≡ WriteFault)

module _ (before after : WorldState) (why : Refusal) where
  unmade : (command : Command) → after.made ≡ before.made → (after.out ≡ before.out) ⊎ (why ≡ WriteFault) → IsEarly before after command why
  unmade command m (inl o) = inl (m, o)
  unmade command m (inr e) = inr (inr e)

  unstored : (command : Command) → ((after.made ≡ before.made) × (after.out ≡ before.out)) ⊎ (why ≡ WriteFault) → IsEarly before after command why
  unstored command (inl o) = inl o
  unstored command (inr e) = inr (inr e)

  command_unwritten : (command : Command) → ((one : Device) → IsFalse (uses command one) → IsSame one before after) → StopsFor command before after why → IsEarly before after command why
  command_unwritten (ask a) stays cause = unmade (ask a) (stays device.made refl) (ask_unwritten a _ _ _ _ why cause)
  command_unwritten (demo d) stays cause = unmade (demo d) (stays device.made refl) (demo_unwritten d _ _ why cause)
  command_unwritten (info i) stays cause = unmade (info i) (stays device.made refl) (info_unwritten _ _ _ _ why cause)
  command_unwritten (load l) stays cause = unstored (load l) (load_unwritten l _ _ _ _ _ _ why cause)
  command_unwritten (upgrade u) stays cause = unstored (upgrade u) (upgrade_unwritten _ _ _ _ _ _ why cause)
  command_unwritten help stays cause = inr (inr (notice_unwritten help_text _ _ why cause))
  command_unwritten version stays cause = inr (inr (notice_unwritten version_text _ _ why cause))
  command_unwritten (query q) stays cause = by (query_unwritten q _ _ _ _ why cause)
    where
      by : (after.out ≡ before.out) ⊎ ((opened : StoreState) × Begins q before.planes opened) ⊎ (why ≡ WriteFault) → IsEarly before after (query q) why
      by (inl o) = inl (stays device.made refl, o)
      by (inr (inl (opened, begun))) = inr (inl (rounds q opened begun))
      by (inr (inr e)) = inr (inr e)
  command_unwritten (session s) stays cause = by (session_unwritten s _ _ _ _ _ _ why cause)
    where
      by : (after.out ≡ before.out) ⊎ ((opened : StoreState) × BeginsSteps s before.side after.side before.planes opened) ⊎ (why ≡ WriteFault) → IsEarly before after (session s) why
      by (inl o) = inl (stays device.made refl, o)
      by (inr (inl (opened, begun))) = inr (inl (steps s after.side opened begun))
      by (inr (inr e)) = inr (inr e)
  command_unwritten (combine c) stays cause = by (combine_unwritten c _ _ _ _ why cause)
    where
      by : (after.out ≡ before.out) ⊎ BeginsReport c before.input after.input ⊎ (why ≡ WriteFault) → IsEarly before after (combine c) why
      by (inl o) = inl (stays device.made refl, o)
      by (inr (inl begins)) = inr (inl (reports c after.input begins))
      by (inr (inr e)) = inr (inr e)

-- ---- for the words

-- rounds were begun by the command of the words
begun_by : (words : List (List ℕ)) (before : WorldState) {command : Command} → HasBegun before command → IsCommand words command → BeginsRounds words before
begun_by words before (rounds q opened begun) is = in_query q opened is begun
begun_by words before (steps s read opened begun) is = in_session s read opened is begun
begun_by words before (reports c read begins) is = in_combine c read is begins

-- a read of its failed
fails_by : (words : List (List ℕ)) (before after : WorldState) (command : Command) → IsCommand words command → FailsToRead before after command → ReadFails words before after
fails_by words before after command is (inl (used, rose)) = inl ((command, is, used), rose)
fails_by words before after command is (inr (inl (used, rose))) = inr (inl ((command, is, used), rose))
fails_by words before after command is (inr (inr (used, rose))) = inr (inr ((command, is, used), rose))

-- they were, and their report was not written
abbrev pub CutsReport : List (List ℕ) → WorldState → WorldState → Refusal → Type 0
CutsReport words before after why = BeginsRounds words before × Rose before.out.faults after.out.faults × (why ≡ WriteFault)

module _ (law : StepsAreExact) (one : IsOneCommand) (one_place : IsOnePlace) (words : List (List ℕ)) (before after : WorldState) where
  pub done_apart : (other : Refusal) → IsDone words before after → Shows words before other → ⊥
  done_apart other done (Shows.usage place wrong) = wrong.no_command done.command done.is_command
  done_apart other done (Shows.of_command command is shows) =
      command_apart law before after command other (subst (λ c. Does c before after) (one words done.command command done.is_command is) done.does) shows

  pub shown_is : (why other : Refusal) → IsCause words before after why → Shows words before other →
      (why ≡ other) ⊎ (why ≡ NoMemory) ⊎ ReadFails words before after ⊎ CutsReport words before after why
  shown_is why other (IsCause.usage place wrong) (Shows.usage where_else too) = inl (ap Usage (one_place words place where_else wrong too))
  shown_is why other (IsCause.usage place wrong) (Shows.of_command command is shows) = absurd (wrong.no_command command is)
  shown_is why other (IsCause.of_command command is cause) (Shows.usage place wrong) = absurd (wrong.no_command command is)
  shown_is why other (IsCause.of_command command is cause) (Shows.of_command second is_too shows) =
      more (command_shown law before after second why other (subst (λ c. StopsFor c before after why) (one words command second is is_too) cause) shows)
    where
      more : Shown law before after second why other → (why ≡ other) ⊎ (why ≡ NoMemory) ⊎ ReadFails words before after ⊎ CutsReport words before after why
      more (inl e) = inl e
      more (inr (inl e)) = inr (inl e)
      more (inr (inr (inl fails))) = inr (inr (inl (fails_by words before after second is_too fails)))
      more (inr (inr (inr (begun, rose, e)))) = inr (inr (inr (begun_by words before begun is_too, rose, e)))

  pub done_is : (task : Task) → IsDone words before after → Accepts words before task → IsFulfilled task before after
  done_is task done accepts =
      command_fulfils law before after accepts.accepted
      (subst (λ c. Does c before after) (one words done.command accepts.command done.is_command accepts.is_command) done.does)

  pub accepted_is : (why : Refusal) (task : Task) → IsCause words before after why → (accepts : Accepts words before task) → Excused before after accepts.command why
  accepted_is why task (IsCause.usage place wrong) accepts = absurd (wrong.no_command accepts.command accepts.is_command)
  accepted_is why task (IsCause.of_command command is cause) accepts =
      command_accepted law before after why accepts.accepted
      (subst (λ c. StopsFor c before after why) (one words command accepts.command is accepts.is_command) cause)

-- ---- the status

-- a cause that is told ends the run so
pub ends_so : (words : List (List ℕ)) (why other : Refusal) (status : Status) (before after : WorldState) → IsTold why status before.err after.err →
    (why ≡ other) ⊎ (why ≡ NoMemory) ⊎ ReadFails words before after ⊎ CutsReport words before after why → EndsSo words other status before after
ends_so words why other status before after told (inl e) = inl (subst (λ w. IsTold w status before.err after.err) e told)
ends_so words why other status before after told (inr (inl e)) = inr (inl (subst (λ w. IsTold w status before.err after.err) e told))
ends_so words why other status before after told (inr (inr (inl fails))) = inr (inr (inl fails))
ends_so words why other status before after told (inr (inr (inr (begun, rose, e)))) = inr (inr (inr (begun, rose, subst (λ w. IsTold w status before.err after.err) e told)))

-- a run that is accepted is done, unless memory runs out or a device fails
pub completes : (words : List (List ℕ)) (command : Command) → IsCommand words command → (why : Refusal) (task : Task) (status : Status) (before after : WorldState) →
    IsTold why status before.err after.err → Excused before after command why → Completes words task status before after
completes words command is why task status before after (inl t) (inl e) = inr (inl (t.0 ∙ ap status_of e))
completes words command is why task status before after (inr t) (inl e) = inr (inr (inr (inr (inr t.1.cause.failed))))
completes words command is why task status before after told (inr (inl fails)) = inr (inr (inl (fails_by words before after command is fails)))
completes words command is why task status before after told (inr (inr (inl (used, rose)))) = inr (inr (inr (inl ((command, is, used), rose))))
completes words command is why task status before after told (inr (inr (inr (used, rose)))) = inr (inr (inr (inr (inl ((command, is, used), rose)))))

-- but for WriteFault nothing was written
pub unwritten : IsOneCommand → (words : List (List ℕ)) (before after : WorldState) (why : Refusal) (status : Status) →
    (IsRefused words → (device : Device) → IsSame device before after) → ((device : Device) → ¬ Uses words device → IsSame device before after) →
    IsCause words before after why → IsTold why status before.err after.err → status ≢ s.WriteFault → IsUnwritten before after ⊎ BeginsRounds words before
unwritten one words before after why status untouched stays (IsCause.usage place wrong) told other =
    let same = untouched (λ command is readable. wrong.no_command command is) in
    inl (same device.made, same device.out)
unwritten one words before after why status untouched stays (IsCause.of_command command is cause) told other =
    by (command_unwritten before after why command (λ one_device none. stays one_device (unused one_device none)) cause) told
  where
    not_both : (b : Bool) → IsFalse b → IsTrue b → ⊥
    not_both b none used = cc

    unused : (one_device : Device) → IsFalse (uses command one_device) → ¬ Uses words one_device
    unused one_device none = λ (second, is_too, used). not_both (uses command one_device) none (subst (λ c. IsTrue (uses c one_device)) (one words second command is_too is) used)

    by : IsEarly before after command why → IsTold why status before.err after.err → IsUnwritten before after ⊎ BeginsRounds words before
    by (inl o) t = inl o
    by (inr (inl begun)) t = inr (begun_by words before begun is)
    by (inr (inr e)) (inl t) = absurd (other (t.0 ∙ ap status_of e))
    by (inr (inr e)) (inr t) = absurd (other t.0)

-- the line of a refusal changes no cause
pub same_cause : (words : List (List ℕ)) (before mid after : WorldState) (why : Refusal) → after.input ≡ mid.input → after.side ≡ mid.side → after.planes ≡ mid.planes → after.made ≡ mid.made →
    after.out ≡ mid.out → IsCause words before mid why → IsCause words before after why
same_cause words before mid after why i s p m o (IsCause.usage place wrong) = IsCause.usage place wrong
same_cause words before mid after why i s p m o (IsCause.of_command command is cause) = IsCause.of_command command is (by command cause)
  where
    by : (c : Command) → StopsFor c before mid why → StopsFor c before after why
    by (ask a) cause = subst (λ x. AskCause a before.input x before.out after.out why) (sym i) (subst (λ x. AskCause a before.input mid.input before.out x why) (sym o) cause)
    by (combine c) cause = subst (λ x. CombineCause c before.input x before.out after.out why) (sym i) (subst (λ x. CombineCause c before.input mid.input before.out x why) (sym o) cause)
    by (demo d) cause = subst (λ x. DemoCause d before.out x why) (sym o) cause
    by (load l) cause =
        subst (λ x. LoadCause l before.input x before.made after.made before.out after.out why) (sym i)
        (subst (λ x. LoadCause l before.input mid.input before.made x before.out after.out why) (sym m)
        (subst (λ x. LoadCause l before.input mid.input before.made mid.made before.out x why) (sym o) cause))
    by (query q) cause = subst (λ x. QueryCause q before.planes x before.out after.out why) (sym p) (subst (λ x. QueryCause q before.planes mid.planes before.out x why) (sym o) cause)
    by (session asked) cause =
        subst (λ x. SessionCause asked before.side x before.planes after.planes before.out after.out why) (sym s)
        (subst (λ x. SessionCause asked before.side mid.side before.planes x before.out after.out why) (sym p)
        (subst (λ x. SessionCause asked before.side mid.side before.planes mid.planes before.out x why) (sym o) cause))
    by (upgrade u) cause =
        subst (λ x. UpgradeCause before.planes x before.made after.made before.out after.out why) (sym p)
        (subst (λ x. UpgradeCause before.planes mid.planes before.made x before.out after.out why) (sym m)
        (subst (λ x. UpgradeCause before.planes mid.planes before.made mid.made before.out x why) (sym o) cause))
    by (info i) cause = subst (λ x. InfoCause before.planes x before.out after.out why) (sym p) (subst (λ x. InfoCause before.planes mid.planes before.out x why) (sym o) cause)
    by help cause = subst (λ x. NoticeCause help_text before.out x why) (sym o) cause
    by version cause = subst (λ x. NoticeCause version_text before.out x why) (sym o) cause

-- devices that tell the same afterwards are the same
pub same_after : (before mid after : WorldState) → after.input ≡ mid.input → after.side ≡ mid.side → after.planes ≡ mid.planes → after.made ≡ mid.made → after.out ≡ mid.out
    → (one : Device) → IsSame one before mid → IsSame one before after
same_after before mid after i s p m o device.input e = i ∙ e
same_after before mid after i s p m o device.side e = s ∙ e
same_after before mid after i s p m o device.planes e = p ∙ e
same_after before mid after i s p m o device.made e = m ∙ e
same_after before mid after i s p m o device.out e = o ∙ e

-- the same said of devices that tell the same
pub ask_stops : (a : Ask) (i i' j : SourceState) (o o' p : SinkState) (why : Refusal) → i ≡ i' → o ≡ o' → AskCause a i j o p why → AskCause a i' j o' p why
ask_stops a i i' j o o' p why e f cause = subst (λ x. AskCause a x j o' p why) e (subst (λ x. AskCause a i j x p why) f cause)

pub demo_stops : (d : Demo) (o o' p : SinkState) (why : Refusal) → o ≡ o' → DemoCause d o p why → DemoCause d o' p why
demo_stops d o o' p why f cause = subst (λ x. DemoCause d x p why) f cause

pub load_stops : (l : Load) (i i' j : SourceState) (m m' n o o' p : SinkState) (why : Refusal) → i ≡ i' → m ≡ m' → o ≡ o' → LoadCause l i j m n o p why → LoadCause l i' j m' n o' p why
load_stops l i i' j m m' n o o' p why e f g cause =
    subst (λ x. LoadCause l x j m' n o' p why) e (subst (λ x. LoadCause l i j x n o' p why) f (subst (λ x. LoadCause l i j m n x p why) g cause))

pub info_stops : (s s' t : StoreState) (o o' p : SinkState) (why : Refusal) → s ≡ s' → o ≡ o' → InfoCause s t o p why → InfoCause s' t o' p why
info_stops s s' t o o' p why e f cause = subst (λ x. InfoCause x t o' p why) e (subst (λ x. InfoCause s t x p why) f cause)

pub query_stops : (q : line.Query) (s s' t : StoreState) (o o' p : SinkState) (why : Refusal) → s ≡ s' → o ≡ o' → QueryCause q s t o p why → QueryCause q s' t o' p why
query_stops q s s' t o o' p why e f cause = subst (λ x. QueryCause q x t o' p why) e (subst (λ x. QueryCause q s t x p why) f cause)

pub session_stops : (q : Session) (i i' j : SourceState) (s s' t : StoreState) (o o' p : SinkState) (why : Refusal) → i ≡ i' → s ≡ s' → o ≡ o' → SessionCause q i j s t o p why → SessionCause q i' j s' t o' p why
session_stops q i i' j s s' t o o' p why e f g cause =
    subst (λ x. SessionCause q x j s' t o' p why) e (subst (λ x. SessionCause q i j x t o' p why) f (subst (λ x. SessionCause q i j s t x p why) g cause))

pub upgrade_stops : (s s' t : StoreState) (m m' n o o' p : SinkState) (why : Refusal) → s ≡ s' → m ≡ m' → o ≡ o' → UpgradeCause s t m n o p why → UpgradeCause s' t m' n o' p why
upgrade_stops s s' t m m' n o o' p why e f g cause =
    subst (λ x. UpgradeCause x t m' n o' p why) e (subst (λ x. UpgradeCause s t x n o' p why) f (subst (λ x. UpgradeCause s t m n x p why) g cause))

pub notice_stops : (text : List ℕ) (o o' p : SinkState) (why : Refusal) → o ≡ o' → NoticeCause text o p why → NoticeCause text o' p why
notice_stops text o o' p why e cause = subst (λ x. NoticeCause text x p why) e cause

-- a session of which the script alone was read leaves each other device as it was
pub apart_same : (before after : WorldState) → after.input ≡ before.input → after.planes ≡ before.planes → after.made ≡ before.made → after.out ≡ before.out →
    (one : Device) → one ≢ device.side → IsSame one before after
apart_same before after i p m o device.input apart = i
apart_same before after i p m o device.side apart = absurd (apart refl)
apart_same before after i p m o device.planes apart = p
apart_same before after i p m o device.made apart = m
apart_same before after i p m o device.out apart = o
