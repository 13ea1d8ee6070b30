-- Two runs that were done, by what each asks and the rounds of this.
use Rattle.std.proofs.Common.{◌≡◌, ℕ, ◌+◌, ◌≤◌, List, ◌++◌, length, take, drop, Option, Some, None, IsSome, refl, sym, ap, subst, ◌∙◌, arith, append_assoc}
use Rattle.std.proofs.lemmas.List.{length-take, take-append-drop}
use Rattle.std.specs.Io.KnownBytes.{Appends}
use Rattle.command_line.specs.Commands.{Command, IsCommand, ask, demo, query}
use Rattle.command_line.specs.Commands as line
use Rattle.daq_cli.proofs.Ask.{all_bytes, asks_question}
use Rattle.daq_cli.proofs.Blocks.{blocks_rest, query_blocks_stay}
use Rattle.daq_cli.proofs.Demo.{demo_question}
use Rattle.daq_cli.proofs.Files.{if_told, opened_told}
use Rattle.daq_cli.proofs.Reached.{next_block, same_below}
use Rattle.daq_cli.proofs.Reports.{one_plan}
use Rattle.daq_cli.specs.FileReports.{Completed}
use Rattle.daq_cli.specs.Laws.{StepsAreExact}
use Rattle.daq_cli.specs.Questions.{Asked, IsPlanOf, IsReport, Question, Reports, asked_of, asked_with, extras_of, planes_of}
use Rattle.daq_cli.specs.Report.{block_of, blocks_below, end_line, ending_line, query_line, report}
use Rattle.daq_cli.specs.Runs.{Does, IsDone}
use Rattle.daq_cli.specs.Worlds.{WorldState, whole}
use Rattle.daq_cli.specs.commands.Ask.{ask_step}
use Rattle.daq_cli.specs.commands.Query.{Begins, Queries, query_step, report_of}
use Rattle.daq_report.specs.Blocks.{block_text}
use Rattle.daq_table.specs.Tables.{Frame, frame_of}
use Rattle.daq_table.specs.declared.table_head.Head.{Head}
use Rattle.outer_world.specs.Device.{SinkState, StoreState}
use Rattle.plane_course.specs.Told.{bits_at}
use Rattle.plane_reads.specs.Reads.{AnswersAreOne}
use Rattle.plane_schedule.specs.declared.policy.Ending.{Ending}
use Rattle.plane_schedule.specs.declared.policy.Plan.{Plan}
use Rattle.query_model.specs.Validity.{IsValid}
use Rattle.query_model.specs.declared.query.TypedQuery.{TypedQuery}
use Rattle.sql_headline.proofs.Cut.{rounds_cut}
use Rattle.sql_headline.specs.Cuts as cuts
use Rattle.sql_print.specs.Printed.{printed}
use Rattle.sql_typing.specs.Laws.{IsTypedValid}
use Rattle.table_rounds.proofs.OfTables.{alike_rounds, alike_stages}
use Rattle.table_rounds.specs.Headline.{RoundsAreOne}
use Rattle.table_rounds.specs.Rounds.{AreAllRounds, HaveSame, Planes, column_read, counts_after, ending_at, stage_after}
use Rattle.run_headline.specs.Added.{AddsLines}
use Rattle.run_headline.specs.TwoRuns.{DoneRun, EqualPlanesGiveEqualReports, ExtrasAddLines, HasRounds, HasSamePlanes, Inquires, Inquiry, IsBeginning, LastRoundsCutReports, RunsHaveRounds, RunsInquire, Wrote, cut_at, of_ask, of_demo, of_query, without_extras}
use Rattle.run_headline.proofs.Extras.{reports_add}

abbrev pub IsOneCommand : Type 0
IsOneCommand = (words : List (List ℕ)) (c d : Command) → IsCommand words c → IsCommand words d → c ≡ d

abbrev inquiry : Asked → Planes → Inquiry
inquiry asked bits = record { asked = asked; bits = bits }

abbrev text_by : (i : Inquiry) → HasRounds i → List ℕ
text_by i r = report (printed i.asked.query) i.asked.head r.plan r.typed i.bits r.reads

-- ---- what a run wrote

record IsText (i : Inquiry) (text : List ℕ) : Type 0 where
  pub rounds : HasRounds i
  pub is : text ≡ text_by i rounds

of_report : (question : Question) (text : List ℕ) → IsReport question text → IsText (inquiry (asked_of question) (planes_of question.table)) text
of_report question text is = record { rounds = record { typed = is.typed; plan = is.plan; planned = is.planned; reads = is.reads; rounds = is.rounds }; is = is.is }

record Written (i : Inquiry) (out out' : SinkState) : Type 0 where
  pub text : List ℕ
  pub wrote : Appends out.written out'.written text
  pub is_text : IsText i text

module _ (one : IsOneCommand) (law : StepsAreExact) where
  done_by : (words : List (List ℕ)) (before after : WorldState) (command : Command) → IsCommand words command → IsDone words before after → Does command before after
  done_by words before after command is done = subst (λ c. Does c before after) (one words done.command command done.is_command is) done.does

  reported : (question : Question) (out out' : SinkState) → Reports question whole out out' → Written (inquiry (asked_of question) (planes_of question.table)) out out'
  reported question out out' reports = record { text = reports.text; wrote = reports.written.done; is_text = of_report question reports.text reports.is_report }

  -- what a `query` asks it accepts
  accepts : (q : line.Query) (bytes : List ℕ) (planes opened : StoreState) → planes.held ≡ Some bytes → (begun : Begins q planes opened) →
      (query_step q bytes).accepts (asked_with begun.query q.options begun.file.head)
  accepts q bytes planes opened told begun =
      (begun.query, begun.is_text, (begun.file, opened_told planes opened bytes told begun.file begun.opens, (refl, record { typed = begun.typed; plan = begun.plan; planned = begun.planned })))

  queried : (q : line.Query) (bytes : List ℕ) (asked : Asked) (planes planes' : StoreState) (out out' : SinkState) → planes.held ≡ Some bytes → (query_step q bytes).accepts asked →
      Queries q planes planes' out out' → Written (inquiry asked (bits_at asked.head bytes)) out out'
  queried q bytes asked planes planes' out out' told accepted does =
      let begun = does.begun in
      let own = asked_with begun.query q.options begun.file.head in
      let completed = if_told (λ b. Completed (report_of q planes does.opened begun) does.opened planes' out out' b) planes.held bytes told does.reported.completed in
      let same : own ≡ asked = (law.query q bytes).once own asked (accepts q bytes planes does.opened told begun) accepted in
      subst (λ (a : Asked). Written (inquiry a (bits_at a.head bytes)) out out') same
      (record {
        text = _;
        wrote = completed.rounds.written.done;
        is_text = record { rounds = record { typed = begun.typed; plan = begun.plan; planned = begun.planned; reads = completed.rounds.reads; rounds = completed.rounds.rounds }; is = refl };
      })

  by_inquiry : (words : List (List ℕ)) (before after : WorldState) (i : Inquiry) → IsDone words before after → Inquires words before i → Written i before.out after.out
  by_inquiry words before after i done (of_ask a question is accepted) =
      reported question before.out after.out
      (asks_question law a before.input after.input before.out after.out whole question (done_by words before after (ask a) is done) accepted)
  by_inquiry words before after i done (of_demo d question is accepted) =
      reported question before.out after.out (demo_question law d before.out after.out whole question (done_by words before after (demo d) is done) accepted)
  by_inquiry words before after i done (of_query q bytes asked is told accepted) =
      queried q bytes asked before.planes after.planes before.out after.out told accepted (done_by words before after (query q) is done)

  written : (run : DoneRun) → Written run.inquiry run.before.out run.after.out
  written run = by_inquiry run.words run.before run.after run.inquiry run.done run.inquires

  pub inquire : RunsInquire
  inquire words before after done = record {
    asked = λ a bytes is told.
        let does = done_by words before after (ask a) is done in
        let read = all_bytes before.input.left after.input.left bytes does.bytes told does.read.came does.read.ended in
        (_, of_ask a does.question is (bytes, told, subst (λ l. (ask_step a l).accepts does.question) read does.accepted));
    made = λ d is. let does = done_by words before after (demo d) is done in (_, of_demo d does.question is does.accepted);
    queried = λ q bytes is told.
        let does = done_by words before after (query q) is done in
        (_, of_query q bytes _ is told (accepts q bytes before.planes does.opened told does.begun));
  }

  pub have_rounds : RunsHaveRounds
  have_rounds run = (written run).is_text.rounds

-- ---- rounds over planes of which the same are read

module _ (lists : AnswersAreOne) (valid : IsTypedValid) (once : RoundsAreOne) where
  module _ (typed : TypedQuery) (frame : Frame) (a b : Planes) (reads : List ℕ) (same : HaveSame typed (counts_after typed reads (length reads)) a b) where
    all_rounds : (plan : Plan) → AreAllRounds plan typed frame a reads → AreAllRounds plan typed frame b reads
    all_rounds plan all = record {
      rounds = alike_rounds typed frame a b reads same plan all.rounds;
      ended = subst (λ s. IsSome (ending_at plan s)) (alike_stages typed frame a b reads same (length reads)) all.ended;
    }

  same_text : (sql : List ℕ) (head : Head) (plan : Plan) (typed : TypedQuery) (a b : Planes) (reads : List ℕ) → HaveSame typed (counts_after typed reads (length reads)) a b →
      report sql head plan typed b reads ≡ report sql head plan typed a reads
  same_text sql head plan typed a b reads same =
      let stages = alike_stages typed (frame_of head) a b reads same in
      let n = length reads in
      let blocks : (round : ℕ) → block_of head plan typed b reads round ≡ block_of head plan typed a reads round = λ round. ap (λ s. block_text head plan.listing plan.extras s round (column_read reads round)) (sym (stages round)) in
      let below = same_below (block_of head plan typed b) (block_of head plan typed a) reads reads n (λ round h. blocks round) in
      let end = ap (λ s. end_line (ending_at plan s)) (sym (stages n)) in
      ap (λ l. query_line sql ++ (l ++ (block_of head plan typed b reads n ++ end_line (ending_at plan (stage_after typed (frame_of head) b reads n))))) below
      ∙ ap (λ l. query_line sql ++ (blocks_below (block_of head plan typed a) reads n ++ (l ++ end_line (ending_at plan (stage_after typed (frame_of head) b reads n))))) (blocks n)
      ∙ ap (λ l. query_line sql ++ (blocks_below (block_of head plan typed a) reads n ++ (block_of head plan typed a reads n ++ l))) end

  -- the rounds of an inquiry, by a typed query, a plan and reads that are its own
  module _ (asked : Asked) (bits : Planes) (typed : TypedQuery) (plan : Plan) (reads : List ℕ) (s : HasRounds (inquiry asked bits)) (is_typed : s.typed ≡ typed)
      (planned : IsPlanOf asked.options typed asked.head plan) (rounds : AreAllRounds plan typed (frame_of asked.head) bits reads) where
    plan_is : s.plan ≡ plan
    plan_is =
        one_plan lists asked.options asked.head typed (subst (λ (t : TypedQuery). IsValid asked.head t) is_typed (valid asked.query asked.head s.typed s.planned.is_typed)) s.plan plan
        (subst (λ (t : TypedQuery). IsPlanOf asked.options t asked.head s.plan) is_typed s.planned.planned) planned

    reads_are : s.reads ≡ reads
    reads_are =
        once plan typed (frame_of asked.head) bits s.reads reads
        (subst (λ (n : Plan). AreAllRounds n typed (frame_of asked.head) bits s.reads) plan_is
        (subst (λ (t : TypedQuery). AreAllRounds s.plan t (frame_of asked.head) bits s.reads) is_typed s.rounds))
        rounds

    text_is : text_by (inquiry asked bits) s ≡ report (printed asked.query) asked.head plan typed bits reads
    text_is =
        ap (λ (t : TypedQuery). report (printed asked.query) asked.head s.plan t bits s.reads) is_typed
        ∙ ap (λ (n : Plan). report (printed asked.query) asked.head n typed bits s.reads) plan_is
        ∙ ap (λ (l : List ℕ). report (printed asked.query) asked.head plan typed bits l) reads_are

  -- ---- equal planes

  equal_texts : (asked : Asked) (a b : Planes) (r : HasRounds (inquiry asked a)) (s : HasRounds (inquiry asked b)) → HasSamePlanes (inquiry asked a) r (inquiry asked b) →
      text_by (inquiry asked b) s ≡ text_by (inquiry asked a) r
  equal_texts asked a b r s same =
      text_is asked b r.typed r.plan r.reads s (s.planned.is_typed.same ∙ sym r.planned.is_typed.same) r.planned.planned (all_rounds r.typed (frame_of asked.head) a b r.reads same r.plan r.rounds)
      ∙ same_text (printed asked.query) asked.head r.plan r.typed a b r.reads same

  -- ---- lines besides

  lines_added : (asked : Asked) (a b : Planes) (r : HasRounds (inquiry (without_extras asked) a)) (s : HasRounds (inquiry asked b)) →
      HasSamePlanes (inquiry (without_extras asked) a) r (inquiry asked b) → AddsLines (text_by (inquiry (without_extras asked) a) r) (text_by (inquiry asked b) s)
  lines_added asked a b r s same =
      let extras = extras_of asked.options in
      let plan : Plan = record { policy = r.plan.policy; near = r.plan.near; most = r.plan.most; listing = r.plan.listing; extras = extras } in
      let head = asked.head in
      let p = r.planned.planned in
      let planned : IsPlanOf asked.options r.typed head plan = record { policy = p.policy; near = p.near; most = p.most; listing = p.listing; extras = refl } in
      let more = text_is asked b r.typed plan r.reads s (s.planned.is_typed.same ∙ sym r.planned.is_typed.same) planned (all_rounds r.typed (frame_of head) a b r.reads same r.plan r.rounds) in
      let less = same_text (printed asked.query) head r.plan r.typed a b r.reads same in
      subst (AddsLines (text_by (inquiry (without_extras asked) a) r)) (sym more)
      (subst (λ l. AddsLines l (report (printed asked.query) head plan r.typed b r.reads)) less
      (reports_add (printed asked.query) head r.plan extras p.extras r.typed b r.reads))

  -- ---- a last round

  end_is : (o : Option Ending) → IsSome o → (ending : Ending) × (end_line o ≡ ending_line ending)
  end_is None some = absurd cc
  end_is (Some ending) some = (ending, refl)

  module _ (sql : List ℕ) (head : Head) (plan : Plan) (typed : TypedQuery) (bits : Planes) (reads : List ℕ) (most : ℕ) where
    abbrev first : List ℕ
    first = take most reads

    abbrev block : List ℕ → ℕ → List ℕ
    block = block_of head plan typed bits

    abbrev end_of : Plan → List ℕ → Option Ending
    end_of by l = ending_at by (stage_after typed (frame_of head) bits l (length l))

    block_is : (round : ℕ) → round ≤ length first → block reads round ≡ block first round
    block_is round h = ap (λ l. block l round) (sym (take-append-drop most reads)) ∙ query_blocks_stay head plan typed bits first (drop most reads) round h

    -- a report by the end of its rounds
    parted : (by : Plan) (l : List ℕ) → query_line sql ++ (blocks_below block l (length l) ++ (block l (length l) ++ end_line (end_of by l))) ≡ (query_line sql ++ blocks_below block l (length l + 1)) ++ end_line (end_of by l)
    parted by l =
        ap (λ t. query_line sql ++ t) (sym (append_assoc (blocks_below block l (length l)) (block l (length l)) (end_line (end_of by l))))
        ∙ ap (λ t. query_line sql ++ (t ++ end_line (end_of by l))) (sym (next_block block l (length l)))
        ∙ sym (append_assoc (query_line sql) (blocks_below block l (length l + 1)) (end_line (end_of by l)))

    begins : (cut : AreAllRounds (cuts.cut_at most plan) typed (frame_of head) bits first) → IsBeginning (report sql head plan typed bits reads) (report sql head (cuts.cut_at most plan) typed bits first)
    begins cut =
        let end = end_is (end_of (cuts.cut_at most plan) first) cut.ended in
        let front = query_line sql ++ blocks_below block first (length first + 1) in
        let fewer = length-take most reads in
        let (between, more) = blocks_rest block reads (length first + 1) (length reads + 1) (omega (arith, fewer)) in
        let below = same_below block block reads first (length first + 1) (λ round h. block_is round (omega (arith, h))) in
        let last = end_line (end_of plan reads) in
        record {
          front = front;
          rest = between ++ last;
          ending = end.0;
          whole_is =
              parted plan reads
              ∙ ap (λ t. (query_line sql ++ t) ++ last) (more ∙ ap (λ t. t ++ between) below)
              ∙ ap (λ t. t ++ last) (sym (append_assoc (query_line sql) (blocks_below block first (length first + 1)) between))
              ∙ append_assoc front between last;
          cut_is = parted (cuts.cut_at most plan) first ∙ ap (λ t. front ++ t) end.1;
        }

  abbrev IsCutTo : (most : ℕ) (asked : Asked) (a b : Planes) → HasRounds (inquiry asked a) → HasRounds (inquiry (cut_at most asked) b) → Type 0
  IsCutTo most asked a b r s = (s.reads ≡ take most r.reads) × IsBeginning (text_by (inquiry asked a) r) (text_by (inquiry (cut_at most asked) b) s)

  cut_to : (most : ℕ) (asked : Asked) (a b : Planes) (r : HasRounds (inquiry asked a)) (s : HasRounds (inquiry (cut_at most asked) b)) → asked.options.rounds ≡ None →
      HasSamePlanes (inquiry asked a) r (inquiry (cut_at most asked) b) → IsCutTo most asked a b r s
  cut_to most asked a b r s free same =
      let head = asked.head in
      let sql = printed asked.query in
      let p = r.planned.planned in
      let all = all_rounds r.typed (frame_of head) a b r.reads same r.plan r.rounds in
      let cut = (rounds_cut most r.plan r.typed head b r.reads (p.most ∙ free) all).rounds in
      let plan = cuts.cut_at most r.plan in
      let planned : IsPlanOf (cut_at most asked).options r.typed head plan = record { policy = p.policy; near = p.near; most = refl; listing = p.listing; extras = p.extras } in
      let is_typed = s.planned.is_typed.same ∙ sym r.planned.is_typed.same in (
        reads_are (cut_at most asked) b r.typed plan (take most r.reads) s is_typed planned cut,
        subst (IsBeginning (text_by (inquiry asked a) r)) (sym (text_is (cut_at most asked) b r.typed plan (take most r.reads) s is_typed planned cut))
            (subst (λ l. IsBeginning l (report sql head plan r.typed b (take most r.reads))) (same_text sql head r.plan r.typed a b r.reads same)
            (begins sql head r.plan r.typed b r.reads most cut)),
      )

  -- ---- runs

  module _ (one_command : IsOneCommand) (law : StepsAreExact) where
    -- a run wrote the text of these rounds
    wrote_by : (run : DoneRun) (rounds : HasRounds run.inquiry) → Wrote run (text_by run.inquiry rounds)
    wrote_by run rounds =
        let own = written one_command law run in
        subst (Wrote run) (own.is_text.is ∙ sym (equal_texts run.inquiry.asked run.inquiry.bits run.inquiry.bits own.is_text.rounds rounds (λ c number h lt. refl))) own.wrote

    pub equal_reports : EqualPlanesGiveEqualReports
    equal_reports one other rounds same alike =
        let s = have_rounds one_command law other in
        let equal : text_by other.inquiry s ≡ text_by one.inquiry rounds =
        subst (λ (x : Asked). (r : HasRounds (inquiry x other.inquiry.bits)) → text_by (inquiry x other.inquiry.bits) r ≡ text_by one.inquiry rounds) (sym alike)
        (λ r. equal_texts one.inquiry.asked one.inquiry.bits other.inquiry.bits rounds r same) s in
        (text_by one.inquiry rounds, wrote_by one rounds, subst (Wrote other) equal (wrote_by other s))

    pub extras_add : ExtrasAddLines
    extras_add one other rounds same alike =
        let s = have_rounds one_command law other in
        let adds : AddsLines (text_by one.inquiry rounds) (text_by other.inquiry s) =
        subst (λ (x : Asked). (r : HasRounds (inquiry x one.inquiry.bits)) → HasSamePlanes (inquiry x one.inquiry.bits) r other.inquiry → AddsLines (text_by (inquiry x one.inquiry.bits) r) (text_by other.inquiry s)) (sym alike)
        (λ r h. lines_added other.inquiry.asked one.inquiry.bits other.inquiry.bits r s h) rounds same in
        (text_by one.inquiry rounds, text_by other.inquiry s, wrote_by one rounds, wrote_by other s, adds)

    pub last_rounds_cut : LastRoundsCutReports
    last_rounds_cut one other most rounds fewer same free alike =
        let cut : (fewer.reads ≡ take most rounds.reads) × IsBeginning (text_by one.inquiry rounds) (text_by other.inquiry fewer) =
        subst (λ (x : Asked). (s : HasRounds (inquiry x other.inquiry.bits)) → (s.reads ≡ take most rounds.reads) × IsBeginning (text_by one.inquiry rounds) (text_by (inquiry x other.inquiry.bits) s)) (sym alike)
        (λ s. cut_to most one.inquiry.asked one.inquiry.bits other.inquiry.bits rounds s free same) fewer in
        (cut.0, text_by one.inquiry rounds, text_by other.inquiry fewer, wrote_by one rounds, wrote_by other fewer, cut.1)
