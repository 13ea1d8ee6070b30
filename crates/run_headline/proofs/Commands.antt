-- What each command has written holds the answers.
use Rattle.std.proofs.Common.{◌≡◌, ℕ, List, length, ◌++◌, Some, refl, sym, ap, subst, arith}
use Rattle.std.specs.Io.KnownBytes.{Appends}
use Rattle.command_line.specs.Commands.{Ask, Command, Demo, IsCommand, Options, ask, demo, query, session}
use Rattle.command_line.specs.Commands as line
use Rattle.daq_cli.proofs.Files.{if_told, opened_told}
use Rattle.daq_cli.specs.FileReports.{Completed}
use Rattle.daq_cli.specs.Questions.{Question, Reports, planes_of}
use Rattle.daq_cli.specs.Report.{query_line, rounds_text, shown_rounds}
use Rattle.daq_cli.specs.Runs.{Does, IsDone}
use Rattle.daq_cli.specs.Inputs.{IsTableText, limits}
use Rattle.daq_cli.specs.Worlds.{WorldState, whole}
use Rattle.daq_cli.specs.commands.Ask.{Asks}
use Rattle.daq_cli.specs.commands.Demo.{Demonstrates, IsGenerated}
use Rattle.daq_cli.specs.commands.Query.{Queries, report_of}
use Rattle.daq_table.specs.Schemas.{DeclaresItems}
use Rattle.daq_table.specs.Tables.{Contents, frame_of}
use Rattle.daq_table.specs.declared.schema_item.SchemaItem.{SchemaItem}
use Rattle.outer_world.specs.Device.{SinkState, StoreState}
use Rattle.daq_table.specs.declared.table_head.Head.{Head}
use Rattle.plane_course.specs.Told.{bits_at}
use Rattle.plane_file.specs.Opening.{IsFileHead}
use Rattle.sql_headline.proofs.Begun.{Laws}
use Rattle.sql_print.specs.Printed.{printed}
use Rattle.sql_text.specs.Answer.{IsText}
use Rattle.sql_text.specs.Tree as tree
use Rattle.table_rounds.specs.Rounds.{HasPlanes, Planes, counts_after}
use Rattle.run_headline.specs.Asked.{HasTaken, IsAnsweredAsAsked, wanted_by}
use Rattle.run_headline.specs.Headline.{IsAnswered, IsAnsweredOn, IsHeadline, of_file, of_input, of_table}
use Rattle.run_headline.proofs.Own.{has_values}
use Rattle.run_headline.proofs.Ran.{IsRan, block, columns, has_blocks}
use Rattle.run_headline.proofs.Sessions.{session_answered}
use Rattle.run_headline.proofs.Stands.{stands}
use Rattle.run_headline.proofs.Told.{told}

abbrev pub IsOneCommand : Type 0
IsOneCommand = (words : List (List ℕ)) (c d : Command) → IsCommand words c → IsCommand words d → c ≡ d

module _ (law : Laws) where
  -- a report that was written
  answered : (q : tree.Query) (head : Head) (bits : Planes) (options : Options) (ran : IsRan q head bits options) (out out' : SinkState) → (text : List ℕ) →
      text ≡ query_line (printed q) ++ rounds_text (shown_rounds head ran.plan ran.query bits) ran.reads → Appends out.written out'.written text → IsAnswered q (wanted_by options) head bits out out'
  answered q head bits options ran out out' text e written = record {
    text = text;
    written = written;
    columns = columns law q head bits options ran;
    block = block law q head bits options ran;
    blocks = has_blocks law q head bits options ran text e;
    told = told law q head bits options ran;
  }

  reported : (question : Question) (out out' : SinkState) → Reports question whole out out' → IsAnsweredOn question.query (wanted_by question.options) question.table out out'
  reported question out out' reports =
      let r = reports.is_report in
      let itself : HasPlanes r.typed (frame_of question.table.head) (planes_of question.table) (counts_after r.typed r.reads (length r.reads)) question.table.cells = record { table = (r.headline.itself 0 (omega arith)).table; same = λ c number c_in read. refl } in
      let ran : IsRan question.query question.table.head (planes_of question.table) question.options = record {
        query = r.typed;
        plan = r.plan;
        reads = r.reads;
        cells = question.table.cells;
        typed = r.planned.is_typed;
        rounds = r.rounds;
        has = itself;
        certain = r.headline;
        listing = r.planned.planned.listing;
        extras = r.planned.planned.extras;
      } in
      answered question.query question.table.head (planes_of question.table) question.options ran out out' reports.text r.is reports.written.done

  -- the question is this one, and so are its query and its options
  asked_answered : (asked : tree.Query) (options : Options) (question : Question) (out out' : SinkState) → asked ≡ question.query → options ≡ question.options →
      Reports question whole out out' → IsAnsweredOn asked (wanted_by options) question.table out out'
  asked_answered asked options question out out' same_query same_options reports =
      subst (λ q. IsAnsweredOn q (wanted_by options) question.table out out') (sym same_query)
      (subst (λ o. IsAnsweredOn question.query (wanted_by o) question.table out out') (sym same_options) (reported question out out' reports))

  ask_answered : (a : Ask) (before after : WorldState) → Asks a whole before.input after.input before.out after.out →
      (items : List SchemaItem) × (table : Contents) × (asked : tree.Query) × DeclaresItems a.schema items × HasTaken items before.input after.input table × IsText a.sql asked
      × IsHeadline (of_input items table asked (wanted_by a.options)) before after
  ask_answered a before after does =
      let (asked, is_text, (items, declared, (table, taken, (same, planned)))) = does.accepted in
      let is_read : IsTableText items does.bytes does.question.table = subst (λ t. IsTableText items does.bytes t) (sym (ap (λ (one : Question). one.table) same)) taken in
      let whole_table = (does.reported.is_report.headline.itself 0 (omega arith)).table in (
        items,
        does.question.table,
        asked,
        declared,
        record { bytes = does.bytes; read = does.read; is_table = is_read.is_table },
        is_text,
        (
          record {
            bytes = does.bytes;
            read = does.read;
            stands = stands does.bytes items limits does.question.table is_read.is_table;
            is_table = whole_table;
            has_values = has_values does.bytes items limits does.question.table is_read.is_table whole_table;
          },
          asked_answered asked a.options does.question before.out after.out (sym (ap (λ (one : Question). one.query) same)) (sym (ap (λ (one : Question). one.options) same)) does.reported,
        ),
      )

  demo_answered : (d : Demo) (before after : WorldState) → Demonstrates d whole before.out after.out →
      (table : Contents) × (asked : tree.Query) × IsGenerated d.seed d.rows table × IsText d.sql asked × IsHeadline (of_table table asked (wanted_by d.options)) before after
  demo_answered d before after does =
      let (asked, is_text, (table, made, (same, planned))) = does.accepted in (
        does.question.table,
        asked,
        subst (IsGenerated d.seed d.rows) (sym (ap (λ (one : Question). one.table) same)) made,
        is_text,
        asked_answered asked d.options does.question before.out after.out (sym (ap (λ (one : Question). one.query) same)) (sym (ap (λ (one : Question). one.options) same)) does.reported,
      )

  file_answered : (q : line.Query) (planes planes' : StoreState) (out out' : SinkState) (does : Queries q planes planes' out out') → (bytes : List ℕ) → planes.held ≡ Some bytes →
      (version : ℕ) × (head : Head) × IsFileHead bytes version head × IsAnswered does.begun.query (wanted_by q.options) head (bits_at head bytes) out out'
  file_answered q planes planes' out out' does bytes told =
      let begun = does.begun in
      let head = begun.file.head in
      let completed = if_told (λ b. Completed (report_of q planes does.opened begun) does.opened planes' out out' b) planes.held bytes told does.reported.completed in
      let some = completed.tables.tables.some in
      let ran : IsRan begun.query head (bits_at head bytes) q.options = record {
        query = begun.typed;
        plan = begun.plan;
        reads = completed.rounds.reads;
        cells = some.0;
        typed = begun.planned.is_typed;
        rounds = completed.rounds.rounds;
        has = some.1;
        certain = (completed.headline some.0 some.1).0;
        listing = begun.planned.planned.listing;
        extras = begun.planned.planned.extras;
      } in (
        begun.file.version,
        head,
        opened_told planes does.opened bytes told begun.file begun.opens,
        answered begun.query head (bits_at head bytes) q.options ran out out' _ refl completed.rounds.written.done,
      )

  query_answered : (q : line.Query) (before after : WorldState) → Queries q before.planes after.planes before.out after.out →
      (asked : tree.Query) × IsText q.sql asked × IsHeadline (of_file asked (wanted_by q.options)) before after
  query_answered q before after does = (does.begun.query, does.begun.is_text, file_answered q before.planes after.planes before.out after.out does)

  -- what the command of some words has done is what it does
  done_by : (one : IsOneCommand) (words : List (List ℕ)) (before after : WorldState) (command : Command) → IsCommand words command → IsDone words before after → Does command before after
  done_by one words before after command is done = subst (λ c. Does c before after) (one words done.command command done.is_command is) done.does

  pub headline_holds : IsOneCommand → (words : List (List ℕ)) (before after : WorldState) → IsDone words before after → IsAnsweredAsAsked words before after
  headline_holds one words before after done = record {
    asked = λ a is. ask_answered a before after (done_by one words before after (ask a) is done);
    made = λ d is. demo_answered d before after (done_by one words before after (demo d) is done);
    queried = λ q is. query_answered q before after (done_by one words before after (query q) is done);
    together = λ s is. session_answered law s before.side after.side before.planes after.planes before.out after.out (done_by one words before after (session s) is done);
  }
