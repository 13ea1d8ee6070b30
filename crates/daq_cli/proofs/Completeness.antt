-- Each step of a command accepts something or shows a refusal.
use Rattle.std.proofs.Common.{◌≢◌, ℕ, ◌≤◌, List, Ok, Err, Result, length, refl, inl, inr, ◌⊎◌, lit≤, subst, sym}
use Rattle.std.proofs.lemmas.Bool.{cases_lt}
use Rattle.command_line.specs.Commands.{Options, ReadOrder, fixed, reads}
use Rattle.command_line.specs.Commands as line
use Rattle.csv_load.specs.Laws as table_laws
use Rattle.daq_table.specs.SchemaFaults as schemas
use Rattle.daq_table.specs.SchemaLaws as schema_laws
use Rattle.daq_table.specs.Schemas.{DeclaresItems}
use Rattle.daq_table.specs.Tables.{Contents}
use Rattle.daq_table.specs.declared.table_head.Head.{Head}
use Rattle.daq_table.specs.declared.schema_item.SchemaItem.{SchemaItem}
use Rattle.daq_table.specs.declared.schema_fault.SchemaFault.{SchemaFault}
use Rattle.daq_table.specs.declared.schema_fault.SchemaFault.TheVariants as s
use Rattle.plane_file.specs.Bytes.{AreBytes}
use Rattle.plane_file.specs.Laws as file_laws
use Rattle.plane_reads.specs.Reads as reads_laws
use Rattle.plane_reads.specs.Reads.{IsAnswer}
use Rattle.plane_reads.specs.declared.fault.ReadsFault.{ReadsFault}
use Rattle.plane_reads.specs.declared.fault.ReadsFault.TheVariants as r
use Rattle.plane_schedule.specs.declared.policy.Policy.{Policy}
use Rattle.plane_schedule.specs.declared.policy.Policy.TheVariants as p
use Rattle.query_model.specs.declared.query.TypedQuery.{TypedQuery}
use Rattle.session_script.specs.Answers as script_laws
use Rattle.session_script.specs.Lines.{Line}
use Rattle.sql_text.specs.Answer.{IsFault, IsText}
use Rattle.sql_text.specs.Laws as text_laws
use Rattle.sql_text.specs.Tree as sql
use Rattle.sql_text.specs.declared.fault.SqlFault.{SqlFault}
use Rattle.sql_text.specs.declared.fault.SqlFault.TheVariants as q
use Rattle.sql_typing.specs.Laws as typing_laws
use Rattle.sql_typing.specs.Refusals as typing
use Rattle.sql_typing.specs.Refusals.{IsTyped}
use Rattle.sql_typing.specs.declared.fault.TypeFault.{TypeFault}
use Rattle.sql_typing.specs.declared.fault.TypeFault.TheVariants as y
use Rattle.table_gen.specs.Laws as seed_laws
use Rattle.table_gen.specs.TableOf.{IsTableOfSeed}
use Rattle.daq_cli.specs.Inputs.{input_step, limits, most_bytes, schema_step, table_step}
use Rattle.daq_cli.specs.Laws.{StepsAreComplete}
use Rattle.daq_cli.specs.Questions.{IsAnswerable, IsPolicyOf, RefusesOrder, ShowsQuestion, asked_with, extras_of, nearness_of, question_of, question_step, sql_step}
use Rattle.daq_cli.specs.Scripts.{ShowsLine}
use Rattle.daq_cli.specs.Steps.{IsComplete}
use Rattle.daq_cli.specs.commands.Demo.{generator_step, most_rows}
use Rattle.daq_cli.specs.commands.Query.{head_step, query_step, report_step}
use Rattle.daq_cli.specs.declared.refusal.Refusal.{Refusal}
use Rattle.daq_cli.specs.declared.refusal.Refusal.TheVariants.{LineQuery, Query, Reads, Schema, Table, TooLong, TooManyRows, Typing}
use Rattle.daq_cli.proofs.FileRounds.{GoOn, rounds_complete}
use Rattle.daq_cli.proofs.Files.{file_complete}
use Rattle.daq_cli.proofs.SessionLaws as session
use Rattle.daq_cli.proofs.Steps.{then_complete}
use Rattle.daq_cli.proofs.Upgrade.{upgrade_complete}

-- what is known of each step from the crate that carries it out
pub record Laws : Type 0 where
  pub texts : text_laws.IsAnswered
  pub schemas : schema_laws.HasMeaning
  pub tables : table_laws.HasAnswer
  pub seeds : seed_laws.HaveTables
  pub typings : typing_laws.HasTyping
  pub valid : typing_laws.IsTypedValid
  pub reads : reads_laws.WordsHaveAnswers
  pub heads : file_laws.HasHead
  pub files : file_laws.HaveTables
  pub rounds : GoOn
  pub scripts : script_laws.ScriptsHaveAnswers

module _ (law : Laws) where
  sql_complete : (text : List ℕ) → IsComplete (sql_step text)
  sql_complete text = by (law.texts text)
    where
      by : ((query : sql.Query) × IsText text query) ⊎ ((fault : SqlFault) × (fault ≢ q.NoMemory) × IsFault text fault) → IsComplete (sql_step text)
      by (inl (query, is)) = inl (query, is)
      by (inr (fault, shown, faulty)) = inr (Query fault, record { fault = fault; shown = shown; is = refl; faulty = faulty })

  schema_complete : (text : List ℕ) → IsComplete (schema_step text)
  schema_complete text = by (law.schemas text)
    where
      by : ((columns : List SchemaItem) × DeclaresItems text columns) ⊎ ((fault : SchemaFault) × (fault ≢ s.NoMemory) × schemas.Refuses text fault) → IsComplete (schema_step text)
      by (inl (columns, declared)) = inl (columns, declared)
      by (inr (fault, shown, faulty)) = inr (Schema fault, record { fault = fault; shown = shown; is = refl; faulty = faulty })

  table_complete : (schema : List ℕ) (columns : List SchemaItem) (bytes : List ℕ) → DeclaresItems schema columns → IsComplete (table_step columns bytes)
  table_complete schema columns bytes declared = elim (cases_lt most_bytes (length bytes)) [
    | inl long ↦ inr (TooLong most_bytes, inl (record { longer = long; is = refl }))
    | inr small ↦ by small (law.tables bytes schema columns limits declared (lit≤ tt))
  ]
    where
      by : length bytes ≤ most_bytes → table_laws.IsAnswered bytes columns limits → IsComplete (table_step columns bytes)
      by small (inl (table, is)) = inl (table, record { small = small; is_table = is })
      by small (inr (fault, shown, faulty)) = inr (Table fault, inr (record { small = small; fault = fault; shown = shown; is = refl; faulty = faulty }))

  input_complete : (schema bytes : List ℕ) → IsComplete (input_step schema bytes)
  input_complete schema bytes = then_complete _ _ (schema_complete schema) (λ columns declared. table_complete schema columns bytes declared)

  generator_complete : (seed rows : ℕ) → IsComplete (generator_step seed rows)
  generator_complete seed rows = elim (cases_lt most_rows rows) [
    | inl many ↦ inr (TooManyRows, record { many = many; is = refl })
    | inr few ↦ by few (law.seeds seed rows few)
  ]
    where
      by : rows ≤ most_rows → ((table : Contents) × IsTableOfSeed seed rows table) → IsComplete (generator_step seed rows)
      by few (table, is) = inl (table, record { few = few; is_table = is })

  module _ (query : sql.Query) (options : Options) (head : Head) (typed : TypedQuery) (is_typed : IsTyped query head typed) where
    -- the order is a policy, or a list that is refused
    abbrev Ordered : ReadOrder → Type 0
    Ordered order = ((policy : Policy) × IsPolicyOf order typed head policy) ⊎ ((fault : ReadsFault) × (fault ≢ r.NoMemory) × RefusesOrder order typed head fault)

    ordered : (order : ReadOrder) → Ordered order
    ordered (fixed named) = inl (p.By named, refl)
    ordered (reads names) = by (law.reads names typed head (law.valid query head typed is_typed))
      where
        by : (answer : Result (List ℕ) ReadsFault) × IsAnswer names typed head answer → Ordered (reads names)
        by (Ok list, all) = inl (p.Listed list, (list, refl, all))
        by (Err (r.UnknownName place), faulty) = inr (r.UnknownName place, (λ e. cc), record { names = names; listed = refl; faulty = faulty })
        by (Err (r.PastEnd place), faulty) = inr (r.PastEnd place, (λ e. cc), record { names = names; listed = refl; faulty = faulty })
        by (Err r.NoMemory, faulty) = absurd faulty

    -- the question may be answered, or is refused
    abbrev Judged : Type 0
    Judged = IsAnswerable (asked_with query options head) ⊎ ((why : Refusal) × ShowsQuestion (asked_with query options head) why)

    planned : Judged
    planned = by (ordered options.order)
      where
        by : Ordered options.order → Judged
        by (inl (policy, is)) = inl (record {
          typed = typed;
          plan = record { policy = policy; near = nearness_of options; most = options.rounds; listing = options.listing; extras = extras_of options };
          planned = record { is_typed = is_typed; planned = record { policy = is; near = refl; most = refl; listing = refl; extras = refl } };
        })
        by (inr (fault, shown, faulty)) = inr (Reads fault, inr (record { typed = typed; is_typed = is_typed; fault = fault; shown = shown; is = refl; faulty = faulty }))

  judged : (query : sql.Query) (options : Options) (head : Head) → IsAnswerable (asked_with query options head) ⊎ ((why : Refusal) × ShowsQuestion (asked_with query options head) why)
  judged query options head = by (law.typings query head)
    where
      by : ((typed : TypedQuery) × IsTyped query head typed) ⊎ ((fault : TypeFault) × (fault ≢ y.NoMemory) × typing.Refuses query head fault) →
          IsAnswerable (asked_with query options head) ⊎ ((why : Refusal) × ShowsQuestion (asked_with query options head) why)
      by (inl (typed, is)) = planned query options head typed is
      by (inr (fault, shown, faulty)) = inr (Typing fault, inl (record { fault = fault; shown = shown; is = refl; faulty = faulty }))

  question_complete : (query : sql.Query) (options : Options) (table : Contents) → IsComplete (question_step query options table)
  question_complete query options table = by (judged query options table.head)
    where
      by : IsAnswerable (asked_with query options table.head) ⊎ ((why : Refusal) × ShowsQuestion (asked_with query options table.head) why) → IsComplete (question_step query options table)
      by (inl answerable) = inl (question_of query options table, (refl, answerable))
      by (inr shown) = inr shown

  head_complete : (query : sql.Query) (options : Options) (head : Head) → IsComplete (head_step query options head)
  head_complete query options head = by (judged query options head)
    where
      by : IsAnswerable (asked_with query options head) ⊎ ((why : Refusal) × ShowsQuestion (asked_with query options head) why) → IsComplete (head_step query options head)
      by (inl answerable) = inl (asked_with query options head, (refl, answerable))
      by (inr shown) = inr shown

  query_complete : (query : line.Query) (bytes : List ℕ) → AreBytes bytes → IsComplete (query_step query bytes)
  query_complete query bytes are =
      then_complete _ _ (sql_complete query.sql) (λ tree _.
      then_complete _ _ (file_complete law.heads bytes are) (λ file _. head_complete tree query.options file.head))

  report_complete : (query : line.Query) (bytes : List ℕ) → AreBytes bytes → IsComplete (report_step query bytes)
  report_complete query bytes are =
      then_complete _ _ (query_complete query bytes are) (λ asked (tree, is_text, (file, is_head, (same, answerable))).
      rounds_complete law.rounds asked bytes (subst IsAnswerable (sym same) answerable))

  line_complete : (line : Line) → ((query : sql.Query) × IsText line.text query) ⊎ ((why : Refusal) × ShowsLine line why)
  line_complete line = by (law.texts line.text)
    where
      by : ((query : sql.Query) × IsText line.text query) ⊎ ((fault : SqlFault) × (fault ≢ q.NoMemory) × IsFault line.text fault) → ((query : sql.Query) × IsText line.text query) ⊎ ((why : Refusal) × ShowsLine line why)
      by (inl is) = inl is
      by (inr (fault, shown, faulty)) = inr (LineQuery line.number fault, record { fault = fault; shown = shown; is = refl; faulty = faulty })

  sessions_law : session.GoOn
  sessions_law = record { scripts = law.scripts; lines = line_complete; typings = law.typings; valid = law.valid; heads = law.heads; begin = law.rounds.begin; have = law.rounds.have; choose = law.rounds.choose; taken = law.rounds.taken }

  pub steps_complete : StepsAreComplete
  steps_complete = record {
    words = λ ask. then_complete _ _ (sql_complete ask.sql) (λ query _. schema_complete ask.schema);
    ask = λ ask bytes.
        then_complete _ _ (sql_complete ask.sql) (λ query _.
        then_complete _ _ (schema_complete ask.schema) (λ columns declared.
        then_complete _ _ (table_complete ask.schema columns bytes declared) (λ table _. question_complete query ask.options table)));
    demo = λ demo.
        then_complete _ _ (sql_complete demo.sql) (λ query _.
        then_complete _ _ (generator_complete demo.seed demo.rows) (λ table _. question_complete query demo.options table));
    schema = λ load. schema_complete load.schema;
    load = λ load bytes. input_complete load.schema bytes;
    file = file_complete law.heads;
    sql = sql_complete;
    query = query_complete;
    report = report_complete;
    upgrade = upgrade_complete law.files;
    script = session.queries_complete sessions_law;
    session = session.report_complete sessions_law;
  }
