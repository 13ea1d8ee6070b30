-- Each step of a command is exact: it accepts one value at most or shows one refusal at most, and never does both.
use Rattle.std.proofs.Common.{◌≡◌, ◌≢◌, ℕ, ◌<◌, List, length, Ok, Err, refl, sym, ap, ◌∙◌, subst, arith, inl, inr, ◌⊎◌}
use Rattle.command_line.specs.Commands.{Ask, Demo, Load, Options, reads}
use Rattle.command_line.specs.Commands as line
use Rattle.csv_load.specs.Laws as table_laws
use Rattle.daq_table.specs.SchemaLaws as schema_laws
use Rattle.daq_table.specs.Tables.{Contents}
use Rattle.daq_table.specs.declared.table_head.Head.{Head}
use Rattle.daq_table.specs.declared.schema_item.SchemaItem.{SchemaItem}
use Rattle.plane_file.specs.Laws as file_laws
use Rattle.plane_reads.specs.Reads as reads_laws
use Rattle.plane_reads.specs.Reads.{IsAnswer}
use Rattle.plane_reads.specs.declared.fault.ReadsFault.{ReadsFault}
use Rattle.plane_reads.specs.declared.fault.ReadsFault.TheVariants as r
use Rattle.plane_schedule.specs.Laws.{ChoicesAreOne}
use Rattle.plane_schedule.specs.declared.policy.Policy.{Policy}
use Rattle.query_model.specs.declared.query.TypedQuery.{TypedQuery}
use Rattle.report_stream.specs.Accepted.{ReportsAreAnswered}
use Rattle.report_stream.specs.Shown.{FaultsAreTold}
use Rattle.session_script.specs.Answers as script_laws
use Rattle.sql_text.specs.Answer.{Breaks, IsFault, IsText, fault_of}
use Rattle.sql_text.specs.Tree as sql
use Rattle.sql_text.specs.declared.fault.Cause.{Cause}
use Rattle.sql_text.specs.declared.fault.Cause.TheVariants as causes
use Rattle.sql_text.specs.declared.fault.SqlFault.{SqlFault}
use Rattle.sql_text.specs.declared.fault.SqlFault.TheVariants as q
use Rattle.sql_typing.specs.Laws as typing_laws
use Rattle.sql_typing.specs.Refusals.{IsTyped}
use Rattle.table_gen.specs.Laws as seed_laws
use Rattle.daq_cli.specs.Inputs.{IsTableText, limits, schema_step, table_step}
use Rattle.daq_cli.specs.Questions.{Asked, IsAnswerable, IsPolicyOf, RefusesOrder, ShowsQuestion, asked_with, question_step, sql_step}
use Rattle.daq_cli.specs.Laws.{StepsAreExact}
use Rattle.daq_cli.specs.Steps.{IsExact}
use Rattle.daq_cli.specs.commands.Ask.{ask_step, words_step}
use Rattle.daq_cli.specs.commands.Demo.{demo_step, generator_step}
use Rattle.daq_cli.specs.commands.Load.{load_step}
use Rattle.daq_cli.specs.commands.Query.{head_step, query_step, report_step}
use Rattle.daq_cli.specs.declared.refusal.Refusal.{Refusal}
use Rattle.daq_cli.specs.declared.refusal.Refusal.TheVariants.{LineQuery, Query, Schema, Table, Typing, Reads}
use Rattle.daq_cli.proofs.FileRounds.{rounds_exact}
use Rattle.daq_cli.proofs.Files.{file_exact}
use Rattle.daq_cli.proofs.SessionLaws as session
use Rattle.daq_cli.proofs.Steps.{then_exact}
use Rattle.daq_cli.proofs.Upgrade.{upgrade_exact}

-- what is known of each step from the crate that carries it out
pub record Laws : Type 0 where
  pub queries : (text : List ℕ) (a b : sql.Query) → IsText text a → IsText text b → a ≡ b
  pub faults : (text : List ℕ) (c d : Cause) (i j : ℕ) → Breaks text c i → Breaks text d j → (c ≡ d) × (i ≡ j)
  pub apart : (text : List ℕ) (c : Cause) (i : ℕ) (a : sql.Query) → Breaks text c i → IsText text a → ⊥
  pub schemas : schema_laws.DeclaresOnce
  pub schema_faults : schema_laws.HasOneFault
  pub good_schemas : schema_laws.IsFaultless
  pub tables : table_laws.StandsOnce
  pub table_faults : table_laws.HasOneFault
  pub good_tables : table_laws.IsFaultless
  pub typings : typing_laws.IsTypedOnce
  pub valid : typing_laws.IsTypedValid
  pub type_faults : typing_laws.HasOneFault
  pub good_typings : typing_laws.IsFaultless
  pub seeds : seed_laws.StandsOnce
  pub reads : reads_laws.AnswersAreOne
  pub faultless : file_laws.AreFaultless
  pub heads : file_laws.HaveOneHead
  pub files : file_laws.TablesAreOne
  pub file_faults : file_laws.ShowOneFault
  pub good_files : file_laws.FilesShowNoFault
  pub choices : ChoicesAreOne
  pub scripts : script_laws.AnswersAreOne
  pub reports : ReportsAreAnswered
  pub stream_faults : FaultsAreTold

-- ---- the SQL

-- a fault is one of length, or a break
breaks : (text : List ℕ) (a : SqlFault) → a ≢ q.NoMemory → IsFault text a →
    ((a ≡ q.TooLong) × (4096 < length text)) ⊎ ((c : Cause) × (i : ℕ) × (a ≡ fault_of c i) × Breaks text c i)
breaks text q.TooLong shown faulty = inl (refl, faulty)
breaks text (q.Syntax at) shown faulty = inr (causes.Syntax, at, refl, faulty)
breaks text (q.TooDeep at) shown faulty = inr (causes.TooDeep, at, refl, faulty)
breaks text (q.LiteralTooLarge at) shown faulty = inr (causes.TooLarge, at, refl, faulty)
breaks text q.NoMemory shown faulty = absurd (shown refl)

one_fault : Laws → (text : List ℕ) (a b : SqlFault) → a ≢ q.NoMemory → b ≢ q.NoMemory → IsFault text a → IsFault text b → a ≡ b
one_fault law text a b a_shown b_shown p r = by (breaks text a a_shown p) (breaks text b b_shown r)
  where
    Kinds : SqlFault → Type 0
    Kinds f = ((f ≡ q.TooLong) × (4096 < length text)) ⊎ ((c : Cause) × (i : ℕ) × (f ≡ fault_of c i) × Breaks text c i)

    by : Kinds a → Kinds b → a ≡ b
    by (inl (e, long)) (inl (f, other)) = e ∙ sym f
    by (inl (e, long)) (inr (c, i, f, broken)) = let few = broken.short in absurd (omega (arith, few, long))
    by (inr (c, i, e, broken)) (inl (f, long)) = let few = broken.short in absurd (omega (arith, few, long))
    by (inr (c, i, e, broken)) (inr (d, j, f, other)) =
        let (same, places) = law.faults text c d i j broken other in
        e ∙ ap (λ x. fault_of x i) same ∙ ap (fault_of d) places ∙ sym f

no_fault : Laws → (text : List ℕ) (a : SqlFault) (query : sql.Query) → a ≢ q.NoMemory → IsFault text a → IsText text query → ⊥
no_fault law text a query shown p is = by (breaks text a shown p)
  where
    by : ((a ≡ q.TooLong) × (4096 < length text)) ⊎ ((c : Cause) × (i : ℕ) × (a ≡ fault_of c i) × Breaks text c i) → ⊥
    by (inl (e, long)) = let few = is.short in omega (arith, few, long)
    by (inr (c, i, e, broken)) = law.apart text c i query broken is

pub sql_exact : Laws → (text : List ℕ) → IsExact (sql_step text)
sql_exact law text = record {
  once = law.queries text;
  same = λ why other p r. p.is ∙ ap Query (one_fault law text p.fault r.fault p.shown r.shown p.faulty r.faulty) ∙ sym r.is;
  apart = λ query why is p. no_fault law text p.fault query p.shown p.faulty is;
}

-- a line of a script
sessions_law : Laws → session.Laws
sessions_law law = record {
  scripts = law.scripts;
  queries = law.queries;
  faults = λ line why other p r. p.is ∙ ap (LineQuery line.number) (one_fault law line.text p.fault r.fault p.shown r.shown p.faulty r.faulty) ∙ sym r.is;
  apart = λ line query why is p. no_fault law line.text p.fault query p.shown p.faulty is;
  typings = law.typings;
  type_faults = law.type_faults;
  good_typings = law.good_typings;
  faultless = law.faultless;
  heads = law.heads;
  choices = law.choices;
}

-- ---- the schema

pub schema_exact : Laws → (text : List ℕ) → IsExact (schema_step text)
schema_exact law text = record {
  once = law.schemas text;
  same = λ why other p r. p.is ∙ ap Schema (law.schema_faults text p.fault r.fault p.shown r.shown p.faulty r.faulty) ∙ sym r.is;
  apart = λ columns why is p. law.good_schemas text columns p.fault p.shown is p.faulty;
}

-- ---- the table of the input

module _ (law : Laws) (columns : List SchemaItem) (bytes : List ℕ) where
  table_same : (x y : Refusal) → (table_step columns bytes).shows x → (table_step columns bytes).shows y → x ≡ y
  table_same x y (inl p) (inl r) = p.is ∙ sym r.is
  table_same x y (inl p) (inr r) = let long = p.longer in let few = r.small in absurd (omega (arith, long, few))
  table_same x y (inr p) (inl r) = let long = r.longer in let few = p.small in absurd (omega (arith, long, few))
  table_same x y (inr p) (inr r) = p.is ∙ ap Table (law.table_faults bytes columns limits p.fault r.fault p.shown r.shown p.faulty r.faulty) ∙ sym r.is

  table_apart : (table : Contents) (y : Refusal) → IsTableText columns bytes table → (table_step columns bytes).shows y → ⊥
  table_apart table y is (inl r) = let long = r.longer in let few = is.small in omega (arith, long, few)
  table_apart table y is (inr r) = law.good_tables bytes columns limits r.fault table r.shown is.is_table r.faulty

  pub table_exact : IsExact (table_step columns bytes)
  table_exact = record { once = λ a b p r. law.tables bytes columns limits a b p.is_table r.is_table; same = table_same; apart = table_apart }

-- ---- the table of a seed

pub generator_exact : Laws → (seed rows : ℕ) → IsExact (generator_step seed rows)
generator_exact law seed rows = record {
  once = λ a b p r. law.seeds seed rows a b p.is_table r.is_table;
  same = λ why other p r. p.is ∙ sym r.is;
  apart = λ table why is p. let few = is.few in let many = p.many in omega (arith, few, many);
}

-- ---- the reads

fault_answers : (word : List ℕ) (query : TypedQuery) (head : Head) (fault : ReadsFault) → fault ≢ r.NoMemory → reads_laws.Refuses word query head fault → IsAnswer word query head (Err fault)
fault_answers word query head (r.UnknownName place) shown faulty = faulty
fault_answers word query head (r.PastEnd place) shown faulty = faulty
fault_answers word query head r.NoMemory shown faulty = absurd (shown refl)

-- ---- the question

injected : {a b : List ℕ} → reads a ≡ reads b → a ≡ b
injected e = cc

module _ (law : Laws) (query : sql.Query) (options : Options) (head : Head) where
  abbrev asked : Asked
  asked = asked_with query options head

  -- the list of its reads is refused once
  same_reads : (typed : TypedQuery) (a b : ReadsFault) → IsTyped query head typed → a ≢ r.NoMemory → b ≢ r.NoMemory →
      RefusesOrder options.order typed head a → RefusesOrder options.order typed head b → a ≡ b
  same_reads typed a b is a_shown b_shown f g =
      let names : g.names ≡ f.names = injected (sym g.listed ∙ f.listed) in
      let second = subst (λ w. IsAnswer w typed head (Err b)) names (fault_answers g.names typed head b b_shown g.faulty) in
      let both = law.reads f.names typed head (Err a) (Err b) (law.valid query head typed is) (fault_answers f.names typed head a a_shown f.faulty) second in
      cc

  -- and not where a policy is made of it
  no_reads : (typed : TypedQuery) (a : ReadsFault) (policy : Policy) → IsTyped query head typed → a ≢ r.NoMemory →
      RefusesOrder options.order typed head a → IsPolicyOf options.order typed head policy → ⊥
  no_reads typed a policy is shown f chosen =
      let listed : IsPolicyOf (reads f.names) typed head policy = subst (λ o. IsPolicyOf o typed head policy) f.listed chosen in
      let (list, policy_is, all) = listed in
      let both = law.reads f.names typed head (Err a) (Ok list) (law.valid query head typed is) (fault_answers f.names typed head a shown f.faulty) all in
      absurd cc

  pub question_same : (x y : Refusal) → ShowsQuestion asked x → ShowsQuestion asked y → x ≡ y
  question_same x y (inl p) (inl r) = p.is ∙ ap Typing (law.type_faults query head p.fault r.fault p.shown r.shown p.faulty r.faulty) ∙ sym r.is
  question_same x y (inl p) (inr r) = absurd (law.good_typings query head p.fault r.typed p.shown r.is_typed p.faulty)
  question_same x y (inr p) (inl r) = absurd (law.good_typings query head r.fault p.typed r.shown p.is_typed r.faulty)
  question_same x y (inr p) (inr r) = p.is ∙ ap Reads (same_reads p.typed p.fault r.fault p.is_typed p.shown r.shown p.faulty
      (subst (λ (t : TypedQuery). RefusesOrder options.order t head r.fault) (law.typings query head r.typed p.typed r.is_typed p.is_typed) r.faulty)) ∙ sym r.is

  pub question_apart : (y : Refusal) → IsAnswerable asked → ShowsQuestion asked y → ⊥
  question_apart y a (inl r) = law.good_typings query head r.fault a.typed r.shown a.planned.is_typed r.faulty
  question_apart y a (inr r) = no_reads a.typed r.fault a.plan.policy a.planned.is_typed r.shown
      (subst (λ (t : TypedQuery). RefusesOrder options.order t head r.fault) (law.typings query head r.typed a.typed r.is_typed a.planned.is_typed) r.faulty) a.planned.planned.policy

pub question_exact : (law : Laws) (query : sql.Query) (options : Options) (table : Contents) → IsExact (question_step query options table)
question_exact law query options table = record {
  once = λ a b p r. p.0 ∙ sym r.0;
  same = question_same law query options table.head;
  apart = λ a y p r. question_apart law query options table.head y p.1 r;
}

-- ---- the commands

words_exact : Laws → (ask : Ask) → IsExact (words_step ask)
words_exact law ask = then_exact (sql_step ask.sql) (λ query. schema_step ask.schema) (sql_exact law ask.sql) (λ query. schema_exact law ask.schema)

ask_exact : Laws → (ask : Ask) (bytes : List ℕ) → IsExact (ask_step ask bytes)
ask_exact law ask bytes =
    then_exact _ _ (sql_exact law ask.sql) (λ query.
    then_exact _ _ (schema_exact law ask.schema) (λ columns.
    then_exact _ _ (table_exact law columns bytes) (λ table. question_exact law query ask.options table)))

demo_exact : Laws → (demo : Demo) → IsExact (demo_step demo)
demo_exact law demo =
    then_exact _ _ (sql_exact law demo.sql) (λ query.
    then_exact _ _ (generator_exact law demo.seed demo.rows) (λ table. question_exact law query demo.options table))

load_exact : Laws → (load : Load) (bytes : List ℕ) → IsExact (load_step load bytes)
load_exact law load bytes = then_exact _ _ (schema_exact law load.schema) (λ columns. table_exact law columns bytes)

head_exact : Laws → (query : sql.Query) (options : Options) (head : Head) → IsExact (head_step query options head)
head_exact law query options head = record {
  once = λ a b p r. p.0 ∙ sym r.0;
  same = question_same law query options head;
  apart = λ a y p r. question_apart law query options head y p.1 r;
}

query_exact : Laws → (query : line.Query) (bytes : List ℕ) → IsExact (query_step query bytes)
query_exact law query bytes =
    then_exact _ _ (sql_exact law query.sql) (λ tree.
    then_exact _ _ (file_exact law.faultless law.heads bytes) (λ file. head_exact law tree query.options file.head))

report_exact : Laws → (query : line.Query) (bytes : List ℕ) → IsExact (report_step query bytes)
report_exact law query bytes =
    then_exact _ _ (query_exact law query bytes) (λ asked.
    rounds_exact (record { typings = law.typings; valid = law.valid; lists = law.reads; choices = law.choices }) asked bytes)

pub steps_exact : Laws → StepsAreExact
steps_exact law = record {
  words = words_exact law;
  ask = ask_exact law;
  demo = demo_exact law;
  schema = λ load. schema_exact law load.schema;
  load = load_exact law;
  file = file_exact law.faultless law.heads;
  sql = sql_exact law;
  query = query_exact law;
  upgrade = upgrade_exact law.files law.file_faults law.good_files;
  report = report_exact law;
  script = session.queries_exact (sessions_law law);
  session = session.report_exact (sessions_law law);
  reports = law.reports;
  faults = law.stream_faults;
}
