-- What the fault of each step shows: the refusal that it is to the run, or want of memory.
use Rattle.std.proofs.Common.{◌≡◌, ◌↔◌, ℕ, ◌≤◌, ◌<◌, List, length, arith, inl, inr, ◌⊎◌, Ok, Err}
use Rattle.std.specs.declared.result.Result.{Result}
use Rattle.csv_load.specs.Faults as tables
use Rattle.csv_load.specs.declared.fault.TableFault.{TableFault}
use Rattle.csv_load.specs.declared.fault.TableFault.TheVariants as t
use Rattle.daq_table.specs.SchemaFaults as schemas
use Rattle.daq_table.specs.declared.schema_item.SchemaItem.{SchemaItem}
use Rattle.daq_table.specs.declared.schema_fault.SchemaFault.{SchemaFault}
use Rattle.daq_table.specs.declared.schema_fault.SchemaFault.TheVariants as s
use Rattle.sql_text.specs.Answer.{IsFault}
use Rattle.sql_text.specs.declared.fault.SqlFault.{SqlFault}
use Rattle.sql_text.specs.declared.fault.SqlFault.TheVariants as q
use Rattle.sql_text.specs.declared.tree.Tree.{Tree}
use Rattle.daq_table.specs.Tables.{Contents}
use Rattle.table_gen.specs.declared.fault.GenFault.{GenFault}
use Rattle.table_gen.specs.declared.fault.GenFault.TheVariants as g
use Rattle.daq_cli.specs.Faults as of
use Rattle.daq_cli.specs.Inputs.{ShowsSchema, ShowsTable, limits, most_bytes}
use Rattle.daq_cli.specs.Questions.{ShowsText}
use Rattle.daq_cli.specs.commands.Demo.{ShowsRows, most_rows}
use Rattle.daq_cli.specs.declared.refusal.Refusal.{Refusal}
use Rattle.daq_cli.specs.declared.refusal.Refusal.TheVariants.{NoMemory}

not_memory : (result : Result Tree SqlFault) → result ≡ Err q.NoMemory → result ≡ Err q.TooLong → ⊥
not_memory result e f = cc

-- the SQL: where memory runs out it is not too long
pub text_shown : (text : List ℕ) (result : Result Tree SqlFault) (fault : SqlFault) (why : Refusal) → result ≡ Err fault → ((result ≡ Err q.TooLong) ↔ (4096 < length text)) →
    IsFault text fault → why ≡ of.text fault → ShowsText text why ⊎ ((why ≡ NoMemory) × (length text ≤ 4096))
text_shown text result q.TooLong why e too_long faulty is = inl (record { fault = q.TooLong; shown = λ n. cc; is = is; faulty = faulty })
text_shown text result (q.Syntax at) why e too_long faulty is = inl (record { fault = q.Syntax at; shown = λ n. cc; is = is; faulty = faulty })
text_shown text result (q.TooDeep at) why e too_long faulty is = inl (record { fault = q.TooDeep at; shown = λ n. cc; is = is; faulty = faulty })
text_shown text result (q.LiteralTooLarge at) why e too_long faulty is = inl (record { fault = q.LiteralTooLarge at; shown = λ n. cc; is = is; faulty = faulty })
text_shown text result q.NoMemory why e too_long faulty is =
    let not_long : 4096 < length text → ⊥ = λ long. not_memory result e (too_long.1 long) in
    inr (is, omega (arith, not_long))

pub schema_shown : (text : List ℕ) (fault : SchemaFault) (why : Refusal) → schemas.Refuses text fault → why ≡ of.schema fault → ShowsSchema text why ⊎ (why ≡ NoMemory)
schema_shown text (s.BadItem at) why faulty is = inl (record { fault = s.BadItem at; shown = λ n. cc; is = is; faulty = faulty })
schema_shown text (s.TooMany count) why faulty is = inl (record { fault = s.TooMany count; shown = λ n. cc; is = is; faulty = faulty })
schema_shown text (s.TooManyItems count) why faulty is = inl (record { fault = s.TooManyItems count; shown = λ n. cc; is = is; faulty = faulty })
schema_shown text s.NoColumn why faulty is = inl (record { fault = s.NoColumn; shown = λ n. cc; is = is; faulty = faulty })
schema_shown text (s.RepeatedName first second) why faulty is = inl (record { fault = s.RepeatedName first second; shown = λ n. cc; is = is; faulty = faulty })
schema_shown text s.NoMemory why faulty is = inr is

pub table_shown : (columns : List SchemaItem) (bytes : List ℕ) (fault : TableFault) (why : Refusal) → length bytes ≤ most_bytes → tables.Refuses bytes columns limits fault → why ≡ of.table fault →
    ShowsTable columns bytes why ⊎ (why ≡ NoMemory)
table_shown columns bytes t.NoHeader why small faulty is = inl (record { small = small; fault = t.NoHeader; shown = λ n. cc; is = is; faulty = faulty })
table_shown columns bytes (t.HeaderDiffers c) why small faulty is = inl (record { small = small; fault = t.HeaderDiffers c; shown = λ n. cc; is = is; faulty = faulty })
table_shown columns bytes (t.TooManyRows n) why small faulty is = inl (record { small = small; fault = t.TooManyRows n; shown = λ e. cc; is = is; faulty = faulty })
table_shown columns bytes (t.TooManyCells n) why small faulty is = inl (record { small = small; fault = t.TooManyCells n; shown = λ e. cc; is = is; faulty = faulty })
table_shown columns bytes (t.UnequalLength entry got want) why small faulty is = inl (record { small = small; fault = t.UnequalLength entry got want; shown = λ n. cc; is = is; faulty = faulty })
table_shown columns bytes (t.BadCell entry c) why small faulty is = inl (record { small = small; fault = t.BadCell entry c; shown = λ n. cc; is = is; faulty = faulty })
table_shown columns bytes (t.TooManyNames c) why small faulty is = inl (record { small = small; fault = t.TooManyNames c; shown = λ n. cc; is = is; faulty = faulty })
table_shown columns bytes t.NoMemory why small faulty is = inr is

-- the rows of a seed
pub rows_shown : (rows : ℕ) (result : Result Contents GenFault) (fault : GenFault) (why : Refusal) → result ≡ Err fault → ((result ≡ Err g.TooMany) ↔ (most_rows < rows)) → why ≡ of.generator fault →
    ShowsRows rows why ⊎ (why ≡ NoMemory)
rows_shown rows result g.TooMany why e many is = inl (record { many = many.0 e; is = is })
rows_shown rows result g.NoMemory why e many is = inr is

made : (result : Result Contents GenFault) (table : Contents) → result ≡ Ok table → result ≡ Err g.TooMany → ⊥
made result table e t = cc

pub rows_few : (rows : ℕ) (result : Result Contents GenFault) (table : Contents) → result ≡ Ok table → ((result ≡ Err g.TooMany) ↔ (most_rows < rows)) → rows ≤ most_rows
rows_few rows result table e many =
    let few : most_rows < rows → ⊥ = λ more. made result table e (many.1 more) in
    omega (arith, few)
