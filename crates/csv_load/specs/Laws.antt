-- That a CSV stands for one table or has one fault, and that all values of its table can be shown.
use Rattle.std.specs.Prelude.{◌≡◌, ◌≢◌, ◌⊎◌, ◌≤◌, ℕ, List}
use Rattle.daq_table.specs.Schemas.{DeclaresItems}
use Rattle.daq_table.specs.Tables.{Contents}
use Rattle.daq_table.specs.ValueTexts.{HeadHasTexts}
use Rattle.daq_table.specs.declared.schema_item.SchemaItem.{SchemaItem}
use Rattle.csv_load.specs.Faults.{Refuses}
use Rattle.csv_load.specs.TableOf.{IsTableOf}
use Rattle.csv_load.specs.declared.fault.TableFault.{TableFault}
use Rattle.csv_load.specs.declared.fault.TableFault.TheVariants.{NoMemory}
use Rattle.csv_load.specs.declared.limits.Limits.{Limits}

-- two faults of one text are one, but for want of memory
abbrev pub HasOneFault : Type 0
HasOneFault = (bytes : List ℕ) (items : List SchemaItem) (limits : Limits) (one other : TableFault) → one ≢ NoMemory → other ≢ NoMemory
    → Refuses bytes items limits one → Refuses bytes items limits other → one ≡ other

-- a text that stands for a table has no fault, but for want of memory
abbrev pub IsFaultless : Type 0
IsFaultless = (bytes : List ℕ) (items : List SchemaItem) (limits : Limits) (fault : TableFault) (table : Contents) → fault ≢ NoMemory
    → IsTableOf bytes items limits table → ¬ Refuses bytes items limits fault

-- a text stands for one table at most
abbrev pub StandsOnce : Type 0
StandsOnce = (bytes : List ℕ) (items : List SchemaItem) (limits : Limits) (one other : Contents)
    → IsTableOf bytes items limits one → IsTableOf bytes items limits other → one ≡ other

-- the columns of a table that a text stands for have texts
abbrev pub HeadsHaveTexts : Type 0
HeadsHaveTexts = (bytes : List ℕ) (items : List SchemaItem) (limits : Limits) (table : Contents) → IsTableOf bytes items limits table
    → HeadHasTexts table.head

-- unless memory runs out, the text stands for a table or has a fault
abbrev pub IsAnswered : List ℕ → List SchemaItem → Limits → Type 0
IsAnswered bytes items limits =
    ((table : Contents) × IsTableOf bytes items limits table)
    ⊎ ((fault : TableFault) × (fault ≢ NoMemory) × Refuses bytes items limits fault)

-- so does each text under each schema
abbrev pub HasAnswer : Type 0
HasAnswer = (bytes schema : List ℕ) (items : List SchemaItem) (limits : Limits) → DeclaresItems schema items → limits.rows ≤ 16777216
    → IsAnswered bytes items limits
