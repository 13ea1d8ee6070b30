-- That the text of a schema has one meaning: one list of columns and skipped fields, or one fault.
use Rattle.std.specs.Prelude.{◌≡◌, ◌≢◌, ◌⊎◌, ℕ, List}
use Rattle.daq_table.specs.SchemaFaults.{Refuses}
use Rattle.daq_table.specs.Schemas.{DeclaresItems}
use Rattle.daq_table.specs.declared.schema_item.SchemaItem.{SchemaItem}
use Rattle.daq_table.specs.declared.schema_fault.SchemaFault.{SchemaFault}
use Rattle.daq_table.specs.declared.schema_fault.SchemaFault.TheVariants.{NoMemory}

-- two faults of one text are one, but for want of memory
abbrev pub HasOneFault : Type 0
HasOneFault =
    (text : List ℕ) (one other : SchemaFault) → one ≢ NoMemory → other ≢ NoMemory →
    Refuses text one → Refuses text other → one ≡ other

-- a text that declares items has no fault, but for want of memory
abbrev pub IsFaultless : Type 0
IsFaultless =
    (text : List ℕ) (items : List SchemaItem) (fault : SchemaFault) →
    fault ≢ NoMemory → DeclaresItems text items → ¬ Refuses text fault

-- a text declares one list of items at most, and so one list of columns
abbrev pub DeclaresOnce : Type 0
DeclaresOnce =
    (text : List ℕ) (one other : List SchemaItem) → DeclaresItems text one → DeclaresItems text other → one ≡ other

-- a text declares items or has a fault, want of memory left aside
abbrev pub HasMeaning : Type 0
HasMeaning =
    (text : List ℕ) → ((items : List SchemaItem) × DeclaresItems text items)
    ⊎ ((fault : SchemaFault) × (fault ≢ NoMemory) × Refuses text fault)
