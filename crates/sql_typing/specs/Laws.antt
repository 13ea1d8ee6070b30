-- What holds of the typing of all trees.
use Rattle.std.specs.Prelude.{◌≡◌, ◌≢◌, ◌⊎◌}
use Rattle.daq_table.specs.declared.table_head.Head.{Head}
use Rattle.query_model.specs.Queries.{Query}
use Rattle.query_model.specs.Validity.{IsValid}
use Rattle.sql_text.specs.Tree as tree
use Rattle.sql_typing.specs.Refusals.{IsTyped, Refuses}
use Rattle.sql_typing.specs.declared.fault.TypeFault.{TypeFault}
use Rattle.sql_typing.specs.declared.fault.TypeFault.TheVariants.{NoMemory}

-- two faults of one tree are one, but for want of memory
abbrev pub HasOneFault : Type 0
HasOneFault = (q : tree.Query) (head : Head) (one other : TypeFault) → one ≢ NoMemory → other ≢ NoMemory
    → Refuses q head one → Refuses q head other → one ≡ other

-- a tree that is typed has no fault, but for want of memory
abbrev pub IsFaultless : Type 0
IsFaultless = (q : tree.Query) (head : Head) (fault : TypeFault) (query : Query) → fault ≢ NoMemory
    → IsTyped q head query → ¬ Refuses q head fault

-- it is typed as one query
abbrev pub IsTypedOnce : Type 0
IsTypedOnce = (q : tree.Query) (head : Head) (one other : Query) → IsTyped q head one → IsTyped q head other → one ≡ other

-- each tree is typed or has a fault, want of memory left aside
abbrev pub HasTyping : Type 0
HasTyping = (q : tree.Query) (head : Head)
    → ((query : Query) × IsTyped q head query) ⊎ ((fault : TypeFault) × (fault ≢ NoMemory) × Refuses q head fault)

-- what is typed is valid
abbrev pub IsTypedValid : Type 0
IsTypedValid = (q : tree.Query) (head : Head) (query : Query) → IsTyped q head query → IsValid head query
