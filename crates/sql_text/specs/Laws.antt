-- What holds of the answers to all texts.
use Rattle.std.specs.Prelude.{ℕ, ◌≢◌, ◌⊎◌, List}
use Rattle.sql_text.specs.declared.fault.SqlFault.{SqlFault}
use Rattle.sql_text.specs.declared.fault.SqlFault.TheVariants.{NoMemory}
use Rattle.sql_text.specs.Answer.{IsText, IsFault}
use Rattle.sql_text.specs.Tree.{Query}

-- a text is a query or has a fault, want of memory left aside
abbrev pub IsAnswered : Type 0
IsAnswered = (text : List ℕ) → ((q : Query) × IsText text q) ⊎ ((fault : SqlFault) × (fault ≢ NoMemory) × IsFault text fault)
