-- Names one list after the other.
use Rattle.std.proofs.Common.{◌≡◌, List, [], ◌∷◌, ◌++◌, refl, ap}
use Rattle.daq_table.specs.declared.head.ColumnHead.{ColumnHead}
use Rattle.sql_text.specs.Tree.{Name}
use Rattle.sql_typing.specs.Faults.{first_in, first_of, name_fault, unknown_at}
use Rattle.sql_typing.specs.Names.{mention, mentions}

pub mentions_append : (table : List ColumnHead) (xs ys : List Name) → mentions table (xs ++ ys) ≡ mentions table xs ++ mentions table ys
mentions_append table [] ys = refl
mentions_append table (x ∷ xs) ys = ap (λ rest. mention table x ∷ rest) (mentions_append table xs ys)

-- unknown among the mentions is unknown among the names
pub known : (table : List ColumnHead) (ns : List Name) → first_in (λ m. unknown_at m.at m.column) (mentions table ns) ≡ first_in (name_fault table) ns
known table [] = refl
known table (n ∷ ns) = ap (first_of (name_fault table n)) (known table ns)
