-- What the blocks of a report say of its query, whatever its form.
use Rattle.std.specs.Prelude.{◌≡◌, ℕ, Bool, List}
use Rattle.sql_text.specs.Tree.{Grouped, Name, Nothing, Ordered}
use Rattle.sql_text.specs.declared.tree.Num.{Num}
use Rattle.run_headline.specs.Groups.{HoldsSections}
use Rattle.run_headline.specs.Printed.{HoldsTotals}
use Rattle.run_headline.specs.Rankings.{HoldsRanking}
use Rattle.run_headline.specs.Readings.{Reading, Wanted}

-- these blocks, round by round, hold what the query asks for: without GROUP BY and ORDER BY, with the one, and with the other
pub record IsTold (reading : Reading) (wanted : Wanted) (block : ℕ → List ℕ) : Type 0 where
  pub totals : reading.text.ending ≡ Nothing → HoldsTotals reading wanted block
  pub groups : (names : List Name) → reading.text.ending ≡ Grouped names → HoldsSections reading block
  pub first : (key : Name) (down : Bool) (limit : Num) → reading.text.ending ≡ Ordered key down limit →
      HoldsRanking reading wanted.listing key down limit block
