-- The table of a seed.
use Rattle.std.specs.Prelude.{◌≡◌, ℕ, [], codes, length}
use Rattle.daq_table.specs.Tables.{Contents}
use Rattle.daq_table.specs.declared.head.Kind.TheVariants.{Int, Dec, Date, Text}
use Rattle.daq_table.specs.Dictionaries.{distinct}
use Rattle.table_gen.specs.Columns.{HasColumn, ranks_of}
use Rattle.table_gen.specs.Draws.{a_of, b_of, column_of, d_of, g_of}

-- the four columns `a:int`, `b:dec2`, `d:date` and `g:text` of so many rows
pub record IsTableOfSeed (seed rows : ℕ) (table : Contents) : Type 0 where
  pub count : table.head.rows ≡ rows
  pub heads : length table.head.columns ≡ 4
  pub lists : length table.cells ≡ 4
  pub a : HasColumn table 0 (codes "a") Int [] (column_of a_of seed rows)
  pub b : HasColumn table 1 (codes "b") (Dec 2) [] (column_of b_of seed rows)
  pub d : HasColumn table 2 (codes "d") Date [] (column_of d_of seed rows)
  pub g : HasColumn table 3 (codes "g") Text (distinct (column_of g_of seed rows)) (ranks_of (column_of g_of seed rows))
