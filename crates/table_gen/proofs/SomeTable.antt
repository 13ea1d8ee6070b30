-- Each seed has a table of so many rows.
use Rattle.std.proofs.Common.{ℕ, ℤ, ◌-ℤ◌, unsigned_abs, false, Some, IsTrue, List, [], ◌∷◌, codes, map, refl, ap, ◌∙◌, arith}
use Rattle.daq_table.proofs.Ascending.{ascending_when_sorted}
use Rattle.daq_table.specs.ColumnFacts.{IsColumn, fits_names}
use Rattle.daq_table.specs.Tables.{Cell, Contents, column_from, ends_of, value_of}
use Rattle.daq_table.specs.declared.head.ColumnHead.{ColumnHead}
use Rattle.daq_table.specs.declared.head.Kind.{Kind}
use Rattle.daq_table.specs.declared.head.Kind.TheVariants.{Int, Dec, Date, Text}
use Rattle.daq_table.proofs.Dictionaries.{distinct_sorted, ranks_are}
use Rattle.daq_table.proofs.Extremes.{cells_of, ends_ordered, plain_values}
use Rattle.daq_table.specs.Dictionaries.{distinct}
use Rattle.daq_table.specs.Extremes.{greatest, least}
use Rattle.table_gen.specs.Columns.{Stores, ranks_of}
use Rattle.table_gen.specs.Draws.{a_of, b_of, column_of, d_of, g_of}
use Rattle.table_gen.specs.Laws.{HaveTables}
use Rattle.table_gen.proofs.Tables.{AreMade, is_head, made_table}

-- how far each number lies above the least
abbrev distances : List ℤ → List ℕ
distances numbers = map (λ (z : ℤ). unsigned_abs (z -ℤ least numbers)) numbers

record IsStored (name : List ℕ) (kind : Kind) (names : List (List ℕ)) (numbers : List ℤ) : Type 0 where
  pub head : ColumnHead
  pub cells : List Cell
  pub stores : Stores name kind names numbers head cells

stored : (name : List ℕ) (kind : Kind) (names : List (List ℕ)) (numbers : List ℤ) → IsColumn name kind (least numbers) (greatest numbers) names → IsStored name kind names numbers
stored name kind names numbers is =
    let head : ColumnHead = record { name = name; kind = kind; nullable = false; base = least numbers; top = greatest numbers; names = names; is_column = is } in
    record {
      head = head;
      cells = column_from (distances numbers) [];
      stores = record {
        name_is = refl;
        kind_is = refl;
        plain = refl;
        names_are = refl;
        base = refl;
        top = refl;
        cells_are = plain_values (least numbers) (value_of (ends_of head)) (distances numbers) (λ u. refl)
            ∙ ap (map Some) (cells_of numbers numbers (least numbers) (distances numbers) refl refl refl);
      };
    }

is_plain : (letter : ℕ) (kind : Kind) (numbers : List ℤ) → IsTrue (fits_names kind (least numbers) (greatest numbers) []) → IsColumn (letter ∷ []) kind (least numbers) (greatest numbers) []
is_plain letter kind numbers fits = record {
  named = record { some = omega arith; few = omega arith };
  ordered = ends_ordered numbers;
  ascending = refl;
  fits = fits;
}

is_text : (letter : ℕ) (texts : List (List ℕ)) → IsColumn (letter ∷ []) Text (least (ranks_of texts)) (greatest (ranks_of texts)) (distinct texts)
is_text letter texts = record {
  named = record { some = omega arith; few = omega arith };
  ordered = ends_ordered (ranks_of texts);
  ascending = ascending_when_sorted (distinct texts) (distinct_sorted texts);
  fits = ranks_are texts;
}

pub have_tables : HaveTables
have_tables seed rows few =
    let a = stored (codes "a") Int [] (column_of a_of seed rows) (is_plain _ Int (column_of a_of seed rows) refl) in
    let b = stored (codes "b") (Dec 2) [] (column_of b_of seed rows) (is_plain _ (Dec 2) (column_of b_of seed rows) refl) in
    let d = stored (codes "d") Date [] (column_of d_of seed rows) (is_plain _ Date (column_of d_of seed rows) refl) in
    let g = stored (codes "g") Text (distinct (column_of g_of seed rows)) (ranks_of (column_of g_of seed rows)) (is_text _ (column_of g_of seed rows)) in
    let made : AreMade seed rows a.head b.head d.head g.head a.cells b.cells d.cells g.cells = record { a_is = a.stores; b_is = b.stores; d_is = d.stores; g_is = g.stores } in
    let columns = a.head ∷ b.head ∷ d.head ∷ g.head ∷ [] in
    let table : Contents = record {
      head = record { rows = rows; columns = columns; is_head = is_head seed rows _ _ _ _ _ _ _ _ made few };
      cells = a.cells ∷ b.cells ∷ d.cells ∷ g.cells ∷ [];
    } in
    (table, made_table seed rows table _ _ _ _ _ _ _ _ made refl refl refl)
