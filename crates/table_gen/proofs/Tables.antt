-- The four columns of a seed are a table.
use Rattle.std.proofs.Common.{◌≡◌, ℕ, zero, suc, ◌<◌, ◌≤◌, ℤ, pos, ◌+ℤ◌, ◌≤ℤ◌, Bool, false, cond, IsTrue, Some, None, List, [], ◌∷◌, codes, slice_get, length, map, get_or, refl, sym, ap, subst, ◌∙◌, arith}
use Rattle.std.proofs.lemmas.Bool.{and_from}
use Rattle.std.proofs.lemmas.List.{get_or-map, length-map}
use Rattle.std.proofs.lemmas.Option.{same_Some}
use Rattle.daq_table.specs.HeadFacts.{IsHead, fits_rows}
use Rattle.daq_table.specs.Tables.{AreMarks, Cell, Cells, Contents, IsCell, IsTable, ends_of, no_ends, value_of}
use Rattle.daq_table.specs.declared.head.ColumnHead.{ColumnHead}
use Rattle.daq_table.specs.declared.head.Ends.{Ends}
use Rattle.daq_table.specs.declared.head.Kind.{Kind}
use Rattle.daq_table.specs.declared.head.Kind.TheVariants.{Int, Dec, Date, Text}
use Rattle.daq_table.proofs.Dictionaries.{some_names}
use Rattle.daq_table.proofs.Extremes.{greatest_above, within_top}
use Rattle.daq_table.specs.Dictionaries.{distinct}
use Rattle.daq_table.specs.Extremes.{greatest}
use Rattle.table_gen.specs.Columns.{Stores, ranks_of}
use Rattle.table_gen.specs.Draws.{a_of, b_of, column_of, d_of, g_of}
use Rattle.table_gen.specs.TableOf.{IsTableOfSeed}
use Rattle.table_gen.proofs.Columns.{column_long}

-- the heads and cells of the four columns
pub record AreMade (seed rows : ℕ) (a b d g : ColumnHead) (ka kb kd kg : List Cell) : Type 0 where
  pub a_is : Stores (codes "a") Int [] (column_of a_of seed rows) a ka
  pub b_is : Stores (codes "b") (Dec 2) [] (column_of b_of seed rows) b kb
  pub d_is : Stores (codes "d") Date [] (column_of d_of seed rows) d kd
  pub g_is : Stores (codes "g") Text (distinct (column_of g_of seed rows)) (ranks_of (column_of g_of seed rows)) g kg

pub are_made : (seed rows : ℕ) (a b d g : ColumnHead) (ka kb kd kg : List Cell) (xs ys zs : List ℤ) (texts : List (List ℕ))
    → Stores (codes "a") Int [] xs a ka → Stores (codes "b") (Dec 2) [] ys b kb → Stores (codes "d") Date [] zs d kd → Stores (codes "g") Text (distinct texts) (ranks_of texts) g kg
    → xs ≡ column_of a_of seed rows → ys ≡ column_of b_of seed rows → zs ≡ column_of d_of seed rows → texts ≡ column_of g_of seed rows → AreMade seed rows a b d g ka kb kd kg
are_made seed rows a b d g ka kb kd kg xs ys zs texts p q r s e f h k = record {
  a_is = subst (λ (ns : List ℤ). Stores (codes "a") Int [] ns a ka) e p;
  b_is = subst (λ (ns : List ℤ). Stores (codes "b") (Dec 2) [] ns b kb) f q;
  d_is = subst (λ (ns : List ℤ). Stores (codes "d") Date [] ns d kd) h r;
  g_is = subst (λ (ts : List (List ℕ)). Stores (codes "g") Text (distinct ts) (ranks_of ts) g kg) k s;
}

-- what holds of each of four places
pub four : (P : ℕ → Type 0) → P 0 → P 1 → P 2 → P 3 → (k : ℕ) → k < 4 → P k
four P a b d g zero lt = a
four P a b d g (suc zero) lt = b
four P a b d g (suc (suc zero)) lt = d
four P a b d g (suc (suc (suc zero))) lt = g
four P a b d g (suc (suc (suc (suc k)))) lt = absurd (omega (arith, lt))

names_fit : (rows : ℕ) (names : List (List ℕ)) → (names ≡ [] → rows ≡ 0) → IsTrue (fits_rows rows Text false names)
names_fit rows [] h = rw (h refl) refl
names_fit rows (name ∷ names) h = refl

pub is_head : (seed rows : ℕ) (a b d g : ColumnHead) (ka kb kd kg : List Cell) → AreMade seed rows a b d g ka kb kd kg → rows ≤ 16777216 → IsHead rows (a ∷ b ∷ d ∷ g ∷ [])
is_head seed rows a b d g ka kb kd kg made few =
    let texts = column_of g_of seed rows in
    let fit = names_fit rows (distinct texts) (λ e. sym (column_long g_of seed rows) ∙ some_names texts e) in
    record {
      few_rows = few;
      few_columns = omega arith;
      differ = rw (made.a_is.name_is, made.b_is.name_is, made.d_is.name_is, made.g_is.name_is) refl;
      texts = rw (made.a_is.kind_is, made.b_is.kind_is, made.d_is.kind_is, made.g_is.kind_is, made.g_is.plain, made.g_is.names_are) (and_from (fits_rows rows Text false (distinct texts)) _ fit refl);
    }

-- a cell that stands for a number up to the top is one of the column
number_fits : (ends : Ends) (cell : Cell) (z : ℤ) → value_of ends cell ≡ Some z → z ≤ℤ ends.top → IsCell ends cell
number_fits ends None z e le = absurd cc
number_fits ends (Some u) z e le = within_top ends.base ends.top u (rw (same_Some (ends.base +ℤ pos u) z e) le)

cells_long : (name : List ℕ) (kind : Kind) (names : List (List ℕ)) (numbers : List ℤ) (head : ColumnHead) (cells : List Cell) → Stores name kind names numbers head cells → length cells ≡ length numbers
cells_long name kind names numbers head cells s = sym (length-map cells (value_of (ends_of head))) ∙ ap length s.cells_are ∙ length-map numbers Some

cell_fits : (name : List ℕ) (kind : Kind) (names : List (List ℕ)) (numbers : List ℤ) (head : ColumnHead) (cells : List Cell) (r : ℕ) → Stores name kind names numbers head cells → r < length numbers
    → IsCell (ends_of head) (get_or cells r (Some 0))
cell_fits name kind names numbers head cells r s lt =
    let value = value_of (ends_of head) in
    let long = cells_long name kind names numbers head cells s in
    let here : value (get_or cells r (Some 0)) ≡ Some (get_or numbers r (pos 0)) =
    sym (get_or-map value cells r (Some 0) None (omega (arith, lt, long))) ∙ ap (λ zs. get_or zs r None) s.cells_are ∙ get_or-map Some numbers r (pos 0) None lt in
    let low : get_or numbers r (pos 0) ≤ℤ greatest numbers = greatest_above numbers r (pos 0) lt in
    number_fits (ends_of head) (get_or cells r (Some 0)) (get_or numbers r (pos 0)) here (rw s.top low)

-- what IsTable asks of a column
record Fits (rows : ℕ) (heads : List ColumnHead) (lists : Cells) (c : ℕ) : Type 0 where
  pub long : length (get_or lists c []) ≡ rows
  pub within : (r : ℕ) → r < rows → IsCell (get_or (map ends_of heads) c no_ends) (get_or (get_or lists c []) r (Some 0))

pub is_table : (seed rows : ℕ) (a b d g : ColumnHead) (ka kb kd kg : List Cell) → AreMade seed rows a b d g ka kb kd kg
    → IsTable (record { rows = rows; columns = map ends_of (a ∷ b ∷ d ∷ g ∷ []) }) (ka ∷ kb ∷ kd ∷ kg ∷ [])
is_table seed rows a b d g ka kb kd kg made =
    let each : (c : ℕ) → c < 4 → Fits rows (a ∷ b ∷ d ∷ g ∷ []) (ka ∷ kb ∷ kd ∷ kg ∷ []) c = four (λ c. Fits rows (a ∷ b ∷ d ∷ g ∷ []) (ka ∷ kb ∷ kd ∷ kg ∷ []) c)
    (record { long = cells_long _ _ _ _ a ka made.a_is ∙ column_long a_of seed rows; within = λ r lt. cell_fits _ _ _ _ a ka r made.a_is (omega (arith, lt, column_long a_of seed rows)) })
    (record { long = cells_long _ _ _ _ b kb made.b_is ∙ column_long b_of seed rows; within = λ r lt. cell_fits _ _ _ _ b kb r made.b_is (omega (arith, lt, column_long b_of seed rows)) })
    (record { long = cells_long _ _ _ _ d kd made.d_is ∙ column_long d_of seed rows; within = λ r lt. cell_fits _ _ _ _ d kd r made.d_is (omega (arith, lt, column_long d_of seed rows)) })
    (record { long = cells_long _ _ _ _ g kg made.g_is ∙ ranks_long; within = λ r lt. cell_fits _ _ _ _ g kg r made.g_is (omega (arith, lt, ranks_long)) }) in
    record {
      columns = refl;
      rows = λ c lt. (each c lt).long;
      within = λ c r lt below. (each c lt).within r below;
    }
  where
    ranks_long : length (ranks_of (column_of g_of seed rows)) ≡ rows
    ranks_long = length-map (column_of g_of seed rows) _ ∙ column_long g_of seed rows

-- no column has a mark
pub are_marks : (seed rows : ℕ) (a b d g : ColumnHead) (ka kb kd kg : List Cell) (numbers : List (List ℕ)) → AreMade seed rows a b d g ka kb kd kg
    → AreMarks (record { rows = rows; columns = map ends_of (a ∷ b ∷ d ∷ g ∷ []) }) numbers ([] ∷ [] ∷ [] ∷ [] ∷ [])
are_marks seed rows a b d g ka kb kd kg numbers made = record {
  columns = refl;
  rows = four (λ c. length (get_or none c []) ≡ cond (get_or (map ends_of (a ∷ b ∷ d ∷ g ∷ [])) c no_ends).nullable rows 0)
      (rw made.a_is.plain refl) (rw made.b_is.plain refl) (rw made.d_is.plain refl) (rw made.g_is.plain refl);
  zero = λ c r lt mark. absurd (unmarked c r lt mark);
}
  where
    none : List (List Bool)
    none = [] ∷ [] ∷ [] ∷ [] ∷ []

    unmarked : (c r : ℕ) → c < 4 → IsTrue (get_or (get_or none c []) r false) → ⊥
    unmarked c r lt = four (λ c. IsTrue (get_or (get_or none c []) r false) → ⊥) (λ h. absurd cc) (λ h. absurd cc) (λ h. absurd cc) (λ h. absurd cc) c lt

pub made_table : (seed rows : ℕ) (table : Contents) (a b d g : ColumnHead) (ka kb kd kg : List Cell) → AreMade seed rows a b d g ka kb kd kg → table.head.rows ≡ rows
    → table.head.columns ≡ a ∷ b ∷ d ∷ g ∷ [] → table.cells ≡ ka ∷ kb ∷ kd ∷ kg ∷ [] → IsTableOfSeed seed rows table
made_table seed rows table a b d g ka kb kd kg made n h k = record {
  count = n;
  heads = ap length h;
  lists = ap length k;
  a = record { head = a; cells = ka; head_is = ap (λ (hs : List ColumnHead). slice_get hs 0) h; cells_are = ap (λ (us : Cells). slice_get us 0) k; stores = made.a_is };
  b = record { head = b; cells = kb; head_is = ap (λ (hs : List ColumnHead). slice_get hs 1) h; cells_are = ap (λ (us : Cells). slice_get us 1) k; stores = made.b_is };
  d = record { head = d; cells = kd; head_is = ap (λ (hs : List ColumnHead). slice_get hs 2) h; cells_are = ap (λ (us : Cells). slice_get us 2) k; stores = made.d_is };
  g = record { head = g; cells = kg; head_is = ap (λ (hs : List ColumnHead). slice_get hs 3) h; cells_are = ap (λ (us : Cells). slice_get us 3) k; stores = made.g_is };
}
