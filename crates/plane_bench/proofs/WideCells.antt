-- Cells of 32 digits, and the column that they belong to.
use Rattle.std.proofs.Common.{◌≡◌, ℕ, List, [], ◌∷◌, ◌+◌, ◌*◌, ◌≤◌, ◌<◌, pos, ◌-ℤ◌, nat_abs, length, get_or, sym, ap, ◌∙◌, subst, arith}
use Rattle.std.specs.List.{All}
use Rattle.std.proofs.lemmas.List.FromFn.{get_or-map-range_with_len, length-map-range_with_len}
use Rattle.std.proofs.lemmas.Nat.{mod_below}
use Rattle.daq_table.specs.declared.head.Ends.{Ends}
use Rattle.daq_table.specs.Tables.{Frame, binary_digits, ends_at, planes, spread}
use Rattle.query_model.specs.Knowledge.{known_at}
use Rattle.query_model.proofs.Blocks.{plain_column}
use Rattle.known_column.specs.KnownTables.{KnownTable, unread_table}
use Rattle.plane_bench.specs.Planes.{alone, cell_of, cells_of, table_after, AreWide}

pub wide_spread : (ends : Ends) → AreWide ends → spread ends ≡ 4294967295
wide_spread ends wide = ap (λ z. nat_abs (z -ℤ ends.base)) wide.top ∙ ap (λ z. nat_abs (pos 4294967295 -ℤ z)) wide.base

pub wide_planes : (ends : Ends) → AreWide ends → planes ends ≡ 32
unfolding binary_digits
wide_planes ends wide = (plain_column ends wide.plain).0 ∙ ap binary_digits (wide_spread ends wide)

pub length-cells : (rows : ℕ) → length (cells_of rows) ≡ rows
length-cells rows = length-map-range_with_len cell_of 0 rows

pub cells_fit : (ends : Ends) (rows : ℕ) → AreWide ends → All (λ cell. cell ≤ spread ends) (cells_of rows)
cells_fit ends rows wide = λ k d below.
    let there : k < rows = omega (arith, below, length-cells rows) in
    let is : get_or (cells_of rows) k d ≡ cell_of k = get_or-map-range_with_len cell_of 0 rows k k d there (omega arith) in
    let small : cell_of k < 4294967296 = mod_below (k * 2654435761) 4294967296 (omega arith) in
    omega (arith, is, small, wide_spread ends wide)

-- each plane that is read is one of 32
pub planes_left : (ends : Ends) (cells : List ℕ) (rounds left : ℕ) (table : KnownTable) → AreWide ends → table ≡ table_after ends cells rounds →
    left + (known_at table.known 0).read ≡ planes (ends_at table.frame 0) → left + rounds ≡ 32
planes_left ends cells rounds left table wide is unread =
    subst (λ (t : KnownTable). left + (known_at t.known 0).read ≡ planes (ends_at t.frame 0)) is unread ∙ wide_planes ends wide

-- of a list that is the cells
pub fit_all : (ends : Ends) (rows : ℕ) (cells : List ℕ) → AreWide ends → cells ≡ cells_of rows → All (λ cell. cell ≤ spread ends) cells
fit_all ends rows cells wide is = subst (λ (cs : List ℕ). All (λ cell. cell ≤ spread ends) cs) (sym is) (cells_fit ends rows wide)

pub start_all : (rows : ℕ) (cells : List ℕ) (table : KnownTable) → cells ≡ cells_of rows → table ≡ unread_table table.frame → table.frame.rows ≡ rows → table.frame.columns ≡ ends_at table.frame 0 ∷ [] →
    table ≡ unread_table (alone (ends_at table.frame 0) cells)
start_all rows cells table is unread count one =
    unread ∙ ap unread_table (same_frame table.frame (alone (ends_at table.frame 0) cells) (count ∙ sym (ap length is ∙ length-cells rows)) one)
  where
    same_frame : (f g : Frame) → f.rows ≡ g.rows → f.columns ≡ g.columns → f ≡ g
    same_frame f g rows columns =
        ap (λ n. let frame : Frame = record { rows = n; columns = f.columns } in frame) rows ∙ ap (λ es. let frame : Frame = record { rows = g.rows; columns = es } in frame) columns
