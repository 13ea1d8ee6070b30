-- Each number of a table stands for a value.
use Rattle.std.proofs.Common.{◌≡◌, ℕ, ◌<◌, ◌≤◌, true, ℤ, pos, negsuc, nat_abs, ◌+ℤ◌, ◌-ℤ◌, ◌≤ℤ◌, ◌<ℤ◌, List, [], ◌∷◌, length, Some, None, refl, sym, ap, subst, ◌∙◌, arith}
use Rattle.std.proofs.lemmas.Int.{ints}
use Rattle.std.proofs.lemmas.List.{length-map}
use Rattle.std.proofs.lemmas.Option.{none-some}
use Rattle.std.specs.Prelude.{int_le, int_lt}
use Rattle.daq_table.specs.ColumnFacts.{fits_names, is_text}
use Rattle.daq_table.specs.Tables.{Cell, Cells, IsCell, cell_at, ends_at, ends_of, frame_of, no_ends, row_of}
use Rattle.daq_table.specs.Tables as tables
use Rattle.daq_table.specs.declared.head.ColumnHead.{ColumnHead}
use Rattle.daq_table.specs.declared.head.Kind.{Kind}
use Rattle.daq_table.specs.declared.head.Kind.TheVariants as kinds
use Rattle.sql_typing.proofs.Comparisons.{and_left, and_right}
use Rattle.sql_meaning.specs.Rows.{text_at, value_in, value_of}
use Rattle.sql_meaning.specs.Values.{Text}
use Rattle.sql_meaning.specs.Laws.{TablesHaveValues}
use Rattle.sql_meaning.proofs.Named.{mapped, there}

at_most_is : (x y : ℤ) → int_le x y ≡ true → x ≤ℤ y
at_most_is x y h = grind (arith, ints)

below_is : (x y : ℤ) → int_lt x y ≡ true → x <ℤ y
below_is x y h = grind (arith, ints)

above_base : (base top : ℤ) (u : ℕ) → base ≤ℤ top → u ≤ nat_abs (top -ℤ base) → (base +ℤ pos u) ≤ℤ top
above_base base top u h k = grind (arith, ints)

text_there : (names : List (List ℕ)) (z : ℤ) → pos 0 ≤ℤ z → z <ℤ pos (length names) → text_at names z ≡ None → ⊥
text_there names (pos k) low high e =
    let lt : k < length names = omega (arith, ints) in
    let at = there names k lt in
    let some : text_at names (pos k) ≡ Some (Text at.element) = rw at.get refl in
    none-some (Text at.element) (sym e ∙ some)
text_there names (negsuc k) low high e = absurd (omega (arith, ints))

named : (base top : ℤ) (u : ℕ) (names : List (List ℕ)) → base ≤ℤ top → fits_names kinds.Text base top names ≡ true → u ≤ nat_abs (top -ℤ base) → (names ≡ [] → ⊥) → text_at names (base +ℤ pos u) ≡ None → ⊥
named base top u [] h fits within some e = some refl
named base top u (n ∷ ns) h fits within some e =
    let low = at_most_is (pos 0) base (and_left (int_le (pos 0) base) (int_lt top (pos (length (n ∷ ns)))) fits) in
    let high = below_is top (pos (length (n ∷ ns))) (and_right (int_le (pos 0) base) (int_lt top (pos (length (n ∷ ns)))) fits) in
    let under = above_base base top u h within in
    text_there (n ∷ ns) (base +ℤ pos u) (omega (arith, ints)) (omega (arith, ints)) e

-- a number of the kind that stands for no value is of a column of texts without names
no_value : (kind : Kind) (names : List (List ℕ)) (base top : ℤ) (u : ℕ) (A : Type 0) → base ≤ℤ top → fits_names kind base top names ≡ true → u ≤ nat_abs (top -ℤ base)
    → (is_text kind ≡ true → names ≡ [] → ⊥) → value_in kind names (base +ℤ pos u) ≡ None → A
no_value kinds.Int names base top u A h fits within some e = absurd cc
no_value (kinds.Dec s) names base top u A h fits within some e = absurd cc
no_value kinds.Date names base top u A h fits within some e = absurd cc
no_value kinds.Text names base top u A h fits within some e = absurd (named base top u names h fits within (some refl) e)

by_cell : (column : ColumnHead) (cell : Cell) → IsCell (ends_of column) cell → (is_text column.kind ≡ true → column.names ≡ [] → tables.value_of (ends_of column) cell ≡ None)
    → value_of (Some column) (tables.value_of (ends_of column) cell) ≡ None → tables.value_of (ends_of column) cell ≡ None
by_cell column None is nulls e = refl
by_cell column (Some u) is nulls e =
    no_value column.kind column.names column.base column.top u _ column.is_column.ordered column.is_column.fits is
    (λ text none. none-some (column.base +ℤ pos u) (sym (nulls text none))) e

pub tables_have : TablesHaveValues
tables_have head cells table nulls c r c_in r_in e =
    let at = there head.columns c c_in in
    let ends : ends_at (frame_of head) c ≡ ends_of at.element = mapped ends_of head.columns c at.element no_ends at.get in
    let c_there : c < length (frame_of head).columns = subst (λ n. c < n) (sym (length-map head.columns ends_of)) c_in in
    let is : IsCell (ends_of at.element) (cell_at cells c r) = subst (λ w. IsCell w (cell_at cells c r)) ends (table.within c r c_there r_in) in
    let same : row_of (frame_of head) cells r c ≡ tables.value_of (ends_of at.element) (cell_at cells c r) = ap (λ w. tables.value_of w (cell_at cells c r)) ends in
    let no : value_of (Some at.element) (row_of (frame_of head) cells r c) ≡ None = ap (λ o. value_of o (row_of (frame_of head) cells r c)) (sym at.get) ∙ e in
    same ∙ by_cell at.element (cell_at cells c r) is (λ text none. sym same ∙ nulls c r at.element r_in at.get text none) (ap (value_of (Some at.element)) (sym same) ∙ no)
