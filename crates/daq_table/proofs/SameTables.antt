-- What makes two heads, two columns of cells and two tables one.
use Rattle.std.proofs.Common.{◌≡◌, ℕ, ℤ, pos, ◌+ℤ◌, List, Option, Some, None, get_or, length, map, refl, sym, ap, ◌∙◌, arith}
use Rattle.std.proofs.Props.{props}
use Rattle.std.proofs.lemmas.Int.{ints}
use Rattle.std.proofs.lemmas.List.{get_or-map, length-map, same_lists}
use Rattle.std.proofs.lemmas.Option.{same_Some}
use mathlib.Core.HLevel.{is_prop→PathP}
use Rattle.daq_table.specs.ColumnFacts.{IsColumn}
use Rattle.daq_table.specs.HeadFacts.{IsHead}
use Rattle.daq_table.specs.Tables.{Cell, Contents, value_of}
use Rattle.daq_table.specs.declared.head.ColumnHead.{ColumnHead}
use Rattle.daq_table.specs.declared.head.Ends.{Ends}
use Rattle.daq_table.specs.declared.head.Kind.{Kind}
use Rattle.daq_table.specs.declared.table_head.Head.{Head}

column_prop : (name : List ℕ) (kind : Kind) (base top : ℤ) (names : List (List ℕ)) → IsProp (IsColumn name kind base top names)
column_prop name kind base top names = hlevel props

head_prop : (rows : ℕ) (columns : List ColumnHead) → IsProp (IsHead rows columns)
head_prop rows columns = hlevel props

pub same_column : (h k : ColumnHead) → h.name ≡ k.name → h.kind ≡ k.kind → h.nullable ≡ k.nullable → h.base ≡ k.base → h.top ≡ k.top → h.names ≡ k.names → h ≡ k
same_column h k n d u b t m = λ i. record {
  name = n i;
  kind = d i;
  nullable = u i;
  base = b i;
  top = t i;
  names = m i;
  is_column = is_prop→PathP (λ j. IsColumn (n j) (d j) (b j) (t j) (m j)) (λ j. column_prop (n j) (d j) (b j) (t j) (m j)) h.is_column k.is_column i;
}

pub same_head : (h k : Head) → h.rows ≡ k.rows → h.columns ≡ k.columns → h ≡ k
same_head h k r c = λ i. record {
  rows = r i;
  columns = c i;
  is_head = is_prop→PathP (λ j. IsHead (r j) (c j)) (λ j. head_prop (r j) (c j)) h.is_head k.is_head i;
}

pub same_contents : (a b : Contents) → a.head ≡ b.head → a.cells ≡ b.cells → a ≡ b
same_contents a b h c = λ i. record { head = h i; cells = c i }

same_number : (base : ℤ) (u v : ℕ) → base +ℤ pos u ≡ base +ℤ pos v → u ≡ v
same_number base u v e = omega (arith, ints, e)

-- over one base two cells that stand for the same are the same
same_cell : (h k : Ends) (x y : Cell) → h.base ≡ k.base → value_of h x ≡ value_of k y → x ≡ y
same_cell h k None None b e = refl
same_cell h k None (Some v) b e = absurd cc
same_cell h k (Some u) None b e = absurd cc
same_cell h k (Some u) (Some v) b e =
    ap Some (same_number h.base u v (same_Some (h.base +ℤ pos u) (k.base +ℤ pos v) e ∙ ap (λ (z : ℤ). z +ℤ pos v) (sym b)))

pub same_cells : (h k : Ends) (xs ys : List Cell) (values : List (Option ℤ)) → h.base ≡ k.base → map (value_of h) xs ≡ values → map (value_of k) ys ≡ values → xs ≡ ys
same_cells h k xs ys values b e f =
    let same : length xs ≡ length ys = sym (length-map xs (value_of h)) ∙ ap length (e ∙ sym f) ∙ length-map ys (value_of k) in
    same_lists xs ys same (λ i d lt.
    same_cell h k (get_or xs i d) (get_or ys i d) b
    (sym (get_or-map (value_of h) xs i d None lt) ∙ ap (λ zs. get_or zs i None) (e ∙ sym f) ∙ get_or-map (value_of k) ys i d None (omega (arith, lt, same))))
