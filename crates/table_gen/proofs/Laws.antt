-- A seed has one table for each number of rows, and all of its values have texts.
use Rattle.std.proofs.Common.{◌≡◌, ℕ, ◌<◌, ◌≤◌, ℤ, All, List, [], Some, slice_get, get_or, length, map, sym, subst, ◌∙◌, arith}
use Rattle.std.proofs.lemmas.List.{same_lists}
use Rattle.std.proofs.lemmas.List.Elements.{All-nil}
use Rattle.std.proofs.lemmas.Option.{get_or_from_slice_get, same_Some, slice_get_within}
use Rattle.daq_table.specs.Tables.{Cell, Contents, ends_of}
use Rattle.daq_table.specs.ValueTexts.{HasText, HasTexts}
use Rattle.daq_table.specs.declared.head.ColumnHead.{ColumnHead}
use Rattle.daq_table.specs.declared.head.Kind.{Kind}
use Rattle.daq_table.specs.declared.head.Kind.TheVariants.{Int, Dec, Date, Text}
use Rattle.daq_table.proofs.Dictionaries.{distinct_has}
use Rattle.daq_table.proofs.Extremes.{greatest_has, least_has}
use Rattle.daq_table.proofs.SameTables.{same_cells, same_column, same_contents, same_head}
use Rattle.daq_table.proofs.ShownNumbers.{between_has, zero_has}
use Rattle.daq_table.specs.Dictionaries.{distinct}
use Rattle.table_gen.specs.Columns.{HasColumn, Stores}
use Rattle.table_gen.specs.Draws.{column_of, d_of, g_of}
use Rattle.table_gen.specs.Laws.{HeadsHaveTexts, StandsOnce}
use Rattle.table_gen.proofs.Columns.{column_has, d_is_day}
use Rattle.table_gen.proofs.Tables.{four}

-- what stands at a place of both
record SameAt (t u : Contents) (c : ℕ) : Type 0 where
  pub head : (d : ColumnHead) → get_or t.head.columns c d ≡ get_or u.head.columns c d
  pub cells : (d : List Cell) → get_or t.cells c d ≡ get_or u.cells c d

same_at : (t u : Contents) (c : ℕ) (name : List ℕ) (kind : Kind) (names : List (List ℕ)) (numbers : List ℤ) → HasColumn t c name kind names numbers → HasColumn u c name kind names numbers → SameAt t u c
same_at t u c name kind names numbers p q =
    let heads = same_column p.head q.head (p.stores.name_is ∙ sym q.stores.name_is) (p.stores.kind_is ∙ sym q.stores.kind_is) (p.stores.plain ∙ sym q.stores.plain) (p.stores.base ∙ sym q.stores.base) (p.stores.top ∙ sym q.stores.top) (p.stores.names_are ∙ sym q.stores.names_are) in
    let cells = same_cells (ends_of p.head) (ends_of q.head) p.cells q.cells (map Some numbers) (p.stores.base ∙ sym q.stores.base) p.stores.cells_are q.stores.cells_are in
    record {
      head = λ d. get_or_from_slice_get t.head.columns c p.head d p.head_is ∙ heads ∙ sym (get_or_from_slice_get u.head.columns c q.head d q.head_is);
      cells = λ d. get_or_from_slice_get t.cells c p.cells d p.cells_are ∙ cells ∙ sym (get_or_from_slice_get u.cells c q.cells d q.cells_are);
    }

pub stands_once : StandsOnce
stands_once seed rows t u one other =
    let at : (c : ℕ) → c < 4 → SameAt t u c = four (SameAt t u) (same_at t u 0 _ _ _ _ one.a other.a) (same_at t u 1 _ _ _ _ one.b other.b) (same_at t u 2 _ _ _ _ one.d other.d) (same_at t u 3 _ _ _ _ one.g other.g) in
    let heads : t.head.columns ≡ u.head.columns = same_lists t.head.columns u.head.columns (one.heads ∙ sym other.heads) (λ k d lt. (at k (omega (arith, lt, one.heads))).head d) in
    let cells : t.cells ≡ u.cells = same_lists t.cells u.cells (one.lists ∙ sym other.lists) (λ k d lt. (at k (omega (arith, lt, one.lists))).cells d) in
    same_contents t u (same_head t.head u.head (one.count ∙ sym other.count) heads) cells

abbrev IsShort : List ℕ → Type 0
IsShort name = length name ≤ 255

stores_have : (name : List ℕ) (kind : Kind) (names : List (List ℕ)) (numbers : List ℤ) (head : ColumnHead) (cells : List Cell) → Stores name kind names numbers head cells → All (HasText kind) numbers → All IsShort names
    → HasTexts head
stores_have name kind names numbers head cells s each short =
    let base : HasText head.kind head.base = rw (s.kind_is, s.base) (least_has (HasText kind) numbers (zero_has kind) each) in
    let top : HasText head.kind head.top = rw (s.kind_is, s.top) (greatest_has (HasText kind) numbers (zero_has kind) each) in
    record {
      between = λ value low high. between_has head.kind head.base head.top value base top low high;
      names = rw s.names_are short;
    }

here_has : (table : Contents) (c : ℕ) (name : List ℕ) (kind : Kind) (names : List (List ℕ)) (numbers : List ℤ) (column : ColumnHead) → HasColumn table c name kind names numbers → All (HasText kind) numbers → All IsShort names
    → slice_get table.head.columns c ≡ Some column → HasTexts column
here_has table c name kind names numbers column p each short e =
    subst HasTexts (same_Some p.head column (sym p.head_is ∙ e)) (stores_have name kind names numbers p.head p.cells p.stores each short)

pub have_texts : HeadsHaveTexts
have_texts seed rows table t c column e =
    let short : All IsShort (distinct (column_of g_of seed rows)) = distinct_has IsShort (column_of g_of seed rows) [] (All-nil IsShort) (column_has IsShort g_of seed rows (λ x. omega arith)) in
    four (λ k. slice_get table.head.columns k ≡ Some column → HasTexts column)
    (here_has table 0 _ Int _ _ column t.a (λ k d lt. tt) (All-nil IsShort))
    (here_has table 1 _ (Dec 2) _ _ column t.b (λ k d lt. tt) (All-nil IsShort))
    (here_has table 2 _ Date _ _ column t.d (column_has (HasText Date) d_of seed rows d_is_day) (All-nil IsShort))
    (here_has table 3 _ Text _ _ column t.g (λ k d lt. tt) short)
    c (omega (arith, slice_get_within table.head.columns c column e, t.heads)) e
