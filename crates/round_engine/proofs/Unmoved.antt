-- What reads no value of a column is told alike before and after a plane of it: conditions, expressions, and the pairs of an item.
use Rattle.std.proofs.Common.{◌≡◌, ◌≢◌, ℕ, ◌==◌, Bool, false, List, [], ◌∷◌, ◌++◌, filter_map, slice_index, refl, sym, ap, ◌∙◌}
use Rattle.std.specs.declared.option.Option.{Option}
use Rattle.std.proofs.lemmas.Bool.{eq-eqb, false≢true, or_parts}
use Rattle.std.proofs.lemmas.List.{get_or-set_other}
use Rattle.std.proofs.lemmas.List.Folds.{list_any-append}
use Rattle.std.specs.List.{cons_option}
use Rattle.daq_table.specs.Tables.{Frame, ends_at, rows_of}
use Rattle.query_model.specs.declared.bounds.Truth.{Truth}
use Rattle.query_model.specs.declared.query.Atom.{Atom}
use Rattle.query_model.specs.declared.query.Atom.TheVariants.{Compare, CompareColumns, Between, OneOf, IsNull}
use Rattle.query_model.specs.declared.query.Shape.TheVariants.{Plain}
use Rattle.query_model.specs.Queries.{Aggregate, Condition, All, Single, Both, Either, Negation, Query, Term, Column, Literal, Add, Sub, Mul}
use Rattle.query_model.specs.Bounds.{pair_by, pair_of, pair_unless_false, pairs}
use Rattle.query_model.specs.Knowledge.{ColumnKnowledge, Knowledge, known_at, longer_column, range_of, ranges_of, taken}
use Rattle.query_model.specs.Meaning.{among, between, columns_of, columns_of_atom, columns_of_pred, compares}
use Rattle.query_model.specs.Truths.{Range, Ranges, and_of, and_over, not_over, null_of, one_null, or_over, span_of, truth_among, truth_of, truth_of_number, truths_of, truths_of_atom, truths_of_null, truths_over, truths_over_both}
use Rattle.interval_calc.specs.Intervals.{difference_of, product_of, sum_of}
use Rattle.kleene_filter.specs.Filters.{stands_in}
use Rattle.round_engine.specs.Moves.{is_moved}
use Rattle.round_engine.proofs.RowPairs.{plain_pair}

-- ranges that differ at one column at most
abbrev AgreeBeside : ℕ → Ranges → Ranges → Type 0
AgreeBeside c a b = (k : ℕ) → k ≢ c → a k ≡ b k

another : (k c : ℕ) → (k == c) ≡ false → k ≢ c
another k c h = λ e. absurd (false≢true (sym h ∙ eq-eqb k c e))

-- neither of two lists has the number
apart : (xs ys : List ℕ) (c : ℕ) → stands_in (xs ++ ys) c ≡ false → (stands_in xs c ≡ false) × (stands_in ys c ≡ false)
apart xs ys c h = or_parts _ _ (sym (list_any-append (λ m. m == c) xs ys) ∙ h)

of_both : {X : Type 0} (f : X → X → X) {x y v w : X} → x ≡ y → v ≡ w → f x v ≡ f y w
of_both f {x} {y} {v} {w} p q = ap (λ z. f z v) p ∙ ap (f y) q

module _ (c : ℕ) (a b : Ranges) (agree : AgreeBeside c a b) where
  there : (k : ℕ) → stands_in (k ∷ []) c ≡ false → a k ≡ b k
  there k h = agree k (another k c (or_parts _ _ h).0)

  atom_alike : (atom : Atom) → stands_in (columns_of_atom atom) c ≡ false → truths_of_atom atom a ≡ truths_of_atom atom b
  atom_alike (Compare k op v) h = ap (λ r. truths_over r (λ x. compares op x v)) (there k h)
  atom_alike (CompareColumns l op r) h =
      let both = or_parts _ _ h in
      ap (λ i. truths_over_both i (a r) (compares op)) (agree l (another l c both.0)) ∙ ap (λ j. truths_over_both (b l) j (compares op)) (there r both.1)
  atom_alike (Between k low high) h = ap (λ r. truths_over r (between low high)) (there k h)
  atom_alike (OneOf k values) h = ap (λ r. truths_over r (among values)) (there k h)
  atom_alike (IsNull k) h = ap truths_of_null (there k h)

  pred_alike : (pred : Condition) → stands_in (columns_of_pred pred) c ≡ false → truths_of pred a ≡ truths_of pred b
  pred_alike All h = refl
  pred_alike (Single atom) h = atom_alike atom h
  pred_alike (Both x y) h = (let both = apart (columns_of_pred x) (columns_of_pred y) c h in of_both and_over (pred_alike x both.0) (pred_alike y both.1))
  pred_alike (Either x y) h = (let both = apart (columns_of_pred x) (columns_of_pred y) c h in of_both or_over (pred_alike x both.0) (pred_alike y both.1))
  pred_alike (Negation x) h = ap not_over (pred_alike x h)

  null_alike : (e : Term) → stands_in (columns_of e) c ≡ false → null_of e a ≡ null_of e b
  null_alike (Column k) h = ap (λ (r : Range). r.null) (there k h)
  null_alike (Literal n) h = refl
  null_alike (Add x y) h = (let both = apart (columns_of x) (columns_of y) c h in of_both one_null (null_alike x both.0) (null_alike y both.1))
  null_alike (Sub x y) h = (let both = apart (columns_of x) (columns_of y) c h in of_both one_null (null_alike x both.0) (null_alike y both.1))
  null_alike (Mul x y) h = (let both = apart (columns_of x) (columns_of y) c h in of_both one_null (null_alike x both.0) (null_alike y both.1))

  span_alike : (e : Term) → stands_in (columns_of e) c ≡ false → span_of e a ≡ span_of e b
  span_alike (Column k) h = ap (λ (r : Range). r.numbers) (there k h)
  span_alike (Literal n) h = refl
  span_alike (Add x y) h = (let both = apart (columns_of x) (columns_of y) c h in of_both sum_of (span_alike x both.0) (span_alike y both.1))
  span_alike (Sub x y) h = (let both = apart (columns_of x) (columns_of y) c h in of_both difference_of (span_alike x both.0) (span_alike y both.1))
  span_alike (Mul x y) h = (let both = apart (columns_of x) (columns_of y) c h in of_both product_of (span_alike x both.0) (span_alike y both.1))

  -- the pair of a row, where nothing is grouped
  pair_alike : (query : Query) (item : Aggregate) → query.shape ≡ Plain → is_moved query c item ≡ false → pair_of query item [] a ≡ pair_of query item [] b
  pair_alike query item plain h =
      let both = or_parts _ _ h in
      plain_pair query item a plain
      ∙ ap (λ t. pair_by (truth_among t) item a) (pred_alike query.pred both.0)
      ∙ ap (λ n. pair_unless_false (and_of (truth_of query.pred b) (truth_of_number n)) (span_of item.arg a)) (null_alike item.arg both.1)
      ∙ ap (pair_unless_false (and_of (truth_of query.pred b) (truth_of_number (null_of item.arg b)))) (span_alike item.arg both.1)
      ∙ sym (plain_pair query item b plain)

-- a plane of one column leaves the ranges of the others
ranges_alike : (frame : Frame) (known : Knowledge) (c : ℕ) (bits : List Bool) (row : ℕ) → AgreeBeside c (ranges_of frame (taken known c bits) row) (ranges_of frame known row)
ranges_alike frame known c bits row k other =
    ap (λ (w : ColumnKnowledge). range_of (ends_at frame k) w.read (slice_index w.prefixes row))
    (get_or-set_other known c k (longer_column (known_at known c) bits) (record { read = 0; prefixes = [] }) other)

-- what is known of a condition that does not read the column
pub pred_unmoved : (pred : Condition) (frame : Frame) (known : Knowledge) (c : ℕ) (bits : List Bool) (row : ℕ) → stands_in (columns_of_pred pred) c ≡ false →
    truth_of pred (ranges_of frame (taken known c bits) row) ≡ truth_of pred (ranges_of frame known row)
pred_unmoved pred frame known c bits row h =
    ap truth_among (pred_alike c (ranges_of frame (taken known c bits) row) (ranges_of frame known row) (ranges_alike frame known c bits row) pred h)

-- and of another column
pub range_unmoved : (frame : Frame) (known : Knowledge) (c : ℕ) (bits : List Bool) (row k : ℕ) → k ≢ c → ranges_of frame (taken known c bits) row k ≡ ranges_of frame known row k
range_unmoved frame known c bits row k other = ranges_alike frame known c bits row k other

-- the pair of a row by what is known of whether it counts, for an argument that does not read the column
pub pair_by_unmoved : (counts : Truth) (item : Aggregate) (frame : Frame) (known : Knowledge) (c : ℕ) (bits : List Bool) (row : ℕ) → stands_in (columns_of item.arg) c ≡ false →
    pair_by counts item (ranges_of frame (taken known c bits) row) ≡ pair_by counts item (ranges_of frame known row)
pair_by_unmoved counts item frame known c bits row h =
    let agree = ranges_alike frame known c bits row in
    let new = ranges_of frame (taken known c bits) row in
    let old = ranges_of frame known row in
    ap (λ n. pair_unless_false (and_of counts (truth_of_number n)) (span_of item.arg new)) (null_alike c new old agree item.arg h)
    ∙ ap (pair_unless_false (and_of counts (truth_of_number (null_of item.arg old)))) (span_alike c new old agree item.arg h)

pub same_given : {X : Type 0} (f g : ℕ → Option X) (rows : List ℕ) → ((r : ℕ) → f r ≡ g r) → filter_map f rows ≡ filter_map g rows
same_given f g [] h = refl
same_given f g (r ∷ rows) h = ap (λ o. cons_option o (filter_map f rows)) (h r) ∙ ap (cons_option (g r)) (same_given f g rows h)

pub pairs_unmoved : (query : Query) (item : Aggregate) (frame : Frame) (known : Knowledge) (c : ℕ) (bits : List Bool) → query.shape ≡ Plain → is_moved query c item ≡ false →
    pairs query item [] frame (taken known c bits) ≡ pairs query item [] frame known
pairs_unmoved query item frame known c bits plain h =
    same_given _ _ (rows_of frame) (λ row. pair_alike c (ranges_of frame (taken known c bits) row) (ranges_of frame known row) (ranges_alike frame known c bits row) query item plain h)
