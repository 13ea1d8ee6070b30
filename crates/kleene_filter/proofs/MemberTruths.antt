-- Levels of listed numbers, plane by plane, and what they tell of a row's number.
use Rattle.std.proofs.Common.{◌≡◌, ℕ, zero, suc, ℤ, ◌+◌, ◌<◌, ◌≤ℤ◌, Bool, true, false, ◌&&◌, ◌||◌, inl, inr, List, [], ◌∷◌, ◌++◌, length, take, set, get_or, IsTrue, refl, ap, sym, subst, ◌∙◌, arith}
use Rattle.std.specs.Prelude.{int_le}
use Rattle.std.specs.List.{list_any, list_all, Any}
use Rattle.std.specs.Ordering.{int_eq}
use Rattle.std.proofs.lemmas.Bool.{cases_Bool, and_parts, eq-eqb, or_cases, or_left, or_right, true≢false}
use Rattle.std.proofs.lemmas.Int.{ints}
use Rattle.std.proofs.lemmas.List.Folds.{Any-from_list_any, list_any-append, list_any_at, list_any_more}
use Rattle.interval_calc.specs.Intervals.{Interval, Within, numbers_in}
use Rattle.daq_table.specs.declared.head.Ends.{Ends}
use Rattle.query_model.specs.declared.bounds.Truth.{Truth}
use Rattle.query_model.specs.declared.bounds.Truth.TheVariants.{False, Unknown, True}
use Rattle.query_model.specs.Knowledge.{IsLegal, null_with, prefix_of, range_of}
use Rattle.query_model.specs.Meaning.{among, between}
use Rattle.query_model.specs.Truths.{is_false, may_be_number, truth_from, truth_over}
use Rattle.query_model.proofs.Blocks.{range_ordered}
use Rattle.query_model.proofs.Numbers.{all_at, any_found, from_numbers, in_numbers, low_within}
use Rattle.known_column.specs.Columns.{KnownColumn, missing_at, numbers_at, rows_of_column}
use Rattle.known_column.specs.RowBlocks.{IsKnownColumn}
use Rattle.kleene_filter.specs.declared.members.Level.{Level}
use Rattle.kleene_filter.specs.Members.{has_level, is_at_level, HasLevels, HaveRow, IsLevel}
use Rattle.kleene_filter.specs.Parted.{cell_with, is_level, IsBetweenEnds}
use Rattle.kleene_filter.proofs.Parting.{length_where, row_where}
use Rattle.kleene_filter.proofs.SideTruths.{has_prefix}
use Rattle.kleene_filter.proofs.TestsByEnds.{and_true, eq_holds, le_is}

-- ---- what is known of a list's numbers

-- where some number of a range may be listed, one is
some_listed : (i : Interval) (values : List ℤ) → i.low ≤ℤ i.high → is_false (truth_over i (among values)) ≡ false → (x : ℤ) × Within i x × (among values x ≡ true)
unfolding truth_over
some_listed i values o h =
    elim (cases_Bool (list_all (among values) (numbers_in i))) [
      | inl all ↦ (i.low, low_within i o, all_at (among values) (numbers_in i) i.low all (in_numbers i i.low (low_within i o)))
      | inr not_all ↦ (let found = any_found (among values) (numbers_in i) (any_is _ _ not_all h) in (found.0, from_numbers i found.0 o found.1, found.2))
    ]
  where
    any_is : (a s : Bool) → a ≡ false → is_false (truth_from a s) ≡ false → s ≡ true
    any_is true s e h = absurd (true≢false e)
    any_is false true e h = refl
    any_is false false e h = absurd (true≢false h)

-- ---- what the levels tell of a row

pub have_row : (column : KnownColumn) (values : List ℤ) (levels : List Level) (row : ℕ) → HasLevels column values levels → row < rows_of_column column → HaveRow row levels
have_row column values levels row has below = λ k d inside.
    let level = get_or levels k d in
    let same = length_where (is_level level.number) column level.rows (has.each k d inside).rows in
    omega arith

-- a number of the range of a prefix has the prefix of the number that it is
has_level_prefix : (ends : Ends) (read p : ℕ) (x number : ℤ) → IsLegal ends read p → IsTrue (may_be_number (null_with ends read p)) → Within (range_of ends read p).numbers x → int_eq x number ≡ true → is_level number ends read p ≡ true
has_level_prefix ends read p x number legal some w e =
    eq-eqb p (prefix_of ends read (cell_with number ends)) (sym (has_prefix ends read p x legal some w) ∙ ap (λ n. prefix_of ends read (cell_with n ends)) (eq_holds x number e))

level_is : (column : KnownColumn) (values : List ℤ) (levels : List Level) (k : ℕ) (level : Level) → HasLevels column values levels → k < length levels → get_or levels k level ≡ level → IsLevel column values level
level_is column values levels k level has inside same = subst (IsLevel column values) same (has.each k level inside)

module _ (column : KnownColumn) (values : List ℤ) (levels : List Level) (row : ℕ) (has : HasLevels column values levels) (known : IsKnownColumn column) (below : row < rows_of_column column)
    (some : IsTrue (may_be_number (missing_at column row))) where
  abbrev pub truth : Truth
  truth = truth_over (numbers_at column row) (among values)

  -- the row is one of a level at which as much is known as at the row
  own_level : is_false truth ≡ false → Any (λ (level : Level). (get_or level.rows row false ≡ true) × (truth ≡ level.truth)) levels
  own_level h =
      let p = get_or column.known.prefixes row 0 in
      let i = (range_of column.ends column.known.read p).numbers in
      let legal = known.legal row 0 below in
      let listed = some_listed i values (range_ordered column.ends column.known.read p legal) h in
      let x = listed.0 in
      let w = listed.1 in
      let above = w.above in let up = w.below in
      let order = column.ends.ordered in
      let base : column.ends.base ≤ℤ i.low = omega (arith, ints) in
      let top : i.high ≤ℤ column.ends.top = omega (arith, ints) in
      let found = Any-from_list_any (λ (level : Level). int_eq x level.number) levels (has.has x listed.2 (record { above = omega (arith, ints); below = omega (arith, ints) })) in
      let level = found.1 in
      let is : IsLevel column values level = level_is column values levels found.0 level has found.2 found.3 in
      let here : get_or level.rows row false ≡ true = row_where (is_level level.number) column level.rows row is.rows below ∙ has_level_prefix column.ends column.known.read p x level.number legal some w found.4 in
      (found.0, level, found.2, found.3, (here, is.truth row below here))

  -- a test of what is known there, which False does not pass
  pub told_by_levels : (test : Truth → Bool) → test False ≡ false → list_any (is_at_level test row) levels ≡ test truth
  told_by_levels test never =
      elim (cases_Bool (list_any (is_at_level test row) levels)) [
        | inl t ↦ (let found = Any-from_list_any (is_at_level test row) levels t in
            let level = found.1 in
            let is : IsLevel column values level = level_is column values levels found.0 level has found.2 found.3 in
            let parts = and_parts (test level.truth) (get_or level.rows row false) found.4 in
            t ∙ sym (ap test (is.truth row below parts.1) ∙ parts.0))
        | inr f ↦ elim (cases_Bool (test truth)) [
          | inl t ↦ (let own = own_level (not_false truth t) in
              let level = own.1 in
              let passes : is_at_level test row level ≡ true = and_true (test level.truth) (get_or level.rows row false) (ap test (sym own.4.1) ∙ t) own.4.0 in
              absurd (true≢false (sym (list_any_at (is_at_level test row) levels own.0 level own.2 (ap (is_at_level test row) own.3 ∙ passes)) ∙ f)))
          | inr g ↦ f ∙ sym g
        ]
      ]
    where
      not_false : (t : Truth) → test t ≡ true → is_false t ≡ false
      not_false False e = absurd (true≢false (sym e ∙ never))
      not_false Unknown e = refl
      not_false True e = refl

-- ---- the levels, one by one

-- each of the first listed numbers has its level, if the column may have it
abbrev pub HasUpTo : KnownColumn → List ℤ → ℕ → List Level → Type 0
HasUpTo column values count levels = (number : ℤ) → among (take count values) number ≡ true → IsBetweenEnds column.ends number → has_level levels number ≡ true

-- the number behind them gets its level, or the column may not have it
pub level_added : (column : KnownColumn) (values : List ℤ) (count : ℕ) (levels : List Level) (level : Level) (d : ℤ) → count < length values → level.number ≡ get_or values count d → HasUpTo column values count levels →
    HasUpTo column values (count + 1) (levels ++ level ∷ [])
level_added column values count levels level d within same has number listed inside =
    let own = λ (l : Level). int_eq number l.number in
    list_any-append own levels (level ∷ [])
    ∙ elim (or_cases (among (take count values) number) (int_eq number (get_or values count d)) (sym (list_any_more (λ v. int_eq number v) values count d within) ∙ listed)) [
      | inl before ↦ or_left (has_level levels number) (has_level (level ∷ []) number) (has number before inside)
      | inr here ↦ or_right (has_level levels number) (has_level (level ∷ []) number) (or_left (int_eq number level.number) false (ap (int_eq number) same ∙ here))
    ]

pub level_passed : (column : KnownColumn) (values : List ℤ) (count : ℕ) (levels : List Level) (d : ℤ) → count < length values → between column.ends.base column.ends.top (get_or values count d) ≡ false → HasUpTo column values count levels →
    HasUpTo column values (count + 1) levels
level_passed column values count levels d within past has number listed inside =
    elim (or_cases (among (take count values) number) (int_eq number (get_or values count d)) (sym (list_any_more (λ v. int_eq number v) values count d within) ∙ listed)) [
      | inl before ↦ has number before inside
      | inr here ↦ (let own = and_true (int_le column.ends.base number) (int_le number column.ends.top) (le_is column.ends.base number inside.above) (le_is number column.ends.top inside.below) in
          absurd (true≢false (sym own ∙ ap (λ n. int_le column.ends.base n && int_le n column.ends.top) (eq_holds number (get_or values count d) here) ∙ past)))
    ]

pub same_level : (levels : List Level) (k : ℕ) (new d : Level) (number : ℤ) → new.number ≡ (get_or levels k d).number → k < length levels → has_level (set levels k new) number ≡ has_level levels number
same_level [] k new d number e h = refl
same_level (level ∷ levels) zero new d number e h = ap (λ n. int_eq number n || has_level levels number) e
same_level (level ∷ levels) (suc k) new d number e h = ap (λ b. int_eq number level.number || b) (same_level levels k new d number e (omega arith))
