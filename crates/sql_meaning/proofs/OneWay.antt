-- An expression that each column moves one way, as it is written, is typed as one that each column moves one way.
use Rattle.std.proofs.Common.{◌≡◌, ℕ, zero, suc, ◌-◌, ◌^◌, cond, not, ◌⊎◌, Bool, true, false, ℤ, pos, ◌≤ℤ◌, List, [], Option, Some, None, IsTrue, IsFalse, inl, inr, refl, sym, ap, subst, ◌∙◌, arith, slice_get}
use Rattle.std.proofs.lemmas.Int.{ints}
use Rattle.std.specs.Prelude.{int_lt}
use Rattle.std.specs.Cmp.{int_ranks}
use Rattle.std.specs.List.{AllByRecursion}
use Rattle.std.specs.Ordering.{int_cmp, is_gt}
use Rattle.daq_table.specs.Tables.{Frame, ends_at, frame_of, no_ends}
use Rattle.daq_table.specs.declared.head.ColumnHead.{ColumnHead}
use Rattle.daq_table.specs.declared.head.Ends.{Ends}
use Rattle.daq_table.specs.declared.head.Kind.TheVariants.{Int}
use Rattle.daq_table.specs.declared.table_head.Head.{Head}
use Rattle.query_model.specs.Attaining as typed
use Rattle.query_model.specs.Laws.{NoneEmpty}
use Rattle.query_model.specs.Meaning as meaning
use Rattle.query_model.specs.Meaning.{val}
use Rattle.query_model.specs.Projection.{projected_frame}
use Rattle.query_model.specs.Queries.{Query, Term, Column, Literal, Add, Sub, Mul}
use Rattle.query_model.specs.Truths.{Ranges, may_be_number, null_of, one_null, span_of}
use Rattle.query_model.specs.Validity.{declared_range, declared_ranges}
use Rattle.query_model.specs.declared.bounds.Nullity.{Nullity}
use Rattle.query_model.specs.declared.bounds.Nullity.TheVariants.{Never, Possibly, Always}
use Rattle.query_model.proofs.Members.{high_value, low_value}
use Rattle.query_model.proofs.OneWay.{has_ends, moved}
use Rattle.sql_text.specs.declared.tree.CallKind.{CallKind}
use Rattle.sql_text.specs.declared.tree.CallKind.TheVariants as calls
use Rattle.sql_text.specs.Tree as tree
use Rattle.sql_text.specs.Tree.{Expr, Item, Name}
use Rattle.sql_typing.specs.Faults.{argument_fault, expr_fault}
use Rattle.sql_typing.specs.Kinds.{is_number, scale_of_kind}
use Rattle.sql_typing.specs.Names.{dictionary_at, kind_at, kind_of, names_in_expr, number_of, place_of}
use Rattle.sql_typing.specs.Typing as typing
use Rattle.sql_typing.specs.Typing.{literal_of, multiplied, raised, scale_of, typed_call, typed_expr, typed_item, whole_column}
use Rattle.sql_typing.proofs.Alls.{all_join, all_left, all_right, all_then}
use Rattle.sql_typing.proofs.Comparisons.{false_not}
use Rattle.sql_typing.proofs.Firsts.{none_first, none_later, not_if}
use Rattle.sql_meaning.specs.Answers.{is_after, whole}
use Rattle.sql_meaning.specs.Attained.{AreLevel, IsDeclared, IsNeverNegative, Moves}
use Rattle.sql_meaning.specs.Conditions.{Row}
use Rattle.sql_meaning.specs.Expressions.{value}
use Rattle.sql_meaning.specs.Rows.{value_of}
use Rattle.sql_meaning.specs.Values.{Decimal, Value, Number, unless_null}
use Rattle.sql_meaning.proofs.Amounts.{IsAmount, expr_means, number_of_kind}
use Rattle.sql_meaning.proofs.Decimals.{IsDecimal, ordered}
use Rattle.sql_meaning.proofs.Named.{IsNamed, mapped}
use Rattle.sql_meaning.proofs.Names.{IsKnown}
use Rattle.sql_meaning.proofs.Spots.{more_by}

-- ---- numbers that are not below 0

not_below : (x : ℤ) → int_lt x (pos 0) ≡ false → pos 0 ≤ℤ x
not_below x e = grind (arith, ints)

nothing : (s : ℕ) → IsDecimal s (pos 0) (record { digits = pos 0; behind = 0 })
nothing s = omega (arith, ints)

never_below : (s : ℕ) (x : ℤ) (d : Decimal) → IsDecimal s x d → IsFalse (is_after (whole 0) (Number d)) → pos 0 ≤ℤ x
never_below s x d h e =
    let order = ordered s (pos 0) x (record { digits = pos 0; behind = 0 }) d (nothing s) h in
    not_below x (more_by (pos 0) x (int_cmp (pos 0) x) (int_ranks (pos 0) x) ∙ ap is_gt (sym order) ∙ e)

-- ---- what is declared

both_may : (v w : Nullity) → IsTrue (may_be_number v) → IsTrue (may_be_number w) → IsTrue (may_be_number (one_null v w))
both_may Never w h k = k
both_may Possibly Never h k = refl
both_may Possibly Possibly h k = refl
both_may Possibly Always h k = k
both_may Always w h k = h

declared_may : (ends : Ends) → IsTrue (may_be_number (declared_range ends).null)
declared_may ends = by ends.nullable
  where
    by : (b : Bool) → IsTrue (may_be_number (cond b Possibly Never))
    by true = refl
    by false = refl

abbrev pub name_of_column : Option ColumnHead → List ℕ
name_of_column None = []
name_of_column (Some column) = column.name

module _ (head : Head) (query : Query) (ways : List ℕ → Bool) where
  abbrev frame : Frame
  frame = projected_frame query (frame_of head)

  abbrev ranges : Ranges
  ranges = declared_ranges frame

  -- the way of a column of the query is that of its name
  abbrev pub ways_at : ℕ → Bool
  ways_at c = ways (name_of_column (unless_null (slice_get head.columns) (slice_get query.columns c)))

  abbrev number : Name → ℕ
  number n = number_of head.columns query.columns n.name

  abbrev Known : Name → Type 0
  Known = IsKnown head.columns query.columns

  way_is : (n : Name) → Known n → ways_at (number n) ≡ ways n.name
  way_is n known = ap (λ o. ways (name_of_column o)) (ap (unless_null (slice_get head.columns)) known.number ∙ known.at) ∙ ap ways known.named

  none_empty : NoneEmpty ranges
  none_empty c = (ends_at frame c).ordered

  may : (t : Term) → IsTrue (may_be_number (null_of t ranges))
  may (Column c) = declared_may (ends_at frame c)
  may (Literal x) = refl
  may (Add a b) = both_may (null_of a ranges) (null_of b ranges) (may a) (may b)
  may (Sub a b) = both_may (null_of a ranges) (null_of b ranges) (may a) (may b)
  may (Mul a b) = both_may (null_of a ranges) (null_of b ranges) (may a) (may b)

  -- ---- rows of ends

  -- the row has a number within what is declared in each column
  record IsNumber (ends : Ends) (o : Option ℤ) : Type 0 where
    z : ℤ
    is : o ≡ Some z
    low : ends.base ≤ℤ z
    high : z ≤ℤ ends.top

  low_number : (ends : Ends) → IsNumber ends (low_value (declared_range ends))
  low_number ends = record { z = ends.base; is = by ends.nullable; low = omega (arith, ints); high = ends.ordered }
    where
      by : (b : Bool) → ◌≡◌ {A = Option ℤ} (cond (may_be_number (cond b Possibly Never)) (Some ends.base) None) (Some ends.base)
      by true = refl
      by false = refl

  high_number : (ends : Ends) → IsNumber ends (high_value (declared_range ends))
  high_number ends = record { z = ends.top; is = by ends.nullable; low = ends.ordered; high = omega (arith, ints) }
    where
      by : (b : Bool) → ◌≡◌ {A = Option ℤ} (cond (may_be_number (cond b Possibly Never)) (Some ends.top) None) (Some ends.top)
      by true = refl
      by false = refl

  abbrev AreNumbers : meaning.Row → Type 0
  AreNumbers w = (c : ℕ) → IsNumber (ends_at frame c) (w c)

  chosen : (b : Bool) (ends : Ends) → IsNumber ends (cond b (high_value (declared_range ends)) (low_value (declared_range ends)))
  chosen true ends = high_number ends
  chosen false ends = low_number ends

  module _ (w : meaning.Row) (numbers : AreNumbers w) where
    -- its values
    abbrev row : Row
    row name = value_of (unless_null (slice_get head.columns) (place_of head.columns name)) (w (number_of head.columns query.columns name))

    in_column : (n : Name) (known : Known n) → row n.name ≡ value_of (Some known.column) (w (number n))
    in_column n known = ap (λ o. value_of o (w (number n))) (ap (unless_null (slice_get head.columns)) known.found ∙ known.at)

    kind_is : (n : Name) (known : Known n) → kind_of head.columns n.name ≡ known.column.kind
    kind_is n known = ap (kind_at head.columns) known.found ∙ mapped (λ h. h.kind) head.columns known.place known.column Int known.at

    named : (n : Name) → Known n → is_number (kind_of head.columns n.name) ≡ true → IsNamed head.columns query.columns w row n
    named n known numeric = record {
      column = known.column;
      kind = kind_is n known;
      names = ap (dictionary_at head.columns) known.found ∙ mapped (λ h. h.names) head.columns known.place known.column [] known.at;
      value = in_column n known;
      stands = λ z e. (Number (record { digits = z; behind = scale_of_kind known.column.kind }), number_of_kind known.column.kind known.column.names z (ap is_number (sym (kind_is n known)) ∙ numeric));
    }

    abbrev IsDeclaredAt : Name → Type 0
    IsDeclaredAt n = (v : Value) × (row n.name ≡ Some v) × IsDeclared head n v

    declared : (n : Name) → Known n → is_number (kind_of head.columns n.name) ≡ true → IsDeclaredAt n
    declared n known numeric =
        let is = numbers (number n) in
        let stands = number_of_kind known.column.kind known.column.names is.z (ap is_number (sym (kind_is n known)) ∙ numeric) in
        let ends : ends_at frame (number n) ≡ ends_at (frame_of head) known.place = mapped (ends_at (frame_of head)) query.columns (number n) known.place no_ends known.number in
        let at : value_of (slice_get head.columns known.place) (Some is.z) ≡ Some (Number (record { digits = is.z; behind = scale_of_kind known.column.kind })) = ap (λ o. value_of o (Some is.z)) known.at ∙ stands in (
          Number (record { digits = is.z; behind = scale_of_kind known.column.kind }),
          in_column n known ∙ ap (value_of (Some known.column)) is.is ∙ stands,
          record {
            can = record { place = known.place; number = is.z; named = known.found; is = at };
            low = subst (λ (e : Ends). e.base ≤ℤ is.z) ends is.low;
            high = subst (λ (e : Ends). is.z ≤ℤ e.top) ends is.high;
          },
        )

    all_named : (e : Expr) → expr_fault head.columns e ≡ None → AllByRecursion Known (names_in_expr e) → AllByRecursion (λ n. IsNamed head.columns query.columns w row n × IsDeclaredAt n) (names_in_expr e)
    all_named (tree.Column n) fine known =
        let numeric = false_not (is_number (kind_of head.columns n.name)) (not_if _ _ (none_first _ _ fine)) in
        ((named n known.0 numeric, declared n known.0 numeric), tt)
    all_named (tree.Number v) fine known = tt
    all_named (tree.Add a b) fine known =
        all_join _ (names_in_expr a) (names_in_expr b) (all_named a (none_first _ _ fine) (all_left _ (names_in_expr a) (names_in_expr b) known)) (all_named b (none_later _ _ fine) (all_right _ (names_in_expr a) (names_in_expr b) known))
    all_named (tree.Sub a b) fine known =
        all_join _ (names_in_expr a) (names_in_expr b) (all_named a (none_first _ _ fine) (all_left _ (names_in_expr a) (names_in_expr b) known)) (all_named b (none_later _ _ fine) (all_right _ (names_in_expr a) (names_in_expr b) known))
    all_named (tree.Mul at a b) fine known =
        all_join _ (names_in_expr a) (names_in_expr b) (all_named a (none_first _ _ fine) (all_left _ (names_in_expr a) (names_in_expr b) known))
        (all_named b (none_later _ _ (none_later _ _ fine)) (all_right _ (names_in_expr a) (names_in_expr b) known))

    -- what is never negative has no number below 0 at the row
    not_negative : (e : Expr) (z : ℤ) → expr_fault head.columns e ≡ None → AllByRecursion Known (names_in_expr e) → IsNeverNegative head e → val (typed_expr head.columns query.columns e) w ≡ Some z → pos 0 ≤ℤ z
    not_negative e z fine known never is =
        let all = all_named e fine known in
        let amount : IsAmount (scale_of head.columns e) (Some z) (value e row) =
        subst (λ o. IsAmount (scale_of head.columns e) o (value e row)) is
        (expr_means head.columns query.columns w row e fine (all_then (λ n. IsNamed head.columns query.columns w row n × IsDeclaredAt n) (IsNamed head.columns query.columns w row) (λ n h. h.0) (names_in_expr e) all)) in
        never_below (scale_of head.columns e) z amount.0 amount.2
        (never row (all_then (λ n. IsNamed head.columns query.columns w row n × IsDeclaredAt n) IsDeclaredAt (λ n h. h.1) (names_in_expr e) all) (Number amount.0) amount.1)

  -- ---- expressions

  never_negative : (up : Bool) (e : Expr) → expr_fault head.columns e ≡ None → AllByRecursion Known (names_in_expr e) → typed.Moves ways_at up (typed_expr head.columns query.columns e) ranges → IsNeverNegative head e
      → pos 0 ≤ℤ (span_of (typed_expr head.columns query.columns e) ranges).low
  never_negative up e fine known moves never =
      let t = typed_expr head.columns query.columns e in
      let ends = has_ends ways_at up t ranges none_empty moves (may t) in
      not_negative (moved ways_at ranges (not up)) (λ c. chosen _ (ends_at frame c)) e (span_of t ranges).low fine known never ends.low

  raised_moves : (up : Bool) (d : ℕ) (t : Term) → typed.Moves ways_at up t ranges → (d ≡ 0) ⊎ (pos 0 ≤ℤ (span_of t ranges).low) → typed.Moves ways_at up (raised d t) ranges
  raised_moves up zero t m h = m
  raised_moves up (suc d) t m (inl e) = absurd cc
  raised_moves up (suc d) t m (inr low) = by t m low
    where
      by : (t : Term) → typed.Moves ways_at up t ranges → pos 0 ≤ℤ (span_of t ranges).low → typed.Moves ways_at up (multiplied (10 ^ suc d) (literal_of t) t) ranges
      by (Column c) m low = (m, tt, low, omega (arith, ints))
      by (Literal x) m low = tt
      by (Add a b) m low = (m, tt, low, omega (arith, ints))
      by (Sub a b) m low = (m, tt, low, omega (arith, ints))
      by (Mul a b) m low = (m, tt, low, omega (arith, ints))

  level : (up down : Bool) (a b : Expr) → expr_fault head.columns a ≡ None → expr_fault head.columns b ≡ None → AllByRecursion Known (names_in_expr a) → AllByRecursion Known (names_in_expr b) → AreLevel head a b
      → typed.Moves ways_at up (typed_expr head.columns query.columns a) ranges → typed.Moves ways_at down (typed_expr head.columns query.columns b) ranges
      → typed.Moves ways_at up (raised (scale_of head.columns b - scale_of head.columns a) (typed_expr head.columns query.columns a)) ranges
      × typed.Moves ways_at down (raised (scale_of head.columns a - scale_of head.columns b) (typed_expr head.columns query.columns b)) ranges
  level up down a b fine_a fine_b known_a known_b (inl same) m n = (
    raised_moves up (scale_of head.columns b - scale_of head.columns a) (typed_expr head.columns query.columns a) m (inl (omega (arith, same))),
    raised_moves down (scale_of head.columns a - scale_of head.columns b) (typed_expr head.columns query.columns b) n (inl (omega (arith, same))),
  )
  level up down a b fine_a fine_b known_a known_b (inr (first, second)) m n = (
    raised_moves up (scale_of head.columns b - scale_of head.columns a) (typed_expr head.columns query.columns a) m (inr (never_negative up a fine_a known_a m first)),
    raised_moves down (scale_of head.columns a - scale_of head.columns b) (typed_expr head.columns query.columns b) n (inr (never_negative down b fine_b known_b n second)),
  )

  pub moves : (up : Bool) (e : Expr) → Moves head ways up e → expr_fault head.columns e ≡ None → AllByRecursion Known (names_in_expr e) → typed.Moves ways_at up (typed_expr head.columns query.columns e) ranges
  moves up (tree.Column n) m fine known = way_is n known.0 ∙ m
  moves up (tree.Number v) m fine known = tt
  moves up (tree.Add a b) m fine known =
      let known_a = all_left Known (names_in_expr a) (names_in_expr b) known in
      let known_b = all_right Known (names_in_expr a) (names_in_expr b) known in
      let fine_a = none_first (expr_fault head.columns a) (expr_fault head.columns b) fine in
      let fine_b = none_later (expr_fault head.columns a) (expr_fault head.columns b) fine in
      level up up a b fine_a fine_b known_a known_b m.2 (moves up a m.0 fine_a known_a) (moves up b m.1 fine_b known_b)
  moves up (tree.Sub a b) m fine known =
      let known_a = all_left Known (names_in_expr a) (names_in_expr b) known in
      let known_b = all_right Known (names_in_expr a) (names_in_expr b) known in
      let fine_a = none_first (expr_fault head.columns a) (expr_fault head.columns b) fine in
      let fine_b = none_later (expr_fault head.columns a) (expr_fault head.columns b) fine in
      level up (not up) a b fine_a fine_b known_a known_b m.2 (moves up a m.0 fine_a known_a) (moves (not up) b m.1 fine_b known_b)
  moves up (tree.Mul at a b) m fine known =
      let known_a = all_left Known (names_in_expr a) (names_in_expr b) known in
      let known_b = all_right Known (names_in_expr a) (names_in_expr b) known in
      let fine_a = none_first _ _ fine in
      let fine_b = none_later _ _ (none_later _ _ fine) in
      let first = moves up a m.0 fine_a known_a in
      let second = moves up b m.1 fine_b known_b in
      (first, second, never_negative up a fine_a known_a first m.2, never_negative up b fine_b known_b second m.3)

  -- the argument of a call
  no_column : (kind : CallKind) (e : Expr) → typing.bare_column e ≡ None → argument_fault head.columns (whole_column kind e) e ≡ None → expr_fault head.columns e ≡ None
  no_column calls.Sum e none fine = fine
  no_column calls.Avg e none fine = fine
  no_column calls.Min e none fine = subst (λ o. argument_fault head.columns o e ≡ None) none fine
  no_column calls.Max e none fine = subst (λ o. argument_fault head.columns o e ≡ None) none fine
  no_column calls.Count e none fine = subst (λ o. argument_fault head.columns o e ≡ None) none fine

  pub argument_moves : (kind : CallKind) (e : Expr) → Moves head ways true e → argument_fault head.columns (whole_column kind e) e ≡ None → AllByRecursion Known (names_in_expr e) → typed.Moves ways_at true (typed_expr head.columns query.columns e) ranges
  argument_moves kind (tree.Column n) m fine known = way_is n known.0 ∙ m
  argument_moves kind (tree.Number v) m fine known = tt
  argument_moves kind (tree.Add a b) m fine known = moves true (tree.Add a b) m (no_column kind (tree.Add a b) refl fine) known
  argument_moves kind (tree.Sub a b) m fine known = moves true (tree.Sub a b) m (no_column kind (tree.Sub a b) refl fine) known
  argument_moves kind (tree.Mul at a b) m fine known = moves true (tree.Mul at a b) m (no_column kind (tree.Mul at a b) refl fine) known
