-- What attains its ends as it is written does so as it is typed.
use Rattle.std.proofs.Common.{◌≡◌, ℕ, suc, ◌-◌, ◌^◌, ◌<◌, ◌==◌, cond, not, ◌||◌, Bool, true, false, ℤ, pos, ◌*ℤ◌, List, [], ◌∷◌, ◌++◌, map, filter, length, Option, Some, None, IsTrue, IsFalse, inl, inr, refl, sym, ap, subst, ◌∙◌, arith, slice_get, if◌then◌else◌}
use Rattle.std.proofs.lemmas.Bool.{false≢true, true≢false, or_cases}
use Rattle.std.proofs.lemmas.List.{append-nil, map-append}
use Rattle.std.proofs.lemmas.List.Elements.{filter-append}
use Rattle.std.proofs.lemmas.List.Folds.{list_any-append}
use Rattle.std.proofs.lemmas.Grind.{flat_map-append}
use Rattle.std.proofs.lemmas.Option.{none-some, same_Some}
use Rattle.std.proofs.lemmas.Slice.Eq.{bytes_eq-Decides}
use Rattle.std.specs.Prelude.{AllPairs, flat_map, slice_index_or}
use Rattle.std.specs.List.{AllByRecursion, AllZip, list_any}
use Rattle.std.specs.Str.{bytes_eq}
use Rattle.daq_table.specs.Tables.{frame_of}
use Rattle.daq_table.specs.declared.head.ColumnHead.{ColumnHead}
use Rattle.daq_table.specs.CellTexts.{date_value}
use Rattle.daq_table.specs.declared.head.Kind.{Kind}
use Rattle.daq_table.specs.declared.head.Kind.TheVariants.{Int}
use Rattle.daq_table.specs.declared.table_head.Head.{Head}
use Rattle.query_model.specs.Answers.{groups_of}
use Rattle.query_model.specs.Attaining as attaining
use Rattle.query_model.specs.Attaining.{AllMeet, AttainsTruths, NoneShared, beside_ranges, ranges_in}
use Rattle.query_model.specs.Meaning as meaning
use Rattle.query_model.specs.Meaning.{atom_truth, columns_of, columns_of_atom, columns_of_pred}
use Rattle.query_model.specs.Queries.{Aggregate, Condition, Query, Single}
use Rattle.query_model.specs.Truths.{Ranges}
use Rattle.query_model.specs.Projection.{projected_frame}
use Rattle.query_model.specs.Validity.{declared_ranges, no_repeats}
use Rattle.query_model.specs.declared.query.Atom.{Atom}
use Rattle.query_model.specs.declared.query.Atom.TheVariants as atoms
use Rattle.query_model.proofs.Rows.{AreApart, here_read, no_repeats_parts}
use Rattle.sql_text.specs.declared.tree.Comparison.{Comparison}
use Rattle.sql_text.specs.declared.tree.Comparison.TheVariants as cmps
use Rattle.sql_text.specs.Tree as tree
use Rattle.sql_text.specs.Tree.{Ending, Item, Name, Operand, Pred}
use Rattle.sql_typing.specs.Faults.{filter_fault, pred_fault}
use Rattle.sql_typing.specs.Kinds.{is_day, scale_of_kind}
use Rattle.sql_typing.specs.Names.{dictionary_at, dictionary_of, kind_at, kind_of, names_in_ending, names_in_filter, names_in_item, names_in_pred, number_of, place_of}
use Rattle.sql_typing.specs.Refusals.{IsTyped}
use Rattle.sql_typing.specs.Typing as typing
use Rattle.sql_typing.specs.Typing.{compared, compared_before, is_name, names_below, op_of, spot_in, spot_of, typed_call, typed_expr, typed_filter, typed_pred}
use Rattle.sql_typing.proofs.Alls.{all_join, all_left, all_right, all_then}
use Rattle.sql_typing.proofs.Clean.{clean}
use Rattle.sql_typing.proofs.Comparisons.{same_number}
use Rattle.sql_typing.proofs.Firsts.{none_first, none_later}
use Rattle.sql_meaning.specs.Answers.{grouping}
use Rattle.sql_meaning.specs.Attained.{AttainsEnds, AttainsKeys, CanHave, GoesOneWay, Meet, is_range, joined, joined_in, names_differ, names_of_rows, with_names}
use Rattle.sql_meaning.specs.Conditions.{truth}
use Rattle.sql_meaning.specs.Laws.{AttainedEndsMeanTheirTrees, IsAsked}
use Rattle.sql_meaning.specs.Rows.{value_of}
use Rattle.sql_meaning.specs.Values.{Value}
use Rattle.sql_meaning.proofs.Named.{IsNamed, mapped}
use Rattle.sql_meaning.proofs.Names.{IsKnown, any_alike, groups_are, one_name, with_all}
use Rattle.sql_meaning.proofs.Once.{both_read, differ, filter_reads, in_ending, fine_is, in_filter, in_item, item_is, pred_reads}
use Rattle.sql_meaning.proofs.OneWay.{argument_moves, ways_at}
use Rattle.sql_meaning.proofs.Shares.{typed_as}
use Rattle.sql_meaning.proofs.Truths.{pred_means}

-- ---- lists

abbrev names_of : List Pred → List Name
names_of ps = flat_map names_in_pred ps

each : {A : Type 0} (P : A → Type 0) (xs : List A) → ((j : ℕ) (d : A) → j < length xs → P (slice_index_or xs j d)) → AllByRecursion P xs
each P [] h = tt
each P (x ∷ xs) h = (h 0 x (omega arith), each P xs (λ j d lt. h (suc j) d (omega (arith, lt))))

first_pairs : {A : Type 0} (R : A → A → Type 0) (x : A) (xs : List A) → AllPairs R (x ∷ xs) → AllByRecursion (R x) xs
first_pairs R x xs h = each (R x) xs (λ j d lt. h 0 (suc j) d (omega arith) (omega (arith, lt)))

later_pairs : {A : Type 0} (R : A → A → Type 0) (x : A) (xs : List A) → AllPairs R (x ∷ xs) → AllPairs R xs
later_pairs R x xs h i j d lt within = h (suc i) (suc j) d (omega (arith, lt)) (omega (arith, within))

zip_join : {A B : Type 0} (R : A → B → Type 0) (xs ys : List A) (us vs : List B) → AllZip R xs us → AllZip R ys vs → AllZip R (xs ++ ys) (us ++ vs)
zip_join R [] ys [] vs h k = k
zip_join R [] ys (u ∷ us) vs h k = absurd h
zip_join R (x ∷ xs) ys [] vs h k = absurd h
zip_join R (x ∷ xs) ys (u ∷ us) vs h k = (h.0, zip_join R xs ys us vs h.1 k)

-- ---- names in lists

abbrev pub is_there : List ℕ → List Name → Bool
is_there name ns = list_any (λ m. bytes_eq name m.name) ns

pub or_right_is : (a b : Bool) → b ≡ true → (a || b) ≡ true
or_right_is true b e = refl
or_right_is false b e = e

pub or_left_is : (a b : Bool) → a ≡ true → (a || b) ≡ true
or_left_is true b e = refl
or_left_is false b e = absurd (false≢true e)

pub there_left : (name : List ℕ) (xs ys : List Name) → is_there name xs ≡ true → is_there name (xs ++ ys) ≡ true
there_left name xs ys e = list_any-append (λ (m : Name). bytes_eq name m.name) xs ys ∙ or_left_is (is_there name xs) (is_there name ys) e

pub there_right : (name : List ℕ) (xs ys : List Name) → is_there name ys ≡ true → is_there name (xs ++ ys) ≡ true
there_right name xs ys e = list_any-append (λ (m : Name). bytes_eq name m.name) xs ys ∙ or_right_is (is_there name xs) (is_there name ys) e

pub same_bytes : (name : List ℕ) → bytes_eq name name ≡ true
same_bytes name = (bytes_eq-Decides name name).1 refl

-- what is there stays there
stays : (name : List ℕ) (seen ns : List Name) → is_there name seen ≡ true → is_there name (with_names seen ns) ≡ true
stays name seen [] h = h
stays name seen (n ∷ ns) h = by (is_there n.name seen) (stays name seen ns h) (stays name (seen ++ n ∷ []) ns (there_left name seen (n ∷ []) h))
  where
    by : (b : Bool) → is_there name (with_names seen ns) ≡ true → is_there name (with_names (seen ++ n ∷ []) ns) ≡ true → is_there name (with_names (if b then seen else seen ++ n ∷ []) ns) ≡ true
    by true h k = h
    by false h k = k

-- each of the names is there once
all_kept : (seen ns : List Name) → AllByRecursion (λ n. is_there n.name (with_names seen ns) ≡ true) ns
all_kept seen [] = tt
all_kept seen (n ∷ ns) = (by (is_there n.name seen) refl, all_kept (if is_there n.name seen then seen else seen ++ n ∷ []) ns)
  where
    by : (b : Bool) → is_there n.name seen ≡ b → is_there n.name (with_names (if b then seen else seen ++ n ∷ []) ns) ≡ true
    by true e = stays n.name seen ns e
    by false e = stays n.name (seen ++ n ∷ []) ns (there_right n.name seen (n ∷ []) (or_left_is (bytes_eq n.name n.name) false (same_bytes n.name)))

all_there : (ns : List Name) → AllByRecursion (λ n. is_there n.name ns ≡ true) ns
all_there [] = tt
all_there (n ∷ ns) = (
  or_left_is (bytes_eq n.name n.name) (is_there n.name ns) (same_bytes n.name),
  all_then (λ m. is_there m.name ns ≡ true) (λ m. is_there m.name (n ∷ ns) ≡ true) (λ m h. or_right_is (bytes_eq m.name n.name) (is_there m.name ns) h) ns (all_there ns),
)

-- ---- conditions, as those that AND joins

-- what holds of the names of the ranges and of the others holds of all
gather : (P : Name → Type 0) (a : Pred) → AllByRecursion P (names_of (filter is_range (joined a))) → AllByRecursion P (names_of (filter (λ b. not (is_range b)) (joined a))) → AllByRecursion P (names_in_pred a)
gather P (tree.Both a b) h k =
    let ranges = subst (AllByRecursion P) (ap names_of (filter-append is_range (joined a) (joined b)) ∙ flat_map-append names_in_pred (filter is_range (joined a)) (filter is_range (joined b))) h in
    let others = subst (AllByRecursion P) (ap names_of (filter-append (λ c. not (is_range c)) (joined a) (joined b)) ∙ flat_map-append names_in_pred (filter (λ c. not (is_range c)) (joined a)) (filter (λ c. not (is_range c)) (joined b))) k in
    all_join P (names_in_pred a) (names_in_pred b)
    (gather P a (all_left P (names_of (filter is_range (joined a))) _ ranges) (all_left P (names_of (filter (λ c. not (is_range c)) (joined a))) _ others))
    (gather P b (all_right P (names_of (filter is_range (joined a))) _ ranges) (all_right P (names_of (filter (λ c. not (is_range c)) (joined a))) _ others))
gather P (tree.Compare n op v) h k = by (is_range (tree.Compare n op v)) h k
  where
    by : (b : Bool) → AllByRecursion P (names_of (cond b (tree.Compare n op v ∷ []) [])) → AllByRecursion P (names_of (cond (not b) (tree.Compare n op v ∷ []) [])) → AllByRecursion P (n ∷ [])
    by true h k = h
    by false h k = k
gather P (tree.Between n low high) h k = h
gather P (tree.Columns l op r) h k = k
gather P (tree.OneOf n vs) h k = k
gather P (tree.IsNull n) h k = k
gather P (tree.Negation a) h k = subst (AllByRecursion P) (append-nil (names_in_pred a)) k
gather P (tree.Either a b) h k = subst (AllByRecursion P) (append-nil (names_in_pred a ++ names_in_pred b)) k

-- and what holds of all holds of these
scatter : (P : Name → Type 0) (a : Pred) → AllByRecursion P (names_in_pred a) → AllByRecursion P (names_of (filter is_range (joined a))) × AllByRecursion P (names_of (filter (λ b. not (is_range b)) (joined a)))
scatter P (tree.Both a b) h =
    let left = scatter P a (all_left P (names_in_pred a) (names_in_pred b) h) in
    let right = scatter P b (all_right P (names_in_pred a) (names_in_pred b) h) in (
      subst (AllByRecursion P) (sym (ap names_of (filter-append is_range (joined a) (joined b)) ∙ flat_map-append names_in_pred (filter is_range (joined a)) (filter is_range (joined b))))
          (all_join P (names_of (filter is_range (joined a))) (names_of (filter is_range (joined b))) left.0 right.0),
      subst (AllByRecursion P) (sym (ap names_of (filter-append (λ c. not (is_range c)) (joined a) (joined b)) ∙ flat_map-append names_in_pred (filter (λ c. not (is_range c)) (joined a)) (filter (λ c. not (is_range c)) (joined b))))
          (all_join P (names_of (filter (λ c. not (is_range c)) (joined a))) (names_of (filter (λ c. not (is_range c)) (joined b))) left.1 right.1),
    )
scatter P (tree.Compare n op v) h = by (is_range (tree.Compare n op v))
  where
    by : (b : Bool) → AllByRecursion P (names_of (cond b (tree.Compare n op v ∷ []) [])) × AllByRecursion P (names_of (cond (not b) (tree.Compare n op v ∷ []) []))
    by true = (h, tt)
    by false = (tt, h)
scatter P (tree.Between n low high) h = (h, tt)
scatter P (tree.Columns l op r) h = (tt, h)
scatter P (tree.OneOf n vs) h = (tt, h)
scatter P (tree.IsNull n) h = (tt, h)
scatter P (tree.Negation a) h = (tt, subst (AllByRecursion P) (sym (append-nil (names_in_pred a))) h)
scatter P (tree.Either a b) h = (tt, subst (AllByRecursion P) (sym (append-nil (names_in_pred a ++ names_in_pred b))) h)

-- a list that is not empty names twice what it has, where it stands twice
stands_twice : (c : ℕ) (xs rest : List ℕ) → xs ≡ c ∷ rest → IsTrue (no_repeats (xs ++ xs)) → ⊥
stands_twice c xs rest e once =
    let apart = (no_repeats_parts xs xs once).2 in
    let here : IsTrue (list_any (λ y. c == y) xs) = subst (λ l. IsTrue (list_any (λ y. c == y) l)) (sym e) (here_read c rest) in
    true≢false (sym here ∙ apart c here)

module _ (head : Head) (columns : List ℕ) where
  abbrev number : Name → ℕ
  number n = number_of head.columns columns n.name

  -- an atom is what a range is typed as
  record IsTypedRange (x : Atom) (a : Pred) : Type 0 where
    is : typed_pred head.columns columns a ≡ Single x
    fine : pred_fault head.columns a ≡ None
    name : Name
    named : names_in_pred a ≡ name ∷ []
    known : IsKnown head.columns columns name

  range_reads : (x : Atom) (a : Pred) (t : IsTypedRange x a) → columns_of_atom x ≡ number t.name ∷ []
  range_reads x a t = ap columns_of_pred (sym t.is) ∙ pred_reads head.columns columns a ∙ ap (map number) t.named

  -- the ranges of a condition that is typed, and the columns of what stands beside them
  record IsSplit (c : Condition) (ps : List Pred) : Type 0 where
    ranges : AllZip IsTypedRange (ranges_in c) (filter is_range ps)
    beside : columns_of_pred (beside_ranges c) ≡ map number (names_of (filter (λ a. not (is_range a)) ps))

  range_split : (x : Atom) (a : Pred) → attaining.is_range x ≡ true → is_range a ≡ true → IsTypedRange x a → IsSplit (Single x) (a ∷ [])
  range_split x a e f t = record { ranges = rw (e, f) (t, tt); beside = rw (e, f) refl }

  other_split : (x : Atom) (a : Pred) → attaining.is_range x ≡ false → is_range a ≡ false → columns_of_atom x ≡ map number (names_in_pred a) → IsSplit (Single x) (a ∷ [])
  other_split x a e f reads = record { ranges = rw (e, f) tt; beside = rw (e, f) (reads ∙ ap (map number) (sym (append-nil (names_in_pred a)))) }

  at_is : (c : ℕ) (op : Comparison) (z : ℤ) (n : Name) (v : Operand) → attaining.is_range (atoms.Compare c (op_of op) z) ≡ is_range (tree.Compare n op v)
  at_is c cmps.Eq z n v = refl
  at_is c cmps.Ne z n v = refl
  at_is c cmps.Lt z n v = refl
  at_is c cmps.Le z n v = refl
  at_is c cmps.Gt z n v = refl
  at_is c cmps.Ge z n v = refl

  before_is : (c : ℕ) (op : Comparison) (p : ℕ) (n : Name) (v : Operand) → attaining.is_range (compared_before c op p) ≡ is_range (tree.Compare n op v)
  before_is c cmps.Eq p n v = refl
  before_is c cmps.Ne p n v = refl
  before_is c cmps.Lt p n v = refl
  before_is c cmps.Le p n v = refl
  before_is c cmps.Gt p n v = refl
  before_is c cmps.Ge p n v = refl

  range_is : (c : ℕ) (op : Comparison) (kind : Kind) (names : List (List ℕ)) (n : Name) (v : Operand) → attaining.is_range (compared c op (spot_of kind names v)) ≡ is_range (tree.Compare n op v)
  range_is c op kind names n (tree.Numeric m) = at_is c op (m.units *ℤ pos (10 ^ (scale_of_kind kind - m.scale))) n (tree.Numeric m)
  range_is c op kind names n (tree.Day s) = at_is c op (date_value s.name) n (tree.Day s)
  range_is c op kind names n (tree.Str s) = by (is_day kind) refl (is_name names s.name) refl
    where
      by : (day : Bool) → is_day kind ≡ day → (named : Bool) → is_name names s.name ≡ named → attaining.is_range (compared c op (spot_of kind names (tree.Str s))) ≡ is_range (tree.Compare n op (tree.Str s))
      by true e named f = rw e (at_is c op (date_value s.name) n (tree.Str s))
      by false e true f = rw (e, f) (at_is c op (pos (names_below names s.name)) n (tree.Str s))
      by false e false f = rw (e, f) (before_is c op (names_below names s.name) n (tree.Str s))

  split : (a : Pred) → pred_fault head.columns a ≡ None → AllByRecursion (IsKnown head.columns columns) (names_in_pred a) → IsSplit (typed_pred head.columns columns a) (joined a)
  split (tree.Compare n op v) fine known = by (is_range (tree.Compare n op v)) refl
    where
      by : (b : Bool) → is_range (tree.Compare n op v) ≡ b → IsSplit (Single (compared (number n) op (spot_in head.columns n v))) (tree.Compare n op v ∷ [])
      by true e = range_split (compared (number n) op (spot_in head.columns n v)) (tree.Compare n op v) (range_is (number n) op (kind_of head.columns n.name) (dictionary_of head.columns n.name) n v ∙ e) e (record { is = refl; fine = fine; name = n; named = refl; known = known.0 })
      by false e = other_split (compared (number n) op (spot_in head.columns n v)) (tree.Compare n op v) (range_is (number n) op (kind_of head.columns n.name) (dictionary_of head.columns n.name) n v ∙ e) e (pred_reads head.columns columns (tree.Compare n op v))
  split (tree.Between n low high) fine known = range_split _ (tree.Between n low high) refl refl (record { is = refl; fine = fine; name = n; named = refl; known = known.0 })
  split (tree.Columns l op r) fine known = other_split _ (tree.Columns l op r) refl refl refl
  split (tree.OneOf n vs) fine known = other_split _ (tree.OneOf n vs) refl refl refl
  split (tree.IsNull n) fine known = other_split _ (tree.IsNull n) refl refl refl
  split (tree.Negation a) fine known = record { ranges = tt; beside = pred_reads head.columns columns (tree.Negation a) ∙ ap (map number) (sym (append-nil (names_in_pred a))) }
  split (tree.Either a b) fine known = record { ranges = tt; beside = pred_reads head.columns columns (tree.Either a b) ∙ ap (map number) (sym (append-nil (names_in_pred a ++ names_in_pred b))) }
  split (tree.Both a b) fine known =
      let left = split a (none_first _ _ fine) (all_left _ (names_in_pred a) (names_in_pred b) known) in
      let right = split b (none_later _ _ fine) (all_right _ (names_in_pred a) (names_in_pred b) known) in
      let others : List Pred → List Pred = filter (λ c. not (is_range c)) in
      record {
        ranges = subst (AllZip IsTypedRange (ranges_in (typed_pred head.columns columns a) ++ ranges_in (typed_pred head.columns columns b))) (sym (filter-append is_range (joined a) (joined b)))
            (zip_join IsTypedRange (ranges_in (typed_pred head.columns columns a)) (ranges_in (typed_pred head.columns columns b)) (filter is_range (joined a)) (filter is_range (joined b)) left.ranges right.ranges);
        beside = both_read head.columns columns _ _ (names_of (others (joined a))) (names_of (others (joined b))) left.beside right.beside
            ∙ ap (map number) (sym (ap names_of (filter-append (λ c. not (is_range c)) (joined a) (joined b)) ∙ flat_map-append names_in_pred (others (joined a)) (others (joined b))));
      }

  filter_split : (o : Option Pred) → filter_fault head.columns o ≡ None → AllByRecursion (IsKnown head.columns columns) (names_in_filter o) → IsSplit (typed_filter head.columns columns o) (joined_in o)
  filter_split None fine known = record { ranges = tt; beside = refl }
  filter_split (Some a) fine known = split a fine known

  -- ---- ranges that meet

  named_by : (n : Name) (place : ℕ) (z : ℤ) (v : Value) (o : Option ColumnHead) → slice_get head.columns place ≡ o → place_of head.columns n.name ≡ Some place → value_of o (Some z) ≡ Some v
      → IsNamed head.columns columns (λ c. Some z) (λ name. Some v) n
  named_by n place z v None get at is = absurd (none-some v is)
  named_by n place z v (Some column) get at is = record {
    column = column;
    kind = ap (kind_at head.columns) at ∙ mapped (λ h. h.kind) head.columns place column Int get;
    names = ap (dictionary_at head.columns) at ∙ mapped (λ h. h.names) head.columns place column [] get;
    value = sym is;
    stands = λ y e. (v, subst (λ k. value_of (Some column) (Some k) ≡ Some v) (same_Some z y e) is);
  }

  -- a value that a column can have lies in the range as it is typed where it lies there as it is written
  lies : (x : Atom) (a : Pred) (t : IsTypedRange x a) (v : Value) (can : CanHave head t.name v) → truth a (λ name. Some v) ≡ Some true → atom_truth x (λ c. Some can.number) ≡ Some true
  lies x a t v can e =
      let named = named_by t.name can.place can.number v (slice_get head.columns can.place) refl can.named can.is in
      let all : AllByRecursion (IsNamed head.columns columns (λ c. Some can.number) (λ name. Some v)) (names_in_pred a) = subst (AllByRecursion (IsNamed head.columns columns (λ c. Some can.number) (λ name. Some v))) (sym t.named) (named, tt) in
      ap (λ c. meaning.truth c (λ d. Some can.number)) (sym t.is) ∙ pred_means head.columns columns (λ c. Some can.number) (λ name. Some v) a t.fine all ∙ e

  meets : (x : Atom) (a : Pred) (y : Atom) (b : Pred) → IsTypedRange x a → IsTypedRange y b → Meet head a b → attaining.Meet x y
  meets x a y b t u (inl apart) same =
      let named : names_in_pred a ++ names_in_pred b ≡ t.name ∷ u.name ∷ [] = ap (λ l. l ++ names_in_pred b) t.named ∙ ap (λ l. t.name ∷ l) u.named in
      let once : no_repeats (number t.name ∷ number u.name ∷ []) ≡ true = differ head.columns columns (t.name ∷ u.name ∷ []) (t.known, (u.known, tt)) ∙ ap names_differ (sym named) ∙ apart in
      let columns_same : number t.name ∷ [] ≡ number u.name ∷ [] = sym (range_reads x a t) ∙ same ∙ range_reads y b u in
      absurd (stands_twice (number t.name) (number t.name ∷ []) [] refl (ap (λ l. no_repeats (number t.name ∷ l)) columns_same ∙ once))
  meets x a y b t u (inr (v, can, in_a, in_b)) same =
      let columns_same : number t.name ∷ [] ≡ number u.name ∷ [] = sym (range_reads x a t) ∙ same ∙ range_reads y b u in
      let name : t.name.name ≡ u.name.name = one_name head.columns columns t.name u.name t.known u.known (first_is columns_same) in
      let here : CanHave head t.name v = (subst (AllByRecursion (λ n. CanHave head n v)) t.named can).0 in
      let there : CanHave head u.name v = record { place = here.place; number = here.number; named = ap (place_of head.columns) (sym name) ∙ here.named; is = here.is } in
      ((λ c. Some here.number), lies x a t v here in_a, lies y b u v there in_b)
    where
      first_is : {c d : ℕ} → c ∷ [] ≡ d ∷ [] → c ≡ d
      first_is e = cc

  all_meets : (x : Atom) (a : Pred) → IsTypedRange x a → (ys : List Atom) (bs : List Pred) → AllZip IsTypedRange ys bs → AllByRecursion (Meet head a) bs → AllByRecursion (attaining.Meet x) ys
  all_meets x a t [] bs z h = tt
  all_meets x a t (y ∷ ys) [] z h = absurd z
  all_meets x a t (y ∷ ys) (b ∷ bs) z h = (meets x a y b t z.0 h.0, all_meets x a t ys bs z.1 h.1)

  all_meet : (xs : List Atom) (ps : List Pred) → AllZip IsTypedRange xs ps → AllPairs (Meet head) ps → AllMeet xs
  all_meet [] ps z h = tt
  all_meet (x ∷ xs) [] z h = absurd z
  all_meet (x ∷ xs) (a ∷ ps) z h = (all_meets x a z.0 xs ps z.1 (first_pairs (Meet head) a ps h), all_meet xs ps z.1 (later_pairs (Meet head) a ps h))

  -- ---- columns that are named once

  -- columns are apart where those are that their names name
  apart_there : (ns xs : List Name) (ys : List ℕ) → AllByRecursion (IsKnown head.columns columns) ns → AllByRecursion (IsKnown head.columns columns) xs → AllByRecursion (λ n. is_there n.name xs ≡ true) ns
      → AreApart (map number xs) ys → AreApart (map number ns) ys
  apart_there [] xs ys known of_xs there apart c h = absurd (false≢true h)
  apart_there (n ∷ ns) xs ys known of_xs there apart c h =
      elim (or_cases (c == number n) (list_any (λ d. c == d) (map number ns)) h) [
        | inl e ↦ subst (λ d. IsFalse (list_any (λ y. d == y) ys)) (sym (same_number c (number n) e)) (apart (number n) (any_alike head.columns columns n xs known.0 of_xs ∙ there.0))
        | inr e ↦ apart_there ns xs ys known.1 of_xs there.1 apart c e
      ]

  ranges_apart : (xs : List Atom) (ps : List Pred) (rest : List ℕ) → AllZip IsTypedRange xs ps → NoneShared (map number (names_of ps)) rest → AllByRecursion (λ x. NoneShared (columns_of_atom x) rest) xs
  ranges_apart [] ps rest z h = tt
  ranges_apart (x ∷ xs) [] rest z h = absurd z
  ranges_apart (x ∷ xs) (a ∷ ps) rest z h =
      let split_names : map number (names_of (a ∷ ps)) ≡ number z.0.name ∷ map number (names_of ps) = ap (λ l. map number (l ++ names_of ps)) z.0.named in
      let apart : NoneShared (number z.0.name ∷ map number (names_of ps)) rest = subst (λ l. NoneShared l rest) split_names h in
      (subst (λ l. NoneShared l rest) (sym (range_reads x a z.0)) (apart.0, tt), ranges_apart xs ps rest z.1 apart.1)

-- ---- columns

other_way : (xs ys : List ℕ) → AreApart xs ys → AreApart ys xs
other_way xs ys apart c h = by (list_any (λ d. c == d) xs) refl
  where
    by : (b : Bool) → list_any (λ d. c == d) xs ≡ b → IsFalse (list_any (λ d. c == d) xs)
    by true e = absurd (true≢false (sym h ∙ apart c e))
    by false e = e

none_shared : (xs ys : List ℕ) → AreApart xs ys → NoneShared xs ys
none_shared [] ys h = tt
none_shared (x ∷ xs) ys h = (h x (here_read x xs), none_shared xs ys (λ c r. h c (or_right_is (c == x) (list_any (λ d. c == d) xs) r)))

-- ---- queries

group_names : (table : List ColumnHead) (columns : List ℕ) (ending : Ending) → AllByRecursion (IsKnown table columns) (names_in_ending ending)
    → groups_of (typing.typed_ending table columns ending) ≡ map (λ (n : Name). number_of table columns n.name) (with_names [] (grouping ending))
group_names table columns tree.Nothing known = refl
group_names table columns (tree.Grouped ns) known = groups_are table columns ns known
group_names table columns (tree.Ordered key down limit) known = refl

in_grouping : (P : Name → Type 0) (ending : Ending) → AllByRecursion P (names_in_ending ending) → AllByRecursion P (grouping ending)
in_grouping P tree.Nothing h = tt
in_grouping P (tree.Grouped ns) h = h
in_grouping P (tree.Ordered key down limit) h = tt

module _ (q : tree.Query) (head : Head) (query : Query) (is : IsTyped q head query) where
  abbrev Known : Name → Type 0
  Known = IsKnown head.columns query.columns

  abbrev own : Name → ℕ
  own n = number_of head.columns query.columns n.name

  abbrev range_names : List Name
  range_names = names_of (filter is_range (joined_in q.pred))

  abbrev other_names : List Name
  other_names = names_of (filter (λ a. not (is_range a)) (joined_in q.pred))

  abbrev groups : List Name
  groups = with_names [] (grouping q.ending)

  known_groups : AllByRecursion Known groups
  known_groups = with_all head.columns query.columns Known [] (grouping q.ending) tt (in_grouping Known q.ending (in_ending q head query is))

  groups_is : groups_of query.shape ≡ map own groups
  groups_is =
      subst (λ (w : Query). AllByRecursion (IsKnown head.columns w.columns) (names_in_ending q.ending) → groups_of w.shape ≡ map (λ (n : Name). number_of head.columns w.columns n.name) groups) (sym is.same)
      (group_names head.columns (typing.columns_of head.columns q) q.ending) (in_ending q head query is)

  is_split : IsSplit head query.columns query.pred (joined_in q.pred)
  is_split =
      subst (λ (w : Query). AllByRecursion (IsKnown head.columns w.columns) (names_in_filter q.pred) → IsSplit head w.columns w.pred (joined_in q.pred)) (sym is.same)
      (filter_split head (typing.columns_of head.columns q) q.pred (clean head.columns q is.faultless).condition) (in_filter q head query is)

  filter_is : columns_of_pred query.pred ≡ map own (names_in_filter q.pred)
  filter_is =
      subst (λ (w : Query). columns_of_pred w.pred ≡ map (λ (n : Name). number_of head.columns w.columns n.name) (names_in_filter q.pred)) (sym is.same)
      (filter_reads head.columns (typing.columns_of head.columns q) q.pred)

  known_with : (ns : List Name) → AllByRecursion Known ns → AllByRecursion Known (with_names [] ns)
  known_with ns known = with_all head.columns query.columns Known [] ns tt known

  known_split : (o : Option Pred) → AllByRecursion Known (names_in_filter o) → AllByRecursion Known (names_of (filter is_range (joined_in o))) × AllByRecursion Known (names_of (filter (λ a. not (is_range a)) (joined_in o)))
  known_split None known = (tt, tt)
  known_split (Some a) known = scatter Known a known

  known_ranges : AllByRecursion Known range_names
  known_ranges = (known_split q.pred (in_filter q head query is)).0

  known_rows : AllByRecursion Known (names_of_rows q)
  known_rows =
      all_join Known (with_names [] range_names) (other_names ++ groups) (known_with range_names known_ranges)
      (all_join Known other_names groups (known_split q.pred (in_filter q head query is)).1 known_groups)

  -- each name of WHERE, and each of GROUP BY, is one of those that count
  rows_there : AllByRecursion (λ n. is_there n.name (names_of_rows q) ≡ true) (names_in_filter q.pred ++ groups)
  rows_there =
      let In : List Name → Name → Type 0 = (λ ns n. is_there n.name ns ≡ true) in
      let later : (n : Name) → In (other_names ++ groups) n → In (names_of_rows q) n = (λ n h. there_right n.name (with_names [] range_names) (other_names ++ groups) h) in
      let of_ranges : AllByRecursion (In (names_of_rows q)) range_names =
      all_then (In (with_names [] range_names)) (In (names_of_rows q)) (λ n h. there_left n.name (with_names [] range_names) (other_names ++ groups) h) range_names (all_kept [] range_names) in
      let of_others : AllByRecursion (In (names_of_rows q)) other_names = all_then (In other_names) (In (names_of_rows q)) (λ n h. later n (there_left n.name other_names groups h)) other_names (all_there other_names) in
      let of_groups : AllByRecursion (In (names_of_rows q)) groups = all_then (In groups) (In (names_of_rows q)) (λ n h. later n (there_right n.name other_names groups h)) groups (all_there groups) in
      all_join (In (names_of_rows q)) (names_in_filter q.pred) groups (of_filter q.pred of_ranges of_others) of_groups
    where
      of_filter : (o : Option Pred) → AllByRecursion (λ n. is_there n.name (names_of_rows q) ≡ true) (names_of (filter is_range (joined_in o)))
          → AllByRecursion (λ n. is_there n.name (names_of_rows q) ≡ true) (names_of (filter (λ a. not (is_range a)) (joined_in o))) → AllByRecursion (λ n. is_there n.name (names_of_rows q) ≡ true) (names_in_filter o)
      of_filter None h k = tt
      of_filter (Some a) h k = gather (λ n. is_there n.name (names_of_rows q) ≡ true) a h k

  rows_once : AttainsKeys head q → IsTrue (no_repeats (map own (names_of_rows q)))
  rows_once h = differ head.columns query.columns (names_of_rows q) known_rows ∙ h.once

  pub attains_truths : AttainsKeys head q → AttainsTruths query.pred (groups_of query.shape)
  attains_truths h =
      let parts = no_repeats_parts (map own (with_names [] range_names)) (map own (other_names ++ groups)) (subst (λ l. IsTrue (no_repeats l)) (map-append own (with_names [] range_names) (other_names ++ groups)) (rows_once h)) in
      let rest_is : columns_of_pred (beside_ranges query.pred) ++ groups_of query.shape ≡ map own (other_names ++ groups) = both_read head.columns query.columns _ _ other_names groups is_split.beside groups_is in
      let apart : NoneShared (map own range_names) (map own (other_names ++ groups)) =
      none_shared (map own range_names) (map own (other_names ++ groups))
      (apart_there head query.columns range_names (with_names [] range_names) (map own (other_names ++ groups)) known_ranges (known_with range_names known_ranges) (all_kept [] range_names) parts.2) in
      inr (record {
        meet = all_meet head query.columns (ranges_in query.pred) (filter is_range (joined_in q.pred)) is_split.ranges h.meet;
        once = ap no_repeats rest_is ∙ parts.1;
        apart = subst (λ l. AllByRecursion (λ x. NoneShared (columns_of_atom x) l) (ranges_in query.pred)) (sym rest_is)
            (ranges_apart head query.columns (ranges_in query.pred) (filter is_range (joined_in q.pred)) (map own (other_names ++ groups)) is_split.ranges apart);
      })

  abbrev ranges : Ranges
  ranges = declared_ranges (projected_frame query (frame_of head))

  moves_typed : (item : Item) (t : Aggregate) → IsAsked q query item t → GoesOneWay head item → attaining.GoesOneWay t.arg ranges
  moves_typed (tree.Plain n) t asked way = absurd way
  moves_typed tree.CountAll t asked way = absurd way
  moves_typed (tree.Call kind e) t asked (ways, m) =
      let argument : typed_expr head.columns query.columns e ≡ t.arg = ap (λ (a : Aggregate). a.arg) (same_Some (typed_call head.columns query.columns kind e) t (typed_as q head query (tree.Call kind e) t is asked)) in
      let fine = fine_is q head query is (tree.Call kind e) t asked in
      (ways_at head query ways, subst (λ a. attaining.Moves (ways_at head query ways) true a ranges) argument (argument_moves head query ways kind e m fine.1 (in_item q head query is (tree.Call kind e) t asked)))

  pub attains_ends : (item : Item) (t : Aggregate) → IsAsked q query item t → AttainsEnds head q item → attaining.AttainsEnds query t ranges
  attains_ends item t asked h =
      let argument : columns_of t.arg ≡ map own (names_in_item item) = item_is q head query is item t asked in
      let named = names_in_item item in
      let known_item = in_item q head query is item t asked in
      let known : AllByRecursion Known (names_of_rows q ++ with_names [] named) = all_join Known (names_of_rows q) (with_names [] named) known_rows (known_with named known_item) in
      let once : IsTrue (no_repeats (map own (names_of_rows q) ++ map own (with_names [] named))) =
      subst (λ l. IsTrue (no_repeats l)) (map-append own (names_of_rows q) (with_names [] named)) (differ head.columns query.columns (names_of_rows q ++ with_names [] named) known ∙ h.apart) in
      let parts = no_repeats_parts (map own (names_of_rows q)) (map own (with_names [] named)) once in
      let of_item : AreApart (map own named) (map own (names_of_rows q)) =
      apart_there head query.columns named (with_names [] named) (map own (names_of_rows q)) known_item (known_with named known_item) (all_kept [] named) (other_way (map own (names_of_rows q)) (map own (with_names [] named)) parts.2) in
      let of_rows : AreApart (map own (names_in_filter q.pred ++ groups)) (map own named) =
      apart_there head query.columns (names_in_filter q.pred ++ groups) (names_of_rows q) (map own named) (all_join Known (names_in_filter q.pred) groups (in_filter q head query is) known_groups) known_rows rows_there
      (other_way (map own named) (map own (names_of_rows q)) of_item) in
      let rows_are : columns_of_pred query.pred ++ groups_of query.shape ≡ map own (names_in_filter q.pred ++ groups) = both_read head.columns query.columns _ _ (names_in_filter q.pred) groups filter_is groups_is in
      record {
        rows = attains_truths h.rows;
        apart = subst (λ l. NoneShared l (columns_of t.arg)) (sym rows_are) (subst (λ l. NoneShared (map own (names_in_filter q.pred ++ groups)) l) (sym argument) (none_shared (map own (names_in_filter q.pred ++ groups)) (map own named) of_rows));
        argument = elim h.argument [
          | inl differs ↦ inl (ap no_repeats argument ∙ differ head.columns query.columns named known_item ∙ differs)
          | inr way ↦ inr (moves_typed item t asked way)
        ];
      }

pub ends_attained : AttainedEndsMeanTheirTrees
ends_attained q head query is = record {
  ends = λ item t asked h. attains_ends q head query is item t asked h;
  keys = attains_truths q head query is;
}
