-- A condition that does not read a column is told alike before and after a plane of it.
use Rattle.std.proofs.Common.{◌≡◌, ◌≢◌, ◌<◌, ℕ, length, inl, inr, subst, arith, ◌==◌, ◌||◌, Bool, true, false, List, [], ◌∷◌, if◌then◌else◌, map, slice_index, refl, sym, ap, ◌∙◌}
use Rattle.kleene_filter.proofs.Parting.{no_prefix}
use Rattle.std.proofs.lemmas.Bool.{cases_lt, eq-eqb, false≢true}
use Rattle.std.proofs.Math.ListN.{get_or-eq_default}
use Rattle.std.proofs.lemmas.List.{get_or-set_other}
use Rattle.std.proofs.lemmas.List.Folds.{list_any-append}
use Rattle.daq_table.specs.Tables.{ends_at, rows_of}
use Rattle.query_model.specs.declared.bounds.Truth.{Truth}
use Rattle.query_model.specs.declared.bounds.Truth.TheVariants.{False, Unknown, True}
use Rattle.query_model.specs.declared.bounds.Truths.{Truths}
use Rattle.query_model.specs.declared.query.Atom.{Atom}
use Rattle.query_model.specs.declared.query.Atom.TheVariants.{Compare, CompareColumns, Between, OneOf, IsNull}
use Rattle.query_model.specs.Queries.{Condition, All, Single, Both, Either, Negation}
use Rattle.query_model.specs.Knowledge.{ColumnKnowledge, IsLegal, known_at, prefix_at, longer_column, range_of, ranges_of, taken}
use Rattle.query_model.specs.Meaning.{among, between, columns_of_atom, columns_of_pred, compares}
use Rattle.query_model.specs.Truths.{Ranges, and_over, not_over, or_over, truth_among, truths_of, truths_of_atom, truths_of_null, truths_over, truths_over_both}
use Rattle.known_column.specs.KnownTables.{IsKnownTable, KnownTable}
use Rattle.kleene_filter.specs.Filters.{AreUnread, is_possible, Judgement, StoodBefore, stands_in, truths_at, truths_under}

-- ranges that differ at one column at most
abbrev AgreeBeside : ℕ → Ranges → Ranges → Type 0
AgreeBeside c a b = (k : ℕ) → k ≢ c → a k ≡ b k

both_false : (a b : Bool) → (a || b) ≡ false → (a ≡ false) × (b ≡ false)
both_false true b h = absurd (false≢true (sym h))
both_false false b h = (refl, h)

another : (k c : ℕ) → (k == c) ≡ false → k ≢ c
another k c h = λ e. absurd (false≢true (sym h ∙ eq-eqb k c e))

atom_alike : (atom : Atom) (c : ℕ) (a b : Ranges) → AgreeBeside c a b → stands_in (columns_of_atom atom) c ≡ false → truths_of_atom atom a ≡ truths_of_atom atom b
atom_alike (Compare k op v) c a b agree h = ap (λ r. truths_over r (λ x. compares op x v)) (agree k (another k c (both_false _ _ h).0))
atom_alike (CompareColumns l op r) c a b agree h =
    let apart = both_false _ _ h in
    ap (λ i. truths_over_both i (a r) (compares op)) (agree l (another l c apart.0)) ∙ ap (λ j. truths_over_both (b l) j (compares op)) (agree r (another r c (both_false _ _ apart.1).0))
atom_alike (Between k low high) c a b agree h = ap (λ r. truths_over r (between low high)) (agree k (another k c (both_false _ _ h).0))
atom_alike (OneOf k values) c a b agree h = ap (λ r. truths_over r (among values)) (agree k (another k c (both_false _ _ h).0))
atom_alike (IsNull k) c a b agree h = ap truths_of_null (agree k (another k c (both_false _ _ h).0))

pred_alike : (pred : Condition) (c : ℕ) (a b : Ranges) → AgreeBeside c a b → stands_in (columns_of_pred pred) c ≡ false → truths_of pred a ≡ truths_of pred b
pred_alike All c a b agree h = refl
pred_alike (Single atom) c a b agree h = atom_alike atom c a b agree h
pred_alike (Both x y) c a b agree h =
    let apart = both_false _ _ (sym (list_any-append (λ m. m == c) (columns_of_pred x) (columns_of_pred y)) ∙ h) in
    ap (λ t. and_over t (truths_of y a)) (pred_alike x c a b agree apart.0) ∙ ap (and_over (truths_of x b)) (pred_alike y c a b agree apart.1)
pred_alike (Either x y) c a b agree h =
    let apart = both_false _ _ (sym (list_any-append (λ m. m == c) (columns_of_pred x) (columns_of_pred y)) ∙ h) in
    ap (λ t. or_over t (truths_of y a)) (pred_alike x c a b agree apart.0) ∙ ap (or_over (truths_of x b)) (pred_alike y c a b agree apart.1)
pred_alike (Negation x) c a b agree h = ap not_over (pred_alike x c a b agree h)

-- a plane of one column leaves the ranges of the others
ranges_alike : (table : KnownTable) (c : ℕ) (bits : List Bool) (row : ℕ) → AgreeBeside c (ranges_of table.frame (taken table.known c bits) row) (ranges_of table.frame table.known row)
ranges_alike table c bits row k other =
    ap (λ (w : ColumnKnowledge). range_of (ends_at table.frame k) w.read (slice_index w.prefixes row))
    (get_or-set_other table.known c k (longer_column (known_at table.known c) bits) (record { read = 0; prefixes = [] }) other)

same_map : (f g : ℕ → Truth) (xs : List ℕ) → ((x : ℕ) → f x ≡ g x) → map f xs ≡ map g xs
same_map f g [] h = refl
same_map f g (x ∷ xs) h = ap (λ t. t ∷ map f xs) (h x) ∙ ap (λ ts. g x ∷ ts) (same_map f g xs h)

pub still_stands : (filter : Judgement) (pred : Condition) (table : KnownTable) (column : ℕ) (bits : List Bool) → StoodBefore filter pred table column bits → stands_in (columns_of_pred pred) column ≡ false → filter.truths ≡ truths_under pred table
still_stands filter pred table column bits stood h =
    let before = stood.before in
    stood.stood.truths
    ∙ sym (same_map _ _ (rows_of before.frame) (λ row. ap truth_among (pred_alike pred column (ranges_of before.frame (taken before.known column bits) row) (ranges_of before.frame before.known row) (ranges_alike before column bits row) h)))
    ∙ ap (truths_under pred) (sym stood.taken)

-- ---- nothing is read of any column

atom_same : (atom : Atom) (a b : Ranges) → ((k : ℕ) → a k ≡ b k) → truths_of_atom atom a ≡ truths_of_atom atom b
atom_same (Compare k op v) a b agree = ap (λ r. truths_over r (λ x. compares op x v)) (agree k)
atom_same (CompareColumns l op r) a b agree = ap (λ i. truths_over_both i (a r) (compares op)) (agree l) ∙ ap (λ j. truths_over_both (b l) j (compares op)) (agree r)
atom_same (Between k low high) a b agree = ap (λ r. truths_over r (between low high)) (agree k)
atom_same (OneOf k values) a b agree = ap (λ r. truths_over r (among values)) (agree k)
atom_same (IsNull k) a b agree = ap truths_of_null (agree k)

pred_same : (pred : Condition) (a b : Ranges) → ((k : ℕ) → a k ≡ b k) → truths_of pred a ≡ truths_of pred b
pred_same All a b agree = refl
pred_same (Single atom) a b agree = atom_same atom a b agree
pred_same (Both x y) a b agree = ap (λ t. and_over t (truths_of y a)) (pred_same x a b agree) ∙ ap (and_over (truths_of x b)) (pred_same y a b agree)
pred_same (Either x y) a b agree = ap (λ t. or_over t (truths_of y a)) (pred_same x a b agree) ∙ ap (or_over (truths_of x b)) (pred_same y a b agree)
pred_same (Negation x) a b agree = ap not_over (pred_same x a b agree)

-- each row's prefix is the same
prefix_same : (table : KnownTable) → IsKnownTable table → AreUnread table → (r s k : ℕ) → r < table.frame.rows → s < table.frame.rows → prefix_at table.known k r ≡ prefix_at table.known k s
prefix_same table known none r s k below within =
    elim (cases_lt k (length table.frame.columns)) [
      | inl there ↦
          (let zero_at : (i : ℕ) → i < table.frame.rows → prefix_at table.known k i ≡ 0 =
          λ i inside. no_prefix (ends_at table.frame k) (prefix_at table.known k i) (subst (λ n. IsLegal (ends_at table.frame k) n (prefix_at table.known k i)) (none k there) (known.knowledge.legal k i there inside)) in
          zero_at r below ∙ sym (zero_at s within))
      | inr past ↦
          (let gone : known_at table.known k ≡ record { read = 0; prefixes = [] } = get_or-eq_default table.known (record { read = 0; prefixes = [] }) (let count = known.knowledge.columns in omega (arith, count, past)) in
          ap (λ (w : ColumnKnowledge). slice_index w.prefixes r) gone ∙ sym (ap (λ (w : ColumnKnowledge). slice_index w.prefixes s) gone))
    ]

-- so the truths are those of the first row
pub as_at_first : (pred : Condition) (table : KnownTable) → IsKnownTable table → AreUnread table → (r : ℕ) → r < table.frame.rows → truths_at pred table r ≡ truths_at pred table 0
as_at_first pred table known none r below =
    pred_same pred (ranges_of table.frame table.known r) (ranges_of table.frame table.known 0)
    (λ k. ap (range_of (ends_at table.frame k) (known_at table.known k).read) (prefix_same table known none r 0 k below (omega (arith, below))))

pub may_hold_is_possible : (t : Truths) → t.may_hold ≡ is_possible (truth_among t)
may_hold_is_possible t = by_parts t.may_hold (t.may_fail || t.may_be_null)
  where
    by_parts : (hold other : Bool) → hold ≡ is_possible (if hold then (if other then Unknown else True) else False)
    by_parts true true = refl
    by_parts true false = refl
    by_parts false other = refl
