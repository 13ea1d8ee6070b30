-- Names that ascend have the order of their ranks.
use Rattle.std.proofs.Common.{◌≡◌, ℕ, zero, suc, ◌<◌, ◌≤◌, pos, true, false, List, [], ◌∷◌, Some, IsTrue, inl, inr, refl, sym, ap, subst, ◌∙◌, arith, slice_get}
use Rattle.std.proofs.lemmas.Bool.{and_parts, cases_Bool}
use Rattle.std.proofs.lemmas.Bool.Decides.{Decides-int_eq}
use Rattle.std.proofs.lemmas.Cmp.{nat_list_cmp_total}
use Rattle.std.proofs.lemmas.Int.{ints}
use Rattle.std.proofs.lemmas.Map.Text.{is_eq-slice_cmp}
use Rattle.std.proofs.lemmas.Option.{same_Some}
use Rattle.std.proofs.lemmas.Slice.Eq.{bytes_eq-Decides}
use Rattle.std.specs.Cmp.Lexicographic.{slice_cmp}
use Rattle.std.specs.Ordering.{int_eq, is_eq, is_le, is_lt, nat_cmp}
use Rattle.std.specs.Str.{bytes_eq}
use Rattle.std.specs.declared.cmp.Ordering.{Ordering}
use Rattle.std.specs.declared.cmp.Ordering.TheVariants.{Less, Equal, Greater}
use Rattle.daq_table.specs.ColumnFacts.{is_ascending}

less_is : (o : Ordering) → is_lt o ≡ true → o ≡ Less
less_is Less h = refl
less_is Equal h = absurd cc
less_is Greater h = absurd cc

equal_is_le : (o : Ordering) → is_eq o ≡ true → is_le o ≡ true
equal_is_le Less h = refl
equal_is_le Equal h = refl
equal_is_le Greater h = absurd cc

-- the first name comes before each behind it
first_below : (name : List ℕ) (names : List (List ℕ)) → IsTrue (is_ascending (name ∷ names)) → (k : ℕ) (t : List ℕ) → slice_get names k ≡ Some t → slice_cmp nat_cmp name t ≡ Less
first_below name [] h k t e = absurd (cc)
first_below name (next ∷ names) h zero t e =
    subst (λ (u : List ℕ). slice_cmp nat_cmp name u ≡ Less) (same_Some next t e) (less_is (slice_cmp nat_cmp name next) (and_parts (is_lt (slice_cmp nat_cmp name next)) (is_ascending (next ∷ names)) h).0)
first_below name (next ∷ names) h (suc k) t e =
    let both = and_parts (is_lt (slice_cmp nat_cmp name next)) (is_ascending (next ∷ names)) h in
    nat_list_cmp_total.trans name next t (less_is (slice_cmp nat_cmp name next) both.0) (first_below next names both.1 k t e)

others : (name : List ℕ) (names : List (List ℕ)) → IsTrue (is_ascending (name ∷ names)) → IsTrue (is_ascending names)
others name [] h = refl
others name (next ∷ names) h = (and_parts (is_lt (slice_cmp nat_cmp name next)) (is_ascending (next ∷ names)) h).1

rise : (names : List (List ℕ)) → IsTrue (is_ascending names) → (j k : ℕ) (s t : List ℕ) → j < k → slice_get names j ≡ Some s → slice_get names k ≡ Some t → slice_cmp nat_cmp s t ≡ Less
rise [] h j k s t lt e f = absurd (cc)
rise (name ∷ names) h j zero s t lt e f = absurd (omega (arith, lt))
rise (name ∷ names) h zero (suc k) s t lt e f = subst (λ (u : List ℕ). slice_cmp nat_cmp u t ≡ Less) (same_Some name s e) (first_below name names h k t f)
rise (name ∷ names) h (suc j) (suc k) s t lt e f = rise names (others name names h) j k s t (omega (arith, lt)) e f

same_names : (names : List (List ℕ)) (j k : ℕ) (s t : List ℕ) → j ≡ k → slice_get names j ≡ Some s → slice_get names k ≡ Some t → s ≡ t
same_names names j k s t same e f = same_Some s t (sym e ∙ ap (slice_get names) same ∙ f)

by_order : {P : Type 0} (j k : ℕ) → j ≤ k → (j < k → P) → (j ≡ k → P) → P
by_order zero zero le less same = same refl
by_order zero (suc k) le less same = less (omega arith)
by_order (suc j) zero le less same = absurd (omega (arith, le))
by_order (suc j) (suc k) le less same = by_order j k (omega (arith, le)) (λ h. less (omega (arith, h))) (λ e. same (ap suc e))

apart : (j k : ℕ) → j < k → int_eq (pos j) (pos k) ≡ false
apart j k lt = elim (cases_Bool (int_eq (pos j) (pos k))) [
  | inl t ↦ absurd (let e = (Decides-int_eq (pos j) (pos k)).0 t in omega (arith, ints, lt, e))
  | inr f ↦ f
]

-- so names are the same where ranks are
pub same_ranks : (names : List (List ℕ)) → IsTrue (is_ascending names) → (j k : ℕ) (s t : List ℕ) → j ≤ k → slice_get names j ≡ Some s → slice_get names k ≡ Some t → int_eq (pos j) (pos k) ≡ bytes_eq s t
same_ranks names h j k s t le e f = by_order j k le
    (λ lt. apart j k lt ∙ (sym (ap is_eq (rise names h j k s t lt e f)) ∙ is_eq-slice_cmp s t))
    (λ same. (Decides-int_eq (pos j) (pos k)).1 (ap pos same) ∙ sym ((bytes_eq-Decides s t).1 (same_names names j k s t same e f)))

-- and a rank that is no greater has a text that is no greater
pub ordered_ranks : (names : List (List ℕ)) → IsTrue (is_ascending names) → (j k : ℕ) (s t : List ℕ) → j ≤ k → slice_get names j ≡ Some s → slice_get names k ≡ Some t → is_le (slice_cmp nat_cmp s t) ≡ true
ordered_ranks names h j k s t le e f = by_order j k le
    (λ lt. ap is_le (rise names h j k s t lt e f))
    (λ same. equal_is_le (slice_cmp nat_cmp s t) (is_eq-slice_cmp s t ∙ (bytes_eq-Decides s t).1 (same_names names j k s t same e f)))
