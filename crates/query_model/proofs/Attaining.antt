-- The pair of a row tells its ends, where the item attains them.
use Rattle.std.proofs.Common.{◌≡◌, ℕ, ℤ, Bool, true, false, cond, ◌==◌, List, [], ◌∷◌, ◌++◌, inl, inr, refl, subst, sym, IsTrue, IsFalse, Option, Some, None}
use Rattle.std.proofs.lemmas.Bool.{or_cases, or_right, eqb-true, false≢true, true≢false}
use Rattle.query_model.specs.Queries.{Term, Aggregate, Query}
use Rattle.query_model.specs.declared.bounds.Nullity.{Nullity}
use Rattle.query_model.specs.declared.bounds.Nullity.TheVariants.{Never, Possibly, Always}
use Rattle.query_model.specs.declared.bounds.Truth.{Truth}
use Rattle.query_model.specs.declared.bounds.Truth.TheVariants.{False, Unknown, True}
use Rattle.query_model.specs.Meaning.{val, columns_of, columns_of_pred}
use Rattle.query_model.specs.Truths.{Ranges, may_be_null, may_be_number, and_of, truth_of_number, null_of, span_of}
use Rattle.query_model.specs.Answers.{passes, outcome_of, groups_of}
use Rattle.query_model.specs.Bounds.{truth_of_row, pair_unless_false}
use Rattle.query_model.specs.Validity.{reads_each_once}
use Rattle.query_model.specs.Attaining.{AttainsEnds, AttainsSpan, NoneShared}
use Rattle.query_model.specs.Laws.{NoneEmpty, ReachesEnds, PairsTellRows}
use Rattle.query_model.proofs.JoinedRanges.{row_attained}
use Rattle.query_model.proofs.Numbers.{Allows}
use Rattle.query_model.proofs.OneWay.{moved, moved_within, has_ends}
use Rattle.query_model.proofs.Rows.{AreApart, EndsReached, SomeRow, counts, ends_reached, here_read, lowest, lowest_row, no_repeats_parts, null_reached, pair_outcome, passes_depends, some_pair, val_depends}

-- both ends of an argument's span, where it attains them
span_attained : (e : Term) (ranges : Ranges) → NoneEmpty ranges → AttainsSpan e ranges → IsTrue (may_be_number (null_of e ranges)) → EndsReached ranges e
span_attained e ranges o (inl once) n = ends_reached e ranges o once n
span_attained e ranges o (inr (ways, m)) n =
    let ends = has_ends ways true e ranges o m n in
    ((moved ways ranges false, moved_within ways ranges false o, ends.low), (moved ways ranges true, moved_within ways ranges true o, ends.high))

none_shared_apart : (xs ys : List ℕ) → NoneShared xs ys → AreApart xs ys
none_shared_apart [] ys h c r = absurd (false≢true r)
none_shared_apart (x ∷ xs) ys h c r =
    elim (or_cases (c == x) (counts c xs) r) [
      | inl e ↦ subst (λ d. IsFalse (counts d ys)) (sym (eqb-true c x e)) h.0
      | inr e ↦ none_shared_apart xs ys h.1 c e
    ]

apart_none_shared : (xs ys : List ℕ) → AreApart xs ys → NoneShared xs ys
apart_none_shared [] ys h = tt
apart_none_shared (x ∷ xs) ys h = (h x (here_read x xs), apart_none_shared xs ys (λ c r. h c (or_right (c == x) _ r)))

-- a read-once item attains its ends
pub once_attains : (query : Query) (item : Aggregate) (ranges : Ranges) → IsTrue (reads_each_once query item) → AttainsEnds query item ranges
once_attains query item ranges once =
    let parts = no_repeats_parts (columns_of_pred query.pred ++ groups_of query.shape) (columns_of item.arg) once in
    record { rows = inl parts.0; apart = apart_none_shared _ _ parts.2; argument = inl parts.1 }

module _ (query : Query) (item : Aggregate) (key : List (Option ℤ)) (ranges : Ranges) (o : NoneEmpty ranges) (attains : AttainsEnds query item ranges) where
  outcome_reached : (b : Bool) (v : Option ℤ) → Allows (truth_of_row query key ranges) b → SomeRow ranges (val item.arg) v → SomeRow ranges (outcome_of query item key) (cond b v None)
  outcome_reached b v a some =
      some_pair ranges (columns_of_pred query.pred ++ groups_of query.shape) (columns_of item.arg) (passes query key) (val item.arg) b v (λ passed value. cond passed value None)
      (none_shared_apart _ _ attains.apart) (passes_depends query key) (val_depends item.arg) (row_attained query key ranges b o attains.rows a) some

  -- both ends, for a row that may count and whose argument may be a number
  ends_of_pair : Allows (truth_of_row query key ranges) true → IsTrue (may_be_number (null_of item.arg ranges)) →
      SomeRow ranges (outcome_of query item key) (Some (span_of item.arg ranges).low) × SomeRow ranges (outcome_of query item key) (Some (span_of item.arg ranges).high)
  ends_of_pair a n =
      let ends = span_attained item.arg ranges o attains.argument n in
      (outcome_reached true (Some (span_of item.arg ranges).low) a ends.0, outcome_reached true (Some (span_of item.arg ranges).high) a ends.1)

  -- nothing, for a row that may not count, or whose argument may be null
  nothing_outside : Allows (truth_of_row query key ranges) false → SomeRow ranges (outcome_of query item key) None
  nothing_outside a = outcome_reached false (val item.arg (lowest_row ranges)) a (lowest_row ranges, lowest ranges o, refl)

  nothing_null : Allows (truth_of_row query key ranges) true → IsTrue (may_be_null (null_of item.arg ranges)) → SomeRow ranges (outcome_of query item key) None
  nothing_null a n = outcome_reached true None a (null_reached item.arg ranges o n)

  reaches_by : (t : Truth) (w : Nullity) → truth_of_row query key ranges ≡ t → null_of item.arg ranges ≡ w → ReachesEnds query item key ranges (pair_unless_false (and_of t (truth_of_number w)) (span_of item.arg ranges))
  reaches_by False w e f = tt
  reaches_by Unknown Always e f = tt
  reaches_by Unknown Possibly e f =
      let may = subst (λ t. Allows t true) (sym e) tt in
      let ends = ends_of_pair may (subst (λ w. IsTrue (may_be_number w)) (sym f) refl) in
      (ends.0, ends.1, (λ _. nothing_null may (subst (λ w. IsTrue (may_be_null w)) (sym f) refl)))
  reaches_by Unknown Never e f =
      let ends = ends_of_pair (subst (λ t. Allows t true) (sym e) tt) (subst (λ w. IsTrue (may_be_number w)) (sym f) refl) in
      (ends.0, ends.1, (λ _. nothing_outside (subst (λ t. Allows t false) (sym e) tt)))
  reaches_by True Always e f = tt
  reaches_by True Possibly e f =
      let may = subst (λ t. Allows t true) (sym e) refl in
      let ends = ends_of_pair may (subst (λ w. IsTrue (may_be_number w)) (sym f) refl) in
      (ends.0, ends.1, (λ _. nothing_null may (subst (λ w. IsTrue (may_be_null w)) (sym f) refl)))
  reaches_by True Never e f =
      let ends = ends_of_pair (subst (λ t. Allows t true) (sym e) refl) (subst (λ w. IsTrue (may_be_number w)) (sym f) refl) in
      (ends.0, ends.1, (λ f. absurd (true≢false f)))

pub pairs_tell_rows : PairsTellRows
pairs_tell_rows query item key ranges o = record {
  outcome = λ row h. pair_outcome query item key ranges row h;
  ends = λ attains. reaches_by query item key ranges o attains (truth_of_row query key ranges) (null_of item.arg ranges) refl refl;
}
