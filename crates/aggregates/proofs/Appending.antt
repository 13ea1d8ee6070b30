-- Counts, sums and ends of a list with one element more.
use Rattle.std.proofs.Common.{◌≡◌, ℕ, ◌+◌, ℤ, ◌+ℤ◌, true, false, List, [], ◌∷◌, ◌++◌, ◌==◌, length, map, filter, refl, ap, sym, ◌∙◌, arith, Option, Some, None, inl, inr, cond, if◌then◌else◌, length-append, append-nil}
use Rattle.std.specs.Int.{int_min, int_max}
use Rattle.std.proofs.lemmas.Bool.{cases_Bool}
use Rattle.std.proofs.lemmas.Int.{ints, clamps}
use Rattle.std.proofs.lemmas.List.Elements.{filter-append, filter_map-append}
use Rattle.query_model.specs.declared.query.ItemKind.{ItemKind}
use Rattle.query_model.specs.declared.query.ItemKind.TheVariants.{Count, Sum, Min, Max, Avg}
use Rattle.query_model.specs.Answers.{total, least, greatest, answer}
use Rattle.query_model.specs.Bounds.{Pair, certain_count, lows, highs, certain_lows, certain_highs}
use Rattle.aggregates.specs.declared.tally.Tally.{Tally}
use Rattle.aggregates.specs.Tallies.{tally_of}

-- ---- numbers

pub total-append : (xs : List ℤ) (x : ℤ) → total (xs ++ x ∷ []) ≡ total xs +ℤ x
total-append [] x = omega (arith, ints)
total-append (y ∷ ys) x = omega (arith, ints, total-append ys x)

least-append : (x : ℤ) (xs : List ℤ) (y : ℤ) → least (x ∷ (xs ++ y ∷ [])) ≡ int_min (least (x ∷ xs)) y
least-append x [] y = refl
least-append x (z ∷ zs) y = (let rest = least-append z zs y in omega (arith, ints, clamps))

greatest-append : (x : ℤ) (xs : List ℤ) (y : ℤ) → greatest (x ∷ (xs ++ y ∷ [])) ≡ int_max (greatest (x ∷ xs)) y
greatest-append x [] y = refl
greatest-append x (z ∷ zs) y = (let rest = greatest-append z zs y in omega (arith, ints, clamps))

same_numbers : (x y : ℤ) → Some x ≡ Some y → x ≡ y
same_numbers x y e = cc

pub next_least : (xs : List ℤ) (l n m : ℤ) → Some l ≡ answer Min xs → m ≡ int_min l n → Some m ≡ answer Min (xs ++ n ∷ [])
next_least [] l n m e is = cc
next_least (x ∷ xs) l n m e is = ap Some (is ∙ ap (λ v. int_min v n) (same_numbers l (least (x ∷ xs)) e) ∙ sym (least-append x xs n))

pub next_greatest : (xs : List ℤ) (l n m : ℤ) → Some l ≡ answer Max xs → m ≡ int_max l n → Some m ≡ answer Max (xs ++ n ∷ [])
next_greatest [] l n m e is = cc
next_greatest (x ∷ xs) l n m e is = ap Some (is ∙ ap (λ v. int_max v n) (same_numbers l (greatest (x ∷ xs)) e) ∙ sym (greatest-append x xs n))

-- ---- pairs

pub map-more : {A : Type 0} (f : Pair → A) (ps : List Pair) (p : Pair) → map f (ps ++ p ∷ []) ≡ map f ps ++ f p ∷ []
map-more f [] p = refl
map-more f (q ∷ qs) p = ap (λ xs. f q ∷ xs) (map-more f qs p)

pub total-more : (f : Pair → ℤ) (ps : List Pair) (p : Pair) → total (map f (ps ++ p ∷ [])) ≡ total (map f ps) +ℤ f p
total-more f ps p = ap total (map-more f ps p) ∙ total-append (map f ps) (f p)

pub length-more : (ps : List Pair) (p : Pair) → length (ps ++ p ∷ []) ≡ length ps + 1
length-more ps p = length-append ps (p ∷ [])

-- a pair that counts for certain
pub count-certain : (ps : List Pair) (p : Pair) → p.certain ≡ true → certain_count (ps ++ p ∷ []) ≡ certain_count ps + 1
count-certain ps p t =
    ap length (filter-append (λ (q : Pair). q.certain) ps (p ∷ [])) ∙ length-append (filter (λ (q : Pair). q.certain) ps) (filter (λ (q : Pair). q.certain) (p ∷ [])) ∙ rw t refl

pub lows-certain : (ps : List Pair) (p : Pair) → p.certain ≡ true → certain_lows (ps ++ p ∷ []) ≡ certain_lows ps ++ p.low ∷ []
lows-certain ps p t = filter_map-append _ ps (p ∷ []) ∙ rw t refl

pub highs-certain : (ps : List Pair) (p : Pair) → p.certain ≡ true → certain_highs (ps ++ p ∷ []) ≡ certain_highs ps ++ p.high ∷ []
highs-certain ps p t = filter_map-append _ ps (p ∷ []) ∙ rw t refl

-- a pair that may not count
pub count-uncertain : (ps : List Pair) (p : Pair) → p.certain ≡ false → certain_count (ps ++ p ∷ []) ≡ certain_count ps
count-uncertain ps p f =
    ap length (filter-append (λ (q : Pair). q.certain) ps (p ∷ [])) ∙ length-append (filter (λ (q : Pair). q.certain) ps) (filter (λ (q : Pair). q.certain) (p ∷ [])) ∙ rw f (omega arith)

pub lows-uncertain : (ps : List Pair) (p : Pair) → p.certain ≡ false → certain_lows (ps ++ p ∷ []) ≡ certain_lows ps
lows-uncertain ps p f = filter_map-append _ ps (p ∷ []) ∙ rw f (append-nil (certain_lows ps))

pub highs-uncertain : (ps : List Pair) (p : Pair) → p.certain ≡ false → certain_highs (ps ++ p ∷ []) ≡ certain_highs ps
highs-uncertain ps p f = filter_map-append _ ps (p ∷ []) ∙ rw f (append-nil (certain_highs ps))

-- one more certain pair, or none
pub count-more : (ps : List Pair) (p : Pair) (n : ℕ) → n ≡ cond p.certain 1 0 → certain_count (ps ++ p ∷ []) ≡ certain_count ps + n
count-more ps p n is =
    elim (cases_Bool p.certain) [
      | inl t ↦ count-certain ps p t ∙ ap (λ k. certain_count ps + k) (sym (is ∙ ap (λ b. cond b 1 0) t))
      | inr f ↦ count-uncertain ps p f ∙ (let none : n ≡ 0 = is ∙ ap (λ b. cond b 1 0) f in omega (arith, none))
    ]

-- ---- ends and sums of the longer list, of which one more number was taken in

pub least_low-more : (ps : List Pair) (p : Pair) (n r m : ℤ) → m ≡ r → Some r ≡ answer Min (lows ps ++ n ∷ []) → n ≡ p.low → Some m ≡ answer Min (lows (ps ++ p ∷ []))
least_low-more ps p n r m same e is = ap Some same ∙ e ∙ ap (λ x. answer Min (lows ps ++ x ∷ [])) is ∙ ap (answer Min) (sym (map-more (λ (q : Pair). q.low) ps p))

pub greatest_high-more : (ps : List Pair) (p : Pair) (n r m : ℤ) → m ≡ r → Some r ≡ answer Max (highs ps ++ n ∷ []) → n ≡ p.high → Some m ≡ answer Max (highs (ps ++ p ∷ []))
greatest_high-more ps p n r m same e is = ap Some same ∙ e ∙ ap (λ x. answer Max (highs ps ++ x ∷ [])) is ∙ ap (answer Max) (sym (map-more (λ (q : Pair). q.high) ps p))

pub least_certain-more : (ps : List Pair) (p : Pair) (n r m : ℤ) → p.certain ≡ true → m ≡ r → Some r ≡ answer Min (certain_highs ps ++ n ∷ []) → n ≡ p.high → Some m ≡ answer Min (certain_highs (ps ++ p ∷ []))
least_certain-more ps p n r m t same e is = ap Some same ∙ e ∙ ap (λ x. answer Min (certain_highs ps ++ x ∷ [])) is ∙ ap (answer Min) (sym (highs-certain ps p t))

pub greatest_certain-more : (ps : List Pair) (p : Pair) (n r m : ℤ) → p.certain ≡ true → m ≡ r → Some r ≡ answer Max (certain_lows ps ++ n ∷ []) → n ≡ p.low → Some m ≡ answer Max (certain_lows (ps ++ p ∷ []))
greatest_certain-more ps p n r m t same e is = ap Some same ∙ e ∙ ap (λ x. answer Max (certain_lows ps ++ x ∷ [])) is ∙ ap (answer Max) (sym (lows-certain ps p t))

-- the ends of a sum, which are kept while no row counts for certain

pub if_none : (certain : ℕ) (end : Option ℤ) → certain ≡ 0 → (if certain == 0 then end else None) ≡ end
if_none certain end is = rw is refl

pub low_end-more : (ps : List Pair) (p : Pair) (n : ℤ) (certain : ℕ) (end : Option ℤ) → certain ≡ certain_count (ps ++ p ∷ []) → end ≡ (if certain == 0 then answer Min (lows ps ++ n ∷ []) else None) → n ≡ p.low →
    end ≡ (if certain_count (ps ++ p ∷ []) == 0 then answer Min (lows (ps ++ p ∷ [])) else None)
low_end-more ps p n certain end same is number =
    is ∙ ap (λ k. if k == 0 then answer Min (lows ps ++ n ∷ []) else None) same
    ∙ ap (λ xs. if certain_count (ps ++ p ∷ []) == 0 then answer Min xs else None) (ap (λ m. lows ps ++ m ∷ []) number ∙ sym (map-more (λ (q : Pair). q.low) ps p))

pub high_end-more : (ps : List Pair) (p : Pair) (n : ℤ) (certain : ℕ) (end : Option ℤ) → certain ≡ certain_count (ps ++ p ∷ []) → end ≡ (if certain == 0 then answer Max (highs ps ++ n ∷ []) else None) → n ≡ p.high →
    end ≡ (if certain_count (ps ++ p ∷ []) == 0 then answer Max (highs (ps ++ p ∷ [])) else None)
high_end-more ps p n certain end same is number =
    is ∙ ap (λ k. if k == 0 then answer Max (highs ps ++ n ∷ []) else None) same
    ∙ ap (λ xs. if certain_count (ps ++ p ∷ []) == 0 then answer Max xs else None) (ap (λ m. highs ps ++ m ∷ []) number ∙ sym (map-more (λ (q : Pair). q.high) ps p))

-- ---- what is kept

pub same_tally : (certain all : ℕ) (least_low greatest_high least_certain_high greatest_certain_low : Option ℤ) (low_sum high_sum : ℤ) (t : Tally) →
    certain ≡ t.certain → all ≡ t.all → least_low ≡ t.least_low → greatest_high ≡ t.greatest_high → least_certain_high ≡ t.least_certain_high → greatest_certain_low ≡ t.greatest_certain_low →
    low_sum ≡ t.low_sum → high_sum ≡ t.high_sum →
    t ≡ record {
      certain = certain;
      all = all;
      least_low = least_low;
      greatest_high = greatest_high;
      least_certain_high = least_certain_high;
      greatest_certain_low = greatest_certain_low;
      low_sum = low_sum;
      high_sum = high_sum;
    }
same_tally certain all least_low greatest_high least_certain_high greatest_certain_low low_sum high_sum t a b c d e f g h =
    let whole : t ≡ record {
      certain = t.certain;
      all = t.all;
      least_low = t.least_low;
      greatest_high = t.greatest_high;
      least_certain_high = t.least_certain_high;
      greatest_certain_low = t.greatest_certain_low;
      low_sum = t.low_sum;
      high_sum = t.high_sum;
    } = refl in
    cc

-- what is kept of no pairs is the same for each kind
pub no_pairs : (kind : ItemKind) → tally_of Min [] ≡ tally_of kind []
no_pairs Count = refl
no_pairs Sum = refl
no_pairs Min = refl
no_pairs Max = refl
no_pairs Avg = refl
