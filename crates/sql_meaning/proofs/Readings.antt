-- How the numbers of typed values stand for values, and what is computed of lists of them.
use Rattle.std.proofs.Common.{◌≡◌, ℕ, suc, ◌<◌, cond, ℤ, pos, negsuc, ◌+ℤ◌, Bool, true, false, if◌then◌else◌, List, [], ◌∷◌, length, map, filter, Option, Some, None, refl, sym, ap, subst, ◌∙◌, arith, IsTrue, slice_get}
use Rattle.std.proofs.lemmas.Int.{ints}
use Rattle.std.proofs.lemmas.Option.{none-some, same_Some}
use Rattle.std.specs.Prelude.{int_lt}
use Rattle.std.specs.Cmp.{int_cmp_is, int_ranks}
use Rattle.std.specs.Cmp.Lexicographic.{slice_cmp}
use Rattle.std.specs.Int.{int_max, int_min}
use Rattle.std.specs.List.{AllByRecursion, cons_option, filter_map}
use Rattle.std.specs.Option.{option_map}
use Rattle.std.specs.declared.cmp.Ordering.{Ordering}
use Rattle.std.specs.declared.cmp.Ordering.TheVariants.{Less, Equal, Greater}
use Rattle.std.specs.Ordering.{MatchOrdering, int_cmp, nat_cmp}
use Rattle.daq_table.specs.ColumnFacts.{is_ascending}
use Rattle.daq_table.specs.declared.head.Kind.{Kind}
use Rattle.daq_table.specs.declared.head.Kind.TheVariants as kinds
use Rattle.query_model.specs.Answers as typed
use Rattle.query_model.specs.Answers.{same_value, unless_empty}
use Rattle.sql_typing.specs.Typing.{is_name, names_below}
use Rattle.sql_meaning.specs.Values.{Decimal, Value, Number, Day, Text, compare}
use Rattle.sql_meaning.specs.Conditions.{Row}
use Rattle.sql_meaning.specs.Expressions.{plus}
use Rattle.sql_meaning.specs.Answers.{greater, greatest, is_after, is_same, least, lesser, total}
use Rattle.sql_meaning.specs.Laws.{IsShownAs}
use Rattle.sql_meaning.specs.Rows.{text_at, value_in}
use Rattle.sql_meaning.proofs.Decimals.{IsDecimal, added, is_decimal, ordered}
use Rattle.sql_meaning.proofs.Spots.{more_by}
use Rattle.sql_meaning.proofs.Texts.{IsRank, ranked}
use Rattle.sql_meaning.proofs.Truths.{numbers_alike}

-- a number stands for a value, and null for null
abbrev pub Related : (ℤ → Value → Type 0) → Option ℤ → Option Value → Type 0
Related R None v = v ≡ None
Related R (Some z) v = (u : Value) × (v ≡ Some u) × R z u

-- what numbers stand for: shown so, and in the order of the values
pub record IsReading (shows : ℤ → Option Value) (R : ℤ → Value → Type 0) : Type 0 where
  pub is_shown : (z : ℤ) (u : Value) → R z u → IsTrue (is_same (shows z) (Some u))
  pub in_order : (x y : ℤ) (u v : Value) → R x u → R y v → compare u v ≡ Some (int_cmp x y)

-- ---- numbers of so many decimals

abbrev pub IsNumber : ℕ → ℤ → Value → Type 0
IsNumber s z u = (d : Decimal) × (u ≡ Number d) × IsDecimal s z d

abbrev pub number_shown : ℕ → ℤ → Option Value
number_shown s z = Some (Number (record { digits = z; behind = s }))

pub numbers_read : (s : ℕ) → IsReading (number_shown s) (IsNumber s)
numbers_read s = record {
  is_shown = λ z u h. rw (h.1, is_decimal s z h.0 h.2) refl;
  in_order = λ x y u v h k. rw (h.1, k.1) (ap Some (ordered s x y h.0 k.0 h.2 k.2));
}

-- ---- numbers of a column

int_same : (z : ℤ) → int_cmp z z ≡ Equal
int_same z = sym (int_cmp_is z z Equal refl)

text_same : (o : Ordering) → MatchOrdering o ⊥ (Unit {0}) ⊥ → o ≡ Equal
text_same Less h = elim h [ ]
text_same Equal h = refl
text_same Greater h = elim h [ ]

list_same : (t : List ℕ) → slice_cmp nat_cmp t t ≡ Equal
list_same [] = refl
list_same (x ∷ xs) = rw (first x) (list_same xs)
  where
    first : (x : ℕ) → nat_cmp x x ≡ Equal
    first x = grind arith

pub same_itself : (u : Value) → IsTrue (is_same (Some u) (Some u))
same_itself (Number d) = rw (is_decimal d.behind d.digits d refl) refl
same_itself (Day d) = rw (int_same d) refl
same_itself (Text t) = rw (list_same t) refl

rank_order : (j k p : ℕ) (named : Bool) (o : Ordering) → k ≡ p → named ≡ true → IsRank j p named o → o ≡ int_cmp (pos j) (pos k)
rank_order j k p named Less e y h = let lt : j < p = h in int_cmp_is (pos j) (pos k) Less (omega (arith, ints, lt, e))
rank_order j k p named Equal e y h = let same : j ≡ p = h.0 in int_cmp_is (pos j) (pos k) Equal (omega (arith, ints, same, e))
rank_order j k p named Greater e y h = let lt : p < j = h.1 y in int_cmp_is (pos j) (pos k) Greater (omega (arith, ints, lt, e))

names_order : (names : List (List ℕ)) → IsTrue (is_ascending names) → (j k : ℕ) (s t : List ℕ) → slice_get names j ≡ Some s → slice_get names k ≡ Some t → slice_cmp nat_cmp s t ≡ int_cmp (pos j) (pos k)
names_order names a j k s t e f =
    let own : IsRank k (names_below names t) (is_name names t) Equal = subst (λ o. IsRank k (names_below names t) (is_name names t) o) (list_same t) (ranked names t a k t f) in
    rank_order j k (names_below names t) (is_name names t) (slice_cmp nat_cmp s t) own.0 own.1 (ranked names t a j s e)

pub record IsTextAt (names : List (List ℕ)) (z : ℤ) (u : Value) : Type 0 where
  pub rank : ℕ
  pub name : List ℕ
  pub number : z ≡ pos rank
  pub get : slice_get names rank ≡ Some name
  pub is : u ≡ Text name

text_by : (names : List (List ℕ)) (k : ℕ) (o : Option (List ℕ)) (u : Value) → slice_get names k ≡ o → option_map Text o ≡ Some u → IsTextAt names (pos k) u
text_by names k None u get e = absurd (none-some u e)
text_by names k (Some name) u get e = record { rank = k; name = name; number = refl; get = get; is = sym (same_Some (Text name) u e) }

pub text_is : (names : List (List ℕ)) (z : ℤ) (u : Value) → text_at names z ≡ Some u → IsTextAt names z u
text_is names (pos k) u e = text_by names k (slice_get names k) u refl e
text_is names (negsuc k) u e = absurd (none-some u e)

texts_order : (names : List (List ℕ)) → IsTrue (is_ascending names) → (x y : ℤ) (u v : Value) → text_at names x ≡ Some u → text_at names y ≡ Some v → compare u v ≡ Some (int_cmp x y)
texts_order names a x y u v e f =
    let s = text_is names x u e in
    let t = text_is names y v f in
    ap (λ w. compare w v) s.is ∙ ap (λ w. compare (Text s.name) w) t.is ∙ ap Some (names_order names a s.rank t.rank s.name t.name s.get t.get)
    ∙ ap (λ z. Some (int_cmp z (pos t.rank))) (sym s.number) ∙ ap (λ z. Some (int_cmp x z)) (sym t.number)

column_order : (kind : Kind) (names : List (List ℕ)) → IsTrue (is_ascending names) → (x y : ℤ) (u v : Value) → value_in kind names x ≡ Some u → value_in kind names y ≡ Some v → compare u v ≡ Some (int_cmp x y)
column_order kinds.Int names a x y u v e f = numbers_alike 0 0 x y u v refl e f
column_order (kinds.Dec s) names a x y u v e f = numbers_alike s s x y u v refl e f
column_order kinds.Date names a x y u v e f = rw (sym (same_Some (Day x) u e), sym (same_Some (Day y) v f)) refl
column_order kinds.Text names a x y u v e f = texts_order names a x y u v e f

pub columns_read : (kind : Kind) (names : List (List ℕ)) → IsTrue (is_ascending names) → IsReading (value_in kind names) (λ z u. value_in kind names z ≡ Some u)
columns_read kind names a = record {
  is_shown = λ z u e. rw e (same_itself u);
  in_order = column_order kind names a;
}

-- ---- one value

module _ (shows : ℤ → Option Value) (R : ℤ → Value → Type 0) (reads : IsReading shows R) where
  pub shown_is : (o : Option ℤ) (v : Option Value) → Related R o v → IsShownAs shows o v
  shown_is None v h = h
  shown_is (Some z) v h = (h.0, h.1, reads.is_shown z h.0 h.2)

  pub same_is : (o p : Option ℤ) (u v : Option Value) → Related R o u → Related R p v → same_value o p ≡ is_same u v
  same_is None None u v h k = rw (h, k) refl
  same_is None (Some y) u v h k = rw (h, k.1) refl
  same_is (Some x) None u v h k = rw (h.1, k) refl
  same_is (Some x) (Some y) u v h k = rw (h.1, k.1, reads.in_order x y h.0 k.0 h.2 k.2) refl

-- ---- lists

abbrev pub AreRelated : (ℤ → Value → Type 0) → List ℤ → List Value → Type 0
AreRelated R [] [] = Unit {0}
AreRelated R [] (u ∷ us) = ⊥
AreRelated R (z ∷ zs) [] = ⊥
AreRelated R (z ∷ zs) (u ∷ us) = R z u × AreRelated R zs us

module _ (R : ℤ → Value → Type 0) where
  one_more : (o : Option ℤ) (v : Option Value) (zs : List ℤ) (us : List Value) → Related R o v → AreRelated R zs us → AreRelated R (cons_option o zs) (cons_option v us)
  one_more None v zs us h k = rw h k
  one_more (Some z) v zs us h k = rw h.1 (h.2, k)

  step : (g : Row → Option Value) (x : Row) (ys : List Row) (b : Bool) (o : Option ℤ) (zs : List ℤ) → Related R o (g x) → AreRelated R zs (filter_map g ys)
      → AreRelated R (cons_option (if b then o else None) zs) (filter_map g (if b then x ∷ ys else ys))
  step g x ys true o zs h k = one_more o (g x) zs (filter_map g ys) h k
  step g x ys false o zs h k = k

  -- the values that some rows give
  pub lists_alike : (p : ℕ → Bool) (f : ℕ → Option ℤ) (keep : Row → Bool) (g : Row → Option Value) (row : ℕ → Row) (rs : List ℕ) → AllByRecursion (λ r. (p r ≡ keep (row r)) × Related R (f r) (g (row r))) rs
      → AreRelated R (filter_map (λ r. if p r then f r else None) rs) (filter_map g (filter keep (map row rs)))
  lists_alike p f keep g row [] h = tt
  lists_alike p f keep g row (r ∷ rs) h =
      rw h.0.0 (step g (row r) (filter keep (map row rs)) (keep (row r)) (f r) (filter_map (λ r. if p r then f r else None) rs) h.0.1 (lists_alike p f keep g row rs h.1))

  pub as_many : (zs : List ℤ) (us : List Value) → AreRelated R zs us → length zs ≡ length us
  as_many [] [] h = refl
  as_many [] (u ∷ us) h = elim h [ ]
  as_many (z ∷ zs) [] h = elim h [ ]
  as_many (z ∷ zs) (u ∷ us) h = ap suc (as_many zs us h.1)

module _ (shows : ℤ → Option Value) (R : ℤ → Value → Type 0) (reads : IsReading shows R) where
  pub after_is : (x y : ℤ) (u v : Value) → R x u → R y v → is_after u v ≡ int_lt y x
  after_is x y u v h k = rw (reads.in_order x y u v h k) (sym (more_by x y (int_cmp x y) (int_ranks x y)))

  chosen : (b : Bool) (x y : ℤ) (u v : Value) → R x u → R y v → R (cond b x y) (if b then u else v)
  chosen true x y u v h k = h
  chosen false x y u v h k = k

  lesser_is : (x y : ℤ) (u v : Value) → R x u → R y v → R (int_min x y) (lesser u v)
  lesser_is x y u v h k = rw (after_is x y u v h k) (chosen (int_lt y x) y x v u k h)

  greater_is : (x y : ℤ) (u v : Value) → R x u → R y v → R (int_max x y) (greater u v)
  greater_is x y u v h k = rw (after_is x y u v h k) (chosen (int_lt y x) x y u v h k)

  some_least : (z : ℤ) (zs : List ℤ) (u : Value) (us : List Value) → R z u → AreRelated R zs us → Related R (Some (typed.least (z ∷ zs))) (least (u ∷ us))
  some_least z [] u [] h k = (u, refl, h)
  some_least z [] u (v ∷ us) h k = elim k [ ]
  some_least z (y ∷ zs) u [] h k = elim k [ ]
  some_least z (y ∷ zs) u (v ∷ us) h k =
      let rest = some_least y zs v us k.0 k.1 in
      (lesser u rest.0, rw rest.1 refl, lesser_is z (typed.least (y ∷ zs)) u rest.0 h rest.2)

  some_greatest : (z : ℤ) (zs : List ℤ) (u : Value) (us : List Value) → R z u → AreRelated R zs us → Related R (Some (typed.greatest (z ∷ zs))) (greatest (u ∷ us))
  some_greatest z [] u [] h k = (u, refl, h)
  some_greatest z [] u (v ∷ us) h k = elim k [ ]
  some_greatest z (y ∷ zs) u [] h k = elim k [ ]
  some_greatest z (y ∷ zs) u (v ∷ us) h k =
      let rest = some_greatest y zs v us k.0 k.1 in
      (greater u rest.0, rw rest.1 refl, greater_is z (typed.greatest (y ∷ zs)) u rest.0 h rest.2)

  pub least_is : (zs : List ℤ) (us : List Value) → AreRelated R zs us → Related R (unless_empty zs (typed.least zs)) (least us)
  least_is [] [] h = refl
  least_is [] (u ∷ us) h = elim h [ ]
  least_is (z ∷ zs) [] h = elim h [ ]
  least_is (z ∷ zs) (u ∷ us) h = some_least z zs u us h.0 h.1

  pub greatest_is : (zs : List ℤ) (us : List Value) → AreRelated R zs us → Related R (unless_empty zs (typed.greatest zs)) (greatest us)
  greatest_is [] [] h = refl
  greatest_is [] (u ∷ us) h = elim h [ ]
  greatest_is (z ∷ zs) [] h = elim h [ ]
  greatest_is (z ∷ zs) (u ∷ us) h = some_greatest z zs u us h.0 h.1

-- ---- totals

last : (s : ℕ) (z : ℤ) (d : Decimal) → IsDecimal s z d → IsDecimal s (z +ℤ pos 0) d
last s z d h = let e : z +ℤ pos 0 ≡ z = omega (arith, ints) in rw e h

some_total : (s : ℕ) (z : ℤ) (zs : List ℤ) (u : Value) (us : List Value) → IsNumber s z u → AreRelated (IsNumber s) zs us → Related (IsNumber s) (Some (typed.total (z ∷ zs))) (total (u ∷ us))
some_total s z [] u [] h k = (u, refl, (h.0, h.1, last s z h.0 h.2))
some_total s z [] u (v ∷ us) h k = elim k [ ]
some_total s z (y ∷ zs) u [] h k = elim k [ ]
some_total s z (y ∷ zs) u (v ∷ us) h k =
    let rest = some_total s y zs v us k.0 k.1 in
    let sum = plus h.0 rest.2.0 in
    (Number sum, rw (rest.1, rest.2.1, h.1) refl, (sum, refl, added s z (typed.total (y ∷ zs)) h.0 rest.2.0 h.2 rest.2.2))

pub total_is : (s : ℕ) (zs : List ℤ) (us : List Value) → AreRelated (IsNumber s) zs us → Related (IsNumber s) (unless_empty zs (typed.total zs)) (total us)
total_is s [] [] h = refl
total_is s [] (u ∷ us) h = elim h [ ]
total_is s (z ∷ zs) [] h = elim h [ ]
total_is s (z ∷ zs) (u ∷ us) h = some_total s z zs u us h.0 h.1
