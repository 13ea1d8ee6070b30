-- With nothing unread a round is narrow, however near its answers are to be.
use Rattle.std.proofs.Common.{◌≡◌, ◌≢◌, ℕ, zero, suc, ◌+◌, ◌<◌, ◌≤◌, ◌*◌, ℤ, pos, ◌-ℤ◌, ◌*ℤ◌, int_eq, int_le, Bool, true, not, ◌||◌, if◌then◌else◌, List, [], ◌∷◌, refl, sym, ap, ◌∙◌, subst, arith, IsTrue}
use Rattle.std.proofs.Math.Bool.{and-true, or-true}
use Rattle.std.proofs.lemmas.Bool.{false≢true}
use Rattle.std.proofs.lemmas.Bool.Decides.{Decides-int_eq}
use Rattle.std.proofs.lemmas.Int.{ints}
use Rattle.plane_schedule.specs.declared.policy.Nearness.{Nearness}
use Rattle.std.specs.List.{list_all, range_with_len}
use Rattle.interval_calc.specs.Intervals.{Fraction}
use Rattle.query_model.specs.Answers.{every_row}
use Rattle.query_model.specs.Bounds.{AverageBound, Pair, average_bound_of, bound_of, nullity_of, pairs}
use Rattle.query_model.specs.Groups.{cell_count, is_one_value, pairs_in_cell, presence_in_cell}
use Rattle.query_model.specs.Laws.{AverageEndsMeet, AverageEndsOfCellsMeet, EndsMeet, EndsOfCellsMeet, KeysBecomeExact, StandingsBecomeExact, WordsBecomeExact, WordsOfCellsBecomeExact}
use Rattle.query_model.specs.Queries.{Aggregate, Query}
use Rattle.query_model.specs.Knowledge.{ranges_of}
use Rattle.query_model.specs.Ranking.{order_of, standing_under}
use Rattle.query_model.specs.Truths.{Range, may_be_null, may_be_number}
use Rattle.query_model.specs.declared.bounds.Bound.{Bound}
use Rattle.query_model.specs.declared.bounds.Nullity.{Nullity}
use Rattle.query_model.specs.declared.bounds.Nullity.TheVariants.{Always, Never, Possibly}
use Rattle.query_model.specs.declared.bounds.Standing.{Standing}
use Rattle.query_model.specs.declared.bounds.Standing.TheVariants.{Certain, Possible, Excluded}
use Rattle.query_model.specs.declared.query.ItemKind.{ItemKind}
use Rattle.query_model.specs.declared.query.ItemKind.TheVariants.{Count, Sum, Min, Max, Avg}
use Rattle.query_model.specs.declared.query.Shape.{Shape}
use Rattle.query_model.specs.declared.query.Shape.TheVariants.{Plain, Grouped, Top}
use Rattle.round_engine.specs.Narrowness.{are_narrow, is_narrow_average, is_narrow_bound, is_narrow_cell, is_narrow_form, is_narrow_item, is_near_key, is_near_row, is_settled, is_told}
use Rattle.table_rounds.specs.Headline.{FullStagesAreNarrow}

all_hold : {A : Type 0} (test : A → Bool) (xs : List A) → ((x : A) → IsTrue (test x)) → IsTrue (list_all test xs)
all_hold test [] h = refl
all_hold test (x ∷ xs) h = let first = h x in let rest = all_hold test xs h in grind arith

all_below : (test : ℕ → Bool) (a n : ℕ) → ((r : ℕ) → a ≤ r → r < a + n → IsTrue (test r)) → IsTrue (list_all test (range_with_len a n))
all_below test a zero h = refl
all_below test a (suc n) h =
    let first = h a (omega arith) (omega arith) in
    let rest = all_below test (suc a) n (λ r low high. h r (omega arith) (omega arith)) in
    grind arith

narrow_bound : (width : ℕ) (bound : Bound) → bound.null ≢ Possibly → (bound.null ≢ Always → bound.lo ≡ bound.hi) → IsTrue (is_narrow_bound width bound)
narrow_bound width bound known meet = by bound.null bound.lo bound.hi known meet
  where
    by : (word : Nullity) (lo hi : ℤ) → word ≢ Possibly → (word ≢ Always → lo ≡ hi) → IsTrue (is_told word (int_le (hi -ℤ lo) (pos width)))
    by Never lo hi known meet = let same : lo ≡ hi = meet (λ e. cc) in grind (arith, ints)
    by Possibly lo hi known meet = absurd (known refl)
    by Always lo hi known meet = refl

no_difference_is_near : (z : ℤ) (k : ℕ) → z ≡ pos 0 → IsTrue (int_le z (pos k))
no_difference_is_near z k e = grind (arith, ints)

equal_is_near : (width : ℕ) (num : ℤ) (den : ℕ) → IsTrue (int_le ((num *ℤ pos den) -ℤ (num *ℤ pos den)) (pos (width * den * den)))
equal_is_near width num den = let n = num *ℤ pos den in let none : n -ℤ n ≡ pos 0 = omega (arith, ints) in no_difference_is_near (n -ℤ n) (width * den * den) none

narrow_average : (width : ℕ) (bound : AverageBound) → bound.null ≢ Possibly → (bound.null ≢ Always → bound.lo ≡ bound.hi) → IsTrue (is_narrow_average width bound)
narrow_average width bound known meet = by bound.null bound.lo bound.hi known meet
  where
    by : (word : Nullity) (lo hi : Fraction) → word ≢ Possibly → (word ≢ Always → lo ≡ hi) → IsTrue (is_told word (int_le ((hi.num *ℤ pos lo.den) -ℤ (lo.num *ℤ pos hi.den)) (pos (width * lo.den * hi.den))))
    by Never lo hi known meet =
        let same : lo ≡ hi = meet (λ e. cc) in
        subst (λ h. IsTrue (int_le ((h.num *ℤ pos lo.den) -ℤ (lo.num *ℤ pos h.den)) (pos (width * lo.den * h.den)))) same (equal_is_near width lo.num lo.den)
    by Possibly lo hi known meet = absurd (known refl)
    by Always lo hi known meet = refl

never_possibly : Never ≢ Possibly
never_possibly = λ e. cc

average_word : (ps : List Pair) → (average_bound_of ps).null ≡ nullity_of ps
average_word [] = refl
average_word (p ∷ ps) = refl

-- what is known of lists of pairs when everything is read
record AreExact (pairs_for : Aggregate → List Pair) : Type 0 where
  pub words : (item : Aggregate) → nullity_of (pairs_for item) ≢ Possibly
  pub ends : (item : Aggregate) → item.kind ≢ Avg → (bound_of item.kind (pairs_for item)).null ≢ Always →
      (bound_of item.kind (pairs_for item)).lo ≡ (bound_of item.kind (pairs_for item)).hi
  pub averages : (item : Aggregate) → (average_bound_of (pairs_for item)).null ≢ Always →
      (average_bound_of (pairs_for item)).lo ≡ (average_bound_of (pairs_for item)).hi

items_are_narrow : (width : ℕ) (items : List Aggregate) (pairs_for : Aggregate → List Pair) → AreExact pairs_for → IsTrue (are_narrow width items pairs_for)
items_are_narrow width items pairs_for exact = all_hold (λ item. is_narrow_item width item.kind (pairs_for item)) items (λ item. by item item.kind refl)
  where
    ends : (item : Aggregate) (kind : ItemKind) → item.kind ≡ kind → kind ≢ Avg → (bound_of kind (pairs_for item)).null ≢ Always →
        (bound_of kind (pairs_for item)).lo ≡ (bound_of kind (pairs_for item)).hi
    ends item kind e plain = subst (λ k. (bound_of k (pairs_for item)).null ≢ Always → (bound_of k (pairs_for item)).lo ≡ (bound_of k (pairs_for item)).hi) e
        (exact.ends item (λ a. plain (sym e ∙ a)))

    by : (item : Aggregate) (kind : ItemKind) → item.kind ≡ kind → IsTrue (is_narrow_item width kind (pairs_for item))
    by item Count e = narrow_bound width (bound_of Count (pairs_for item)) never_possibly (λ n. ends item Count e (λ a. cc) n)
    by item Sum e = narrow_bound width (bound_of Sum (pairs_for item)) (exact.words item) (λ n. ends item Sum e (λ a. cc) n)
    by item Min e = narrow_bound width (bound_of Min (pairs_for item)) (exact.words item) (λ n. ends item Min e (λ a. cc) n)
    by item Max e = narrow_bound width (bound_of Max (pairs_for item)) (exact.words item) (λ n. ends item Max e (λ a. cc) n)
    by item Avg e = narrow_average width (average_bound_of (pairs_for item)) (subst (λ w. w ≢ Possibly) (sym (average_word (pairs_for item))) (exact.words item)) (exact.averages item)

told_near : (word : Nullity) (near : Bool) → word ≢ Possibly → IsTrue near → IsTrue (is_told word near)
told_near Never near known h = h
told_near Possibly near known h = absurd (known refl)
told_near Always near known h = refl

-- a range of one value is near
one_is_near : (width : ℕ) (range : Range) → IsTrue (is_one_value range) → IsTrue (is_near_key width range)
one_is_near width range one = by range.null range.numbers.low range.numbers.high one
  where
    by : (word : Nullity) (lo hi : ℤ) → IsTrue (if may_be_null word then not (may_be_number word) else int_eq lo hi) → IsTrue (is_told word (int_le (hi -ℤ lo) (pos width)))
    by Never lo hi one = let same : lo ≡ hi = (Decides-int_eq lo hi).0 one in grind (arith, ints)
    by Possibly lo hi one = absurd (false≢true one)
    by Always lo hi one = refl

settled : (near : Nearness) (key : Range) (standing : Standing) → standing ≢ Possible → IsTrue (is_near_key near.width key) → IsTrue (is_near_row near key standing)
settled near key Certain known one = ap (λ b. not near.keys || b) one ∙ or-true (not near.keys)
settled near key Possible known one = absurd (known refl)
settled near key Excluded known one = refl

-- the laws of what is read to its end
pub record ExactLaws : Type 0 where
  pub words : WordsBecomeExact
  pub ends : EndsMeet
  pub averages : AverageEndsMeet
  pub words_of_cells : WordsOfCellsBecomeExact
  pub ends_of_cells : EndsOfCellsMeet
  pub averages_of_cells : AverageEndsOfCellsMeet
  pub standings : StandingsBecomeExact
  pub keys : KeysBecomeExact

pub full_stages_are_narrow : ExactLaws → FullStagesAreNarrow
full_stages_are_narrow law near stage known read = by stage.query.shape
  where
    query : Query
    query = stage.query

    all_items : IsTrue (are_narrow near.width query.items (λ item. pairs query item [] stage.frame stage.known))
    all_items = items_are_narrow near.width query.items (λ item. pairs query item [] stage.frame stage.known) (record {
      words = λ item. law.words query item [] stage.frame stage.known known read;
      ends = λ item plain. law.ends query item [] stage.frame stage.known plain known read;
      averages = λ item. law.averages query item [] stage.frame stage.known known read;
    })

    in_cell : (cell : ℕ) → IsTrue (is_narrow_cell near.width stage cell)
    in_cell cell = told_near (presence_in_cell query cell stage.frame stage.known) _ (law.words_of_cells query every_row stage.frame stage.known cell known read)
        (items_are_narrow near.width query.items (λ item. pairs_in_cell query item cell stage.frame stage.known) (record {
          words = λ item. law.words_of_cells query item stage.frame stage.known cell known read;
          ends = λ item plain. law.ends_of_cells query item stage.frame stage.known cell plain known read;
          averages = λ item. law.averages_of_cells query item stage.frame stage.known cell known read;
        }))

    by : (shape : Shape) → IsTrue (is_narrow_form near stage shape)
    by Plain = all_items
    by (Grouped columns) = all_hold (is_narrow_cell near.width stage) (range_with_len 0 (cell_count stage.known columns)) in_cell
    by (Top key down limit) = all_below (is_settled near stage key) 0 stage.frame.rows
        (λ r low r_in.
        let ranges = ranges_of stage.frame stage.known r in
        let one : IsTrue (is_one_value (ranges key)) = sym (and-true (is_one_value (ranges key))) ∙ law.keys stage.frame stage.known (key ∷ []) r known read (omega arith) in
        settled near (ranges key) (standing_under query stage.frame stage.known r)
        (law.standings query.pred (order_of query.shape) stage.frame stage.known r known read (omega arith)) (one_is_near near.width (ranges key) one))
