-- The exact ends of an average: the greatest and the least average over all choices of the rows that may count and need not.
-- A row gives a pair where it may pass with a value. It is certain where it surely does; a row whose argument may be null is
-- uncertain, and one whose argument is surely null gives no pair.
use Rattle.std.specs.Prelude.{ℕ, nat_lt, ℤ, pos, ◌-ℤ◌, ◌*ℤ◌, ◌≡◌, ◌≤◌, ◌≤ℤ◌, int_le, int_lt, Bool}
use Rattle.std.specs.Prelude.{false, not, ◌&&◌, ◌||◌, List, [], ◌∷◌, ◌++◌, length, map, IsTrue, if◌then◌else◌}
use Rattle.std.specs.declared.option.Option.{Option}
use Rattle.std.specs.declared.option.Option.TheVariants.{Some, None}
use Rattle.std.specs.List.{filter, list_any}
use Rattle.std.specs.Option.{option_map}
use Rattle.std.specs.Ordering.{int_eq}
use Rattle.interval_calc.specs.Intervals.{Fraction}
use Rattle.daq_table.specs.Tables.{Frame}
use Rattle.query_model.specs.declared.bounds.Nullity.{Nullity}
use Rattle.query_model.specs.Queries.{Aggregate, Query}
use Rattle.query_model.specs.Knowledge.{Knowledge}
use Rattle.query_model.specs.Answers.{total}
use Rattle.query_model.specs.Bounds.{AverageBound, Pair, highs, nullity_of, pairs, some_certain}
use Rattle.avg_exact.specs.declared.exact.Exact as code

-- ---- choices of rows

-- a choice takes the uncertain rows whose high is at least its cut; without a cut it takes none
abbrev pub Cut : Type 0
Cut = Option ℤ

abbrev pub takes : Cut → Pair → Bool
takes None p = false
takes (Some h) p = not p.certain && int_le h p.high

-- the rows that a choice takes, and those that then give a value: these and the certain ones
abbrev pub rows_taken : Cut → List Pair → List Pair
rows_taken cut ps = filter (takes cut) ps

abbrev pub rows_counted : Cut → List Pair → List Pair
rows_counted cut ps = filter (λ p. p.certain || takes cut p) ps

-- some row gives a value: without a cut a certain one, with a cut one that is taken
abbrev pub IsAllowed : List Pair → Cut → Type 0
IsAllowed ps None = IsTrue (some_certain ps)
IsAllowed ps (Some h) = 1 ≤ length (rows_taken (Some h) ps)

-- what a choice comes to: the sum of the highs of the rows that give a value, their number, and how many are taken
pub record Choice : Type 0 where
  pub cut : Cut
  pub sum : ℤ
  pub rows : ℕ
  pub taken : ℕ

abbrev pub choice_of : List Pair → Cut → Choice
choice_of ps cut = record {
  cut = cut;
  sum = total (highs (rows_counted cut ps));
  rows = length (rows_counted cut ps);
  taken = length (rows_taken cut ps);
}

-- ---- the best choice

-- the average of the first is less than that of the second
abbrev pub is_less : Choice → Choice → Bool
is_less a b = int_lt (a.sum *ℤ pos b.rows) (b.sum *ℤ pos a.rows)

-- of two choices that of the greater average, and of equal averages that which takes fewer rows
abbrev pub better_of : Choice → Choice → Choice
better_of a b = if is_less a b || (not (is_less b a) && nat_lt b.taken a.taken) then b else a

-- the best of some choices; of none the average 0 / 1
abbrev pub best_of : List Choice → Choice
best_of [] = record { cut = None; sum = pos 0; rows = 1; taken = 0 }
best_of (c ∷ []) = c
best_of (c ∷ d ∷ ds) = better_of c (best_of (d ∷ ds))

-- the cuts at the highs of the uncertain rows, and none where a row is certain
abbrev pub cuts_of : List Pair → List Cut
cuts_of ps = (if some_certain ps then None ∷ [] else []) ++ map (λ p. Some p.high) (filter (λ p. not p.certain) ps)

-- the greatest average that the rows can have: of the uncertain rows those count whose high is at least some cut
abbrev pub high_end : List Pair → Choice
high_end ps = best_of (map (choice_of ps) (cuts_of ps))

-- the low end is that of the negated values, negated: lows, rows whose low is at most the cut, and the least average
abbrev pub negative : ℤ → ℤ
negative z = pos 0 -ℤ z

abbrev pub negated : Pair → Pair
negated p = record { certain = p.certain; low = negative p.high; high = negative p.low }

abbrev pub negated_choice : Choice → Choice
negated_choice c = record { cut = option_map negative c.cut; sum = negative c.sum; rows = c.rows; taken = c.taken }

-- the least average that they can have
abbrev pub low_end : List Pair → Choice
low_end ps = negated_choice (high_end (map negated ps))

-- ---- the exact average

-- both ends, how many rows are uncertain, how many of them each end takes, and from where on
pub record ExactAverage : Type 0 where
  pub null : Nullity
  pub lo : Fraction
  pub hi : Fraction
  pub unknown : ℕ
  pub low_taken : ℕ
  pub high_taken : ℕ
  pub low_cut : Cut
  pub high_cut : Cut

abbrev pub fraction_of : Choice → Fraction
fraction_of c = record { num = c.sum; den = c.rows }

-- where no row may count, both ends are 0 / 1
abbrev pub exact_of : List Pair → ExactAverage
exact_of ps = record {
  null = nullity_of ps;
  lo = fraction_of (low_end ps);
  hi = fraction_of (high_end ps);
  unknown = length (filter (λ p. not p.certain) ps);
  low_taken = (low_end ps).taken;
  high_taken = (high_end ps).taken;
  low_cut = (low_end ps).cut;
  high_cut = (high_end ps).cut;
}

-- that of an item of a query without groups, under what is known
abbrev pub exact_under : Query → Aggregate → Frame → Knowledge → ExactAverage
exact_under query item frame known = exact_of (pairs query item [] frame known)

-- its ends, as the bound of an average
abbrev pub ends_of : ExactAverage → AverageBound
ends_of exact = record { null = exact.null; lo = exact.lo; hi = exact.hi }

-- what the numbers of the code stand for
abbrev pub exact_average_of : code.Exact → ExactAverage
exact_average_of exact = record {
  null = exact.null;
  lo = record { num = exact.lo.num; den = exact.lo.den };
  hi = record { num = exact.hi.num; den = exact.hi.den };
  unknown = exact.unknown;
  low_taken = exact.low_taken;
  high_taken = exact.high_taken;
  low_cut = exact.low_cut;
  high_cut = exact.high_cut;
}

-- a cut is there exactly where rows are taken
abbrev pub IsCutOf : Cut → ℕ → Type 0
IsCutOf None taken = taken ≡ 0
IsCutOf (Some h) taken = 1 ≤ taken

-- ---- the ends by their properties

-- the cut of a choice is the high of an uncertain row
abbrev pub IsReached : List Pair → Cut → Type 0
IsReached ps None = Unit {0}
IsReached ps (Some h) = IsTrue (list_any (λ p. not p.certain && int_eq p.high h) ps)

-- the choice is allowed, none that is allowed has a greater average, and of those of the same average none takes fewer rows. Its cut
-- is the least high that it takes
pub record IsHighEnd (ps : List Pair) (end : Choice) : Type 0 where
  pub allowed : IsAllowed ps end.cut
  pub choice : end ≡ choice_of ps end.cut
  pub reached : IsReached ps end.cut
  pub greatest : (cut : Cut) → IsAllowed ps cut → ((choice_of ps cut).sum *ℤ pos end.rows) ≤ℤ (end.sum *ℤ pos (choice_of ps cut).rows)
  pub fewest : (cut : Cut) → IsAllowed ps cut →
      (choice_of ps cut).sum *ℤ pos end.rows ≡ end.sum *ℤ pos (choice_of ps cut).rows → end.taken ≤ (choice_of ps cut).taken
