-- The numbers that a condition lets through for a column, where ranges tell them: one, or several that are joined by AND.
use Rattle.std.specs.Prelude.{ℕ, ℤ, pos, negsuc, ◌+ℤ◌, ◌-ℤ◌, ◌≤ℤ◌}
use Rattle.std.specs.Prelude.{int_lt, Bool, true, false, ◌&&◌, ◌==◌, if◌then◌else◌}
use Rattle.std.specs.Int.{int_max, int_min}
use Rattle.std.specs.declared.option.Option.{Option}
use Rattle.std.specs.declared.option.Option.TheVariants.{Some, None}
use Rattle.std.specs.List.{list_any}
use Rattle.query_model.specs.declared.query.Atom.{Atom}
use Rattle.query_model.specs.declared.query.Atom.TheVariants.{Compare, CompareColumns, Between, OneOf, IsNull}
use Rattle.query_model.specs.declared.query.Comparison.{Comparison}
use Rattle.query_model.specs.declared.query.Comparison.TheVariants.{Eq, Ne, Lt, Le, Gt, Ge}
use Rattle.query_model.specs.declared.query.ItemKind.{ItemKind}
use Rattle.query_model.specs.declared.query.ItemKind.TheVariants.{Count, Sum, Min, Max, Avg}
use Rattle.query_model.specs.declared.query.Shape.{Shape}
use Rattle.query_model.specs.declared.query.Shape.TheVariants.{Plain, Grouped, Top}
use Rattle.query_model.specs.Attaining.{beside_ranges}
use Rattle.query_model.specs.Meaning.{columns_of_pred}
use Rattle.query_model.specs.Queries.{Aggregate, Condition, All, Single, Both, Either}
use Rattle.query_model.specs.Queries.{Negation, Query, Term, Column, Literal, Add, Sub, Mul}
use Rattle.clip_bounds.specs.declared.clip.Clip.{Clip}

-- ---- the range of an atom

-- an end that is open: the least and the greatest number of 64 bits, which no column passes
abbrev pub least_number : ℤ
least_number = negsuc 9223372036854775807

abbrev pub greatest_number : ℤ
greatest_number = pos 9223372036854775807

-- a number that a column may have
abbrev pub IsLong : ℤ → Type 0
IsLong x = (least_number ≤ℤ x) × (x ≤ℤ greatest_number)

-- the numbers next to another. The least and the greatest number of 128 bits stand for themselves: a column has no number below, or above
abbrev pub before : ℤ → ℤ
before v = if int_lt (negsuc 170141183460469231731687303715884105727) v then v -ℤ pos 1 else v

abbrev pub behind : ℤ → ℤ
behind v = if int_lt v (pos 170141183460469231731687303715884105727) then v +ℤ pos 1 else v

-- the numbers that a comparison with a number lets through; of "not equal" they are no range
abbrev pub clip_of_comparison : ℕ → Comparison → ℤ → Option Clip
clip_of_comparison c Eq v = Some (record { column = c; low = v; high = v })
clip_of_comparison c Ne v = None
clip_of_comparison c Lt v = Some (record { column = c; low = least_number; high = before v })
clip_of_comparison c Le v = Some (record { column = c; low = least_number; high = v })
clip_of_comparison c Gt v = Some (record { column = c; low = behind v; high = greatest_number })
clip_of_comparison c Ge v = Some (record { column = c; low = v; high = greatest_number })

abbrev pub clip_of_atom : Atom → Option Clip
clip_of_atom (Compare c op v) = clip_of_comparison c op v
clip_of_atom (CompareColumns l op r) = None
clip_of_atom (Between c low high) = Some (record { column = c; low = low; high = high })
clip_of_atom (OneOf c values) = None
clip_of_atom (IsNull c) = None

-- ---- the range of an item's column

-- the clip, if it is one of the column
abbrev pub if_of : ℕ → Option Clip → Option Clip
if_of c None = None
if_of c (Some clip) = if clip.column == c then Some clip else None

-- the numbers that two clips of one column both let through: none where they do not meet, and its low end then lies above its high end
abbrev pub common : Clip → Clip → Clip
common a b = record { column = a.column; low = int_max a.low b.low; high = int_min a.high b.high }

-- what both let through, or the one that there is
abbrev pub common_of : Option Clip → Option Clip → Option Clip
common_of None b = b
common_of (Some a) None = Some a
common_of (Some a) (Some b) = Some (common a b)

-- what the ranges of the column let through together: those that are the condition itself, or operands of its top ANDs
abbrev pub clip_in : Condition → ℕ → Option Clip
clip_in All c = None
clip_in (Single atom) c = if_of c (clip_of_atom atom)
clip_in (Both a b) c = common_of (clip_in a c) (clip_in b c)
clip_in (Either a b) c = None
clip_in (Negation a) c = None

-- the column stands in the condition elsewhere than in such ranges
abbrev pub stands_beside : Condition → ℕ → Bool
stands_beside pred c = list_any (λ d. c == d) (columns_of_pred (beside_ranges pred))

abbrev pub clip_of_argument : Condition → Term → Option Clip
clip_of_argument pred (Column c) = if stands_beside pred c then None else clip_in pred c
clip_of_argument pred (Literal n) = None
clip_of_argument pred (Add a b) = None
clip_of_argument pred (Sub a b) = None
clip_of_argument pred (Mul a b) = None

-- sums and extremes are clipped; a count has no values, and an average is not monotone in the number of its rows
abbrev pub is_clipped_kind : ItemKind → Bool
is_clipped_kind Count = false
is_clipped_kind Sum = true
is_clipped_kind Min = true
is_clipped_kind Max = true
is_clipped_kind Avg = false

abbrev pub is_plain : Shape → Bool
is_plain Plain = true
is_plain (Grouped columns) = false
is_plain (Top key down limit) = false

-- the numbers that the condition lets through for the item's column: in a query without groups and order, for the sum or an extreme
-- of a bare column that stands in the condition in ranges alone, which are joined by AND
abbrev pub clip_of : Query → Aggregate → Option Clip
clip_of query item = if is_plain query.shape && is_clipped_kind item.kind then clip_of_argument query.pred item.arg else None
