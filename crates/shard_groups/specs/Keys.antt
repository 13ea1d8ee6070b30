-- Keys of groups, and the sets of keys that the lines of a report show.
use Rattle.std.specs.Prelude.{int_le, Bool, true, false, not, ◌&&◌, ◌||◌, List, [], ◌∷◌, if◌then◌else◌}
use Rattle.std.specs.declared.option.Option.{Option}
use Rattle.std.specs.declared.option.Option.TheVariants.{Some, None}
use Rattle.std.specs.Cmp.Lexicographic.{slice_cmp}
use Rattle.std.specs.Ordering.{is_le, nat_cmp}
use Rattle.shard_groups.specs.declared.keys.Ends.{Ends}
use Rattle.shard_groups.specs.declared.keys.KeyValue.{KeyValue}
use Rattle.shard_groups.specs.declared.keys.KeyValue.TheVariants.{Number, Text}
use Rattle.shard_groups.specs.declared.keys.Relation.{Relation}
use Rattle.shard_groups.specs.declared.keys.Relation.TheVariants.{Meet, Within}
use Rattle.shard_groups.specs.declared.keys.Span.{Span}

-- a value or null for each group column
abbrev pub Key : Type 0
Key = List (Option KeyValue)

-- ---- the order of values

-- numbers come before texts, and texts go by their bytes
abbrev pub at_most : KeyValue → KeyValue → Bool
at_most (Number x) (Number y) = int_le x y
at_most (Number x) (Text t) = true
at_most (Text s) (Number y) = false
at_most (Text s) (Text t) = is_le (slice_cmp nat_cmp s t)

abbrev pub lesser : KeyValue → KeyValue → KeyValue
lesser a b = if at_most a b then a else b

abbrev pub greater : KeyValue → KeyValue → KeyValue
greater a b = if at_most a b then b else a

-- ---- the keys of a line

-- the test passes each element of the one and its partner in the other, and each has one
abbrev pub each_pair : {X Y : Type 0} → (X → Y → Bool) → List X → List Y → Bool
each_pair test [] [] = true
each_pair test [] (y ∷ ys) = false
each_pair test (x ∷ xs) [] = false
each_pair test (x ∷ xs) (y ∷ ys) = test x y && each_pair test xs ys

-- the value lies between the ends
abbrev pub is_between : Option Ends → KeyValue → Bool
is_between None value = false
is_between (Some ends) value = at_most ends.low value && at_most value ends.high

-- the part of a key is one that the span allows
abbrev pub allows : Span → Option KeyValue → Bool
allows span None = span.null
allows span (Some value) = is_between span.ends value

-- the key is one of these
abbrev pub holds : List Span → Key → Bool
holds spans key = each_pair allows spans key

-- ---- two sets of keys

-- ranges have a value in common, where both have one
abbrev pub ends_meet : Option Ends → Option Ends → Bool
ends_meet None b = false
ends_meet (Some a) None = false
ends_meet (Some a) (Some b) = at_most a.low b.high && at_most b.low a.high

-- the one range is a part of the other
abbrev pub ends_within : Option Ends → Option Ends → Bool
ends_within None b = true
ends_within (Some a) None = false
ends_within (Some a) (Some b) = at_most b.low a.low && at_most a.high b.high

-- both allow null, or have a value in common; all that the one allows the other does
abbrev pub related_spans : Relation → Span → Span → Bool
related_spans Meet a b = (a.null && b.null) || ends_meet a.ends b.ends
related_spans Within a b = (not a.null || b.null) && ends_within a.ends b.ends

abbrev pub related : Relation → List Span → List Span → Bool
related relation a b = each_pair (related_spans relation) a b

-- some key is in both
abbrev pub meets : List Span → List Span → Bool
meets a b = related Meet a b

-- each key of the one is in the other
abbrev pub is_within : List Span → List Span → Bool
is_within a b = related Within a b

-- the least range that has both
abbrev pub ends_hull : Option Ends → Option Ends → Option Ends
ends_hull None b = b
ends_hull (Some a) None = Some a
ends_hull (Some a) (Some b) = Some (record { low = lesser a.low b.low; high = greater a.high b.high })

abbrev pub span_hull : Span → Span → Span
span_hull a b = record { null = a.null || b.null; ends = ends_hull a.ends b.ends }

-- the least set of spans that has the keys of both
abbrev pub hull : List Span → List Span → List Span
hull [] b = []
hull (x ∷ xs) [] = []
hull (x ∷ xs) (y ∷ ys) = span_hull x y ∷ hull xs ys

-- ---- the order of lines

-- the least part of a key that a span allows: null comes before all values
abbrev pub first_of : Bool → Option Ends → Option KeyValue
first_of true ends = None
first_of false None = None
first_of false (Some ends) = Some ends.low

abbrev pub first_part : Span → Option KeyValue
first_part span = first_of span.null span.ends

abbrev pub part_before : Option KeyValue → Option KeyValue → Bool
part_before None None = false
part_before None (Some y) = true
part_before (Some x) None = false
part_before (Some x) (Some y) = not (at_most y x)

-- the least key of the one comes before that of the other: at the first column in which they differ
abbrev pub comes_before : List Span → List Span → Bool
comes_before [] b = false
comes_before (x ∷ a) [] = false
comes_before (x ∷ a) (y ∷ b) =
    part_before (first_part x) (first_part y) || (not (part_before (first_part y) (first_part x)) && comes_before a b)
