-- Lines that are found in order, each behind the one in front of it.
use Rattle.std.specs.Prelude.{Bool, true, false, not, ◌&&◌, ◌||◌, List, [], ◌∷◌}
use Rattle.std.specs.declared.option.Option.{Option}
use Rattle.std.specs.declared.option.Option.TheVariants.{Some, None}
use Rattle.shard_groups.specs.declared.keys.Ends.{Ends}
use Rattle.shard_groups.specs.declared.keys.KeyValue.{KeyValue}
use Rattle.shard_groups.specs.declared.keys.Relation.TheVariants.{Within}
use Rattle.shard_groups.specs.declared.keys.Span.{Span}
use Rattle.shard_groups.specs.Keys.{comes_before, first_part, meets, part_before, related_spans}
use Rattle.shard_groups.specs.Lines.{AreApart, AreCovered, AreUsed}

-- ---- sets of keys in order

-- the greatest value that a span allows, or null where it allows no value
abbrev pub last_of : Option Ends → Option KeyValue
last_of None = None
last_of (Some ends) = Some ends.high

-- all that the one allows comes before all that the other does
abbrev pub span_before : Span → Span → Bool
span_before x y = part_before (last_of x.ends) (first_part y)

-- both allow the same
abbrev pub same_span : Span → Span → Bool
same_span x y = related_spans Within x y && related_spans Within y x

-- each key of the one comes before each of the other: in a column in front of which both allow the same
abbrev pub is_before : List Span → List Span → Bool
is_before [] b = false
is_before (x ∷ a) [] = false
is_before (x ∷ a) (y ∷ b) = span_before x y || (same_span x y && is_before a b)

-- ---- lines that may meet

-- each cell lies within a line, each line has a cell, and whichever others are so too, and no two of them meet, each line lies within one
-- of these. Lines may meet
pub record AreNarrow (cells lines : List (List Span)) : Type 0 where
  pub covered : AreCovered cells lines
  pub used : AreUsed lines cells
  pub narrowest : (others : List (List Span)) → AreApart others → AreCovered cells others → AreCovered lines others

-- ---- from line to line

-- the next line has a key, and its keys come behind those of the line
abbrev pub is_step : List Span → List Span → Bool
is_step line next = meets next next && is_before line next && not (comes_before next line)

-- from each line to the next
abbrev pub in_steps : List (List Span) → Bool
in_steps [] = true
in_steps (line ∷ []) = true
in_steps (line ∷ next ∷ lines) = is_step line next && in_steps (next ∷ lines)
