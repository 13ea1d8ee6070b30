-- The lines of a combined report: which keys each has.
use Rattle.std.specs.Prelude.{List, [], ◌∷◌, IsTrue, IsFalse, ◌⊎◌, if◌then◌else◌}
use Rattle.shard_groups.specs.declared.keys.Span.{Span}
use Rattle.shard_groups.specs.Keys.{is_within, meets, comes_before}

-- one of these has all keys of the cell
abbrev pub IsCovered : List Span → List (List Span) → Type 0
IsCovered cell [] = ⊥
IsCovered cell (line ∷ lines) = IsTrue (is_within cell line) ⊎ IsCovered cell lines

abbrev pub AreCovered : List (List Span) → List (List Span) → Type 0
AreCovered [] lines = Unit {0}
AreCovered (cell ∷ cells) lines = IsCovered cell lines × AreCovered cells lines

-- the line has all keys of one of these
abbrev pub IsUsed : List Span → List (List Span) → Type 0
IsUsed line [] = ⊥
IsUsed line (cell ∷ cells) = IsTrue (is_within cell line) ⊎ IsUsed line cells

abbrev pub AreUsed : List (List Span) → List (List Span) → Type 0
AreUsed [] cells = Unit {0}
AreUsed (line ∷ lines) cells = IsUsed line cells × AreUsed lines cells

-- none of these meets the line
abbrev pub IsApart : List Span → List (List Span) → Type 0
IsApart line [] = Unit {0}
IsApart line (other ∷ others) = IsFalse (meets line other) × IsApart line others

-- no two of these meet
abbrev pub AreApart : List (List Span) → Type 0
AreApart [] = Unit {0}
AreApart (line ∷ lines) = IsApart line lines × AreApart lines

-- Each cell lies within one line, each line has a cell, no two lines meet, and whichever others are so too, each line lies within one of
-- these: no lines are narrower. Cells that meet, or that meet the hull of others that do, are so in one line, over all shards
pub record AreLines (cells lines : List (List Span)) : Type 0 where
  pub covered : AreCovered cells lines
  pub used : AreUsed lines cells
  pub apart : AreApart lines
  pub narrowest : (others : List (List Span)) → AreApart others → AreCovered cells others → AreCovered lines others

-- on the way: a line that may meet others takes in one after another
pub record AreJoining (cells : List (List Span)) (line : List Span) (lines : List (List Span)) : Type 0 where
  pub covered : AreCovered cells (line ∷ lines)
  pub used : AreUsed (line ∷ lines) cells
  pub apart : AreApart lines
  pub narrowest : (others : List (List Span)) → AreApart others → AreCovered cells others → AreCovered (line ∷ lines) others

-- ---- their order

-- no line comes before the one in front of it
abbrev pub IsAscending : List (List Span) → Type 0
IsAscending [] = Unit {0}
IsAscending (line ∷ []) = Unit {0}
IsAscending (line ∷ next ∷ lines) = IsFalse (comes_before next line) × IsAscending (next ∷ lines)

-- the lines with one more, behind those that come before it
abbrev pub placed : List Span → List (List Span) → List (List Span)
placed line [] = line ∷ []
placed line (other ∷ others) = if comes_before other line then other ∷ placed line others else line ∷ other ∷ others

abbrev pub in_order : List (List Span) → List (List Span)
in_order [] = []
in_order (line ∷ lines) = placed line (in_order lines)
