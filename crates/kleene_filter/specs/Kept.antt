-- How many comparisons and listed numbers keep masks.
use Rattle.std.specs.Prelude.{ℕ, List, length}
use Rattle.std.specs.List.{sum_by}
use Rattle.kleene_filter.specs.declared.masks.AtomMasks.{AtomMasks}
use Rattle.kleene_filter.specs.declared.masks.AtomMasks.TheVariants as masks

-- those of one atom: both ends of a range are comparisons
abbrev pub kept_by : AtomMasks → ℕ
kept_by masks.ByRows = 0
kept_by (masks.Null c) = 0
kept_by (masks.Compared compared) = 1
kept_by (masks.Ranged ranged) = 2
kept_by (masks.Member membership) = length membership.values

-- those of several
abbrev pub kept_by_all : List AtomMasks → ℕ
kept_by_all all = sum_by kept_by all
