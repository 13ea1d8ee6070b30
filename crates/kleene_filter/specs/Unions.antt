-- Conditions of atoms under OR alone, each of which may fail at every row: their rows are added mask by mask.
use Rattle.std.specs.Prelude.{◌≡◌, ℕ, ◌+◌, ◌<◌, Bool, true, false, ◌||◌, List, length, slice_get, slice_index_or}
use Rattle.std.specs.declared.option.Option.TheVariants.{Some}
use Rattle.query_model.specs.declared.bounds.Truth.TheVariants.{Unknown}
use Rattle.query_model.specs.declared.bounds.Truths.{Truths}
use Rattle.query_model.specs.declared.query.Comparison.{Comparison}
use Rattle.query_model.specs.Queries.{Condition, All, Single, Both, Either, Negation}
use Rattle.known_column.specs.Columns.{KnownColumn}
use Rattle.known_column.specs.KnownTables.{KnownTable, column_at}
use Rattle.kleene_filter.specs.declared.masks.AtomMasks.{AtomMasks}
use Rattle.kleene_filter.specs.declared.masks.AtomMasks.TheVariants as masks
use Rattle.kleene_filter.specs.declared.parted.Sides.{Sides}
use Rattle.kleene_filter.specs.Masks.{atoms_of}
use Rattle.kleene_filter.specs.Parted.{greater_holds, less_holds, IsAtEqual}

-- the comparison may fail at every row: no number but its own compares so, none is null, and nothing is known at that number's prefix
pub record MayFail (column : KnownColumn) (op : Comparison) (sides : Sides) : Type 0 where
  pub less : less_holds op ≡ false
  pub greater : greater_holds op ≡ false
  pub plain : column.ends.nullable ≡ false
  pub unknown : IsAtEqual sides Unknown

-- the masks are those of such a comparison
abbrev pub OnlyAdds : AtomMasks → KnownTable → Type 0
OnlyAdds masks.ByRows table = ⊥
OnlyAdds (masks.Null c) table = ⊥
OnlyAdds (masks.Compared compared) table = MayFail (column_at table compared.column) compared.op compared.sides
OnlyAdds (masks.Ranged ranged) table = ⊥
OnlyAdds (masks.Member membership) table = ⊥

-- the condition is one of such comparisons, or several under OR, whose masks stand from a place on
abbrev pub IsUnion : Condition → List AtomMasks → ℕ → KnownTable → Type 0
IsUnion All all at table = ⊥
IsUnion (Single atom) all at table = (own : AtomMasks) → slice_get all at ≡ Some own → OnlyAdds own table
IsUnion (Both a b) all at table = ⊥
IsUnion (Either a b) all at table = IsUnion a all at table × IsUnion b all (at + length (atoms_of a)) table
IsUnion (Negation a) all at table = ⊥

-- what has these truths may fail at each row, and the rows at which it may hold were added to those of a mask
pub record AddsRows (count : ℕ) (truths : ℕ → Truths) (old new : List Bool) : Type 0 where
  pub rows : length new ≡ length old
  pub fails : (row : ℕ) → row < count → (truths row).may_fail ≡ true
  pub added : (row : ℕ) → row < count → slice_index_or new row false ≡ (slice_index_or old row false || (truths row).may_hold)
