-- What is kept of the atoms of a condition to follow its columns plane by plane.
use Rattle.std.specs.Prelude.{◌≡◌, ℕ, ◌+◌, ◌-◌, ◌*◌, ◌≤◌, ◌<◌, Bool, List, [], ◌∷◌, ◌++◌, length, slice_get}
use Rattle.std.specs.declared.option.Option.TheVariants.{Some}
use Rattle.query_model.specs.declared.query.Atom.{Atom}
use Rattle.query_model.specs.declared.query.Atom.TheVariants.{Between, Compare, IsNull, OneOf}
use Rattle.query_model.specs.declared.query.Comparison.TheVariants.{Ge, Le}
use Rattle.query_model.specs.Queries.{Condition, All, Single, Both, Either, Negation}
use Rattle.query_model.specs.Knowledge.{CanTake, ranges_of}
use Rattle.query_model.specs.Meaning.{AtomReadsBelow}
use Rattle.known_column.specs.KnownTables.{IsKnownTable, KnownTable, column_at, read_column}
use Rattle.kleene_filter.specs.declared.judging.Place.{Place}
use Rattle.kleene_filter.specs.declared.masks.AtomMasks.{AtomMasks}
use Rattle.kleene_filter.specs.declared.masks.AtomMasks.TheVariants as masks
use Rattle.kleene_filter.specs.declared.comparisons.Compared.{Compared}
use Rattle.kleene_filter.specs.declared.comparisons.Ranged.{Ranged}
use Rattle.kleene_filter.specs.declared.members.Membership.{Membership}
use Rattle.kleene_filter.specs.Members.{HasLevels}
use Rattle.kleene_filter.specs.Parted.{HasSides}

-- the sides are those of its column's rows
abbrev pub IsCompared : Compared → KnownTable → Type 0
IsCompared compared table = HasSides (column_at table compared.column) compared.op compared.value compared.sides

-- the comparisons are those of one column, with the least number and with the greatest
pub record IsRanged (ranged : Ranged) (table : KnownTable) : Type 0 where
  pub column : ranged.to.column ≡ ranged.from.column
  pub least : ranged.from.op ≡ Ge
  pub greatest : ranged.to.op ≡ Le
  pub from : IsCompared ranged.from table
  pub to : IsCompared ranged.to table

-- the levels are those of its column's rows
abbrev pub IsMembership : Membership → KnownTable → Type 0
IsMembership membership table = HasLevels (column_at table membership.column) membership.values membership.levels.items

-- the masks are those of the atom under what is known
abbrev pub Follows : AtomMasks → Atom → KnownTable → Type 0
Follows masks.ByRows atom table = Unit {0}
Follows (masks.Null c) atom table = atom ≡ IsNull c
Follows (masks.Compared compared) atom table = (atom ≡ Compare compared.column compared.op compared.value) × IsCompared compared table
Follows (masks.Ranged ranged) atom table = (atom ≡ Between ranged.from.column ranged.from.value ranged.to.value) × IsRanged ranged table
Follows (masks.Member membership) atom table = (atom ≡ OneOf membership.column membership.values) × IsMembership membership table

-- the table is another, known in the same way, after these bits as the next plane of a column
pub record ReadFrom (before : KnownTable) (table : KnownTable) (column : ℕ) (bits : List Bool) : Type 0 where
  pub known : IsKnownTable before
  pub could : CanTake before.frame before.known column bits
  pub taken : table ≡ read_column before column bits

-- it was so before the plane of the column was read
pub record Was (Holds : KnownTable → Type 0) (table : KnownTable) (column : ℕ) (bits : List Bool) : Type 0 where
  pub before : KnownTable
  pub read : ReadFrom before table column bits
  pub was : Holds before

-- they were the masks of an atom, whose columns there are
pub record WasFollowed (masks : AtomMasks) (atom : Atom) (table : KnownTable) (column : ℕ) (bits : List Bool) : Type 0 where
  pub before : KnownTable
  pub within : AtomReadsBelow (length table.frame.columns) atom
  pub read : ReadFrom before table column bits
  pub was : Follows masks atom before

-- the comparison stays the same
pub record KeepsTest (old new : Compared) : Type 0 where
  pub column : new.column ≡ old.column
  pub op : new.op ≡ old.op
  pub value : new.value ≡ old.value

-- the atoms of a condition, in the order in which they stand there
abbrev pub atoms_of : Condition → List Atom
atoms_of All = []
atoms_of (Single atom) = atom ∷ []
atoms_of (Both a b) = atoms_of a ++ atoms_of b
atoms_of (Either a b) = atoms_of a ++ atoms_of b
atoms_of (Negation a) = atoms_of a

-- from the first on, there are masks for each of the atoms
pub record AreMasksOf (all : List AtomMasks) (first : ℕ) (atoms : List Atom) (table : KnownTable) : Type 0 where
  pub room : first + length atoms ≤ length all
  pub each : (k : ℕ) (own : AtomMasks) (atom : Atom) → slice_get all (first + k) ≡ Some own → slice_get atoms k ≡ Some atom →
      Follows own atom table

-- the rows of a place of a table stand in another, or in it
pub record AreRowsOf (table : KnownTable) (place : Place) (other : KnownTable) : Type 0 where
  pub columns : other.frame.columns ≡ table.frame.columns
  pub here : 512 * place.block + place.to ≤ table.frame.rows
  pub few : place.to ≤ 512
  pub first : place.first ≤ 16777216
  pub within : place.first + place.to ≤ other.frame.rows + 64 * place.word
  pub ranges : (row : ℕ) → 64 * place.word ≤ row → row < place.to →
      ranges_of other.frame other.known (place.first + (row - 64 * place.word))
      ≡ ranges_of table.frame table.known (512 * place.block + row)

-- masks of these atoms were added to those that stood there
pub record AddsMasks (old new : List AtomMasks) (atoms : List Atom) (table : KnownTable) : Type 0 where
  pub count : length new ≡ length old + length atoms
  pub before : (k : ℕ) → k < length old → slice_get new k ≡ slice_get old k
  pub added : AreMasksOf new (length old) atoms table

-- they were the masks of the atoms before the plane of the column was read
pub record WereMasksOf (all : List AtomMasks) (atoms : List Atom) (table : KnownTable) (column : ℕ) (bits : List Bool) : Type 0 where
  pub before : KnownTable
  pub count : length all ≡ length atoms
  pub within : (k : ℕ) (atom : Atom) → slice_get atoms k ≡ Some atom → AtomReadsBelow (length table.frame.columns) atom
  pub read : ReadFrom before table column bits
  pub were : AreMasksOf all 0 atoms before
