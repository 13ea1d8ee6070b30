-- The lines of the input, each of a part by its tag, and what they tell of all parts.
use Rattle.std.specs.Prelude.{◌≡◌, ◌≢◌, ℕ, ◌<◌, ◌≤◌, ◌==◌, List, [], ◌∷◌, length, map, position, slice_index_or, set}
use Rattle.std.specs.declared.option.Option.TheVariants.{Some}
use Rattle.std.specs.Cmp.Lexicographic.{slice_cmp}
use Rattle.std.specs.List.{Contains, after_first, before_first, insert}
use Rattle.std.specs.List.Sorted.{IsStrictlySortedBy}
use Rattle.std.specs.Ordering.{nat_cmp}
use Rattle.std.specs.declared.cmp.Ordering.{Ordering}
use Rattle.std.specs.declared.cmp.Ordering.TheVariants.{Less, Equal, Greater}
use Rattle.report_parts.specs.Told.{IsUnlisted, Takes, Told, nothing_told}
use Rattle.report_parts.specs.declared.fault.InputFault.{InputFault}
use Rattle.report_parts.specs.declared.fault.InputFault.TheVariants.{Line, NoTab, NoTag, OtherPart}
use Rattle.report_parts.specs.declared.fault.LineFault.{LineFault}
use Rattle.report_parts.specs.declared.fault.LineFault.TheVariants.{NoMemory, OtherLine, OtherQuery, Unlisted}
use Rattle.report_parts.specs.declared.part.Place.TheVariants.{Query}
use Rattle.report_parts.specs.declared.shape.Shape.{Shape}

-- ---- a tag, a tab and a line of a report

abbrev pub HasTab : List ℕ → Type 0
HasTab line = (place : ℕ) × (position (λ c. c == 9) line ≡ Some place)

abbrev pub tag_of : List ℕ → List ℕ
tag_of line = before_first (λ c. c == 9) line

abbrev pub behind_tag : List ℕ → List ℕ
behind_tag line = after_first (λ c. c == 9) line

abbrev pub IsTag : List ℕ → Type 0
IsTag tag = (0 < length tag) × (length tag ≤ 255)

abbrev pub IsTagged : List ℕ → Type 0
IsTagged line = HasTab line × IsTag (tag_of line)

-- ---- the parts, in the order of their tags

abbrev pub AreInOrder : List Told → Type 0
AreInOrder parts = IsStrictlySortedBy (slice_cmp nat_cmp) (map (λ part. part.tag) parts)

-- how the tag of a part stands to another
abbrev pub against : List ℕ → Told → Ordering
against tag part = slice_cmp nat_cmp part.tag tag

abbrev pub by_order : {X : Type 0} → Ordering → X → X → X → X
by_order Less less equal greater = less
by_order Equal less equal greater = equal
by_order Greater less equal greater = greater

-- what is told of the part with that tag
abbrev pub told_of : List ℕ → List Told → Told
told_of tag [] = nothing_told tag
told_of tag (part ∷ parts) = by_order (against tag part) (told_of tag parts) part (nothing_told tag)

-- the parts with this in place of what was told of the part with its tag
abbrev pub with_part : Told → List Told → List Told
with_part told [] = told ∷ []
with_part told (part ∷ parts) = by_order (against told.tag part) (part ∷ with_part told parts) (told ∷ parts) (told ∷ part ∷ parts)

-- the part of the line's tag takes the line
pub record TakesTagged (query : List ℕ) (shape : Shape) (parts : List Told) (line : List ℕ) (next : List Told) : Type 0 where
  pub told : Told
  pub is_tag : IsTag (tag_of line)
  pub taken : Takes query shape (told_of (tag_of line) parts) (behind_tag line) told
  pub put : next ≡ with_part told parts

-- a part has that tag
abbrev pub HasPart : List ℕ → List Told → Type 0
HasPart tag parts = Contains (map (λ part. part.tag) parts) tag

-- ---- where a part stands

abbrev pub part_at : ℕ → List Told → Told
part_at place parts = slice_index_or parts place (nothing_told [])

-- the part with the tag stands there
pub record StandsAt (tag : List ℕ) (parts : List Told) (place : ℕ) : Type 0 where
  pub within : place < length parts
  pub told : told_of tag parts ≡ part_at place parts
  pub tagged : (part_at place parts).tag ≡ tag
  pub there : HasPart tag parts
  pub put : (told : Told) → told.tag ≡ tag → with_part told parts ≡ set parts place told

-- no part has the tag, and one that has it belongs there
pub record BelongsAt (tag : List ℕ) (parts : List Told) (place : ℕ) : Type 0 where
  pub within : place ≤ length parts
  pub none : told_of tag parts ≡ nothing_told tag
  pub absent : ¬ HasPart tag parts
  pub put : (told : Told) → told.tag ≡ tag → with_part told parts ≡ insert parts place told

-- ---- why a line is refused

-- the part's report does not go on so
abbrev pub CannotTake : List ℕ → Shape → Told → List ℕ → Type 0
CannotTake query shape told line = (next : Told) → Takes query shape told line next → ⊥

abbrev pub IsLineRefused : LineFault → List ℕ → Shape → Told → List ℕ → Type 0
IsLineRefused OtherQuery query shape told line = (told.place ≡ Query) × CannotTake query shape told line
IsLineRefused Unlisted query shape told line = IsUnlisted told × CannotTake query shape told line
IsLineRefused OtherLine query shape told line = (told.place ≢ Query) × (¬ IsUnlisted told) × CannotTake query shape told line
IsLineRefused NoMemory query shape told line = Unit {0}

-- so many parts are wanted at most, and this is one more
abbrev pub IsOneMore : ℕ → List Told → List ℕ → Type 0
IsOneMore most parts tag = (most ≤ length parts) × ¬ HasPart tag parts

abbrev pub IsRefused : InputFault → List ℕ → Shape → ℕ → List Told → List ℕ → Type 0
IsRefused NoTab query shape most parts line = ¬ HasTab line
IsRefused NoTag query shape most parts line = HasTab line × ¬ IsTag (tag_of line)
IsRefused OtherPart query shape most parts line = IsTagged line × IsOneMore most parts (tag_of line)
IsRefused (Line why) query shape most parts line =
    IsTagged line × (¬ IsOneMore most parts (tag_of line)) × IsLineRefused why query shape (told_of (tag_of line) parts) (behind_tag line)

-- what is refused changes nothing
abbrev pub IsKept : {X : Type 0} → LineFault → X → X → Type 0
IsKept OtherQuery old new = new ≡ old
IsKept Unlisted old new = new ≡ old
IsKept OtherLine old new = new ≡ old
IsKept NoMemory old new = Unit {0}

abbrev pub AreKept : InputFault → List Told → List Told → Type 0
AreKept NoTab old new = new ≡ old
AreKept NoTag old new = new ≡ old
AreKept OtherPart old new = new ≡ old
AreKept (Line why) old new = IsKept why old new
