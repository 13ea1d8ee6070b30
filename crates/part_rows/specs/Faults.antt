-- Why the rows of parts are not combined.
use Rattle.std.specs.Prelude.{◌≡◌, ℕ, ◌<◌, nat_lt, Bool, not, List, IsTrue, length, map}
use Rattle.std.specs.List.{list_all, position_or_len}
use Rattle.std.specs.declared.option.Option.{Option}
use Rattle.part_groups.specs.declared.forms.EndsForm.{EndsForm}
use Rattle.part_groups.specs.Forms.{are_alike, told_by_span}
use Rattle.part_rows.specs.declared.fault.RowsFault.{RowsFault}
use Rattle.part_rows.specs.declared.fault.RowsFault.TheVariants.{NoMemory, OtherForm, UnclearTag}
use Rattle.part_rows.specs.Combined.{Listing, PartListing, listings}

-- each byte of a tag comes behind the space, so that tags that are joined by spaces keep their order and are told apart
abbrev pub is_clear : List ℕ → Bool
is_clear tag = list_all (λ byte. nat_lt 32 byte) tag

-- the place of the first part whose tag is not clear, or the number of parts
abbrev pub first_unclear : List PartListing → ℕ
first_unclear parts = position_or_len (λ part. not (is_clear part.tag)) parts

abbrev pub AreClear : List PartListing → Type 0
AreClear parts = first_unclear parts ≡ length parts

-- how the keys of rows are written
abbrev pub forms_of : List Listing → List (Option EndsForm)
forms_of listed = map (λ row. told_by_span row.line.key) listed

-- the keys of all rows that are listed are written in one form
abbrev pub AreAlike : List PartListing → Type 0
AreAlike parts = IsTrue (are_alike (forms_of (listings parts)))

-- the first part whose tag is not clear; where all are, keys of two forms
abbrev pub IsRowsFault : RowsFault → List PartListing → Type 0
IsRowsFault NoMemory parts = Unit {0}
IsRowsFault (UnclearTag part) parts = (part ≡ first_unclear parts) × part < length parts
IsRowsFault OtherForm parts = AreClear parts × ¬ AreAlike parts

-- the same, of the tags
abbrev pub IsTagFault : RowsFault → List PartListing → Type 0
IsTagFault NoMemory parts = ⊥
IsTagFault (UnclearTag part) parts = (part ≡ first_unclear parts) × part < length parts
IsTagFault OtherForm parts = ⊥
