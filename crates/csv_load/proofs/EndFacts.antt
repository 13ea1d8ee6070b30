-- The least and the greatest of the numbers of what was read are the ends of a column.
use Rattle.std.proofs.Common.{◌≡◌, ℕ, ℤ, IsTrue, List, refl}
use Rattle.std.specs.Cmp.Lexicographic.{slice_cmp}
use Rattle.std.specs.List.Sorted.{IsStrictlySortedBy}
use Rattle.std.specs.Ordering.{nat_cmp}
use Rattle.daq_table.proofs.Ascending.{ascending_when_sorted}
use Rattle.daq_table.specs.ColumnFacts.{IsColumn, IsName, fits_names}
use Rattle.daq_table.specs.declared.head.Kind.{Kind}
use Rattle.daq_table.specs.declared.head.Kind.TheVariants.{Int, Dec, Date, Text}
use Rattle.daq_table.proofs.Dictionaries.{ranks_fit}
use Rattle.daq_table.proofs.Extremes.{ends_ordered}
use Rattle.daq_table.specs.Extremes.{greatest, least}
pub use Rattle.daq_table.proofs.Extremes.{greatest_has, least_has}
use Rattle.csv_load.specs.States.{IsComplete, Kept, numbers_in}

pub fits_names_of : (kind : Kind) (numbers : List ℤ) (texts names : List (List ℕ)) → IsComplete (record { kind = kind; numbers = numbers; texts = texts; names = names })
    → IsTrue (fits_names kind (least (numbers_in (record { kind = kind; numbers = numbers; texts = texts; names = names }))) (greatest (numbers_in (record { kind = kind; numbers = numbers; texts = texts; names = names }))) names)
fits_names_of Int numbers texts names h = rw (h.plain refl) refl
fits_names_of (Dec scale) numbers texts names h = rw (h.plain refl) refl
fits_names_of Date numbers texts names h = rw (h.plain refl) refl
fits_names_of Text numbers texts names h = ranks_fit texts names h.known

pub column_is : (s : Kept) (name : List ℕ) (kind : Kind) (names : List (List ℕ)) (base top : ℤ) → IsName name → IsStrictlySortedBy (slice_cmp nat_cmp) names
    → names ≡ s.names → kind ≡ s.kind → base ≡ least (numbers_in s) → top ≡ greatest (numbers_in s) → IsComplete s → IsColumn name kind base top names
column_is s name kind names base top named sorted e k b t h = record {
  named = named;
  ordered = rw (b, t) (ends_ordered (numbers_in s));
  ascending = ascending_when_sorted names sorted;
  fits = rw (b, t, e, k) (fits_names_of s.kind s.numbers s.texts s.names h);
}
