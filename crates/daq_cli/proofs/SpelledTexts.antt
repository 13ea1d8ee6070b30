-- The values of a column whose head can be spelled have texts, and none of these is long.
use Rattle.std.proofs.Common.{◌≡◌, ℕ, ◌^◌, ◌≤◌, ◌<◌, ℤ, pos, negsuc, neg_ℤ, ◌≤ℤ◌, unsigned_abs, int_le, nat_le, true, FitsSigned, w64, IsTrue, All, List, length, get_or, arith}
use Rattle.std.proofs.lemmas.Bool.{and_parts, leb-true}
use Rattle.std.proofs.lemmas.Int.{ints}
use Rattle.std.proofs.lemmas.List.Sums.{AllPass-from_list_all}
use Rattle.std.specs.List.{list_all}
use Rattle.std.specs.Str.{is_utf8}
use Rattle.daq_report.proofs.Lengths.{value_short}
use Rattle.daq_report.specs.Ends.{decimals_of}
use Rattle.daq_table.specs.Schemas.{fits_scale}
use Rattle.daq_table.specs.ValueTexts.{HasText, HasTexts, IsDay, text_of_value}
use Rattle.daq_table.specs.declared.head.ColumnHead.{ColumnHead}
use Rattle.daq_table.specs.declared.head.Kind.{Kind}
use Rattle.daq_table.specs.declared.head.Kind.TheVariants.{Int, Dec, Date, Text}
use Rattle.plane_file.specs.Format.{CanBeSpelledColumn, fits_days, is_day, is_short_text}
use Rattle.daq_cli.proofs.Signed.{le_holds}

-- a number of the days
a_day : (day : ℤ) → is_day day ≡ true → IsDay day
a_day day h =
    let tests = and_parts (int_le (neg_ℤ (pos 719528)) day) (int_le day (pos 2932896)) h in
    (le_holds (neg_ℤ (pos 719528)) day tests.0, le_holds day (pos 2932896) tests.1)

between_days : (base top value : ℤ) → IsDay base → IsDay top → base ≤ℤ value → value ≤ℤ top → IsDay value
between_days base top value low high above below =
    let first = low.0 in
    let last = high.1 in
    (omega (arith, ints, first, above), omega (arith, ints, last, below))

has_text : (kind : Kind) (base top value : ℤ) → IsTrue (fits_days kind base top) → base ≤ℤ value → value ≤ℤ top → HasText kind value
has_text Int base top value days above below = tt
has_text (Dec scale) base top value days above below = tt
has_text Date base top value days above below =
    let ends = and_parts (is_day base) (is_day top) days in
    between_days base top value (a_day base ends.0) (a_day top ends.1) above below
has_text Text base top value days above below = tt

short_names : (names : List (List ℕ)) → IsTrue (list_all is_short_text names) → All (λ name. length name ≤ 255) names
short_names names h = λ k d lt.
    leb-true _ _ (and_parts (nat_le (length (get_or names k d)) 255) (is_utf8 (get_or names k d)) (AllPass-from_list_all is_short_text names h k d lt)).0

pub spelled_texts : (column : ColumnHead) → CanBeSpelledColumn column → HasTexts column
spelled_texts column spelled = record {
  between = λ value above below. has_text column.kind column.base column.top value spelled.days above below;
  names = short_names column.names spelled.texts;
}

-- ---- lengths

few_decimals : (kind : Kind) → IsTrue (fits_scale kind) → decimals_of kind < 256
few_decimals Int h = omega arith
few_decimals (Dec scale) h = let few = leb-true scale 9 h in omega (arith, few)
few_decimals Date h = omega arith
few_decimals Text h = omega arith

magnitude : (base value top : ℤ) → base ≤ℤ value → value ≤ℤ top → FitsSigned w64 base → FitsSigned w64 top → unsigned_abs value < 2 ^ 128
magnitude base (pos n) (pos t) above below b t' = let fits = t'.sfits in omega (arith, ints, below, fits)
magnitude base (pos n) (negsuc t) above below b t' = absurd (omega (arith, ints, below))
magnitude (pos m) (negsuc n) top above below b t' = absurd (omega (arith, ints, above))
magnitude (negsuc m) (negsuc n) top above below b t' = let fits = b.sfits in omega (arith, ints, above, fits)

pub spelled_short : (column : ColumnHead) (value : ℤ) → CanBeSpelledColumn column → column.base ≤ℤ value → value ≤ℤ column.top → length (text_of_value column value) ≤ 512
spelled_short column value spelled above below =
    value_short column value (few_decimals column.kind spelled.scale) (magnitude column.base value column.top above below spelled.base spelled.top)
    (record { above = above; below = below; texts = spelled_texts column spelled })
