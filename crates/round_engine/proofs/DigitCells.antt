-- A row of a column that is never null, by the digits of its number.
use Rattle.std.proofs.Common.{◌≡◌, ℕ, ◌+◌, ◌-◌, ◌*◌, ◌^◌, ◌<◌, ◌≤◌, min, ◌==◌, pos, ◌+ℤ◌, Bool, false, cond, ◌&&◌, get_or, IsTrue, refl, ap, sym, subst, ◌∙◌, arith, if◌then◌else◌}
use Rattle.std.proofs.Math.Nat.{le-mul_of_pos_right}
use Rattle.std.proofs.lemmas.Int.{ints}
use Rattle.std.proofs.lemmas.Nat.{pow_pos}
use Rattle.daq_table.specs.Tables.{planes, width}
use Rattle.known_column.specs.Columns.{KnownColumn, missing_at, number_of, numbers_at, rows_of_column}
use Rattle.known_column.specs.KnownTables.{KnownTable}
use Rattle.known_column.specs.RowBlocks.{IsKnownColumn}
use Rattle.query_model.specs.declared.bounds.Nullity.TheVariants.{Never, Possibly, Always}
use Rattle.query_model.specs.Knowledge.{ranges_of}
use Rattle.query_model.specs.Queries.{Aggregate}
use Rattle.query_model.specs.Truths.{may_be_number, null_of, span_of}
use Rattle.row_values.specs.declared.short.ShortInterval.{ShortInterval}
use Rattle.row_values.proofs.NumberRanges.{number_few, unread_digits}
use Rattle.row_values.proofs.ShortRows.{range_there}
use Rattle.digit_sums.specs.declared.ends.DigitEnds.{DigitEnds}
use Rattle.digit_sums.specs.Digits.{AreDigits, AreEndsOf, high_by, low_by}
use Rattle.round_engine.specs.DigitCells.{IsOverColumn}

-- no row is null
pub never_missing : (column : KnownColumn) (row : ℕ) → column.ends.nullable ≡ false → missing_at column row ≡ Never
never_missing column row plain = ap (λ (b : Bool). if b && get_or column.known.prefixes row 0 == 0 then (if column.known.read == 0 then Possibly else Always) else Never) plain

module _ (known : KnownColumn) (ends : DigitEnds) (are : AreEndsOf known ends) (sound : IsKnownColumn known) (row : ℕ) (below : row < rows_of_column known) where
  abbrev number : ℕ
  number = number_of known.ends known.known.read (get_or known.known.prefixes row 0)

  left : ends.unread ≡ unread_digits known.ends known.known.read
  left = (let all : planes known.ends ≡ width known.ends = ap (λ b. width known.ends + cond b 1 0) are.never_null ∙ omega arith in omega (arith, are.unread, all))

  pub digits_fit : (n : ℕ) → n ≡ number → AreDigits ends n
  digits_fit n is =
      let few = number_few known.ends known.known.read (get_or known.known.prefixes row 0) sound.some_read (sound.legal row 0 below) in
      let same : n * 2 ^ ends.unread ≡ number * 2 ^ unread_digits known.ends known.known.read = ap (λ k. k * 2 ^ ends.unread) is ∙ ap (λ k. number * 2 ^ k) left in
      omega (arith, few, same, are.spread_is)

  pub digits_small : (n : ℕ) → n ≡ number → n < 2 ^ 32
  digits_small n is =
      let fit = digits_fit n is in
      let more : n ≤ n * 2 ^ ends.unread = le-mul_of_pos_right n (pow_pos ends.unread) in
      omega (arith, fit, more, ends.small)

  pub digits_span : (n : ℕ) → n ≡ number → numbers_at known row ≡ record { low = low_by ends n; high = high_by ends n }
  digits_span n is =
      let span : ShortInterval = record { lo = low_by ends n; hi = high_by ends n; ordered = (let fit = digits_fit n is in omega (arith, ints, fit)) } in
      let there = range_there known row n ends.unread span sound.some_read (sound.legal row 0 below) is left
      (ap (λ z. z +ℤ pos (n * 2 ^ ends.unread)) are.base)
      (ap (λ z. z +ℤ pos (min (n * 2 ^ ends.unread + (2 ^ ends.unread - 1)) ends.spread)) are.base ∙ ap (λ k. known.ends.base +ℤ pos (min (n * 2 ^ ends.unread + (2 ^ ends.unread - 1)) k)) are.spread_is) in
      sym (there.exact (subst (λ null. IsTrue (may_be_number null)) (sym (never_missing known row are.never_null)) refl))

module _ (item : Aggregate) (columns : KnownTable) (known : KnownColumn) (over : IsOverColumn item columns known) (row : ℕ) where
  pub column_span : span_of item.arg (ranges_of columns.frame columns.known row) ≡ numbers_at known row
  column_span = ap (λ e. span_of e (ranges_of columns.frame columns.known row)) over.arg ∙ ap (λ (w : KnownColumn). numbers_at w row) (sym over.is)

  pub column_never : known.ends.nullable ≡ false → null_of item.arg (ranges_of columns.frame columns.known row) ≡ Never
  column_never plain =
      ap (λ e. null_of e (ranges_of columns.frame columns.known row)) over.arg ∙ ap (λ (w : KnownColumn). missing_at w row) (sym over.is) ∙ never_missing known row plain
