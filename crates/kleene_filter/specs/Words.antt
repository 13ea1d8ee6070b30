-- Sets of truths of up to 64 rows, kept as words.
use Rattle.std.specs.Prelude.{◌≡◌, ℕ, ◌+◌, ◌^◌, ◌<◌, Bool}
use Rattle.plane_kernels.specs.Rows.{digit_at}
use Rattle.query_model.specs.declared.bounds.Truths.{Truths}
use Rattle.kleene_filter.specs.declared.words.TruthWords.{TruthWords}

-- for the first rows, so many, the bits of the words are their truths
pub record AreTruthsAt (count : ℕ) (at : ℕ → Truths) (words : TruthWords) : Type 0 where
  pub hold : (row : ℕ) → row < count → digit_at row words.may_hold ≡ (at row).may_hold
  pub fail : (row : ℕ) → row < count → digit_at row words.may_fail ≡ (at row).may_fail
  pub null : (row : ℕ) → row < count → digit_at row words.may_be_null ≡ (at row).may_be_null

-- no word has a bit from that row on
pub record HaveBelow (row : ℕ) (words : TruthWords) : Type 0 where
  pub hold : words.may_hold < 2 ^ row
  pub fail : words.may_fail < 2 ^ row
  pub null : words.may_be_null < 2 ^ row

-- new is old with this bit at that row, the last one
pub record AddsBit (row old : ℕ) (bit : Bool) (new : ℕ) : Type 0 where
  pub here : digit_at row new ≡ bit
  pub before : (r : ℕ) → r < row → digit_at r new ≡ digit_at r old
  pub below : new < 2 ^ (row + 1)

-- the words with these truths at that row, the last one
pub record AddsTruths (row : ℕ) (old : TruthWords) (truths : Truths) (new : TruthWords) : Type 0 where
  pub hold : AddsBit row old.may_hold truths.may_hold new.may_hold
  pub fail : AddsBit row old.may_fail truths.may_fail new.may_fail
  pub null : AddsBit row old.may_be_null truths.may_be_null new.may_be_null
