-- What is kept of a cell for a sum, in numbers of 64 bits.
use Rattle.std.specs.Prelude.{ℕ, ◌*◌, ◌==◌, if◌then◌else◌, ℤ, pos, negsuc, ◌-ℤ◌, ◌≤ℤ◌}
use Rattle.std.specs.declared.option.Option.{Option}
use Rattle.std.specs.declared.option.Option.TheVariants.{None, Some}

-- both ends are less than 2 ^ 39 in size: 2 ^ 24 of them can be added in 64 bits
pub record FitsCell (low high : ℤ) : Type 0 where
  pub low_is : negsuc 549755813886 ≤ℤ low
  pub ordered : low ≤ℤ high
  pub high_is : high ≤ℤ pos 549755813887

-- so many rows may have come to a sum
pub record IsOfRows (rows : ℕ) (sum : ℤ) : Type 0 where
  pub least : (pos 0 -ℤ pos (549755813887 * rows)) ≤ℤ sum
  pub most : sum ≤ℤ pos (549755813887 * rows)

-- the outermost end of a cell, which is kept where it has rows and none of them counts for certain
abbrev pub end_if : ℕ → ℕ → ℤ → Option ℤ
end_if certain all end = if certain == 0 then (if all == 0 then None else Some end) else None
