-- Numbers that are kept raised by 2 ^ 63, so that none is below 0.
use Rattle.std.specs.Prelude.{ℕ, ◌^◌, ℤ, pos, ◌-ℤ◌}

-- the number that was raised
abbrev pub lowered : ℕ → ℤ
lowered n = pos n -ℤ pos (2 ^ 63)
