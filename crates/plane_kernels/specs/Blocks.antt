-- Some rows of a block, as the bits of eight words.
use Rattle.std.specs.Prelude.{◌≡◌, ℕ, ◌≤◌, List, length}
use Rattle.plane_kernels.specs.Rows.{IsPadded}

-- eight words hold so many rows
pub record IsBlock (n : ℕ) (words : List ℕ) : Type 0 where
  pub few : n ≤ 512
  pub eight : length words ≡ 8
  pub padded : IsPadded n words
