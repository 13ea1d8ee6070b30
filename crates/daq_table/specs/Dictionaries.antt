-- The names of texts, and the place of a name among them.
use Rattle.std.specs.Prelude.{ℕ, List, [], fold}
use Rattle.std.specs.BTreeSet.{insert_key}
use Rattle.std.specs.Cmp.Lexicographic.{slice_cmp}
use Rattle.std.specs.List.{position_or_len}
use Rattle.std.specs.Ordering.{nat_cmp}
use Rattle.std.specs.Str.{bytes_eq}

-- the texts, each once, sorted by their bytes
abbrev pub distinct : List (List ℕ) → List (List ℕ)
distinct texts = fold (insert_key (slice_cmp nat_cmp)) [] texts

-- the place of a name in a dictionary
abbrev pub rank_of : List (List ℕ) → List ℕ → ℕ
rank_of names text = position_or_len (bytes_eq text) names
