-- Rules that have no levels are read alike at each.
use Rattle.std.proofs.Common.{◌≡◌, ℕ, List, refl}
use Rattle.sql_tokens.specs.Lexeme.{Lexeme}
use Rattle.sql_text.specs.Grammar.{value, between, members, ranged, nullness, compared, condition, atom, grouping, direction, ordering}
use Rattle.sql_text.specs.Reading.{reads, by, flat}

pub atom_levels : (n : ℕ) (w : List Lexeme) → by n atom w ≡ flat atom w
unfolding reads value between members ranged nullness compared condition atom
atom_levels n w = refl

pub grouping_levels : (n : ℕ) (w : List Lexeme) → by n grouping w ≡ flat grouping w
unfolding reads grouping
grouping_levels n w = refl

pub ordering_levels : (n : ℕ) (w : List Lexeme) → by n ordering w ≡ flat ordering w
unfolding reads direction ordering
ordering_levels n w = refl
