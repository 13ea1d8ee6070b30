-- What stands at a place of a list of bytes.
use Rattle.std.proofs.Common.{◌≡◌, ℕ, ◌+◌, List, [], ◌∷◌, refl, add-zero}
use Rattle.std.specs.Int.{w32, w64, from_le_bytes}
use Rattle.std.proofs.lemmas.List.{get_or-drop}
use Rattle.plane_file.specs.Checks.{byte_at, number_at}

number32 : (bytes : List ℕ) (at : ℕ) → from_le_bytes w32 (byte_at bytes at ∷ byte_at bytes (at + 1) ∷ byte_at bytes (at + 2) ∷ byte_at bytes (at + 3) ∷ []) ≡ number_at w32 bytes at
unfolding byte_at number_at
number32 bytes at = simp (get_or-drop at bytes, add-zero) refl

number64 : (bytes : List ℕ) (at : ℕ) → from_le_bytes w64 (byte_at bytes at ∷ byte_at bytes (at + 1) ∷ byte_at bytes (at + 2) ∷ byte_at bytes (at + 3) ∷ byte_at bytes (at + 4) ∷ byte_at bytes (at + 5) ∷ byte_at bytes (at + 6) ∷ byte_at bytes (at + 7) ∷ []) ≡ number_at w64 bytes at
unfolding byte_at number_at
number64 bytes at = simp (get_or-drop at bytes, add-zero) refl

-- the bytes one by one
pub number32_read : (bytes : List ℕ) (at a b c d : ℕ) → a ≡ byte_at bytes at → b ≡ byte_at bytes (at + 1) → c ≡ byte_at bytes (at + 2) → d ≡ byte_at bytes (at + 3) → from_le_bytes w32 (a ∷ b ∷ c ∷ d ∷ []) ≡ number_at w32 bytes at
number32_read bytes at a b c d p q r s = rw (p, q, r, s) (number32 bytes at)

pub number64_read : (bytes : List ℕ) (at a b c d e f g h : ℕ) → a ≡ byte_at bytes at → b ≡ byte_at bytes (at + 1) → c ≡ byte_at bytes (at + 2) → d ≡ byte_at bytes (at + 3)
    → e ≡ byte_at bytes (at + 4) → f ≡ byte_at bytes (at + 5) → g ≡ byte_at bytes (at + 6) → h ≡ byte_at bytes (at + 7) → from_le_bytes w64 (a ∷ b ∷ c ∷ d ∷ e ∷ f ∷ g ∷ h ∷ []) ≡ number_at w64 bytes at
number64_read bytes at a b c d e f g h p q r s t u v w = rw (p, q, r, s, t, u, v, w) (number64 bytes at)
