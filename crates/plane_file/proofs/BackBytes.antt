-- What is read from bytes that begin, from a place on, with what was spelled.
use Rattle.std.proofs.Common.{◌≡◌, ℕ, ◌+◌, ◌^◌, ◌≤◌, ◌<◌, ℤ, List, ◌∷◌, ◌++◌, length, get_or, take, drop, refl, sym, ap, ◌∙◌, arith, length-append, true}
use Rattle.std.specs.Prelude.{FitsSigned}
use Rattle.std.specs.Int.{w32, w64, cast_signed, cast_unsigned, from_le_bytes, to_le_bytes}
use Rattle.std.proofs.Math.Facts.{Fits-of_z}
use Rattle.std.proofs.lemmas.Bool.{le-leb}
use Rattle.std.proofs.lemmas.Int.{to_z-of_z}
use Rattle.std.proofs.lemmas.List.{drop-drop, drop_at, get_or-drop, length-drop, take_at}
use Rattle.std.proofs.lemmas.Nat.{from_le_bytes-to_le_bytes_4, from_le_bytes-to_le_bytes_8}
use Rattle.plane_file.proofs.FrontBytes.{take_4, take_8}
use Rattle.plane_file.specs.Checks.{byte_at, number_at, part_at, reaches, signed_at}
use Rattle.plane_file.specs.Format.{signed_bytes}

-- so many bytes stand there
pub reaches_part : (bytes xs rest : List ℕ) (at count : ℕ) → drop at bytes ≡ xs ++ rest → count ≤ length xs → 1 ≤ count → at + count ≤ length bytes
reaches_part bytes xs rest at count e le some = omega (arith, ap length e, length-drop at bytes, length-append xs rest)

pub reaches_true : (bytes : List ℕ) (at count : ℕ) → at + count ≤ length bytes → reaches bytes at count ≡ true
reaches_true bytes at count le = le-leb (at + count) (length bytes) le

-- what stands behind the first of them
pub behind : (bytes xs rest : List ℕ) (at count next : ℕ) → drop at bytes ≡ xs ++ rest → length xs ≡ count → next ≡ at + count → drop next bytes ≡ rest
behind bytes xs rest at count next e long same = ap (λ (n : ℕ). drop n bytes) same ∙ sym (drop-drop count at bytes) ∙ ap (drop count) e ∙ drop_at xs rest count long

-- the first of them
pub part_back : (bytes xs rest : List ℕ) (at count : ℕ) → drop at bytes ≡ xs ++ rest → length xs ≡ count → part_at bytes at count ≡ xs
unfolding part_at
part_back bytes xs rest at count e long = ap (take count) e ∙ take_at xs rest count long

pub byte_back : (bytes : List ℕ) (x : ℕ) (rest : List ℕ) (at : ℕ) → drop at bytes ≡ x ∷ rest → byte_at bytes at ≡ x
unfolding byte_at
byte_back bytes x rest at e =
    let here : at + 0 ≡ at = omega arith in
    ap (λ (n : ℕ). get_or bytes n 0) (sym here) ∙ sym (get_or-drop at bytes 0 0) ∙ ap (λ (l : List ℕ). get_or l 0 0) e

pub number32_back : (bytes rest : List ℕ) (at n : ℕ) → n < 2 ^ 32 → drop at bytes ≡ to_le_bytes w32 n ++ rest → number_at w32 bytes at ≡ n
unfolding number_at
number32_back bytes rest at n lt e =
    take_4 (drop at bytes) ∙ ap (λ (l : List ℕ). from_le_bytes w32 (take 4 l)) e ∙ ap (from_le_bytes w32) (take_at (to_le_bytes w32 n) rest 4 refl) ∙ from_le_bytes-to_le_bytes_4 n lt

pub number64_back : (bytes rest : List ℕ) (at n : ℕ) → n < 2 ^ 64 → drop at bytes ≡ to_le_bytes w64 n ++ rest → number_at w64 bytes at ≡ n
unfolding number_at
number64_back bytes rest at n lt e =
    take_8 (drop at bytes) ∙ ap (λ (l : List ℕ). from_le_bytes w64 (take 8 l)) e ∙ ap (from_le_bytes w64) (take_at (to_le_bytes w64 n) rest 8 refl) ∙ from_le_bytes-to_le_bytes_8 n lt

pub signed_spelled : (bytes rest : List ℕ) (at : ℕ) (z : ℤ) → FitsSigned w64 z → drop at bytes ≡ signed_bytes z ++ rest → signed_at bytes at ≡ z
unfolding signed_at
signed_spelled bytes rest at z fits e =
    ap (cast_signed w64) (number64_back bytes rest at (cast_unsigned w64 z) (Fits-of_z fits).fits e) ∙ to_z-of_z w64 z fits
