-- What stands at the front of the bytes from a place on.
use Rattle.std.proofs.Common.{◌≡◌, ℕ, ◌+◌, ◌^◌, ◌≤◌, ◌<◌, List, ◌∷◌, ◌++◌, length, take, drop, refl, sym, ap, ◌∙◌, arith, inl, inr}
use Rattle.std.specs.Prelude.{FitsSigned}
use Rattle.std.specs.Int.{w32, w64, cast_signed, cast_unsigned, from_le_bytes, to_le_bytes}
use Rattle.std.proofs.Math.Facts.{sfits_to_z}
use Rattle.std.proofs.lemmas.Bool.{cases_lt}
use Rattle.std.proofs.lemmas.Int.{of_z-to_z}
use Rattle.std.proofs.lemmas.List.{drop-drop, drop_more, get_or-drop, get_or-take, get_or_past, length-drop, length-take, take-append-drop}
use Rattle.std.proofs.lemmas.Nat.{le_bytes_4, le_bytes_8}
use Rattle.plane_file.specs.Bytes.{AreBytes}
use Rattle.plane_file.specs.Checks.{byte_at, number_at, part_at, signed_at}
use Rattle.plane_file.specs.Format.{signed_bytes}

pub drop_bytes : (bytes : List ℕ) (at : ℕ) → AreBytes bytes → AreBytes (drop at bytes)
drop_bytes bytes at fits i = rw get_or-drop (fits (at + i))

pub take_bytes : (bytes : List ℕ) (n : ℕ) → AreBytes bytes → AreBytes (take n bytes)
take_bytes bytes n fits i =
    elim (cases_lt i n) [
      | inl lt ↦ rw (get_or-take n bytes i 0 lt) (fits i)
      | inr le ↦ rw (get_or_past (take n bytes) i 0 (omega (arith, length-take n bytes))) (omega arith)
    ]

pub byte_front : (bytes : List ℕ) (at next : ℕ) → next ≡ at + 1 → next ≤ length bytes → drop at bytes ≡ byte_at bytes at ∷ drop next bytes
unfolding byte_at
byte_front bytes at next e le = rw e (drop_more bytes at 0 (omega arith))

pub part_front : (bytes : List ℕ) (at count next : ℕ) → next ≡ at + count → drop at bytes ≡ part_at bytes at count ++ drop next bytes
unfolding part_at
part_front bytes at count next e = rw (e, ← drop-drop count at bytes) (sym (take-append-drop count (drop at bytes)))

pub length-part_at : (bytes : List ℕ) (at count : ℕ) → at + count ≤ length bytes → length (part_at bytes at count) ≡ count
unfolding part_at
length-part_at bytes at count le = omega (arith, length-take count (drop at bytes), length-drop at bytes)

pub take_4 : (bs : List ℕ) → from_le_bytes w32 bs ≡ from_le_bytes w32 (take 4 bs)
take_4 bs = rw (get_or-take 4 bs 0 0 (omega arith), get_or-take 4 bs 1 0 (omega arith), get_or-take 4 bs 2 0 (omega arith), get_or-take 4 bs 3 0 (omega arith)) refl

pub take_8 : (bs : List ℕ) → from_le_bytes w64 bs ≡ from_le_bytes w64 (take 8 bs)
take_8 bs = rw (
  get_or-take 8 bs 0 0 (omega arith),
  get_or-take 8 bs 1 0 (omega arith),
  get_or-take 8 bs 2 0 (omega arith),
  get_or-take 8 bs 3 0 (omega arith),
  get_or-take 8 bs 4 0 (omega arith),
  get_or-take 8 bs 5 0 (omega arith),
  get_or-take 8 bs 6 0 (omega arith),
  get_or-take 8 bs 7 0 (omega arith),
) refl

pub number32_front : (bytes : List ℕ) (at next : ℕ) → AreBytes bytes → next ≡ at + 4 → next ≤ length bytes → drop at bytes ≡ to_le_bytes w32 (number_at w32 bytes at) ++ drop next bytes
unfolding number_at
number32_front bytes at next fits e le =
    let four = take 4 (drop at bytes) in
    let here : to_le_bytes w32 (from_le_bytes w32 (drop at bytes)) ≡ four =
    le_bytes_4 four _ (omega (arith, length-take 4 (drop at bytes), length-drop at bytes)) (take_bytes (drop at bytes) 4 (drop_bytes bytes at fits)) (take_4 (drop at bytes)) in
    sym (take-append-drop 4 (drop at bytes)) ∙ ap (λ (t : List ℕ). t ++ drop 4 (drop at bytes)) (sym here) ∙ ap (λ (t : List ℕ). to_le_bytes w32 (from_le_bytes w32 (drop at bytes)) ++ t) (drop-drop 4 at bytes ∙ ap (λ (n : ℕ). drop n bytes) (sym e))

pub number64_front : (bytes : List ℕ) (at next : ℕ) → AreBytes bytes → next ≡ at + 8 → next ≤ length bytes → drop at bytes ≡ to_le_bytes w64 (number_at w64 bytes at) ++ drop next bytes
unfolding number_at
number64_front bytes at next fits e le =
    let eight = take 8 (drop at bytes) in
    let here : to_le_bytes w64 (from_le_bytes w64 (drop at bytes)) ≡ eight =
    le_bytes_8 eight _ (omega (arith, length-take 8 (drop at bytes), length-drop at bytes)) (take_bytes (drop at bytes) 8 (drop_bytes bytes at fits)) (take_8 (drop at bytes)) in
    sym (take-append-drop 8 (drop at bytes)) ∙ ap (λ (t : List ℕ). t ++ drop 8 (drop at bytes)) (sym here) ∙ ap (λ (t : List ℕ). to_le_bytes w64 (from_le_bytes w64 (drop at bytes)) ++ t) (drop-drop 8 at bytes ∙ ap (λ (n : ℕ). drop n bytes) (sym e))

below64 : (bs : List ℕ) → AreBytes bs → from_le_bytes w64 bs < 2 ^ 64
below64 bs fits = omega (arith, fits 0, fits 1, fits 2, fits 3, fits 4, fits 5, fits 6, fits 7)

pub signed_front : (bytes : List ℕ) (at next : ℕ) → AreBytes bytes → next ≡ at + 8 → next ≤ length bytes → drop at bytes ≡ signed_bytes (signed_at bytes at) ++ drop next bytes
unfolding signed_at number_at
signed_front bytes at next fits e le =
    let back = of_z-to_z w64 (from_le_bytes w64 (drop at bytes)) (below64 (drop at bytes) (drop_bytes bytes at fits)) in
    number64_front bytes at next fits e le ∙ ap (λ (n : ℕ). to_le_bytes w64 n ++ drop next bytes) (sym back)

pub signed_fits : (bytes : List ℕ) (at : ℕ) → AreBytes bytes → FitsSigned w64 (signed_at bytes at)
unfolding signed_at number_at
signed_fits bytes at fits = sfits_to_z (record { fits = below64 (drop at bytes) (drop_bytes bytes at fits) })

-- a number with its sign, as its bytes tell it
pub signed_back : (bytes : List ℕ) (at : ℕ) → AreBytes bytes → cast_signed w64 (cast_unsigned w64 (signed_at bytes at)) ≡ signed_at bytes at
unfolding signed_at number_at
signed_back bytes at fits = ap (cast_signed w64) (of_z-to_z w64 (from_le_bytes w64 (drop at bytes)) (below64 (drop at bytes) (drop_bytes bytes at fits)))
