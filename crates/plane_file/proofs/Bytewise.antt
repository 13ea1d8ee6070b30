-- What stands in the front of the bytes stands in the bytes, and which fault they show.
use Rattle.std.proofs.Common.{◌≡◌, ℕ, ◌+◌, ◌≤◌, ◌<◌, nat_le, Bool, true, false, cond, Option, Some, None, List, ◌∷◌, ◌++◌, length, get_or, take, drop, refl, sym, ap, ◌∙◌, arith}
use Rattle.std.proofs.lemmas.Bool.{le-leb, lt-leb, le-ltb}
use Rattle.std.proofs.lemmas.List.{get_or-drop, get_or-take, take-take}
use Rattle.std.specs.Int.{w32, w64}
use Rattle.plane_file.proofs.Faults.{first_fault-append_none, first_fault-append_some}
use Rattle.plane_file.specs.Checks.{Check, file_fault, first_fault, front_checks, front_of, has_header, header_checks, heads_in, number_at, part_at, readable}
use Rattle.plane_file.specs.declared.file_fault.FileFault.{FileFault}
use Rattle.plane_file.specs.declared.file_fault.FileFault.TheVariants.{WrongSize}

same_byte : (bytes : List ℕ) (k at i : ℕ) → at + i < k → get_or (drop at (take k bytes)) i 0 ≡ get_or (drop at bytes) i 0
same_byte bytes k at i lt = get_or-drop at (take k bytes) i 0 ∙ get_or-take k bytes (at + i) 0 lt ∙ sym (get_or-drop at bytes i 0)

number32-take : (bytes : List ℕ) (k at : ℕ) → at + 4 ≤ k → number_at w32 (take k bytes) at ≡ number_at w32 bytes at
unfolding number_at
number32-take bytes k at le = rw (same_byte bytes k at 0 (omega arith), same_byte bytes k at 1 (omega arith), same_byte bytes k at 2 (omega arith), same_byte bytes k at 3 (omega arith)) refl

number64-take : (bytes : List ℕ) (k at : ℕ) → at + 8 ≤ k → number_at w64 (take k bytes) at ≡ number_at w64 bytes at
unfolding number_at
number64-take bytes k at le = rw (
  same_byte bytes k at 0 (omega arith),
  same_byte bytes k at 1 (omega arith),
  same_byte bytes k at 2 (omega arith),
  same_byte bytes k at 3 (omega arith),
  same_byte bytes k at 4 (omega arith),
  same_byte bytes k at 5 (omega arith),
  same_byte bytes k at 6 (omega arith),
  same_byte bytes k at 7 (omega arith),
) refl

mark-take : (bytes : List ℕ) (k : ℕ) → 8 ≤ k → part_at (take k bytes) 0 8 ≡ part_at bytes 0 8
unfolding part_at
mark-take bytes k le = take-take 8 k bytes le

pub heads-take : (bytes : List ℕ) (k : ℕ) → 32 ≤ k → heads_in (take k bytes) ≡ heads_in bytes
heads-take bytes k le = number64-take bytes k 24 le

-- the first 32 bytes show the fault of the header
pub header-take : (bytes : List ℕ) (k : ℕ) → 32 ≤ k → header_checks (take k bytes) ≡ header_checks bytes
header-take bytes k le =
    rw (mark-take bytes k (omega arith), number32-take bytes k 8 (omega arith), number32-take bytes k 12 (omega arith), number64-take bytes k 16 (omega arith), number64-take bytes k 24 le) refl

passes_size : (bytes : List ℕ) (rest : Option FileFault) → 32 ≤ length bytes → cond (nat_le 32 (length bytes)) rest (Some (WrongSize (length bytes) 32)) ≡ rest
passes_size bytes rest le = rw (le-leb 32 (length bytes) le) refl

-- which fault the bytes show, by what holds of them
pub fault_small : (bytes : List ℕ) → length bytes < 32 → file_fault bytes ≡ Some (WrongSize (length bytes) 32)
fault_small bytes lt = rw (lt-leb 32 (length bytes) lt) refl

-- the checks behind those of the header
abbrev later : List ℕ → List Check
later bytes = (nat_le (32 + heads_in bytes) (length bytes), WrongSize (length bytes) (32 + heads_in bytes)) ∷ front_checks (front_of bytes) (length bytes)

fault_large : (bytes : List ℕ) → 32 ≤ length bytes → file_fault bytes ≡ first_fault (header_checks bytes ++ later bytes)
fault_large bytes le = passes_size bytes (first_fault (header_checks bytes ++ later bytes)) le

pub same_header : (bytes : List ℕ) → first_fault (header_checks (take 32 bytes)) ≡ first_fault (header_checks bytes)
same_header bytes = ap first_fault (header-take bytes 32 (omega arith))

pub fault_header : (bytes : List ℕ) (why : FileFault) → 32 ≤ length bytes → first_fault (header_checks (take 32 bytes)) ≡ Some why → file_fault bytes ≡ Some why
fault_header bytes why le e = fault_large bytes le ∙ first_fault-append_some (header_checks bytes) (later bytes) why (sym (same_header bytes) ∙ e)

fault_later : (bytes : List ℕ) → 32 ≤ length bytes → first_fault (header_checks (take 32 bytes)) ≡ None → file_fault bytes ≡ first_fault (later bytes)
fault_later bytes le e = fault_large bytes le ∙ first_fault-append_none (header_checks bytes) (later bytes) (sym (same_header bytes) ∙ e)

pub fault_heads : (bytes : List ℕ) → 32 ≤ length bytes → first_fault (header_checks (take 32 bytes)) ≡ None → length bytes < 32 + heads_in (take 32 bytes)
    → file_fault bytes ≡ Some (WrongSize (length bytes) (32 + heads_in (take 32 bytes)))
fault_heads bytes le e lt =
    let same = heads-take bytes 32 (omega arith) in
    fault_later bytes le e ∙ rw (lt-leb (32 + heads_in bytes) (length bytes) (omega (arith, same)), same) refl

pub fault_front : (bytes : List ℕ) → 32 ≤ length bytes → first_fault (header_checks (take 32 bytes)) ≡ None → 32 + heads_in (take 32 bytes) ≤ length bytes
    → file_fault bytes ≡ first_fault (front_checks (front_of bytes) (length bytes))
fault_front bytes le e room =
    let same = heads-take bytes 32 (omega arith) in
    fault_later bytes le e ∙ rw (le-leb (32 + heads_in bytes) (length bytes) (omega (arith, same))) refl

-- what may be read
pub readable_large : (bytes : List ℕ) → 32 ≤ length bytes → 32 ≤ readable bytes
readable_large bytes le = rw (le-ltb (length bytes) 32 le) (at_least (has_header bytes))
  where
    at_least : (b : Bool) → 32 ≤ cond b (32 + heads_in bytes) 32
    at_least true = omega arith
    at_least false = omega arith

pub readable_front : (bytes : List ℕ) → 32 ≤ length bytes → first_fault (header_checks (take 32 bytes)) ≡ None → 32 + heads_in (take 32 bytes) ≤ length bytes → readable bytes ≡ 32 + heads_in bytes
readable_front bytes le e room =
    let same = heads-take bytes 32 (omega arith) in
    rw (le-ltb (length bytes) 32 le, sym (same_header bytes) ∙ e, le-leb (32 + heads_in bytes) (length bytes) (omega (arith, same))) refl

pub front_is : (bytes : List ℕ) → front_of bytes ≡ take (32 + heads_in bytes) bytes
unfolding part_at
front_is bytes = refl
