-- Reading the names of a dictionary one after the other.
use Rattle.std.proofs.Common.{◌≡◌, ℕ, suc, ◌+◌, ◌-◌, ◌≤◌, ◌<◌, true, false, ◌&&◌, Option, Some, None, List, [], ◌∷◌, ◌++◌, length, refl, arith, append_assoc, append-nil}
use Rattle.std.proofs.lemmas.Bool.{and_parts, leb-true}
use Rattle.plane_file.specs.Checks.{byte_at, first_fault, is_name, is_next, name_at, names_at, names_checks, names_end, reaches}
use Rattle.plane_file.specs.declared.file_fault.FileFault.TheVariants.{BadHead}
use Rattle.std.specs.Str.{is_utf8}

-- a name that stands at a place ends within the bytes
pub name_within : (bytes : List ℕ) (before : Option ℕ) (at : ℕ) → is_name bytes before at ≡ true → at + 1 + byte_at bytes at ≤ length bytes
unfolding is_name
name_within bytes before at h =
    let ends = reaches bytes (at + 1) (byte_at bytes at) in
    let utf8 = and_parts ((reaches bytes at 1 && ends) && is_utf8 (name_at bytes at)) (is_next bytes before (name_at bytes at)) h in
    let both = and_parts (reaches bytes at 1 && ends) (is_utf8 (name_at bytes at)) utf8.0 in
    leb-true (at + 1 + byte_at bytes at) (length bytes) (and_parts (reaches bytes at 1) ends both.0).1

left : (count i : ℕ) → i < count → count - i ≡ suc (count - (i + 1))
left count i lt = omega arith

-- the first of the names that are left does not stand there
pub names_stop : (count i : ℕ) (bytes : List ℕ) (before : Option ℕ) (at : ℕ) → i < count → is_name bytes before at ≡ false → first_fault (names_checks (count - i) bytes before at) ≡ Some (BadHead at)
unfolding names_checks
names_stop count i bytes before at lt h = rw (left count i lt, h) refl

-- it does, and the others are left
pub checks_step : (count i : ℕ) (bytes : List ℕ) (before : Option ℕ) (at : ℕ) → i < count → is_name bytes before at ≡ true
    → first_fault (names_checks (count - (i + 1)) bytes (Some at) (at + 1 + byte_at bytes at)) ≡ first_fault (names_checks (count - i) bytes before at)
unfolding names_checks
checks_step count i bytes before at lt h = rw (left count i lt, h) refl

pub end_step : (count i : ℕ) (bytes : List ℕ) (at : ℕ) → i < count → names_end (count - (i + 1)) bytes (at + 1 + byte_at bytes at) ≡ names_end (count - i) bytes at
unfolding names_end
end_step count i bytes at lt = rw (left count i lt) refl

pub names_step : (front : List (List ℕ)) (count i : ℕ) (bytes : List ℕ) (at : ℕ) → i < count
    → (front ++ name_at bytes at ∷ []) ++ names_at (count - (i + 1)) bytes (at + 1 + byte_at bytes at) ≡ front ++ names_at (count - i) bytes at
unfolding names_at
names_step front count i bytes at lt = rw (left count i lt) (append_assoc front (name_at bytes at ∷ []) (names_at (count - (i + 1)) bytes (at + 1 + byte_at bytes at)))

none_left : (count i : ℕ) → count ≤ i → count - i ≡ 0
none_left count i le = omega arith

pub names_done : (front : List (List ℕ)) (count i : ℕ) (bytes : List ℕ) (at : ℕ) → count ≤ i → front ++ names_at (count - i) bytes at ≡ front
unfolding names_at
names_done front count i bytes at le = rw (none_left count i le) (append-nil front)

pub end_done : (count i : ℕ) (bytes : List ℕ) (at : ℕ) → count ≤ i → names_end (count - i) bytes at ≡ at
unfolding names_end
end_done count i bytes at le = rw (none_left count i le) refl

pub checks_done : (count i : ℕ) (bytes : List ℕ) (before : Option ℕ) (at : ℕ) → count ≤ i → first_fault (names_checks (count - i) bytes before at) ≡ None
unfolding names_checks
checks_done count i bytes before at le = rw (none_left count i le) refl
