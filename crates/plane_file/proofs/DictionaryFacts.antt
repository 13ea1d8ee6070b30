-- The names of a dictionary that passed its checks.
use Rattle.std.proofs.Common.{◌≡◌, ℕ, zero, suc, ◌+◌, ◌≤◌, ◌<◌, true, ◌&&◌, Option, Some, None, List, ◌∷◌, ◌++◌, length, drop, refl, sym, ap, ◌∙◌, arith, append_assoc}
use Rattle.std.proofs.lemmas.Bool.{and_from, and_parts, leb-true, le-leb}
use Rattle.std.specs.Cmp.Lexicographic.{slice_cmp}
use Rattle.std.specs.List.{flat_map, list_all}
use Rattle.std.specs.Ordering.{is_lt, nat_cmp}
use Rattle.std.specs.Str.{is_utf8}
use Rattle.daq_table.specs.ColumnFacts.{is_ascending}
use Rattle.plane_file.proofs.Faults.{passed}
use Rattle.plane_file.proofs.FrontBytes.{byte_front, length-part_at, part_front}
use Rattle.plane_file.specs.Bytes.{AreBytes}
use Rattle.plane_file.specs.Checks.{byte_at, first_fault, is_name, is_next, name_at, names_at, names_checks, names_end, reaches}
use Rattle.plane_file.specs.Format.{counted, is_short_text}
use Rattle.plane_file.specs.declared.file_fault.FileFault.TheVariants.{BadHead}

-- what a name that stands at a place is
pub record HasName (bytes : List ℕ) (before : Option ℕ) (at : ℕ) : Type 0 where
  pub within : at + 1 + byte_at bytes at ≤ length bytes
  pub utf8 : is_utf8 (name_at bytes at) ≡ true
  pub next : is_next bytes before (name_at bytes at) ≡ true

has_name : (bytes : List ℕ) (before : Option ℕ) (at : ℕ) → is_name bytes before at ≡ true → HasName bytes before at
unfolding is_name
has_name bytes before at h =
    let ends = reaches bytes (at + 1) (byte_at bytes at) in
    let utf8 = and_parts ((reaches bytes at 1 && ends) && is_utf8 (name_at bytes at)) (is_next bytes before (name_at bytes at)) h in
    let both = and_parts (reaches bytes at 1 && ends) (is_utf8 (name_at bytes at)) utf8.0 in
    record { within = leb-true (at + 1 + byte_at bytes at) (length bytes) (and_parts (reaches bytes at 1) ends both.0).1; utf8 = both.1; next = utf8.1 }

-- the first name, and the checks of the others
record First (count : ℕ) (bytes : List ℕ) (before : Option ℕ) (at : ℕ) : Type 0 where
  here : HasName bytes before at
  others : first_fault (names_checks count bytes (Some at) (at + 1 + byte_at bytes at)) ≡ None

first : (count : ℕ) (bytes : List ℕ) (before : Option ℕ) (at : ℕ) → first_fault (names_checks (suc count) bytes before at) ≡ None → First count bytes before at
unfolding names_checks
first count bytes before at e =
    let p = passed (is_name bytes before at) (BadHead at) (names_checks count bytes (Some at) (at + 1 + byte_at bytes at)) e in
    record { here = has_name bytes before at p.0; others = p.1 }

pub length-names_at : (count : ℕ) (bytes : List ℕ) (at : ℕ) → length (names_at count bytes at) ≡ count
unfolding names_at
length-names_at zero bytes at = refl
length-names_at (suc count) bytes at = ap suc (length-names_at count bytes (at + 1 + byte_at bytes at))

pub names_end_within : (count : ℕ) (bytes : List ℕ) (before : Option ℕ) (at : ℕ) → at ≤ length bytes → first_fault (names_checks count bytes before at) ≡ None → names_end count bytes at ≤ length bytes
unfolding names_end
names_end_within zero bytes before at le e = le
names_end_within (suc count) bytes before at le e =
    let p = first count bytes before at e in
    names_end_within count bytes (Some at) (at + 1 + byte_at bytes at) p.here.within p.others

length-name_at : (bytes : List ℕ) (before : Option ℕ) (at : ℕ) → HasName bytes before at → length (name_at bytes at) ≡ byte_at bytes at
length-name_at bytes before at h = length-part_at bytes (at + 1) (byte_at bytes at) h.within

name_front : (bytes : List ℕ) (before : Option ℕ) (at : ℕ) → HasName bytes before at → drop at bytes ≡ counted (name_at bytes at) ++ drop (at + 1 + byte_at bytes at) bytes
name_front bytes before at h =
    let byte = byte_front bytes at (at + 1) refl (omega (arith, h.within)) in
    let name = part_front bytes (at + 1) (byte_at bytes at) (at + 1 + byte_at bytes at) refl in
    byte ∙ ap (λ (t : List ℕ). byte_at bytes at ∷ t) name
    ∙ ap (λ (n : ℕ). n ∷ (name_at bytes at ++ drop (at + 1 + byte_at bytes at) bytes)) (sym (length-name_at bytes before at h))

-- the names stand there, each behind its length
pub names_front : (count : ℕ) (bytes : List ℕ) (before : Option ℕ) (at : ℕ) → first_fault (names_checks count bytes before at) ≡ None
    → drop at bytes ≡ flat_map counted (names_at count bytes at) ++ drop (names_end count bytes at) bytes
unfolding names_at names_end
names_front zero bytes before at e = refl
names_front (suc count) bytes before at e =
    let p = first count bytes before at e in
    let next = at + 1 + byte_at bytes at in
    let rest = names_front count bytes (Some at) next p.others in
    name_front bytes before at p.here ∙ ap (λ (t : List ℕ). counted (name_at bytes at) ++ t) rest
    ∙ sym (append_assoc (counted (name_at bytes at)) (flat_map counted (names_at count bytes next)) (drop (names_end count bytes next) bytes))

pub names_ascend : (count : ℕ) (bytes : List ℕ) (before : Option ℕ) (at : ℕ) → first_fault (names_checks count bytes before at) ≡ None → is_ascending (names_at count bytes at) ≡ true
unfolding names_at
names_ascend zero bytes before at e = refl
names_ascend (suc zero) bytes before at e = refl
names_ascend (suc (suc count)) bytes before at e =
    let p = first (suc count) bytes before at e in
    let next = at + 1 + byte_at bytes at in
    let q = first count bytes (Some at) next p.others in
    and_from (is_lt (slice_cmp nat_cmp (name_at bytes at) (name_at bytes next))) (is_ascending (names_at (suc count) bytes next)) q.here.next (names_ascend (suc count) bytes (Some at) next p.others)

byte_small : (bytes : List ℕ) (at : ℕ) → AreBytes bytes → byte_at bytes at < 256
unfolding byte_at
byte_small bytes at fits = fits at

pub names_short : (count : ℕ) (bytes : List ℕ) (before : Option ℕ) (at : ℕ) → AreBytes bytes → first_fault (names_checks count bytes before at) ≡ None → list_all is_short_text (names_at count bytes at) ≡ true
unfolding names_at
names_short zero bytes before at fits e = refl
names_short (suc count) bytes before at fits e =
    let p = first count bytes before at e in
    let next = at + 1 + byte_at bytes at in
    let name = name_at bytes at in
    let short : length name ≤ 255 = omega (arith, length-name_at bytes before at p.here, byte_small bytes at fits) in
    and_from (is_short_text name) (list_all is_short_text (names_at count bytes next))
    (and_from _ (is_utf8 name) (le-leb (length name) 255 short) p.here.utf8) (names_short count bytes (Some at) next fits p.others)
