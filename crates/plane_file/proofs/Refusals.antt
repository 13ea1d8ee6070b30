-- Why a file is refused, out of what its bytes show and what the store did.
use Rattle.std.proofs.Common.{◌≡◌, ℕ, zero, suc, ◌+◌, ◌≤◌, ◌<◌, Bool, true, false, Option, Some, None, List, [], ◌∷◌, ◌++◌, length, refl, sym, subst, arith, IfSome, zero-add}
use Rattle.std.proofs.lemmas.Bool.{and_parts, and_from}
use Rattle.std.proofs.lemmas.List.Folds.{list_all-append}
use Rattle.std.specs.List.{list_all}
use Rattle.outer_world.proofs.Steps.{handed_none, told, told_always}
use Rattle.outer_world.specs.Device.{Rose, StoreState}
use Rattle.outer_world.specs.Whole.{HandsOver, places_from}
use Rattle.plane_file.proofs.Handed.{handed_on}
use Rattle.plane_file.specs.Checks.{Check, column_checks, column_end, columns_checks, columns_in, count_at, dictionary_at, fields_checks, file_fault, first_fault, front_checks, byte_at, names_checks, readable, title_at}
use Rattle.plane_file.specs.Fronts.{StopCause, StopsAt}
use Rattle.plane_file.specs.Opening.{HasFault, Refuses}
use Rattle.plane_file.specs.declared.file_fault.FileFault.{FileFault}
use Rattle.plane_file.specs.declared.file_fault.FileFault.TheVariants.{BadMagic, UnknownVersion, BadHead, LimitPassed, WrongSize, WentShort, Fault, NoMemory}

-- the fault is one of the bytes
abbrev pub is_of_bytes : FileFault → Bool
is_of_bytes BadMagic = true
is_of_bytes (UnknownVersion found) = true
is_of_bytes (BadHead at) = true
is_of_bytes (LimitPassed at) = true
is_of_bytes (WrongSize found wanted) = true
is_of_bytes WentShort = false
is_of_bytes Fault = false
is_of_bytes NoMemory = false

abbrev pub are_of_bytes : List Check → Bool
are_of_bytes checks = list_all (λ (check : Check). is_of_bytes check.1) checks

pub first_of_bytes : (checks : List Check) (why : FileFault) → are_of_bytes checks ≡ true → first_fault checks ≡ Some why → is_of_bytes why ≡ true
first_of_bytes [] why all e = absurd cc
first_of_bytes ((true, other) ∷ checks) why all e = first_of_bytes checks why (and_parts (is_of_bytes other) (are_of_bytes checks) all).1 e
first_of_bytes ((false, other) ∷ checks) why all e = let same : other ≡ why = cc in rw (← same) (and_parts (is_of_bytes other) (are_of_bytes checks) all).0

both_of_bytes : (xs ys : List Check) → are_of_bytes xs ≡ true → are_of_bytes ys ≡ true → are_of_bytes (xs ++ ys) ≡ true
both_of_bytes xs ys p q = rw (list_all-append (λ (check : Check). is_of_bytes check.1) xs ys) (and_from (are_of_bytes xs) (are_of_bytes ys) p q)

names_of_bytes : (count : ℕ) (bytes : List ℕ) (before : Option ℕ) (at : ℕ) → are_of_bytes (names_checks count bytes before at) ≡ true
unfolding names_checks
names_of_bytes zero bytes before at = refl
names_of_bytes (suc count) bytes before at = names_of_bytes count bytes (Some at) (at + 1 + byte_at bytes at)

columns_of_bytes : (count : ℕ) (bytes : List ℕ) (titles : List (List ℕ)) (at : ℕ) → are_of_bytes (columns_checks count bytes titles at) ≡ true
unfolding columns_checks
columns_of_bytes zero bytes titles at = refl
columns_of_bytes (suc count) bytes titles at =
    let names = names_of_bytes (count_at bytes at) bytes None (dictionary_at bytes at) in
    both_of_bytes (column_checks bytes titles at) (columns_checks count bytes (titles ++ title_at bytes at ∷ []) (column_end bytes at))
    (both_of_bytes (fields_checks bytes titles at) (names_checks (count_at bytes at) bytes None (dictionary_at bytes at)) refl names)
    (columns_of_bytes count bytes (titles ++ title_at bytes at ∷ []) (column_end bytes at))

pub front_of_bytes : (front : List ℕ) (size : ℕ) → are_of_bytes (front_checks front size) ≡ true
front_of_bytes front size = both_of_bytes (columns_checks (columns_in front) front [] 32) _ (columns_of_bytes (columns_in front) front [] 32) refl

-- the bytes show the fault
cause : (old new : StoreState) (why : FileFault) → is_of_bytes why ≡ true → IfSome old.held (λ bytes. file_fault bytes ≡ Some why) → HasFault old new why
cause old new BadMagic h shown = shown
cause old new (UnknownVersion found) h shown = shown
cause old new (BadHead at) h shown = shown
cause old new (LimitPassed at) h shown = shown
cause old new (WrongSize found wanted) h shown = shown
cause old new WentShort h shown = absurd cc
cause old new Fault h shown = absurd cc
cause old new NoMemory h shown = absurd cc

-- what the bytes show, and how many of them may be read
pub record Shows (why : FileFault) (count : ℕ) (bytes : List ℕ) : Type 0 where
  pub found : file_fault bytes ≡ Some why
  pub few : count ≤ readable bytes

pub refuses : (old new : StoreState) (why : FileFault) (count : ℕ) → is_of_bytes why ≡ true → HandsOver old.pieces new.pieces (places_from 0 count) → IfSome old.held (Shows why count) → Refuses old new why
refuses old new why count h handed shown = record {
  cause = cause old new why h (told old.held (Shows why count) (Shows why count) (λ bytes. file_fault bytes ≡ Some why) (λ bytes p q. p.found) shown shown);
  count = count;
  handed = handed;
  few = told old.held (Shows why count) (Shows why count) (λ bytes. count ≤ readable bytes) (λ bytes p q. p.few) shown shown;
}

-- no memory was left
pub starves : (old new : StoreState) (count : ℕ) → HandsOver old.pieces new.pieces (places_from 0 count) → IfSome old.held (λ bytes. count ≤ readable bytes) → Refuses old new NoMemory
starves old new count handed few = record { cause = tt; count = count; handed = handed; few = few }

-- the size could not be told
pub fails : (old new : StoreState) → new.pieces ≡ old.pieces → Rose old.faults new.faults → Refuses old new Fault
fails old new same rose = record {
  cause = rose;
  count = 0;
  handed = rw same (handed_none old.pieces 0);
  few = told_always old.held (λ bytes. 0 ≤ readable bytes) (λ bytes. omega arith);
}

rose_since : (before mid now : ℕ) → before ≤ mid → Rose mid now → Rose before now
rose_since before mid now le h = omega arith

-- so many bytes are there, and may be read
pub record HasRoom (end : ℕ) (bytes : List ℕ) : Type 0 where
  pub there : end ≤ length bytes
  pub may : end ≤ readable bytes

stop_cause : (old mid new : StoreState) (end : ℕ) (why : FileFault) → mid.held ≡ old.held → old.faults ≤ mid.faults → old.ends ≤ mid.ends → IfSome old.held (HasRoom end) → StopCause mid new end why → HasFault old new why
stop_cause old mid new end WentShort same faults ends room c =
    let short : IfSome old.held (λ bytes. length bytes < end) = subst (λ (o : Option (List ℕ)). IfSome o (λ bytes. length bytes < end)) same c.1 in
    (rose_since old.ends mid.ends new.ends ends c.0, told old.held (HasRoom end) (λ bytes. length bytes < end) (λ bytes. ⊥) (λ bytes p q. let h = p.there in absurd (omega arith)) room short)
stop_cause old mid new end Fault same faults ends room c = rose_since old.faults mid.faults new.faults faults c
stop_cause old mid new end BadMagic same faults ends room c = absurd c
stop_cause old mid new end (UnknownVersion found) same faults ends room c = absurd c
stop_cause old mid new end (BadHead at) same faults ends room c = absurd c
stop_cause old mid new end (LimitPassed at) same faults ends room c = absurd c
stop_cause old mid new end (WrongSize found wanted) same faults ends room c = absurd c
stop_cause old mid new end NoMemory same faults ends room c = absurd c

pub hands_both : (old mid new : StoreState) (at count : ℕ) → HandsOver old.pieces mid.pieces (places_from 0 at) → HandsOver mid.pieces new.pieces (places_from at count) → HandsOver old.pieces new.pieces (places_from 0 (at + count))
hands_both old mid new at count p q = handed_on 0 at count old.pieces mid.pieces new.pieces p (subst (λ n. HandsOver mid.pieces new.pieces (places_from n count)) (sym (zero-add at)) q)

-- the bytes from a place on could not be read
pub stops : (old mid new : StoreState) (at count : ℕ) (why : FileFault) → mid.held ≡ old.held → old.faults ≤ mid.faults → old.ends ≤ mid.ends → HandsOver old.pieces mid.pieces (places_from 0 at)
    → IfSome old.held (HasRoom (at + count)) → StopsAt mid new at count why → Refuses old new why
stops old mid new at count why same faults ends before room s = record {
  cause = stop_cause old mid new (at + count) why same faults ends room s.cause;
  count = at + s.got;
  handed = hands_both old mid new at s.got before s.handed;
  few = told old.held (HasRoom (at + count)) (HasRoom (at + count)) (λ bytes. at + s.got ≤ readable bytes) (λ bytes p q. let h = p.may in let few = s.few in omega arith) room room;
}
