-- The first fault of a table of checks.
use Rattle.std.proofs.Common.{◌≡◌, Bool, true, false, Some, None, List, [], ◌∷◌, ◌++◌, refl}
use Rattle.plane_file.specs.Checks.{Check, first_fault}
use Rattle.plane_file.specs.declared.file_fault.FileFault.{FileFault}

-- a check that is passed, and those behind it
pub passed : (holds : Bool) (why : FileFault) (checks : List Check) → first_fault ((holds, why) ∷ checks) ≡ None → (holds ≡ true) × (first_fault checks ≡ None)
passed true why checks e = (refl, e)
passed false why checks e = absurd cc

pub passed-append : (xs ys : List Check) → first_fault (xs ++ ys) ≡ None → (first_fault xs ≡ None) × (first_fault ys ≡ None)
passed-append [] ys e = (refl, e)
passed-append ((true, why) ∷ xs) ys e = passed-append xs ys e
passed-append ((false, why) ∷ xs) ys e = absurd cc

-- the first fault of two tables
pub first_fault-append_none : (xs ys : List Check) → first_fault xs ≡ None → first_fault (xs ++ ys) ≡ first_fault ys
first_fault-append_none [] ys e = refl
first_fault-append_none ((true, why) ∷ xs) ys e = first_fault-append_none xs ys e
first_fault-append_none ((false, why) ∷ xs) ys e = absurd cc

pub first_fault-append_some : (xs ys : List Check) (found : FileFault) → first_fault xs ≡ Some found → first_fault (xs ++ ys) ≡ Some found
first_fault-append_some [] ys found e = absurd cc
first_fault-append_some ((true, why) ∷ xs) ys found e = first_fault-append_some xs ys found e
first_fault-append_some ((false, why) ∷ xs) ys found e = e
