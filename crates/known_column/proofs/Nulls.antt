-- What a legal prefix tells of null.
use Rattle.std.proofs.Common.{◌≡◌, ℕ, zero, suc, ◌+◌, ◌-◌, ◌*◌, ◌^◌, ◌<◌, ◌≤◌, ◌==◌, nat_le, nat_lt, Bool, true, false, not, ◌&&◌, List, [], ◌∷◌, All, length, map, get_or, slice_get, cond, Some, refl, ap, sym, ◌∙◌, arith}
use Rattle.std.proofs.lemmas.Bool.Decides.{nat_tests}
use Rattle.std.proofs.lemmas.Nat.{pow_pos}
use Rattle.daq_table.specs.declared.head.Ends.{Ends}
use Rattle.std.proofs.Math.Nat.{mul-le-mul_right, div-mul-le_self}
use Rattle.daq_table.specs.Tables.{first_code, planes as planes_of, spread, width as width_of}
use Rattle.query_model.specs.declared.bounds.Nullity.{Nullity}
use Rattle.query_model.specs.declared.bounds.Nullity.TheVariants.{Never, Possibly, Always}
use Rattle.query_model.specs.Truths.{may_be_null, may_be_number}
use Rattle.query_model.specs.Knowledge.{IsLegal, is_legal, prefix_of}
use Rattle.known_column.specs.Columns.{is_below_zero, is_possible, is_sure, zero_cell, KnownColumn}
use Rattle.known_column.specs.Marks.{is_number, tells_null, AreSigns, TellSigns}
use Rattle.known_column.specs.declared.marks.Signs.{Signs}
use Rattle.known_column.proofs.CodeDigits.{least_plain, spread_small}
use Rattle.known_column.proofs.FirstMarks.{none_known}
use Rattle.known_column.proofs.MarkSteps.{by_numbers, least_some}
use Rattle.known_column.proofs.Steps.{legal_by}
use Rattle.known_column.proofs.Growing.{map_same}

-- what is known of the prefixes of the least and the greatest number
record Bounds (nullable first : Bool) (f t : ℕ) : Type 0 where
  plain : nullable ≡ false → f ≡ 0
  start : nullable ≡ true → first ≡ true → (f ≡ 0) × (t ≡ 0)
  later : nullable ≡ true → first ≡ false → 0 < f

sure_by : (nullable first z : Bool) (f t p : ℕ) → Bounds nullable first f t → z ≡ (p == 0) → legal_by nullable 0 f t p ≡ true →
    (not (nullable && first) && nat_le f p) ≡ not (may_be_null (cond (nullable && z) (cond first Possibly Always) Never))
sure_by false first z f t p b e legal = (let none = b.plain refl in grind (arith, nat_tests))
sure_by true true true f t p b e legal = refl
sure_by true true false f t p b e legal = (let none = b.start refl refl in grind (arith, nat_tests))
sure_by true false true f t p b e legal = (let some = b.later refl refl in grind (arith, nat_tests))
sure_by true false false f t p b e legal = (let some = b.later refl refl in grind (arith, nat_tests))

possible_by : (nullable first z : Bool) (f t p : ℕ) → Bounds nullable first f t → z ≡ (p == 0) → legal_by nullable 0 f t p ≡ true →
    nat_le f p ≡ may_be_number (cond (nullable && z) (cond first Possibly Always) Never)
possible_by false first z f t p b e legal = (let none = b.plain refl in grind (arith, nat_tests))
possible_by true true true f t p b e legal = (let none = b.start refl refl in grind (arith, nat_tests))
possible_by true true false f t p b e legal = (let none = b.start refl refl in grind (arith, nat_tests))
possible_by true false true f t p b e legal = (let some = b.later refl refl in grind (arith, nat_tests))
possible_by true false false f t p b e legal = (let some = b.later refl refl in grind (arith, nat_tests))

bounds : (ends : Ends) (read : ℕ) → read ≤ planes_of ends → Bounds ends.nullable (read == 0) (prefix_of ends read (Some 0)) (prefix_of ends read (Some (spread ends)))
bounds ends read h = record {
  plain = λ e. least_plain ends read e;
  start = λ e first. at_start read first;
  later = λ e first. least_some ends read (ap (λ b. not (ends.nullable && b)) first ∙ not_yet ends.nullable) h e;
}
  where
    at_start : (read : ℕ) → (read == 0) ≡ true → (prefix_of ends read (Some 0) ≡ 0) × (prefix_of ends read (Some (spread ends)) ≡ 0)
    at_start read e =
        let zero : read ≡ 0 = grind (arith, nat_tests) in
        let some : 0 < 2 ^ width_of ends = pow_pos (width_of ends) in
        (ap (λ k. prefix_of ends k (Some 0)) zero ∙ none_known ends 0 some, ap (λ k. prefix_of ends k (Some (spread ends))) zero ∙ none_known ends (spread ends) (spread_small ends))

    not_yet : (b : Bool) → not (b && false) ≡ true
    not_yet true = refl
    not_yet false = refl

pub sure_row : (ends : Ends) (read p : ℕ) → read ≤ planes_of ends → is_legal ends read p ≡ true → (tells_null ends read && is_number ends read p) ≡ is_sure ends read p
sure_row ends read p h legal =
    sure_by ends.nullable (read == 0) (p == 0) (prefix_of ends read (Some 0)) (prefix_of ends read (Some (spread ends))) p (bounds ends read h) refl (sym (by_numbers ends read p) ∙ legal)

pub possible_row : (ends : Ends) (read p : ℕ) → read ≤ planes_of ends → is_legal ends read p ≡ true → is_number ends read p ≡ is_possible ends read p
possible_row ends read p h legal =
    possible_by ends.nullable (read == 0) (p == 0) (prefix_of ends read (Some 0)) (prefix_of ends read (Some (spread ends))) p (bounds ends read h) refl (sym (by_numbers ends read p) ∙ legal)

pub sure_rows : (ends : Ends) (read : ℕ) (ps : List ℕ) → read ≤ planes_of ends → All (IsLegal ends read) ps → map (λ p. tells_null ends read && is_number ends read p) ps ≡ map (is_sure ends read) ps
sure_rows ends read ps h legal = map_same (λ p. tells_null ends read && is_number ends read p) (is_sure ends read) ps (λ r below. sure_row ends read (get_or ps r 0) h (legal r 0 below))

pub possible_rows : (ends : Ends) (read : ℕ) (ps : List ℕ) → read ≤ planes_of ends → All (IsLegal ends read) ps → map (is_number ends read) ps ≡ map (is_possible ends read) ps
possible_rows ends read ps h legal = map_same (is_number ends read) (is_possible ends read) ps (λ r below. possible_row ends read (get_or ps r 0) h (legal r 0 below))

-- ---- what is missing, by two tests

pub never_missing : (x : Nullity) → not (may_be_null x) ≡ true → Never ≡ x
never_missing Never e = refl
never_missing Possibly e = cc
never_missing Always e = cc

pub perhaps_missing : (x : Nullity) → not (may_be_null x) ≡ false → may_be_number x ≡ true → Possibly ≡ x
perhaps_missing Never e f = cc
perhaps_missing Possibly e f = refl
perhaps_missing Always e f = cc

pub always_missing : (x : Nullity) → may_be_number x ≡ false → Always ≡ x
always_missing Never e = cc
always_missing Possibly e = cc
always_missing Always e = refl

-- the test of a row
pub row_test : (test : ℕ → Bool) (ps : List ℕ) (r : ℕ) (b : Bool) → r < length ps → slice_get (map test ps) r ≡ Some b → test (get_or ps r 0) ≡ b
row_test test [] r b h e = absurd (omega arith)
row_test test (p ∷ ps) zero b h e = same (test p) b e
  where
    same : (x y : Bool) → Some x ≡ Some y → x ≡ y
    same x y e = cc
row_test test (p ∷ ps) (suc r) b h e = row_test test ps r b (omega arith) e

-- ---- 0

-- the rows below 0
below_rows : (ends : Ends) (read : ℕ) (ps : List ℕ) → read ≤ planes_of ends → All (IsLegal ends read) ps →
    map (λ p. is_number ends read p && nat_lt p (prefix_of ends read (zero_cell ends))) ps ≡ map (is_below_zero ends read) ps
below_rows ends read ps h legal =
    map_same (λ p. is_number ends read p && nat_lt p (prefix_of ends read (zero_cell ends))) (is_below_zero ends read) ps (λ r below.
    ap (λ b. b && nat_lt (get_or ps r 0) (prefix_of ends read (zero_cell ends))) (possible_row ends read (get_or ps r 0) h (legal r 0 below)))

-- what the signs tell
pub signs_tell : (ends : Ends) (read : ℕ) (ps : List ℕ) (signs : Signs) → read ≤ planes_of ends → All (IsLegal ends read) ps → AreSigns ends read ps signs →
    TellSigns (let column : KnownColumn = record { ends = ends; known = record { read = read; prefixes = ps } } in column) signs
signs_tell ends read ps signs h legal are = record { below = are.below ∙ below_rows ends read ps h legal; level = are.level; above = are.above }

-- ---- codes within the column

at_most : (nullable : Bool) (f t p : ℕ) → legal_by nullable 0 f t p ≡ true → p ≤ t
at_most true f t p e = grind (arith, nat_tests)
at_most false f t p e = grind (arith, nat_tests)

-- the first code with a legal prefix is none above that of the greatest number
pub legal_code : (ends : Ends) (read p : ℕ) → is_legal ends read p ≡ true → p * 2 ^ (planes_of ends - read) ≤ first_code ends + spread ends
legal_code ends read p legal =
    let k = 2 ^ (planes_of ends - read) in
    let t = prefix_of ends read (Some (spread ends)) in
    let most : p ≤ t = at_most ends.nullable (prefix_of ends read (Some 0)) t p (sym (by_numbers ends read p) ∙ legal) in
    omega (arith, mul-le-mul_right k most, div-mul-le_self (first_code ends + spread ends) k)
