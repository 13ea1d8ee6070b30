-- Prefixes that are joined, one of which is followed by one more digit.
use Rattle.std.proofs.Common.{◌≡◌, ℕ, zero, suc, ◌+◌, ◌-◌, ◌*◌, ◌/◌, ◌%◌, ◌^◌, ◌<◌, ◌≤◌, ◌==◌, Bool, false, cond, nat_lt, List, [], ◌∷◌, ◌++◌, length, sum, inl, inr, sym, refl, ap, subst, ◌∙◌, arith, IsTrue, get_or, set, take, drop, All}
use Rattle.std.proofs.lemmas.Bool.{cases_Bool, cond-true, cond-false, eq-eqb, false≢true, ltb-true}
use Rattle.std.proofs.lemmas.List.{drop_more, drop-set-lt, get_or_default, set_split}
use Rattle.std.proofs.lemmas.List.Sums.{sum_by-cons}
use Rattle.std.proofs.lemmas.Nat.{div-add-mod', div-mul-add, mod-mul-add, mod_below, pow-add, pow_pos}
use Rattle.std.proofs.Math.Nat.{pow-succ'}
use Rattle.std.proofs.lemmas.Simd.{get_or-zip2, length-zip2}
use Rattle.std.specs.Simd.Lanes.{zip2}
use Rattle.daq_table.specs.Tables.{planes}
use Rattle.query_model.specs.Groups.{joined, parts_of}
use Rattle.row_groups.specs.declared.part.GroupPart.{GroupPart}
use Rattle.row_groups.specs.Keeping.{AreKept, AreParts, digits_behind, inserted}
use Rattle.row_groups.specs.Partition.{digits_of, counts_of_parts, planes_of_parts, has_unread, raised, followed, refined_cell}
use Rattle.row_groups.proofs.Inserting.{inserted_below, bit_small}

pub digits_cons : (p : GroupPart) (ps : List GroupPart) → digits_of (p ∷ ps) ≡ p.read + digits_of ps
digits_cons p ps = sum_by-cons (λ x. x) p.read (counts_of_parts ps)

pub planes_cons : (p : GroupPart) (ps : List GroupPart) → sum (planes_of_parts (p ∷ ps)) ≡ planes p.ends + sum (planes_of_parts ps)
planes_cons p ps = sum_by-cons (λ x. x) (planes p.ends) (planes_of_parts ps)

-- one more plane of it
abbrev pub one_more : GroupPart → GroupPart
one_more p = record { column = p.column; ends = p.ends; read = p.read + 1 }

module _ (p : GroupPart) (ps : List GroupPart) (c : ℕ) where
  pub raised_here : IsTrue (p.column == c) → raised (p ∷ ps) c ≡ one_more p ∷ ps
  raised_here t = cond-true (p.column == c) (one_more p ∷ ps) (p ∷ raised ps c) t

  pub raised_later : (p.column == c) ≡ false → raised (p ∷ ps) c ≡ p ∷ raised ps c
  raised_later f = cond-false (p.column == c) (one_more p ∷ ps) (p ∷ raised ps c) f

  pub unread_here : IsTrue (p.column == c) → has_unread (p ∷ ps) c ≡ nat_lt p.read (planes p.ends)
  unread_here t = cond-true (p.column == c) (nat_lt p.read (planes p.ends)) (has_unread ps c) t

  pub unread_later : (p.column == c) ≡ false → has_unread (p ∷ ps) c ≡ has_unread ps c
  unread_later f = cond-false (p.column == c) (nat_lt p.read (planes p.ends)) (has_unread ps c) f

  pub behind_here : IsTrue (p.column == c) → digits_behind (p ∷ ps) c ≡ digits_of ps
  behind_here t = cond-true (p.column == c) (digits_of ps) (digits_behind ps c) t

  pub behind_later : (p.column == c) ≡ false → digits_behind (p ∷ ps) c ≡ digits_behind ps c
  behind_later f = cond-false (p.column == c) (digits_of ps) (digits_behind ps c) f

-- the parts of a number are joined to it again
pub joined_parts : (ks : List ℕ) (cell : ℕ) → cell < 2 ^ sum ks → joined ks (parts_of ks cell) ≡ cell
joined_parts [] cell h = omega arith
joined_parts (k ∷ ks) cell h =
    let d = 2 ^ sum ks in
    ap (λ n. cell / d * d + n) (joined_parts ks (cell % d) (mod_below cell d (pow_pos (sum ks)))) ∙ div-add-mod' cell d

-- one more plane of all of them
pub digits_raised : (ps : List GroupPart) (c : ℕ) → IsTrue (has_unread ps c) → digits_of (raised ps c) ≡ digits_of ps + 1
digits_raised [] c h = absurd (false≢true h)
digits_raised (p ∷ ps) c h =
    elim (cases_Bool (p.column == c)) [
      | inl t ↦ ap digits_of (raised_here p ps c t) ∙ digits_cons (one_more p) ps ∙ omega (arith, digits_cons p ps)
      | inr f ↦
          (let rest = digits_raised ps c (subst IsTrue (unread_later p ps c f) h) in
          ap digits_of (raised_later p ps c f) ∙ digits_cons p (raised ps c) ∙ omega (arith, rest, digits_cons p ps))
    ]

pub planes_raised : (ps : List GroupPart) (c : ℕ) → planes_of_parts (raised ps c) ≡ planes_of_parts ps
planes_raised [] c = refl
planes_raised (p ∷ ps) c =
    elim (cases_Bool (p.column == c)) [
      | inl t ↦ ap planes_of_parts (raised_here p ps c t)
      | inr f ↦ ap planes_of_parts (raised_later p ps c f) ∙ ap (λ ks. planes p.ends ∷ ks) (planes_raised ps c)
    ]

pub length-raised : (ps : List GroupPart) (c : ℕ) → length (raised ps c) ≡ length ps
length-raised [] c = refl
length-raised (p ∷ ps) c =
    elim (cases_Bool (p.column == c)) [
      | inl t ↦ ap length (raised_here p ps c t)
      | inr f ↦ ap length (raised_later p ps c f) ∙ ap suc (length-raised ps c)
    ]

parts_raised : (ps : List GroupPart) (c : ℕ) → IsTrue (has_unread ps c) → AreParts ps → AreParts (raised ps c)
parts_raised [] c h are = tt
parts_raised (p ∷ ps) c h are =
    elim (cases_Bool (p.column == c)) [
      | inl t ↦
          (let less : p.read < planes p.ends = ltb-true p.read (planes p.ends) (subst IsTrue (unread_here p ps c t) h) in
          subst AreParts (sym (raised_here p ps c t)) (let more : p.read + 1 ≤ planes p.ends = omega arith in (more, are.1)))
      | inr f ↦ subst AreParts (sym (raised_later p ps c f)) (are.0, parts_raised ps c (subst IsTrue (unread_later p ps c f) h) are.1)
    ]

pub digits_few : (ps : List GroupPart) → AreParts ps → digits_of ps ≤ sum (planes_of_parts ps)
digits_few [] are = omega arith
digits_few (p ∷ ps) are = (let h = are.0 in omega (arith, digits_cons p ps, planes_cons p ps, digits_few ps are.1))

-- where a plane is unread, there is room for one digit more
pub digits_left : (ps : List GroupPart) (c : ℕ) → IsTrue (has_unread ps c) → AreParts ps → digits_of ps + 1 ≤ sum (planes_of_parts ps)
digits_left ps c h are =
    let all = digits_few (raised ps c) (parts_raised ps c h are) in
    omega (arith, all, digits_raised ps c h, ap sum (planes_raised ps c))

pub behind_few : (ps : List GroupPart) (c : ℕ) → digits_behind ps c ≤ digits_of ps
behind_few [] c = omega arith
behind_few (p ∷ ps) c =
    elim (cases_Bool (p.column == c)) [
      | inl t ↦ omega (arith, behind_here p ps c t, digits_cons p ps)
      | inr f ↦ omega (arith, behind_later p ps c f, digits_cons p ps, behind_few ps c)
    ]

-- ---- the bit is put in

-- a digit that is put into the lower part of a number, over plain numbers
into_low : (q m d rest bit : ℕ) → 0 < d → q * (2 * (m * d)) + ((2 * (rest / d) + bit) * d + rest % d) ≡ (2 * ((q * (m * d) + rest) / d) + bit) * d + (q * (m * d) + rest) % d
into_low q m d rest bit some =
    let whole : rest / d * d + rest % d ≡ rest = div-add-mod' rest d in
    let is : q * (m * d) + rest ≡ (q * m + rest / d) * d + rest % d = omega (arith, whole) in
    let below : rest % d < d = mod_below rest d some in
    let high : (q * (m * d) + rest) / d ≡ q * m + rest / d = ap (λ n. n / d) is ∙ div-mul-add (q * m + rest / d) d (rest % d) below in
    let low : (q * (m * d) + rest) % d ≡ rest % d = ap (λ n. n % d) is ∙ mod-mul-add (q * m + rest / d) d (rest % d) below in
    plain q m d (rest / d) (rest % d) bit ∙ ap (λ n. (2 * n + bit) * d + rest % d) (sym high) ∙ ap (λ n. (2 * ((q * (m * d) + rest) / d) + bit) * d + n) (sym low)
  where
    plain : (q m d r x bit : ℕ) → q * (2 * (m * d)) + ((2 * r + bit) * d + x) ≡ (2 * (q * m + r) + bit) * d + x
    plain q m d r x bit = omega arith

shift_in : (s all q rest : ℕ) (bit : Bool) → s ≤ all → q * 2 ^ (all + 1) + inserted s rest bit ≡ inserted s (q * 2 ^ all + rest) bit
shift_in s all q rest bit h =
    let d = 2 ^ s in
    let m = 2 ^ (all - s) in
    let e : all ≡ (all - s) + s = omega arith in
    let size : 2 ^ all ≡ m * d = ap (λ n. 2 ^ n) e ∙ pow-add 2 (all - s) s in
    let twice : 2 ^ (all + 1) ≡ 2 * 2 ^ all = (let t : 2 ^ suc all ≡ 2 * 2 ^ all = pow-succ' 2 all in subst (λ n. 2 ^ n ≡ 2 * 2 ^ all) (omega arith) t) in
    ap (λ n. q * n + inserted s rest bit) (twice ∙ ap (λ n. 2 * n) size) ∙ into_low q m d rest (cond bit 1 0) (pow_pos s) ∙ ap (λ n. inserted s (q * n + rest) bit) (sym size)

-- the cell of a row after a plane is its number with the bit put in
pub refined_is_inserted : (ps : List GroupPart) (c cell : ℕ) (bit : Bool) → IsTrue (has_unread ps c) → cell < 2 ^ digits_of ps → refined_cell ps c cell bit ≡ inserted (digits_behind ps c) cell bit
refined_is_inserted [] c cell bit h small = absurd (false≢true h)
refined_is_inserted (p ∷ ps) c cell bit h small =
    let d = 2 ^ digits_of ps in
    let q = cell / d in
    let rest = cell % d in
    let low : rest < d = mod_below cell d (pow_pos (digits_of ps)) in
    let qs = parts_of (counts_of_parts ps) rest in
    let whole : q * d + rest ≡ cell = div-add-mod' cell d in
    elim (cases_Bool (p.column == c)) [
      | inl t ↦
          ap (λ ks. joined (counts_of_parts ks) (followed (p ∷ ps) c bit (q ∷ qs))) (raised_here p ps c t)
          ∙ ap (joined (counts_of_parts (one_more p ∷ ps))) (cond-true (p.column == c) ((2 * q + cond bit 1 0) ∷ qs) (q ∷ followed ps c bit qs) t)
          ∙ ap (λ n. (2 * q + cond bit 1 0) * d + n) (joined_parts (counts_of_parts ps) rest low)
          ∙ ap (λ s. inserted s cell bit) (sym (behind_here p ps c t))
      | inr f ↦
          (let there = subst IsTrue (unread_later p ps c f) h in
          ap (λ ks. joined (counts_of_parts ks) (followed (p ∷ ps) c bit (q ∷ qs))) (raised_later p ps c f)
          ∙ ap (joined (counts_of_parts (p ∷ raised ps c))) (cond-false (p.column == c) ((2 * q + cond bit 1 0) ∷ qs) (q ∷ followed ps c bit qs) f)
          ∙ ap (λ n. q * 2 ^ n + refined_cell ps c rest bit) (digits_raised ps c there)
          ∙ ap (λ n. q * 2 ^ (digits_of ps + 1) + n) (refined_is_inserted ps c rest bit there low)
          ∙ shift_in (digits_behind ps c) (digits_of ps) q rest bit (behind_few ps c)
          ∙ ap (λ n. inserted (digits_behind ps c) n bit) whole
          ∙ ap (λ s. inserted s cell bit) (sym (behind_later p ps c f)))
    ]

-- the same for each row
pub all_inserted : (ps : List GroupPart) (c : ℕ) (cells : List ℕ) (bits : List Bool) → IsTrue (has_unread ps c) → All (λ cell. cell < 2 ^ digits_of ps) cells →
    zip2 (inserted (digits_behind ps c)) cells bits ≡ zip2 (refined_cell ps c) cells bits
all_inserted ps c [] bits h small = refl
all_inserted ps c (x ∷ xs) [] h small = refl
all_inserted ps c (x ∷ xs) (b ∷ bs) h small =
    ap (λ n. n ∷ zip2 (inserted (digits_behind ps c)) xs bs) (sym (refined_is_inserted ps c x b h (small 0 x (omega arith))))
    ∙ ap (λ l. refined_cell ps c x b ∷ l) (all_inserted ps c xs bs h (λ k d below. small (suc k) d (omega arith)))

-- what is kept stays so
pub kept_refined : (ps : List GroupPart) (c : ℕ) (cells : List ℕ) (bits : List Bool) → IsTrue (has_unread ps c) → length bits ≡ length cells → AreKept ps cells →
    AreKept (raised ps c) (zip2 (inserted (digits_behind ps c)) cells bits)
kept_refined ps c cells bits h same kept =
    let few = kept.few in
    let most = kept.planes in
    record {
      few = omega (arith, length-raised ps c);
      read = parts_raised ps c h kept.read;
      planes = omega (arith, ap sum (planes_raised ps c));
      rows = λ k d below.
          (let long : length (zip2 (inserted (digits_behind ps c)) cells bits) ≡ length cells = length-zip2 (inserted (digits_behind ps c)) cells bits (sym same) in
          let within : k < length cells = omega arith in
          let is = get_or-zip2 (inserted (digits_behind ps c)) cells bits k d false d within (omega arith) in
          let bit = get_or bits k false in
          let small = inserted_below (get_or cells k d) (cond bit 1 0) (digits_behind ps c) (digits_of ps) (bit_small bit) (behind_few ps c) (kept.rows k d within) in
          subst (λ n. n < 2 ^ digits_of (raised ps c)) (sym is) (subst (λ n. inserted (digits_behind ps c) (get_or cells k d) bit < 2 ^ n) (sym (digits_raised ps c h)) small));
    }

-- ---- a loop over the columns

pub raise_at : (ps now : List GroupPart) (c at : ℕ) (d e k : GroupPart) → at < length ps → now ≡ ps → (get_or now at d).column ≡ c →
    raised ps c ≡ take at ps ++ raised (drop at ps) c →
    set now at (record { column = (get_or now at k).column; ends = (get_or now at k).ends; read = (get_or now at e).read + 1 }) ≡ raised ps c
raise_at ps now c at d e k h same t inv =
    let p = get_or ps at d in
    let here : drop at ps ≡ p ∷ drop (at + 1) ps = drop_more ps at d h in
    let t' : IsTrue (p.column == c) = eq-eqb p.column c (sym (ap (λ l. (get_or l at d).column) same) ∙ t) in
    let split : set ps at (one_more p) ≡ take at ps ++ (one_more p ∷ drop (suc at) ps) = set_split ps at (one_more p) h in
    let one : suc at ≡ at + 1 = omega arith in
    let write : GroupPart → GroupPart → GroupPart = λ a b. record { column = a.column; ends = a.ends; read = b.read + 1 } in
    ap (λ l. set l at (write (get_or l at k) (get_or l at e))) same ∙ ap (λ a. set ps at (write a (get_or ps at e))) (get_or_default ps at k d h) ∙ ap (λ b. set ps at (write p b)) (get_or_default ps at e d h)
    ∙ split ∙ ap (λ n. take at ps ++ (one_more p ∷ drop n ps)) one
    ∙ sym (inv ∙ ap (λ l. take at ps ++ raised l c) here ∙ ap (λ l. take at ps ++ l) (raised_here p (drop (at + 1) ps) c t'))

-- what stands behind the column that was written
pub behind_written : (ps now : List GroupPart) (at : ℕ) (v : GroupPart) → now ≡ ps → drop (at + 1) (set now at v) ≡ drop (at + 1) ps
behind_written ps now at v same = drop-set-lt (at + 1) now at v (omega arith) ∙ ap (drop (at + 1)) same

pub behind_at : (ps : List GroupPart) (c at : ℕ) (d : GroupPart) → at < length ps → (get_or ps at d).column ≡ c → digits_behind ps c ≡ digits_behind (drop at ps) c →
    digits_of (drop (at + 1) ps) ≡ digits_behind ps c
behind_at ps c at d h t inv = sym (inv ∙ ap (λ l. digits_behind l c) (drop_more ps at d h) ∙ behind_here (get_or ps at d) (drop (at + 1) ps) c (eq-eqb (get_or ps at d).column c t))

-- the columns from one on have no more planes read
pub digits_from : (ps : List GroupPart) (at : ℕ) → digits_of (drop at ps) ≤ digits_of ps
digits_from [] zero = omega arith
digits_from [] (suc at) = omega arith
digits_from (p ∷ ps) zero = omega arith
digits_from (p ∷ ps) (suc at) = omega (arith, digits_cons p ps, digits_from ps at)

pub read_few : (ps : List GroupPart) (at : ℕ) (d : GroupPart) → at < length ps → (get_or ps at d).read ≤ digits_of ps
read_few [] at d h = absurd (omega arith)
read_few (p ∷ ps) zero d h = omega (arith, digits_cons p ps)
read_few (p ∷ ps) (suc at) d h = omega (arith, digits_cons p ps, read_few ps at d (omega arith))
