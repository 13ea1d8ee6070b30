-- Rows that are judged block by block.
use Rattle.std.proofs.Common.{◌≡◌, ◌≢◌, ℕ, ◌+◌, ◌-◌, ◌*◌, ◌/◌, ◌%◌, ◌<◌, ◌≤◌, Bool, true, false, not, IsTrue, List, length, take, drop, min, cond, get_or, set, length-set, replicate, count_by, sum_by, inl, inr, ◌⊎◌, sym, ap, refl, subst, ◌∙◌, arith}
use Rattle.std.proofs.lemmas.Bool.{cases_eq, cases_lt, true≢false}
use Rattle.std.proofs.lemmas.List.{drop-drop, ext_get_or, get_or-drop, get_or-replicate, get_or-set_other, get_or-take, get_or_past, length-drop, length-replicate, length-take}
use Rattle.std.proofs.lemmas.List.Sums.{sum_by-take-drop}
use Rattle.std.proofs.lemmas.Simd.{get_or-chunk}
use Rattle.query_model.specs.Queries.{Condition}
use Rattle.query_model.specs.declared.bounds.Truth.{Truth}
use Rattle.known_column.specs.KnownTables.{KnownTable}
use Rattle.plane_kernels.specs.Rows.{block_rows, digit_at, rows_of}
use Rattle.kleene_filter.specs.Blocks.{bit_in, AreRowsIn, IsPut}
use Rattle.kleene_filter.specs.Filters.{truth_at, is_certain, is_possible, AreJudged, AreRightWhereSame, AreSettled, AreSettledBeside, HasBits, IsJudged, IsWritten}

-- ---- rows from one to another

pub none_judged : (test : Truth → Bool) (pred : Condition) (table : KnownTable) (from to : ℕ) (mask : List Bool) → to ≤ from → AreJudged test pred table from to mask mask
none_judged test pred table from to mask e = record {
  rows = refl;
  before = λ k h. refl;
  behind = λ k h. refl;
  here = λ k h below inside. absurd (omega (arith, e, h, below));
}

-- as far as there are rows
pub judged_to : (test : Truth → Bool) (pred : Condition) (table : KnownTable) (from to end : ℕ) (old new : List Bool) → AreJudged test pred table from to old new → to ≤ end → ((k : ℕ) → k < end → k < table.frame.rows → k < to) →
    AreJudged test pred table from end old new
judged_to test pred table from to end old new judged few all = record {
  rows = judged.rows;
  before = judged.before;
  behind = λ k h. judged.behind k (omega (arith, few, h));
  here = λ k h below inside. judged.here k h (all k below inside) inside;
}

-- a block of 64 rows more
pub judged_block : (test : Truth → Bool) (pred : Condition) (table : KnownTable) (from block : ℕ) (old mid new : List Bool) → AreJudged test pred table from (64 * block) old mid → IsJudged test pred table block mid new → from ≤ 64 * block →
    AreJudged test pred table from (64 * (block + 1)) old new
judged_block test pred table from block old mid new done judged up = record {
  rows = judged.rows ∙ done.rows;
  before = λ k h. judged.before k (omega (arith, h, up)) ∙ done.before k h;
  behind = λ k h. judged.behind k (omega (arith, h)) ∙ done.behind k (omega (arith, h));
  here = λ k h below inside. elim (cases_lt k (64 * block)) [
    | inl low ↦ judged.before k low ∙ done.here k h low inside
    | inr later ↦
        (let r = k - 64 * block in
        let place : 64 * block + r ≡ k = omega (arith, later) in
        subst (λ n. get_or new n false ≡ test (truth_at pred table n)) place (judged.here r (omega (arith, later, below, inside))))
  ];
}

-- some rows, and then others
pub judged_on : (test : Truth → Bool) (pred : Condition) (table : KnownTable) (from mid to : ℕ) (old half new : List Bool) → AreJudged test pred table from mid old half → AreJudged test pred table mid to half new → from ≤ mid → mid ≤ to →
    AreJudged test pred table from to old new
judged_on test pred table from mid to old half new first second up more = record {
  rows = second.rows ∙ first.rows;
  before = λ k h. second.before k (omega (arith, h, up)) ∙ first.before k h;
  behind = λ k h. second.behind k h ∙ first.behind k (omega (arith, h, more));
  here = λ k h below inside. elim (cases_lt k mid) [
    | inl low ↦ second.before k low ∙ first.here k h low inside
    | inr later ↦ second.here k later below inside
  ];
}

-- ---- blocks that are decided

-- where both masks have the same rows of a block, its rows are judged as they are
pub decided : (pred : Condition) (table : KnownTable) (block : ℕ) (must may undecided : List Bool) → AreRightWhereSame pred table (512 * block) must may → AreSettled must may undecided → get_or undecided block false ≡ false →
    (k : ℕ) → 512 * block ≤ k → k < 512 * block + 512 → k < table.frame.rows → HasBits pred table k must may
decided pred table block must may undecided right settled off k h below inside =
    let j = k - 512 * block in
    let at : 512 * block + j ≡ k = omega (arith, h) in
    right k h inside (subst (λ n. get_or must n false ≡ get_or may n false) at (settled.same block j (omega (arith, below, h)) off))

other_place : (b c j k : ℕ) → j < 512 → b ≢ c → 512 * b + j ≡ k → (k < 512 * c) ⊎ (512 * c + 512 ≤ k)
other_place b c j k h other e = elim (cases_lt b c) [ inl low ↦ inl (omega (arith, h, low, e)) | inr up ↦ inr (omega (arith, h, up, other, e)) ]

same_beside : (test : Truth → Bool) (pred : Condition) (table : KnownTable) (one block j : ℕ) (old new : List Bool) → AreJudged test pred table (512 * one) (512 * one + 512) old new → j < 512 → block ≢ one →
    get_or new (512 * block + j) false ≡ get_or old (512 * block + j) false
same_beside test pred table one block j old new judged h apart =
    elim (other_place block one j (512 * block + j) h apart refl) [
      | inl low ↦ judged.before (512 * block + j) low
      | inr up ↦ judged.behind (512 * block + j) up
    ]

-- once a block is judged, the others are settled as they were
pub settled_beside : (pred : Condition) (table : KnownTable) (one : ℕ) (must may new new' undecided : List Bool) → AreSettled must may undecided → get_or undecided one false ≡ true →
    AreJudged is_certain pred table (512 * one) (512 * one + 512) must new → AreJudged is_possible pred table (512 * one) (512 * one + 512) may new' → AreSettledBeside one new new' undecided
settled_beside pred table one must may new new' undecided settled on certain possible = record {
  room = (let count = certain.rows in let room = settled.room in omega arith);
  tight = (let count = certain.rows in let tight = settled.tight in omega arith);
  is = on;
  same = λ block j h apart off. same_beside is_certain pred table one block j must new certain h apart ∙ settled.same block j h off ∙ sym (same_beside is_possible pred table one block j may new' possible h apart);
}

-- the block is not decided, or it is
pub stays_open : (one : ℕ) (must may undecided : List Bool) → AreSettledBeside one must may undecided → AreSettled must may undecided
stays_open one must may undecided beside = record {
  room = beside.room;
  tight = beside.tight;
  same = λ block j h off. elim (cases_eq block one) [
    | inl same ↦ absurd (true≢false (sym beside.is ∙ ap (λ b. get_or undecided b false) (sym same) ∙ off))
    | inr apart ↦ beside.same block j h apart off
  ];
}

pub is_settled : (one : ℕ) (must may undecided : List Bool) → AreSettledBeside one must may undecided → take 512 (drop (512 * one) must) ≡ take 512 (drop (512 * one) may) → AreSettled must may (set undecided one false)
is_settled one must may undecided beside same = record {
  room = (let room = beside.room in let long = length-set undecided one false in omega arith);
  tight = (let tight = beside.tight in let long = length-set undecided one false in omega arith);
  same = λ block j h off. elim (cases_eq block one) [
    | inl is ↦ subst (λ b. get_or must (512 * b + j) false ≡ get_or may (512 * b + j) false) (sym is)
        (sym (get_or-chunk (512 * one) 512 must j false h) ∙ ap (λ l. get_or l j false) same ∙ get_or-chunk (512 * one) 512 may j false h)
    | inr apart ↦ beside.same block j h apart (sym (get_or-set_other undecided one block false false apart) ∙ off)
  ];
}

-- a block of which both masks have the same rows
pub same_rows : (block : ℕ) (must may : List Bool) (certain possible : List ℕ) → AreRowsIn must block certain → AreRowsIn may block possible → length may ≡ length must → certain ≡ possible →
    take 512 (drop (512 * block) must) ≡ take 512 (drop (512 * block) may)
same_rows block must may certain possible here there long same =
    sym here.are ∙ ap (rows_of (block_rows (length must) block)) same ∙ ap (λ k. rows_of (block_rows k block) possible) (sym long) ∙ there.are

-- ---- counts

-- the rows before a place, and those from it on, where they do not change
front_same : (n : ℕ) (old new : List Bool) → length new ≡ length old → ((k : ℕ) → k < n → get_or new k false ≡ get_or old k false) → take n new ≡ take n old
front_same n old new long same = ext_get_or false (take n new) (take n old) (length-take n new ∙ ap (min n) long ∙ sym (length-take n old))
    (λ k h. (let few = length-take n new in let low : k < n = omega arith in get_or-take n new k false low ∙ same k low ∙ sym (get_or-take n old k false low)))

rest_same : (n : ℕ) (old new : List Bool) → length new ≡ length old → ((k : ℕ) → n ≤ k → get_or new k false ≡ get_or old k false) → drop n new ≡ drop n old
rest_same n old new long same = ext_get_or false (drop n new) (drop n old) (length-drop n new ∙ ap (λ m. m - n) long ∙ sym (length-drop n old))
    (λ k h. get_or-drop n new k false ∙ same (n + k) (omega arith) ∙ sym (get_or-drop n old k false))

-- a count of rows moves by that of a block, if only the block's rows change
pub recounted : (at : ℕ) (old new : List Bool) → length new ≡ length old → ((k : ℕ) → k < at → get_or new k false ≡ get_or old k false) → ((k : ℕ) → at + 512 ≤ k → get_or new k false ≡ get_or old k false) →
    count_by (λ b. b) new + count_by (λ b. b) (take 512 (drop at old)) ≡ count_by (λ b. b) old + count_by (λ b. b) (take 512 (drop at new))
recounted at old new long before behind =
    let f = λ (b : Bool). cond b 1 0 in
    let front : sum_by f (take at new) ≡ sum_by f (take at old) = ap (sum_by f) (front_same at old new long before) in
    let rest : sum_by f (drop (at + 512) new) ≡ sum_by f (drop (at + 512) old) = ap (sum_by f) (rest_same (at + 512) old new long behind) in
    let next : drop 512 (drop at new) ≡ drop (at + 512) new = drop-drop 512 at new in
    let last : drop 512 (drop at old) ≡ drop (at + 512) old = drop-drop 512 at old in
    let new_whole = sum_by-take-drop f new at in
    let old_whole = sum_by-take-drop f old at in
    let new_part = sum_by-take-drop f (drop at new) 512 in
    let old_part = sum_by-take-drop f (drop at old) 512 in
    omega (arith, front, rest, ap (sum_by f) next, ap (sum_by f) last, new_whole, old_whole, new_part, old_part)

-- a block has no more rows than the mask
pub counted_within : (at : ℕ) (mask : List Bool) → count_by (λ b. b) (take 512 (drop at mask)) ≤ count_by (λ b. b) mask
counted_within at mask =
    let f = λ (b : Bool). cond b 1 0 in
    let whole = sum_by-take-drop f mask at in
    let part = sum_by-take-drop f (drop at mask) 512 in
    omega (arith, whole, part)

-- ---- at first

-- all blocks may not be decided
pub all_open : (must may undecided : List Bool) (count : ℕ) → undecided ≡ replicate count true → length may ≡ length must → length must ≤ 512 * count → 512 * count < length must + 512 → AreSettled must may undecided
all_open must may undecided count is rows room tight =
    let long : length undecided ≡ count = ap length is ∙ length-replicate count true in
    record {
      room = omega (arith, long, room);
      tight = omega (arith, long, tight);
      same = λ block j h off. elim (cases_lt block count) [
        | inl low ↦ absurd (true≢false (sym (ap (λ l. get_or l block false) is ∙ get_or-replicate count block true false low) ∙ off))
        | inr past ↦ get_or_past must (512 * block + j) false (omega (arith, past, room)) ∙ sym (get_or_past may (512 * block + j) false (omega (arith, past, room, rows)))
      ];
    }

-- none is undecided, where both masks are the same
pub all_settled : (must may undecided : List Bool) (count : ℕ) → undecided ≡ replicate count false → must ≡ may → length must ≤ 512 * count → 512 * count < length must + 512 → AreSettled must may undecided
all_settled must may undecided count is same room tight =
    let long : length undecided ≡ count = ap length is ∙ length-replicate count false in
    record {
      room = omega (arith, long, room);
      tight = omega (arith, long, tight);
      same = λ block j h off. ap (λ l. get_or l (512 * block + j) false) same;
    }

pub settled_if : (decided : Bool) (must may undecided : List Bool) (count : ℕ) → (IsTrue decided → must ≡ may) → undecided ≡ replicate count (not decided) → length may ≡ length must → length must ≤ 512 * count → 512 * count < length must + 512 →
    AreSettled must may undecided
settled_if true must may undecided count same is rows room tight = all_settled must may undecided count is (same refl) room tight
settled_if false must may undecided count same is rows room tight = all_open must may undecided count is rows room tight

-- ---- behind the rows that are judged

-- bits that are the same are right there, as they were
pub right_behind : (pred : Condition) (table : KnownTable) (from to : ℕ) (must may new new' : List Bool) → AreRightWhereSame pred table from must may → AreJudged is_certain pred table from to must new → AreJudged is_possible pred table from to may new' → from ≤ to →
    AreRightWhereSame pred table to new new'
right_behind pred table from to must may new new' right certain possible up = λ row first inside same.
    let same_must = certain.behind row first in
    let same_may = possible.behind row first in
    let old = right row (omega (arith, first, up)) inside (sym same_must ∙ same ∙ same_may) in
    record { certain = same_must ∙ old.certain; possible = same_may ∙ old.possible }

-- a block's rows, where each that is put there is what the test says
pub judged_put : (test : Truth → Bool) (pred : Condition) (table : KnownTable) (block : ℕ) (rows : List ℕ) (old new : List Bool) → IsPut block rows old new → length old ≡ table.frame.rows →
    ((row : ℕ) → row < block_rows table.frame.rows block → bit_in row rows ≡ test (truth_at pred table (512 * block + row))) → AreJudged test pred table (512 * block) (512 * block + 512) old new
judged_put test pred table block rows old new put long told = record {
  rows = put.rows;
  before = put.before;
  behind = put.behind;
  here = λ k from below inside.
      (let row = k - 512 * block in
      let place : 512 * block + row ≡ k = omega (arith, from) in
      subst (λ n. get_or new n false ≡ test (truth_at pred table n)) place (put.here row (omega (arith, from, below, inside, long)) ∙ told row (omega (arith, from, below, inside))));
}

-- a word's rows, where each that is written there is what the test says
pub judged_word : (test : Truth → Bool) (pred : Condition) (table : KnownTable) (number : ℕ) (rows : List ℕ) (old new : List Bool) → IsWritten number (get_or rows (number % 8) 0) old new → length old ≡ table.frame.rows →
    ((row : ℕ) → 64 * (number % 8) ≤ row → row < 64 * (number % 8) + 64 → 512 * (number / 8) + row < table.frame.rows → bit_in row rows ≡ test (truth_at pred table (512 * (number / 8) + row))) →
    IsJudged test pred table number old new
judged_word test pred table number rows old new written long told = record {
  rows = written.rows;
  before = written.before;
  behind = written.behind;
  here = λ r few.
      (let row = 64 * (number % 8) + r in
      let place : 512 * (number / 8) + row ≡ 64 * number + r = omega arith in
      let own : row / 64 ≡ number % 8 = omega (arith, few) in
      let bit : row % 64 ≡ r = omega (arith, few) in
      written.here r (omega (arith, few, long)) ∙ ap (λ n. digit_at n (get_or rows (number % 8) 0)) (sym bit) ∙ ap (λ n. digit_at (row % 64) (get_or rows n 0)) (sym own)
      ∙ told row (omega arith) (omega (arith, few)) (omega (arith, few)) ∙ ap (λ n. test (truth_at pred table n)) place);
}
