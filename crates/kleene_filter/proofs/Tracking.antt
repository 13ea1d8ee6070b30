-- Masks of atoms, as the columns are read.
use Rattle.std.proofs.Common.{◌≡◌, ◌≢◌, ℕ, zero, suc, ◌+◌, ◌-◌, ◌*◌, ◌/◌, ◌%◌, ◌<◌, ◌≤◌, Bool, List, [], ◌∷◌, ◌++◌, length, slice_get, set, Some, inl, inr, refl, ap, sym, subst, ◌∙◌, arith, length-append, zero-add, get_or-set_same}
use Rattle.std.proofs.Math.Nat.{suc-add}
use Rattle.std.proofs.lemmas.Bool.{cases_lt}
use Rattle.std.proofs.lemmas.List.{get_or_default}
use Rattle.std.proofs.lemmas.Option.{slice_get_within}
use Rattle.daq_table.specs.Tables.{ends_at}
use Rattle.query_model.specs.declared.query.Atom.{Atom}
use Rattle.query_model.specs.Queries.{Condition, All, Single, Both, Either, Negation}
use Rattle.query_model.specs.Knowledge.{ColumnKnowledge, IsLegal, known_at, longer_column, ranges_of}
use Rattle.query_model.specs.Meaning.{AtomReadsBelow, PredReadsBelow}
use Rattle.known_column.specs.Columns.{KnownColumn}
use Rattle.known_column.specs.KnownTables.{IsKnownTable, KnownTable, column_at}
use Rattle.known_column.specs.RowBlocks.{BlocksHaveTheirRows, IsKnownColumn, block_of}
use Rattle.kleene_filter.specs.declared.masks.AtomMasks.{AtomMasks}
use Rattle.kleene_filter.specs.Filters.{Judgement, StoodBefore}
use Rattle.kleene_filter.specs.Masks.{atoms_of, AddsMasks, AreMasksOf, AreRowsOf, ReadFrom, WasFollowed, WereMasksOf}
use Rattle.kleene_filter.specs.Parted.{ReadFurther}

-- ---- columns of a table

pub known_at_column : (table : KnownTable) (c : ℕ) → IsKnownTable table → c < length table.frame.columns → IsKnownColumn (column_at table c)
known_at_column table c known h =
    let rows = known.knowledge.rows c h in
    let few = known.few_rows in
    record {
      some_read = known.knowledge.read c h;
      few_rows = omega arith;
      legal = λ k d below. subst (IsLegal (ends_at table.frame c) (known_at table.known c).read) (get_or_default (known_at table.known c).prefixes k 0 d below) (known.knowledge.legal c k h (omega arith));
    }

pub same_column : (before table : KnownTable) (c : ℕ) (bits : List Bool) → ReadFrom before table c bits → ReadFurther (column_at before c) bits (column_at table c)
same_column before table c bits read =
    let nothing : ColumnKnowledge = record { read = 0; prefixes = [] } in
    let as_column : ColumnKnowledge → KnownColumn = λ known. record { ends = ends_at before.frame c; known = known } in
    let within : c < length before.known = (let column = read.could.column in let all = read.known.knowledge.columns in omega arith) in
    record {
      unread = read.could.unread;
      rows = read.could.rows ∙ sym (read.known.knowledge.rows c read.could.column);
      is = ap (λ (t : KnownTable). column_at t c) read.taken ∙ ap as_column (get_or-set_same before.known c (longer_column (known_at before.known c) bits) nothing within);
    }

-- ---- elements of lists

pub front : {A : Type 0} (xs ys : List A) (k : ℕ) → k < length xs → slice_get (xs ++ ys) k ≡ slice_get xs k
front [] ys k h = absurd (omega arith)
front (x ∷ xs) ys zero h = refl
front (x ∷ xs) ys (suc k) h = front xs ys k (omega arith)

pub back : {A : Type 0} (xs ys : List A) (k : ℕ) → slice_get (xs ++ ys) (length xs + k) ≡ slice_get ys k
back [] ys k = ap (slice_get ys) (zero-add k)
back (x ∷ xs) ys k = ap (slice_get (x ∷ (xs ++ ys))) (suc-add (length xs) k) ∙ back xs ys k

pub written : {A : Type 0} (xs : List A) (i : ℕ) (v : A) → i < length xs → slice_get (set xs i v) i ≡ Some v
written [] i v h = absurd (omega arith)
written (x ∷ xs) zero v h = refl
written (x ∷ xs) (suc i) v h = written xs i v (omega arith)

pub not_written : {A : Type 0} (xs : List A) (i k : ℕ) (v : A) → k ≢ i → slice_get (set xs i v) k ≡ slice_get xs k
not_written [] i k v h = refl
not_written (x ∷ xs) zero zero v h = absurd (h refl)
not_written (x ∷ xs) zero (suc k) v h = refl
not_written (x ∷ xs) (suc i) zero v h = refl
not_written (x ∷ xs) (suc i) (suc k) v h = not_written xs i k v (λ e. h (omega arith))

pub element : {A : Type 0} (xs : List A) (k : ℕ) → k < length xs → (x : A) × (slice_get xs k ≡ Some x)
element [] k h = absurd (omega arith)
element (x ∷ xs) zero h = (x, refl)
element (x ∷ xs) (suc k) h = element xs k (omega arith)

pub same_some : {A : Type 0} (x y : A) → Some x ≡ Some y → x ≡ y
same_some x y e = cc

-- ---- masks of a condition's atoms

pub left_masks : (all : List AtomMasks) (at : ℕ) (xs ys : List Atom) (table : KnownTable) → AreMasksOf all at (xs ++ ys) table → AreMasksOf all at xs table
left_masks all at xs ys table are = (let room = are.room in record {
  room = omega (arith, length-append xs ys);
  each = λ k own atom mine is. are.each k own atom mine (front xs ys k (slice_get_within xs k atom is) ∙ is);
})

pub right_masks : (all : List AtomMasks) (at next : ℕ) (xs ys : List Atom) (table : KnownTable) → AreMasksOf all at (xs ++ ys) table → next ≡ at + length xs → AreMasksOf all next ys table
right_masks all at next xs ys table are e = (let room = are.room in record {
  room = omega (arith, length-append xs ys);
  each = λ k own atom mine is. are.each (length xs + k) own atom (ap (slice_get all) (omega arith) ∙ mine) (back xs ys k ∙ is);
})

pub adds_both : (old middle new : List AtomMasks) (xs ys : List Atom) (table : KnownTable) → AddsMasks old middle xs table → AddsMasks middle new ys table → AddsMasks old new (xs ++ ys) table
adds_both old middle new xs ys table first second =
    let count = first.count in
    let more = second.count in
    let both = length-append xs ys in
    record {
      count = omega arith;
      before = λ k below. second.before k (omega arith) ∙ first.before k below;
      added = record {
        room = omega arith;
        each = λ k own atom mine is. elim (cases_lt k (length xs)) [
          | inl low ↦ first.added.each k own atom (sym (second.before (length old + k) (omega arith)) ∙ mine) (sym (front xs ys k low) ∙ is)
          | inr high ↦ (let rest = k - length xs in
              let place : length xs + rest ≡ k = omega arith in
              second.added.each rest own atom (ap (slice_get new) (omega arith) ∙ mine) (sym (back xs ys rest) ∙ ap (slice_get (xs ++ ys)) place ∙ is))
        ];
      };
    }

either_within : (n : ℕ) (xs ys : List Atom) → ((k : ℕ) (atom : Atom) → slice_get xs k ≡ Some atom → AtomReadsBelow n atom) → ((k : ℕ) (atom : Atom) → slice_get ys k ≡ Some atom → AtomReadsBelow n atom) →
    (k : ℕ) (atom : Atom) → slice_get (xs ++ ys) k ≡ Some atom → AtomReadsBelow n atom
either_within n xs ys first second k atom is =
    elim (cases_lt k (length xs)) [
      | inl low ↦ first k atom (sym (front xs ys k low) ∙ is)
      | inr high ↦ (let rest = k - length xs in
          let place : length xs + rest ≡ k = omega arith in
          second rest atom (sym (back xs ys rest) ∙ ap (slice_get (xs ++ ys)) place ∙ is))
    ]

pub atoms_within : (n : ℕ) (pred : Condition) → PredReadsBelow n pred → (k : ℕ) (atom : Atom) → slice_get (atoms_of pred) k ≡ Some atom → AtomReadsBelow n atom
atoms_within n All h k atom is = (cc)
atoms_within n (Single a) h zero atom is = subst (AtomReadsBelow n) (same_some a atom is) h
atoms_within n (Single a) h (suc k) atom is = (cc)
atoms_within n (Both x y) h k atom is = either_within n (atoms_of x) (atoms_of y) (atoms_within n x h.0) (atoms_within n y h.1) k atom is
atoms_within n (Either x y) h k atom is = either_within n (atoms_of x) (atoms_of y) (atoms_within n x h.0) (atoms_within n y h.1) k atom is
atoms_within n (Negation x) h k atom is = atoms_within n x h k atom is

-- a condition's parts are smaller
abbrev pub size_of : Condition → ℕ
size_of All = 1
size_of (Single a) = 1
size_of (Both x y) = size_of x + size_of y + 1
size_of (Either x y) = size_of x + size_of y + 1
size_of (Negation x) = size_of x + 1

-- ---- where the rows of a block stand

-- in a table of a block of 64 rows
pub in_block : (table other : KnownTable) (number to : ℕ) → BlocksHaveTheirRows → other ≡ block_of table number → to ≤ 64 * (number % 8) + 64 → 512 * (number / 8) + to ≤ table.frame.rows →
    AreRowsOf table (record { block = number / 8; word = number % 8; to = to; first = 0 }) other
in_block table other number to law is few inside = subst (λ (o : KnownTable). AreRowsOf table (record { block = number / 8; word = number % 8; to = to; first = 0 }) o) (sym is) (record {
  columns = refl;
  here = inside;
  few = omega (arith, few);
  first = omega arith;
  within = omega (arith, few, inside);
  ranges = λ row from below.
      (let r = row - 64 * (number % 8) in
      let place : 64 * number + r ≡ 512 * (number / 8) + row = omega (arith, from) in
      ap (ranges_of (block_of table number).frame (block_of table number).known) (zero-add r) ∙ law table number r (omega (arith, from, below, few)) ∙ ap (ranges_of table.frame table.known) place);
})

-- in the table itself
pub in_table : (table : KnownTable) (block to : ℕ) → 512 * block + to ≤ table.frame.rows → to ≤ 512 → table.frame.rows ≤ 16777216 → AreRowsOf table (record { block = block; word = 0; to = to; first = 512 * block }) table
in_table table block to inside few all = record {
  columns = refl;
  here = inside;
  few = few;
  first = omega (arith, inside, all);
  within = omega (arith, inside);
  ranges = λ row from below. ap (λ n. ranges_of table.frame table.known (512 * block + n)) (omega arith);
}

-- ---- each of the masks, before a plane was read

pub was_followed : (all : List AtomMasks) (atoms : List Atom) (table : KnownTable) (column : ℕ) (bits : List Bool) → WereMasksOf all atoms table column bits →
    (i : ℕ) (own : AtomMasks) (atom : Atom) → slice_get all i ≡ Some own → slice_get atoms i ≡ Some atom → WasFollowed own atom table column bits
was_followed all atoms table column bits were i own atom mine is = record {
  before = were.before;
  within = were.within i atom is;
  read = were.read;
  was = were.were.each i own atom (ap (slice_get all) (zero-add i) ∙ mine) is;
}

pub were_masks : (filter : Judgement) (pred : Condition) (table : KnownTable) (column : ℕ) (bits : List Bool) (all : List AtomMasks) → PredReadsBelow (length table.frame.columns) pred → StoodBefore filter pred table column bits →
    filter.masks ≡ all → WereMasksOf all (atoms_of pred) table column bits
were_masks filter pred table column bits all within stood same = subst (λ (l : List AtomMasks). WereMasksOf l (atoms_of pred) table column bits) same (record {
  before = stood.before;
  count = stood.stood.count;
  within = atoms_within (length table.frame.columns) pred within;
  read = record { known = stood.stood.known; could = stood.could; taken = stood.taken };
  were = stood.stood.masks;
})
