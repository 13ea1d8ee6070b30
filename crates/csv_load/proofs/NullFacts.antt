-- Cells out of numbers and marks of null: what they stand for, and the same out of texts.
use Rattle.std.proofs.Common.{◌≡◌, ℕ, zero, suc, ◌+◌, ℤ, pos, ◌+ℤ◌, Bool, true, false, not, cond, if◌then◌else◌, IsTrue, Option, Some, None, List, [], ◌∷◌, length, map, get_or, refl, ap, subst, ◌∙◌, arith}
use Rattle.std.proofs.lemmas.List.Sums.{sum_by-cons}
use Rattle.std.specs.List.{count_by}
use Rattle.daq_table.proofs.Extremes.{plain_values}
use Rattle.daq_table.specs.Tables.{Cell, column_from, ends_of, value_of}
use Rattle.daq_table.specs.declared.head.ColumnHead.{ColumnHead}
use Rattle.daq_table.specs.declared.head.Kind.{Kind}
use Rattle.csv_load.specs.Columns.{dictionary, is_null, number_in, numbers_of, present, values_of}
use Rattle.csv_load.specs.States.{HasValues, IsFinished, IsWhole, Kept, State, filled, laid}

-- what cells with marks stand for
pub laid_values : (base : ℤ) (value : Cell → Option ℤ) (marks : List Bool) (us : List ℕ) → ((u : ℕ) → value (Some u) ≡ Some (base +ℤ pos u)) → value None ≡ None
    → map value (column_from (filled marks us) marks) ≡ laid marks (map (λ (u : ℕ). base +ℤ pos u) us)
laid_values base value [] us h n = refl
laid_values base value (true ∷ marks) us h n = rw (n, laid_values base value marks us h n) refl
laid_values base value (false ∷ marks) [] h n = refl
laid_values base value (false ∷ marks) (u ∷ us) h n = rw (h u, laid_values base value marks us h n) refl

-- the number at a mark is 0
pub zero_marked : (marks : List Bool) (us : List ℕ) (r : ℕ) → IsTrue (get_or marks r false) → get_or (filled marks us) r 0 ≡ 0
zero_marked [] us r h = absurd cc
zero_marked (true ∷ marks) us zero h = refl
zero_marked (true ∷ marks) us (suc r) h = zero_marked marks us r h
zero_marked (false ∷ marks) [] r h = refl
zero_marked (false ∷ marks) (u ∷ us) zero h = absurd cc
zero_marked (false ∷ marks) (u ∷ us) (suc r) h = zero_marked marks us r h

-- one more place counts where it is not marked
count_more : (mark : Bool) (marks : List Bool) → count_by not (mark ∷ marks) ≡ cond (not mark) 1 0 + count_by not marks
count_more mark marks = sum_by-cons (λ (m : Bool). cond (not m) 1 0) mark marks

-- as many places are not marked as texts are not null
pub count_present : (texts : List (List ℕ)) → count_by not (map (is_null true) texts) ≡ length (present true texts)
count_present [] = refl
count_present ([] ∷ texts) = count_present texts
count_present ((byte ∷ text) ∷ texts) = omega (arith, count_more false (map (is_null true) texts), count_present texts)

-- what texts stand for, out of their marks and the numbers of those that are not null
laid_texts : (f : List ℕ → ℤ) (texts : List (List ℕ)) → laid (map (is_null true) texts) (map f (present true texts)) ≡ map (λ (t : List ℕ). if is_null true t then None else Some (f t)) texts
laid_texts f [] = refl
laid_texts f ([] ∷ texts) = ap (λ vs. None ∷ vs) (laid_texts f texts)
laid_texts f ((byte ∷ text) ∷ texts) = ap (λ vs. Some (f (byte ∷ text)) ∷ vs) (laid_texts f texts)

plain_texts : (f : List ℕ → ℤ) (texts : List (List ℕ)) → map Some (map f (present false texts)) ≡ map (λ (t : List ℕ). Some (f t)) texts
plain_texts f [] = refl
plain_texts f (text ∷ texts) = ap (λ vs. Some (f text) ∷ vs) (plain_texts f texts)

pub nullable_values : (kind : Kind) (texts : List (List ℕ)) → laid (map (is_null true) texts) (numbers_of kind (present true texts)) ≡ values_of true kind texts
nullable_values kind texts = laid_texts (number_in kind (dictionary kind (present true texts))) texts

pub other_values : (kind : Kind) (texts : List (List ℕ)) → map Some (numbers_of kind (present false texts)) ≡ values_of false kind texts
other_values kind texts = plain_texts (number_in kind (dictionary kind (present false texts))) texts

-- the cells that stand for the values of a column
parts_finished : (nullable : Bool) (kept : Kept) (marks : List Bool) (name : List ℕ) (head : ColumnHead) (values numbers : List ℕ) (nulls : List Bool) → IsWhole (record { nullable = nullable; kept = kept; nulls = marks })
    → HasValues kept nullable name head values → numbers ≡ (if nullable then filled marks values else values) → nulls ≡ marks → IsFinished (record { nullable = nullable; kept = kept; nulls = marks }) name head numbers nulls
parts_finished true kept marks name head values numbers nulls whole v n m = record {
  stored = record {
    name_is = v.name_is;
    kind = v.kind;
    nullable = v.nullable_is;
    names = v.names;
    base = v.base;
    top = v.top;
    cells_are = rw (n, m) (laid_values head.base (value_of (ends_of head)) marks values (λ u. refl) refl ∙ ap (laid marks) v.numbers_are);
  };
  nulls_are = m;
  zero = λ r h. rw n (zero_marked marks values r (subst (λ ns. IsTrue (get_or ns r false)) m h));
}
parts_finished false kept marks name head values numbers nulls whole v n m = record {
  stored = record {
    name_is = v.name_is;
    kind = v.kind;
    nullable = v.nullable_is;
    names = v.names;
    base = v.base;
    top = v.top;
    cells_are = rw (n, none) (plain_values head.base (value_of (ends_of head)) values (λ u. refl) ∙ ap (map Some) v.numbers_are);
  };
  nulls_are = m;
  zero = λ r h. absurd (let bad : false ≡ true = subst (λ ns. IsTrue (get_or ns r false)) none h in cc);
}
  where
    none : nulls ≡ []
    none = m ∙ whole.plain refl

pub finished : (s : State) (name : List ℕ) (head : ColumnHead) (values numbers : List ℕ) (nulls : List Bool) → IsWhole s → HasValues s.kept s.nullable name head values
    → numbers ≡ (if s.nullable then filled s.nulls values else values) → nulls ≡ s.nulls → IsFinished s name head numbers nulls
finished s name head values numbers nulls whole v n m = parts_finished s.nullable s.kept s.nulls name head values numbers nulls whole v n m
