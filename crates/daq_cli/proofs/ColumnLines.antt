-- The lines of the columns of a file, one after the other.
use Rattle.std.proofs.Common.{◌≡◌, ℕ, zero, suc, ◌+◌, List, [], ◌∷◌, ◌++◌, take, drop, slice_get, Some, Ok, Err, IsErr, refl, sym, ap, subst, ◌∙◌, arith, append_assoc, append-nil}
use Rattle.std.specs.declared.result.Result.{Result}
use Rattle.daq_table.specs.declared.head.ColumnHead.{ColumnHead}
use Rattle.outer_world.proofs.Writes.{writes_both, writes_cut}
use Rattle.outer_world.specs.Device.{SinkState}
use Rattle.outer_world.specs.Whole.{Writes}
use Rattle.daq_cli.specs.commands.Info.{column_line, column_lines}

-- one more
one_more : (n : ℕ) (columns : List ColumnHead) (place : ℕ) (column : ColumnHead) → slice_get columns place ≡ Some column →
    column_lines n (take (suc place) columns) ≡ column_lines n (take place columns) ++ column_line (place + n) column
one_more n [] place column e = absurd (cc)
one_more n (c ∷ cs) zero column e =
    let same : c ≡ column = cc in
    let first : n ≡ 0 + n = omega arith in
    append-nil (column_line n c) ∙ ap (λ (k : ℕ). column_line k c) first ∙ ap (column_line (0 + n)) same
one_more n (c ∷ cs) (suc place) column e =
    let later : place + (n + 1) ≡ suc place + n = omega arith in
    ap (λ l. column_line n c ++ l) (one_more (n + 1) cs place column e ∙ ap (λ (k : ℕ). column_lines (n + 1) (take place cs) ++ column_line k column) later)
    ∙ sym (append_assoc (column_line n c) (column_lines (n + 1) (take place cs)) (column_line (suc place + n) column))

-- so many, and the rest
parted : (n : ℕ) (columns : List ColumnHead) (place : ℕ) →
    column_lines n columns ≡ column_lines n (take place columns) ++ column_lines (place + n) (drop place columns)
parted n columns zero = let first : n ≡ 0 + n = omega arith in ap (λ (k : ℕ). column_lines k columns) first
parted n [] (suc place) = refl
parted n (c ∷ cs) (suc place) =
    let later : place + (n + 1) ≡ suc place + n = omega arith in
    ap (λ l. column_line n c ++ l) (parted (n + 1) cs place ∙ ap (λ (k : ℕ). column_lines (n + 1) (take place cs) ++ column_lines k (drop place cs)) later)
    ∙ sym (append_assoc (column_line n c) (column_lines (n + 1) (take place cs)) (column_lines (suc place + n) (drop place cs)))

-- the lines so far, and one more
pub line_after : {A B C E : Type 0} (x : A) (y : B) (z : C) (columns : List ColumnHead) (place : ℕ) (column : ColumnHead) (a b c : SinkState) →
    slice_get columns place ≡ Some column → Writes {E = E} (Ok x) a b (column_lines 1 (take place columns)) →
    Writes {E = E} (Ok y) b c (column_line (place + 1) column) → Writes {E = E} (Ok z) a c (column_lines 1 (take (place + 1) columns))
line_after {E = E} x y z columns place column a b c there before line =
    let next : suc place ≡ place + 1 = omega arith in
    let both = writes_both x (Ok y) a b c _ _ before line in
    let text = one_more 1 columns place column there in
    subst (λ (k : ℕ). Writes {E = E} (Ok z) a c (column_lines 1 (take k columns))) next
    (subst (Writes {E = E} (Ok z) a c) (sym text) (record { done = both.done; part = tt; cause = record { later = both.cause.later; failed = tt } }))

-- the lines so far, and a part of one more
pub line_cut : {A T E F : Type 0} (x : A) (e : F) (result : Result T E) (columns : List ColumnHead) (place : ℕ) (column : ColumnHead) (a b c : SinkState) →
    slice_get columns place ≡ Some column → Writes {E = E} (Ok x) a b (column_lines 1 (take place columns)) → IsErr result →
    Writes {T = T} (Err e) b c (column_line (place + 1) column) → Writes result a c (column_lines 1 columns)
line_cut x e result columns place column a b c there before failed line =
    let lines = column_lines 1 (take place columns) in
    let rest = column_lines (suc place + 1) (drop (suc place) columns) in
    let text = parted 1 columns (suc place) ∙ ap (λ l. l ++ rest) (one_more 1 columns place column there) ∙ append_assoc lines (column_line (place + 1) column) rest in
    subst (Writes result a c) (sym text) (writes_both x result a b c lines _ before (writes_cut e result b c _ _ failed line))
