-- The keys that the parts show are written in the forms that they share.
use Rattle.std.proofs.Common.{◌≡◌, ◌∙◌, ℕ, ℤ, suc, zero, ◌<◌, Bool, true, false, List, [], ◌∷◌, ◌++◌, length, map, slice_get, refl, arith, sym, ap, subst, IsTrue, Option, Some, None}
use Rattle.std.specs.List.{All, flat_map, list_all}
use Rattle.std.proofs.lemmas.Bool.{and_from, and_parts, false≢true}
use Rattle.std.proofs.lemmas.Int.{ints}
use Rattle.report_text.specs.Keys.{IsShownSpan}
use Rattle.report_text.specs.Forms.{HasTextIn}
use Rattle.report_text.specs.declared.forms.Form.{Form}
use Rattle.report_text.specs.declared.forms.Form.TheVariants.{Date, Decimals}
use Rattle.report_text.specs.declared.keys.ShownEnds.{ShownEnds}
use Rattle.report_text.specs.declared.keys.ShownEnds.TheVariants as shown
use Rattle.report_text.specs.declared.keys.ShownSpan.{ShownSpan}
use Rattle.shard_groups.specs.declared.cells.Cell.{Cell}
use Rattle.shard_groups.specs.declared.keys.Span.{Span}
use Rattle.shard_groups.specs.Groups.{all_keys, keys_in}
use Rattle.part_groups.specs.Cells.{keys_of, told, told_by, values_in}
use Rattle.part_groups.specs.Forms.{AreSharedForms, fits, form_at, is_same, told_at, told_by_ends, told_of_span, told_over}
use Rattle.part_groups.specs.Laws.{AreAllOf, AreOf, IsOf, keys_by}
use Rattle.part_groups.specs.Shown.{has_text, span_at}
use Rattle.part_groups.specs.declared.forms.EndsForm.{EndsForm}
use Rattle.part_groups.specs.declared.forms.EndsForm.TheVariants.{Texts, Values}
use Rattle.part_groups.specs.declared.forms.Places.TheVariants.{Columns}
use Rattle.part_groups.specs.declared.group.Group.{Group}
use Rattle.part_groups.proofs.Hulls.{AreIn, IsIn}
use Rattle.part_groups.proofs.Written.{is_in}

-- ---- one column

text_in_form : (one other : Form) (value : ℤ) → IsTrue (is_same one other) → HasTextIn one value → IsTrue (has_text other value)
text_in_form (Decimals a) (Decimals b) value s h = grind arith
text_in_form (Decimals a) Date value s h = absurd (false≢true s)
text_in_form Date (Decimals b) value s h = absurd (false≢true s)
text_in_form Date Date value s h = grind (arith, ints)

part_in : (null : Bool) (ends : Option ShownEnds) (shared : Option EndsForm) → IsShownSpan (record { null = null; ends = ends }) →
    IsTrue (fits shared (told_by_ends ends)) → IsTrue (is_in shared (values_in ends))
part_in null None shared h f = refl
part_in null (Some shown.NoText) shared h f = refl
part_in null (Some (shown.Texts ends)) None h f = absurd (false≢true f)
part_in null (Some (shown.Texts ends)) (Some (Values form)) h f = absurd (false≢true f)
part_in null (Some (shown.Texts ends)) (Some Texts) h f = refl
part_in null (Some (shown.Values ends)) None h f = absurd (false≢true f)
part_in null (Some (shown.Values ends)) (Some Texts) h f = absurd (false≢true f)
part_in true (Some (shown.Values ends)) (Some (Values form)) h f =
    and_from (has_text form ends.low) (has_text form ends.high) (text_in_form ends.form form ends.low f h.low.has)
    (text_in_form ends.form form ends.high f h.high.has)
part_in false (Some (shown.Values ends)) (Some (Values form)) h f =
    and_from (has_text form ends.low) (has_text form ends.high) (text_in_form ends.form form ends.low f h.low.has)
    (text_in_form ends.form form ends.high f h.high.has)

column_in : (spans : List ShownSpan) (column : ℕ) (shared : Option EndsForm) → All IsShownSpan spans →
    IsTrue (fits shared (told_of_span (slice_get spans column))) → IsTrue (is_in shared (span_at column (keys_of spans)).ends)
column_in [] column shared h f = refl
column_in (span ∷ spans) zero shared h f = part_in span.null span.ends shared (h 0 span (omega arith)) f
column_in (span ∷ spans) (suc column) shared h f = column_in spans column shared (λ k d l. h (suc k) d (omega (arith, l))) f

keys_length : (spans : List ShownSpan) → length (keys_of spans) ≡ length spans
keys_length [] = refl
keys_length (span ∷ spans) = ap suc (keys_length spans)

-- ---- all lines of all parts

-- what each of these tells fits
abbrev pub Fit : List (Option EndsForm) → ℕ → List Group → Type 0
Fit forms count groups = (column : ℕ) → column < count → IsTrue (list_all (fits (form_at column forms)) (map (told_at Columns column) groups))

group_in_forms : (forms : List (Option EndsForm)) (count : ℕ) (group : Group) → length forms ≡ count → IsOf count group →
    ((column : ℕ) → column < count → IsTrue (fits (form_at column forms) (told_at Columns column group))) → IsIn forms (keys_by group)
group_in_forms forms count group e is fit = record {
  columns = keys_length group.line.keys ∙ is.columns ∙ sym e;
  each = λ column h. column_in group.line.keys column (form_at column forms) is.shown.each
      (fit column (subst (λ (n : ℕ). column < n) e h));
}

groups_in_forms : (forms : List (Option EndsForm)) (count : ℕ) (groups : List Group) → length forms ≡ count → AreOf count groups →
    Fit forms count groups → AreIn forms (map keys_by groups)
groups_in_forms forms count [] e are fit = tt
groups_in_forms forms count (group ∷ groups) e are fit =
    let parts = λ (column : ℕ) (h : column < count). and_parts (fits (form_at column forms) (told_at Columns column group))
    (list_all (fits (form_at column forms)) (map (told_at Columns column) groups)) (fit column h) in (
      group_in_forms forms count group e are.0 (λ column h. (parts column h).0),
      groups_in_forms forms count groups e are.1 (λ column h. (parts column h).1),
    )

both_in : (forms : List (Option EndsForm)) (front back : List (List Span)) → AreIn forms front → AreIn forms back → AreIn forms (front ++ back)
both_in forms [] back p q = q
both_in forms (span ∷ front) back p q = (p.0, both_in forms front back p.1 q)

all_front : (test : Option EndsForm → Bool) (front back : List (Option EndsForm)) → IsTrue (list_all test (front ++ back)) →
    IsTrue (list_all test front) × IsTrue (list_all test back)
all_front test [] back h = (refl, h)
all_front test (told ∷ front) back h =
    let e = and_parts (test told) (list_all test (front ++ back)) h in
    let f = all_front test front back e.1 in
    (and_from (test told) (list_all test front) e.0 f.0, f.1)

parts_in_forms : (forms : List (Option EndsForm)) (count : ℕ) (parts : List (List Group)) → length forms ≡ count → AreAllOf count parts →
    ((column : ℕ) → column < count → IsTrue (list_all (fits (form_at column forms)) (told_over Columns column parts))) →
    AreIn forms (flat_map (map keys_by) parts)
parts_in_forms forms count [] e are fit = tt
parts_in_forms forms count (groups ∷ parts) e are fit =
    let split = λ (column : ℕ) (h : column < count). all_front (fits (form_at column forms)) (map (told_at Columns column) groups)
    (told_over Columns column parts) (fit column h) in
    both_in forms (map keys_by groups) (flat_map (map keys_by) parts)
    (groups_in_forms forms count groups e are.0 (λ column h. (split column h).0))
    (parts_in_forms forms count parts e are.1 (λ column h. (split column h).1))

shared_in : (forms : List (Option EndsForm)) (count : ℕ) (parts : List (List Group)) → AreSharedForms Columns count parts forms →
    (column : ℕ) → column < count → IsTrue (list_all (fits (form_at column forms)) (told_over Columns column parts))
shared_in forms count parts h column l =
    subst (λ (form : Option EndsForm). IsTrue (list_all (fits form) (told_over Columns column parts))) (sym (h.each column l)) (h.alike column l)

-- ---- the cells that tell the same

pub cell_keys : (cells : List Cell) → keys_in cells ≡ map (λ t. t.keys) (map told cells)
cell_keys [] = refl
cell_keys (cell ∷ cells) = ap (λ (ks : List (List Span)). cell.keys ∷ ks) (cell_keys cells)

pub group_keys : (groups : List Group) → map (λ t. t.keys) (map told_by groups) ≡ map keys_by groups
group_keys [] = refl
group_keys (group ∷ groups) = ap (λ (ks : List (List Span)). keys_by group ∷ ks) (group_keys groups)

all_cell_keys : (cells : List (List Cell)) → all_keys cells ≡ flat_map (map (λ t. t.keys)) (map (map told) cells)
all_cell_keys [] = refl
all_cell_keys (shard ∷ cells) = ap (λ (ks : List (List Span)). ks ++ all_keys cells) (cell_keys shard)
    ∙ ap (λ (ks : List (List Span)). map (λ t. t.keys) (map told shard) ++ ks) (all_cell_keys cells)

all_group_keys : (parts : List (List Group)) → flat_map (map (λ t. t.keys)) (map (map told_by) parts) ≡ flat_map (map keys_by) parts
all_group_keys [] = refl
all_group_keys (groups ∷ parts) =
    ap (λ (ks : List (List Span)). ks ++ flat_map (map (λ t. t.keys)) (map (map told_by) parts)) (group_keys groups)
    ∙ ap (λ (ks : List (List Span)). map keys_by groups ++ ks) (all_group_keys parts)

-- the keys of cells are those of the groups
pub keys_of_parts : (parts : List (List Group)) (cells : List (List Cell)) → map (map told) cells ≡ map (map told_by) parts →
    all_keys cells ≡ flat_map (map keys_by) parts
keys_of_parts parts cells e = all_cell_keys cells ∙ ap (flat_map (map (λ t. t.keys))) e ∙ all_group_keys parts

-- the cells' keys are written in the forms that the parts share
pub cells_in : (forms : List (Option EndsForm)) (count : ℕ) (parts : List (List Group)) (cells : List (List Cell)) →
    map (map told) cells ≡ map (map told_by) parts → AreAllOf count parts → AreSharedForms Columns count parts forms → AreIn forms (all_keys cells)
cells_in forms count parts cells e are shared =
    subst (AreIn forms) (sym (keys_of_parts parts cells e))
    (parts_in_forms forms count parts shared.all are (shared_in forms count parts shared))
