-- The hull of all lines has what each of them has.
use Rattle.std.proofs.Common.{◌≡◌, ◌∙◌, ℕ, suc, zero, ◌<◌, List, [], ◌∷◌, length, refl, arith, sym, ap, subst, inl, inr, IsTrue, Option, Some, None}
use Rattle.std.proofs.lemmas.Bool.{and_from, and_parts, cond_both, false≢true}
use Rattle.shard_groups.specs.declared.keys.Ends.{Ends}
use Rattle.shard_groups.specs.declared.keys.Span.{Span}
use Rattle.shard_groups.specs.Keys.{at_most, ends_hull, greater, hull, is_within, lesser, span_hull}
use Rattle.shard_groups.specs.Lines.{AreCovered, AreLines}
use Rattle.shard_groups.proofs.Spans.{span_hull_left, span_hull_right, within_chain, within_itself}
use Rattle.part_groups.specs.Forms.{form_at}
use Rattle.part_groups.specs.Shown.{span_at}
use Rattle.part_groups.specs.declared.forms.EndsForm.{EndsForm}
use Rattle.part_groups.proofs.Written.{is_in, span_within, writes}

-- ---- of two

hull_length : (a b : List Span) → length a ≡ length b → length (hull a b) ≡ length b
hull_length [] [] e = refl
hull_length [] (y ∷ b) e = absurd (omega (arith, e))
hull_length (x ∷ a) [] e = absurd (omega (arith, e))
hull_length (x ∷ a) (y ∷ b) e = ap suc (hull_length a b (omega (arith, e)))

left_within : (a b : List Span) → length a ≡ length b → IsTrue (is_within a (hull a b))
left_within [] [] e = refl
left_within [] (y ∷ b) e = absurd (omega (arith, e))
left_within (x ∷ a) [] e = absurd (omega (arith, e))
left_within (x ∷ a) (y ∷ b) e =
    and_from (span_within x (span_hull x y)) (is_within a (hull a b)) (span_hull_left x y) (left_within a b (omega (arith, e)))

right_within : (a b : List Span) → length a ≡ length b → IsTrue (is_within b (hull a b))
right_within [] [] e = refl
right_within [] (y ∷ b) e = absurd (omega (arith, e))
right_within (x ∷ a) [] e = absurd (omega (arith, e))
right_within (x ∷ a) (y ∷ b) e =
    and_from (span_within y (span_hull x y)) (is_within b (hull a b)) (span_hull_right x y) (right_within a b (omega (arith, e)))

hull_at : (a b : List Span) (column : ℕ) → length a ≡ length b → column < length a → span_at column (hull a b) ≡ span_hull (span_at column a) (span_at column b)
hull_at [] b column e h = absurd (omega (arith, h))
hull_at (x ∷ a) [] column e h = absurd (omega (arith, e))
hull_at (x ∷ a) (y ∷ b) zero e h = refl
hull_at (x ∷ a) (y ∷ b) (suc column) e h = hull_at a b column (omega (arith, e)) (omega (arith, h))

pub within_at : (a b : List Span) (column : ℕ) → IsTrue (is_within a b) → IsTrue (span_within (span_at column a) (span_at column b))
within_at [] [] column w = refl
within_at [] (y ∷ b) column w = absurd (false≢true w)
within_at (x ∷ a) [] column w = absurd (false≢true w)
within_at (x ∷ a) (y ∷ b) zero w = (and_parts (span_within x y) (is_within a b) w).0
within_at (x ∷ a) (y ∷ b) (suc column) w = within_at a b column (and_parts (span_within x y) (is_within a b) w).1

pub within_length : (a b : List Span) → IsTrue (is_within a b) → length a ≡ length b
within_length [] [] w = refl
within_length [] (y ∷ b) w = absurd (false≢true w)
within_length (x ∷ a) [] w = absurd (false≢true w)
within_length (x ∷ a) (y ∷ b) w = ap suc (within_length a b (and_parts (span_within x y) (is_within a b) w).1)

-- ---- in their forms

ends_in : (form : Option EndsForm) (a b : Option Ends) → IsTrue (is_in form a) → IsTrue (is_in form b) → IsTrue (is_in form (ends_hull a b))
ends_in form None b p q = q
ends_in form (Some a) None p q = p
ends_in None (Some a) (Some b) p q = absurd (false≢true p)
ends_in (Some form) (Some a) (Some b) p q =
    let e = and_parts (writes form a.low) (writes form a.high) p in
    let f = and_parts (writes form b.low) (writes form b.high) q in
    and_from (writes form (lesser a.low b.low)) (writes form (greater a.high b.high))
    (cond_both (at_most a.low b.low) a.low b.low (λ v. IsTrue (writes form v)) (λ t. e.0) (λ t. f.0))
    (cond_both (at_most a.high b.high) b.high a.high (λ v. IsTrue (writes form v)) (λ t. f.1) (λ t. e.1))

-- as many columns as there are forms, and in each the values are in its form
pub record IsIn (forms : List (Option EndsForm)) (spans : List Span) : Type 0 where
  pub columns : length spans ≡ length forms
  pub each : (column : ℕ) → column < length forms → IsTrue (is_in (form_at column forms) (span_at column spans).ends)

hull_in : (forms : List (Option EndsForm)) (a b : List Span) → IsIn forms a → IsIn forms b → IsIn forms (hull a b)
hull_in forms a b p q =
    let same : length a ≡ length b = p.columns ∙ sym q.columns in
    record {
      columns = hull_length a b same ∙ q.columns;
      each = λ column h.
          let there : column < length a = subst (λ (n : ℕ). column < n) (sym p.columns) h in
          subst (λ (s : Span). IsTrue (is_in (form_at column forms) s.ends)) (sym (hull_at a b column same there))
          (ends_in (form_at column forms) (span_at column a).ends (span_at column b).ends (p.each column h) (q.each column h));
    }

-- ---- of all

abbrev pub AreIn : List (Option EndsForm) → List (List Span) → Type 0
AreIn forms [] = Unit {0}
AreIn forms (cell ∷ cells) = IsIn forms cell × AreIn forms cells

abbrev widest : List Span → List (List Span) → List Span
widest first [] = first
widest first (cell ∷ cells) = hull cell (widest first cells)

widest_in : (forms : List (Option EndsForm)) (first : List Span) (cells : List (List Span)) → IsIn forms first → AreIn forms cells → IsIn forms (widest first cells)
widest_in forms first [] p q = p
widest_in forms first (cell ∷ cells) p q = hull_in forms cell (widest first cells) q.0 (widest_in forms first cells p q.1)

alike : (forms : List (Option EndsForm)) (cell : List Span) (first : List Span) (cells : List (List Span)) → IsIn forms cell → IsIn forms first → AreIn forms cells →
    length cell ≡ length (widest first cells)
alike forms cell first cells c p q = c.columns ∙ sym (widest_in forms first cells p q).columns

first_within : (forms : List (Option EndsForm)) (first : List Span) (cells : List (List Span)) → IsIn forms first → AreIn forms cells →
    IsTrue (is_within first (widest first cells))
first_within forms first [] p q = within_itself first
first_within forms first (cell ∷ cells) p q =
    within_chain first (widest first cells) (hull cell (widest first cells)) (first_within forms first cells p q.1)
    (right_within cell (widest first cells) (alike forms cell first cells q.0 p q.1))

covered_more : (w v : List Span) → IsTrue (is_within w v) → (cells : List (List Span)) → AreCovered cells (w ∷ []) → AreCovered cells (v ∷ [])
covered_more w v h [] c = tt
covered_more w v h (cell ∷ cells) (inl k, c) = (inl (within_chain cell w v k h), covered_more w v h cells c)
covered_more w v h (cell ∷ cells) (inr k, c) = absurd k

all_within : (forms : List (Option EndsForm)) (first : List Span) (cells : List (List Span)) → IsIn forms first → AreIn forms cells →
    AreCovered cells (widest first cells ∷ [])
all_within forms first [] p q = tt
all_within forms first (cell ∷ cells) p q =
    let same = alike forms cell first cells q.0 p q.1 in (
      inl (left_within cell (widest first cells) same),
      covered_more (widest first cells) (hull cell (widest first cells)) (right_within cell (widest first cells) same) cells
          (all_within forms first cells p q.1),
    )

-- a line that lies within one whose values are in these forms
pub record IsWithin (forms : List (Option EndsForm)) (line : List Span) : Type 0 where
  pub hull : List Span
  pub is : IsIn forms hull
  pub within : IsTrue (is_within line hull)

abbrev pub AreWithin : List (Option EndsForm) → List (List Span) → Type 0
AreWithin forms [] = Unit {0}
AreWithin forms (line ∷ lines) = IsWithin forms line × AreWithin forms lines

by_cover : (forms : List (Option EndsForm)) (hull : List Span) → IsIn forms hull → (lines : List (List Span)) → AreCovered lines (hull ∷ []) → AreWithin forms lines
by_cover forms hull is [] c = tt
by_cover forms hull is (line ∷ lines) (inl w, c) = (record { hull = hull; is = is; within = w }, by_cover forms hull is lines c)
by_cover forms hull is (line ∷ lines) (inr w, c) = absurd w

no_lines : (forms : List (Option EndsForm)) (lines : List (List Span)) → AreCovered lines [] → AreWithin forms lines
no_lines forms [] c = tt
no_lines forms (line ∷ lines) c = absurd c.0

-- each line lies within the hull of all cells
pub lines_within : (forms : List (Option EndsForm)) (cells lines : List (List Span)) → AreLines cells lines → AreIn forms cells → AreWithin forms lines
lines_within forms [] lines h p = no_lines forms lines (h.narrowest [] tt tt)
lines_within forms (first ∷ cells) lines h p =
    let hull = widest first cells in
    by_cover forms hull (widest_in forms first cells p.0 p.1) lines
    (h.narrowest (hull ∷ []) (tt, tt) (inl (first_within forms first cells p.0 p.1), all_within forms first cells p.0 p.1))
