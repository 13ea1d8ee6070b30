-- A span that is written allows what it allowed.
use Rattle.std.proofs.Common.{◌≡◌, ◌∙◌, ℕ, List, not, ◌||◌, ℤ, pos, neg_ℤ, int_le, nat_le, Bool, true, false, ◌&&◌, refl, sym, inl, inr, IsTrue, Option, Some, None}
use Rattle.std.specs.Cmp.Lexicographic.{slice_cmp}
use Rattle.std.specs.Ordering.{is_le, nat_cmp}
use Rattle.std.proofs.lemmas.Bool.{and_from, and_parts, cases_Bool, false≢true}
use Rattle.report_text.specs.declared.forms.Form.{Form}
use Rattle.report_text.specs.declared.forms.Form.TheVariants.{Date, Decimals}
use Rattle.shard_groups.specs.declared.keys.Ends.{Ends}
use Rattle.shard_groups.specs.declared.keys.KeyValue.{KeyValue}
use Rattle.shard_groups.specs.declared.keys.KeyValue.TheVariants.{Number, Text}
use Rattle.shard_groups.specs.declared.keys.Span.{Span}
use Rattle.shard_groups.specs.Keys.{allows, at_most, ends_within, is_between}
use Rattle.shard_groups.proofs.ValueOrder.{follows}
use Rattle.part_groups.specs.Cells.{span_of, values_in}
use Rattle.part_groups.specs.Shown.{are_written, has_text, or_dash, shown_ends, shown_span}
use Rattle.part_groups.specs.declared.forms.EndsForm.{EndsForm}
use Rattle.part_groups.specs.declared.forms.EndsForm.TheVariants.{Texts, Values}

-- ---- ends that a form writes

abbrev pub writes : EndsForm → KeyValue → Bool
writes (Values form) (Number value) = has_text form value
writes (Values form) (Text text) = false
writes Texts (Number value) = false
writes Texts (Text text) = true

-- where there are values there is a form that writes both ends
abbrev pub is_in : Option EndsForm → Option Ends → Bool
is_in form None = true
is_in None (Some ends) = false
is_in (Some form) (Some ends) = writes form ends.low && writes form ends.high

-- ---- values that are not in order are none

nothing_between : (a b : KeyValue) → at_most a b ≡ false → (v : KeyValue) → false ≡ (at_most a v && at_most v b)
nothing_between a b f v = elim (cases_Bool (at_most a v && at_most v b)) [
  | inl t ↦ absurd (let e = and_parts (at_most a v) (at_most v b) t in false≢true (sym f ∙ follows a v b e.0 e.1))
  | inr g ↦ sym g
]

text_between : (form : Form) (low high x y : ℤ) → IsTrue (has_text form x) → IsTrue (has_text form y) → IsTrue (int_le x low) → IsTrue (int_le high y) →
    IsTrue (int_le low high) → IsTrue (has_text form low && has_text form high)
text_between (Decimals decimals) low high x y p q f g o = and_from (nat_le decimals 18) (nat_le decimals 18) p q
text_between Date low high x y p q f g o =
    let first = neg_ℤ (pos 719528) in
    let last = pos 2932896 in
    let e = and_parts (int_le first x) (int_le x last) p in
    let h = and_parts (int_le first y) (int_le y last) q in
    let a = follows (Number first) (Number x) (Number low) e.0 f in
    let d = follows (Number high) (Number y) (Number last) g h.1 in
    let b = follows (Number low) (Number high) (Number last) o d in
    let c = follows (Number first) (Number low) (Number high) a o in
    and_from (int_le first low && int_le low last) (int_le first high && int_le high last) (and_from (int_le first low) (int_le low last) a b)
    (and_from (int_le first high) (int_le high last) c d)

crossed : (form : Form) (low high x y : ℤ) → IsTrue (has_text form x) → IsTrue (has_text form y) → IsTrue (int_le x low) → IsTrue (int_le high y) →
    are_written form low high ≡ false → int_le low high ≡ false
crossed form low high x y p q f g w = elim (cases_Bool (int_le low high)) [
  | inl t ↦ absurd (false≢true (sym w ∙ and_from (int_le low high) (has_text form low && has_text form high) t (text_between form low high x y p q f g t)))
  | inr n ↦ n
]

-- ---- a span

values_kept : (null : Bool) (form : Form) (low high x y : ℤ) → IsTrue (has_text form x) → IsTrue (has_text form y) → IsTrue (int_le x low) →
    IsTrue (int_le high y) → (v : KeyValue) → (b : Bool) → are_written form low high ≡ b →
    is_between (values_in (or_dash null (shown_ends (Some (Values form)) (Some (record { low = Number low; high = Number high }))))) v
    ≡ (at_most (Number low) v && at_most v (Number high))
values_kept null form low high x y p q f g v true e = rw e refl
values_kept true form low high x y p q f g v false e = rw e (nothing_between (Number low) (Number high) (crossed form low high x y p q f g e) v)
values_kept false form low high x y p q f g v false e = rw e (nothing_between (Number low) (Number high) (crossed form low high x y p q f g e) v)

texts_kept : (null : Bool) (low high : List ℕ) (v : KeyValue) → (b : Bool) → is_le (slice_cmp nat_cmp low high) ≡ b →
    is_between (values_in (or_dash null (shown_ends (Some Texts) (Some (record { low = Text low; high = Text high }))))) v
    ≡ (at_most (Text low) v && at_most v (Text high))
texts_kept null low high v true e = rw e refl
texts_kept true low high v false e = rw e (nothing_between (Text low) (Text high) e v)
texts_kept false low high v false e = rw e (nothing_between (Text low) (Text high) e v)

none_kept : (null : Bool) (low : List ℕ) (high : ℤ) (v : KeyValue) →
    is_between (values_in (or_dash null None)) v ≡ (at_most (Text low) v && at_most v (Number high))
none_kept true low high v = nothing_between (Text low) (Number high) refl v
none_kept false low high v = nothing_between (Text low) (Number high) refl v

ends_kept : (null : Bool) (form : EndsForm) (low high x y : KeyValue) → IsTrue (writes form x) → IsTrue (writes form y) → IsTrue (at_most x low) →
    IsTrue (at_most high y) → (v : KeyValue) →
    is_between (values_in (or_dash null (shown_ends (Some form) (Some (record { low = low; high = high }))))) v ≡ (at_most low v && at_most v high)
ends_kept null (Values form) low high (Text x) y p q f g v = absurd (false≢true p)
ends_kept null (Values form) low high (Number x) (Text y) p q f g v = absurd (false≢true q)
ends_kept null (Values form) low (Text high) (Number x) (Number y) p q f g v = absurd (false≢true g)
ends_kept null (Values form) (Text low) (Number high) (Number x) (Number y) p q f g v = none_kept null low high v
ends_kept null (Values form) (Number low) (Number high) (Number x) (Number y) p q f g v =
    values_kept null form low high x y p q f g v (are_written form low high) refl
ends_kept null Texts low high (Number x) y p q f g v = absurd (false≢true p)
ends_kept null Texts low high (Text x) (Number y) p q f g v = absurd (false≢true q)
ends_kept null Texts (Number low) high (Text x) (Text y) p q f g v = absurd (false≢true f)
ends_kept null Texts (Text low) (Number high) (Text x) (Text y) p q f g v = none_kept null low high v
ends_kept null Texts (Text low) (Text high) (Text x) (Text y) p q f g v = texts_kept null low high v (is_le (slice_cmp nat_cmp low high)) refl

no_values_kept : (null : Bool) (form : Option EndsForm) (v : KeyValue) → is_between (values_in (or_dash null (shown_ends form None))) v ≡ false
no_values_kept true None v = refl
no_values_kept false None v = refl
no_values_kept true (Some form) v = refl
no_values_kept false (Some form) v = refl

all_kept : (null : Bool) (form : Option EndsForm) (ends hull : Option Ends) → IsTrue (is_in form hull) → IsTrue (ends_within ends hull) → (v : KeyValue) →
    is_between (values_in (or_dash null (shown_ends form ends))) v ≡ is_between ends v
all_kept null form None hull p w v = no_values_kept null form v
all_kept null form (Some ends) None p w v = absurd (false≢true w)
all_kept null None (Some ends) (Some hull) p w v = absurd (false≢true p)
all_kept null (Some form) (Some ends) (Some hull) p w v =
    let e = and_parts (writes form hull.low) (writes form hull.high) p in
    let f = and_parts (at_most hull.low ends.low) (at_most ends.high hull.high) w in
    ends_kept null form ends.low ends.high hull.low hull.high e.0 e.1 f.0 f.1 v

-- all that the one allows the other does
abbrev pub span_within : Span → Span → Bool
span_within a b = (not a.null || b.null) && ends_within a.ends b.ends

-- within one that its form writes
pub span_kept : (form : Option EndsForm) (span hull : Span) → IsTrue (is_in form hull.ends) → IsTrue (span_within span hull) →
    (part : Option KeyValue) → allows (span_of (shown_span form span)) part ≡ allows span part
span_kept form span hull p w None = refl
span_kept form span hull p w (Some v) =
    all_kept span.null form span.ends hull.ends p (and_parts (not span.null || hull.null) (ends_within span.ends hull.ends) w).1 v
