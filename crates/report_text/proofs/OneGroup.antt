-- That the line of a group says one thing.
use Rattle.std.proofs.Common.{◌≡◌, ℕ, Bool, true, false, List, [], ◌∷◌, ◌++◌, codes, Option, Some, None, refl, sym, ap, ◌∙◌, arith, append_assoc, ℤ}
use Rattle.std.proofs.lemmas.Bool.Decides.{Decides-int_eq}
use Rattle.std.proofs.lemmas.List.{append-nil, append_cancel_left, append_cancel_right}
use Rattle.std.proofs.lemmas.List.Elements.{All-head, All-tail}
use Rattle.std.proofs.lemmas.Slice.Eq.{bytes_eq-Decides}
use Rattle.std.specs.List.{All}
use Rattle.std.specs.Ordering.{int_eq}
use Rattle.std.specs.Str.{bytes_eq}
use Rattle.daq_table.specs.ValueTexts.{quoted_text}
use Rattle.report_text.proofs.EndTexts.{end_one}
use Rattle.report_text.proofs.KeyTexts.{dots, high_value, low_value, no_dash, no_quoted_dash, no_texts, not_null, null_lacks, part_lacks, value_lacks}
use Rattle.report_text.proofs.Outside.{parted_one, parted_or_whole, quoted_lacks, quoted_one}
use Rattle.report_text.specs.Forms.{text_in}
use Rattle.report_text.specs.Groups.{AreShownKeys, GroupsSayOne, presence_text}
use Rattle.report_text.specs.Keys.{AreShownEnds, AreValueEnds, IsShownPart, IsShownSpan, dotted, keys_text, part_text, span_text, text_of_ends}
use Rattle.report_text.specs.Quotes.{LacksOutside}
use Rattle.report_text.specs.declared.forms.Form.{Form}
use Rattle.report_text.specs.declared.forms.IntervalEnd.{IntervalEnd}
use Rattle.report_text.specs.declared.keys.ShownEnds.{ShownEnds}
use Rattle.report_text.specs.declared.keys.ShownEnds.TheVariants.{NoText, Texts, Values}
use Rattle.report_text.specs.declared.keys.ShownSpan.{ShownSpan}
use Rattle.report_text.specs.declared.keys.TextEnds.{TextEnds}
use Rattle.report_text.specs.declared.keys.ValueEnds.{ValueEnds}

-- ---- values

dotted_one : (p q : Bool) (a b c d : List ℕ) → LacksOutside dots false a → LacksOutside dots false c → (p ≡ true → a ≡ b) → (q ≡ true → c ≡ d) →
    dotted p a b ≡ dotted q c d → (a ≡ c) × (b ≡ d)
dotted_one true true a b c d h k one two e = (e, sym (one refl) ∙ e ∙ two refl)
dotted_one false false a b c d h k one two e = parted_one dots a c b d (omega arith) h k e
dotted_one true false a b c d h k one two e = parted_or_whole dots c a d (omega arith) k h (sym e)
dotted_one false true a b c d h k one two e = parted_or_whole dots a c b (omega arith) h k e

pub same_values : (ends : ValueEnds) → int_eq ends.low ends.high ≡ true → text_in ends.form ends.low ≡ text_in ends.form ends.high
same_values ends h = ap (λ (z : ℤ). text_in ends.form z) ((Decides-int_eq ends.low ends.high).0 h)

pub same_texts : (ends : TextEnds) → bytes_eq ends.low ends.high ≡ true → quoted_text ends.low ≡ quoted_text ends.high
same_texts ends h = ap quoted_text ((bytes_eq-Decides ends.low ends.high).0 h)

pub values_are : (a b : ValueEnds) → low_value a ≡ low_value b → high_value a ≡ high_value b → a ≡ b
values_are a b low high =
    ap (λ (f : Form). record { form = f; low = a.low; high = a.high }) (ap (λ (x : IntervalEnd). x.form) low)
    ∙ ap (λ (z : ℤ). record { form = b.form; low = z; high = a.high }) (ap (λ (x : IntervalEnd). x.value) low)
    ∙ ap (λ (z : ℤ). record { form = b.form; low = b.low; high = z }) (ap (λ (x : IntervalEnd). x.value) high)

pub texts_are : (a b : TextEnds) → a.low ≡ b.low → a.high ≡ b.high → a ≡ b
texts_are a b low high = ap (λ (t : List ℕ). record { low = t; high = a.high }) low ∙ ap (λ (t : List ℕ). record { low = b.low; high = t }) high

values_one : (a b : ValueEnds) → AreValueEnds a → AreValueEnds b → text_of_ends (Values a) ≡ text_of_ends (Values b) → a ≡ b
values_one a b h k e =
    let both = dotted_one (int_eq a.low a.high) (int_eq b.low b.high) (text_in a.form a.low) (text_in a.form a.high) (text_in b.form b.low) (text_in b.form b.high)
    (value_lacks (low_value a) h.low) (value_lacks (low_value b) k.low) (same_values a) (same_values b) e in
    values_are a b (end_one (low_value a) (low_value b) h.low k.low both.0) (end_one (high_value a) (high_value b) h.high k.high both.1)

texts_one : (a b : TextEnds) → text_of_ends (Texts a) ≡ text_of_ends (Texts b) → a ≡ b
texts_one a b e =
    let both = dotted_one (bytes_eq a.low a.high) (bytes_eq b.low b.high) (quoted_text a.low) (quoted_text a.high) (quoted_text b.low) (quoted_text b.high)
    (quoted_lacks 46 (46 ∷ []) a.low refl) (quoted_lacks 46 (46 ∷ []) b.low refl) (same_texts a) (same_texts b) e in
    texts_are a b (quoted_one a.low b.low both.0) (quoted_one a.high b.high both.1)

-- as one text and nothing behind it
alone : (s t : List ℕ) → s ≡ t → s ++ [] ≡ t ++ []
alone s t e = ap (λ (x : List ℕ). x ++ []) e

pub ends_one : (a b : ShownEnds) → AreShownEnds a → AreShownEnds b → text_of_ends a ≡ text_of_ends b → a ≡ b
ends_one (Values a) (Values b) h k e = ap (λ (x : ValueEnds). Values x) (values_one a b h k e)
ends_one (Texts a) (Texts b) h k e = ap (λ (x : TextEnds). Texts x) (texts_one a b e)
ends_one (Values a) (Texts b) h k e = no_texts a b [] [] h (alone (text_of_ends (Values a)) (text_of_ends (Texts b)) e)
ends_one (Texts a) (Values b) h k e = no_texts b a [] [] k (alone (text_of_ends (Values b)) (text_of_ends (Texts a)) (sym e))
ends_one NoText NoText h k e = refl
ends_one (Values a) NoText h k e = no_dash a h e
ends_one NoText (Values b) h k e = no_dash b k (sym e)
ends_one (Texts a) NoText h k e = no_quoted_dash a e
ends_one NoText (Texts b) h k e = no_quoted_dash b (sym e)

-- ---- keys

record SamePart (n m : Bool) (a b : Option ShownEnds) : Type 0 where
  null : n ≡ m
  ends : a ≡ b

abbrev word : List ℕ
word = codes " or null"

some_ends : (a b : ShownEnds) → a ≡ b → ◌≡◌ {A = Option ShownEnds} (Some a) (Some b)
some_ends a b e = ap (λ (x : ShownEnds). Some x) e

part_one : (n m : Bool) (a b : Option ShownEnds) → IsShownPart n a → IsShownPart m b → part_text n a ≡ part_text m b → SamePart n m a b
part_one false m None b h k e = absurd h
part_one n false a None h k e = absurd k
part_one true true None None h k e = record { null = refl; ends = refl }
part_one true false None (Some b) h k e = not_null b [] k (append-nil (text_of_ends b) ∙ sym e)
part_one true true None (Some b) h k e = not_null b word k (sym e)
part_one false true (Some a) None h k e = not_null a [] h (append-nil (text_of_ends a) ∙ e)
part_one true true (Some a) None h k e = not_null a word h e
part_one false false (Some a) (Some b) h k e = record { null = refl; ends = some_ends a b (ends_one a b h k e) }
part_one true true (Some a) (Some b) h k e =
    record { null = refl; ends = some_ends a b (ends_one a b h k (append_cancel_right (text_of_ends a) (text_of_ends b) word e)) }
part_one true false (Some a) (Some b) h k e =
    parted_or_whole word (text_of_ends a) (text_of_ends b) [] (omega arith) (null_lacks a h) (null_lacks b k) e
part_one false true (Some a) (Some b) h k e =
    parted_or_whole word (text_of_ends b) (text_of_ends a) [] (omega arith) (null_lacks b k) (null_lacks a h) (sym e)

pub span_one : (a b : ShownSpan) → IsShownSpan a → IsShownSpan b → span_text a ≡ span_text b → a ≡ b
span_one a b h k e =
    let same = part_one a.null b.null a.ends b.ends h k e in
    ap (λ (x : Bool). record { null = x; ends = a.ends }) same.null ∙ ap (λ (x : Option ShownEnds). record { null = b.null; ends = x }) same.ends

pub span_lacks : (span : ShownSpan) → IsShownSpan span → LacksOutside (codes ", ") false (span_text span)
span_lacks span h = part_lacks span.null span.ends h

module _ (a b : ShownSpan) (xs ys : List ShownSpan) (h : All IsShownSpan (a ∷ xs)) (k : All IsShownSpan (b ∷ ys)) where
  head_one : span_text a ≡ span_text b → a ≡ b
  head_one e = span_one a b (All-head IsShownSpan a xs h) (All-head IsShownSpan b ys k) e

  head_lacks : LacksOutside (codes ", ") false (span_text a)
  head_lacks = span_lacks a (All-head IsShownSpan a xs h)

  other_lacks : LacksOutside (codes ", ") false (span_text b)
  other_lacks = span_lacks b (All-head IsShownSpan b ys k)

keys_one : (a b : ShownSpan) (xs ys : List ShownSpan) → All IsShownSpan (a ∷ xs) → All IsShownSpan (b ∷ ys) → keys_text (a ∷ xs) ≡ keys_text (b ∷ ys) →
    ◌≡◌ {A = List ShownSpan} (a ∷ xs) (b ∷ ys)
keys_one a b [] [] h k e =
    ap (λ (x : ShownSpan). x ∷ []) (head_one a b [] [] h k (sym (append-nil (span_text a)) ∙ e ∙ append-nil (span_text b)))
keys_one a b [] (d ∷ ds) h k e =
    parted_or_whole (codes ", ") (span_text b) (span_text a) (keys_text (d ∷ ds)) (omega arith) (other_lacks a b [] (d ∷ ds) h k) (head_lacks a b [] (d ∷ ds) h k)
    (sym e ∙ append-nil (span_text a))
keys_one a b (c ∷ cs) [] h k e =
    parted_or_whole (codes ", ") (span_text a) (span_text b) (keys_text (c ∷ cs)) (omega arith) (head_lacks a b (c ∷ cs) [] h k) (other_lacks a b (c ∷ cs) [] h k)
    (e ∙ append-nil (span_text b))
keys_one a b (c ∷ cs) (d ∷ ds) h k e =
    let both = parted_one (codes ", ") (span_text a) (span_text b) (keys_text (c ∷ cs)) (keys_text (d ∷ ds)) (omega arith)
    (head_lacks a b (c ∷ cs) (d ∷ ds) h k) (other_lacks a b (c ∷ cs) (d ∷ ds) h k) e in
    ap (λ (x : ShownSpan). x ∷ c ∷ cs) (head_one a b (c ∷ cs) (d ∷ ds) h k both.0)
    ∙ ap (λ (more : List ShownSpan). b ∷ more) (keys_one c d cs ds (All-tail IsShownSpan a (c ∷ cs) h) (All-tail IsShownSpan b (d ∷ ds) k) both.1)

all_one : (xs ys : List ShownSpan) → AreShownKeys xs → AreShownKeys ys → keys_text xs ≡ keys_text ys → xs ≡ ys
all_one [] ys h k e = absurd (let some = h.some in omega (arith, some))
all_one (a ∷ xs) [] h k e = absurd (let some = k.some in omega (arith, some))
all_one (a ∷ xs) (b ∷ ys) h k e = keys_one a b xs ys h.each k.each e

-- ---- what is known of them

pub last_one : (xs ys : List ℕ) (a b : ℕ) → xs ++ (a ∷ []) ≡ ys ++ (b ∷ []) → a ≡ b
last_one [] [] a b e = cc
last_one [] (y ∷ []) a b e = absurd cc
last_one [] (y ∷ z ∷ zs) a b e = absurd cc
last_one (x ∷ []) [] a b e = absurd cc
last_one (x ∷ z ∷ zs) [] a b e = absurd cc
last_one (x ∷ xs) (y ∷ ys) a b e = last_one xs ys a b (ap (λ (t : List ℕ). tail t) e)
  where
    tail : List ℕ → List ℕ
    tail [] = []
    tail (c ∷ cs) = cs

other_words : {P : Type 0} (xs ys : List ℕ) → xs ++ codes " present" ≡ ys ++ codes " possible" → P
other_words xs ys e =
    let same : 116 ≡ 101 = last_one (xs ++ codes " presen") (ys ++ codes " possibl") 116 101 (append_assoc xs (codes " presen") (116 ∷ []) ∙ e ∙ sym (append_assoc ys (codes " possibl") (101 ∷ []))) in
    absurd (omega (arith, same))

pub record SameWords (xs ys : List ℕ) (p q : Bool) : Type 0 where
  pub keys : xs ≡ ys
  pub present : p ≡ q

pub words_one : (p q : Bool) (xs ys : List ℕ) → xs ++ presence_text p ≡ ys ++ presence_text q → SameWords xs ys p q
words_one true true xs ys e = record { keys = append_cancel_right xs ys (codes " present") e; present = refl }
words_one false false xs ys e = record { keys = append_cancel_right xs ys (codes " possible") e; present = refl }
words_one true false xs ys e = other_words xs ys e
words_one false true xs ys e = other_words ys xs (sym e)

pub groups_say_one : GroupsSayOne
groups_say_one a b h k e =
    let rest = append_cancel_left (codes "group ") (keys_text a.keys ++ presence_text a.present) (keys_text b.keys ++ presence_text b.present) e in
    let same = words_one a.present b.present (keys_text a.keys) (keys_text b.keys) rest in
    ap (λ (x : List ShownSpan). record { keys = x; present = a.present }) (all_one a.keys b.keys h k same.keys)
    ∙ ap (λ (p : Bool). record { keys = b.keys; present = p }) same.present
