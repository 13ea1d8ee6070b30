-- What is read from the texts of keys, part by part.
use Rattle.std.proofs.Common.{◌≡◌, ◌≢◌, ℕ, ◌<◌, Bool, true, false, List, [], ◌∷◌, ◌++◌, length, codes, Bor, Option, Some, None, refl, sym, subst, ◌∙◌, arith, append_assoc}
use Rattle.std.proofs.lemmas.List.{append-nil, length-append}
use Rattle.std.proofs.lemmas.List.Elements.{All-append, All-cons, All-head, All-nil, All-tail}
use Rattle.std.specs.List.{All, flat_map}
use Rattle.std.specs.Ordering.{int_eq}
use Rattle.std.specs.Str.{bytes_eq}
use Rattle.daq_table.specs.ValueTexts.{doubled, quoted_text}
use Rattle.report_text.proofs.KeyTexts.{dots, low_value, high_value, no_quote, null_lacks, value_lacks}
use Rattle.report_text.proofs.OneGroup.{same_texts, same_values, span_lacks}
use Rattle.report_text.proofs.Outside.{quoted_lacks}
use Rattle.report_text.specs.Forms.{text_in}
use Rattle.report_text.specs.Groups.{AreShownKeys}
use Rattle.report_text.specs.Keys.{AreShownEnds, AreTextEnds, AreValueEnds, HaveTexts, IsShownPart, IsShownSpan, dotted, keys_text, part_text, span_text, text_of_ends}
use Rattle.report_text.specs.Parted.{IsParted}
use Rattle.report_text.specs.Quotes.{LacksOutside}
use Rattle.report_text.specs.Reading.{IsReadTo, others_text}
use Rattle.report_text.specs.declared.forms.IntervalEnd.{IntervalEnd}
use Rattle.report_text.specs.declared.keys.ShownEnds.{ShownEnds}
use Rattle.report_text.specs.declared.keys.ShownEnds.TheVariants.{NoText, Texts, Values}
use Rattle.report_text.specs.declared.keys.ShownSpan.{ShownSpan}
use Rattle.report_text.specs.declared.keys.TextEnds.{TextEnds}
use Rattle.report_text.specs.declared.keys.ValueEnds.{ValueEnds}

-- ---- two ends

pub dots_found : (equal : Bool) (a b text low high : List ℕ) → LacksOutside dots false a → dotted equal a b ≡ text →
    ((front rest : List ℕ) → LacksOutside dots false front → front ++ (dots ++ rest) ≡ text → (low ≡ front) × (high ≡ rest)) →
    (LacksOutside dots false text → ⊥) → (low ≡ a) × (high ≡ b)
dots_found true a b text low high h e parted whole = absurd (whole (subst (LacksOutside dots false) e h))
dots_found false a b text low high h e parted whole = parted a b h e

pub dots_absent : (equal : Bool) (a b text : List ℕ) → LacksOutside dots false a → (equal ≡ true → a ≡ b) → dotted equal a b ≡ text →
    ((front rest : List ℕ) → LacksOutside dots false front → front ++ (dots ++ rest) ≡ text → ⊥) → (text ≡ a) × (text ≡ b)
dots_absent true a b text h same e parted = (sym e, sym e ∙ same refl)
dots_absent false a b text h same e parted = absurd (parted a b h e)

-- these are the texts of the ends
abbrev pub AreAround : List ℕ → List ℕ → List ℕ → Type 0
AreAround text low high =
    (equal : Bool) (a b : List ℕ) → LacksOutside dots false a → (equal ≡ true → a ≡ b) → dotted equal a b ≡ text → (low ≡ a) × (high ≡ b)

module _ (text low high : List ℕ) (around : AreAround text low high) (other : text ≡ codes "-" → ⊥) where
  values_parts : (ends : ValueEnds) → AreValueEnds ends → text_of_ends (Values ends) ≡ text → (low ≡ text_in ends.form ends.low) × (high ≡ text_in ends.form ends.high)
  values_parts ends h e =
      around (int_eq ends.low ends.high) (text_in ends.form ends.low) (text_in ends.form ends.high) (value_lacks (low_value ends) h.low) (same_values ends) e

  texts_parts : (ends : TextEnds) → text_of_ends (Texts ends) ≡ text → (low ≡ quoted_text ends.low) × (high ≡ quoted_text ends.high)
  texts_parts ends e =
      around (bytes_eq ends.low ends.high) (quoted_text ends.low) (quoted_text ends.high) (quoted_lacks 46 (46 ∷ []) ends.low refl) (same_texts ends) e

  pub have_texts : (ends : ShownEnds) → AreShownEnds ends → text_of_ends ends ≡ text → HaveTexts low high ends
  have_texts (Values ends) h e = let parts = values_parts ends h e in (sym parts.0, sym parts.1)
  have_texts (Texts ends) h e = let parts = texts_parts ends e in (sym parts.0, sym parts.1)
  have_texts NoText h e = absurd (other (sym e))

pub from_texts : (low high rest : List ℕ) (read : Option ShownEnds) → low ≡ codes "'" ++ rest →
    ((ends : TextEnds) → AreTextEnds ends → quoted_text ends.low ≡ low → quoted_text ends.high ≡ high → read ≡ Some (Texts ends)) →
    (ends : ShownEnds) → AreShownEnds ends → HaveTexts low high ends → read ≡ Some ends
from_texts low high rest read quote texts (Values ends) h are = no_quote ends rest h (are.0 ∙ quote)
from_texts low high rest read quote texts (Texts ends) h are = texts ends h are.0 are.1
from_texts low high rest read quote texts NoText h are = absurd are

pub from_values : (low high : List ℕ) (read : Option ShownEnds) → ((rest : List ℕ) → low ≢ codes "'" ++ rest) →
    ((ends : ValueEnds) → AreValueEnds ends → text_in ends.form ends.low ≡ low → text_in ends.form ends.high ≡ high → read ≡ Some (Values ends)) →
    (ends : ShownEnds) → AreShownEnds ends → HaveTexts low high ends → read ≡ Some ends
from_values low high read none values (Values ends) h are = values ends h are.0 are.1
from_values low high read none values (Texts ends) h are = absurd (none (flat_map doubled ends.low ++ codes "'") (sym are.0))
from_values low high read none values NoText h are = absurd are

pub values_are_read : (ends : ValueEnds) (low high : IntervalEnd) → low ≡ low_value ends → high ≡ high_value ends →
    ◌≡◌ {A = ValueEnds} (record { form = low.form; low = low.value; high = high.value }) ends
values_are_read ends low high is_low is_high = rw (is_low, is_high) refl

-- ---- null

abbrev word : List ℕ
word = codes " or null"

pub null_found : (null : Bool) (ends : Option ShownEnds) (text front : List ℕ) (result : Option ShownSpan) → IsShownPart null ends → part_text null ends ≡ text →
    (text ≡ codes "null" → ⊥) → ((first rest : List ℕ) → LacksOutside word false first → first ++ (word ++ rest) ≡ text → front ≡ first) →
    (LacksOutside word false text → ⊥) →
    ((read : ShownEnds) → AreShownEnds read → text_of_ends read ≡ front → result ≡ Some (record { null = true; ends = Some read })) →
    result ≡ Some (record { null = null; ends = ends })
null_found false None text front result h e other parted whole read = absurd h
null_found true None text front result h e other parted whole read = absurd (other (sym e))
null_found false (Some ends) text front result h e other parted whole read = absurd (whole (subst (LacksOutside word false) e (null_lacks ends h)))
null_found true (Some ends) text front result h e other parted whole read = read ends h (sym (parted (text_of_ends ends) [] (null_lacks ends h) e))

pub null_absent : (null : Bool) (ends : Option ShownEnds) (text : List ℕ) (result : Option ShownSpan) → IsShownPart null ends → part_text null ends ≡ text →
    (text ≡ codes "null" → ⊥) → ((first rest : List ℕ) → LacksOutside word false first → first ++ (word ++ rest) ≡ text → ⊥) →
    ((read : ShownEnds) → AreShownEnds read → text_of_ends read ≡ text → result ≡ Some (record { null = false; ends = Some read })) →
    result ≡ Some (record { null = null; ends = ends })
null_absent false None text result h e other parted read = absurd h
null_absent true None text result h e other parted read = absurd (other (sym e))
null_absent false (Some ends) text result h e other parted read = read ends h e
null_absent true (Some ends) text result h e other parted read = absurd (parted (text_of_ends ends) [] (null_lacks ends h) e)

-- ---- column by column

abbrev comma : List ℕ
comma = codes ", "

-- the text has a comma, between these
pub record HasComma (text part next : List ℕ) : Type 0 where
  pub parted : (front rest : List ℕ) → LacksOutside comma false front → front ++ (comma ++ rest) ≡ text → (part ≡ front) × (next ≡ rest)
  pub whole : LacksOutside comma false text → ⊥

pub record IsNextRead (keys read : List ShownSpan) (next : List ℕ) (span : Option ShownSpan) : Type 0 where
  pub first : ShownSpan
  pub is : span ≡ Some first
  pub more : IsReadTo keys (read ++ (first ∷ [])) next

one_further : (keys read xs : List ShownSpan) (x : ShownSpan) → keys ≡ read ++ (x ∷ xs) → keys ≡ (read ++ (x ∷ [])) ++ xs
one_further keys read xs x e = e ∙ sym (append_assoc read (x ∷ []) xs)

next_by : (keys read others : List ShownSpan) (left part next : List ℕ) (span : Option ShownSpan) → keys ≡ read ++ others → 0 < length others → All IsShownSpan others →
    keys_text others ≡ left → HasComma left part next → ((s : ShownSpan) → IsShownSpan s → span_text s ≡ part → span ≡ Some s) → IsNextRead keys read next span
next_by keys read [] left part next span split some each e around reads = absurd (omega (arith, some))
next_by keys read (x ∷ []) left part next span split some each e around reads =
    absurd (around.whole (subst (LacksOutside comma false) (sym (append-nil (span_text x)) ∙ e) (span_lacks x (All-head IsShownSpan x [] each))))
next_by keys read (x ∷ y ∷ ys) left part next span split some each e around reads =
    let shown = All-head IsShownSpan x (y ∷ ys) each in
    let found = around.parted (span_text x) (keys_text (y ∷ ys)) (span_lacks x shown) e in
    record {
      first = x;
      is = reads x shown (sym found.0);
      more = record {
        others = y ∷ ys;
        split = one_further keys read (y ∷ ys) x split;
        some = omega arith;
        each = All-tail IsShownSpan x (y ∷ ys) each;
        text = sym found.1;
      };
    }

pub next_read : (keys read : List ShownSpan) (left part next : List ℕ) (span : Option ShownSpan) → IsReadTo keys read left → HasComma left part next →
    ((s : ShownSpan) → IsShownSpan s → span_text s ≡ part → span ≡ Some s) → IsNextRead keys read next span
next_read keys read left part next span h around reads = next_by keys read h.others left part next span h.split h.some h.each h.text around reads

pub record IsLastRead (keys read : List ShownSpan) (span : Option ShownSpan) : Type 0 where
  pub last : ShownSpan
  pub is : span ≡ Some last
  pub split : keys ≡ read ++ (last ∷ [])

last_by : (keys read others : List ShownSpan) (left : List ℕ) (span : Option ShownSpan) → keys ≡ read ++ others → 0 < length others → All IsShownSpan others →
    keys_text others ≡ left → ((front rest : List ℕ) → LacksOutside comma false front → front ++ (comma ++ rest) ≡ left → ⊥) →
    ((s : ShownSpan) → IsShownSpan s → span_text s ≡ left → span ≡ Some s) → IsLastRead keys read span
last_by keys read [] left span split some each e parted reads = absurd (omega (arith, some))
last_by keys read (x ∷ []) left span split some each e parted reads =
    record { last = x; is = reads x (All-head IsShownSpan x [] each) (sym (append-nil (span_text x)) ∙ e); split = split }
last_by keys read (x ∷ y ∷ ys) left span split some each e parted reads =
    absurd (parted (span_text x) (keys_text (y ∷ ys)) (span_lacks x (All-head IsShownSpan x (y ∷ ys) each)) e)

pub last_read : (keys read : List ShownSpan) (left : List ℕ) (span : Option ShownSpan) → IsReadTo keys read left →
    ((front rest : List ℕ) → LacksOutside comma false front → front ++ (comma ++ rest) ≡ left → ⊥) →
    ((s : ShownSpan) → IsShownSpan s → span_text s ≡ left → span ≡ Some s) → IsLastRead keys read span
last_read keys read left span h parted reads = last_by keys read h.others left span h.split h.some h.each h.text parted reads

-- one column more is written
pub one_more_written : (base old mid new : List ℕ) (span : ShownSpan) (rest : List ShownSpan) → new ≡ mid ++ span_text span → mid ≡ old ++ comma →
    old ++ others_text (span ∷ rest) ≡ base → new ++ others_text rest ≡ base
one_more_written base old mid new span rest n m e =
    rw (n, m, append_assoc (old ++ comma) (span_text span) (others_text rest), append_assoc old comma (span_text span ++ others_text rest)) e

-- the columns that are read, with one more, are shown
pub more_shown : (read : List ShownSpan) (span : ShownSpan) → All IsShownSpan read → IsShownSpan span → All IsShownSpan (read ++ (span ∷ []))
more_shown read span all h = All-append IsShownSpan read (span ∷ []) all (All-cons IsShownSpan span [] h (All-nil IsShownSpan))

pub all_shown : (read : List ShownSpan) (span : ShownSpan) → All IsShownSpan read → IsShownSpan span → AreShownKeys (read ++ (span ∷ []))
all_shown read span all h = record { some = simp length-append (omega arith); each = more_shown read span all h }

-- no comma is found
pub no_comma : (around : Option (Bor (List ℕ) × Bor (List ℕ))) (front rest : List ℕ) → around ≡ None → IsParted front rest around → ⊥
no_comma around front rest none h = subst (λ (x : Option (Bor (List ℕ) × Bor (List ℕ))). IsParted front rest x) none h
