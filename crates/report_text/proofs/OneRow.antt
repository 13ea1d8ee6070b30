-- That the lines of first rows say one thing.
use Rattle.std.proofs.Common.{◌≡◌, ◌≢◌, ℕ, ◌<◌, ◌^◌, Bool, true, false, List, [], ◌++◌, codes, decimal, length, take, drop, Option, Some, None, refl, sym, ap, ◌∙◌, arith, append_assoc}
use Rattle.std.proofs.lemmas.Fmt.{decimal_injective}
use Rattle.std.proofs.lemmas.List.{append-nil, append_cancel_left, append_cancel_right, take_at}
use Rattle.std.proofs.lemmas.Option.{none-some, same_Some}
use Rattle.std.specs.Ordering.{int_eq}
use Rattle.std.specs.Str.{bytes_eq}
use Rattle.daq_table.specs.ValueTexts.{quoted_text}
use Rattle.report_text.proofs.EndTexts.{end_one}
use Rattle.report_text.proofs.KeyIntervals.{comma, dash_only, no_bracket, no_null, no_quoted_bracket, not_null, text_comma, value_comma, word}
use Rattle.report_text.proofs.KeyTexts.{high_value, low_value, no_quote}
use Rattle.report_text.proofs.LastOutside.{last_found, none_last}
use Rattle.report_text.proofs.OneGroup.{same_texts, same_values, texts_are, values_are}
use Rattle.report_text.proofs.Outside.{parted_one, quoted_one}
use Rattle.report_text.proofs.RowTexts.{certain_lacks, number_lacks, one_standing, others_text, possible_lacks, standing_lacks, top_is}
use Rattle.report_text.specs.Forms.{text_in}
use Rattle.report_text.specs.Intervals.{ends_between, interval_by, key_interval}
use Rattle.report_text.specs.Keys.{AreShownEnds, AreValueEnds, IsShownPart, IsShownSpan}
use Rattle.report_text.specs.Quotes.{IsWord, LacksOutside, last_outside}
use Rattle.report_text.specs.Rows.{IsRowName, IsShownRow, RowsSayOne, TopsSayOne, name_by, name_text, row_line}
use Rattle.report_text.specs.Words.{ends_text}
use Rattle.report_text.specs.declared.keys.ShownEnds.{ShownEnds}
use Rattle.report_text.specs.declared.keys.ShownEnds.TheVariants.{NoText, Texts, Values}
use Rattle.report_text.specs.declared.keys.ShownSpan.{ShownSpan}
use Rattle.report_text.specs.declared.keys.TextEnds.{TextEnds}
use Rattle.report_text.specs.declared.keys.ValueEnds.{ValueEnds}
use Rattle.report_text.specs.declared.rows.RowLine.{RowLine}
use Rattle.report_text.specs.declared.rows.RowName.{RowName}

-- ---- values

module _ (a b c d : List ℕ) (h : LacksOutside comma false a) (k : LacksOutside comma false c) (none : (rest : List ℕ) → a ≢ codes "[" ++ rest)
    (other : (rest : List ℕ) → c ≢ codes "[" ++ rest) where
  between_one : (p q : Bool) → (p ≡ true → a ≡ b) → (q ≡ true → c ≡ d) → ends_text p a b ≡ ends_text q c d → (a ≡ c) × (b ≡ d)
  between_one true true one two e = (e, sym (one refl) ∙ e ∙ two refl)
  between_one true false one two e = absurd (none (c ++ (comma ++ (d ++ codes "]"))) e)
  between_one false true one two e = absurd (other (a ++ (comma ++ (b ++ codes "]"))) (sym e))
  between_one false false one two e =
      let inner = append_cancel_left (codes "[") (a ++ (comma ++ (b ++ codes "]"))) (c ++ (comma ++ (d ++ codes "]"))) e in
      let parts = parted_one comma a c (b ++ codes "]") (d ++ codes "]") (omega arith) h k inner in
      (parts.0, append_cancel_right b d (codes "]") parts.1)

values_one : (a b : ValueEnds) → AreValueEnds a → AreValueEnds b → ends_between (Values a) ≡ ends_between (Values b) → a ≡ b
values_one a b h k e =
    let both = between_one (text_in a.form a.low) (text_in a.form a.high) (text_in b.form b.low) (text_in b.form b.high) (value_comma (low_value a) h.low) (value_comma (low_value b) k.low)
    (λ rest. no_bracket (low_value a) rest h.low) (λ rest. no_bracket (low_value b) rest k.low) (int_eq a.low a.high) (int_eq b.low b.high) (same_values a) (same_values b) e in
    values_are a b (end_one (low_value a) (low_value b) h.low k.low both.0) (end_one (high_value a) (high_value b) h.high k.high both.1)

texts_one : (a b : TextEnds) → ends_between (Texts a) ≡ ends_between (Texts b) → a ≡ b
texts_one a b e =
    let both = between_one (quoted_text a.low) (quoted_text a.high) (quoted_text b.low) (quoted_text b.high) (text_comma a.low) (text_comma b.low)
    (λ rest. no_quoted_bracket a.low rest) (λ rest. no_quoted_bracket b.low rest) (bytes_eq a.low a.high) (bytes_eq b.low b.high) (same_texts a) (same_texts b) e in
    texts_are a b (quoted_one a.low b.low both.0) (quoted_one a.high b.high both.1)

no_texts : (a : ValueEnds) (b : TextEnds) → AreValueEnds a → ends_between (Values a) ≡ ends_between (Texts b) → ⊥
no_texts a b h e =
    let both = between_one (text_in a.form a.low) (text_in a.form a.high) (quoted_text b.low) (quoted_text b.high) (value_comma (low_value a) h.low) (text_comma b.low)
    (λ rest. no_bracket (low_value a) rest h.low) (λ rest. no_quoted_bracket b.low rest) (int_eq a.low a.high) (bytes_eq b.low b.high) (same_values a) (same_texts b) e in
    no_quote a _ h both.0

ends_one : (a b : ShownEnds) → AreShownEnds a → AreShownEnds b → ends_between a ≡ ends_between b → a ≡ b
ends_one (Values a) (Values b) h k e = ap (λ (x : ValueEnds). Values x) (values_one a b h k e)
ends_one (Texts a) (Texts b) h k e = ap (λ (x : TextEnds). Texts x) (texts_one a b e)
ends_one (Values a) (Texts b) h k e = absurd (no_texts a b h e)
ends_one (Texts a) (Values b) h k e = absurd (no_texts b a k (sym e))
ends_one NoText b h k e = dash_only b k (sym e)
ends_one (Values a) NoText h k e = sym (dash_only (Values a) h e)
ends_one (Texts a) NoText h k e = sym (dash_only (Texts a) h e)

-- ---- where a key lies

part_one : (n m : Bool) (a b : Option ShownEnds) → IsShownPart n a → IsShownPart m b → interval_by n a ≡ interval_by m b → (n ≡ m) × (a ≡ b)
part_one false m None b h k e = absurd h
part_one n false a None h k e = absurd k
part_one true true None None h k e = (refl, refl)
part_one true false None (Some b) h k e = absurd (not_null b [] k (append-nil (ends_between b) ∙ sym e))
part_one true true None (Some b) h k e = absurd (not_null b word k (sym e))
part_one false true (Some a) None h k e = absurd (not_null a [] h (append-nil (ends_between a) ∙ e))
part_one true true (Some a) None h k e = absurd (not_null a word h e)
part_one false false (Some a) (Some b) h k e = (refl, ap (λ (x : ShownEnds). Some x) (ends_one a b h k e))
part_one true true (Some a) (Some b) h k e =
    (refl, ap (λ (x : ShownEnds). Some x) (ends_one a b h k (append_cancel_right (ends_between a) (ends_between b) word e)))
part_one true false (Some a) (Some b) h k e = absurd (no_null b (ends_between a) k (sym e))
part_one false true (Some a) (Some b) h k e = absurd (no_null a (ends_between b) h e)

pub interval_one : (a b : ShownSpan) → IsShownSpan a → IsShownSpan b → key_interval a ≡ key_interval b → a ≡ b
interval_one a b h k e =
    let same = part_one a.null b.null a.ends b.ends h k e in
    ap (λ (x : Bool). record { null = x; ends = a.ends }) same.0 ∙ ap (λ (x : Option ShownEnds). record { null = b.null; ends = x }) same.1

-- ---- names

-- a text is parted in one way by its last word
last_parted : (word a b r s : List ℕ) → IsWord word → LacksOutside word false (drop 1 word ++ r) → LacksOutside word false (drop 1 word ++ s) →
    a ++ (word ++ r) ≡ b ++ (word ++ s) → (a ≡ b) × (r ≡ s)
last_parted word a b r s is h k e =
    let same : length a ≡ length b =
    same_Some (length a) (length b) (sym (last_found word a r is h) ∙ ap (last_outside word) e ∙ last_found word b s is k) in
    let front : a ≡ b = sym (take_at a (word ++ r) (length b) same) ∙ ap (λ (t : List ℕ). take (length b) t) e ∙ take_at b (word ++ s) (length b) refl in
    (front, append_cancel_left word r s (append_cancel_left b (word ++ r) (word ++ s) (rw front at e)))

no_tag : (tag : List ℕ) (m n : ℕ) → m < 2 ^ 64 → n < 2 ^ 64 → tag ++ (codes " " ++ decimal m) ≡ decimal n → ⊥
no_tag tag m n few small e =
    none-some (length tag) (sym (none_last (codes " ") (decimal n) false (number_lacks [] n small)) ∙ ap (last_outside (codes " ")) (sym e)
    ∙ last_found (codes " ") tag (decimal m) refl (number_lacks [] m few))

by_tag : (s t : Option (List ℕ)) (m n : ℕ) → m < 2 ^ 64 → n < 2 ^ 64 → name_by s m ≡ name_by t n → (s ≡ t) × (m ≡ n)
by_tag None None m n few small e = (refl, decimal_injective m n few small e)
by_tag None (Some t) m n few small e = absurd (no_tag t n m small few (sym e))
by_tag (Some s) None m n few small e = absurd (no_tag s m n few small e)
by_tag (Some s) (Some t) m n few small e =
    let parts = last_parted (codes " ") s t (decimal m) (decimal n) refl (number_lacks [] m few) (number_lacks [] n small) e in
    (ap (λ (x : List ℕ). Some x) parts.0, decimal_injective m n few small parts.1)

name_one : (a b : RowName) → IsRowName a → IsRowName b → name_text a ≡ name_text b → a ≡ b
name_one a b h k e =
    let same = by_tag a.tag b.tag a.number b.number h.number k.number e in
    ap (λ (t : Option (List ℕ)). record { tag = t; number = a.number }) same.0 ∙ ap (λ (n : ℕ). record { tag = b.tag; number = n }) same.1

-- ---- rows

module _ (m n : RowName) (s t : ShownSpan) (named : IsRowName m) (called : IsRowName n) (h : IsShownSpan s) (k : IsShownSpan t) where
  by_word : (word : List ℕ) → IsWord word → LacksOutside word false (drop 1 word ++ key_interval s) → LacksOutside word false (drop 1 word ++ key_interval t) →
      codes "row " ++ (name_text m ++ (codes " " ++ (word ++ key_interval s))) ≡ codes "row " ++ (name_text n ++ (codes " " ++ (word ++ key_interval t))) → (m ≡ n) × (s ≡ t)
  by_word word is lacks lack e =
      let rest = append_cancel_left (codes "row ") (name_text m ++ (codes " " ++ (word ++ key_interval s))) (name_text n ++ (codes " " ++ (word ++ key_interval t))) e in
      let parts = last_parted word (name_text m ++ codes " ") (name_text n ++ codes " ") (key_interval s) (key_interval t) is lacks lack
      (append_assoc (name_text m) (codes " ") (word ++ key_interval s) ∙ rest ∙ sym (append_assoc (name_text n) (codes " ") (word ++ key_interval t))) in
      (name_one m n named called (append_cancel_right (name_text m) (name_text n) (codes " ") parts.0), interval_one s t h k parts.1)

row_same : (a b : RowLine) → a.name ≡ b.name → a.certain ≡ b.certain → a.key ≡ b.key → a ≡ b
row_same a b name certain key =
    ap (λ (x : RowName). record { name = x; certain = a.certain; key = a.key }) name
    ∙ ap (λ (x : Bool). record { name = b.name; certain = x; key = a.key }) certain
    ∙ ap (λ (x : ShownSpan). record { name = b.name; certain = b.certain; key = x }) key

by_standing : (p q : Bool) (a b : RowLine) → IsShownRow a → IsShownRow b → a.certain ≡ p → b.certain ≡ q → row_line a ≡ row_line b → a ≡ b
by_standing true false a b h k is also e = absurd (one_standing a b h k is also e)
by_standing false true a b h k is also e = absurd (one_standing b a k h also is (sym e))
by_standing true true a b h k is also e =
    let same = by_word a.name b.name a.key b.key h.name k.name h.key k.key (codes "certain ") refl (certain_lacks (key_interval a.key) (standing_lacks true a.key h.key))
    (certain_lacks (key_interval b.key) (standing_lacks true b.key k.key)) (rw (is, also) at e) in
    row_same a b same.0 (is ∙ sym also) same.1
by_standing false false a b h k is also e =
    let same = by_word a.name b.name a.key b.key h.name k.name h.key k.key (codes "possible ") refl (possible_lacks (key_interval a.key) (standing_lacks false a.key h.key))
    (possible_lacks (key_interval b.key) (standing_lacks false b.key k.key)) (rw (is, also) at e) in
    row_same a b same.0 (is ∙ sym also) same.1

pub rows_say_one : RowsSayOne
rows_say_one a b h k e = by_standing a.certain b.certain a b h k refl refl e

-- ---- numbers of rows

pub tops_say_one : TopsSayOne
tops_say_one a b h k e =
    let rest = append_cancel_left (codes "top ") (decimal a.limit ++ (codes " certain " ++ others_text a)) (decimal b.limit ++ (codes " certain " ++ others_text b)) e in
    let first = parted_one (codes " certain ") (decimal a.limit) (decimal b.limit) (others_text a) (others_text b) (omega arith)
    (number_lacks (codes "certain ") a.limit h.limit) (number_lacks (codes "certain ") b.limit k.limit) rest in
    let next = parted_one (codes " possible ") (decimal a.certain) (decimal b.certain) (decimal a.possible) (decimal b.possible) (omega arith)
    (number_lacks (codes "possible ") a.certain h.certain) (number_lacks (codes "possible ") b.certain k.certain) first.1 in
    top_is a.limit a.certain a.possible b (decimal_injective a.limit b.limit h.limit k.limit first.0)
    (decimal_injective a.certain b.certain h.certain k.certain next.0) (decimal_injective a.possible b.possible h.possible k.possible next.1)
