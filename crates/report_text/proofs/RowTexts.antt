-- What is read from the lines of rows.
use Rattle.std.proofs.Common.{◌≡◌, ℕ, ◌<◌, ◌==◌, ◌^◌, Bool, true, false, List, [], ◌∷◌, ◌++◌, codes, decimal, length, Option, Some, None, refl, sym, ap, subst, ◌∙◌, arith, append_assoc}
use Rattle.std.proofs.lemmas.Fmt.{decimal_is_IsNumeral_wide}
use Rattle.std.proofs.lemmas.List.{append_cancel_left}
use Rattle.report_text.proofs.DigitTexts.{other_byte}
use Rattle.report_text.proofs.KeyIntervals.{interval_lacks}
use Rattle.report_text.proofs.LastOutside.{found_before, last_found, none_last}
use Rattle.report_text.proofs.NumberTexts.{digits_fail}
use Rattle.report_text.proofs.Outside.{fails_lacks, lacks-append}
use Rattle.report_text.specs.Intervals.{key_interval}
use Rattle.report_text.specs.Keys.{IsShownSpan}
use Rattle.report_text.specs.Quotes.{LacksOutside, last_outside}
use Rattle.report_text.specs.Rows.{IsRowTag, IsShownRow, name_by, name_text, row_line, standing_word}
use Rattle.report_text.specs.declared.keys.ShownSpan.{ShownSpan}
use Rattle.report_text.specs.declared.rows.RowLine.{RowLine}
use Rattle.report_text.specs.declared.rows.RowName.{RowName}
use Rattle.report_text.specs.declared.rows.TopLine.{TopLine}

-- ---- numbers

-- no word that begins with a space stands in a number
pub number_lacks : (ws : List ℕ) (n : ℕ) → n < 2 ^ 64 → LacksOutside (32 ∷ ws) false (decimal n)
number_lacks ws n few =
    let digits = (decimal_is_IsNumeral_wide n (omega (arith, few))).0.1 in
    fails_lacks 32 ws (decimal n) (digits_fail (λ c. c == 39) (λ c k. other_byte c 39 k (omega arith)) (decimal n) digits)
    (digits_fail (λ c. c == 32) (λ c k. other_byte c 32 k (omega arith)) (decimal n) digits)

-- ---- names

-- no tag is found: there is none
pub untagged : (tag : Option (List ℕ)) (number : ℕ) (text : List ℕ) (read : Option RowName) → IsRowTag tag → number < 2 ^ 64 → name_by tag number ≡ text →
    ((front rest : List ℕ) → LacksOutside (codes " ") false rest → front ++ (codes " " ++ rest) ≡ text → ⊥) →
    ((count : ℕ) → count < 2 ^ 64 → decimal count ≡ text → read ≡ Some (record { tag = None; number = count })) →
    read ≡ Some (record { tag = tag; number = number })
untagged None number text read h few e parted reads = reads number few e
untagged (Some tag) number text read h few e parted reads = absurd (parted tag (decimal number) (number_lacks [] number few) e)

-- one is found: it is this one
pub tagged : (tag : Option (List ℕ)) (number : ℕ) (text found rest : List ℕ) (read : Option RowName) → IsRowTag tag → number < 2 ^ 64 → name_by tag number ≡ text →
    ((front behind : List ℕ) → LacksOutside (codes " ") false behind → front ++ (codes " " ++ behind) ≡ text → (found ≡ front) × (rest ≡ behind)) →
    (LacksOutside (codes " ") false text → ⊥) →
    ((count : ℕ) → count < 2 ^ 64 → decimal count ≡ rest → read ≡ Some (record { tag = Some found; number = count })) →
    read ≡ Some (record { tag = tag; number = number })
tagged None number text found rest read h few e parted whole reads = absurd (whole (subst (LacksOutside (codes " ") false) e (number_lacks [] number few)))
tagged (Some tag) number text found rest read h few e parted whole reads =
    let parts = parted tag (decimal number) (number_lacks [] number few) e in
    reads number few (sym parts.1) ∙ ap (λ (t : List ℕ). Some (record { tag = Some t; number = number })) parts.0

-- and it has a byte
pub no_empty_tag : (tag : Option (List ℕ)) (number : ℕ) (text found rest : List ℕ) → IsRowTag tag → number < 2 ^ 64 → name_by tag number ≡ text → length found < 1 →
    ((front behind : List ℕ) → LacksOutside (codes " ") false behind → front ++ (codes " " ++ behind) ≡ text → (found ≡ front) × (rest ≡ behind)) →
    (LacksOutside (codes " ") false text → ⊥) → ⊥
no_empty_tag None number text found rest h few e none parted whole = whole (subst (LacksOutside (codes " ") false) e (number_lacks [] number few))
no_empty_tag (Some tag) number text found rest h few e none parted whole =
    let parts = parted tag (decimal number) (number_lacks [] number few) e in
    let same : length found ≡ length tag = ap length parts.0 in
    omega (arith, h, none, same)

-- ---- numbers of rows

pub top_is : (limit certain possible : ℕ) (top : TopLine) → limit ≡ top.limit → certain ≡ top.certain → possible ≡ top.possible →
    ◌≡◌ {A = TopLine} (record { limit = limit; certain = certain; possible = possible }) top
top_is limit certain possible top l c p =
    ap (λ (n : ℕ). record { limit = n; certain = certain; possible = possible }) l ∙ ap (λ (n : ℕ). record { limit = top.limit; certain = n; possible = possible }) c
    ∙ ap (λ (n : ℕ). record { limit = top.limit; certain = top.certain; possible = n }) p

-- what stands behind the first number
abbrev pub others_text : TopLine → List ℕ
others_text top = decimal top.certain ++ (codes " possible " ++ decimal top.possible)

-- ---- standings

-- the word of a standing does not stand in where a key lies
pub standing_lacks : (certain : Bool) (span : ShownSpan) → IsShownSpan span → LacksOutside (standing_word certain) false (key_interval span)
standing_lacks true span h =
    interval_lacks 99 (codes "ertain ") refl refl
    (refl, (refl, (refl, (refl, (refl, (refl, (refl, (refl, (refl, (refl, (refl, (refl, tt)))))))))))) span h
standing_lacks false span h =
    interval_lacks 112 (codes "ossible ") refl refl
    (refl, (refl, (refl, (refl, (refl, (refl, (refl, (refl, (refl, (refl, (refl, (refl, tt)))))))))))) span h

pub certain_lacks : (key : List ℕ) → LacksOutside (codes "certain ") false key → LacksOutside (codes "certain ") false (codes "ertain " ++ key)
certain_lacks key h =
    lacks-append (codes "certain ") (codes "ertain ") key false
    (fails_lacks 99 (codes "ertain ") (codes "ertain ") (refl, (refl, (refl, (refl, (refl, (refl, (refl, tt))))))) (refl, (refl, (refl, (refl, (refl, (refl, (refl, tt)))))))) h

pub possible_lacks : (key : List ℕ) → LacksOutside (codes "possible ") false key → LacksOutside (codes "possible ") false (codes "ossible " ++ key)
possible_lacks key h =
    lacks-append (codes "possible ") (codes "ossible ") key false
    (fails_lacks 112 (codes "ossible ") (codes "ossible ") (refl, (refl, (refl, (refl, (refl, (refl, (refl, (refl, tt)))))))) (refl, (refl, (refl, (refl, (refl, (refl, (refl, (refl, tt))))))))) h

-- ---- one standing

-- the texts before the words are no shorter than one another
module _ (front back key last : List ℕ) (same : front ++ (codes "certain " ++ key) ≡ back ++ (codes "possible " ++ last)) where
  certain_first : LacksOutside (codes "certain ") false key → LacksOutside (codes "certain ") false last → length front < length back
  certain_first h k =
      let none : LacksOutside (codes "certain ") false (codes "possible " ++ last) =
      lacks-append (codes "certain ") (codes "possible ") last false
      (fails_lacks 99 (codes "ertain ") (codes "possible ") (refl, (refl, (refl, (refl, (refl, (refl, (refl, (refl, (refl, tt))))))))) (refl, (refl, (refl, (refl, (refl, (refl, (refl, (refl, (refl, tt)))))))))) k in
      found_before (codes "certain ") back (codes "possible " ++ last) (length front) (none_last (codes "certain ") (codes "possible " ++ last) false none)
      (ap (last_outside (codes "certain ")) (sym same) ∙ last_found (codes "certain ") front key refl (certain_lacks key h))

  possible_first : LacksOutside (codes "possible ") false key → LacksOutside (codes "possible ") false last → length back < length front
  possible_first h k =
      let none : LacksOutside (codes "possible ") false (codes "certain " ++ key) =
      lacks-append (codes "possible ") (codes "certain ") key false
      (fails_lacks 112 (codes "ossible ") (codes "certain ") (refl, (refl, (refl, (refl, (refl, (refl, (refl, (refl, tt)))))))) (refl, (refl, (refl, (refl, (refl, (refl, (refl, (refl, tt))))))))) h in
      found_before (codes "possible ") front (codes "certain " ++ key) (length back) (none_last (codes "possible ") (codes "certain " ++ key) false none)
      (ap (last_outside (codes "possible ")) same ∙ last_found (codes "possible ") back last refl (possible_lacks last k))

standings_apart : (m n : RowName) (s t : ShownSpan) → IsShownSpan s → IsShownSpan t →
    codes "row " ++ (name_text m ++ (codes " " ++ (codes "certain " ++ key_interval s))) ≡ codes "row " ++ (name_text n ++ (codes " " ++ (codes "possible " ++ key_interval t))) → ⊥
standings_apart m n s t h k e =
    let rest = append_cancel_left (codes "row ") (name_text m ++ (codes " " ++ (codes "certain " ++ key_interval s))) (name_text n ++ (codes " " ++ (codes "possible " ++ key_interval t))) e in
    let same = append_assoc (name_text m) (codes " ") (codes "certain " ++ key_interval s) ∙ rest ∙ sym (append_assoc (name_text n) (codes " ") (codes "possible " ++ key_interval t)) in
    let before = certain_first (name_text m ++ codes " ") (name_text n ++ codes " ") (key_interval s) (key_interval t) same (standing_lacks true s h) (standing_lacks true t k) in
    let behind = possible_first (name_text m ++ codes " ") (name_text n ++ codes " ") (key_interval s) (key_interval t) same (standing_lacks false s h) (standing_lacks false t k) in
    omega (arith, before, behind)

-- a line says one standing
pub one_standing : (a b : RowLine) → IsShownRow a → IsShownRow b → a.certain ≡ true → b.certain ≡ false → row_line a ≡ row_line b → ⊥
one_standing a b h k is_certain is_not e = standings_apart a.name b.name a.key b.key h.key k.key (rw (is_certain, is_not) at e)

-- ---- the row

-- what stands behind the first word, with the name and the space together
pub behind_row : (name key word line rest : List ℕ) → codes "row " ++ (name ++ (codes " " ++ (word ++ key))) ≡ line → line ≡ codes "row " ++ rest →
    (name ++ codes " ") ++ (word ++ key) ≡ rest
behind_row name key word line rest e is =
    append_assoc name (codes " ") (word ++ key) ∙ append_cancel_left (codes "row ") (name ++ (codes " " ++ (word ++ key))) rest (e ∙ is)

pub row_is : (row : RowLine) (certain : Bool) → row.certain ≡ certain → ◌≡◌ {A = RowLine} (record { name = row.name; certain = certain; key = row.key }) row
row_is row certain is = ap (λ (c : Bool). record { name = row.name; certain = c; key = row.key }) (sym is)

-- a line that is read as one of a certain row is of no other
pub same_row : (certain : Bool) (row read : RowLine) → IsShownRow row → IsShownRow read → row.certain ≡ certain → read.certain ≡ true → row_line row ≡ row_line read →
    (row.certain ≡ true → ◌≡◌ {A = Option RowLine} (Some read) (Some row)) → ◌≡◌ {A = Option RowLine} (Some read) (Some row)
same_row true row read h k is certain e reads = reads is
same_row false row read h k is certain e reads = absurd (one_standing read row k h certain is (sym e))
