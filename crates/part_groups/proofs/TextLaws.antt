-- The laws of the least and the greatest texts of groups over all parts.
use Rattle.std.proofs.Common.{◌≡◌, ◌∙◌, ℕ, zero, suc, ◌+◌, Bool, true, false, not, List, [], ◌∷◌, ◌++◌, map, is_some, slice_get, refl, arith, sym, ap, subst, inl, inr, if◌then◌else◌, IsTrue, IsFalse, Option, Some, None}
use Rattle.std.specs.List.{flat_map, list_any}
use Rattle.std.specs.Option.{option_map}
use Rattle.std.proofs.lemmas.Bool.{cases_Bool, false≢true, or_cases, or_parts}
use Rattle.std.proofs.lemmas.Option.{none-some}
use Rattle.query_model.specs.declared.query.ItemKind.{ItemKind}
use Rattle.report_text.specs.declared.keys.TextEnds.{TextEnds}
use Rattle.report_text.specs.declared.text_answers.TextAnswer.{TextAnswer}
use Rattle.shard_groups.proofs.Exact.{OneKeyOf, line_of_one, ones_append, same_cell}
use Rattle.shard_groups.proofs.LineSets.{covered_back, covered_front}
use Rattle.shard_groups.proofs.Places.{within_line}
use Rattle.shard_groups.proofs.Spans.{holds_more}
use Rattle.shard_groups.specs.Groups.{keys_in}
use Rattle.shard_groups.specs.Keys.{Key, holds, is_within}
use Rattle.shard_groups.specs.Laws.{AreOneKeys, IsOneOf, is_one_key}
use Rattle.shard_groups.specs.Lines.{AreApart, AreCovered, AreLines}
use Rattle.shard_groups.specs.declared.keys.Span.{Span}
use Rattle.text_extremes.proofs.Joining.{all_append, answers_join, joined_assoc}
use Rattle.text_extremes.proofs.TwoParts.{joined_admits, joined_tells}
use Rattle.text_extremes.specs.Answers.{answer_by, bound_by, bound_told}
use Rattle.text_extremes.specs.Bounds.{Admits, Tells, TextBound, combined, joined}
use Rattle.text_extremes.specs.Laws.{answer_over}
use Rattle.text_extremes.specs.Texts as texts
use Rattle.text_extremes.specs.Texts.{first_of, of_all, of_both}
use Rattle.text_extremes.specs.declared.extreme.Extreme.{Extreme}
use Rattle.part_groups.proofs.Carried.{one_of}
use Rattle.part_groups.proofs.PartKeys.{keys_of_parts}
use Rattle.part_groups.proofs.WholeLaws.{of_line}
use Rattle.part_groups.specs.Laws.{has_key, keys_by}
use Rattle.part_groups.specs.TextLaws.{AreAllTextsToldIn, AreTextsAdmitted, AreTextsCertainIn, AreTextsTold, GroupsContainTexts, GroupsTellTexts, IsTextCertainIn, IsTextToldIn, text_in}
use Rattle.part_groups.specs.Texts.{all_texts, cells_within, extreme_of, or_no_text, tell_texts, text_at, text_by, text_cell, text_cells, texts_from, texts_over, texts_within, told_by, told_to}
use Rattle.part_groups.specs.declared.group.Group.{Group}
use Rattle.part_groups.specs.declared.text_cells.TextCell.{TextCell}

-- ---- one cell

-- what a line tells of several bounds
abbrev pub bound_over : Extreme → List (Option TextAnswer) → Option TextBound
bound_over e answers = combined e (map bound_told answers)

loose_by : (null : Bool) (ends : Option TextEnds) (a : Option (List ℕ)) → Admits (bound_by null ends) a → Admits (bound_by true ends) a
loose_by null None a h = h
loose_by null (Some ends) None h = refl
loose_by null (Some ends) (Some t) h = h

-- what admits a text does so when it is told of keys that may not be the cell's
told_admits : (has_all : Bool) (text : Option TextAnswer) (a : Option (List ℕ)) → Admits (bound_told text) a → Admits (bound_told (told_by has_all text)) a
told_admits has_all None a h = h
told_admits true (Some text) a h = h
told_admits false (Some text) a h = loose_by text.null text.ends a h

none_by : (ends : Option TextEnds) → Admits (bound_by true ends) None
none_by None = tt
none_by (Some ends) = refl

-- and then it admits that there is none
loose_none : (text : Option TextAnswer) → Admits (bound_told (told_by false text)) None
loose_none None = tt
loose_none (Some text) = none_by text.ends

-- a text beside itself, or beside none
first_same : (e : Extreme) (a : Option (List ℕ)) → of_both (first_of e) a a ≡ a
first_same e None = refl
first_same e (Some t) = by (texts.comes_first e t t)
  where
    by : (b : Bool) → Some (if b then t else t) ≡ Some t
    by true = refl
    by false = refl

first_alone : (e : Extreme) (a : Option (List ℕ)) → of_both (first_of e) a None ≡ a
first_alone e None = refl
first_alone e (Some t) = refl

-- ---- the cells of a part

abbrev cells_of : List Group → List TextCell
cells_of groups = map text_cell groups

abbrev bound_within : Extreme → ℕ → List Span → List Group → Option TextBound
bound_within e item line groups = bound_over e (texts_within item line (cells_of groups))

-- with one cell more, where it lies within the line
abbrev with_cell : Extreme → ℕ → List Span → Bool → Group → List Group → Option TextBound
with_cell e item line within group groups =
    bound_over e (map (told_to item line) (if within then text_cell group ∷ cells_within line (cells_of groups) else cells_within line (cells_of groups)))

-- each group that has the key lies within the line
abbrev pub AreWithin : Key → List Span → List Group → Type 0
AreWithin key line [] = Unit {0}
AreWithin key line (group ∷ groups) = (IsTrue (holds (keys_by group) key) → IsTrue (is_within (keys_by group) line)) × AreWithin key line groups

pub are_within : (key : Key) (line : List Span) (lines : List (List Span)) (groups : List Group) → AreApart lines → IsOneOf line lines →
    IsTrue (holds line key) → AreCovered (map keys_by groups) lines → AreWithin key line groups
are_within key line lines [] apart one k covered = tt
are_within key line lines (group ∷ groups) apart one k covered =
    ((λ h. within_line (keys_by group) line lines key apart covered.0 one h k), are_within key line lines groups apart one k covered.1)

-- ---- contains

module _ (e : Extreme) (item : ℕ) (key : Key) (line : List Span) (has_line : IsTrue (holds line key)) where
  -- a group without the key has not all keys of the line
  admits_none_by : (has_all : Bool) (group : Group) → is_within line (keys_by group) ≡ has_all → IsFalse (holds (keys_by group) key) →
      Admits (bound_told (told_by has_all (text_at item group.texts))) None
  admits_none_by true group w f = absurd (false≢true (sym f ∙ holds_more line (keys_by group) key w has_line))
  admits_none_by false group w f = loose_none (text_at item group.texts)

  admits_none : (within : Bool) (group : Group) (groups : List Group) (a : Option (List ℕ)) → IsFalse (holds (keys_by group) key) →
      Admits (bound_within e item line groups) a → Admits (with_cell e item line within group groups) a
  admits_none true group groups a f rest =
      joined_admits e (bound_told (told_by (is_within line (keys_by group)) (text_at item group.texts))) (bound_within e item line groups) None a
      (admits_none_by (is_within line (keys_by group)) group refl f) rest
  admits_none false group groups a f rest = rest

  admits_some : (within : Bool) (group : Group) (groups : List Group) (a b : Option (List ℕ)) → IsTrue within → Admits (text_in item group) a →
      Admits (bound_within e item line groups) b → of_both (first_of e) a b ≡ a → Admits (with_cell e item line within group groups) a
  admits_some true group groups a b w own rest same =
      subst (Admits (with_cell e item line true group groups)) same
      (joined_admits e (bound_told (told_by (is_within line (keys_by group)) (text_at item group.texts))) (bound_within e item line groups) a b
      (told_admits (is_within line (keys_by group)) (text_at item group.texts) a own) rest)
  admits_some false group groups a b w own rest same = absurd (false≢true w)

  none_admitted : (groups : List Group) → IsFalse (has_key key groups) → Admits (bound_within e item line groups) None
  none_admitted [] f = tt
  none_admitted (group ∷ groups) f =
      let parts = or_parts (holds (keys_by group) key) (has_key key groups) f in
      admits_none (is_within (keys_by group) line) group groups None parts.0 (none_admitted groups parts.1)

  some_admitted : (groups : List Group) (given : List (List ℕ)) → AreWithin key line groups → AreTextsAdmitted e item key groups given →
      IsTrue (has_key key groups) → Admits (bound_within e item line groups) (texts.extreme_of e given)
  some_admitted [] given within admitted has = absurd (false≢true has)
  some_admitted (group ∷ groups) given within admitted has =
      let a = texts.extreme_of e given in
      elim (cases_Bool (holds (keys_by group) key)) [
        | inl own ↦ elim (cases_Bool (has_key key groups)) [
          | inl more ↦ admits_some (is_within (keys_by group) line) group groups a a (within.0 own) (admitted.0 own)
              (some_admitted groups given within.1 admitted.1 more) (first_same e a)
          | inr none ↦ admits_some (is_within (keys_by group) line) group groups a None (within.0 own) (admitted.0 own)
              (none_admitted groups none) (first_alone e a)
        ]
        | inr other ↦ admits_none (is_within (keys_by group) line) group groups a other
            (some_admitted groups given within.1 admitted.1 (elim (or_cases (holds (keys_by group) key) (has_key key groups) has) [
              | inl h ↦ absurd (false≢true (sym other ∙ h))
              | inr h ↦ h
            ]))
      ]

  part_admits : (groups : List Group) (given : List (List ℕ)) → AreWithin key line groups → IsTextCertainIn e item key groups given →
      Admits (bound_within e item line groups) (texts.extreme_of e given)
  part_admits groups given within certain =
      elim (cases_Bool (has_key key groups)) [
        | inl h ↦ some_admitted groups given within certain.admits h
        | inr f ↦ subst (λ (ts : List (List ℕ)). Admits (bound_within e item line groups) (texts.extreme_of e ts)) (sym (certain.missing f)) (none_admitted groups f)
      ]

-- ---- all parts

map-append-told : (ones others : List (Option TextAnswer)) → map bound_told (ones ++ others) ≡ map bound_told ones ++ map bound_told others
map-append-told [] others = refl
map-append-told (one ∷ ones) others = ap (λ (bs : List (Option TextBound)). bound_told one ∷ bs) (map-append-told ones others)

-- the bound over all parts is that over the first and that over the others together
pub bound_of_parts : (e : Extreme) (ones others : List (Option TextAnswer)) →
    bound_over e (ones ++ others) ≡ of_both (joined e) (bound_over e ones) (bound_over e others)
bound_of_parts e ones others =
    ap (combined e) (map-append-told ones others) ∙ all_append (joined e) (joined_assoc e) (map bound_told ones) (map bound_told others)

abbrev pub keys_in_parts : List (List Group) → List (List Span)
keys_in_parts parts = flat_map (map keys_by) parts

all_admit : (e : Extreme) (item : ℕ) (key : Key) (line : List Span) (lines : List (List Span)) (parts : List (List Group)) (tables : List (List (List ℕ))) →
    AreApart lines → IsOneOf line lines → IsTrue (holds line key) → AreCovered (keys_in_parts parts) lines → AreTextsCertainIn e item key parts tables →
    Admits (bound_over e (all_texts item line (text_cells parts))) (of_all (first_of e) (map (texts.extreme_of e) tables))
all_admit e item key line lines [] [] apart one k covered h = tt
all_admit e item key line lines [] (given ∷ tables) apart one k covered h = absurd h
all_admit e item key line lines (groups ∷ parts) [] apart one k covered h = absurd h
all_admit e item key line lines (groups ∷ parts) (given ∷ tables) apart one k covered h =
    let within = are_within key line lines groups apart one k (covered_front (map keys_by groups) (keys_in_parts parts) lines covered) in
    let rest = all_admit e item key line lines parts tables apart one k (covered_back (map keys_by groups) (keys_in_parts parts) lines covered) h.1 in
    let own = texts_within item line (cells_of groups) in
    let others = all_texts item line (text_cells parts) in
    subst (λ (b : Option TextBound). Admits b (of_both (first_of e) (texts.extreme_of e given) (of_all (first_of e) (map (texts.extreme_of e) tables))))
    (sym (bound_of_parts e own others))
    (joined_admits e (bound_over e own) (bound_over e others) (texts.extreme_of e given) (of_all (first_of e) (map (texts.extreme_of e) tables))
    (part_admits e item key line k groups given within h.0) rest)

-- ---- what is told of an item

not_not : (b : Bool) → not (not b) ≡ b
not_not true = refl
not_not false = refl

abbrev with_certain : TextBound → Bool → Option TextBound
with_certain bound certain = Some (record { certain = certain; low = bound.low; high = bound.high })

said_back : (bound : Option TextBound) → bound_told (answer_by bound) ≡ bound
said_back None = refl
said_back (Some bound) = ap (with_certain bound) (not_not bound.certain)

text_from : (from n item : ℕ) (kinds : List ItemKind) (kind : ItemKind) (line : List Span) (parts : List (List TextCell)) → item ≡ from + n →
    slice_get kinds n ≡ Some kind → text_at n (texts_from from kinds line parts) ≡ text_by (extreme_of kind) item line parts
text_from from n item [] kind line parts e g = absurd (none-some kind g)
text_from from zero item (k ∷ kinds) kind line parts e g =
    let same : from ≡ item = omega (arith, e) in
    ap (λ (m : ℕ). text_by (extreme_of k) m line parts) same
    ∙ ap (λ (o : Option ItemKind). or_no_text (option_map (λ q. text_by (extreme_of q) item line parts) o)) g
text_from from (suc n) item (k ∷ kinds) kind line parts e g =
    let next : item ≡ from + 1 + n = omega (arith, e) in text_from (from + 1) n item kinds kind line parts next g

-- where none tells a text there is none
no_text : (item : ℕ) (told : List (Option TextAnswer)) → IsFalse (list_any is_some told) → text_at item told ≡ None
no_text item [] f = refl
no_text zero (None ∷ told) f = refl
no_text zero (Some text ∷ told) f = absurd (false≢true (sym f))
no_text (suc item) (text ∷ told) f = no_text item told (or_parts (is_some text) (list_any is_some told) f).1

none_told : (has_all : Bool) (text : Option TextAnswer) → text ≡ None → bound_told (told_by has_all text) ≡ None
none_told has_all None e = refl
none_told has_all (Some text) e = absurd (none-some text (sym e))

none_with : (e : Extreme) (item : ℕ) (line : List Span) (within : Bool) (group : Group) (groups : List Group) → text_at item group.texts ≡ None →
    bound_within e item line groups ≡ None → with_cell e item line within group groups ≡ None
none_with e item line true group groups own rest =
    ap (λ (b : Option TextBound). of_both (joined e) b (bound_within e item line groups))
    (none_told (is_within line (keys_by group)) (text_at item group.texts) own) ∙ rest
none_with e item line false group groups own rest = rest

none_in_part : (e : Extreme) (item : ℕ) (line : List Span) (groups : List Group) →
    IsFalse (list_any (λ (group : Group). list_any is_some group.texts) groups) → bound_within e item line groups ≡ None
none_in_part e item line [] f = refl
none_in_part e item line (group ∷ groups) f =
    let parts = or_parts (list_any is_some group.texts) (list_any (λ (g : Group). list_any is_some g.texts) groups) f in
    none_with e item line (is_within (keys_by group) line) group groups (no_text item group.texts parts.0) (none_in_part e item line groups parts.1)

none_over : (e : Extreme) (item : ℕ) (line : List Span) (parts : List (List Group)) → IsFalse (tell_texts parts) →
    bound_over e (all_texts item line (text_cells parts)) ≡ None
none_over e item line [] f = refl
none_over e item line (groups ∷ parts) f =
    let both = or_parts (list_any (λ (group : Group). list_any is_some group.texts) groups) (tell_texts parts) f in
    bound_of_parts e (texts_within item line (cells_of groups)) (all_texts item line (text_cells parts))
    ∙ ap (λ (b : Option TextBound). of_both (joined e) b (bound_over e (all_texts item line (text_cells parts)))) (none_in_part e item line groups both.0)
    ∙ none_over e item line parts both.1

told_if : (b : Bool) (kinds : List ItemKind) (kind : ItemKind) (e : Extreme) (item : ℕ) (line : List Span) (parts : List (List Group)) → tell_texts parts ≡ b →
    slice_get kinds item ≡ Some kind → extreme_of kind ≡ Some e →
    bound_told (text_at item (texts_over kinds parts line)) ≡ bound_over e (all_texts item line (text_cells parts))
told_if true kinds kind e item line parts tell at asked =
    rw tell
    (ap bound_told (text_from 0 item item kinds kind line (text_cells parts) (omega arith) at
    ∙ ap (λ (x : Option Extreme). text_by x item line (text_cells parts)) asked)
    ∙ said_back (bound_over e (all_texts item line (text_cells parts))))
told_if false kinds kind e item line parts tell at asked = rw tell (sym (none_over e item line parts tell))

-- what a line says of the text of an item
pub text_of_line : (kinds : List ItemKind) (kind : ItemKind) (e : Extreme) (item : ℕ) (line : List Span) (parts : List (List Group)) →
    slice_get kinds item ≡ Some kind → extreme_of kind ≡ Some e →
    bound_told (text_at item (texts_over kinds parts line)) ≡ bound_over e (all_texts item line (text_cells parts))
text_of_line kinds kind e item line parts at asked = told_if (tell_texts parts) kinds kind e item line parts refl at asked

-- where the line of a key has each group of the parts that has it, its text is admitted
pub line_admits : (kinds : List ItemKind) (kind : ItemKind) (e : Extreme) (item : ℕ) (key : Key) (line : List Span) (lines : List (List Span))
    (parts : List (List Group)) (tables : List (List (List ℕ))) → slice_get kinds item ≡ Some kind → extreme_of kind ≡ Some e →
    AreLines (keys_in_parts parts) lines → IsOneOf line lines → IsTrue (holds line key) → AreTextsCertainIn e item key parts tables →
    Admits (bound_told (text_at item (texts_over kinds parts line))) (answer_over e tables)
line_admits kinds kind e item key line lines parts tables at asked are one k h =
    subst (λ (b : Option TextBound). Admits b (answer_over e tables)) (sym (text_of_line kinds kind e item line parts at asked))
    (subst (Admits (bound_over e (all_texts item line (text_cells parts)))) (sym (answers_join e tables))
    (all_admit e item key line lines parts tables are.apart one k are.covered h))

-- a group of the combined report that has the key contains the text of the rows of all parts
pub groups_contain_texts : GroupsContainTexts
groups_contain_texts count kinds parts groups kind e item key tables group are report at asked sure is has =
    let there = of_line count kinds parts groups are report group is in
    let lines = subst (λ (ks : List (List Span)). AreLines ks (keys_in report.lines))
    (keys_of_parts parts report.are_lines.cells report.are_lines.tell) report.are_lines.combined.lines in
    subst (λ (b : Option TextBound). Admits b (answer_over e tables)) (sym (ap (text_in item) there.shown))
    (line_admits kinds kind e item key there.line.keys (keys_in report.lines) parts tables at asked lines
    (one_of report.lines there.line there.is) (sym (there.keys key) ∙ has) sure)

-- ---- exact

told_same : (text : Option TextAnswer) → bound_told (told_by true text) ≡ bound_told text
told_same None = refl
told_same (Some text) = refl

told_tells : (has_all : Bool) (text : Option TextAnswer) (a : Option (List ℕ)) → IsTrue has_all → Tells (bound_told text) a →
    Tells (bound_told (told_by has_all text)) a
told_tells true text a t h = subst (λ (b : Option TextBound). Tells b a) (sym (told_same text)) h
told_tells false text a t h = absurd (false≢true t)

module _ (e : Extreme) (item : ℕ) (key : Key) (line : List Span) (has_line : IsTrue (holds line key)) (one : OneKeyOf line) where
  -- a group of one key within the line has its key
  no_other : (group : Group) → IsTrue (is_one_key (keys_by group)) → IsTrue (is_within (keys_by group) line) → IsFalse (holds (keys_by group) key) → ⊥
  no_other group own w f = false≢true (sym f ∙ holds_more line (keys_by group) key (same_cell line (keys_by group) one own w) has_line)

  tells_none : (within : Bool) (group : Group) (groups : List Group) (a : Option (List ℕ)) → is_within (keys_by group) line ≡ within →
      IsTrue (is_one_key (keys_by group)) → IsFalse (holds (keys_by group) key) → Tells (bound_within e item line groups) a →
      Tells (with_cell e item line within group groups) a
  tells_none true group groups a w own f rest = absurd (no_other group own w f)
  tells_none false group groups a w own f rest = rest

  tells_some : (within : Bool) (group : Group) (groups : List Group) (a b : Option (List ℕ)) → is_within (keys_by group) line ≡ within → IsTrue within →
      IsTrue (is_one_key (keys_by group)) → Tells (text_in item group) a → Tells (bound_within e item line groups) b → of_both (first_of e) a b ≡ a →
      Tells (with_cell e item line within group groups) a
  tells_some true group groups a b w t own told rest same =
      subst (Tells (with_cell e item line true group groups)) same
      (joined_tells e (bound_told (told_by (is_within line (keys_by group)) (text_at item group.texts))) (bound_within e item line groups) a b
      (told_tells (is_within line (keys_by group)) (text_at item group.texts) a (same_cell line (keys_by group) one own w) told) rest)
  tells_some false group groups a b w t own told rest same = absurd (false≢true t)

  none_told_of : (groups : List Group) → AreOneKeys (map keys_by groups) → IsFalse (has_key key groups) → Tells (bound_within e item line groups) None
  none_told_of [] ones f = tt
  none_told_of (group ∷ groups) ones f =
      let parts = or_parts (holds (keys_by group) key) (has_key key groups) f in
      tells_none (is_within (keys_by group) line) group groups None refl ones.0 parts.0 (none_told_of groups ones.1 parts.1)

  some_told_of : (groups : List Group) (given : List (List ℕ)) → AreOneKeys (map keys_by groups) → AreWithin key line groups →
      AreTextsTold e item key groups given → IsTrue (has_key key groups) → Tells (bound_within e item line groups) (texts.extreme_of e given)
  some_told_of [] given ones within told has = absurd (false≢true has)
  some_told_of (group ∷ groups) given ones within told has =
      let a = texts.extreme_of e given in
      elim (cases_Bool (holds (keys_by group) key)) [
        | inl own ↦ elim (cases_Bool (has_key key groups)) [
          | inl more ↦ tells_some (is_within (keys_by group) line) group groups a a refl (within.0 own) ones.0 (told.0 own)
              (some_told_of groups given ones.1 within.1 told.1 more) (first_same e a)
          | inr none ↦ tells_some (is_within (keys_by group) line) group groups a None refl (within.0 own) ones.0 (told.0 own)
              (none_told_of groups ones.1 none) (first_alone e a)
        ]
        | inr other ↦ tells_none (is_within (keys_by group) line) group groups a refl ones.0 other
            (some_told_of groups given ones.1 within.1 told.1 (elim (or_cases (holds (keys_by group) key) (has_key key groups) has) [
              | inl h ↦ absurd (false≢true (sym other ∙ h))
              | inr h ↦ h
            ]))
      ]

  part_tells : (groups : List Group) (given : List (List ℕ)) → AreWithin key line groups → IsTextToldIn e item key groups given →
      Tells (bound_within e item line groups) (texts.extreme_of e given)
  part_tells groups given within told =
      elim (cases_Bool (has_key key groups)) [
        | inl h ↦ some_told_of groups given told.one_keys within told.told h
        | inr f ↦ subst (λ (ts : List (List ℕ)). Tells (bound_within e item line groups) (texts.extreme_of e ts)) (sym (told.missing f))
            (none_told_of groups told.one_keys f)
      ]

all_ones : (e : Extreme) (item : ℕ) (key : Key) (parts : List (List Group)) (tables : List (List (List ℕ))) → AreAllTextsToldIn e item key parts tables →
    AreOneKeys (keys_in_parts parts)
all_ones e item key [] tables h = tt
all_ones e item key (groups ∷ parts) [] h = absurd h
all_ones e item key (groups ∷ parts) (given ∷ tables) h =
    ones_append (map keys_by groups) (keys_in_parts parts) h.0.one_keys (all_ones e item key parts tables h.1)

all_tell : (e : Extreme) (item : ℕ) (key : Key) (line : List Span) (lines : List (List Span)) (parts : List (List Group)) (tables : List (List (List ℕ))) →
    AreApart lines → IsOneOf line lines → IsTrue (holds line key) → OneKeyOf line → AreCovered (keys_in_parts parts) lines →
    AreAllTextsToldIn e item key parts tables →
    Tells (bound_over e (all_texts item line (text_cells parts))) (of_all (first_of e) (map (texts.extreme_of e) tables))
all_tell e item key line lines [] [] apart one k own covered h = tt
all_tell e item key line lines [] (given ∷ tables) apart one k own covered h = absurd h
all_tell e item key line lines (groups ∷ parts) [] apart one k own covered h = absurd h
all_tell e item key line lines (groups ∷ parts) (given ∷ tables) apart one k own covered h =
    let within = are_within key line lines groups apart one k (covered_front (map keys_by groups) (keys_in_parts parts) lines covered) in
    let rest = all_tell e item key line lines parts tables apart one k own (covered_back (map keys_by groups) (keys_in_parts parts) lines covered) h.1 in
    let told = texts_within item line (cells_of groups) in
    let others = all_texts item line (text_cells parts) in
    subst (λ (b : Option TextBound). Tells b (of_both (first_of e) (texts.extreme_of e given) (of_all (first_of e) (map (texts.extreme_of e) tables))))
    (sym (bound_of_parts e told others))
    (joined_tells e (bound_over e told) (bound_over e others) (texts.extreme_of e given) (of_all (first_of e) (map (texts.extreme_of e) tables))
    (part_tells e item key line k own groups given within h.0) rest)

-- where each part is exact at the key, so is the group that has it
pub groups_tell_texts : GroupsTellTexts
groups_tell_texts count kinds parts groups kind e item key tables group are report at asked sure is has =
    let there = of_line count kinds parts groups are report group is in
    let line = there.line.keys in
    let shown = keys_in report.lines in
    let lines = subst (λ (ks : List (List Span)). AreLines ks shown) (keys_of_parts parts report.are_lines.cells report.are_lines.tell)
    report.are_lines.combined.lines in
    let one = one_of report.lines there.line there.is in
    let own = line_of_one (keys_in_parts parts) shown line lines one (all_ones e item key parts tables sure) in
    subst (λ (b : Option TextBound). Tells b (answer_over e tables))
    (sym (ap (text_in item) there.shown ∙ text_of_line kinds kind e item line parts at asked))
    (subst (Tells (bound_over e (all_texts item line (text_cells parts)))) (sym (answers_join e tables))
    (all_tell e item key line shown parts tables lines.apart one (sym (there.keys key) ∙ has) own lines.covered sure))
