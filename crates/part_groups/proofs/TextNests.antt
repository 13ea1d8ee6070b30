-- With later reports of the parts the text of a key lies within the one before.
use Rattle.std.proofs.Common.{◌≡◌, ◌∙◌, ℕ, ◌+◌, Bool, true, false, List, [], ◌∷◌, ◌++◌, map, refl, sym, ap, subst, inl, inr, if◌then◌else◌, IsTrue, Option, Some, None, ◌⊎◌}
use Rattle.std.proofs.lemmas.Bool.{false≢true}
use Rattle.report_text.specs.declared.keys.TextEnds.{TextEnds}
use Rattle.report_text.specs.declared.text_answers.TextAnswer.{TextAnswer}
use Rattle.shard_groups.proofs.Later.{line_within, meets_line, meets_within, one_covered}
use Rattle.shard_groups.proofs.LineSets.{covered_append, covered_back, covered_front, covered_within}
use Rattle.shard_groups.proofs.Places.{within_line}
use Rattle.shard_groups.proofs.Spans.{holds_more, meets_more, within_chain}
use Rattle.shard_groups.specs.Keys.{Key, holds, is_within, meets}
use Rattle.shard_groups.specs.Laws.{IsOneOf}
use Rattle.shard_groups.specs.Lines.{AreApart, AreCovered, AreLines, IsCovered}
use Rattle.shard_groups.specs.Groups.{keys_in}
use Rattle.shard_groups.specs.declared.keys.Span.{Span}
use Rattle.text_extremes.proofs.Sets.{AreFrom, AreKept, IsThere, all_nest, loose}
use Rattle.text_extremes.proofs.TwoParts.{joined_nests}
use Rattle.text_extremes.specs.Answers.{bound_by, bound_told}
use Rattle.text_extremes.specs.Bounds.{IsNested, TextBound, combined, joined}
use Rattle.text_extremes.specs.Texts.{of_both}
use Rattle.text_extremes.specs.declared.extreme.Extreme.{Extreme}
use Rattle.part_groups.proofs.Carried.{one_of}
use Rattle.part_groups.proofs.PartKeys.{keys_of_parts}
use Rattle.part_groups.proofs.TextLaws.{bound_of_parts, bound_over, keys_in_parts, text_of_line}
use Rattle.part_groups.proofs.WholeLaws.{of_line}
use Rattle.part_groups.specs.Laws.{keys_by}
use Rattle.part_groups.specs.TextLaws.{AreLaterTexts, AreTextsFrom, GroupsNestTexts, AreTextsKept, HasTextAgain, HaveSome, IsLaterText, IsTextFrom, text_in}
use Rattle.part_groups.specs.Texts.{all_texts, cells_within, text_at, text_cell, text_cells, texts_within, told_by, told_to}
use Rattle.part_groups.specs.declared.group.Group.{Group}

-- ---- the cells of a part, before and now

told_same : (text : Option TextAnswer) → bound_told (told_by true text) ≡ bound_told text
told_same None = refl
told_same (Some text) = refl

loose_none_by : (ends : Option TextEnds) → IsNested (bound_by true ends) None
loose_none_by None = tt
loose_none_by (Some ends) = refl

loose_none_nested : (text : Option TextAnswer) → IsNested (bound_told (told_by false text)) None
loose_none_nested None = tt
loose_none_nested (Some text) = loose_none_by text.ends

-- L was the line of the key, and l is its line now, which lies within L
module _ (item : ℕ) (key : Key) (L l : List Span) (has_line : IsTrue (holds l key)) (inside : IsTrue (is_within l L)) where
  abbrev told_before : List Group → List (Option TextBound)
  told_before olds = map bound_told (texts_within item L (map text_cell olds))

  abbrev told_now : List Group → List (Option TextBound)
  told_now groups = map bound_told (texts_within item l (map text_cell groups))

  abbrev with_cell : List Span → Bool → Group → List Group → List (Option TextBound)
  with_cell line within group groups =
      map bound_told (map (told_to item line) (if within then text_cell group ∷ cells_within line (map text_cell groups) else cells_within line (map text_cell groups)))

  -- what a cell tells is its text, or its text made loose
  told_is : (has_all : Bool) (text : Option TextAnswer) →
      (bound_told (told_by has_all text) ≡ bound_told text) ⊎ (bound_told (told_by has_all text) ≡ loose (bound_told text))
  told_is has_all None = inl refl
  told_is true (Some text) = inl refl
  told_is false (Some text) = inr (by text.ends)
    where
      by : (ends : Option TextEnds) → bound_by true ends ≡ loose (bound_by text.null ends)
      by None = refl
      by (Some ends) = refl

  -- a nested text, as whichever cell tells it, lies within the old one made loose
  loosely : (old new told : Option TextBound) → IsNested old new → (told ≡ new) ⊎ (told ≡ loose new) → IsNested (loose old) told
  loosely None None told h (inl e) = subst (IsNested None) (sym e) tt
  loosely None None told h (inr e) = subst (IsNested None) (sym e) tt
  loosely None (Some new) told h e = absurd h
  loosely (Some old) None told h (inl e) = subst (IsNested (loose (Some old))) (sym e) refl
  loosely (Some old) None told h (inr e) = subst (IsNested (loose (Some old))) (sym e) refl
  loosely (Some old) (Some new) told h (inl e) =
      subst (IsNested (loose (Some old))) (sym e) (record { certain = λ c. absurd (false≢true c); low = h.low; high = h.high })
  loosely (Some old) (Some new) told h (inr e) =
      subst (IsNested (loose (Some old))) (sym e) (record { certain = λ c. c; low = h.low; high = h.high })

  -- made loose, the text of a group within L is among what was told
  there_one : (within : Bool) (old : Group) (olds : List Group) → IsTrue within → IsThere (loose (text_in item old)) (with_cell L within old olds)
  there_one true old olds t = elim (told_is (is_within L (keys_by old)) (text_at item old.texts)) [
    | inl e ↦ inl (inr (ap loose (sym e)))
    | inr e ↦ inl (inl (sym e))
  ]
  there_one false old olds t = absurd (false≢true t)

  there_more : (line : List Span) (within : Bool) (a : Option TextBound) (old : Group) (olds : List Group) →
      IsThere a (map bound_told (texts_within item line (map text_cell olds))) → IsThere a (with_cell line within old olds)
  there_more line true a old olds h = inr h
  there_more line false a old olds h = h

  -- the group from which one comes that lies within l
  from_one : (group : Group) (olds : List Group) (lines : List (List Span)) (told : Option TextBound) → AreApart lines → IsOneOf L lines →
      AreCovered (map keys_by olds) lines → IsTrue (meets (keys_by group) (keys_by group)) → IsTrue (is_within (keys_by group) l) →
      (told ≡ text_in item group) ⊎ (told ≡ loose (text_in item group)) → IsTextFrom item group olds →
      (old : Option TextBound) × IsThere old (told_before olds) × IsNested old told
  from_one group [] lines told apart one covered some w e from = absurd from
  from_one group (old ∷ olds) lines told apart one covered some w e (inl h) =
      let in_line = within_chain (keys_by group) l L w inside in
      let meet = meets_more (keys_by group) (keys_by old) L h.0 (meets_within (keys_by group) L some in_line) in
      let place = meets_line (keys_by old) L lines apart covered.0 one meet in
      (loose (text_in item old), there_one (is_within (keys_by old) L) old olds place, loosely (text_in item old) (text_in item group) told h.1 e)
  from_one group (old ∷ olds) lines told apart one covered some w e (inr from) =
      let there = from_one group olds lines told apart one covered.1 some w e from in
      (there.0, there_more L (is_within (keys_by old) L) there.0 old olds there.1, there.2)

  from_more : (within : Bool) (group : Group) (groups : List Group) (bounds : List (Option TextBound)) → is_within (keys_by group) l ≡ within →
      (IsTrue (is_within (keys_by group) l) →
      (old : Option TextBound) × IsThere old bounds × IsNested old (bound_told (told_by (is_within l (keys_by group)) (text_at item group.texts)))) →
      AreFrom bounds (told_now groups) → AreFrom bounds (with_cell l within group groups)
  from_more true group groups bounds e h rest = (h e, rest)
  from_more false group groups bounds e h rest = rest

  are_from : (olds groups : List Group) (lines : List (List Span)) → AreApart lines → IsOneOf L lines → AreCovered (map keys_by olds) lines →
      HaveSome groups → AreTextsFrom item olds groups → AreFrom (told_before olds) (told_now groups)
  are_from olds [] lines apart one covered some from = tt
  are_from olds (group ∷ groups) lines apart one covered some from =
      from_more (is_within (keys_by group) l) group groups (told_before olds) refl
      (λ w. from_one group olds lines _ apart one covered some.0 w (told_is (is_within l (keys_by group)) (text_at item group.texts)) from.0)
      (are_from olds groups lines apart one covered some.1 from.1)

  -- a group that has all keys of L is there again, with all keys of l
  again_here : (within has_all : Bool) (group : Group) (groups : List Group) → is_within l (keys_by group) ≡ has_all → IsTrue within → IsTrue has_all →
      IsThere (text_in item group) (with_cell l within group groups)
  again_here true true group groups e t u =
      inl (inl (sym (told_all (is_within l (keys_by group)) (text_at item group.texts) e)))
    where
      told_all : (b : Bool) (text : Option TextAnswer) → IsTrue b → bound_told (told_by b text) ≡ bound_told text
      told_all true None h = refl
      told_all true (Some text) h = refl
      told_all false text h = absurd (false≢true h)
  again_here true false group groups e t u = absurd (false≢true u)
  again_here false has_all group groups e t u = absurd (false≢true t)

  again : (old : Group) (groups : List Group) (lines : List (List Span)) → AreApart lines → IsOneOf l lines → AreCovered (map keys_by groups) lines →
      IsTrue (is_within L (keys_by old)) → HasTextAgain item old groups →
      (new : Option TextBound) × IsThere new (told_now groups) × IsNested (text_in item old) new
  again old [] lines apart one covered all h = absurd h
  again old (group ∷ groups) lines apart one covered all (inl h) =
      let has = within_chain l (keys_by old) (keys_by group) (within_chain l L (keys_by old) inside all) h.0 in
      let place = within_line (keys_by group) l lines key apart covered.0 one (holds_more l (keys_by group) key has has_line) has_line in
      (text_in item group, again_here (is_within (keys_by group) l) (is_within l (keys_by group)) group groups refl place has, h.1)
  again old (group ∷ groups) lines apart one covered all (inr h) =
      let there = again old groups lines apart one covered.1 all h in
      (there.0, there_more l (is_within (keys_by group) l) there.0 group groups there.1, there.2)

  -- what an old group told has something within it, or admits that there is no text
  kept_told : (has_all : Bool) (old : Group) (groups : List Group) (lines : List (List Span)) → AreApart lines → IsOneOf l lines →
      AreCovered (map keys_by groups) lines → is_within L (keys_by old) ≡ has_all → (IsNested (text_in item old) None) ⊎ HasTextAgain item old groups →
      ((new : Option TextBound) × IsThere new (told_now groups) × IsNested (bound_told (told_by has_all (text_at item old.texts))) new)
      ⊎ IsNested (bound_told (told_by has_all (text_at item old.texts))) None
  kept_told true old groups lines apart one covered e (inl h) = inr (subst (λ (b : Option TextBound). IsNested b None) (sym (told_same (text_at item old.texts))) h)
  kept_told true old groups lines apart one covered e (inr h) =
      let there = again old groups lines apart one covered e h in
      inl (there.0, there.1, subst (λ (b : Option TextBound). IsNested b there.0) (sym (told_same (text_at item old.texts))) there.2)
  kept_told false old groups lines apart one covered e h = inr (loose_none_nested (text_at item old.texts))

  kept_more : (within : Bool) (old : Group) (olds : List Group) (bounds : List (Option TextBound)) →
      ((new : Option TextBound) × IsThere new bounds × IsNested (bound_told (told_by (is_within L (keys_by old)) (text_at item old.texts))) new)
      ⊎ IsNested (bound_told (told_by (is_within L (keys_by old)) (text_at item old.texts))) None → AreKept (told_before olds) bounds →
      AreKept (with_cell L within old olds) bounds
  kept_more true old olds bounds h rest = (h, rest)
  kept_more false old olds bounds h rest = rest

  are_kept : (olds groups : List Group) (lines : List (List Span)) → AreApart lines → IsOneOf l lines → AreCovered (map keys_by groups) lines →
      AreTextsKept item olds groups → AreKept (told_before olds) (told_now groups)
  are_kept [] groups lines apart one covered kept = tt
  are_kept (old ∷ olds) groups lines apart one covered kept =
      kept_more (is_within (keys_by old) L) old olds (told_now groups)
      (kept_told (is_within L (keys_by old)) old groups lines apart one covered refl kept.0) (are_kept olds groups lines apart one covered kept.1)

  -- so the text that a part tells of the key lies within the one that it told before
  pub part_nests : (e : Extreme) (olds groups : List Group) (old_lines lines : List (List Span)) → AreApart old_lines → IsOneOf L old_lines →
      AreCovered (map keys_by olds) old_lines → AreApart lines → IsOneOf l lines → AreCovered (map keys_by groups) lines → IsLaterText item olds groups →
      IsNested (combined e (told_before olds)) (combined e (told_now groups))
  part_nests e olds groups old_lines lines apart one covered apart_now one_now covered_now later =
      all_nest e (told_before olds) (told_now groups) (are_from olds groups old_lines apart one covered later.some later.from)
      (are_kept olds groups lines apart_now one_now covered_now later.kept)

-- ---- all parts

later_keys : (item : ℕ) (before parts : List (List Group)) (lines : List (List Span)) → AreCovered (keys_in_parts before) lines →
    AreLaterTexts item before parts → AreCovered (keys_in_parts parts) lines
later_keys item [] [] lines covered later = tt
later_keys item [] (groups ∷ parts) lines covered later = absurd later
later_keys item (olds ∷ before) [] lines covered later = absurd later
later_keys item (olds ∷ before) (groups ∷ parts) lines covered later =
    covered_append (map keys_by groups) (keys_in_parts parts) lines
    (from_lines item groups olds lines (covered_front (map keys_by olds) (keys_in_parts before) lines covered) later.0.from)
    (later_keys item before parts lines (covered_back (map keys_by olds) (keys_in_parts before) lines covered) later.1)
  where
    from_line : (item : ℕ) (group : Group) (olds : List Group) (lines : List (List Span)) → AreCovered (map keys_by olds) lines →
        IsTextFrom item group olds → IsCovered (keys_by group) lines
    from_line item group [] lines covered from = absurd from
    from_line item group (old ∷ olds) lines covered (inl h) = covered_within (keys_by group) (keys_by old) lines h.0 covered.0
    from_line item group (old ∷ olds) lines covered (inr from) = from_line item group olds lines covered.1 from

    from_lines : (item : ℕ) (groups olds : List Group) (lines : List (List Span)) → AreCovered (map keys_by olds) lines →
        AreTextsFrom item olds groups → AreCovered (map keys_by groups) lines
    from_lines item [] olds lines covered from = tt
    from_lines item (group ∷ groups) olds lines covered from =
        (from_line item group olds lines covered from.0, from_lines item groups olds lines covered from.1)

parts_nest : (e : Extreme) (item : ℕ) (key : Key) (L l : List Span) (before parts : List (List Group)) (old_lines lines : List (List Span)) →
    IsTrue (holds l key) → IsTrue (is_within l L) → AreApart old_lines → IsOneOf L old_lines → AreCovered (keys_in_parts before) old_lines →
    AreApart lines → IsOneOf l lines → AreCovered (keys_in_parts parts) lines → AreLaterTexts item before parts →
    IsNested (bound_over e (all_texts item L (text_cells before))) (bound_over e (all_texts item l (text_cells parts)))
parts_nest e item key L l [] [] old_lines lines h w apart one covered apart_now one_now covered_now later = tt
parts_nest e item key L l [] (groups ∷ parts) old_lines lines h w apart one covered apart_now one_now covered_now later = absurd later
parts_nest e item key L l (olds ∷ before) [] old_lines lines h w apart one covered apart_now one_now covered_now later = absurd later
parts_nest e item key L l (olds ∷ before) (groups ∷ parts) old_lines lines h w apart one covered apart_now one_now covered_now later =
    let was = texts_within item L (map text_cell olds) in
    let is = texts_within item l (map text_cell groups) in
    let were = all_texts item L (text_cells before) in
    let are = all_texts item l (text_cells parts) in
    subst (λ (b : Option TextBound). IsNested b (bound_over e (is ++ are))) (sym (bound_of_parts e was were))
    (subst (IsNested (of_both (joined e) (bound_over e was) (bound_over e were))) (sym (bound_of_parts e is are))
    (joined_nests e (bound_over e was) (bound_over e were) (bound_over e is) (bound_over e are)
    (part_nests item key L l h w e olds groups old_lines lines apart one (covered_front (map keys_by olds) (keys_in_parts before) old_lines covered)
    apart_now one_now (covered_front (map keys_by groups) (keys_in_parts parts) lines covered_now) later.0)
    (parts_nest e item key L l before parts old_lines lines h w apart one (covered_back (map keys_by olds) (keys_in_parts before) old_lines covered)
    apart_now one_now (covered_back (map keys_by groups) (keys_in_parts parts) lines covered_now) later.1)))

-- with later reports of the parts the group of a key and its text lie within those before
pub groups_nest_texts : GroupsNestTexts
groups_nest_texts count kinds before parts olds groups kind e item key old group are_before are_now report now at asked later is_old is has_old has =
    let first = of_line count kinds before olds are_before report old is_old in
    let there = of_line count kinds parts groups are_now now group is in
    let was = subst (λ (ks : List (List Span)). AreLines ks (keys_in report.lines))
    (keys_of_parts before report.are_lines.cells report.are_lines.tell) report.are_lines.combined.lines in
    let are = subst (λ (ks : List (List Span)). AreLines ks (keys_in now.lines))
    (keys_of_parts parts now.are_lines.cells now.are_lines.tell) now.are_lines.combined.lines in
    let one = one_of report.lines first.line first.is in
    let two = one_of now.lines there.line there.is in
    let holds_old = sym (first.keys key) ∙ has_old in
    let holds_now = sym (there.keys key) ∙ has in
    let covered = one_covered there.line.keys (keys_in now.lines) (keys_in report.lines) two
    (are.narrowest (keys_in report.lines) was.apart (later_keys item before parts (keys_in report.lines) was.covered later)) in
    let within = line_within key there.line.keys first.line.keys (keys_in report.lines) was.apart covered one holds_now holds_old in
    let nested = parts_nest e item key first.line.keys there.line.keys before parts (keys_in report.lines) (keys_in now.lines) holds_now within
    was.apart one was.covered are.apart two are.covered later in
    let old_same = ap (text_in item) first.shown ∙ text_of_line kinds kind e item first.line.keys before at asked in
    let same = ap (text_in item) there.shown ∙ text_of_line kinds kind e item there.line.keys parts at asked in
    record {
      keys = λ k h. first.keys k ∙ holds_more there.line.keys first.line.keys k within (sym (there.keys k) ∙ h);
      text = subst (λ (b : Option TextBound). IsNested b (text_in item group)) (sym old_same)
          (subst (IsNested (bound_over e (all_texts item first.line.keys (text_cells before)))) (sym same) nested);
    }
