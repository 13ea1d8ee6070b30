-- Keys that are only possible are in the result of one world and missing in that of another.
use Rattle.std.proofs.Common.{◌≡◌, ℕ, ◌<◌, ◌≤◌, true, false, ℤ, ◌<ℤ◌, List, [], ◌∷◌, length, map, drop, get_or, Option, Some, None, IsTrue, refl, sym, ap, subst, ◌∙◌}
use Rattle.std.proofs.lemmas.Bool.{true≢false}
use Rattle.std.specs.Cmp.{int_ranks}
use Rattle.std.specs.List.{AllByRecursion, Contains, list_all}
use Rattle.std.specs.Ordering.{MatchOrdering, int_cmp, is_eq, is_some_and}
use Rattle.std.specs.declared.cmp.Ordering.TheVariants.{Equal}
use Rattle.daq_table.specs.Tables.{Cells, frame_of}
use Rattle.plane_schedule.specs.declared.policy.Plan.{Plan}
use Rattle.query_model.specs.Answers.{Key, groups_of}
use Rattle.query_model.specs.Meaning.{is_sql_true}
use Rattle.query_model.specs.Worlds.{AgreesWith, IsInResultOn}
use Rattle.query_model.specs.declared.query.Face.TheVariants.{OfColumn}
use Rattle.sql_text.specs.Tree as tree
use Rattle.sql_text.specs.Tree.{Name}
use Rattle.sql_typing.specs.Names.{number_of}
use Rattle.sql_typing.proofs.Comparisons.{and_left, and_right, both}
use Rattle.sql_meaning.specs.Answers.{grouping, is_same}
use Rattle.sql_meaning.specs.Conditions.{Row, truth_of_where}
use Rattle.sql_meaning.specs.Laws.{IsShownAs, key_at, numbers_at}
use Rattle.sql_meaning.specs.Rows.{row_at, shown}
use Rattle.sql_meaning.specs.Values.{Value, compare}
use Rattle.sql_meaning.proofs.Enclosed.{compare_left, compare_right, equal_is, in_order}
use Rattle.sql_meaning.proofs.Resulted.{results_mean}
use Rattle.table_rounds.proofs.Reached.{part_of}
use Rattle.sql_meaning.specs.Attained.{AttainsKeys, HasTexts, with_names}
use Rattle.sql_headline.specs.Sections.{IsKeyOf, Section, is_same_key}
use Rattle.sql_headline.specs.Worlds.{IsWorld, Run, stage_at}
use Rattle.sql_headline.proofs.Begun.{IsSure, Laws, certain}
use Rattle.sql_headline.proofs.Grouped.{key_is, of_cell, on, own, own_cell_of, sections_at, shown_names}
use Rattle.sql_meaning.proofs.Attained.{attains_truths}
use Rattle.sql_headline.proofs.Resulted.{absence_is, as_long}
use Rattle.sql_headline.proofs.Worlds.{has_planes, has_values}

-- ---- one value for one number

module _ (run : Run) (c : ℕ) where
  abbrev shows : ℤ → Option Value
  shows = shown run.head.columns run.query.columns (OfColumn c)

  same_shown : (w u v : Value) → is_some_and is_eq (compare w u) ≡ true → is_some_and is_eq (compare w v) ≡ true → IsTrue (is_same (Some u) (Some v))
  same_shown w u v e f = ap (is_some_and is_eq) (sym (compare_left w u v e)) ∙ f

  some_same : (o : Option Value) (u v : Value) → IsTrue (is_same o (Some u)) → IsTrue (is_same o (Some v)) → IsTrue (is_same (Some u) (Some v))
  some_same None u v e f = absurd (true≢false (sym e))
  some_same (Some w) u v e f = same_shown w u v e f

  pub value_same : (o : Option ℤ) (u v : Option Value) → IsShownAs shows o u → IsShownAs shows o v → IsTrue (is_same u v)
  value_same None u v h k = subst (λ x. IsTrue (is_same x v)) (sym h) (subst (λ x. IsTrue (is_same None x)) (sym k) refl)
  value_same (Some z) u v h k =
      subst (λ x. IsTrue (is_same x v)) (sym h.1) (subst (λ x. IsTrue (is_same (Some h.0) x)) (sym k.1) (some_same (shows z) h.0 k.0 h.2 k.2))

  equal_numbers : (x y : ℤ) → int_cmp x y ≡ Equal → x ≡ y
  equal_numbers x y e = subst (λ o. MatchOrdering o (x <ℤ y) (x ≡ y) (y <ℤ x)) e (int_ranks x y)

  some_number : (x y : ℤ) (o p : Option Value) (u v : Value) → shows x ≡ o → shows y ≡ p → IsTrue (is_same o (Some u)) → IsTrue (is_same p (Some v)) → IsTrue (is_same (Some u) (Some v)) → x ≡ y
  some_number x y None p u v e f h k same = absurd (true≢false (sym h))
  some_number x y (Some w) None u v e f h k same = absurd (true≢false (sym k))
  some_number x y (Some w) (Some t) u v e f h k same =
      equal_numbers x y (equal_is (int_cmp x y)
      (ap (is_some_and is_eq) (sym (in_order run.head.columns run.query.columns (OfColumn c) x y w t e f) ∙ compare_right t v w k ∙ compare_left w u v h) ∙ same))

  pub number_same : (o p : Option ℤ) (u v : Option Value) → IsShownAs shows o u → IsShownAs shows p v → IsTrue (is_same u v) → o ≡ p
  number_same None None u v h k same = refl
  number_same None (Some y) u v h k same = absurd (true≢false (sym (subst (λ x. IsTrue (is_same x (Some k.0))) h (subst (λ x. IsTrue (is_same u x)) k.1 same))))
  number_same (Some x) None u v h k same = absurd (true≢false (sym (subst (λ t. IsTrue (is_same (Some h.0) t)) k (subst (λ t. IsTrue (is_same t v)) h.1 same))))
  number_same (Some x) (Some y) u v h k same =
      ap (λ z. Some z) (some_number x y (shows x) (shows y) h.0 k.0 refl refl h.2 k.2 (subst (λ t. IsTrue (is_same (Some h.0) t)) k.1 (subst (λ t. IsTrue (is_same t v)) h.1 same)))

module _ (run : Run) (number : Name → ℕ) (f g : ℕ → Option ℤ) (row other : Row) where
  abbrev IsShown : (ℕ → Option ℤ) → Row → Name → Type 0
  IsShown numbers r n = IsShownAs (shown run.head.columns run.query.columns (OfColumn (number n))) (numbers (number n)) (r n.name)

  pub keys_same : (ns : List Name) → AllByRecursion (IsShown f row) ns → AllByRecursion (IsShown g other) ns → map f (map number ns) ≡ map g (map number ns) → IsTrue (list_all (λ name. is_same (row name.name) (other name.name)) ns)
  keys_same [] h k e = refl
  keys_same (n ∷ ns) h k e =
      let first : f (number n) ≡ g (number n) = ap (λ l. get_or l 0 None) e in
      both (is_same (row n.name) (other n.name)) (list_all (λ name. is_same (row name.name) (other name.name)) ns)
      (value_same run (number n) (f (number n)) (row n.name) (other n.name) h.0 (subst (λ z. IsShownAs (shown run.head.columns run.query.columns (OfColumn (number n))) z (other n.name)) (sym first) k.0))
      (keys_same ns h.1 k.1 (ap (λ l. drop 1 l) e))

  pub same_keys : (ns : List Name) → AllByRecursion (IsShown f row) ns → AllByRecursion (IsShown g other) ns → IsTrue (list_all (λ name. is_same (row name.name) (other name.name)) ns) → map f (map number ns) ≡ map g (map number ns)
  same_keys [] h k e = refl
  same_keys (n ∷ ns) h k e =
      ap (λ z. z ∷ map f (map number ns))
      (number_same run (number n) (f (number n)) (g (number n)) (row n.name) (other n.name) h.0 k.0 (and_left (is_same (row n.name) (other n.name)) (list_all (λ name. is_same (row name.name) (other name.name)) ns) e))
      ∙ ap (λ l. g (number n) ∷ l) (same_keys ns h.1 k.1 (and_right (is_same (row n.name) (other n.name)) (list_all (λ name. is_same (row name.name) (other name.name)) ns) e))

-- ---- keys

module _ (law : Laws) (run : Run) (plan : Plan) (is : IsSure run plan) (names : List Name) (grouped : run.text.ending ≡ tree.Grouped names) where
  abbrev number_in : Name → ℕ
  number_in n = number_of run.head.columns run.query.columns n.name

  -- a row of a world at which the condition is true, with the values of another
  pub record HasKey (world : Cells) (values : Row) : Type 0 where
    pub row : ℕ
    pub within : row < run.head.rows
    pub counts : IsTrue (is_sql_true (truth_of_where run.text.pred (row_at run.head world row)))
    pub same : IsTrue (is_same_key run.text (row_at run.head world row) values)

  module _ (round : ℕ) (h : round ≤ length run.reads) (world : Cells) (is_world : IsWorld run round world) (one : ℕ) (one_in : one < run.head.rows) (texts : HasTexts run.head) where
    abbrev key : Key
    key = key_at run.query run.head world one

    there : (other : Cells) → AgreesWith run.query (frame_of run.head) (stage_at run round).known other → IsWorld run round other
    there other agrees = record { has_planes = has_planes law run plan is round h other agrees; has_values = has_values run.head other texts agrees.table }

    -- the keys of two rows are one where their values are the same
    pub key_of_same : (other : Cells) → IsWorld run round other → (row : ℕ) → row < run.head.rows → IsTrue (is_same_key run.text (row_at run.head other row) (row_at run.head world one)) → key_at run.query run.head other row ≡ key
    key_of_same other is_other row row_in same =
        key_is law run plan is names grouped other is_other.has_values row row_in
        ∙ same_keys run number_in (numbers_at run.query run.head other row) (numbers_at run.query run.head world one) (row_at run.head other row) (row_at run.head world one) (own law run plan is names grouped)
        (shown_names law run plan is names grouped other is_other.has_values row row_in) (shown_names law run plan is names grouped world is_world.has_values one one_in)
        (subst (λ e. IsTrue (list_all (λ name. is_same (row_at run.head other row name.name) (row_at run.head world one name.name)) (with_names [] (grouping e)))) grouped same)
        ∙ sym (key_is law run plan is names grouped world is_world.has_values one one_in)

    same_of_key : (other : Cells) → IsWorld run round other → (row : ℕ) → row < run.head.rows → key ≡ key_at run.query run.head other row → IsTrue (is_same_key run.text (row_at run.head other row) (row_at run.head world one))
    same_of_key other is_other row row_in e =
        subst (λ w. IsTrue (list_all (λ name. is_same (row_at run.head other row name.name) (row_at run.head world one name.name)) (with_names [] (grouping w)))) (sym grouped)
        (keys_same run number_in (numbers_at run.query run.head other row) (numbers_at run.query run.head world one) (row_at run.head other row) (row_at run.head world one) (own law run plan is names grouped)
        (shown_names law run plan is names grouped other is_other.has_values row row_in) (shown_names law run plan is names grouped world is_world.has_values one one_in)
        (sym (key_is law run plan is names grouped other is_other.has_values row row_in) ∙ sym e ∙ key_is law run plan is names grouped world is_world.has_values one one_in))

    pub left_open : AttainsKeys run.head run.text → (section : Section) → Contains (sections_at law run plan is names grouped round) section → IsKeyOf section run.text (row_at run.head world one) → section.present ≡ false →
        ((other : Cells) × IsWorld run round other × HasKey other (row_at run.head world one)) × ((other : Cells) × IsWorld run round other × ¬ HasKey other (row_at run.head world one))
    left_open attains section has k possible =
        let c = of_cell law run plan is names grouped round h world is_world section has in
        let on_key = on law run plan is names grouped round h world is_world one one_in in
        let cell = own_cell_of law run plan is names grouped round h world is_world one one_in section c k in
        let told = (certain law run plan is).results round h key on_key in
        let opened = told.told.possible (attains_truths run.text run.head run.query is.typed attains) (sym (absence_is law run plan is key on_key round c.cell h cell) ∙ c.possible possible) in
        (in_one opened.so, in_no opened.not_so)
      where
        in_one : (cells : Cells) × AgreesWith run.query (frame_of run.head) (stage_at run round).known cells × IsInResultOn run.query key (frame_of run.head) cells → (other : Cells) × IsWorld run round other × HasKey other (row_at run.head world one)
        in_one found =
            let is_other = there found.0 found.1 in
            let groups = results_mean run.text run.head run.query found.0 is.typed is_other.has_values in
            let at = groups.of_key key (as_long (part_of run.query (frame_of run.head)) (groups_of run.query.shape) key (on law run plan is names grouped round h world is_world one one_in)) found.2 in
            (found.0, is_other, record { row = at.0; within = at.1; counts = at.2; same = same_of_key found.0 is_other at.0 at.1 at.3 })

        in_no : (cells : Cells) × AgreesWith run.query (frame_of run.head) (stage_at run round).known cells × ¬ IsInResultOn run.query key (frame_of run.head) cells → (other : Cells) × IsWorld run round other × ¬ HasKey other (row_at run.head world one)
        in_no found =
            let is_other = there found.0 found.1 in
            let groups = results_mean run.text run.head run.query found.0 is.typed is_other.has_values in
            (found.0, is_other, λ has. found.2 (subst (λ (w : Key). IsInResultOn run.query w (frame_of run.head) found.0) (key_of_same found.0 is_other has.row has.within has.same) (groups.of_row has.row has.within has.counts)))
