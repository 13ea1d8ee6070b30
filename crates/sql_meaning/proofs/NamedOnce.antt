-- What names no column twice attains its ends.
use Rattle.std.proofs.Common.{◌≡◌, ℕ, zero, suc, cond, not, ◌||◌, Bool, true, false, List, [], ◌∷◌, ◌++◌, filter, Option, Some, None, inl, inr, refl, sym, ap, subst, ◌∙◌, append_assoc, arith, if◌then◌else◌}
use Rattle.std.proofs.lemmas.Bool.{and_from, and_parts, false≢true, not-true, or_cases, or_from, or_parts, true≢false}
use Rattle.std.proofs.lemmas.List.{append-nil}
use Rattle.std.proofs.lemmas.List.Elements.{filter-append}
use Rattle.std.proofs.lemmas.List.Folds.{list_any-append}
use Rattle.std.proofs.lemmas.List.Kept.{AllPairs-cons}
use Rattle.std.proofs.lemmas.Grind.{flat_map-append}
use Rattle.std.proofs.lemmas.Slice.Eq.{bytes_eq-Decides}
use Rattle.std.specs.Prelude.{All, AllPairs, flat_map}
use Rattle.std.specs.Str.{bytes_eq}
use Rattle.daq_table.specs.declared.table_head.Head.{Head}
use Rattle.sql_text.specs.Tree as tree
use Rattle.sql_text.specs.Tree.{Item, Name, Pred}
use Rattle.sql_typing.specs.Names.{names_in_filter, names_in_item, names_in_pred}
use Rattle.sql_meaning.specs.Answers.{grouping}
use Rattle.sql_meaning.specs.Attained.{AttainsEnds, AttainsKeys, Meet, is_range, joined, joined_in, names_differ, names_of_rows, with_names}
use Rattle.sql_meaning.specs.Laws.{NamedOnceAttain}
use Rattle.sql_meaning.proofs.Attained.{is_there, or_left_is, or_right_is, same_bytes, there_left, there_right}

abbrev Within : List Name → List Name → Type 0
Within xs ys = (name : List ℕ) → is_there name xs ≡ true → is_there name ys ≡ true

abbrev Apart : List Name → List Name → Type 0
Apart xs ys = (name : List ℕ) → is_there name xs ≡ true → is_there name ys ≡ false

there_in : (name : List ℕ) (xs ys : List Name) → is_there name (xs ++ ys) ≡ (is_there name xs || is_there name ys)
there_in name xs ys = list_any-append (λ (m : Name). bytes_eq name m.name) xs ys

within_join : (xs ys zs : List Name) → Within xs zs → Within ys zs → Within (xs ++ ys) zs
within_join xs ys zs h k name e = elim (or_cases (is_there name xs) (is_there name ys) (sym (there_in name xs ys) ∙ e)) [ inl l ↦ h name l | inr r ↦ k name r ]

-- ---- lists that differ

record ArePartsDiffering (xs ys : List Name) : Type 0 where
  left : names_differ xs ≡ true
  right : names_differ ys ≡ true
  apart : Apart xs ys

differ_parts : (xs ys : List Name) → names_differ (xs ++ ys) ≡ true → ArePartsDiffering xs ys
differ_parts [] ys h = record { left = refl; right = h; apart = λ name e. absurd (false≢true e) }
differ_parts (x ∷ xs) ys h =
    let parts = and_parts (not (is_there x.name (xs ++ ys))) (names_differ (xs ++ ys)) h in
    let rest = differ_parts xs ys parts.1 in
    let none = or_parts (is_there x.name xs) (is_there x.name ys) (sym (there_in x.name xs ys) ∙ not-true (is_there x.name (xs ++ ys)) parts.0) in
    record {
      left = and_from (not (is_there x.name xs)) (names_differ xs) (ap not none.0) rest.left;
      right = rest.right;
      apart = λ name e.
          elim (or_cases (bytes_eq name x.name) (is_there name xs) e) [
            | inl same ↦ subst (λ n. is_there n ys ≡ false) (sym ((bytes_eq-Decides name x.name).0 same)) none.1
            | inr later ↦ rest.apart name later
          ];
    }

differ_join : (xs ys : List Name) → names_differ xs ≡ true → names_differ ys ≡ true → Apart xs ys → names_differ (xs ++ ys) ≡ true
differ_join [] ys h k apart = k
differ_join (x ∷ xs) ys h k apart =
    let parts = and_parts (not (is_there x.name xs)) (names_differ xs) h in
    let none = there_in x.name xs ys ∙ or_from (is_there x.name xs) (is_there x.name ys) (not-true (is_there x.name xs) parts.0) (apart x.name (or_left_is (bytes_eq x.name x.name) (is_there x.name xs) (same_bytes x.name))) in
    and_from (not (is_there x.name (xs ++ ys))) (names_differ (xs ++ ys)) (ap not none)
    (differ_join xs ys parts.1 k (λ name e. apart name (or_right_is (bytes_eq name x.name) (is_there name xs) e)))

-- names that differ stand there as they are
all_new : (seen ns : List Name) → names_differ (seen ++ ns) ≡ true → with_names seen ns ≡ seen ++ ns
all_new seen [] h = sym (append-nil seen)
all_new seen (n ∷ ns) h =
    let apart = (differ_parts seen (n ∷ ns) h).apart in
    let here : is_there n.name (n ∷ ns) ≡ true = or_left_is (bytes_eq n.name n.name) (is_there n.name ns) (same_bytes n.name) in
    let new : is_there n.name seen ≡ false = by (is_there n.name seen) refl (λ e. true≢false (sym here ∙ apart n.name e)) in
    ap (λ b. with_names (if b then seen else seen ++ n ∷ []) ns) new
    ∙ all_new (seen ++ n ∷ []) ns (ap names_differ (append_assoc seen (n ∷ []) ns) ∙ h) ∙ append_assoc seen (n ∷ []) ns
  where
    by : (b : Bool) → is_there n.name seen ≡ b → (is_there n.name seen ≡ true → ⊥) → is_there n.name seen ≡ false
    by true e never = absurd (never e)
    by false e never = e

-- ---- conditions

abbrev names_of : List Pred → List Name
names_of ps = flat_map names_in_pred ps

abbrev ranges_of : Pred → List Name
ranges_of a = names_of (filter is_range (joined a))

abbrev others_of : Pred → List Name
others_of a = names_of (filter (λ b. not (is_range b)) (joined a))

record IsSorted (named ranges others : List Name) : Type 0 where
  ranges_differ : names_differ ranges ≡ true
  others_differ : names_differ others ≡ true
  apart : Apart ranges others
  ranges_within : Within ranges named
  others_within : Within others named

all_others : (ns : List Name) → names_differ ns ≡ true → IsSorted ns [] (ns ++ [])
all_others ns h = record {
  ranges_differ = refl;
  others_differ = ap names_differ (append-nil ns) ∙ h;
  apart = λ name e. absurd (false≢true e);
  ranges_within = λ name e. absurd (false≢true e);
  others_within = λ name e. sym (ap (is_there name) (append-nil ns)) ∙ e;
}

all_ranges : (ns : List Name) → names_differ ns ≡ true → IsSorted ns (ns ++ []) []
all_ranges ns h = record {
  ranges_differ = ap names_differ (append-nil ns) ∙ h;
  others_differ = refl;
  apart = λ name e. refl;
  ranges_within = λ name e. sym (ap (is_there name) (append-nil ns)) ∙ e;
  others_within = λ name e. absurd (false≢true e);
}

both_sorted : (ns ms r o s p : List Name) → ArePartsDiffering ns ms → IsSorted ns r o → IsSorted ms s p → IsSorted (ns ++ ms) (r ++ s) (o ++ p)
both_sorted ns ms r o s p parts h k =
    let left : (xs ys : List Name) → Within xs ns → Within ys ms → Apart xs ys = (λ xs ys w v name e. no_there name ys (λ f. true≢false (sym (v name f) ∙ parts.apart name (w name e)))) in
    let right : (xs ys : List Name) → Within xs ms → Within ys ns → Apart xs ys = (λ xs ys w v name e. no_there name ys (λ f. true≢false (sym (w name e) ∙ parts.apart name (v name f)))) in
    record {
      ranges_differ = differ_join r s h.ranges_differ k.ranges_differ (left r s h.ranges_within k.ranges_within);
      others_differ = differ_join o p h.others_differ k.others_differ (left o p h.others_within k.others_within);
      apart = λ name e.
          there_in name o p ∙ elim (or_cases (is_there name r) (is_there name s) (sym (there_in name r s) ∙ e)) [
            | inl l ↦ or_from (is_there name o) (is_there name p) (h.apart name l) (left r p h.ranges_within k.others_within name l)
            | inr m ↦ or_from (is_there name o) (is_there name p) (right s o k.ranges_within h.others_within name m) (k.apart name m)
          ];
      ranges_within = within_join r s (ns ++ ms) (λ name e. there_left name ns ms (h.ranges_within name e)) (λ name e. there_right name ns ms (k.ranges_within name e));
      others_within = within_join o p (ns ++ ms) (λ name e. there_left name ns ms (h.others_within name e)) (λ name e. there_right name ns ms (k.others_within name e));
    }
  where
    no_there : (name : List ℕ) (ys : List Name) → (is_there name ys ≡ true → ⊥) → is_there name ys ≡ false
    no_there name ys never = by (is_there name ys) refl
      where
        by : (b : Bool) → is_there name ys ≡ b → is_there name ys ≡ false
        by true e = absurd (never e)
        by false e = e

sorted : (a : Pred) → names_differ (names_in_pred a) ≡ true → IsSorted (names_in_pred a) (ranges_of a) (others_of a)
sorted (tree.Both a b) h =
    let parts = differ_parts (names_in_pred a) (names_in_pred b) h in
    let ranges : ranges_of (tree.Both a b) ≡ ranges_of a ++ ranges_of b = ap names_of (filter-append is_range (joined a) (joined b)) ∙ flat_map-append names_in_pred (filter is_range (joined a)) (filter is_range (joined b)) in
    let others : others_of (tree.Both a b) ≡ others_of a ++ others_of b =
    ap names_of (filter-append (λ c. not (is_range c)) (joined a) (joined b)) ∙ flat_map-append names_in_pred (filter (λ c. not (is_range c)) (joined a)) (filter (λ c. not (is_range c)) (joined b)) in
    subst (λ r. IsSorted (names_in_pred a ++ names_in_pred b) r (others_of (tree.Both a b))) (sym ranges)
    (subst (λ o. IsSorted (names_in_pred a ++ names_in_pred b) (ranges_of a ++ ranges_of b) o) (sym others)
    (both_sorted (names_in_pred a) (names_in_pred b) (ranges_of a) (others_of a) (ranges_of b) (others_of b) parts (sorted a parts.left) (sorted b parts.right)))
sorted (tree.Compare n op v) h = by (is_range (tree.Compare n op v))
  where
    by : (b : Bool) → IsSorted (n ∷ []) (names_of (cond b (tree.Compare n op v ∷ []) [])) (names_of (cond (not b) (tree.Compare n op v ∷ []) []))
    by true = all_ranges (n ∷ []) h
    by false = all_others (n ∷ []) h
sorted (tree.Between n low high) h = all_ranges (n ∷ []) h
sorted (tree.Columns l op r) h = all_others (l ∷ r ∷ []) h
sorted (tree.OneOf n vs) h = all_others (n ∷ []) h
sorted (tree.IsNull n) h = all_others (n ∷ []) h
sorted (tree.Negation a) h = all_others (names_in_pred a) h
sorted (tree.Either a b) h = all_others (names_in_pred a ++ names_in_pred b) h

filter_sorted : (o : Option Pred) → names_differ (names_in_filter o) ≡ true → IsSorted (names_in_filter o) (names_of (filter is_range (joined_in o))) (names_of (filter (λ b. not (is_range b)) (joined_in o)))
filter_sorted None h = all_others [] refl
filter_sorted (Some a) h = sorted a h

-- ranges whose names differ are of different columns
each_apart : (head : Head) (a : Pred) (ps : List Pred) → names_differ (names_in_pred a ++ names_of ps) ≡ true → All (Meet head a) ps
each_apart head a [] h j d lt = absurd (omega arith)
each_apart head a (b ∷ ps) h zero d lt =
    let parts = differ_parts (names_in_pred a ++ names_in_pred b) (names_of ps) (ap names_differ (append_assoc (names_in_pred a) (names_in_pred b) (names_of ps)) ∙ h) in
    inl parts.left
each_apart head a (b ∷ ps) h (suc j) d lt =
    let parts = differ_parts (names_in_pred a) (names_in_pred b ++ names_of ps) h in
    let rest = differ_parts (names_in_pred b) (names_of ps) parts.right in
    each_apart head a ps (differ_join (names_in_pred a) (names_of ps) parts.left rest.right (λ name e. (or_parts (is_there name (names_in_pred b)) (is_there name (names_of ps)) (sym (there_in name (names_in_pred b) (names_of ps)) ∙ parts.apart name e)).1)) j d (omega (arith, lt))

all_apart : (head : Head) (ps : List Pred) → names_differ (names_of ps) ≡ true → AllPairs (Meet head) ps
all_apart head [] h = λ i j d lt within. absurd (omega arith)
all_apart head (a ∷ ps) h = AllPairs-cons (Meet head) a ps (each_apart head a ps h) (all_apart head ps (differ_parts (names_in_pred a) (names_of ps) h).right)

-- ---- queries

keys_attained : (head : Head) (q : tree.Query) → names_differ (names_in_filter q.pred ++ with_names [] (grouping q.ending)) ≡ true → AttainsKeys head q × Within (names_of_rows q) (names_in_filter q.pred ++ with_names [] (grouping q.ending))
keys_attained head q h =
    let groups = with_names [] (grouping q.ending) in
    let named = names_in_filter q.pred in
    let ranges = names_of (filter is_range (joined_in q.pred)) in
    let others = names_of (filter (λ b. not (is_range b)) (joined_in q.pred)) in
    let parts = differ_parts named groups h in
    let is = filter_sorted q.pred parts.left in
    let kept : with_names [] ranges ≡ ranges = all_new [] ranges is.ranges_differ in
    let rest : names_differ (others ++ groups) ≡ true = differ_join others groups is.others_differ parts.right (λ name e. parts.apart name (is.others_within name e)) in
    let apart : Apart ranges (others ++ groups) = (λ name e. there_in name others groups ∙ or_from (is_there name others) (is_there name groups) (is.apart name e) (parts.apart name (is.ranges_within name e))) in
    let within : Within (ranges ++ (others ++ groups)) (named ++ groups) =
    within_join ranges (others ++ groups) (named ++ groups) (λ name e. there_left name named groups (is.ranges_within name e))
    (within_join others groups (named ++ groups) (λ name e. there_left name named groups (is.others_within name e)) (λ name e. there_right name named groups e)) in (
      record { meet = all_apart head (filter is_range (joined_in q.pred)) is.ranges_differ; once = ap (λ l. names_differ (l ++ (others ++ groups))) kept ∙ differ_join ranges (others ++ groups) is.ranges_differ rest apart },
      subst (λ l. Within (l ++ (others ++ groups)) (named ++ groups)) (sym kept) within,
    )

pub named_once : NamedOnceAttain
named_once head q = record { keys = λ h. (keys_attained head q h).0; ends = λ item h. ends item h }
  where
    ends : (item : Item) → names_differ ((names_in_filter q.pred ++ with_names [] (grouping q.ending)) ++ names_in_item item) ≡ true → AttainsEnds head q item
    ends item h =
        let parts = differ_parts (names_in_filter q.pred ++ with_names [] (grouping q.ending)) (names_in_item item) h in
        let keys = keys_attained head q parts.left in
        record {
          rows = keys.0;
          apart = ap (λ l. names_differ (names_of_rows q ++ l)) (all_new [] (names_in_item item) parts.right)
              ∙ differ_join (names_of_rows q) (names_in_item item) keys.0.once parts.right (λ name e. parts.apart name (keys.1 name e));
          argument = inl parts.right;
        }
