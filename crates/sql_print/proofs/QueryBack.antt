-- The printed form of a query is a query again, at the same levels.
use Rattle.std.proofs.Common.{◌≡◌, ℕ, ◌^◌, ◌≤◌, ◌<◌, List, [], ◌∷◌, ◌++◌, map, Bool, true, false, Option, Some, None, inl, inr, refl, sym, ap, subst}
use Rattle.std.specs.Prelude.{ℤ, pos, negsuc}
use Rattle.std.proofs.lemmas.List.{append-nil}
use Rattle.std.proofs.lemmas.Bool.{ltb-true}
use Rattle.sql_tokens.specs.declared.token.Fixed.{Fixed}
use Rattle.sql_tokens.specs.declared.token.Fixed.TheVariants as fixed
use Rattle.sql_tokens.specs.Lexeme.{Mark, FIXED, NAME, NUMBER, Lexeme, token}
use Rattle.sql_text.specs.declared.tree.CallKind.{CallKind}
use Rattle.sql_text.specs.declared.tree.CallKind.TheVariants as calls
use Rattle.sql_print.specs.declared.printing.Side.TheVariants.{Left}
use Rattle.sql_text.specs.Tree.{Name, Expr, Item, Plain, CountAll, Call, Head, Items, Star, Pred, Ending, Nothing, Grouped, Ordered, Query}
use Rattle.sql_print.specs.Bare.{bare_name, bare_expr, bare_item, bare_head, bare_pred, bare_filter, bare_ending, bare}
use Rattle.sql_text.specs.Number.{Written, is, is_name, is_call, call_of, is_small, number_of}
use Rattle.sql_text.specs.Rule.{Rule, give, one, number, either, next, IsOf}
use Rattle.sql_text.specs.Grammar.{listed, expr, pred, argument, count, call, item, filter, grouping, direction, ordering, semicolon, source, query, Inside, Is}
use Rattle.sql_text.proofs.RuleFine.{Parts}
use Rattle.sql_print.proofs.Back.{Spells, marks_of, sp_give, sp_one, sp_number, sp_go, sp_stay, sp_next}
use Rattle.sql_print.proofs.ExprBack.{units_marks, expr_marks, expr_need, AllOk, ExprOk, all_parts, all_tail, all_head, name_ok, number_there, small_pos, is_expr_ok, expr_back}
use Rattle.sql_print.proofs.PredBack.{listed_marks, pred_marks, pred_need, SomeOk, PredOk, listed_ok, is_pred_ok, pred_back, fixed_back, listed_back}

-- ---- marks

abbrev pub call_fixed : CallKind → Fixed
call_fixed calls.Count = fixed.Count
call_fixed calls.Sum = fixed.Sum
call_fixed calls.Avg = fixed.Avg
call_fixed calls.Min = fixed.Min
call_fixed calls.Max = fixed.Max

abbrev pub item_marks : Item → List Mark
item_marks (Plain n) = NAME n.name ∷ []
item_marks CountAll = FIXED fixed.Count ∷ (FIXED fixed.Open ∷ (FIXED fixed.Star ∷ (FIXED fixed.Close ∷ [])))
item_marks (Call kind e) = FIXED (call_fixed kind) ∷ (FIXED fixed.Open ∷ (expr_marks Left e ++ (FIXED fixed.Close ∷ [])))

abbrev pub head_marks : Head → List Mark
head_marks (Items xs) = listed_marks item_marks xs
head_marks Star = FIXED fixed.Star ∷ []

abbrev pub filter_marks : Option Pred → List Mark
filter_marks None = []
filter_marks (Some a) = FIXED fixed.Where ∷ pred_marks Left a

abbrev pub name_marks : Name → List Mark
name_marks n = NAME n.name ∷ []

abbrev pub direction_marks : Bool → List Mark
direction_marks true = FIXED fixed.Desc ∷ []
direction_marks false = []

abbrev pub ending_marks : Ending → List Mark
ending_marks Nothing = []
ending_marks (Grouped ns) = FIXED fixed.Group ∷ (FIXED fixed.By ∷ listed_marks name_marks ns)
ending_marks (Ordered key down limit) = FIXED fixed.Order ∷ (FIXED fixed.By ∷ (NAME key.name ∷ (direction_marks down ++ (FIXED fixed.Limit ∷ units_marks limit.units limit.scale))))

abbrev pub query_marks : Query → List Mark
query_marks q = FIXED fixed.Select ∷ (head_marks q.head ++ (FIXED fixed.From ∷ (NAME q.table.name ∷ (filter_marks q.pred ++ ending_marks q.ending))))

-- ---- what a sentence's query needs

module _ (Ok : Mark → Type 0) (n : ℕ) where
  abbrev pub ItemOk : Item → Type 0
  ItemOk (Plain s) = Ok (NAME s.name)
  ItemOk CountAll = Unit {0}
  ItemOk (Call kind e) = (expr_need Left e ≤ n) × ExprOk Ok e

  abbrev pub FilterOk : Option Pred → Type 0
  FilterOk None = Unit {0}
  FilterOk (Some a) = (pred_need Left a ≤ n) × PredOk Ok a

  abbrev pub LimitOk : ℤ → ℕ → Type 0
  LimitOk (pos u) s = (u < 2 ^ 63) × Ok (NUMBER (Some u) s)
  LimitOk (negsuc u) s = ⊥

  abbrev pub GroupedOk : Ending → Type 0
  GroupedOk Nothing = Unit {0}
  GroupedOk (Grouped ns) = SomeOk (λ (s : Name). Ok (NAME s.name)) ns
  GroupedOk (Ordered key down limit) = ⊥

  abbrev pub OrderedOk : Ending → Type 0
  OrderedOk Nothing = ⊥
  OrderedOk (Grouped ns) = ⊥
  OrderedOk (Ordered key down limit) = Ok (NAME key.name) × LimitOk limit.units limit.scale

  abbrev pub HeadOk : Head → Ending → Type 0
  HeadOk (Items xs) e = SomeOk ItemOk xs × GroupedOk e
  HeadOk Star e = OrderedOk e

  abbrev pub QueryOk : Query → Type 0
  QueryOk q = HeadOk q.head q.ending × Ok (NAME q.table.name) × FilterOk q.pred

  name_item : (w : List Lexeme) (s : Name) → AllOk Ok (marks_of w) → IsOf is_small (Inside is_small n) (one is_name) w s → Ok (NAME s.name)
  name_item w s all h = name_ok Ok h.0 s h.2 (all_head Ok w [] h.0 h.1 all)

  argument_ok : (kind : CallKind) (w : List Lexeme) (i : Item) → AllOk Ok (marks_of w) → IsOf is_small (Inside is_small n) (argument kind) w i → ItemOk i
  unfolding argument
  argument_ok kind w i all h = subst ItemOk (sym h.5.5.1) (is_expr_ok Ok n h.0 h.2 (all_parts Ok w h.0 h.1 h.3 all).0 h.4)

  count_ok : (w : List Lexeme) (i : Item) → AllOk Ok (marks_of w) → IsOf is_small (Inside is_small n) count w i → ItemOk i
  unfolding count
  count_ok w i all h = go h.1 (all_parts Ok w h.0 h.1 h.3 all).1 h.5
    where
      go : (v : List Lexeme) → AllOk Ok (marks_of v) → IsOf is_small (Inside is_small n) (either (is fixed.Star) (λ _. next (one (is fixed.Close)) (λ _. give CountAll)) (argument calls.Count)) v i → ItemOk i
      go v ok (inl k) = subst ItemOk (sym k.5.5.1) tt
      go v ok (inr k) = argument_ok calls.Count v i ok k

  item_ok : (w : List Lexeme) (i : Item) → AllOk Ok (marks_of w) → IsOf is_small (Inside is_small n) item w i → ItemOk i
  unfolding item call
  item_ok w i all (inl h) = subst ItemOk (sym h.5.1) (name_ok Ok h.0 h.1 h.4 (all_head Ok w h.2 h.0 h.3 all))
  item_ok w i all (inr (inl h)) = count_ok h.2 i (all_tail Ok w h.2 h.0 h.3 all) h.5
  item_ok w i all (inr (inr h)) =
      let a = all_parts Ok w h.0 h.1 h.3 all in
      let x = h.5 in
      let b = all_parts Ok h.1 x.0 x.1 x.3 a.1 in
      argument_ok h.2 x.1 i b.1 x.5

  filter_ok : (w : List Lexeme) (f : Option Pred) → AllOk Ok (marks_of w) → IsOf is_small (Inside is_small n) filter w f → FilterOk f
  unfolding filter
  filter_ok w f all (inl h) =
      let x = h.5 in
      let a = all_parts Ok h.2 x.0 x.1 x.3 (all_tail Ok w h.2 h.0 h.3 all) in
      subst FilterOk (sym x.5.1) (is_pred_ok Ok n x.0 x.2 a.0 x.4)
  filter_ok w f all (inr h) = subst FilterOk (sym h.1) tt

  grouping_ok : (w : List Lexeme) (e : Ending) → AllOk Ok (marks_of w) → IsOf is_small (Inside is_small n) grouping w e → GroupedOk e
  unfolding grouping
  grouping_ok w e all (inl h) =
      let x = h.5 in
      let a = all_parts Ok h.2 x.0 x.1 x.3 (all_tail Ok w h.2 h.0 h.3 all) in
      let y = x.5 in
      let b = all_parts Ok x.1 y.0 y.1 y.3 a.1 in
      subst GroupedOk (sym y.5.1) (listed_ok Ok (Inside is_small n) (one is_name) (λ (s : Name). Ok (NAME s.name)) name_item y.0 y.2 b.0 y.4)
  grouping_ok w e all (inr h) = subst GroupedOk (sym h.1) tt

  limit_ok : (key : Name) (down : Bool) (w : List Lexeme) (e : Ending) → Ok (NAME key.name) → AllOk Ok (marks_of w) → IsOf is_small (Inside is_small n) (number false (λ k. Ordered key down k)) w e → OrderedOk e
  limit_ok key down w e ok all h = subst OrderedOk (sym h.5) (ok, unsigned h.1 h.4 (number_there Ok h.0 h.1 h.3 (all_head Ok w [] h.0 h.2 all)))
    where
      unsigned : (k : Written) → is_small false k.units ≡ true → Ok (NUMBER k.units k.scale) → LimitOk (number_of false k).units k.scale
      unsigned k small good = go k.units small good
        where
          go : (o : Option ℕ) → is_small false o ≡ true → Ok (NUMBER o k.scale) → LimitOk (number_of false (record { at = k.at; units = o; scale = k.scale })).units k.scale
          go None e p = absurd cc
          go (Some u) e p = (ltb-true u (2 ^ 63) e, p)

  ordering_ok : (w : List Lexeme) (e : Ending) → AllOk Ok (marks_of w) → IsOf is_small (Inside is_small n) ordering w e → OrderedOk e
  unfolding ordering
  ordering_ok w e all h =
      let a = all_parts Ok w h.0 h.1 h.3 all in
      let x = h.5 in
      let b = all_parts Ok h.1 x.0 x.1 x.3 a.1 in
      let y = x.5 in
      let c = all_parts Ok x.1 y.0 y.1 y.3 b.1 in
      let z = y.5 in
      let d = all_parts Ok y.1 z.0 z.1 z.3 c.1 in
      let l = z.5 in
      let f = all_parts Ok z.1 l.0 l.1 l.3 d.1 in
      limit_ok y.2 z.2 l.1 e (name_item y.0 y.2 c.0 y.4) f.1 l.5

  source_ok : (head : Head) (ending : Rule Ending) (T : Ending → Type 0) → ((w : List Lexeme) (e : Ending) → AllOk Ok (marks_of w) → IsOf is_small (Inside is_small n) ending w e → T e)
      → (w : List Lexeme) (q : Query) → AllOk Ok (marks_of w) → IsOf is_small (Inside is_small n) (source head ending) w q → (q.head ≡ head) × T q.ending × Ok (NAME q.table.name) × FilterOk q.pred
  unfolding source semicolon
  source_ok head ending T ending_ok w q all h =
      let a = all_parts Ok w h.0 h.1 h.3 all in
      let x = h.5 in
      let b = all_parts Ok h.1 x.0 x.1 x.3 a.1 in
      let y = x.5 in
      let c = all_parts Ok x.1 y.0 y.1 y.3 b.1 in
      let z = y.5 in
      let d = all_parts Ok y.1 z.0 z.1 z.3 c.1 in
      let whole : Query = record { head = head; table = x.2; pred = y.2; ending = z.2 } in
      let Fine : Query → Type 0 = λ q. (q.head ≡ head) × T q.ending × Ok (NAME q.table.name) × FilterOk q.pred in
      let good : Fine whole = (refl, ending_ok z.0 z.2 d.0 z.4, name_item x.0 x.2 b.0 x.4, filter_ok y.0 y.2 c.0 y.4) in
      elim z.5 as (λ _. Fine q) [ inl k ↦ subst Fine (sym k.5.1) good | inr k ↦ subst Fine (sym k.1) good ]

  pub query_ok : (w : List Lexeme) (q : Query) → AllOk Ok (marks_of w) → Is is_small n query w q → QueryOk q
  unfolding query
  query_ok w q all h = go (all_parts Ok w h.0 h.1 h.3 all).1 h.5
    where
      starred : (w : List Lexeme) → AllOk Ok (marks_of w) → IsOf is_small (Inside is_small n) (source Star ordering) w q → QueryOk q
      starred w ok k =
          let s = source_ok Star ordering OrderedOk ordering_ok w q ok k in
          (subst (λ x. HeadOk x q.ending) (sym s.0) s.1, s.2, s.3)

      go : {v : List Lexeme} → AllOk Ok (marks_of v) → IsOf is_small (Inside is_small n) (either (is fixed.Star) (λ _. source Star ordering) (next (listed item) (λ xs. source (Items xs) grouping))) v q → QueryOk q
      go {v} ok (inl k) = starred k.2 (all_tail Ok v k.2 k.0 k.3 ok) k.5
      go {v} ok (inr k) =
          let a = all_parts Ok v k.0 k.1 k.3 ok in
          let s = source_ok (Items k.2) grouping GroupedOk grouping_ok k.1 q a.1 k.5 in
          (subst (λ x. HeadOk x q.ending) (sym s.0) (listed_ok Ok (Inside is_small n) item ItemOk item_ok k.0 k.2 a.0 k.4, s.1), s.2, s.3)

-- ---- printed tokens, wherever they stand

module _ (Ok : Mark → Type 0) (n : ℕ) where
  name_back : (s : Name) → Ok (NAME s.name) → Spells (IsOf is_small (Inside is_small n) (one is_name)) bare_name (bare_name s) (name_marks s)
  unfolding is_name
  name_back s ok = sp_one is_small (Inside is_small n) bare_name (bare_name s) is_name (NAME s.name) (λ p. (record { at = p; name = s.name }, refl, refl))

  -- the argument of a call, and what closes it
  argument_back : (kind k : CallKind) (e : Expr) → k ≡ kind → ItemOk Ok n (Call kind e) → Spells (IsOf is_small (Inside is_small n) (argument k)) bare_item (bare_item (Call kind e)) (expr_marks Left e ++ (FIXED fixed.Close ∷ []))
  unfolding argument is
  argument_back kind k e same ok =
      let J : Parts = Inside is_small n in
      let c : Item = bare_item (Call kind e) in
      sp_next is_small J bare_item c expr (λ e. next (one (is fixed.Close)) (λ _. give (Call k e))) bare_expr (bare_expr e) (expr_marks Left e) (FIXED fixed.Close ∷ []) (expr_back Ok n e ok.0 ok.1)
      (λ d ed. fixed_back J bare_item c fixed.Close (λ p. refl) (give (Call k d)) [] (sp_give is_small J bare_item (Call k d) c (rw (same, ed) refl)))

  -- an item that begins with COUNT
  counted : (c : Item) (ms : List Mark) → Spells (IsOf is_small (Inside is_small n) (either (is fixed.Star) (λ _. next (one (is fixed.Close)) (λ _. give CountAll)) (argument calls.Count))) bare_item c ms
      → Spells (IsOf is_small (Inside is_small n) item) bare_item c (FIXED fixed.Count ∷ (FIXED fixed.Open ∷ ms))
  unfolding item count is
  counted c ms h =
      let J : Parts = Inside is_small n in
      sp_stay is_small J bare_item c is_name (λ n. give (Plain n)) (either (is fixed.Count) (λ _. count) call) (FIXED fixed.Count ∷ (FIXED fixed.Open ∷ ms))
      (sp_go is_small J bare_item c (is fixed.Count) (FIXED fixed.Count) (λ _. count) call (FIXED fixed.Open ∷ ms)
      (λ p. (p, refl, fixed_back J bare_item c fixed.Open (λ p. refl) (either (is fixed.Star) (λ _. next (one (is fixed.Close)) (λ _. give CountAll)) (argument calls.Count)) ms h)))

  -- an item that begins with SUM, AVG, MIN or MAX
  called : (kind : CallKind) (e : Expr) (k : Fixed) → ((p : ℕ) → is_call (token p (FIXED k)) ≡ Some kind) → ItemOk Ok n (Call kind e)
      → Spells (IsOf is_small (Inside is_small n) item) bare_item (bare_item (Call kind e)) (FIXED k ∷ (FIXED fixed.Open ∷ (expr_marks Left e ++ (FIXED fixed.Close ∷ []))))
  unfolding item call is
  called kind e k there ok =
      let J : Parts = Inside is_small n in
      let c : Item = bare_item (Call kind e) in
      let ms : List Mark = FIXED fixed.Open ∷ (expr_marks Left e ++ (FIXED fixed.Close ∷ [])) in
      sp_stay is_small J bare_item c is_name (λ n. give (Plain n)) (either (is fixed.Count) (λ _. count) call) (FIXED k ∷ ms)
      (sp_stay is_small J bare_item c (is fixed.Count) (λ _. count) call (FIXED k ∷ ms)
      (sp_next is_small J bare_item c (one is_call) (λ kind. next (one (is fixed.Open)) (λ _. argument kind)) (λ (k : CallKind). k) kind (FIXED k ∷ []) ms
      (sp_one is_small J (λ (k : CallKind). k) kind is_call (FIXED k) (λ p. (kind, there p, refl)))
      (λ j same. fixed_back J bare_item c fixed.Open (λ p. refl) (argument j) (expr_marks Left e ++ (FIXED fixed.Close ∷ [])) (argument_back kind j e same ok))))

  item_back : (i : Item) → ItemOk Ok n i → Spells (IsOf is_small (Inside is_small n) item) bare_item (bare_item i) (item_marks i)
  unfolding item is is_name call_of
  item_back (Plain s) ok =
      let c : Item = bare_item (Plain s) in
      sp_go is_small (Inside is_small n) bare_item c is_name (NAME s.name) (λ n. give (Plain n)) (either (is fixed.Count) (λ _. count) call) []
      (λ p. (record { at = p; name = s.name }, refl, sp_give is_small (Inside is_small n) bare_item (Plain (record { at = p; name = s.name })) c refl))
  item_back CountAll ok =
      let J : Parts = Inside is_small n in
      let last : Rule Item = next (one (is fixed.Close)) (λ _. give CountAll) in
      counted CountAll (FIXED fixed.Star ∷ (FIXED fixed.Close ∷ []))
      (sp_go is_small J bare_item CountAll (is fixed.Star) (FIXED fixed.Star) (λ _. last) (argument calls.Count) (FIXED fixed.Close ∷ [])
      (λ p. (p, refl, fixed_back J bare_item CountAll fixed.Close (λ p. refl) (give CountAll) [] (sp_give is_small J bare_item CountAll CountAll refl))))
  item_back (Call calls.Count e) ok =
      let ms : List Mark = expr_marks Left e ++ (FIXED fixed.Close ∷ []) in
      counted (bare_item (Call calls.Count e)) ms
      (sp_stay is_small (Inside is_small n) bare_item (bare_item (Call calls.Count e)) (is fixed.Star) (λ _. next (one (is fixed.Close)) (λ _. give CountAll)) (argument calls.Count) ms (argument_back calls.Count calls.Count e refl ok))
  item_back (Call calls.Sum e) ok = called calls.Sum e fixed.Sum (λ p. refl) ok
  item_back (Call calls.Avg e) ok = called calls.Avg e fixed.Avg (λ p. refl) ok
  item_back (Call calls.Min e) ok = called calls.Min e fixed.Min (λ p. refl) ok
  item_back (Call calls.Max e) ok = called calls.Max e fixed.Max (λ p. refl) ok

  filter_back : (f : Option Pred) → FilterOk Ok n f → Spells (IsOf is_small (Inside is_small n) filter) bare_filter (bare_filter f) (filter_marks f)
  unfolding filter is
  filter_back None ok = sp_stay is_small (Inside is_small n) bare_filter None (is fixed.Where) (λ _. next pred (λ a. give (Some a))) (give None) [] (sp_give is_small (Inside is_small n) bare_filter None None refl)
  filter_back (Some a) ok =
      let J : Parts = Inside is_small n in
      let c : Option Pred = bare_filter (Some a) in
      sp_go is_small J bare_filter c (is fixed.Where) (FIXED fixed.Where) (λ _. next pred (λ a. give (Some a))) (give None) (pred_marks Left a)
      (λ p. (
        p,
        refl,
        subst (Spells (IsOf is_small J (next pred (λ a. give (Some a)))) bare_filter c) (append-nil (pred_marks Left a))
            (sp_next is_small J bare_filter c pred (λ a. give (Some a)) bare_pred (bare_pred a) (pred_marks Left a) [] (pred_back Ok n a ok.0 ok.1) (λ b e. sp_give is_small J bare_filter (Some b) c (ap Some e))),
      ))

  grouping_back : (e : Ending) → GroupedOk Ok n e → Spells (IsOf is_small (Inside is_small n) grouping) bare_ending (bare_ending e) (ending_marks e)
  unfolding grouping is
  grouping_back Nothing ok =
      sp_stay is_small (Inside is_small n) bare_ending Nothing (is fixed.Group) (λ _. next (one (is fixed.By)) (λ _. next (listed (one is_name)) (λ ns. give (Grouped ns)))) (give Nothing) [] (sp_give is_small (Inside is_small n) bare_ending Nothing Nothing refl)
  grouping_back (Ordered key down limit) ok = elim ok [ ]
  grouping_back (Grouped ns) ok =
      let J : Parts = Inside is_small n in
      let c : Ending = bare_ending (Grouped ns) in
      let last : Rule Ending = next (listed (one is_name)) (λ ns. give (Grouped ns)) in
      let ms : List Mark = listed_marks name_marks ns in
      sp_go is_small J bare_ending c (is fixed.Group) (FIXED fixed.Group) (λ _. next (one (is fixed.By)) (λ _. last)) (give Nothing) (FIXED fixed.By ∷ ms)
      (λ p. (
        p,
        refl,
        fixed_back J bare_ending c fixed.By (λ p. refl) last ms
            (subst (Spells (IsOf is_small J last) bare_ending c) (append-nil ms)
            (sp_next is_small J bare_ending c (listed (one is_name)) (λ ns. give (Grouped ns)) (map bare_name) (map bare_name ns) ms []
            (listed_back J (one is_name) bare_name name_marks (λ (s : Name). Ok (NAME s.name)) name_back ns ok) (λ us e. sp_give is_small J bare_ending (Grouped us) c (ap Grouped e)))),
      ))

  direction_back : (down : Bool) → Spells (IsOf is_small (Inside is_small n) direction) (λ (d : Bool). d) down (direction_marks down)
  unfolding direction is
  direction_back true =
      sp_stay is_small (Inside is_small n) (λ (d : Bool). d) true (is fixed.Asc) (λ _. give false) (either (is fixed.Desc) (λ _. give true) (give false)) (FIXED fixed.Desc ∷ [])
      (sp_go is_small (Inside is_small n) (λ (d : Bool). d) true (is fixed.Desc) (FIXED fixed.Desc) (λ _. give true) (give false) [] (λ p. (p, refl, sp_give is_small (Inside is_small n) (λ (d : Bool). d) true true refl)))
  direction_back false =
      sp_stay is_small (Inside is_small n) (λ (d : Bool). d) false (is fixed.Asc) (λ _. give false) (either (is fixed.Desc) (λ _. give true) (give false)) []
      (sp_stay is_small (Inside is_small n) (λ (d : Bool). d) false (is fixed.Desc) (λ _. give true) (give false) [] (sp_give is_small (Inside is_small n) (λ (d : Bool). d) false false refl))

  limit_back : (key d : Name) (down : Bool) (z : ℤ) (s at : ℕ) → bare_name d ≡ bare_name key → LimitOk Ok n z s
      → Spells (IsOf is_small (Inside is_small n) (number false (λ k. Ordered d down k))) bare_ending (bare_ending (Ordered key down (record { at = at; units = z; scale = s }))) (units_marks z s)
  limit_back key d down (pos u) s at same ok =
      sp_number is_small (Inside is_small n) bare_ending (bare_ending (Ordered key down (record { at = at; units = pos u; scale = s }))) false u s (λ k. Ordered d down k) (small_pos u ok.0) (λ p. rw same refl)
  limit_back key d down (negsuc u) s at same ok = elim ok [ ]

  ordering_back : (e : Ending) → OrderedOk Ok n e → Spells (IsOf is_small (Inside is_small n) ordering) bare_ending (bare_ending e) (ending_marks e)
  unfolding ordering is
  ordering_back Nothing ok = elim ok [ ]
  ordering_back (Grouped ns) ok = elim ok [ ]
  ordering_back (Ordered key down limit) ok =
      let J : Parts = Inside is_small n in
      let c : Ending = bare_ending (Ordered key down limit) in
      let limited : Name → Bool → Rule Ending = λ key down. next (one (is fixed.Limit)) (λ _. number false (λ n. Ordered key down n)) in
      let keyed : Rule Ending = next (one is_name) (λ key. next direction (limited key)) in
      let us : List Mark = units_marks limit.units limit.scale in
      fixed_back J bare_ending c fixed.Order (λ p. refl) (next (one (is fixed.By)) (λ _. keyed)) (FIXED fixed.By ∷ (NAME key.name ∷ (direction_marks down ++ (FIXED fixed.Limit ∷ us))))
      (fixed_back J bare_ending c fixed.By (λ p. refl) keyed (NAME key.name ∷ (direction_marks down ++ (FIXED fixed.Limit ∷ us)))
      (sp_next is_small J bare_ending c (one is_name) (λ key. next direction (limited key)) bare_name (bare_name key) (name_marks key) (direction_marks down ++ (FIXED fixed.Limit ∷ us)) (name_back key ok.0)
      (λ d same. sp_next is_small J bare_ending c direction (limited d) (λ (d : Bool). d) down (direction_marks down) (FIXED fixed.Limit ∷ us) (direction_back down)
      (λ b e. fixed_back J bare_ending c fixed.Limit (λ p. refl) (number false (λ n. Ordered d b n)) us
      (subst (λ x. Spells (IsOf is_small J (number false (λ n. Ordered d x n))) bare_ending c us) (sym e) (limit_back key d down limit.units limit.scale limit.at same ok.1))))))

  source_back : (head given : Head) (ending : Rule Ending) (t : Name) (f : Option Pred) (e : Ending) → bare_head given ≡ bare_head head → Ok (NAME t.name) → FilterOk Ok n f → Spells (IsOf is_small (Inside is_small n) ending) bare_ending (bare_ending e) (ending_marks e)
      → Spells (IsOf is_small (Inside is_small n) (source given ending)) bare (bare (record { head = head; table = t; pred = f; ending = e })) (FIXED fixed.From ∷ (NAME t.name ∷ (filter_marks f ++ ending_marks e)))
  unfolding source semicolon is
  source_back head given ending t f e same ok_t ok_f back =
      let J : Parts = Inside is_small n in
      let c : Query = bare (record { head = head; table = t; pred = f; ending = e }) in
      let end : Name → Option Pred → Ending → Rule Query = λ t p e. semicolon (record { head = given; table = t; pred = p; ending = e }) in
      fixed_back J bare c fixed.From (λ p. refl) (next (one is_name) (λ t. next filter (λ p. next ending (end t p)))) (NAME t.name ∷ (filter_marks f ++ ending_marks e))
      (sp_next is_small J bare c (one is_name) (λ t. next filter (λ p. next ending (end t p))) bare_name (bare_name t) (name_marks t) (filter_marks f ++ ending_marks e) (name_back t ok_t)
      (λ d ed. sp_next is_small J bare c filter (λ p. next ending (end d p)) bare_filter (bare_filter f) (filter_marks f) (ending_marks e) (filter_back f ok_f)
      (λ p ep. subst (Spells (IsOf is_small J (next ending (end d p))) bare c) (append-nil (ending_marks e))
      (sp_next is_small J bare c ending (end d p) bare_ending (bare_ending e) (ending_marks e) [] back
      (λ x ex.
      let whole : Query = record { head = given; table = d; pred = p; ending = x } in
      sp_stay is_small J bare c (is fixed.Semicolon) (λ _. give whole) (give whole) [] (sp_give is_small J bare whole c (rw (same, ed, ep, ex) refl)))))))

  pub query_back : (q : Query) → QueryOk Ok n q → Spells (Is is_small n query) bare (bare q) (query_marks q)
  unfolding query is
  query_back q ok = go q.head ok.0
    where
      go : (head : Head) → HeadOk Ok n head q.ending
          → Spells (IsOf is_small (Inside is_small n) (next (one (is fixed.Select)) (λ _. either (is fixed.Star) (λ _. source Star ordering) (next (listed item) (λ xs. source (Items xs) grouping))))) bare (bare (record { head = head; table = q.table; pred = q.pred; ending = q.ending }))
          (FIXED fixed.Select ∷ (head_marks head ++ (FIXED fixed.From ∷ (NAME q.table.name ∷ (filter_marks q.pred ++ ending_marks q.ending)))))
      go Star good =
          let J : Parts = Inside is_small n in
          let c : Query = bare (record { head = Star; table = q.table; pred = q.pred; ending = q.ending }) in
          let ms : List Mark = FIXED fixed.From ∷ (NAME q.table.name ∷ (filter_marks q.pred ++ ending_marks q.ending)) in
          fixed_back J bare c fixed.Select (λ p. refl) (either (is fixed.Star) (λ _. source Star ordering) (next (listed item) (λ xs. source (Items xs) grouping))) (FIXED fixed.Star ∷ ms)
          (sp_go is_small J bare c (is fixed.Star) (FIXED fixed.Star) (λ _. source Star ordering) (next (listed item) (λ xs. source (Items xs) grouping)) ms
          (λ p. (p, refl, source_back Star Star ordering q.table q.pred q.ending refl ok.1 ok.2 (ordering_back q.ending good))))
      go (Items xs) good =
          let J : Parts = Inside is_small n in
          let c : Query = bare (record { head = Items xs; table = q.table; pred = q.pred; ending = q.ending }) in
          let ms : List Mark = FIXED fixed.From ∷ (NAME q.table.name ∷ (filter_marks q.pred ++ ending_marks q.ending)) in
          let items : Rule Query = next (listed item) (λ xs. source (Items xs) grouping) in
          fixed_back J bare c fixed.Select (λ p. refl) (either (is fixed.Star) (λ _. source Star ordering) items) (listed_marks item_marks xs ++ ms)
          (sp_stay is_small J bare c (is fixed.Star) (λ _. source Star ordering) items (listed_marks item_marks xs ++ ms)
          (sp_next is_small J bare c (listed item) (λ xs. source (Items xs) grouping) (map bare_item) (map bare_item xs) (listed_marks item_marks xs) ms
          (listed_back J item bare_item item_marks (ItemOk Ok n) item_back xs good.0)
          (λ us e. source_back (Items xs) (Items us) grouping q.table q.pred q.ending (ap Items e) ok.1 ok.2 (grouping_back q.ending good.1))))
