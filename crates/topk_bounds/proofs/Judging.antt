-- The standings by the rows found are those of the counts, and these are those of the definition.
use Rattle.std.proofs.Common.{◌≡◌, ℕ, zero, suc, ◌+◌, ◌<◌, Bool, true, false, cond, not, ◌&&◌, ◌||◌, nat_eq, nat_le, nat_lt, List, [], ◌∷◌, length, map, replicate, slice_get, Some, refl, sym, ap, ◌∙◌, arith, IsTrue}
use Rattle.std.specs.Simd.Lanes.{zip2}
use Rattle.std.proofs.lemmas.Bool.Decides.{nat_tests}
use Rattle.std.proofs.lemmas.List.FromFn.{get_or-map-range_with_len, length-map-range_with_len}
use Rattle.std.proofs.lemmas.Simd.{get_or-zip2, length-zip2}
use Rattle.query_model.specs.declared.bounds.Standing.{Standing}
use Rattle.query_model.specs.declared.bounds.Standing.TheVariants.{Certain, Possible, Excluded}
use Rattle.query_model.specs.Knowledge.{ranges_of}
use Rattle.query_model.specs.Ranking.{may_beat, must_beat, rows_with, truth_at}
use Rattle.query_model.specs.Truths.{Range, is_false, is_true}
use Rattle.known_column.specs.Columns.{range_at, rows_of_column}
use Rattle.topk_bounds.specs.declared.rivals.Rivals.TheVariants.{Must, May}
use Rattle.topk_bounds.specs.Standings.{AreApart, Judged, StandingsStand, comes, count_rows, is_certain, is_in, is_possible, rivals_of, standing_by, standing_in, standings_by}
use Rattle.topk_bounds.specs.Cuts.{FindsFirst}
use Rattle.topk_bounds.proofs.Counting.{count_same}
use Rattle.topk_bounds.proofs.Marks.{in_both, same_rows}

-- ---- the definition

pick : Bool → Bool → Standing
pick a b = cond a Excluded (cond b Certain Possible)

not_not : (b : Bool) → not (not b) ≡ b
not_not true = refl
not_not false = refl

pub standings_stand : StandingsStand
unfolding pick
standings_stand pred order frame known judged x is x_in =
    let key : ℕ → Range = λ r. ranges_of frame known r order.key in
    let musts : (y : ℕ) → y < frame.rows → (not (nat_eq y x) && is_in judged.must y && comes Must judged.down (range_at judged.key y) y (range_at judged.key x) x) ≡ must_beat pred order frame known y x = λ y h.
    (ap (λ b. not (nat_eq y x) && b && comes Must judged.down (range_at judged.key y) y (range_at judged.key x) x) (is.must y h)
    ∙ ap (λ d. not (nat_eq y x) && is_true (truth_at pred frame known y) && comes Must d (range_at judged.key y) y (range_at judged.key x) x) is.down
    ∙ ap (λ (r : Range). not (nat_eq y x) && is_true (truth_at pred frame known y) && comes Must order.down r y (range_at judged.key x) x) (is.ranges y h)
    ∙ ap (λ (r : Range). not (nat_eq y x) && is_true (truth_at pred frame known y) && comes Must order.down (key y) y r x) (is.ranges x x_in)) in
    let mays : (y : ℕ) → y < frame.rows → (not (nat_eq y x) && is_in judged.may y && comes May judged.down (range_at judged.key y) y (range_at judged.key x) x) ≡ may_beat pred order frame known y x = λ y h.
    (ap (λ b. not (nat_eq y x) && b && comes May judged.down (range_at judged.key y) y (range_at judged.key x) x) (is.may y h)
    ∙ ap (λ d. not (nat_eq y x) && not (is_false (truth_at pred frame known y)) && comes May d (range_at judged.key y) y (range_at judged.key x) x) is.down
    ∙ ap (λ (r : Range). not (nat_eq y x) && not (is_false (truth_at pred frame known y)) && comes May order.down r y (range_at judged.key x) x) (is.ranges y h)
    ∙ ap (λ (r : Range). not (nat_eq y x) && not (is_false (truth_at pred frame known y)) && comes May order.down (key y) y r x) (is.ranges x x_in)) in
    let must_rows : rivals_of Must judged.down judged.key judged.must x ≡ rows_with frame (λ y. must_beat pred order frame known y x) =
    ap (λ n. count_rows n (λ y. not (nat_eq y x) && is_in judged.must y && comes Must judged.down (range_at judged.key y) y (range_at judged.key x) x)) is.rows
    ∙ count_same (λ y. not (nat_eq y x) && is_in judged.must y && comes Must judged.down (range_at judged.key y) y (range_at judged.key x) x) (λ y. must_beat pred order frame known y x) frame.rows musts in
    let may_rows : rivals_of May judged.down judged.key judged.may x ≡ rows_with frame (λ y. may_beat pred order frame known y x) =
    ap (λ n. count_rows n (λ y. not (nat_eq y x) && is_in judged.may y && comes May judged.down (range_at judged.key y) y (range_at judged.key x) x)) is.rows
    ∙ count_same (λ y. not (nat_eq y x) && is_in judged.may y && comes May judged.down (range_at judged.key y) y (range_at judged.key x) x) (λ y. may_beat pred order frame known y x) frame.rows mays in
    let out : (not (is_in judged.may x) || nat_le judged.limit (rivals_of Must judged.down judged.key judged.must x)) ≡ (is_false (truth_at pred frame known x) || nat_le order.limit (rows_with frame (λ y. must_beat pred order frame known y x))) =
    ap (λ b. not b || nat_le judged.limit (rivals_of Must judged.down judged.key judged.must x)) (is.may x x_in)
    ∙ ap (λ b. b || nat_le judged.limit (rivals_of Must judged.down judged.key judged.must x)) (not_not (is_false (truth_at pred frame known x)))
    ∙ ap (λ k. is_false (truth_at pred frame known x) || nat_le k (rivals_of Must judged.down judged.key judged.must x)) is.limit
    ∙ ap (λ n. is_false (truth_at pred frame known x) || nat_le order.limit n) must_rows in
    let sure : (is_in judged.must x && nat_lt (rivals_of May judged.down judged.key judged.may x) judged.limit) ≡ (is_true (truth_at pred frame known x) && nat_lt (rows_with frame (λ y. may_beat pred order frame known y x)) order.limit) =
    ap (λ b. b && nat_lt (rivals_of May judged.down judged.key judged.may x) judged.limit) (is.must x x_in)
    ∙ ap (λ k. is_true (truth_at pred frame known x) && nat_lt (rivals_of May judged.down judged.key judged.may x) k) is.limit
    ∙ ap (λ n. is_true (truth_at pred frame known x) && nat_lt n order.limit) may_rows in
    ap (λ a. pick a (is_in judged.must x && nat_lt (rivals_of May judged.down judged.key judged.may x) judged.limit)) out ∙ ap (pick (is_false (truth_at pred frame known x) || nat_le order.limit (rows_with frame (λ y. must_beat pred order frame known y x)))) sure

-- ---- marks

standing_marked : (sure some : Bool) → standing_in (sure && some) (some && not (sure && some)) ≡ cond (not some) Excluded (cond sure Certain Possible)
standing_marked true true = refl
standing_marked true false = refl
standing_marked false true = refl
standing_marked false false = refl

not_reached : (may : Bool) (n limit : ℕ) → not (may && nat_lt n limit) ≡ (not may || nat_le limit n)
not_reached true n limit = grind (arith, nat_tests)
not_reached false n limit = refl

module _ (cs ps : List Bool) (same : length cs ≡ length ps) where
  abbrev sure_marks : List Bool
  sure_marks = zip2 (λ a b. a && b) cs ps

  abbrev other_marks : List Bool
  other_marks = zip2 (λ a b. a && not b) ps sure_marks

  pub sure_length : length sure_marks ≡ length cs
  sure_length = length-zip2 (λ a b. a && b) cs ps same

  pub other_length : length other_marks ≡ length cs
  other_length = length-zip2 (λ a b. a && not b) ps sure_marks (sym same ∙ sym sure_length) ∙ sym same

  -- the rows found give the standings
  pub standings_found : (judged : Judged) → length cs ≡ rows_of_column judged.key → FindsFirst Must judged.down judged.key judged.must judged.may judged.limit ps →
      FindsFirst May judged.down judged.key judged.may judged.must judged.limit cs → zip2 standing_in sure_marks other_marks ≡ standings_by judged
  unfolding pick
  standings_found judged rows some sure =
      let long : length (zip2 standing_in sure_marks other_marks) ≡ length cs = length-zip2 standing_in sure_marks other_marks (sure_length ∙ sym other_length) ∙ sure_length in
      same_rows Excluded (zip2 standing_in sure_marks other_marks) (standings_by judged) (long ∙ rows ∙ sym (length-map-range_with_len (standing_by judged) 0 (rows_of_column judged.key)))
      (λ x below.
      (let h : x < length cs = omega (arith, long) in
      let x_in : x < rows_of_column judged.key = omega (arith, rows) in
      let e : 0 + x ≡ x = omega arith in
      let c : is_in sure_marks x ≡ (is_in cs x && is_in ps x) = in_both (λ a b. a && b) cs ps x h (sym same) in
      let p : is_in other_marks x ≡ (is_in ps x && not (is_in cs x && is_in ps x)) = in_both (λ a b. a && not b) ps sure_marks x (omega (arith, same)) (sure_length ∙ same) ∙ ap (λ b. is_in ps x && not b) c in
      get_or-zip2 standing_in sure_marks other_marks x false false Excluded (omega (arith, sure_length)) (omega (arith, other_length))
      ∙ ap (λ b. standing_in b (is_in other_marks x)) c ∙ ap (standing_in (is_in cs x && is_in ps x)) p ∙ standing_marked (is_in cs x) (is_in ps x)
      ∙ ap (λ b. pick (not b) (is_in cs x)) (some x x_in)
      ∙ ap (λ b. pick b (is_in cs x)) (not_reached (is_in judged.may x) (rivals_of Must judged.down judged.key judged.must x) judged.limit)
      ∙ ap (pick (not (is_in judged.may x) || nat_le judged.limit (rivals_of Must judged.down judged.key judged.must x))) (sure x x_in)
      ∙ sym (get_or-map-range_with_len (standing_by judged) 0 (rows_of_column judged.key) x x Excluded x_in e)))

pub apart_rest : (cs ps : List Bool) → length cs ≡ length ps → AreApart cs (zip2 (λ a b. a && not b) ps cs)
apart_rest [] [] e = tt
apart_rest [] (p ∷ ps) e = absurd (omega arith)
apart_rest (c ∷ cs) [] e = absurd (omega arith)
apart_rest (c ∷ cs) (p ∷ ps) e = (here c p, apart_rest cs ps (omega arith))
  where
    here : (c p : Bool) → not (c && (p && not c)) ≡ true
    here true true = refl
    here true false = refl
    here false p = refl

pub apart_none : (n : ℕ) → AreApart (replicate n false) (replicate n false)
apart_none zero = tt
apart_none (suc n) = (refl, apart_none n)

pub none_stands : (n : ℕ) → zip2 standing_in (replicate n false) (replicate n false) ≡ replicate n Excluded
none_stands zero = refl
none_stands (suc n) = ap (λ (l : List Standing). Excluded ∷ l) (none_stands n)

pub apart_length : (cs ps : List Bool) → AreApart cs ps → length ps ≡ length cs
apart_length [] [] h = refl
apart_length [] (p ∷ ps) h = absurd h
apart_length (c ∷ cs) [] h = absurd h
apart_length (c ∷ cs) (p ∷ ps) h = (let rest = apart_length cs ps h.1 in omega arith)

pub stands_length : (cs ps : List Bool) → AreApart cs ps → length (zip2 standing_in cs ps) ≡ length cs
stands_length cs ps h = length-zip2 standing_in cs ps (sym (apart_length cs ps h))

pub certain_marks : (cs ps : List Bool) → AreApart cs ps → cs ≡ map is_certain (zip2 standing_in cs ps)
certain_marks [] [] h = refl
certain_marks [] (p ∷ ps) h = absurd h
certain_marks (c ∷ cs) [] h = absurd h
certain_marks (c ∷ cs) (p ∷ ps) h = ap (λ b. b ∷ cs) (here c p) ∙ ap (λ l. is_certain (standing_in c p) ∷ l) (certain_marks cs ps h.1)
  where
    here : (c p : Bool) → c ≡ is_certain (standing_in c p)
    here true p = refl
    here false true = refl
    here false false = refl

pub possible_marks : (cs ps : List Bool) → AreApart cs ps → ps ≡ map is_possible (zip2 standing_in cs ps)
possible_marks [] [] h = refl
possible_marks [] (p ∷ ps) h = absurd h
possible_marks (c ∷ cs) [] h = absurd h
possible_marks (c ∷ cs) (p ∷ ps) h = ap (λ b. b ∷ ps) (here c p h.0) ∙ ap (λ l. is_possible (standing_in c p) ∷ l) (possible_marks cs ps h.1)
  where
    here : (c p : Bool) → IsTrue (not (c && p)) → p ≡ is_possible (standing_in c p)
    here true true h = sym h
    here true false h = refl
    here false true h = refl
    here false false h = refl

pub marks_stand : (cs ps : List Bool) (r : ℕ) (c p : Bool) → slice_get cs r ≡ Some c → slice_get ps r ≡ Some p → slice_get (zip2 standing_in cs ps) r ≡ Some (standing_in c p)
marks_stand [] ps r c p e k = (cc)
marks_stand (x ∷ cs) [] r c p e k = (cc)
marks_stand (x ∷ cs) (y ∷ ps) zero c p e k = (cc)
marks_stand (x ∷ cs) (y ∷ ps) (suc r) c p e k = marks_stand cs ps r c p e k
