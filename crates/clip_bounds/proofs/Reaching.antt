-- Where the condition attains its truths, each choice of ends of the clipped pairs is what the rows of some completion give.
use Rattle.std.proofs.Common.{◌≡◌, ◌≢◌, ℕ, zero, suc, ◌+◌, ◌<◌, ◌≤◌, ℤ, pos, ◌≤ℤ◌, Bool, true, false, cond, ◌==◌, List, [], ◌∷◌, ◌++◌, map, filter_map, ◌⊎◌, inl, inr, refl, sym, ap, subst, ◌∙◌, arith, IsTrue, IsFalse, IfSome, Option, Some, None}
use Rattle.std.specs.List.{cons_option, range_with_len}
use Rattle.std.specs.Option.{option_map}
use Rattle.std.proofs.lemmas.Bool.{and_from, and_parts, cases_Bool, cond-true, cond-false, cond_both, eqb-true, eq-eqb, ne_eqb, false≢true, or_from, or_parts}
use Rattle.std.proofs.lemmas.Int.{ints, clamps}
use Rattle.interval_calc.specs.Intervals.{Within}
use Rattle.daq_table.specs.Tables.{Cells, Frame, row_of}
use Rattle.query_model.specs.declared.query.Atom.{Atom}
use Rattle.query_model.specs.declared.query.Atom.TheVariants.{Compare, CompareColumns, Between, OneOf, IsNull}
use Rattle.query_model.specs.declared.query.Comparison.TheVariants.{Eq, Ne, Lt, Le, Gt, Ge}
use Rattle.query_model.specs.declared.query.Shape.TheVariants.{Plain}
use Rattle.query_model.specs.Answers.{outcome_of, values_of}
use Rattle.query_model.specs.Attaining.{AttainsTruths, beside_ranges, is_range}
use Rattle.query_model.specs.Bounds.{Pair, pair_of, pairs}
use Rattle.query_model.specs.Knowledge.{IsCompletion, IsKnowledge, Knowledge, ranges_of}
use Rattle.query_model.specs.Laws.{AreEndOutcomes, AreValuesWithin, IsEndOrLeftOut, IsOutcomeOrLeftOut, NoneEmpty, present}
use Rattle.query_model.specs.Meaning.{Row, columns_of_atom, columns_of_pred, holds, is_sql_true, of_value, truth}
use Rattle.query_model.specs.Queries.{Aggregate, Condition, All, Single, Both, Either, Negation, Query}
use Rattle.query_model.specs.Truths.{IsIn, IsRowWithin, Ranges, may_be_null, truth_of}
use Rattle.query_model.proofs.Completions.{table_completes, table_of}
use Rattle.query_model.proofs.JoinedRanges.{row_attained}
use Rattle.query_model.proofs.Numbers.{Allows}
use Rattle.query_model.proofs.Queries.{filter_map_same, ranges_ordered, table_rows}
use Rattle.query_model.proofs.Rows.{SomeRow, counts, holds_depends, lowest, lowest_row, pair_outcome, placed}
use Rattle.clip_bounds.specs.declared.clip.Clip.{Clip}
use Rattle.clip_bounds.specs.Clips.{IsLong, clip_in, clip_of_atom, common_of, if_of, stands_beside}
use Rattle.clip_bounds.specs.Clipped.{clipped}
use Rattle.clip_bounds.specs.ClipLaws.{IsOfLongs}
use Rattle.clip_bounds.proofs.Choices.{rows_clipped}
use Rattle.clip_bounds.proofs.Passing.{HasNumbers, atom_of, both_hold, range_of_clip}
use Rattle.clip_bounds.proofs.Rows.{IsClippedBy, and_one, and_true, clipped_ordered, long_number, outcome_is, pair_at_row}

-- ---- another number of the clip

-- the rows agree but for one column
abbrev pub AgreeBeside : ℕ → Row → Row → Type 0
AgreeBeside c f g = (d : ℕ) → d ≢ c → f d ≡ g d

-- a condition that does not read the column holds as before
still_so : (p : Condition) (c : ℕ) (f g : Row) → IsFalse (counts c (columns_of_pred p)) → AgreeBeside c f g → holds p f ≡ true → holds p g ≡ true
still_so p c f g unread agree h =
    sym (holds_depends p f g (λ d read. agree d (λ e. false≢true (sym (subst (λ k. IsFalse (counts k (columns_of_pred p))) (sym e) unread) ∙ read)))) ∙ h

unread_parts : (c : ℕ) (xs ys : List ℕ) → IsFalse (counts c (xs ++ ys)) → IsFalse (counts c xs) × IsFalse (counts c ys)
unread_parts c [] ys f = (refl, f)
unread_parts c (x ∷ xs) ys f =
    let parts = or_parts (c == x) (counts c (xs ++ ys)) f in
    let rest = unread_parts c xs ys parts.1 in
    (or_from (c == x) (counts c xs) parts.0 rest.0, rest.1)

-- the number lies in the clip, if there is one
abbrev InClip : Option Clip → ℤ → Type 0
InClip o x = IfSome o (λ clip. Within (range_of_clip clip) x)

in_both : (o p : Option Clip) (x : ℤ) → InClip (common_of o p) x → InClip o x × InClip p x
in_both None p x w = (tt, w)
in_both (Some a) None x w = (w, tt)
in_both (Some a) (Some b) x w =
    let low = w.above in
    let high = w.below in
    (record { above = omega (arith, ints, clamps); below = omega (arith, ints, clamps) }, record { above = omega (arith, ints, clamps); below = omega (arith, ints, clamps) })

-- an atom that is no range stands beside the ranges, and a range has a clip
by_kind : (atom : Atom) → (IsFalse (is_range atom)) ⊎ ((clip : Clip) × (clip_of_atom atom ≡ Some clip) × (columns_of_atom atom ≡ clip.column ∷ []))
by_kind (Compare c Eq v) = inr (_, refl, refl)
by_kind (Compare c Ne v) = inl refl
by_kind (Compare c Lt v) = inr (_, refl, refl)
by_kind (Compare c Le v) = inr (_, refl, refl)
by_kind (Compare c Gt v) = inr (_, refl, refl)
by_kind (Compare c Ge v) = inr (_, refl, refl)
by_kind (CompareColumns l op r) = inl refl
by_kind (Between c low high) = inr (_, refl, refl)
by_kind (OneOf c values) = inl refl
by_kind (IsNull c) = inl refl

atom_holds : (atom : Atom) (c : ℕ) (f g : Row) (x : ℤ) → IsFalse (stands_beside (Single atom) c) → AgreeBeside c f g → g c ≡ Some x → IsLong x → InClip (clip_in (Single atom) c) x →
    holds (Single atom) f ≡ true → holds (Single atom) g ≡ true
atom_holds atom c f g x unread agree is long w h =
    elim (by_kind atom) [
      | inl other ↦ still_so (Single atom) c f g (subst (λ p. IsFalse (counts c (columns_of_pred p))) (cond-false (is_range atom) All (Single atom) other) unread) agree h
      | inr (clip, has, columns) ↦ elim (cases_Bool (clip.column == c)) [
        | inl t ↦ (let own = atom_of atom c clip (ap (if_of c) has ∙ cond-true (clip.column == c) (Some clip) None t) in
            let there : Within (range_of_clip clip) x = subst (λ o. InClip o x) (ap (if_of c) has ∙ cond-true (clip.column == c) (Some clip) None t) w in
            ap is_sql_true (own.0.1.value g ∙ ap (of_value own.0.0) (ap g own.1 ∙ is)) ∙ own.0.1.within x long there)
        | inr n ↦ still_so (Single atom) c f g (subst (λ cs. IsFalse (counts c cs)) (sym columns) (or_from (c == clip.column) false (ne_eqb c clip.column (λ e. false≢true (sym n ∙ eq-eqb clip.column c (sym e)))) refl)) agree h
      ]
    ]

-- with another number of the clip in its column, which stands beside no range, the condition still holds
pub still_holds : (p : Condition) (c : ℕ) (f g : Row) (x : ℤ) → IsFalse (stands_beside p c) → AgreeBeside c f g → g c ≡ Some x → IsLong x → InClip (clip_in p c) x →
    holds p f ≡ true → holds p g ≡ true
still_holds All c f g x unread agree is long w h = h
still_holds (Single atom) c f g x unread agree is long w h = atom_holds atom c f g x unread agree is long w h
still_holds (Both a b) c f g x unread agree is long w h =
    let apart = unread_parts c (columns_of_pred (beside_ranges a)) (columns_of_pred (beside_ranges b)) unread in
    let sides = and_parts (holds a f) (holds b f) (sym (both_hold (truth a f) (truth b f)) ∙ h) in
    let within = in_both (clip_in a c) (clip_in b c) x w in
    both_hold (truth a g) (truth b g)
    ∙ and_from (holds a g) (holds b g) (still_holds a c f g x apart.0 agree is long within.0 sides.0) (still_holds b c f g x apart.1 agree is long within.1 sides.1)
still_holds (Either a b) c f g x unread agree is long w h = still_so (Either a b) c f g unread agree h
still_holds (Negation a) c f g x unread agree is long w h = still_so (Negation a) c f g unread agree h

-- what is known of whether the condition holds allows nothing that no row does
condition_reached : (query : Query) (ranges : Ranges) (b : Bool) → NoneEmpty ranges → AttainsTruths query.pred [] → Allows (truth_of query.pred ranges) b → SomeRow ranges (holds query.pred) b
condition_reached query ranges b o attains a =
    let found = row_attained (record query { shape = Plain }) [] ranges b o attains (subst (λ t. Allows t b) (sym (and_true (truth_of query.pred ranges))) a) in
    (found.0, found.1, sym (and_one (holds query.pred found.0)) ∙ found.2)

-- ---- a row

-- the row with a value in one column
abbrev pub with_value : Row → ℕ → Option ℤ → Row
with_value row c v = λ d. cond (d == c) v (row d)

value_there : (row : Row) (c : ℕ) (v : Option ℤ) → with_value row c v c ≡ v
value_there row c v = cond-true (c == c) v (row c) (eq-eqb c c refl)

others_there : (row : Row) (c : ℕ) (v : Option ℤ) → AgreeBeside c row (with_value row c v)
others_there row c v d other = sym (cond-false (d == c) v (row d) (ne_eqb d c other))

with_value_within : (ranges : Ranges) (row : Row) (c : ℕ) (v : Option ℤ) → IsRowWithin ranges row → IsIn (ranges c) v → IsRowWithin ranges (with_value row c v)
with_value_within ranges row c v h w d =
    cond_both (d == c) v (row d) (IsIn (ranges d)) (λ t. subst (λ k. IsIn (ranges k) v) (sym (eqb-true d c t)) w) (λ f. h d)

-- some row with values out of the ranges gives this
abbrev pub Gives : Query → Aggregate → Ranges → Option ℤ → Type 0
Gives query item ranges o = (row : Row) × IsRowWithin ranges row × (outcome_of query item [] row ≡ o)

module _ (query : Query) (item : Aggregate) (clip : Clip) (ranges : Ranges) (own : IsClippedBy query item clip) (o : NoneEmpty ranges) (attains : AttainsTruths query.pred []) where
  -- a number of the span that lies in the clip
  gives_number : (x : ℤ) → Allows (truth_of query.pred ranges) true → IsIn (ranges clip.column) (Some x) → IsLong x → Within (range_of_clip clip) x → Gives query item ranges (Some x)
  gives_number x may there long within =
      let found = condition_reached query ranges true o attains may in
      let c = clip.column in
      let row = with_value found.0 c (Some x) in
      let there_in : InClip (clip_in query.pred c) x = subst (λ o. InClip o x) (sym own.range) within in
      let holding = still_holds query.pred c found.0 row x own.beside (others_there found.0 c (Some x)) (value_there found.0 c (Some x)) long there_in found.2 in
      (row, with_value_within ranges found.0 c (Some x) found.1 there, outcome_is query item clip row own ∙ cond-true (holds query.pred row) (row c) None holding ∙ value_there found.0 c (Some x))

  -- nothing, where the condition may fail
  gives_none : Allows (truth_of query.pred ranges) false → Gives query item ranges None
  gives_none may =
      let found = condition_reached query ranges false o attains may in
      (found.0, found.1, outcome_is query item clip found.0 own ∙ cond-false (holds query.pred found.0) (found.0 clip.column) None found.2)

  -- or where the column may be null
  gives_null : IsTrue (may_be_null (ranges clip.column).null) → Gives query item ranges None
  gives_null null =
      let found = placed ranges clip.column None o null in
      (found.0, found.1, outcome_is query item clip found.0 own ∙ cond_both (holds query.pred found.0) (found.0 clip.column) None (λ v. v ≡ None) (λ t. found.2) (λ f. refl))

  pub row_reached : (p : Option Pair) (chosen : Option ℤ) → pair_of query item [] ranges ≡ p → ((q : Pair) → p ≡ Some q → (clipped clip q).low ≤ℤ (clipped clip q).high) →
      ((x : ℤ) → Within (ranges clip.column).numbers x → IsLong x) → IsEndOrLeftOut (option_map (clipped clip) p) chosen → Gives query item ranges chosen
  row_reached None chosen e ordered long is =
      let row = lowest_row ranges in
      let within = lowest ranges o in
      let nothing : outcome_of query item [] row ≡ None = subst (λ p. IsOutcomeOrLeftOut p (outcome_of query item [] row)) e (pair_outcome query item [] ranges row within) in
      (row, within, nothing ∙ sym is)
  row_reached (Some p) None e ordered long is =
      let told = pair_at_row query item clip ranges p own e in
      elim (told.uncertain is) [ inl may ↦ gives_none may | inr null ↦ gives_null null ]
  row_reached (Some p) (Some x) e ordered long is =
      let told = pair_at_row query item clip ranges p own e in
      let full = ordered p refl in
      let low = told.low in
      let high = told.high in
      let within : Within (ranges clip.column).numbers x × Within (range_of_clip clip) x = elim is [
        | inl end ↦ (record { above = omega (arith, ints, clamps); below = omega (arith, ints, clamps) }, record { above = omega (arith, ints, clamps); below = omega (arith, ints, clamps) })
        | inr end ↦ (record { above = omega (arith, ints, clamps); below = omega (arith, ints, clamps) }, record { above = omega (arith, ints, clamps); below = omega (arith, ints, clamps) })
      ] in
      gives_number x told.holds (told.number, within.0) (long x within.0) within.1

-- ---- all rows

module _ (ranges : ℕ → Ranges) (outcome : Row → Option ℤ) where
  abbrev GivesAt : ℕ → Option ℤ → Type 0
  GivesAt r o = (row : Row) × IsRowWithin (ranges r) row × (outcome row ≡ o)

  -- rows from a on with these values
  abbrev RowsGive : ℕ → ℕ → List ℤ → Type 0
  RowsGive a n values = (chosen : ℕ → Row) × ((r : ℕ) → a ≤ r → r < a + n → IsRowWithin (ranges r) (chosen r)) × (filter_map (λ r. outcome (chosen r)) (range_with_len a n) ≡ values)

  -- one more row in front
  in_front : (a n : ℕ) (o : Option ℤ) (values : List ℤ) → GivesAt a o → RowsGive (a + 1) n values → RowsGive a (suc n) (cons_option o values)
  in_front a n o values (row, within, is) (rest, rest_within, are) =
      let chosen = λ (r : ℕ). cond (r == a) row (rest r) in
      let at_a : chosen a ≡ row = cond-true (a == a) row (rest a) (eq-eqb a a refl) in
      let elsewhere : (r : ℕ) → a + 1 ≤ r → chosen r ≡ rest r =
      λ r low. cond-false (r == a) row (rest r) (ne_eqb r a (λ e. omega arith)) in (
        chosen,
        (λ r low high. elim (cases_Bool (r == a)) [
          | inl t ↦ subst (λ f. IsRowWithin (ranges r) f) (sym (cond-true (r == a) row (rest r) t)) (subst (λ s. IsRowWithin (ranges s) row) (sym (eqb-true r a t)) within)
          | inr f ↦ subst (λ g. IsRowWithin (ranges r) g) (sym (cond-false (r == a) row (rest r) f))
              (let other : ¬ (r ≡ a) = λ e. false≢true (sym f ∙ eq-eqb r a e) in
              let past : a + 1 ≤ r = omega arith in
              let below : r < a + 1 + n = omega arith in
              rest_within r past below)
        ]),
        ap (λ x. cons_option x (filter_map (λ r. outcome (chosen r)) (range_with_len (a + 1) n))) (ap outcome at_a ∙ is)
            ∙ ap (cons_option o) (filter_map_same (λ r. outcome (chosen r)) (λ r. outcome (rest r)) (a + 1) n (λ r low high. ap outcome (elsewhere r low)) ∙ are),
      )

  rows_by_pair : (a n : ℕ) (p : Option Pair) (ps : List Pair) → ((o : Option ℤ) → IsEndOrLeftOut p o → GivesAt a o) → ((os : List (Option ℤ)) → AreEndOutcomes ps os → RowsGive (a + 1) n (present os)) →
      (os : List (Option ℤ)) → AreEndOutcomes (cons_option p ps) os → RowsGive a (suc n) (present os)
  rows_by_pair a n None ps g rest os c = in_front a n None (present os) (g None refl) (rest os c)
  rows_by_pair a n (Some p) ps g rest [] c = absurd c
  rows_by_pair a n (Some p) ps g rest (o ∷ os) c = in_front a n o (present os) (g o c.0) (rest os c.1)

  -- where each row gives each choice of ends for it, rows give each choice for all
  pub rows_for_ends : (pair : ℕ → Option Pair) (m a n : ℕ) → a + n ≤ m → ((r : ℕ) → r < m → (o : Option ℤ) → IsEndOrLeftOut (pair r) o → GivesAt r o) → Row →
      (os : List (Option ℤ)) → AreEndOutcomes (filter_map pair (range_with_len a n)) os → RowsGive a n (present os)
  rows_for_ends pair m a zero h given any [] c = ((λ r. any), (λ r low high. absurd (omega arith)), refl)
  rows_for_ends pair m a zero h given any (o ∷ os) c = absurd c
  rows_for_ends pair m a (suc n) h given any os c =
      rows_by_pair a n (pair a) (filter_map pair (range_with_len (a + 1) n)) (given a (omega arith)) (λ os c. rows_for_ends pair m (a + 1) n (omega arith) given any os c) os c

pub completion_for_ends : (query : Query) (item : Aggregate) (clip : Clip) (frame : Frame) (known : Knowledge) (os : List (Option ℤ)) → IsClippedBy query item clip → HasNumbers clip → IsOfLongs frame clip.column →
    AttainsTruths query.pred [] → IsKnowledge frame known → AreEndOutcomes (map (clipped clip) (pairs query item [] frame known)) os →
    (cells : Cells) × IsCompletion frame known cells × (values_of query item [] frame cells ≡ present os)
completion_for_ends query item clip frame known os own full longs attains k ends =
    let row_ranges = ranges_of frame known in
    let pair : ℕ → Option Pair = λ r. pair_of query item [] (row_ranges r) in
    let given : (r : ℕ) → r < frame.rows → (chosen : Option ℤ) → IsEndOrLeftOut (option_map (clipped clip) (pair r)) chosen → Gives query item (row_ranges r) chosen =
    λ r r_in chosen is. (let o = ranges_ordered frame known r k r_in in
    row_reached query item clip (row_ranges r) own o attains (pair r) chosen refl (λ q e. clipped_ordered query item clip frame known r q own full longs o e) (λ x w. long_number frame known r clip.column x longs w) is) in
    let all = subst (λ ps. AreEndOutcomes ps os) (rows_clipped clip pair (range_with_len 0 frame.rows)) ends in
    let found = rows_for_ends row_ranges (outcome_of query item []) (λ r. option_map (clipped clip) (pair r)) frame.rows 0 frame.rows (omega arith) given (λ _. Some (pos 0)) os all in
    let chosen = found.0 in
    let in_ranges : (r : ℕ) → r < frame.rows → IsRowWithin (row_ranges r) (chosen r) = λ r r_in. found.1 r (omega arith) (omega arith) in
    let selection : AreValuesWithin frame known chosen = λ r c r_in c_in. in_ranges r r_in c in (
      table_of frame chosen,
      table_completes frame known chosen k selection,
      filter_map_same (λ r. outcome_of query item [] (row_of frame (table_of frame chosen) r)) (λ r. outcome_of query item [] (chosen r)) 0 frame.rows
          (λ r low high. ap (outcome_of query item []) (table_rows frame known chosen k in_ranges r (omega arith)))
          ∙ found.2,
    )
