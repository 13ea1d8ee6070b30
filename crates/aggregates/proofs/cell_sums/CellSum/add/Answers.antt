use Rattle.std.proofs.Common.{◌≡◌, ◌+◌, ◌<◌, ◌==◌, ◌+ℤ◌, ◌∷◌, [], ◌++◌, ◌&&◌, true, false, cond, length, map, ap, sym, subst, ◌∙◌, arith, refl, None, Some, if◌then◌else◌}
use mir.Val.{bool_byte}
use Rattle.std.proofs.lemmas.Bool.{eq-eqb}
use Rattle.std.proofs.lemmas.Int.{ints, to_z-of_z}
use Rattle.std.specs.Int.{w64}
use Rattle.query_model.specs.declared.query.ItemKind.TheVariants.{Min, Max, Sum}
use Rattle.query_model.specs.Answers.{answer, total}
use Rattle.query_model.specs.Bounds.{Pair, certain_count, lows, highs, low_share, high_share}
use Rattle.aggregates.specs.declared.tally.Tally.{Tally}
use Rattle.aggregates.specs.Tallies.{tally_of}
use Rattle.aggregates.specs.SumsOfCells.{end_if, IsOfRows}
use Rattle.aggregates.proofs.Appending.{count-more, length-more, map-more, same_tally, total-more}
use Rattle.aggregates.proofs.SumsOfCells.{added_cell, again, end_more, end_still, high_part, high_part_of, low_part, low_part_of, most_one, one_of, room_for}
use Rattle.aggregates.proofs.cell_sums.CellSum.add.Goals as goal

pub overflow_add-self-3 : goal.overflow_add-self-3
overflow_add-self-3 c =
    let inside = c.self.inside in
    let may = c.args.may in
    let certain = c.args.certain in
    let all = ap (λ (t : Tally). t.all) c.self.view_is in
    let few = room_for may inside.all (λ is. subst (λ n. n < 16777216) (sym all) (c.requires.few is)) c.self.invariant.0 in
    let low_same : again c.args.low ≡ c.args.low = to_z-of_z w64 c.args.low c.ranges.low in
    let low = added_cell inside.all (cond may 1 0) inside.low c.low_share.result (low_part may certain c.args.low) few (most_one may) c.self.invariant.1 (low_part_of may certain c.args.low c.args.high c.requires.fits) (c.low_share.ensures ∙ ap (low_part may certain) low_same) in
    low.fits

pub overflow_add-self-4 : goal.overflow_add-self-4
overflow_add-self-4 c =
    let inside = c.self.inside in
    let may = c.args.may in
    let certain = c.args.certain in
    let all = ap (λ (t : Tally). t.all) c.self.view_is in
    let few = room_for may inside.all (λ is. subst (λ n. n < 16777216) (sym all) (c.requires.few is)) c.self.invariant.0 in
    let high_same : again c.args.high ≡ c.args.high = to_z-of_z w64 c.args.high c.ranges.high in
    let high = added_cell inside.all (cond may 1 0) inside.high c.high_share.result (high_part may certain c.args.high) few (most_one may) c.self.invariant.2 (high_part_of may certain c.args.low c.args.high c.requires.fits) (c.high_share.ensures ∙ ap (high_part may certain) high_same) in
    high.fits

pub invariant_of-self : goal.invariant_of-self
invariant_of-self c =
    let inside = c.self.inside in
    let may = c.args.may in
    let certain = c.args.certain in
    let all = ap (λ (t : Tally). t.all) c.self.view_is in
    let few = room_for may inside.all (λ is. subst (λ n. n < 16777216) (sym all) (c.requires.few is)) c.self.invariant.0 in
    let low_same : again c.args.low ≡ c.args.low = to_z-of_z w64 c.args.low c.ranges.low in
    let low = added_cell inside.all (cond may 1 0) inside.low c.low_share.result (low_part may certain c.args.low) few (most_one may) c.self.invariant.1 (low_part_of may certain c.args.low c.args.high c.requires.fits) (c.low_share.ensures ∙ ap (low_part may certain) low_same) in
    let high_same : again c.args.high ≡ c.args.high = to_z-of_z w64 c.args.high c.ranges.high in
    let high = added_cell inside.all (cond may 1 0) inside.high c.high_share.result (high_part may certain c.args.high) few (most_one may) c.self.invariant.2 (high_part_of may certain c.args.low c.args.high c.requires.fits) (c.high_share.ensures ∙ ap (high_part may certain) high_same) in
    let is : c.from.result ≡ cond may 1 0 = c.from.ensures ∙ one_of may in (
      omega (arith, is, few),
      subst (λ n. IsOfRows (inside.all + n) (again (again inside.low +ℤ again c.low_share.result))) (sym is) (subst (IsOfRows (inside.all + cond may 1 0)) (sym low.is) low.of_rows),
      subst (λ n. IsOfRows (inside.all + n) (again (again inside.high +ℤ again c.high_share.result))) (sym is) (subst (IsOfRows (inside.all + cond may 1 0)) (sym high.is) high.of_rows),
    )

pub returns-clause-added : goal.returns-clause-added
returns-clause-added c = λ comes ps was.
    let inside = c.self.inside in
    let may = c.args.may in
    let certain = c.args.certain in
    let all = ap (λ (t : Tally). t.all) c.self.view_is in
    let few = room_for may inside.all (λ is. subst (λ n. n < 16777216) (sym all) (c.requires.few is)) c.self.invariant.0 in
    let low_same : again c.args.low ≡ c.args.low = to_z-of_z w64 c.args.low c.ranges.low in
    let low = added_cell inside.all (cond may 1 0) inside.low c.low_share.result (low_part may certain c.args.low) few (most_one may) c.self.invariant.1 (low_part_of may certain c.args.low c.args.high c.requires.fits) (c.low_share.ensures ∙ ap (low_part may certain) low_same) in
    let high_same : again c.args.high ≡ c.args.high = to_z-of_z w64 c.args.high c.ranges.high in
    let high = added_cell inside.all (cond may 1 0) inside.high c.high_share.result (high_part may certain c.args.high) few (most_one may) c.self.invariant.2 (high_part_of may certain c.args.low c.args.high c.requires.fits) (c.high_share.ensures ∙ ap (high_part may certain) high_same) in
    let e = c.self.view_is ∙ was in
    let p : Pair = record { certain = certain; low = c.args.low; high = c.args.high } in
    let more = c.from-2.result in
    let one : c.from.result ≡ 1 = c.from.ensures ∙ ap bool_byte comes in
    let before : inside.certain ≡ certain_count ps = ap (λ (t : Tally). t.certain) e in
    let next : more ≡ cond certain 1 0 = c.from-2.ensures ∙ one_of (may && certain) ∙ ap (λ b. cond (b && certain) 1 0) comes in
    let counted : inside.certain + more ≡ certain_count (ps ++ p ∷ []) = ap (λ n. n + more) before ∙ sym (count-more ps p more next) in
    let rows : inside.all ≡ length ps = ap (λ (t : Tally). t.all) e in
    let again_least : again c.lesser_if-self-inside.result ≡ c.lesser_if-self-inside.result = omega (arith, ints) in
    let again_greatest : again c.greater_if-self-inside.result ≡ c.greater_if-self-inside.result = omega (arith, ints) in
    let same_least : again inside.least ≡ inside.least = omega (arith, ints, c.self.ranges) in
    let same_greatest : again inside.greatest ≡ inside.greatest = omega (arith, ints, c.self.ranges) in
    let kept : inside.certain ≡ 0 → (may && inside.certain == 0) ≡ true = λ none. ap (λ b. b && inside.certain == 0) comes ∙ eq-eqb inside.certain 0 none in
    sym (same_tally _ _ _ _ _ _ _ _ (tally_of Sum (ps ++ p ∷ []))
    counted
    (let long = length-more ps p in omega (arith, one, rows, long))
    (ap (λ n. end_if (inside.certain + more) (inside.all + n) (again c.lesser_if-self-inside.result)) one
    ∙ end_more inside.certain inside.all more inside.least (again c.lesser_if-self-inside.result) (answer Min (lows ps)) (answer Min (lows (ps ++ p ∷ [])))
    (ap (λ (t : Tally). t.least_low) e ∙ ap (λ k. if k == 0 then answer Min (lows ps) else None) (sym before))
    (λ none end. ap Some again_least ∙ c.lesser_if-self-inside.ensures.kept (kept none) (lows ps) (subst (λ n. (if inside.all == 0 then None else Some n) ≡ answer Min (lows ps)) (sym same_least) end) ∙ ap (λ m. answer Min (lows ps ++ m ∷ [])) low_same ∙ ap (answer Min) (sym (map-more (λ (q : Pair). q.low) ps p)))
    ∙ ap (λ k. if k == 0 then answer Min (lows (ps ++ p ∷ [])) else None) counted)
    (ap (λ n. end_if (inside.certain + more) (inside.all + n) (again c.greater_if-self-inside.result)) one
    ∙ end_more inside.certain inside.all more inside.greatest (again c.greater_if-self-inside.result) (answer Max (highs ps)) (answer Max (highs (ps ++ p ∷ [])))
    (ap (λ (t : Tally). t.greatest_high) e ∙ ap (λ k. if k == 0 then answer Max (highs ps) else None) (sym before))
    (λ none end. ap Some again_greatest ∙ c.greater_if-self-inside.ensures.kept (kept none) (highs ps) (subst (λ n. (if inside.all == 0 then None else Some n) ≡ answer Max (highs ps)) (sym same_greatest) end) ∙ ap (λ m. answer Max (highs ps ++ m ∷ [])) high_same ∙ ap (answer Max) (sym (map-more (λ (q : Pair). q.high) ps p)))
    ∙ ap (λ k. if k == 0 then answer Max (highs (ps ++ p ∷ [])) else None) counted)
    refl
    refl
    (low.is ∙ ap (λ z. z +ℤ low_part may certain c.args.low) (ap (λ (t : Tally). t.low_sum) e) ∙ ap (λ b. total (map low_share ps) +ℤ low_part b certain c.args.low) comes ∙ sym (total-more low_share ps p))
    (high.is ∙ ap (λ z. z +ℤ high_part may certain c.args.high) (ap (λ (t : Tally). t.high_sum) e) ∙ ap (λ b. total (map high_share ps) +ℤ high_part b certain c.args.high) comes ∙ sym (total-more high_share ps p)))

pub returns-clause-passed : goal.returns-clause-passed
returns-clause-passed c = λ stays.
    let inside = c.self.inside in
    let may = c.args.may in
    let certain = c.args.certain in
    let all = ap (λ (t : Tally). t.all) c.self.view_is in
    let few = room_for may inside.all (λ is. subst (λ n. n < 16777216) (sym all) (c.requires.few is)) c.self.invariant.0 in
    let low_same : again c.args.low ≡ c.args.low = to_z-of_z w64 c.args.low c.ranges.low in
    let low = added_cell inside.all (cond may 1 0) inside.low c.low_share.result (low_part may certain c.args.low) few (most_one may) c.self.invariant.1 (low_part_of may certain c.args.low c.args.high c.requires.fits) (c.low_share.ensures ∙ ap (low_part may certain) low_same) in
    let high_same : again c.args.high ≡ c.args.high = to_z-of_z w64 c.args.high c.ranges.high in
    let high = added_cell inside.all (cond may 1 0) inside.high c.high_share.result (high_part may certain c.args.high) few (most_one may) c.self.invariant.2 (high_part_of may certain c.args.low c.args.high c.requires.fits) (c.high_share.ensures ∙ ap (high_part may certain) high_same) in
    let view = c.self.view_is in
    let none : c.from.result ≡ 0 = c.from.ensures ∙ ap bool_byte stays in
    let nothing : c.from-2.result ≡ 0 = c.from-2.ensures ∙ ap (λ b. bool_byte (b && certain)) stays in
    let again_least : again c.lesser_if-self-inside.result ≡ c.lesser_if-self-inside.result = omega (arith, ints) in
    let again_greatest : again c.greater_if-self-inside.result ≡ c.greater_if-self-inside.result = omega (arith, ints) in
    let same_least : again inside.least ≡ inside.least = omega (arith, ints, c.self.ranges) in
    let same_greatest : again inside.greatest ≡ inside.greatest = omega (arith, ints, c.self.ranges) in
    let unkept : (may && inside.certain == 0) ≡ false = ap (λ b. b && inside.certain == 0) stays in
    sym (same_tally _ _ _ _ _ _ _ _ c.args.self.now
    (let is = ap (λ (t : Tally). t.certain) view in omega (arith, nothing, is))
    (let is = ap (λ (t : Tally). t.all) view in omega (arith, none, is))
    (end_still inside.certain inside.all _ _ inside.least _ nothing none (again_least ∙ c.lesser_if-self-inside.ensures.still unkept ∙ same_least) ∙ ap (λ (t : Tally). t.least_low) view)
    (end_still inside.certain inside.all _ _ inside.greatest _ nothing none (again_greatest ∙ c.greater_if-self-inside.ensures.still unkept ∙ same_greatest) ∙ ap (λ (t : Tally). t.greatest_high) view)
    (ap (λ (t : Tally). t.least_certain_high) view)
    (ap (λ (t : Tally). t.greatest_certain_low) view)
    (low.is ∙ ap (λ b. inside.low +ℤ low_part b certain c.args.low) stays ∙ (let is = ap (λ (t : Tally). t.low_sum) view in omega (arith, ints, is)))
    (high.is ∙ ap (λ b. inside.high +ℤ high_part b certain c.args.high) stays ∙ (let is = ap (λ (t : Tally). t.high_sum) view in omega (arith, ints, is))))
