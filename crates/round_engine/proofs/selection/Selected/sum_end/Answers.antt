use Rattle.std.proofs.Common.{◌≡◌, ◌+◌, ◌<◌, ◌||◌, ◌+ℤ◌, pos, nat_lt, ℕ, Bool, true, false, refl, length, inl, inr, count_by, to_z, of_z, sym, ap, subst, ◌∙◌, arith}
use Rattle.std.specs.Int.{w128}
use Rattle.std.specs.Option.{unwrap_or}
use Rattle.std.proofs.lemmas.Bool.{cases_Bool, false≢true}
use Rattle.std.proofs.lemmas.Bool.Decides.{nat_tests}
use Rattle.std.proofs.lemmas.Int.{ints}
use Rattle.aggregates.specs.Widening.{CoverOthers}
use Rattle.aggregates.specs.Selections.{ends_in, MayHaveValues}
use Rattle.query_model.specs.Answers.{total}
use Rattle.round_engine.specs.declared.selection.Selection.{Selection}
use Rattle.round_engine.specs.SumEnds.{outermost, widening_rows}
use Rattle.round_engine.proofs.SelectedBounds.{one_alone, shares_are, sum_of_shares}
use Rattle.round_engine.proofs.selection.Selected.sum_end.Goals as goal

pub sum_others-others-requires : goal.sum_others-others-requires
sum_others-others-requires c =
    let is = c.requires.selection in
    record {
      may = ap (λ (s : Selection). length s.may) c.self.view_is ∙ is.rows.may;
      must = ap (λ (s : Selection). length s.must) c.self.view_is ∙ is.rows.must;
      values = subst (λ (s : Selection). MayHaveValues c.args.known.now s.may) (sym c.self.view_is) is.values;
      blocks = subst (λ (s : Selection). CoverOthers s.may s.must c.args.blocks.now) (sym c.self.view_is) c.requires.blocks;
    }

pub returns-then-stands : goal.returns-then-stands
returns-then-stands c =
    let end = c.args.end in
    let column = c.args.known.now in
    let selection = c.args.self.now in
    let others = widening_rows end column selection in
    let must = ap (λ (s : Selection). count_by (λ b. b) s.must) c.self.view_is in
    let rows : c.sum_others-others.result.rows ≡ count_by (λ b. b) others = c.sum_others-others.ensures.rows ∙ ap (λ (s : Selection). count_by (λ b. b) (widening_rows end column s)) c.self.view_is in
    let sum : c.sum_others-others.result.sum ≡ total (ends_in end column others) = c.sum_others-others.ensures.sum ∙ ap (λ (s : Selection). total (ends_in end column (widening_rows end column s))) c.self.view_is in
    let some : 0 < count_by (λ b. b) selection.must + count_by (λ b. b) others = elim (cases_Bool c.has_rows.result) [
      | inl t ↦ omega (arith, must, c.has_rows.ensures.some t)
      | inr f ↦ omega (arith, rows, more c.sum_others-others.result.rows (ap (λ b. b || nat_lt 0 c.sum_others-others.result.rows) (sym f) ∙ c.if-stands.true))
    ] in
    let whole : to_z w128 (of_z w128 (to_z w128 (of_z w128 c.args.certain) +ℤ to_z w128 (of_z w128 c.sum_others-others.result.sum))) ≡ c.args.certain +ℤ c.sum_others-others.result.sum =
    omega (arith, ints, c.requires.small, c.sum_others-others.ensures.few) in
    record {
      sum = whole ∙ ap (λ z. z +ℤ c.sum_others-others.result.sum) c.requires.certain ∙ ap (λ z. total (ends_in end column selection.must) +ℤ z) sum
          ∙ shares_are column selection c.requires.selection end others refl ∙ sum_of_shares column selection c.requires.selection end others refl some;
    }
  where
    more : (n : ℕ) → (false || nat_lt 0 n) ≡ true → 0 < n
    more n e = grind (arith, nat_tests)

pub returns-else-stands : goal.returns-else-stands
returns-else-stands c =
    let end = c.args.end in
    let column = c.args.known.now in
    let selection = c.args.self.now in
    let others = widening_rows end column selection in
    let same : to_z w128 (of_z w128 c.unwrap_or.result) ≡ c.unwrap_or.result = omega (arith, ints) in
    let must = ap (λ (s : Selection). count_by (λ b. b) s.must) c.self.view_is in
    let rows : c.sum_others-others.result.rows ≡ count_by (λ b. b) others = c.sum_others-others.ensures.rows ∙ ap (λ (s : Selection). count_by (λ b. b) (widening_rows end column s)) c.self.view_is in
    let parts = neither c.has_rows.result c.sum_others-others.result.rows c.if-stands.false in
    let none : count_by (λ b. b) selection.must + count_by (λ b. b) others ≡ 0 = omega (arith, must, c.has_rows.ensures.none parts.0, rows, parts.1) in
    record {
      sum = same ∙ c.unwrap_or.ensures ∙ ap (λ o. unwrap_or o (pos 0)) (c.outermost.ensures ∙ ap (λ (s : Selection). outermost end (ends_in end column s.may)) c.self.view_is)
          ∙ one_alone column selection c.requires.selection end others refl none;
    }
  where
    neither : (b : Bool) (n : ℕ) → (b || nat_lt 0 n) ≡ false → (b ≡ false) × (n ≡ 0)
    neither true n e = absurd (false≢true (sym e))
    neither false n e = (refl, grind (arith, nat_tests))
