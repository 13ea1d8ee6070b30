use Rattle.std.proofs.Common.{◌≡◌, Bool, false, List, length, replicate, sym, ap, subst, ◌∙◌, arith}
use Rattle.std.specs.Simd.Lanes.{zip2}
use Rattle.std.proofs.lemmas.List.{length-replicate}
use Rattle.topk_bounds.specs.Standings.{AreApart, standing_in}
use Rattle.topk_bounds.specs.Searches.{IsKept}
use Rattle.topk_bounds.proofs.Judging.{apart_none, none_stands}
use Rattle.topk_bounds.proofs.top.TopK.open.Goals as goal

pub invariant_of-result : goal.invariant_of-result
invariant_of-result c =
    let none = c.in_ok-none.ensures in
    let other = c.in_ok-none-2.ensures in
    let rows : length c.in_ok-none.field-0 ≡ c.args.rows = ap length none ∙ length-replicate c.args.rows false in (
      omega (arith, c.from.ensures, c.requires.some),
      subst (λ n. IsKept n c.in_ok-open.field-0) (sym rows) c.in_ok-open.ensures,
      subst (λ n. IsKept n c.in_ok-open-2.field-0) (sym rows) c.in_ok-open-2.ensures,
      subst (λ (l : List Bool). AreApart l c.in_ok-none-2.field-0) (sym none) (subst (λ (l : List Bool). AreApart (replicate c.args.rows false) l) (sym other) (apart_none c.args.rows)),
    )

pub returns-clause-standings : goal.returns-clause-standings
returns-clause-standings c =
    ap (λ (l : List Bool). zip2 standing_in l c.in_ok-none-2.field-0) (c.in_ok-none.ensures) ∙ ap (λ (l : List Bool). zip2 standing_in (replicate c.args.rows false) l) (c.in_ok-none-2.ensures) ∙ none_stands c.args.rows
