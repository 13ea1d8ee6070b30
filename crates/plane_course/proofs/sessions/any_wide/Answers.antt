-- One query more that is finished.
use Rattle.std.proofs.Common.{◌≡◌, ◌⊎◌, inl, inr, ℕ, ◌+◌, ◌<◌, ◌≤◌, ◌&&◌, Bool, true, Some, None, List, length, get_or, take, sym, ap, ◌∙◌, subst, arith, IsTrue, slice_get}
use Rattle.std.proofs.lemmas.List.Folds.{list_all_more}
use Rattle.std.proofs.lemmas.Option.{slice_get_cases}
use Rattle.std.specs.List.{list_all}
use Rattle.std.specs.Prelude.{IfSome}
use Rattle.round_engine.specs.Narrowness.{is_narrow}
use Rattle.round_engine.specs.Stages.{Stage}
use Rattle.plane_course.proofs.sessions.any_wide.Goals as goal

both : (a b : Bool) → IsTrue a → IsTrue b → IsTrue (a && b)
both a b ea eb = ap (λ x. x && b) ea ∙ eb

narrow_more : (test : Stage → Bool) (stages : List Stage) (n : ℕ) → n < length stages → IsTrue (list_all test (take n stages)) → IfSome (slice_get stages n) (λ stage. true ≡ test stage) →
    IsTrue (list_all test (take (n + 1) stages))
narrow_more test stages n h before here = by (slice_get_cases stages n).1
  where
    by : ((stage : Stage) × (n < length stages) × (slice_get stages n ≡ Some stage) × (get_or stages n stage ≡ stage)) ⊎ ((length stages ≤ n) × (slice_get stages n ≡ None)) →
        IsTrue (list_all test (take (n + 1) stages))
    by (inl (stage, inside, is, same)) =
        let narrow : true ≡ test stage = subst (λ o. IfSome o (λ stage. true ≡ test stage)) is here in
        list_all_more test stages n stage inside ∙ both (list_all test (take n stages)) (test (get_or stages n stage)) before (ap test same ∙ sym narrow)
    by (inr (past, none)) = absurd (omega (arith, past, h))

pub loop-query-preserved : goal.loop-query-preserved
loop-query-preserved c =
    let s = c.args.session.now in
    let inside : c.loop-query.query < length s.stages = (let test = c.loop-query-test.true in let all = c.queries-query-end.ensures in omega (arith, test, all)) in
    narrow_more (is_narrow s.near) s.stages c.loop-query.query inside c.loop-query.invariant
    (subst (λ b. IfSome (slice_get s.stages c.loop-query.query) (λ stage. b ≡ is_narrow s.near stage)) c.if-not-finished.false c.finished.ensures)
