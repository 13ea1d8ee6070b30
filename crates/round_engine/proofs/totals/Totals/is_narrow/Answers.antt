use Rattle.std.proofs.Common.{◌≡◌, ◌<◌, true, length, take, sym, ap, subst, ◌∙◌, arith, get_or}
use Rattle.std.specs.List.{list_all}
use Rattle.std.proofs.Math.Seq.{take-length}
use Rattle.std.proofs.lemmas.List.Folds.{list_all_at}
use Rattle.round_engine.specs.Narrowness.{is_narrow_of}
use Rattle.round_engine.proofs.Narrow.{each_fits, narrow_all}
use Rattle.round_engine.proofs.Places.{read_there}
use Rattle.round_engine.proofs.totals.Totals.is_narrow.Goals as goal

pub is_narrow-requires : goal.is_narrow-requires
is_narrow-requires c =
    let bounds = c.args.self.now.bounds.items in
    let read = c.deref-bound-items.result.now in
    let n = c.loop-bound.bound-index in
    let same : read ≡ bounds = c.deref-bound-items.ensures.value in
    let inside : n < length bounds = omega (arith, c.loop-bound-test.true, ap length same) in
    each_fits bounds n c.args.near.width c.bound-item.result c.pairs_are_few.ensures c.requires.totals c.requires.width (read_there bounds read n c.bound-item.result inside same c.bound-item.is)

pub returns-then-not-is_narrow : goal.returns-then-not-is_narrow
returns-then-not-is_narrow c = λ stage plain are.
    let bounds = c.args.self.now.bounds.items in
    let f = is_narrow_of c.args.near.width in
    let n = c.loop-bound.bound-index in
    let bound = c.bound-item.result in
    let same : c.deref-bound-items.result.now ≡ bounds = c.deref-bound-items.ensures.value in
    let inside : n < length bounds = omega (arith, c.loop-bound-test.true, ap length same) in
    let read : bound ≡ get_or bounds n bound = c.bound-item.is ∙ ap (λ xs. get_or xs n bound) same in
    sym (list_all_at f bounds n bound inside (ap f (sym read) ∙ sym c.is_narrow.ensures ∙ c.if-not-is_narrow.true)) ∙ narrow_all c.args.near stage bounds plain are

pub returns : goal.returns
returns c = λ stage plain are.
    let bounds = c.args.self.now.bounds.items in
    let f = is_narrow_of c.args.near.width in
    let n = c.loop-bound.bound-index in
    let same : c.deref-bound-items.result.now ≡ bounds = c.deref-bound-items.ensures.value in
    let end : n ≡ length bounds = omega (arith, c.loop-bound-test.false, c.loop-bound.auto.bound-index-end, ap length same) in
    let all : list_all f (take (length bounds) bounds) ≡ true = subst (λ k. list_all f (take k bounds) ≡ true) end c.loop-bound.invariant in
    sym (ap (list_all f) (sym (take-length bounds)) ∙ all) ∙ narrow_all c.args.near stage bounds plain are
