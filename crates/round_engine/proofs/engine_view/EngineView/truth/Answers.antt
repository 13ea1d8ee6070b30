use Rattle.std.proofs.Common.{length, ap, ◌∙◌, arith}
use Rattle.kleene_filter.specs.Filters.{is_certain, is_possible}
use Rattle.round_engine.proofs.MaskTruths.{told_true, told_unknown, told_false}
use Rattle.round_engine.proofs.Kept.{judged_at, bit_at, rows_judged}
use Rattle.round_engine.proofs.engine_view.EngineView.truth.Goals as goal

pub get-requires : goal.get-requires
get-requires c =
    let e = c.self.inside in
    let stage = c.args.self.now in
    let judged = judged_at e.columns e.follower.now stage c.self.invariant c.self.view_is in
    omega (arith, rows_judged stage e.follower.now.state.filter.truths is_certain judged, ap length c.must.ensures, c.requires)

pub get-requires-else-get : goal.get-requires-else-get
get-requires-else-get c =
    let e = c.self.inside in
    let stage = c.args.self.now in
    let judged = judged_at e.columns e.follower.now stage c.self.invariant c.self.view_is in
    omega (arith, rows_judged stage e.follower.now.state.filter.truths is_possible judged, ap length c.may.ensures, c.requires)

pub returns-then-get : goal.returns-then-get
returns-then-get c =
    let e = c.self.inside in
    let stage = c.args.self.now in
    let judged = judged_at e.columns e.follower.now stage c.self.invariant c.self.view_is in
    told_true _ (bit_at stage e.follower.now.state.filter.truths is_certain c.args.row c.must.result.now c.get.result judged c.must.ensures c.get.ensures ∙ c.if-get.true)

pub returns-then-get-2 : goal.returns-then-get-2
returns-then-get-2 c =
    let e = c.self.inside in
    let stage = c.args.self.now in
    let judged = judged_at e.columns e.follower.now stage c.self.invariant c.self.view_is in
    told_unknown _ (bit_at stage e.follower.now.state.filter.truths is_certain c.args.row c.must.result.now c.get.result judged c.must.ensures c.get.ensures ∙ c.if-get.false)
    (bit_at stage e.follower.now.state.filter.truths is_possible c.args.row c.may.result.now c.get-else-get.result judged c.may.ensures c.get-else-get.ensures ∙ c.if-get-2.true)

pub returns-else-get-2 : goal.returns-else-get-2
returns-else-get-2 c =
    let e = c.self.inside in
    let stage = c.args.self.now in
    let judged = judged_at e.columns e.follower.now stage c.self.invariant c.self.view_is in
    told_false _ (bit_at stage e.follower.now.state.filter.truths is_possible c.args.row c.may.result.now c.get-else-get.result judged c.may.ensures c.get-else-get.ensures ∙ c.if-get-2.false)
