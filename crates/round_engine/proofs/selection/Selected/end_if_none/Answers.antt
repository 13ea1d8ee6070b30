use Rattle.std.proofs.Common.{ap, sym, ◌∙◌, arith}
use Rattle.aggregates.specs.Selections.{ends_in}
use Rattle.aggregates.proofs.Appending.{if_none}
use Rattle.round_engine.specs.Selected.{pairs_in}
use Rattle.round_engine.specs.SumEnds.{ends_of, outermost}
use Rattle.round_engine.proofs.SelectedBounds.{ends_are}
use Rattle.round_engine.proofs.selection.Selected.end_if_none.Goals as goal

pub returns-then-certain-eq0 : goal.returns-then-certain-eq0
returns-then-certain-eq0 c =
    let end = c.args.end in
    let column = c.args.known.now in
    let selection = c.args.self.now in
    c.outermost.ensures ∙ ap (λ s. outermost end (ends_in end column s.may)) c.self.view_is ∙ ap (outermost end) (ends_are column selection c.requires end)
    ∙ sym (if_none c.args.certain (outermost end (ends_of end (pairs_in column selection))) (omega arith))
