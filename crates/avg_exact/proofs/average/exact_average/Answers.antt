use Rattle.std.proofs.Common.{◌≡◌, [], subst, sym, ap, ◌∙◌}
use Rattle.daq_table.specs.declared.table_head.Head.{Head}
use Rattle.daq_table.specs.Tables.{frame_of}
use Rattle.query_model.specs.Bounds.{AverageBound, average_under, fractions_of}
use Rattle.query_model.specs.Validity.{FitsHead}
use Rattle.avg_exact.specs.declared.exact.Exact.{Exact}
use Rattle.avg_exact.specs.ExactAverages.{Choice, IsCutOf, exact_average_of, exact_under, high_end}
use Rattle.avg_exact.specs.Passes.{choice_shown, item_at, uncertain_count}
use Rattle.avg_exact.specs.Promises.{IsCertainExact}
use Rattle.avg_exact.proofs.Assembled.{assembled, for_item, high_rows, low_choice, low_cut_of, pairs_at}
use Rattle.avg_exact.proofs.HighEnds.{high_cut_of}
use Rattle.avg_exact.proofs.Certain.{exact_is_certain}
use Rattle.avg_exact.proofs.ListEnds.{average_word}
use Rattle.avg_exact.proofs.RowPasses.{of_item}
use Rattle.avg_exact.proofs.average.exact_average.Goals as goal

pub returns-clause-exact : goal.returns-clause-exact
returns-clause-exact c =
    let stage = c.args.engine.now in
    let item = c.args.item in
    let ps = pairs_at stage item in
    let bound = of_item stage item (λ i. fractions_of c.average.result ≡ average_under stage.query i [] stage.frame stage.known) c.requires.item c.average.ensures.bound in
    let found : Exact = record {
      null = c.average.result.null;
      lo = c.average-2.result;
      hi = c.average-3.result;
      unknown = c.count_uncertain.result;
      low_taken = c.negated-low.result.taken;
      high_taken = c.best_choice-high.result.taken;
      low_cut = c.negated-low.result.cut;
      high_cut = c.best_choice-high.result.cut;
    } in
    for_item stage item (λ i. exact_average_of found ≡ exact_under stage.query i stage.frame stage.known) c.requires.item
    (assembled ps c.average.result.null (choice_shown c.negated-low.result) (choice_shown c.best_choice-high.result) c.count_uncertain.result
    c.average-2.result.num c.average-3.result.num c.average-2.result.den c.average-3.result.den
    (ap (λ (b : AverageBound). b.null) bound ∙ average_word ps)
    (low_choice stage item (choice_shown c.negated-low.result) (choice_shown c.best_choice.result) c.negated-low.ensures.choice c.best_choice.ensures.best)
    (c.best_choice-high.ensures.best ∙ ap high_end (high_rows stage item))
    (c.count_uncertain.ensures ∙ ap uncertain_count (high_rows stage item))
    c.average-2.ensures.num c.average-2.ensures.den c.average-3.ensures.num c.average-3.ensures.den)

pub returns-clause-certain : goal.returns-clause-certain
returns-clause-certain c =
    let stage = c.args.engine.now in
    for_item stage c.args.item (λ i. (head : Head) → FitsHead stage.query stage.frame head → IsCertainExact stage i (frame_of head)) c.requires.item
    (λ head fits. exact_is_certain stage (item_at stage c.args.item) head c.query-open.ensures.knowledge fits)

pub returns-clause-cuts : goal.returns-clause-cuts
returns-clause-cuts c =
    let stage = c.args.engine.now in
    let ps = pairs_at stage c.args.item in
    let low = low_choice stage c.args.item (choice_shown c.negated-low.result) (choice_shown c.best_choice.result) c.negated-low.ensures.choice c.best_choice.ensures.best in
    let high = c.best_choice-high.ensures.best ∙ ap high_end (high_rows stage c.args.item) in (
      subst (λ (e : Choice). IsCutOf e.cut e.taken) (sym low) (low_cut_of ps),
      subst (λ (e : Choice). IsCutOf e.cut e.taken) (sym high) (high_cut_of ps),
    )
