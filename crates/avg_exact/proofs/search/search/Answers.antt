use Rattle.std.proofs.Common.{rules, None, Some, FitsSigned, ◌∙◌, arith, to_z, of_z}
use Rattle.std.specs.Int.{w128}
use Rattle.std.proofs.lemmas.Int.{to_z-of_z}
use Rattle.avg_exact.specs.Passes.{all_rows}
use Rattle.avg_exact.proofs.Searches.{IsPass, mean_few, mean_of, rises_to, same_numbers, search_is_done, still_some, taken_shrinks}
use Rattle.avg_exact.proofs.search.search.Goals as goal

pub count_above-best-requires-clause-small : goal.count_above-best-requires-clause-small
count_above-best-requires-clause-small c =
    mean_few c.args.engine.now c.args.item c.args.end None c.mean-over.result
    (mean_of c.mean-over.result c.args.certain None (all_rows c.args.engine.now c.args.item c.args.end) c.requires.certain c.mean-over.ensures.num c.mean-over.ensures.den)

pub loop-best-init : goal.loop-best-init
loop-best-init c =
    let ps = all_rows c.args.engine.now c.args.item c.args.end in
    let mean = mean_of c.mean-over.result c.args.certain None ps c.requires.certain c.mean-over.ensures.num c.mean-over.ensures.den in
    record {
      tallied = c.count_above-best.ensures.tally;
      some = still_some c.args.certain (Some c.mean-over.result) ps c.count_above-best.result c.requires.certain c.requires.some c.count_above-best.ensures.tally;
      few = mean_few c.args.engine.now c.args.item c.args.end None c.mean-over.result mean;
      rises = rises_to None c.mean-over.result ps c.count_above-best.result mean c.count_above-best.ensures.tally;
      turns = c.count_above-best.ensures.small;
    }

pub count_above-next-requires-clause-small : goal.count_above-next-requires-clause-small
count_above-next-requires-clause-small c =
    mean_few c.args.engine.now c.args.item c.args.end (Some c.loop-best.over) c.mean-average.result
    (mean_of c.mean-average.result c.loop-best.best (Some c.loop-best.over) (all_rows c.args.engine.now c.args.item c.args.end) c.loop-best.invariant.tallied c.mean-average.ensures.num c.mean-average.ensures.den)

pub loop-best-smaller : goal.loop-best-smaller
loop-best-smaller c =
    let pass : IsPass c.loop-best.over c.mean-average.result c.loop-best.best c.count_above-next.result (all_rows c.args.engine.now c.args.item c.args.end) = record {
      best_is = c.loop-best.invariant.tallied;
      next_is = c.count_above-next.ensures.tally;
      num = c.mean-average.ensures.num;
      den = c.mean-average.ensures.den;
      rises = c.loop-best.invariant.rises;
    } in
    let fewer = taken_shrinks c.loop-best.over c.mean-average.result c.loop-best.best c.count_above-next.result (all_rows c.args.engine.now c.args.item c.args.end) (omega (arith, c.loop-best.over.divisible)) pass in
    omega (arith, fewer, c.if-next-best.false)

pub loop-best-preserved : goal.loop-best-preserved
loop-best-preserved c =
    let ps = all_rows c.args.engine.now c.args.item c.args.end in
    let over = Some c.loop-best.over in
    let mean = mean_of c.mean-average.result c.loop-best.best over ps c.loop-best.invariant.tallied c.mean-average.ensures.num c.mean-average.ensures.den in
    record {
      tallied = c.count_above-next.ensures.tally;
      some = still_some c.args.certain (Some c.mean-average.result) ps c.count_above-next.result c.requires.certain c.requires.some c.count_above-next.ensures.tally;
      few = mean_few c.args.engine.now c.args.item c.args.end over c.mean-average.result mean;
      rises = rises_to over c.mean-average.result ps c.count_above-next.result mean c.count_above-next.ensures.tally;
      turns = c.count_above-next.ensures.small;
    }

pub returns-clause-best : goal.returns-clause-best
returns-clause-best c =
    let ps = all_rows c.args.engine.now c.args.item c.args.end in
    let pass : IsPass c.loop-best.over c.mean-average.result c.loop-best.best c.count_above-next.result ps = record {
      best_is = c.loop-best.invariant.tallied;
      next_is = c.count_above-next.ensures.tally;
      num = c.mean-average.ensures.num;
      den = c.mean-average.ensures.den;
      rises = c.loop-best.invariant.rises;
    } in
    let fits : FitsSigned w128 c.loop-best.best.sum = search rules in
    same_numbers c.least_above.result _ (to_z w128 (of_z w128 c.loop-best.best.sum)) c.loop-best.best.sum c.loop-best.best.rows c.loop-best.best.taken
    c.least_above.ensures.least (to_z-of_z w128 c.loop-best.best.sum fits)
    ∙ search_is_done c.loop-best.over c.mean-average.result c.args.certain c.loop-best.best c.count_above-next.result ps (omega (arith, c.loop-best.over.divisible)) pass
    c.requires.certain c.requires.some c.if-next-best.true
