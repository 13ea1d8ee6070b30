use Rattle.std.proofs.Common.{◌≡◌, length, ap, subst, arith}
use Rattle.query_model.specs.Queries.{condition_of}
use Rattle.kleene_filter.specs.Filters.{truths_under}
use Rattle.kleene_filter.specs.Masks.{atoms_of, AreMasksOf}
use Rattle.kleene_filter.proofs.TruthBits.{masks_nest, masks_tell}
use Rattle.kleene_filter.proofs.filter.Filter.open.Goals as goal

pub invariant_of-result : goal.invariant_of-result
invariant_of-result c = record {
  nested = rw (c.in_ok-truths.ensures.must, c.in_ok-truths.ensures.may) (masks_nest (truths_under (condition_of c.args.pred.now) c.args.columns.now));
  kept = c.in_ok-truths.ensures.kept;
}

pub returns-clause-stands : goal.returns-clause-stands
returns-clause-stands c =
    let pred = condition_of c.args.pred.now in
    let adds = c.in_ok-open_each.ensures.adds in
    let none : length c.new-masks.result.items ≡ 0 = ap length c.new-masks.ensures.items in
    record {
      truths = rw (c.in_ok-truths.ensures.must, c.in_ok-truths.ensures.may) (masks_tell (truths_under pred c.args.columns.now));
      count = (let all = adds.count in omega arith);
      masks = subst (λ n. AreMasksOf c.open_each.new.masks.items n (atoms_of pred) c.args.columns.now) none adds.added;
      known = c.rows-rows.ensures.known;
    }
