use Rattle.std.proofs.Common.{◌≡◌, ◌-◌, map, count_by, sym, ap, ◌∙◌, arith}
use Rattle.kleene_filter.specs.Filters.{is_certain, is_possible}
use Rattle.round_engine.proofs.Masked.{count_parted, count_tested}
use Rattle.round_engine.proofs.selection.counts_of.Goals as goal

pub overflow_sub-result : goal.overflow_sub-result
overflow_sub-result c = (let truths = c.args.filter.now.truths in omega (arith, c.possible-most.ensures, c.unknown.ensures, count_parted truths))

pub returns : goal.returns
returns c = λ rows may must.
    let truths = c.args.filter.now.truths in
    let certain : c.possible-most.result - c.unknown.result ≡ count_by (λ b. b) (map is_certain truths) =
    omega (arith, c.possible-most.ensures, c.unknown.ensures, count_parted truths, count_tested is_certain truths) in
    record {
      most = c.possible-most.ensures ∙ count_tested is_possible truths ∙ sym (ap (count_by (λ b. b)) may);
      fewest = certain ∙ sym (ap (count_by (λ b. b)) must);
    }
