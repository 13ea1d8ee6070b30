use Rattle.std.proofs.Common.{arith}
use Rattle.kleene_filter.proofs.Judged.{settled_if}
use Rattle.kleene_filter.proofs.truth_masks.KeptTruths.of.Goals as goal

pub returns-clause-kept : goal.returns-clause-kept
returns-clause-kept c =
    let masks = c.args.masks in
    record {
      settled = settled_if c.args.is_decided masks.must masks.may c.in_ok-undecided.undecided c.div_ceil.result c.requires.decided c.in_ok-undecided.ensures c.requires.rows (omega arith) (omega arith);
      certain = c.count-certain.ensures;
      possible = c.count-possible.ensures;
    }
