use Rattle.std.proofs.Common.{false, true, length, replicate, count_by, ap, sym, ◌∙◌, arith}
use Rattle.std.proofs.lemmas.List.{length-replicate}
use Rattle.aggregates.specs.Selections.{sum_of_first}
use Rattle.aggregates.proofs.KeptSums.{count-none, sum_of_none}
use Rattle.aggregates.proofs.kept_sum.KeptSum.open.Goals as goal

pub returns-clause-kept : goal.returns-clause-kept
returns-clause-kept c = λ column rows. record {
  rows = ap length c.in_ok-none.ensures ∙ length-replicate c.args.rows false ∙ sym rows;
  count = sym (ap (count_by (λ b. b)) c.in_ok-none.ensures ∙ count-none c.args.rows);
  some_read = omega arith;
  adds = sym (ap (sum_of_first column 0) c.in_ok-none.ensures ∙ sum_of_none c.args.rows _);
}

pub returns-clause-moves : goal.returns-clause-moves
returns-clause-moves c =
    let long = ap length c.in_ok-all.ensures ∙ length-replicate c.div_ceil.result true in
    record { room = omega (arith, long); tight = omega (arith, long); each = c.in_ok-all.ensures ∙ ap (λ n. replicate n true) (sym long) }
