use Rattle.std.proofs.Common.{◌≤◌, false, length, count_by, ap, sym, ◌∙◌, arith}
use Rattle.std.proofs.lemmas.List.{length-replicate}
use Rattle.aggregates.proofs.KeptSums.{count-none}
use Rattle.query_model.specs.Knowledge.{known_at}
use Rattle.product_sums.specs.declared.pair_sums.PairSums.{PairSums}
use Rattle.product_sums.proofs.PairSums.{none_are}
use Rattle.product_sums.proofs.kept_pair.KeptPair.open.Goals as goal

pub returns-clause-kept : goal.returns-clause-kept
returns-clause-kept c = λ table pair rows is.
    let none = c.none-2.ensures in
    let no_first : c.none-2.result.first_read ≤ (known_at table.known pair.first).read = omega (arith, ap (λ (s : PairSums). s.first_read) none) in
    let no_second : c.none-2.result.second_read ≤ (known_at table.known pair.second).read = omega (arith, ap (λ (s : PairSums). s.second_read) none) in
    none_are table c.in_ok-none.field-0 pair _ (ap length c.in_ok-none.ensures ∙ length-replicate c.args.rows false ∙ sym rows) (ap (count_by (λ b. b)) c.in_ok-none.ensures ∙ count-none c.args.rows) no_first no_second
    (ap (λ (s : PairSums). s.first) none) (ap (λ (s : PairSums). s.second) none) (ap (λ (s : PairSums). s.both) none)
