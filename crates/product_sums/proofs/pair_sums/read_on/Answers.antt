use Rattle.std.proofs.Common.{◌≡◌, ap, sym, subst, ◌∙◌}
use Rattle.product_sums.specs.declared.pair_sums.Pair.{Pair}
use Rattle.product_sums.specs.declared.pair_sums.PairSums.{PairSums}
use Rattle.query_model.specs.Knowledge.{known_at}
use Rattle.product_sums.specs.KeptProducts.{ArePairSums, IsPair, turned_pair}
use Rattle.product_sums.proofs.PairSums.{turned_are}
use Rattle.product_sums.proofs.pair_sums.read_on.Goals as goal

pub read_first-second-requires-clause-pair : goal.read_first-second-requires-clause-pair
read_first-second-requires-clause-pair c = subst (IsPair c.args.columns.now) (sym c.turned.ensures) (record { first = c.requires.pair.second; second = c.requires.pair.first })

pub read_first-second-requires-clause-sums : goal.read_first-second-requires-clause-sums
read_first-second-requires-clause-sums c =
    let table = c.args.columns.now in
    let mask = c.args.rows.now in
    subst (λ p. ArePairSums table mask p c.turned-2.result) (sym c.turned.ensures)
    (subst (ArePairSums table mask (turned_pair c.args.pair)) (sym c.turned-2.ensures) (turned_are table mask c.args.pair c.read_first-first.result c.read_first-first.ensures.sums))

pub returns : goal.returns
returns c =
    let table = c.args.columns.now in
    let mask = c.args.rows.now in
    let pair = c.args.pair in
    let back = turned_pair pair in
    let sums = subst (λ p. ArePairSums table mask p c.read_first-second.result) c.turned.ensures c.read_first-second.ensures.sums in
    let first : c.read_first-second.result.first_read ≡ (known_at table.known pair.second).read = c.read_first-second.ensures.first ∙ ap (λ (p : Pair). (known_at table.known p.first).read) c.turned.ensures in
    let second : c.read_first-second.result.second_read ≡ (known_at table.known pair.first).read = c.read_first-second.ensures.second ∙ ap (λ (s : PairSums). s.second_read) c.turned-2.ensures ∙ c.read_first-first.ensures.first in
    record {
      sums_are = subst (ArePairSums table mask pair) (sym c.turned-3.ensures) (turned_are table mask back c.read_first-second.result sums);
      all_first = ap (λ (s : PairSums). s.first_read) c.turned-3.ensures ∙ second;
      all_second = ap (λ (s : PairSums). s.second_read) c.turned-3.ensures ∙ first;
    }
