use Rattle.std.proofs.Common.{◌≡◌, ◌≤◌, ℕ, false, nat_lt, length, map, refl, ap, arith}
use Rattle.std.proofs.lemmas.Bool.{or_parts}
use Rattle.std.proofs.lemmas.Bool.Decides.{nat_tests}
use Rattle.kleene_filter.specs.Filters.{is_certain, is_possible}
use Rattle.round_engine.proofs.SelectedPairs.{has_each}
use Rattle.round_engine.proofs.selection.leaves_out.Goals as goal

pub returns-clause-each : goal.returns-clause-each
returns-clause-each c = λ no.
    let truths = c.args.filter.now.truths in
    let must = map is_certain truths in
    let counts = c.counts_of.ensures (record { may = map is_possible truths; must = must }) refl refl in
    let parts = or_parts c.nullable.result (nat_lt c.counts_of.result.fewest c.rows-each.result) no in
    has_each must (omega (arith, not_below c.counts_of.result.fewest c.rows-each.result parts.1, counts.fewest, c.rows-each.ensures, ap length c.must.ensures))
  where
    not_below : (n m : ℕ) → nat_lt n m ≡ false → m ≤ n
    not_below n m e = grind (arith, nat_tests)
