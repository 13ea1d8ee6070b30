use Rattle.std.proofs.Common.{◌≡◌, ◌==◌, ℕ, true, sym, arith}
use Rattle.std.proofs.lemmas.Bool.Decides.{nat_tests}
use Rattle.aggregates.proofs.KeptSums.{both_full}
use Rattle.aggregates.proofs.kept_sum.KeptSum.is_full.Goals as goal

equal_numbers : (n m : ℕ) → (n == m) ≡ true → n ≡ m
equal_numbers n m e = grind (arith, nat_tests)

pub returns-then-self-rows : goal.returns-then-self-rows
returns-then-self-rows c = λ full.
    let own : c.args.self.now.count ≡ c.rows-rows.result = c.if-self-rows.true in
    let other = equal_numbers c.count.result c.rows-rows.result full in
    both_full c.args.self.now.mask c.args.mask.now (sym c.requires.rows) (omega (arith, own, c.requires.count, c.rows-rows.ensures, c.requires.rows)) (omega (arith, other, c.count.ensures, c.rows-rows.ensures))
