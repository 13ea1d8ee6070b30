-- Measures of the calls, and what the loops over operands keep.
use Rattle.std.proofs.Common.{◌≡◌, ◌*◌, ◌+◌, ◌-◌}
use Rattle.sql_tokens.specs.declared.token.Fixed.TheVariants as fixed
use Rattle.sql_tokens.specs.Lexeme.{views}
use Rattle.sql_text.specs.Tree.{pred_of, Both, Either}
use Rattle.sql_text.specs.Number.{is}
use Rattle.sql_text.specs.Grammar.{neg, conj}
use Rattle.sql_text.specs.Reading.{chain, turns, by}
use Rattle.sql_text.proofs.predicate.+pred.Given as goal

abbrev pub decreases-negated : goal.decreases-negated
decreases-negated l = 7 * l.levels

abbrev pub decreases-among : goal.decreases-among
decreases-among l = 7 * l.levels + 1

abbrev pub decreases-neg : goal.decreases-neg
decreases-neg l = 7 * l.levels + 2

abbrev pub decreases-more_negs : goal.decreases-more_negs
decreases-more_negs l = 7 * l.levels + 3

abbrev pub decreases-conj : goal.decreases-conj
decreases-conj l = 7 * l.levels + 4

abbrev pub decreases-more_conjs : goal.decreases-more_conjs
decreases-more_conjs l = 7 * l.levels + 5

abbrev pub decreases-pred : goal.decreases-pred
decreases-pred l = 7 * l.levels + 6

abbrev pub invariant-more_negs-loop : goal.invariant-more_negs-loop
invariant-more_negs-loop l =
    let part = by l.levels neg in
    chain (turns - l.counter) (is fixed.And) (λ a _ b. Both a b) part (pred_of l.left) (views l.rest) ≡ chain turns (is fixed.And) (λ a _ b. Both a b) part (pred_of l.fn.left) (views l.tokens)

abbrev pub invariant-more_conjs-loop : goal.invariant-more_conjs-loop
invariant-more_conjs-loop l =
    let part = by l.levels conj in
    chain (turns - l.counter) (is fixed.Or) (λ a _ b. Either a b) part (pred_of l.left) (views l.rest) ≡ chain turns (is fixed.Or) (λ a _ b. Either a b) part (pred_of l.fn.left) (views l.tokens)
