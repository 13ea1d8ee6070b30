-- Measures of the calls, and what the loops over operands keep.
use Rattle.std.proofs.Common.{◌≡◌, ◌*◌, ◌+◌, ◌-◌}
use Rattle.sql_tokens.specs.declared.token.Fixed.TheVariants.{Star}
use Rattle.sql_tokens.specs.Lexeme.{views}
use Rattle.sql_text.specs.Tree.{expr_of, Mul}
use Rattle.sql_text.specs.Number.{is, is_sum}
use Rattle.sql_text.specs.Grammar.{joined, factor, term}
use Rattle.sql_text.specs.Reading.{chain, turns, by}
use Rattle.sql_text.proofs.expression.+expr.Given as goal

abbrev pub decreases-group : goal.decreases-group
decreases-group l = 6 * l.levels

abbrev pub decreases-factor : goal.decreases-factor
decreases-factor l = 6 * l.levels + 1

abbrev pub decreases-more_factors : goal.decreases-more_factors
decreases-more_factors l = 6 * l.levels + 2

abbrev pub decreases-term : goal.decreases-term
decreases-term l = 6 * l.levels + 3

abbrev pub decreases-more_terms : goal.decreases-more_terms
decreases-more_terms l = 6 * l.levels + 4

abbrev pub decreases-expr : goal.decreases-expr
decreases-expr l = 6 * l.levels + 5

abbrev pub invariant-more_factors-loop : goal.invariant-more_factors-loop
invariant-more_factors-loop l =
    let part = by l.levels factor in
    chain (turns - l.counter) (is Star) (λ a at b. Mul at a b) part (expr_of l.left) (views l.rest) ≡ chain turns (is Star) (λ a at b. Mul at a b) part (expr_of l.fn.left) (views l.tokens)

abbrev pub invariant-more_terms-loop : goal.invariant-more_terms-loop
invariant-more_terms-loop l =
    let part = by l.levels term in
    chain (turns - l.counter) is_sum (λ a minus b. joined minus a b) part (expr_of l.left) (views l.rest) ≡ chain turns is_sum (λ a minus b. joined minus a b) part (expr_of l.fn.left) (views l.tokens)
