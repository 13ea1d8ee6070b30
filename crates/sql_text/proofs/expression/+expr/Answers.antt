-- Sums and products end, fail or go on as the chains of their rules do.
use Rattle.std.proofs.Common.{◌<◌, ◌≤◌}
use Rattle.std.proofs.lemmas.Result.{err_from_is_err_and}
use Rattle.sql_tokens.specs.declared.token.Fixed.TheVariants.{Star}
use Rattle.sql_tokens.specs.Lexeme.{views}
use Rattle.sql_text.specs.Tree.{expr_of, Mul}
use Rattle.sql_text.specs.Number.{is, is_sum}
use Rattle.sql_text.specs.Grammar.{joined, factor, term}
use Rattle.sql_text.specs.Reading.{chain, turns, by}
use Rattle.sql_text.proofs.Loops.{turns-is, goes_on, fails, ends, is_done}
use Rattle.sql_text.proofs.expression.+expr.Goals as goal

pub more_factors-returns-in_default : goal.more_factors-returns-in_default
more_factors-returns-in_default t c = ends (is Star) (λ a at b. Mul at a b) (by c.args.levels factor) c.loop.counter (expr_of c.loop.left) (views c.loop.rest.now) (chain turns (is Star) (λ a at b. Mul at a b) (by c.args.levels factor) (expr_of c.args.left) (views c.args.tokens.now)) c.in_default.ensures c.loop.invariant

pub more_factors-returns-in_err-right : goal.more_factors-returns-in_err-right
more_factors-returns-in_err-right t c =
    let p = err_from_is_err_and c.from_residual.result c.from_residual.ensures.1 in
    let lt : c.loop.counter < turns = rw turns-is c.loop-test.true in
    rw (p.1, p.2) (fails (is Star) (λ a at b. Mul at a b) (by c.args.levels factor) c.in_err-right.field-0.0 c.loop.counter (expr_of c.loop.left) (views c.loop.rest.now) c.in-Some.at (views c.in-Some.behind.now) (chain turns (is Star) (λ a at b. Mul at a b) (by c.args.levels factor) (expr_of c.args.left) (views c.args.tokens.now)) lt c.in-Some.ensures c.in_err-right.ensures c.loop.invariant)

pub more_factors-loop-preserved : goal.more_factors-loop-preserved
more_factors-loop-preserved t c =
    let lt : c.loop.counter < turns = rw turns-is c.loop-test.true in
    rw (c.in_ok-new.ensures.ok, c.in_ok-new-2.ensures.ok) (goes_on (is Star) (λ a at b. Mul at a b) (by c.args.levels factor) c.loop.counter (expr_of c.loop.left) (views c.loop.rest.now) c.in-Some.at (views c.in-Some.behind.now) (expr_of c.in_ok-right.right) (views c.in_ok-right.behind.now) (chain turns (is Star) (λ a at b. Mul at a b) (by c.args.levels factor) (expr_of c.args.left) (views c.args.tokens.now)) lt c.in-Some.ensures c.in_ok-right.ensures c.loop.invariant)

pub more_factors-returns : goal.more_factors-returns
more_factors-returns t c =
    let le : turns ≤ c.loop.counter = rw turns-is c.loop-test.false in
    is_done (is Star) (λ a at b. Mul at a b) (by c.args.levels factor) c.loop.counter (expr_of c.loop.left) (views c.loop.rest.now) (chain turns (is Star) (λ a at b. Mul at a b) (by c.args.levels factor) (expr_of c.args.left) (views c.args.tokens.now)) le c.loop.invariant

pub more_terms-returns-in_default : goal.more_terms-returns-in_default
more_terms-returns-in_default t c = ends is_sum (λ a minus b. joined minus a b) (by c.args.levels term) c.loop.counter (expr_of c.loop.left) (views c.loop.rest.now) (chain turns is_sum (λ a minus b. joined minus a b) (by c.args.levels term) (expr_of c.args.left) (views c.args.tokens.now)) c.in_default.ensures c.loop.invariant

pub more_terms-returns-in_err-right : goal.more_terms-returns-in_err-right
more_terms-returns-in_err-right t c =
    let p = err_from_is_err_and c.from_residual.result c.from_residual.ensures.1 in
    let lt : c.loop.counter < turns = rw turns-is c.loop-test.true in
    rw (p.1, p.2) (fails is_sum (λ a minus b. joined minus a b) (by c.args.levels term) c.in_err-right.field-0.0 c.loop.counter (expr_of c.loop.left) (views c.loop.rest.now) c.in-Some.minus (views c.in-Some.behind.now) (chain turns is_sum (λ a minus b. joined minus a b) (by c.args.levels term) (expr_of c.args.left) (views c.args.tokens.now)) lt c.in-Some.ensures c.in_err-right.ensures c.loop.invariant)

pub more_terms-loop-preserved : goal.more_terms-loop-preserved
more_terms-loop-preserved t c =
    let lt : c.loop.counter < turns = rw turns-is c.loop-test.true in
    rw (c.in_ok-left.ensures) (goes_on is_sum (λ a minus b. joined minus a b) (by c.args.levels term) c.loop.counter (expr_of c.loop.left) (views c.loop.rest.now) c.in-Some.minus (views c.in-Some.behind.now) (expr_of c.in_ok-right.right) (views c.in_ok-right.behind.now) (chain turns is_sum (λ a minus b. joined minus a b) (by c.args.levels term) (expr_of c.args.left) (views c.args.tokens.now)) lt c.in-Some.ensures c.in_ok-right.ensures c.loop.invariant)

pub more_terms-returns : goal.more_terms-returns
more_terms-returns t c =
    let le : turns ≤ c.loop.counter = rw turns-is c.loop-test.false in
    is_done is_sum (λ a minus b. joined minus a b) (by c.args.levels term) c.loop.counter (expr_of c.loop.left) (views c.loop.rest.now) (chain turns is_sum (λ a minus b. joined minus a b) (by c.args.levels term) (expr_of c.args.left) (views c.args.tokens.now)) le c.loop.invariant
