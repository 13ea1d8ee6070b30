-- AND and OR end, fail or go on as the chains of their rules do.
use Rattle.std.proofs.Common.{◌<◌, ◌≤◌}
use Rattle.std.proofs.lemmas.Result.{err_from_is_err_and}
use Rattle.sql_tokens.specs.declared.token.Fixed.TheVariants as fixed
use Rattle.sql_tokens.specs.Lexeme.{views}
use Rattle.sql_text.specs.Tree.{pred_of, Both, Either}
use Rattle.sql_text.specs.Number.{is}
use Rattle.sql_text.specs.Grammar.{neg, conj}
use Rattle.sql_text.specs.Reading.{chain, turns, by}
use Rattle.sql_text.proofs.Loops.{turns-is, goes_on, fails, ends, is_done}
use Rattle.sql_text.proofs.predicate.+pred.Goals as goal

pub more_negs-returns-in_default : goal.more_negs-returns-in_default
more_negs-returns-in_default t c = ends (is fixed.And) (λ a _ b. Both a b) (by c.args.levels neg) c.loop.counter (pred_of c.loop.left) (views c.loop.rest.now) (chain turns (is fixed.And) (λ a _ b. Both a b) (by c.args.levels neg) (pred_of c.args.left) (views c.args.tokens.now)) c.in_default.ensures c.loop.invariant

pub more_negs-returns-in_err-right : goal.more_negs-returns-in_err-right
more_negs-returns-in_err-right t c =
    let p = err_from_is_err_and c.from_residual.result c.from_residual.ensures.1 in
    let lt : c.loop.counter < turns = rw turns-is c.loop-test.true in
    rw (p.1, p.2) (fails (is fixed.And) (λ a _ b. Both a b) (by c.args.levels neg) c.in_err-right.field-0.0 c.loop.counter (pred_of c.loop.left) (views c.loop.rest.now) c.in-Some.field-0-0 (views c.in-Some.behind.now) (chain turns (is fixed.And) (λ a _ b. Both a b) (by c.args.levels neg) (pred_of c.args.left) (views c.args.tokens.now)) lt c.in-Some.ensures c.in_err-right.ensures c.loop.invariant)

pub more_negs-loop-preserved : goal.more_negs-loop-preserved
more_negs-loop-preserved t c =
    let lt : c.loop.counter < turns = rw turns-is c.loop-test.true in
    rw (c.in_ok-new.ensures.ok, c.in_ok-new-2.ensures.ok) (goes_on (is fixed.And) (λ a _ b. Both a b) (by c.args.levels neg) c.loop.counter (pred_of c.loop.left) (views c.loop.rest.now) c.in-Some.field-0-0 (views c.in-Some.behind.now) (pred_of c.in_ok-right.right) (views c.in_ok-right.behind.now) (chain turns (is fixed.And) (λ a _ b. Both a b) (by c.args.levels neg) (pred_of c.args.left) (views c.args.tokens.now)) lt c.in-Some.ensures c.in_ok-right.ensures c.loop.invariant)

pub more_negs-returns : goal.more_negs-returns
more_negs-returns t c =
    let le : turns ≤ c.loop.counter = rw turns-is c.loop-test.false in
    is_done (is fixed.And) (λ a _ b. Both a b) (by c.args.levels neg) c.loop.counter (pred_of c.loop.left) (views c.loop.rest.now) (chain turns (is fixed.And) (λ a _ b. Both a b) (by c.args.levels neg) (pred_of c.args.left) (views c.args.tokens.now)) le c.loop.invariant

pub more_conjs-returns-in_default : goal.more_conjs-returns-in_default
more_conjs-returns-in_default t c = ends (is fixed.Or) (λ a _ b. Either a b) (by c.args.levels conj) c.loop.counter (pred_of c.loop.left) (views c.loop.rest.now) (chain turns (is fixed.Or) (λ a _ b. Either a b) (by c.args.levels conj) (pred_of c.args.left) (views c.args.tokens.now)) c.in_default.ensures c.loop.invariant

pub more_conjs-returns-in_err-right : goal.more_conjs-returns-in_err-right
more_conjs-returns-in_err-right t c =
    let p = err_from_is_err_and c.from_residual.result c.from_residual.ensures.1 in
    let lt : c.loop.counter < turns = rw turns-is c.loop-test.true in
    rw (p.1, p.2) (fails (is fixed.Or) (λ a _ b. Either a b) (by c.args.levels conj) c.in_err-right.field-0.0 c.loop.counter (pred_of c.loop.left) (views c.loop.rest.now) c.in-Some.field-0-0 (views c.in-Some.behind.now) (chain turns (is fixed.Or) (λ a _ b. Either a b) (by c.args.levels conj) (pred_of c.args.left) (views c.args.tokens.now)) lt c.in-Some.ensures c.in_err-right.ensures c.loop.invariant)

pub more_conjs-loop-preserved : goal.more_conjs-loop-preserved
more_conjs-loop-preserved t c =
    let lt : c.loop.counter < turns = rw turns-is c.loop-test.true in
    rw (c.in_ok-new.ensures.ok, c.in_ok-new-2.ensures.ok) (goes_on (is fixed.Or) (λ a _ b. Either a b) (by c.args.levels conj) c.loop.counter (pred_of c.loop.left) (views c.loop.rest.now) c.in-Some.field-0-0 (views c.in-Some.behind.now) (pred_of c.in_ok-right.right) (views c.in_ok-right.behind.now) (chain turns (is fixed.Or) (λ a _ b. Either a b) (by c.args.levels conj) (pred_of c.args.left) (views c.args.tokens.now)) lt c.in-Some.ensures c.in_ok-right.ensures c.loop.invariant)

pub more_conjs-returns : goal.more_conjs-returns
more_conjs-returns t c =
    let le : turns ≤ c.loop.counter = rw turns-is c.loop-test.false in
    is_done (is fixed.Or) (λ a _ b. Either a b) (by c.args.levels conj) c.loop.counter (pred_of c.loop.left) (views c.loop.rest.now) (chain turns (is fixed.Or) (λ a _ b. Either a b) (by c.args.levels conj) (pred_of c.args.left) (views c.args.tokens.now)) le c.loop.invariant
