-- The list ends, fails or goes on as the chain of its rule does.
use Rattle.std.proofs.Common.{◌≡◌, ◌<◌, ◌≤◌, map, ◌∷◌, [], ◌++◌}
use Rattle.std.proofs.lemmas.Result.{err_from_is_err_and}
use Rattle.std.proofs.lemmas.List.{map_push}
use Rattle.sql_tokens.specs.declared.token.Fixed.TheVariants.{Comma}
use Rattle.sql_tokens.specs.Lexeme.{views}
use Rattle.sql_text.specs.Tree.{operand_of}
use Rattle.sql_text.specs.Number.{is}
use Rattle.sql_text.specs.Grammar.{value}
use Rattle.sql_text.specs.Reading.{chain, turns, flat}
use Rattle.sql_text.proofs.Loops.{turns-is, goes_on, fails, ends, is_done}
use Rattle.sql_text.proofs.atom.more_values.Goals as goal

pub returns-in_default : goal.returns-in_default
returns-in_default c = ends (is Comma) (λ xs _ x. xs ++ (x ∷ [])) (flat value) c.loop.counter (map operand_of c.loop.values.items) (views c.loop.rest.now) (chain turns (is Comma) (λ xs _ x. xs ++ (x ∷ [])) (flat value) (operand_of c.args.first ∷ []) (views c.args.tokens.now)) c.in_default.ensures c.loop.invariant

pub returns-in_err-next : goal.returns-in_err-next
returns-in_err-next c =
    let p = err_from_is_err_and c.from_residual-in_err-next.result c.from_residual-in_err-next.ensures.1 in
    let lt : c.loop.counter < turns = rw turns-is c.loop-test.true in
    rw (p.1, p.2) (fails (is Comma) (λ xs _ x. xs ++ (x ∷ [])) (flat value) c.in_err-next.field-0.0 c.loop.counter (map operand_of c.loop.values.items) (views c.loop.rest.now) c.in-Some.field-0-0 (views c.in-Some.behind.now) (chain turns (is Comma) (λ xs _ x. xs ++ (x ∷ [])) (flat value) (operand_of c.args.first ∷ []) (views c.args.tokens.now)) lt c.in-Some.ensures c.in_err-next.ensures c.loop.invariant)

pub loop-preserved : goal.loop-preserved
loop-preserved c =
    let lt : c.loop.counter < turns = rw turns-is c.loop-test.true in
    let n = c.in_ok-next.next in
    let e : map operand_of c.push-in-loop.new.self.items ≡ map operand_of c.loop.values.items ++ (operand_of n ∷ []) = rw c.in_ok-push-2.ensures.items (map_push _ c.loop.values.items n) in
    rw e (goes_on (is Comma) (λ xs _ x. xs ++ (x ∷ [])) (flat value) c.loop.counter (map operand_of c.loop.values.items) (views c.loop.rest.now) c.in-Some.field-0-0 (views c.in-Some.behind.now) (operand_of n) (views c.in_ok-next.behind.now) (chain turns (is Comma) (λ xs _ x. xs ++ (x ∷ [])) (flat value) (operand_of c.args.first ∷ []) (views c.args.tokens.now)) lt c.in-Some.ensures c.in_ok-next.ensures c.loop.invariant)

pub returns : goal.returns
returns c =
    let le : turns ≤ c.loop.counter = rw turns-is c.loop-test.false in
    is_done (is Comma) (λ xs _ x. xs ++ (x ∷ [])) (flat value) c.loop.counter (map operand_of c.loop.values.items) (views c.loop.rest.now) (chain turns (is Comma) (λ xs _ x. xs ++ (x ∷ [])) (flat value) (operand_of c.args.first ∷ []) (views c.args.tokens.now)) le c.loop.invariant
