-- What is read and what is left give the same list as at the start.
use Rattle.std.proofs.Common.{◌≡◌, ◌-◌, map, ◌∷◌, [], ◌++◌}
use Rattle.sql_tokens.specs.declared.token.Fixed.TheVariants.{Comma}
use Rattle.sql_tokens.specs.Lexeme.{views}
use Rattle.sql_text.specs.Tree.{operand_of}
use Rattle.sql_text.specs.Number.{is}
use Rattle.sql_text.specs.Grammar.{value}
use Rattle.sql_text.specs.Reading.{chain, turns, flat}
use Rattle.sql_text.proofs.atom.more_values.Given as goal

abbrev pub invariant-loop : goal.invariant-loop
invariant-loop l =
    let part = flat value in
    chain (turns - l.counter) (is Comma) (λ xs _ x. xs ++ (x ∷ [])) part (map operand_of l.values.items) (views l.rest) ≡ chain turns (is Comma) (λ xs _ x. xs ++ (x ∷ [])) part (operand_of l.fn.first ∷ []) (views l.tokens)
