-- What is read and what is left give the same list as at the start.
use Rattle.std.proofs.Common.{◌≡◌, ◌-◌, map, ◌∷◌, [], ◌++◌}
use Rattle.sql_text.specs.Rule.{one}
use Rattle.sql_tokens.specs.declared.token.Fixed.TheVariants.{Comma}
use Rattle.sql_tokens.specs.Lexeme.{views}
use Rattle.sql_text.specs.Tree.{name_of}
use Rattle.sql_text.specs.Number.{is, is_name}
use Rattle.sql_text.specs.Reading.{chain, turns, flat}
use Rattle.sql_text.proofs.query.more_names.Given as goal

abbrev pub invariant-loop : goal.invariant-loop
invariant-loop l =
    let part = flat (one is_name) in
    chain (turns - l.counter) (is Comma) (λ xs _ x. xs ++ (x ∷ [])) part (map name_of l.names.items) (views l.rest) ≡ chain turns (is Comma) (λ xs _ x. xs ++ (x ∷ [])) part (name_of l.fn.first ∷ []) (views l.tokens)
