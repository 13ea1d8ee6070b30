-- What is read and what is left give the same list as at the start.
use Rattle.std.proofs.Common.{◌≡◌, ◌-◌, map, ◌∷◌, [], ◌++◌}
use Rattle.sql_tokens.specs.declared.token.Fixed.TheVariants.{Comma}
use Rattle.sql_tokens.specs.Lexeme.{views}
use Rattle.sql_text.specs.Tree.{item_of}
use Rattle.sql_text.specs.Number.{is}
use Rattle.sql_text.specs.Grammar.{item}
use Rattle.sql_text.specs.Reading.{chain, turns, by}
use Rattle.sql_text.proofs.query.more_items.Given as goal

abbrev pub invariant-loop : goal.invariant-loop
invariant-loop l =
    let part = by l.levels item in
    chain (turns - l.counter) (is Comma) (λ xs _ x. xs ++ (x ∷ [])) part (map item_of l.items.items) (views l.rest) ≡ chain turns (is Comma) (λ xs _ x. xs ++ (x ∷ [])) part (item_of l.fn.first ∷ []) (views l.tokens)
