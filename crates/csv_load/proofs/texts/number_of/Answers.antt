-- A hint that is right names a text that is kept.
use Rattle.std.proofs.Common.{ℕ, Vec, Global, map}
use Rattle.csv_load.proofs.NumberFacts.{number_there}
use Rattle.csv_load.proofs.texts.number_of.Goals as goal

pub returns-then-is_at-clause-ok : goal.returns-then-is_at-clause-ok
returns-then-is_at-clause-ok c =
    number_there (map (λ (k : Vec ℕ Global). k.items) c.args.kept.now.keys) _ c.args.text.now c.requires (c.is_at.ensures c.if-is_at.true)
