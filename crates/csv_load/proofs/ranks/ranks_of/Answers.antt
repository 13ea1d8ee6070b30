use Rattle.std.proofs.Common.{ℕ, Vec, Global}
use Rattle.csv_load.proofs.NumberFacts.{item_known}
use Rattle.csv_load.proofs.ranks.ranks_of.Goals as goal

pub rank-requires-clause-known : goal.rank-requires-clause-known
rank-requires-clause-known c = item_known (λ (k : Vec ℕ Global). k.items) c.args.texts.now c.loop-text.text-index c.text-item.result c.deref.result.now c.args.names.now c.requires.known c.loop-text-test.true c.text-item.is c.deref.ensures.value
