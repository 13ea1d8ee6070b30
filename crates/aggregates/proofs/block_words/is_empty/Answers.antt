use Rattle.aggregates.proofs.BlockWords.{empty_words}
use Rattle.aggregates.proofs.block_words.is_empty.Goals as goal

pub returns : goal.returns
returns c = empty_words c.args.words.now
