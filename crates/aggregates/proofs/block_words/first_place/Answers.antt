use Rattle.std.proofs.Common.{◌<◌, get_or, arith}
use Rattle.aggregates.proofs.BlockWords.{last_word, place_there}
use Rattle.aggregates.proofs.block_words.first_place.Goals as goal
use Rattle.aggregates.proofs.block_words.first_place.Goals.{then-loop-k-test+else-words-k-eq0, else-loop-k-test}

some_word : (c : goal.After-result-1) → 0 < get_or c.args.words.now c.loop-k.k 0
some_word c = elim c.loop-k-test.branch [
  | then-loop-k-test+else-words-k-eq0 w ↦ omega (arith, w.if-words-k-eq0.false)
  | else-loop-k-test w ↦ last_word c.args.words.now c.loop-k.k c.told-words (omega (arith, w.loop-k-test.false)) c.loop-k.invariant.1 c.requires
]

pub returns-clause-within : goal.returns-clause-within
returns-clause-within c = (place_there c.args.words.now c.loop-k.k (omega (arith, c.loop-k.invariant.0)) (some_word c) (omega arith)).0

pub returns-clause-set : goal.returns-clause-set
returns-clause-set c = (place_there c.args.words.now c.loop-k.k (omega (arith, c.loop-k.invariant.0)) (some_word c) (omega arith)).1
