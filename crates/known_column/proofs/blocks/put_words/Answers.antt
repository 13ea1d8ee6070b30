use Rattle.std.proofs.Common.{◌∙◌, arith}
use Rattle.std.proofs.lemmas.Grind.{same_number_lists}
use Rattle.known_column.proofs.blocks.put_words.Goals as goal

pub returns : goal.returns
returns c = same_number_lists c.loop-i.numbers c.byte_digits.new.digits (omega arith) (λ k h. c.loop-i.invariant k (omega arith)) ∙ c.byte_digits.ensures
