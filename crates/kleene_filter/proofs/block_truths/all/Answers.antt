use Rattle.kleene_filter.proofs.BlockBits.{none_in, ones_in}
use Rattle.kleene_filter.proofs.block_truths.all.Goals as goal

pub returns : goal.returns
returns c = λ row few. record { hold = ones_in row few; fail = none_in row few; null = none_in row few }
