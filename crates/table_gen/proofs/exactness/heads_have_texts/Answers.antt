use Rattle.table_gen.proofs.Laws.{have_texts}
use Rattle.table_gen.proofs.exactness.heads_have_texts.Goals as goal

pub returns : goal.returns
returns c = have_texts
