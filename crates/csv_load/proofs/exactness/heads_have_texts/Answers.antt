use Rattle.csv_load.proofs.HeadTexts.{have_texts}
use Rattle.csv_load.proofs.exactness.heads_have_texts.Goals as goal

pub returns : goal.returns
returns c = have_texts
