-- What names no column twice attains its ends.
use Rattle.sql_meaning.proofs.NamedOnce.{named_once}
use Rattle.sql_meaning.proofs.laws.named_once_attain.Goals as goal

pub returns : goal.returns
returns c = named_once
