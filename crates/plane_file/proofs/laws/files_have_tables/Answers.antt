use Rattle.plane_file.proofs.SomeTable.{have_tables}
use Rattle.plane_file.proofs.laws.files_have_tables.Goals as goal

pub returns : goal.returns
returns c = have_tables
