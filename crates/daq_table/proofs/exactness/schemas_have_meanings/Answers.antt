use Rattle.daq_table.proofs.SomeMeaning.{has_meaning}
use Rattle.daq_table.proofs.exactness.schemas_have_meanings.Goals as goal

pub returns : goal.returns
returns c = has_meaning
