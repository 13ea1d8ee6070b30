use Rattle.csv_load.proofs.StopFacts.{stops_told}
use Rattle.csv_load.proofs.lines.stops.Goals as goal

pub returns : goal.returns
returns c = stops_told c.args.bytes c.fits-bytes.0
