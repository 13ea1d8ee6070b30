use Rattle.tests_rows.proofs.Kept.{kept_either}
use Rattle.tests_rows.proofs.ends.take_plane.Goals as goal

pub returns : goal.returns
returns c = kept_either c.args.known.now c.take.new.self c.args.plane.now c.take.result c.take.ensures.taken c.take.ensures.unchanged c.requires.rows
