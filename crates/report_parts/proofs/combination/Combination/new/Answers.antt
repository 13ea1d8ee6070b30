use Rattle.std.proofs.Common.{refl}
use Rattle.report_parts.proofs.Courses.{first_stands}
use Rattle.report_parts.proofs.combination.Combination.new.Goals as goal

pub returns-clause-stands : goal.returns-clause-stands
returns-clause-stands c = first_stands _ c.new.ensures refl refl c.requires
