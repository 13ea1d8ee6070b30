-- The words of the policies are those that are told.
use Rattle.std.proofs.Common.{sym}
use Rattle.daq_cli.specs.commands.Help.{help_text}
use Rattle.daq_cli.proofs.commands.help.write_help.Goals as goal

pub returns : goal.returns
unfolding help_text
returns g c = rw (sym c.words.ensures) c.write_pieces.ensures
