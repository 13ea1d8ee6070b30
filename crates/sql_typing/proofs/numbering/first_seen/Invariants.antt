-- The columns found and the mentions left give the same columns as at the start.
use Rattle.std.proofs.Common.{◌≡◌, [], drop}
use Rattle.sql_typing.specs.Names.{first_seen}
use Rattle.sql_typing.proofs.numbering.first_seen.Given as goal

abbrev pub invariant-loop-mention : goal.invariant-loop-mention
invariant-loop-mention l = first_seen l.columns.keys (drop l.mention-index l.mentions) ≡ first_seen [] l.mentions
