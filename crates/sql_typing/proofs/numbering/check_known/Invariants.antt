-- No name so far is unknown.
use Rattle.std.proofs.Common.{◌≡◌, drop}
use Rattle.sql_typing.specs.Faults.{first_in, unknown_at}
use Rattle.sql_typing.proofs.numbering.check_known.Given as goal

abbrev pub invariant-loop-mention : goal.invariant-loop-mention
invariant-loop-mention l = first_in (λ m. unknown_at m.at m.column) (drop l.mention-index l.mentions) ≡ first_in (λ m. unknown_at m.at m.column) l.mentions
