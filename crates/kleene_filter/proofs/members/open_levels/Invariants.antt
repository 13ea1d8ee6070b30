use Rattle.std.specs.List.{All}
use Rattle.kleene_filter.specs.Members.{IsLevel}
use Rattle.kleene_filter.proofs.MemberTruths.{HasUpTo}
use Rattle.kleene_filter.proofs.members.open_levels.Given as goal

abbrev pub invariant-loop-number : goal.invariant-loop-number
invariant-loop-number l = record {
  each : All (IsLevel l.column l.values) l.levels.items;
  has : HasUpTo l.column l.values l.number-index l.levels.items;
}
