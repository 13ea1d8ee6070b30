use Rattle.std.proofs.Common.{◌≡◌, ◌*◌, ◌≤◌, take}
use Rattle.multi_session.specs.Members.{stages_of}
use Rattle.multi_session.specs.Sessions.{possible_in, unknown_in}
use Rattle.multi_session.proofs.progress.rows_in.Given as goal

abbrev pub invariant-loop-member : goal.invariant-loop-member
invariant-loop-member l = record {
  unknown : l.unknown ≡ unknown_in l.fn.near (stages_of l.columns.known (take l.member-index l.members));
  few_unknown : l.unknown ≤ 16777216 * l.member-index;
  possible : l.possible ≡ possible_in l.fn.near (stages_of l.columns.known (take l.member-index l.members));
  few_possible : l.possible ≤ 16777216 * l.member-index;
}
