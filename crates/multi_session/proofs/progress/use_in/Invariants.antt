use Rattle.std.proofs.Common.{◌≡◌, ◌≤◌, ◌||◌, max, drop, fold, map}
use Rattle.multi_session.specs.Members.{stages_of}
use Rattle.multi_session.specs.Sessions.{first_role, gives_for, gives_in, role_for, role_in, taken_for, taken_in}
use Rattle.multi_session.proofs.progress.use_in.Given as goal

abbrev pub invariant-loop-member : goal.invariant-loop-member
invariant-loop-member l = record {
  role : fold first_role l.role (map (role_for l.fn.near l.place) (stages_of l.columns.known (drop l.member-index l.members)))
      ≡ role_in l.fn.near l.place (stages_of l.columns.known l.members);
  read : fold max l.read (map (taken_for l.fn.near l.place) (stages_of l.columns.known (drop l.member-index l.members)))
      ≡ taken_in l.fn.near l.place (stages_of l.columns.known l.members);
  few : l.read ≤ 65;
  gives : fold ◌||◌ l.gives_values (map (gives_for l.fn.near l.place) (stages_of l.columns.known (drop l.member-index l.members)))
      ≡ gives_in l.fn.near l.place (stages_of l.columns.known l.members);
}
