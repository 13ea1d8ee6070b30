use Rattle.std.proofs.Common.{◌≡◌}
use Rattle.table_gen.specs.Draws.{a_of, b_of, code_of, column_of, d_of, state_at}
use Rattle.table_gen.proofs.rows.draw_rows.Given as goal

abbrev pub invariant-loop-row : goal.invariant-loop-row
invariant-loop-row l = record {
  state : l.draws.state ≡ state_at l.seed l.row;
  a : l.a.items ≡ column_of a_of l.seed l.row;
  b : l.b.items ≡ column_of b_of l.seed l.row;
  d : l.d.items ≡ column_of d_of l.seed l.row;
  codes : l.codes.items ≡ column_of code_of l.seed l.row;
}
