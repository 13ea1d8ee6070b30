use Rattle.std.proofs.Common.{◌≡◌, ◌∙◌, ap, sym, arith, rules, w64, to_z, of_z}
use Rattle.table_gen.specs.Draws.{a_of, after, b_of, code_of, column_of, d_of}
use Rattle.table_gen.proofs.Columns.{column_next, state_next}
use Rattle.table_gen.proofs.rows.draw_rows.Goals as goal

pub loop-row-preserved : goal.loop-row-preserved
loop-row-preserved c =
    let seed = c.args.seed in
    let row = c.loop-row.row in
    let x = c.loop-row.draws.state in
    let now = c.loop-row.invariant in
    let a : to_z w64 (of_z w64 c.row-next.result.a) ≡ a_of x = search rules in
    let b : to_z w64 (of_z w64 c.row-next.result.b) ≡ b_of x = search rules in
    let d : to_z w64 (of_z w64 c.row-next.result.d) ≡ d_of x = search rules in
    record {
      state = c.row-next.ensures.state ∙ ap (λ s. after s 5) now.state ∙ sym (state_next seed row);
      a = column_next a_of seed row x c.loop-row.a.items c.push.new.self.items _ now.a now.state a c.in_ok-push.ensures.items;
      b = column_next b_of seed row x c.loop-row.b.items c.push-in-loop-row.new.self.items _ now.b now.state b c.in_ok-push-2.ensures.items;
      d = column_next d_of seed row x c.loop-row.d.items c.push-in-loop-row-2.new.self.items _ now.d now.state d c.in_ok-push-3.ensures.items;
      codes = column_next code_of seed row x c.loop-row.codes.items c.push-in-loop-row-3.new.self.items c.row-next.result.code now.codes now.state c.row-next.ensures.code c.in_ok-push-4.ensures.items;
    }

pub returns-clause-a : goal.returns-clause-a
returns-clause-a c =
    let end : c.loop-row.row ≡ c.args.rows = omega (arith, c.loop-row-test.false, c.loop-row.auto.row-end) in
    c.loop-row.invariant.a ∙ ap (column_of a_of c.args.seed) end

pub returns-clause-b : goal.returns-clause-b
returns-clause-b c =
    let end : c.loop-row.row ≡ c.args.rows = omega (arith, c.loop-row-test.false, c.loop-row.auto.row-end) in
    c.loop-row.invariant.b ∙ ap (column_of b_of c.args.seed) end

pub returns-clause-d : goal.returns-clause-d
returns-clause-d c =
    let end : c.loop-row.row ≡ c.args.rows = omega (arith, c.loop-row-test.false, c.loop-row.auto.row-end) in
    c.loop-row.invariant.d ∙ ap (column_of d_of c.args.seed) end

pub returns-clause-codes : goal.returns-clause-codes
returns-clause-codes c =
    let end : c.loop-row.row ≡ c.args.rows = omega (arith, c.loop-row-test.false, c.loop-row.auto.row-end) in
    c.loop-row.invariant.codes ∙ ap (column_of code_of c.args.seed) end
