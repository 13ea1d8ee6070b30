use Rattle.std.proofs.Common.{◌≡◌, ℕ, ◌+◌, ◌≤◌, nat_le, true, cond, refl, ap, ◌∙◌, arith}
use Rattle.std.proofs.lemmas.Bool.Decides.{nat_tests}
use Rattle.aggregates.proofs.SumsOfCells.{one_of}
use Rattle.daq_table.specs.declared.head.Ends.{Ends}
use Rattle.daq_table.specs.Tables.{planes, width}
use Rattle.round_engine.proofs.UnreadValues.{one_range}
use Rattle.round_engine.proofs.unread_values.is_unread_column.Goals as goal

at_least : (n m : ℕ) → nat_le n m ≡ true → n ≤ m
at_least n m e = grind (arith, nat_tests)

pub returns : goal.returns
returns c = λ unread r q r_in q_in.
    let known = c.args.known.now in
    let more : c.from.result ≡ cond known.ends.nullable 1 0 = c.from.ensures ∙ one_of c.declared-ends.result.nullable ∙ ap (λ (e : Ends). cond e.nullable 1 0) c.declared-ends.ensures.ends in
    let all : planes known.ends ≡ width known.ends + cond known.ends.nullable 1 0 = refl in
    let none : known.known.read ≡ 0 = omega (arith, c.unread.ensures, c.width.ensures.digits, at_least _ _ unread, more, all) in
    one_range known r q c.declared-ends.ensures.known none r_in q_in
