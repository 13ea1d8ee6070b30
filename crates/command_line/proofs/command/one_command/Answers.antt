use Rattle.std.proofs.Common.{◌≡◌, Ok, sym, arith, ◌∙◌}
use Rattle.command_line.proofs.Whole.{command_whole}
use Rattle.command_line.proofs.command.one_command.Goals as goal

pub returns-clause-commands : goal.returns-clause-commands
returns-clause-commands c = λ words a b is_a is_b.
    let one : Ok a ≡ Ok b = sym (command_whole words a is_a) ∙ command_whole words b is_b in cc

pub returns-clause-places : goal.returns-clause-places
returns-clause-places c = λ words p q goes_p goes_q.
    let a = goes_p.is_place in
    let b = goes_q.is_place in
    omega (arith, a.next, b.next, a.most b.longest b.within b.begins, b.most a.longest a.within a.begins)
