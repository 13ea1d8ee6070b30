use Rattle.std.proofs.Common.{◌≡◌, [], ap, sym, ◌∙◌}
use Rattle.command_line.specs.Reading.{limiting, answer}
use Rattle.command_line.specs.Values.{limits_of}
use Rattle.command_line.proofs.Steps.{answer-none, none_left}
use Rattle.command_line.proofs.reader.Reader.limits.Goals as goal

pub returns-clause-ok : goal.returns-clause-ok
returns-clause-ok c = λ k.
    let left = c.loop-self.self in
    let g = limits_of c.loop-self.limits in
    let done : left.words ≡ [] = none_left left.words (sym c.is_done.ensures ∙ c.loop-self-test.false) in
    c.loop-self.invariant k ∙ ap (answer (limiting g k) left.at) done ∙ answer-none (limiting g k) left.at
