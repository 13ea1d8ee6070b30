use Rattle.std.proofs.Common.{◌≡◌, [], Ok, ap, sym, ◌∙◌}
use Rattle.command_line.specs.Reading.{option, answer}
use Rattle.command_line.specs.Values.{given_of}
use Rattle.command_line.proofs.Steps.{answer-none, none_left}
use Rattle.command_line.proofs.reader.Reader.options.Goals as goal

pub returns-clause-ok : goal.returns-clause-ok
returns-clause-ok c = λ k.
    let left = c.loop-self.self in
    let g = given_of c.loop-self.given in
    let done : left.words ≡ [] = none_left left.words (sym c.is_done.ensures ∙ c.loop-self-test.false) in
    c.loop-self.invariant k ∙ ap (answer (option c.args.by_name g k) left.at) done ∙ answer-none (option c.args.by_name g k) left.at
    ∙ ap (λ o. Ok (k o)) (sym c.options.ensures)
