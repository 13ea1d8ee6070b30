use Rattle.std.proofs.Common.{◌≡◌, ℕ, true, Err, refl, ◌∙◌, rules}
use Rattle.command_line.specs.Commands.{nothing_given}
use Rattle.command_line.specs.Reading.{Fails, Lacks, after_demo, answers}
use Rattle.command_line.proofs.Steps.{goes, lacks}
use Rattle.command_line.proofs.reader.Reader.demo.Goals as goal

pub returns-in_err-word-clause-err : goal.returns-in_err-word-clause-err
returns-in_err-word-clause-err c =
    let stop : (place : ℕ) → Lacks c.number-2.new.self place → answers after_demo c.args.self.now ≡ Err place = λ place l.
    c.in_ok-number.ensures.ok _ ∙ c.in_ok-number-2.ensures.ok _ ∙ lacks _ c.number-2.new.self place refl l in
    search (rules, stop)

pub returns-in_err-options-clause-err : goal.returns-in_err-options-clause-err
returns-in_err-options-clause-err c =
    let stop : (place : ℕ) → Fails true nothing_given c.word.new.self place → answers after_demo c.args.self.now ≡ Err place = λ place f.
    c.in_ok-number.ensures.ok _ ∙ c.in_ok-number-2.ensures.ok _
    ∙ goes _ _ c.number-2.new.self c.word.new.self c.in_ok-word.field-0.now c.in_ok-word.ensures.ok refl
    ∙ f _ in
    search (rules, stop)

pub returns-clause-ok : goal.returns-clause-ok
returns-clause-ok c =
    c.in_ok-number.ensures.ok _ ∙ c.in_ok-number-2.ensures.ok _
    ∙ goes _ _ c.number-2.new.self c.word.new.self c.in_ok-word.field-0.now c.in_ok-word.ensures.ok refl
    ∙ c.in_ok-options.ensures.ok _
