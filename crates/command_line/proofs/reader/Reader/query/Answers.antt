use Rattle.std.proofs.Common.{◌≡◌, ℕ, true, Err, refl, ◌∙◌, rules}
use Rattle.command_line.specs.Commands.{nothing_given}
use Rattle.command_line.specs.Reading.{Fails, Lacks, after_query, answers}
use Rattle.command_line.proofs.Steps.{goes, lacks}
use Rattle.command_line.proofs.reader.Reader.query.Goals as goal

pub returns-in_err-word-clause-err : goal.returns-in_err-word-clause-err
returns-in_err-word-clause-err c =
    let stop : (place : ℕ) → Lacks c.args.self.now place → answers after_query c.args.self.now ≡ Err place = λ place l.
    lacks after_query c.args.self.now place refl l in
    search (rules, stop)

pub returns-in_err-word-2-clause-err : goal.returns-in_err-word-2-clause-err
returns-in_err-word-2-clause-err c =
    let stop : (place : ℕ) → Lacks c.word.new.self place → answers after_query c.args.self.now ≡ Err place = λ place l.
    goes after_query _ c.args.self.now c.word.new.self c.in_ok-word.field-0.now c.in_ok-word.ensures.ok refl
    ∙ lacks _ c.word.new.self place refl l in
    search (rules, stop)

pub returns-in_err-options-clause-err : goal.returns-in_err-options-clause-err
returns-in_err-options-clause-err c =
    let stop : (place : ℕ) → Fails true nothing_given c.word-2.new.self place → answers after_query c.args.self.now ≡ Err place = λ place f.
    goes after_query _ c.args.self.now c.word.new.self c.in_ok-word.field-0.now c.in_ok-word.ensures.ok refl
    ∙ goes _ _ c.word.new.self c.word-2.new.self c.in_ok-word-2.field-0.now c.in_ok-word-2.ensures.ok refl
    ∙ f _ in
    search (rules, stop)

pub returns-clause-ok : goal.returns-clause-ok
returns-clause-ok c =
    goes after_query _ c.args.self.now c.word.new.self c.in_ok-word.field-0.now c.in_ok-word.ensures.ok refl
    ∙ goes _ _ c.word.new.self c.word-2.new.self c.in_ok-word-2.field-0.now c.in_ok-word-2.ensures.ok refl
    ∙ c.in_ok-options.ensures.ok _
