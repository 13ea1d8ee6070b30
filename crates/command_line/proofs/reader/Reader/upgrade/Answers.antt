use Rattle.std.proofs.Common.{◌≡◌, ℕ, Err, refl, ◌∙◌, rules}
use Rattle.command_line.specs.Reading.{HasMore, Lacks, after_upgrade, answers}
use Rattle.command_line.proofs.Steps.{ends, goes, goes_on, lacks}
use Rattle.command_line.proofs.reader.Reader.upgrade.Goals as goal

pub returns-in_err-word-clause-err : goal.returns-in_err-word-clause-err
returns-in_err-word-clause-err c =
    let stop : (place : ℕ) → Lacks c.args.self.now place → answers after_upgrade c.args.self.now ≡ Err place = λ place l.
    lacks after_upgrade c.args.self.now place refl l in
    search (rules, stop)

pub returns-in_err-word-2-clause-err : goal.returns-in_err-word-2-clause-err
returns-in_err-word-2-clause-err c =
    let stop : (place : ℕ) → Lacks c.word.new.self place → answers after_upgrade c.args.self.now ≡ Err place = λ place l.
    goes after_upgrade _ c.args.self.now c.word.new.self c.in_ok-word.field-0.now c.in_ok-word.ensures.ok refl
    ∙ lacks _ c.word.new.self place refl l in
    search (rules, stop)

pub returns-in_err-end-clause-err : goal.returns-in_err-end-clause-err
returns-in_err-end-clause-err c =
    let stop : (place : ℕ) → HasMore c.word-2.new.self place → answers after_upgrade c.args.self.now ≡ Err place = λ place m.
    goes after_upgrade _ c.args.self.now c.word.new.self c.in_ok-word.field-0.now c.in_ok-word.ensures.ok refl
    ∙ goes _ _ c.word.new.self c.word-2.new.self c.in_ok-word-2.field-0.now c.in_ok-word-2.ensures.ok refl
    ∙ goes_on _ c.word-2.new.self place m in
    search (rules, stop)

pub returns-clause-ok : goal.returns-clause-ok
returns-clause-ok c =
    goes after_upgrade _ c.args.self.now c.word.new.self c.in_ok-word.field-0.now c.in_ok-word.ensures.ok refl
    ∙ goes _ _ c.word.new.self c.word-2.new.self c.in_ok-word-2.field-0.now c.in_ok-word-2.ensures.ok refl
    ∙ ends _ c.word-2.new.self c.in_ok-end.ensures.ok
