use Rattle.std.proofs.Common.{◌≡◌, ℕ, Ok, Err, refl, sym, ap, ◌∙◌, rules}
use Rattle.command_line.specs.Commands.{combine, no_limits}
use Rattle.command_line.specs.Reading.{Lacks, LimitFails, after_combine, answers}
use Rattle.command_line.proofs.Steps.{goes, lacks}
use Rattle.command_line.proofs.reader.Reader.combine.Goals as goal

pub returns-in_err-reports-clause-err : goal.returns-in_err-reports-clause-err
returns-in_err-reports-clause-err c =
    let stop : (place : ℕ) → Lacks c.parts.new.self place → answers after_combine c.args.self.now ≡ Err place = λ place l.
    c.in_ok-parts.ensures.ok _ ∙ lacks _ c.parts.new.self place refl l in
    search (rules, stop)

pub returns-in_err-limits-clause-err : goal.returns-in_err-limits-clause-err
returns-in_err-limits-clause-err c =
    let stop : (place : ℕ) → LimitFails no_limits c.word.new.self place → answers after_combine c.args.self.now ≡ Err place = λ place f.
    c.in_ok-parts.ensures.ok _
    ∙ goes _ _ c.parts.new.self c.word.new.self c.in_ok-reports.reports.now c.in_ok-reports.ensures.ok refl
    ∙ f _ in
    search (rules, stop)

pub returns-clause-ok : goal.returns-clause-ok
returns-clause-ok c =
    c.in_ok-parts.ensures.ok _
    ∙ goes _ _ c.parts.new.self c.word.new.self c.in_ok-reports.reports.now c.in_ok-reports.ensures.ok refl
    ∙ c.in_ok-limits.ensures.ok _
    ∙ ap (λ w. Ok (combine (record {
      parts = c.in_ok-parts.parts;
      reports = c.in_ok-reports.reports.now;
      width = w;
      rounds = c.in_ok-limits.limits.rounds;
      keys = c.in_ok-limits.limits.keys;
    }))) (sym c.unwrap_or.ensures)
