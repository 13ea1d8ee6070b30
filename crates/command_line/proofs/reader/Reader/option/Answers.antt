use Rattle.std.proofs.Common.{ℕ, refl, ap, ◌∙◌, rules}
use Rattle.command_line.specs.Reading.{Fails, Lacks, answers, behind}
use Rattle.command_line.specs.Values.{given_of}
use Rattle.command_line.specs.declared.reader.Flag.TheVariants as f
use Rattle.command_line.proofs.Steps.{goes, lacks}
use Rattle.command_line.proofs.reader.Reader.option.Goals as goal

pub returns-in_err-word-in-Reads-clause-err : goal.returns-in_err-word-in-Reads-clause-err
returns-in_err-word-in-Reads-clause-err c =
    let g = given_of c.args.given.now in
    let fail : (place : ℕ) → Lacks c.flag.new.self place → Fails c.args.by_name g c.args.self.now place = λ place l k.
    c.in_ok-flag.ensures.ok k ∙ ap (λ flag. answers (behind c.args.by_name flag g k) c.flag.new.self) c.in-Reads.is
    ∙ lacks (behind c.args.by_name f.Reads g k) c.flag.new.self place refl l in
    search (rules, fail)

pub returns-in_ok-word-in-Reads-clause-ok : goal.returns-in_ok-word-in-Reads-clause-ok
returns-in_ok-word-in-Reads-clause-ok c = λ k.
    let g = given_of c.args.given.now in
    c.in_ok-flag.ensures.ok k ∙ ap (λ flag. answers (behind c.args.by_name flag g k) c.flag.new.self) c.in-Reads.is
    ∙ goes (behind c.args.by_name f.Reads g k) _ c.flag.new.self c.word.new.self c.in_ok-word-in-Reads.field-0.now c.in_ok-word-in-Reads.ensures.ok refl
