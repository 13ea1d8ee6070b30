use Rattle.std.proofs.Common.{◌≡◌, ℕ, Some, None, option_map, refl, sym, ap, ◌∙◌, rules}
use Rattle.command_line.specs.Reading.{Lacks, StopsAt, parts, parts_of}
use Rattle.command_line.proofs.Steps.{goes, stops, lacks}
use Rattle.command_line.proofs.reader.Reader.parts.Goals as goal

pub returns-in_err-word-clause-err : goal.returns-in_err-word-clause-err
returns-in_err-word-clause-err c =
    let stop : (place : ℕ) → Lacks c.args.self.now place → StopsAt parts c.args.self.now place = λ place l k.
    lacks (parts k) c.args.self.now place refl l in
    search (rules, stop)

pub returns-in-Some-clause-ok : goal.returns-in-Some-clause-ok
returns-in-Some-clause-ok c = λ k.
    let is : parts_of c.in_ok-word.field-0.now ≡ Some c.in-Some.parts = sym c.parts_of.ensures ∙ c.in-Some.is in
    goes (parts k) _ c.args.self.now c.word.new.self c.in_ok-word.field-0.now c.in_ok-word.ensures.ok (ap (option_map k) is)

pub returns-in-None-clause-err : goal.returns-in-None-clause-err
returns-in-None-clause-err c = λ k.
    let none : parts_of c.in_ok-word.field-0.now ≡ None = sym c.parts_of.ensures ∙ c.in-None.is in
    stops (parts k) c.args.self.now c.word.new.self c.in_ok-word.field-0.now _ c.in_ok-word.ensures.ok
    (ap (option_map k) none) c.refusal-refusal.ensures
