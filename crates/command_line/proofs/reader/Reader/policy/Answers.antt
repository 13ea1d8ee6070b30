use Rattle.std.proofs.Common.{◌≡◌, ℕ, Some, None, option_map, refl, sym, ap, ◌∙◌, rules}
use Rattle.plane_schedule.specs.Choices.{policy_named}
use Rattle.command_line.specs.Reading.{Lacks, StopsAt, policy}
use Rattle.command_line.proofs.Steps.{goes, stops, lacks}
use Rattle.command_line.proofs.reader.Reader.policy.Goals as goal

pub returns-in_err-word-clause-err : goal.returns-in_err-word-clause-err
returns-in_err-word-clause-err c =
    let stop : (place : ℕ) → Lacks c.args.self.now place → StopsAt policy c.args.self.now place = λ place l k.
    lacks (policy k) c.args.self.now place refl l in
    search (rules, stop)

pub returns-in-Some-clause-ok : goal.returns-in-Some-clause-ok
returns-in-Some-clause-ok c = λ k.
    let is : policy_named c.in_ok-word.field-0.now ≡ Some c.in-Some.policy = sym c.named.ensures ∙ c.in-Some.is in
    goes (policy k) _ c.args.self.now c.word.new.self c.in_ok-word.field-0.now c.in_ok-word.ensures.ok (ap (option_map k) is)

pub returns-in-None-clause-err : goal.returns-in-None-clause-err
returns-in-None-clause-err c = λ k.
    let none : policy_named c.in_ok-word.field-0.now ≡ None = sym c.named.ensures ∙ c.in-None.is in
    stops (policy k) c.args.self.now c.word.new.self c.in_ok-word.field-0.now _ c.in_ok-word.ensures.ok
    (ap (option_map k) none) c.refusal-refusal.ensures
