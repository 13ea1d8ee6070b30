use Rattle.std.proofs.Common.{◌≡◌, if◌then◌else◌, Some, None, sym, ap, ◌∙◌}
use Rattle.command_line.specs.Reading.{limiting, after_limit, behind_limit, flag_of}
use Rattle.command_line.specs.Values.{limits_of}
use Rattle.command_line.proofs.Steps.{goes, stops}
use Rattle.command_line.proofs.reader.Reader.limit_name.Goals as goal

pub returns-in-Some-clause-ok : goal.returns-in-Some-clause-ok
returns-in-Some-clause-ok c = λ k.
    let g = limits_of c.args.limits.now in
    let is : flag_of c.in_ok-word.field-0.now ≡ Some c.in-Some.flag = sym c.flag_of.ensures ∙ c.in-Some.is in
    goes (limiting g k) (behind_limit c.in-Some.flag g k) c.args.self.now c.word.new.self c.in_ok-word.field-0.now c.in_ok-word.ensures.ok
    (ap (after_limit g k) is ∙ ap (λ b. if b then Some (behind_limit c.in-Some.flag g k) else None) (sym c.may_take.ensures ∙ c.if-may_take.true))

pub returns-in_default-clause-err : goal.returns-in_default-clause-err
returns-in_default-clause-err c = λ k.
    let g = limits_of c.args.limits.now in
    let is : flag_of c.in_ok-word.field-0.now ≡ Some c.in-Some.flag = sym c.flag_of.ensures ∙ c.in-Some.is in
    stops (limiting g k) c.args.self.now c.word.new.self c.in_ok-word.field-0.now _ c.in_ok-word.ensures.ok
    (ap (after_limit g k) is ∙ ap (λ b. if b then Some (behind_limit c.in-Some.flag g k) else None) (sym c.may_take.ensures ∙ c.if-may_take.false))
    c.refusal-refusal.ensures

pub returns-in_default-2-clause-err : goal.returns-in_default-2-clause-err
returns-in_default-2-clause-err c = λ k.
    let g = limits_of c.args.limits.now in
    let none : flag_of c.in_ok-word.field-0.now ≡ None = sym c.flag_of.ensures ∙ c.in_default.is in
    stops (limiting g k) c.args.self.now c.word.new.self c.in_ok-word.field-0.now _ c.in_ok-word.ensures.ok
    (ap (after_limit g k) none) c.refusal-refusal.ensures
