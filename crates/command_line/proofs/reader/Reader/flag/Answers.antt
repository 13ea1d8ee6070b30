use Rattle.std.proofs.Common.{◌≡◌, if◌then◌else◌, Some, None, sym, ap, ◌∙◌}
use Rattle.command_line.specs.Reading.{option, after_flag, behind, flag_of}
use Rattle.command_line.specs.Values.{given_of}
use Rattle.command_line.proofs.Steps.{goes, stops}
use Rattle.command_line.proofs.reader.Reader.flag.Goals as goal

pub returns-in-Some-clause-ok : goal.returns-in-Some-clause-ok
returns-in-Some-clause-ok c = λ k.
    let g = given_of c.args.given.now in
    let is : flag_of c.in_ok-word.field-0.now ≡ Some c.in-Some.flag = sym c.flag_of.ensures ∙ c.in-Some.is in
    goes (option c.args.by_name g k) (behind c.args.by_name c.in-Some.flag g k) c.args.self.now c.word.new.self c.in_ok-word.field-0.now c.in_ok-word.ensures.ok
    (ap (after_flag c.args.by_name g k) is ∙ ap (λ b. if b then Some (behind c.args.by_name c.in-Some.flag g k) else None) (sym c.is_free.ensures ∙ c.if-is_free.true))

pub returns-in_default-clause-err : goal.returns-in_default-clause-err
returns-in_default-clause-err c = λ k.
    let g = given_of c.args.given.now in
    let is : flag_of c.in_ok-word.field-0.now ≡ Some c.in-Some.flag = sym c.flag_of.ensures ∙ c.in-Some.is in
    stops (option c.args.by_name g k) c.args.self.now c.word.new.self c.in_ok-word.field-0.now _ c.in_ok-word.ensures.ok
    (ap (after_flag c.args.by_name g k) is ∙ ap (λ b. if b then Some (behind c.args.by_name c.in-Some.flag g k) else None) (sym c.is_free.ensures ∙ c.if-is_free.false))
    c.refusal-refusal.ensures

pub returns-in_default-2-clause-err : goal.returns-in_default-2-clause-err
returns-in_default-2-clause-err c = λ k.
    let g = given_of c.args.given.now in
    let none : flag_of c.in_ok-word.field-0.now ≡ None = sym c.flag_of.ensures ∙ c.in_default.is in
    stops (option c.args.by_name g k) c.args.self.now c.word.new.self c.in_ok-word.field-0.now _ c.in_ok-word.ensures.ok
    (ap (after_flag c.args.by_name g k) none) c.refusal-refusal.ensures
