use Rattle.std.proofs.Common.{◌≡◌, ℕ, None, option_map, refl, ap, rules, arith}
use Rattle.command_line.specs.Commands.{IsNumber}
use Rattle.command_line.specs.Reading.{Lacks, StopsAt, number, number_of}
use Rattle.command_line.proofs.Numbers.{number_some, number_none}
use Rattle.command_line.proofs.Steps.{goes, stops, lacks}
use Rattle.command_line.proofs.reader.Reader.number.Goals as goal

pub returns-in_err-word-clause-err : goal.returns-in_err-word-clause-err
returns-in_err-word-clause-err c =
    let stop : (place : ℕ) → Lacks c.args.self.now place → StopsAt (number c.args.limit) c.args.self.now place = λ place l k.
    lacks (number c.args.limit k) c.args.self.now place refl l in
    search (rules, stop)

pub returns-in-Some-clause-ok : goal.returns-in-Some-clause-ok
returns-in-Some-clause-ok c = λ k.
    let is : IsNumber c.args.limit c.in_ok-word.field-0.now c.in-Some.number =
    record { digits = c.in-Some.ensures.0.0; value = c.in-Some.ensures.1; small = c.if-number-limit.true } in
    goes (number c.args.limit k) (k c.in-Some.number) c.args.self.now c.word.new.self c.in_ok-word.field-0.now c.in_ok-word.ensures.ok
    (ap (option_map k) (number_some c.args.limit c.in_ok-word.field-0.now c.in-Some.number is))

pub returns-in_default-clause-err : goal.returns-in_default-clause-err
returns-in_default-clause-err c = λ k.
    let none : number_of c.args.limit c.in_ok-word.field-0.now ≡ None =
    number_none _ _ (λ n is. let v = c.in-Some.ensures.1 in let w = is.value in let s = is.small in let t = c.if-number-limit.false in
    omega arith) in
    stops (number c.args.limit k) c.args.self.now c.word.new.self c.in_ok-word.field-0.now _ c.in_ok-word.ensures.ok
    (ap (option_map k) none) c.refusal-refusal.ensures

pub returns-in_default-2-clause-err : goal.returns-in_default-2-clause-err
returns-in_default-2-clause-err c = λ k.
    let none : number_of c.args.limit c.in_ok-word.field-0.now ≡ None =
    number_none _ _ (λ n is. c.in_default.ensures (
      is.digits,
      (let w = is.value in let s = is.small in let f = c.ranges.limit.fits in
          omega arith),
    )) in
    stops (number c.args.limit k) c.args.self.now c.word.new.self c.in_ok-word.field-0.now _ c.in_ok-word.ensures.ok
    (ap (option_map k) none) c.refusal-refusal.ensures
