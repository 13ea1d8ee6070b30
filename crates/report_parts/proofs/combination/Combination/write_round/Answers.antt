use Rattle.std.proofs.Common.{◌≡◌, None, ◌++◌, sym, ◌∙◌, ap, ℕ, List}
use Rattle.std.proofs.lemmas.Result.{err_from_is_err_and}
use Rattle.report_parts.proofs.Courses.{on_goes, stops_here, wrote_block, wrote_end}
use Rattle.report_parts.specs.Course.{wanted_of}
use Rattle.report_parts.specs.Written.{end_at}
use Rattle.report_parts.proofs.combination.Combination.write_round.Goals as goal

pub returns-in_err-ahead-clause-fault : goal.returns-in_err-ahead-clause-fault
returns-in_err-ahead-clause-fault c =
    let p = err_from_is_err_and c.from_residual.result c.from_residual.ensures.1 in
    rw (p.1, p.2)
    (λ wholes before ahead goes.
    stops_here c.in_err-ahead.field-0.0 c.args.self.now wholes before c.args.text.now.items c.requires.has c.in_err-ahead.ensures.fault ahead goes)

pub returns-in-Some-clause-written : goal.returns-in-Some-clause-written
returns-in-Some-clause-written c =
    let put = c.in_ok-extend_from_slice.ensures.items in
    let seen = c.deref.ensures.value in
    let mid : c.extend_from_slice.new.self.items ≡ c.args.text.now.items ++ c.in_ok-ahead.ahead.block.items = put ∙ ap (λ (t : List ℕ). c.args.text.now.items ++ t) seen in
    wrote_end c.args.self.now c.finish.new.self c.in-Some.end c.finish.result c.args.text.now.items c.extend_from_slice.new.self.items c.finish.new.text.items
    c.in_ok-ahead.ahead.block.items c.finish.ensures.task mid c.in_ok-ahead.ensures.block c.finish.ensures.ended c.finish.ensures.put c.requires.has
    c.in_ok-ahead.ensures.said (sym c.in_ok-ahead.ensures.end ∙ c.in-Some.is)

pub returns-clause-written : goal.returns-clause-written
returns-clause-written c =
    let put = c.in_ok-extend_from_slice.ensures.items in
    let seen = c.deref.ensures.value in
    let mid : c.extend_from_slice.new.self.items ≡ c.args.text.now.items ++ c.in_ok-ahead.ahead.block.items = put ∙ ap (λ (t : List ℕ). c.args.text.now.items ++ t) seen in
    let none : end_at (wanted_of c.args.self.now.task) c.args.self.now.round c.args.self.now.parts ≡ None = sym c.in_ok-ahead.ensures.end ∙ c.in-None.is in
    wrote_block c.args.self.now c.go_on.new.self c.go_on.result c.args.text.now.items c.extend_from_slice.new.self.items c.in_ok-ahead.ahead.block.items
    c.go_on.ensures.task (c.go_on.ensures.end ∙ c.requires.open) mid c.in_ok-ahead.ensures.block
    (on_goes c.args.self.now c.go_on.new.self c.go_on.result c.go_on.ensures.round c.go_on.ensures.kept none) c.requires.has
    c.in_ok-ahead.ensures.said none
