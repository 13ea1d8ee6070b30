-- The number, a blank, the answer, and the line's end.
use Rattle.std.proofs.Common.{List, ℕ, ◌++◌, ◌∙◌, codes, subst}
use Rattle.outer_world.proofs.Writes.{writes_both, writes_cut}
use Rattle.outer_world.specs.Whole.{Writes}
use Rattle.daq_report.specs.Items.{answer_text}
use Rattle.daq_report.proofs.items.write_answer_line.Goals as goal

pub returns-in_err-write_whole-2 : goal.returns-in_err-write_whole-2
returns-in_err-write_whole-2 g c =
    let old = g.K.Sink.state c.args.out.now in
    let new = g.K.Sink.state c.write_whole-2.new.sink in
    let rest = codes " " ++ (answer_text c.args.head.now c.args.engine.now c.args.scope c.args.item.now ++ codes "\n") in
    subst (λ (number : List ℕ). Writes c.from_residual-in_err-write_whole-2.result old new (number ++ rest)) (c.bytes.ensures.text ∙ c.written_count.ensures.text)
    (writes_both _ _ _ _ _ _ rest c.in_ok-write_whole.ensures
    (writes_cut _ _ _ _ (codes " ") _ c.from_residual-in_err-write_whole-2.ensures.0 c.in_err-write_whole-2.ensures))

pub returns-in_err-write_answer : goal.returns-in_err-write_answer
returns-in_err-write_answer g c =
    let old = g.K.Sink.state c.args.out.now in
    let new = g.K.Sink.state c.write_answer.new.out in
    let answer = answer_text c.args.head.now c.args.engine.now c.args.scope c.args.item.now in
    let rest = codes " " ++ (answer ++ codes "\n") in
    subst (λ (number : List ℕ). Writes c.from_residual-in_err-write_answer.result old new (number ++ rest)) (c.bytes.ensures.text ∙ c.written_count.ensures.text)
    (writes_both _ _ _ _ _ _ rest c.in_ok-write_whole.ensures
    (writes_both _ _ _ _ _ (codes " ") _ c.in_ok-write_whole-2.ensures
    (writes_cut _ _ _ _ answer _ c.from_residual-in_err-write_answer.ensures.0 c.in_err-write_answer.ensures)))

pub returns : goal.returns
returns g c =
    let old = g.K.Sink.state c.args.out.now in
    let new = g.K.Sink.state c.write_whole-3.new.sink in
    let answer = answer_text c.args.head.now c.args.engine.now c.args.scope c.args.item.now in
    let rest = codes " " ++ (answer ++ codes "\n") in
    subst (λ (number : List ℕ). Writes c.write_whole-3.result old new (number ++ rest)) (c.bytes.ensures.text ∙ c.written_count.ensures.text)
    (writes_both _ _ _ _ _ _ rest c.in_ok-write_whole.ensures
    (writes_both _ _ _ _ _ (codes " ") _ c.in_ok-write_whole-2.ensures
    (writes_both _ _ _ _ _ answer _ c.in_ok-write_answer.ensures c.write_whole-3.ensures)))
