use Rattle.std.proofs.Common.{◌∙◌, sym}
use Rattle.csv_load.proofs.MarkFacts.{mark_passed, no_mark}
use Rattle.csv_load.proofs.marks.past_marks.Goals as goal

pub loop-rest-preserved : goal.loop-rest-preserved
loop-rest-preserved c = mark_passed c.loop-rest.rest.now c.args.bytes.now (sym c.has_mark.ensures ∙ c.loop-rest-test.true) c.loop-rest.invariant

pub returns : goal.returns
returns c = sym (no_mark c.loop-rest.rest.now (sym c.has_mark.ensures ∙ c.loop-rest-test.false)) ∙ c.loop-rest.invariant
