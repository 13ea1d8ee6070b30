use Rattle.std.proofs.lemmas.Result.{IfOk-weaker}
use Rattle.report_text.proofs.ReadKeys.{from_texts, from_values}
use Rattle.report_text.proofs.keys.read_between.Goals as goal

pub returns-in-Some-clause-read : goal.returns-in-Some-clause-read
returns-in-Some-clause-read c =
    IfOk-weaker c.read_texts.result _ _
    (λ read texts. from_texts c.args.low.now c.args.high.now c.in-Some.field-0.now read c.in-Some.ensures texts) c.read_texts.ensures.read

pub returns-in-None-clause-read : goal.returns-in-None-clause-read
returns-in-None-clause-read c = from_values c.args.low.now c.args.high.now c.read_values.result c.in-None.ensures c.read_values.ensures.read
