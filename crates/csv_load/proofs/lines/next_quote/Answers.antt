use Rattle.std.proofs.Common.{get_or}
use Rattle.std.proofs.lemmas.List.Elements.{All-push}
use Rattle.csv_load.specs.Lines.{JoinsQuoted}
use Rattle.csv_load.proofs.LineFacts.{part_more}
use Rattle.csv_load.proofs.lines.next_quote.Goals as goal

pub loop-at-preserved : goal.loop-at-preserved
loop-at-preserved c =
    rw (part_more c.args.text.now c.args.from c.loop-at.at c.loop-at.auto.at c.loop-at-test.true)
    (All-push JoinsQuoted _ (get_or c.args.text.now c.loop-at.at 0) c.loop-at.invariant c.if-text-at-eq34.false)
