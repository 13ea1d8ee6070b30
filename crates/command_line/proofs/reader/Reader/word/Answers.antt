use Rattle.std.proofs.Common.{◌+◌, sym, ap, ◌∙◌}
use Rattle.command_line.proofs.Steps.{drop_here}
use Rattle.command_line.proofs.reader.Reader.word.Goals as goal

pub returns-clause-ok : goal.returns-clause-ok
returns-clause-ok c =
    let here = drop_here c.self.inside.words.now c.self.inside.at c.word-word.result.now c.word-word.ensures.word in
    record {
      words = ap (λ l. l.words) (sym c.self.view_is) ∙ here;
      at = ap (λ l. l.at + 1) c.self.view_is;
    }
