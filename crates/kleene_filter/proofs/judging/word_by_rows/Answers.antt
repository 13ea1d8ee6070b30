use Rattle.std.proofs.Common.{◌+◌}
use Rattle.query_model.specs.Knowledge.{ranges_of}
use Rattle.query_model.specs.Truths.{truths_of_atom}
use Rattle.kleene_filter.proofs.WordBits.{add_truths}
use Rattle.kleene_filter.proofs.judging.word_by_rows.Goals as goal

pub loop-row-preserved : goal.loop-row-preserved
loop-row-preserved g c = record {
  told = add_truths c.loop-row.row (λ r. truths_of_atom c.args.atom.now (ranges_of (g.R.KnownRows.table c.args.rows.now).frame (g.R.KnownRows.table c.args.rows.now).known (c.args.first + r)))
      c.loop-row.words c.with-words.result c.atom_at.result c.loop-row.invariant.told c.with-words.ensures.truths c.atom_at.ensures;
  below = c.with-words.ensures.below;
}
