use Rattle.std.proofs.Common.{◌+◌}
use Rattle.query_model.specs.Knowledge.{ranges_of}
use Rattle.query_model.specs.Truths.{truths_of_atom}
use Rattle.kleene_filter.specs.Words.{AreTruthsAt, HaveBelow}
use Rattle.kleene_filter.proofs.judging.word_by_rows.Given as goal

abbrev pub invariant-loop-row : goal.invariant-loop-row
invariant-loop-row g l = record {
  told : AreTruthsAt l.row (λ r. truths_of_atom l.atom (ranges_of (g.R.KnownRows.table l.rows).frame (g.R.KnownRows.table l.rows).known (l.first + r))) l.words;
  below : HaveBelow l.row l.words;
}
