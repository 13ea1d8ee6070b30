-- The filter follows each plane of the one column.
use Rattle.std.proofs.Common.{◌≡◌, arith, false, length, subst, sym, ap, ◌∙◌}
use Rattle.std.proofs.lemmas.List.{length-replicate}
use Rattle.daq_table.specs.Tables.{ends_at}
use Rattle.query_model.specs.Queries.{condition_of}
use Rattle.known_column.specs.KnownTables.{KnownTable}
use Rattle.kleene_filter.specs.Filters.{StandsFor}
use Rattle.plane_bench.specs.Planes.{truths_after}
use Rattle.plane_bench.proofs.Steps.{nothing_read}
use Rattle.plane_bench.proofs.reading.follow_planes.Goals as goal

pub loop-init : goal.loop-init
loop-init c =
    let none = c.requires.start ∙ nothing_read c.start_is_known.ensures (ends_at c.args.columns.frame 0) c.args.cells.now c.requires.cells in
    record {
      read = none;
      rows = ap length c.in_ok-plane.ensures ∙ length-replicate (length c.args.cells.now) false;
      lent = c.in_ok-filter.ensures.block ∙ ap (λ (t : KnownTable). t.frame.columns) c.lend-lent.ensures;
      filter = subst (StandsFor c.in_ok-filter.filter (condition_of c.args.pred.now)) (c.lend-lent.ensures ∙ none) c.in_ok-filter.ensures.stands;
    }

pub refresh-requires-clause-stood : goal.refresh-requires-clause-stood
refresh-requires-clause-stood c = record {
  before = c.loop.columns;
  stood = subst (StandsFor c.loop.filter (condition_of c.args.pred.now)) (sym c.loop.invariant.read) c.loop.invariant.filter;
  could = c.read_next.ensures.legal;
  taken = c.lend.ensures ∙ c.read_next.ensures.taken;
}

pub returns : goal.returns
returns c = subst (λ n. c.loop.filter.truths ≡ truths_after (condition_of c.args.pred.now) (ends_at c.args.columns.frame 0) c.args.cells.now n) (omega (arith, c.loop-test.false)) c.loop.invariant.filter.truths
