use Rattle.std.proofs.Common.{◌≡◌, ap, sym, subst, ◌∙◌, arith}
use Rattle.query_model.specs.Queries.{Aggregate, Column, term_of}
use Rattle.round_engine.specs.Stages.{Stage}
use Rattle.round_engine.proofs.one_cell.CellMasks.read_sum.Goals as goal

pub returns-clause-stand : goal.returns-clause-stand
returns-clause-stand c = λ told.
    let were = c.requires.before in
    let item = c.args.item.now in
    let over : item.arg ≡ Column c.in-Column.column = sym (ap (λ (i : Aggregate). i.arg) c.item.view_is) ∙ ap term_of c.in-Column.is in
    let same : c.in-Column.column ≡ c.args.rows.column = omega (arith, c.if-column-rows.false) in
    let rows = ap (λ (s : Stage). s.frame.rows) were.step.read in
    c.read_sums.ensures.stand told were.before (sym rows) were.stood
    (c.count_rows.ensures.counted were.before (record { column = c.args.rows.column; arg = subst (λ k. item.arg ≡ Column k) same over; step = were.step }))
