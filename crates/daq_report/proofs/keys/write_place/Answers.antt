-- Behind the first place a comma, and then the part.
use Rattle.std.proofs.Common.{◌≢◌, ◌∙◌, ℕ, zero, suc, List, Ok, Option, codes, ap, sym, subst}
use Rattle.std.specs.declared.result.Result.{Result}
use Rattle.outer_world.proofs.Writes.{writes_both}
use Rattle.outer_world.specs.Device.{SinkState}
use Rattle.outer_world.specs.Whole.{Writes}
use Rattle.daq_table.specs.declared.head.ColumnHead.{ColumnHead}
use Rattle.row_groups.specs.Partition.{range_for}
use Rattle.daq_report.specs.Groups.{behind_comma, part_text}
use Rattle.daq_report.specs.Intervals.{column_of}
use Rattle.daq_report.proofs.keys.write_place.Goals as goal

later : {A T E : Type 0} (x : A) (result : Result T E) (place : ℕ) (text : List ℕ) (old mid new : SinkState) → place ≢ 0 →
    Writes {E = E} (Ok x) old mid (codes ", ") → Writes result mid new text → Writes result old new (behind_comma place text)
later x result zero text old mid new some comma part = absurd (some (λ i. zero))
later x result (suc place) text old mid new some comma part = writes_both x result old mid new (codes ", ") text comma part

pub returns : goal.returns
returns g c =
    let old = g.K.Sink.state c.args.out.now in
    let mid = g.K.Sink.state c.write_whole.new.sink in
    let new = g.K.Sink.state c.write_part-2.new.out in
    let range = range_for c.args.part in
    let same = ap (λ (o : Option ColumnHead). part_text o range) (sym c.column_at-column.ensures)
    ∙ ap (λ (k : ℕ). part_text (column_of c.args.head.now c.args.query.now k) range) c.from.ensures in
    later _ c.write_part-2.result c.args.place _ old mid new c.if-place-eq0.false c.in_ok-write_whole.ensures
    (subst (Writes c.write_part-2.result mid new) same c.write_part-2.ensures)
