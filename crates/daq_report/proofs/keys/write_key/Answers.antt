-- The parts are written in order.
use Rattle.std.proofs.Common.{◌≡◌, ◌<◌, ◌∙◌, ℕ, List, Ok, ap, sym, subst, length, map, take, pos, arith}
use Rattle.std.proofs.lemmas.Option.{slice_get-get_or}
use Rattle.std.specs.Simd.Lanes.{zip2}
use Rattle.outer_world.specs.declared.device.Failed.{Failed}
use Rattle.outer_world.specs.Whole.{Writes}
use Rattle.query_model.specs.Truths.{Range}
use Rattle.query_model.specs.declared.bounds.Nullity.TheVariants.{Never}
use Rattle.row_groups.specs.Partition.{range_for}
use Rattle.row_groups.specs.declared.prefix.PartRange.{PartRange}
use Rattle.daq_report.specs.Groups.{listed, part_text}
use Rattle.daq_report.specs.Intervals.{column_of}
use Rattle.daq_report.proofs.Commas.{listed_after, listed_cut}
use Rattle.daq_report.proofs.Parts.{all_taken, as_many, part_at}
use Rattle.daq_report.proofs.keys.write_key.Goals as goal

-- what stands past the last part
abbrev none : PartRange
none = record { low = pos 0; high = pos 0; null = Never }

pub bounds-columns-place : goal.bounds-columns-place
bounds-columns-place g c =
    let many = as_many c.args.head.now c.args.query.now c.args.columns.now c.args.parts.now c.requires in
    subst (λ n. c.loop-place.place < n) (sym many) c.loop-place-test.true

pub write_place-requires-clause-there : goal.write_place-requires-clause-there
write_place-requires-clause-there g c =
    let many = as_many c.args.head.now c.args.query.now c.args.columns.now c.args.parts.now c.requires in
    let below : c.loop-place.place < length c.args.columns.now = subst (λ n. c.loop-place.place < n) (sym many) c.loop-place-test.true in
    (part_at c.args.head.now c.args.query.now c.args.columns.now c.args.parts.now c.loop-place.place _ _ c.requires
    (slice_get-get_or c.args.columns.now c.loop-place.place 0 below) (slice_get-get_or c.args.parts.now c.loop-place.place none c.loop-place-test.true)).there

pub write_place-requires-clause-shows : goal.write_place-requires-clause-shows
write_place-requires-clause-shows g c =
    let many = as_many c.args.head.now c.args.query.now c.args.columns.now c.args.parts.now c.requires in
    let below : c.loop-place.place < length c.args.columns.now = subst (λ n. c.loop-place.place < n) (sym many) c.loop-place-test.true in
    (part_at c.args.head.now c.args.query.now c.args.columns.now c.args.parts.now c.loop-place.place _ _ c.requires
    (slice_get-get_or c.args.columns.now c.loop-place.place 0 below) (slice_get-get_or c.args.parts.now c.loop-place.place none c.loop-place-test.true)).shows

pub returns-in_err-write_place : goal.returns-in_err-write_place
returns-in_err-write_place g c =
    let many = as_many c.args.head.now c.args.query.now c.args.columns.now c.args.parts.now c.requires in
    let below : c.loop-place.place < length c.args.columns.now = subst (λ n. c.loop-place.place < n) (sym many) c.loop-place-test.true in
    let at = part_at c.args.head.now c.args.query.now c.args.columns.now c.args.parts.now c.loop-place.place _ _ c.requires
    (slice_get-get_or c.args.columns.now c.loop-place.place 0 below) (slice_get-get_or c.args.parts.now c.loop-place.place none c.loop-place-test.true) in
    listed_cut _ _ _ _ c.loop-place.place _ _ _ _ at.text c.loop-place.invariant c.from_residual.ensures.0 c.in_err-write_place.ensures

pub loop-place-preserved : goal.loop-place-preserved
loop-place-preserved g c =
    let many = as_many c.args.head.now c.args.query.now c.args.columns.now c.args.parts.now c.requires in
    let below : c.loop-place.place < length c.args.columns.now = subst (λ n. c.loop-place.place < n) (sym many) c.loop-place-test.true in
    let at = part_at c.args.head.now c.args.query.now c.args.columns.now c.args.parts.now c.loop-place.place _ _ c.requires
    (slice_get-get_or c.args.columns.now c.loop-place.place 0 below) (slice_get-get_or c.args.parts.now c.loop-place.place none c.loop-place-test.true) in
    listed_after _ _ _ _ c.loop-place.place _ _ _ _ at.text c.loop-place.invariant c.in_ok-write_place.ensures

pub returns : goal.returns
returns g c =
    let text : ℕ → Range → List ℕ = λ k range. part_text (column_of c.args.head.now c.args.query.now k) range in
    let end : c.loop-place.place ≡ length c.args.parts.now = omega arith in
    let old = g.K.Sink.state c.args.out.now in
    let now = g.K.Sink.state c.loop-place.out in
    let texts = zip2 text c.args.columns.now (map range_for c.args.parts.now) in
    subst (λ (l : List (List ℕ)). Writes {T = Unit {0}} {E = Failed} (Ok tt) old now (listed l)) (ap (λ k. take k texts) end ∙ all_taken text c.args.columns.now c.args.parts.now)
    c.loop-place.invariant
