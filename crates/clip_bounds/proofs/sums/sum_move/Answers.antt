use Rattle.std.proofs.Common.{◌≡◌, pos, ◌+ℤ◌, ◌-ℤ◌, ◌*ℤ◌, ◌≤ℤ◌, ◌<ℤ◌, map, slice_get, Some, inl, inr, ap, subst, sym, ◌∙◌, arith, to_z, of_z}
use Rattle.std.specs.Int.{w128}
use Rattle.std.proofs.lemmas.Int.{ints}
use Rattle.aggregates.specs.declared.ends.End.{End}
use Rattle.aggregates.specs.declared.ends.End.TheVariants.{Low, High}
use Rattle.daq_table.specs.Tables.{ends_at}
use Rattle.known_column.specs.Columns.{KnownColumn}
use Rattle.known_column.specs.KnownTables.{KnownTable, column_at}
use Rattle.kleene_filter.specs.Filters.{is_possible}
use Rattle.query_model.specs.Answers.{total}
use Rattle.round_engine.specs.SumEnds.{share_at}
use Rattle.round_engine.proofs.Kept.{if_some_also}
use Rattle.round_engine.proofs.RowPairs.{rows_of_mask}
use Rattle.clip_bounds.specs.declared.level.Level.{Level}
use Rattle.clip_bounds.specs.Clips.{IsLong, clip_of}
use Rattle.clip_bounds.specs.Clipped.{pairs_in}
use Rattle.clip_bounds.specs.Ends.{clip_end, level_end, part_of}
use Rattle.clip_bounds.specs.Levels.{IsLevelOf, count_at}
use Rattle.clip_bounds.proofs.Moves.{ends_kept, ends_moved}
use Rattle.clip_bounds.proofs.Rows.{clipped_by}
use Rattle.clip_bounds.proofs.sums.sum_move.Goals as goal

pub returns-then-number-from : goal.returns-then-number-from
returns-then-number-from c =
    let stage = c.args.engine.now in
    let clip = c.args.clip in
    let table : KnownTable = record { frame = stage.frame; known = stage.known } in
    let own = c.column_of-known.ensures in
    let base : c.base.result ≡ (ends_at stage.frame clip.column).base = c.base.ensures ∙ ap (λ (k : KnownColumn). k.ends.base) own.column in
    let below : c.end-number.result <ℤ (ends_at stage.frame clip.column).base = omega (arith, ints) in
    if_some_also (slice_get stage.query.items c.args.item) (λ i. clip_of stage.query i ≡ Some clip) _ c.requires.clip (λ i is has.
    ends_kept stage.query i clip table (clipped_by stage.query i clip has) c.requires.full own.longs own.knowledge own.there c.args.end (inl (subst (λ z. z <ℤ (ends_at stage.frame clip.column).base) c.end-number.ensures below)))

pub returns-then-from-number : goal.returns-then-from-number
returns-then-from-number c =
    let stage = c.args.engine.now in
    let clip = c.args.clip in
    let table : KnownTable = record { frame = stage.frame; known = stage.known } in
    let own = c.column_of-known.ensures in
    let top : c.top.result ≡ (ends_at stage.frame clip.column).top = c.top.ensures ∙ ap (λ (k : KnownColumn). k.ends.top) own.column in
    let past : (ends_at stage.frame clip.column).top <ℤ c.end-number.result = omega (arith, ints) in
    if_some_also (slice_get stage.query.items c.args.item) (λ i. clip_of stage.query i ≡ Some clip) _ c.requires.clip (λ i is has.
    ends_kept stage.query i clip table (clipped_by stage.query i clip has) c.requires.full own.longs own.knowledge own.there c.args.end (inr (subst (λ z. (ends_at stage.frame clip.column).top <ℤ z) c.end-number.ensures past)))

long_end : (e : End) (level : Level) → IsLong level.low → IsLong level.high → IsLong (level_end e level)
long_end Low level low high = low
long_end High level low high = high

pub end_step-step-requires-clause-from : goal.end_step-step-requires-clause-from
end_step-step-requires-clause-from c =
    let long : IsLong c.end.result = subst IsLong (sym c.end.ensures) (long_end c.args.end c.of-level.result c.of-level.ensures.low c.of-level.ensures.high) in
    let same : to_z w128 (of_z w128 c.end.result) ≡ c.end.result = omega (arith, ints) in
    subst IsLong (sym same) long

pub all_steps-requires-clause-rows : goal.all_steps-requires-clause-rows
all_steps-requires-clause-rows c =
    let stage = c.args.engine.now in
    rows_of_mask is_possible c.may.result.now c.filter.result.now.truths stage.query.pred (record { frame = stage.frame; known = stage.known }) c.may.ensures c.filter.ensures ∙ sym c.column_of-known.ensures.rows

pub returns : goal.returns
returns c =
    let stage = c.args.engine.now in
    let clip = c.args.clip in
    let e = c.args.end in
    let table : KnownTable = record { frame = stage.frame; known = stage.known } in
    let own = c.column_of-known.ensures in
    let level = c.of-level.result in
    let known = c.column_of-known.result.now in
    let number = c.end-number.result in
    let base : c.base.result ≡ (ends_at stage.frame clip.column).base = c.base.ensures ∙ ap (λ (k : KnownColumn). k.ends.base) own.column in
    let top : c.top.result ≡ (ends_at stage.frame clip.column).top = c.top.ensures ∙ ap (λ (k : KnownColumn). k.ends.top) own.column in
    let above : (ends_at stage.frame clip.column).base ≤ℤ number = omega (arith, ints) in
    let below : number ≤ℤ (ends_at stage.frame clip.column).top = omega (arith, ints) in
    let same : to_z w128 (of_z w128 number) ≡ number = omega (arith, ints) in
    let end : to_z w128 (of_z w128 c.end.result) ≡ c.end.result = omega (arith, ints) in
    let step : c.end_step-step.result ≡ (part_of e (clip_end e clip) -ℤ part_of e (level_end e level)) =
    c.end_step-step.ensures.step ∙ ap (λ z. part_of e z -ℤ part_of e (to_z w128 (of_z w128 c.end.result))) (same ∙ c.end-number.ensures) ∙ ap (λ z. part_of e (clip_end e clip) -ℤ part_of e z) (end ∙ c.end.ensures) in
    let n = count_at level.prefix c.may.result.now known.known.prefixes in
    let one : to_z w128 (of_z w128 c.end_step-step.result) ≡ c.end_step-step.result = omega (arith, ints) in
    let all : to_z w128 (of_z w128 c.all_steps.result) ≡ c.all_steps.result = omega (arith, ints) in
    let moved : to_z w128 (of_z w128 c.all_steps.result) ≡ (pos (count_at level.prefix c.may.result.now (column_at table clip.column).known.prefixes) *ℤ (part_of e (clip_end e clip) -ℤ part_of e (level_end e level))) =
    all ∙ c.all_steps.ensures ∙ ap (λ z. pos n *ℤ z) (one ∙ step) ∙ ap (λ (k : KnownColumn). pos (count_at level.prefix c.may.result.now k.known.prefixes) *ℤ (part_of e (clip_end e clip) -ℤ part_of e (level_end e level))) own.column in
    let is : IsLevelOf (column_at table clip.column) (clip_end e clip) level = subst (λ k. IsLevelOf k (clip_end e clip) level) own.column (subst (λ z. IsLevelOf known z level) (same ∙ c.end-number.ensures) c.of-level.ensures.level) in
    if_some_also (slice_get stage.query.items c.args.item) (λ i. clip_of stage.query i ≡ Some clip) _ c.requires.clip (λ i at has.
    ends_moved stage.query i clip table (clipped_by stage.query i clip has) c.requires.full own.longs own.knowledge own.there e level c.may.result.now c.filter.result.now.truths is
    (subst (λ z. (ends_at stage.frame clip.column).base ≤ℤ z) c.end-number.ensures above) (subst (λ z. z ≤ℤ (ends_at stage.frame clip.column).top) c.end-number.ensures below) c.may.ensures c.filter.ensures
    ∙ ap (λ z. total (map (share_at e) (pairs_in stage i)) +ℤ z) (sym moved))
