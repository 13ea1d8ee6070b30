use Rattle.std.proofs.Common.{◌∙◌, ap, arith, drop, length, subst, sym}
use Rattle.std.proofs.lemmas.List.{take_at}
use Rattle.std.proofs.lemmas.Result.{err_from_is_err_and}
use Rattle.csv_load.specs.Faults.{Refuses}
use Rattle.csv_load.specs.declared.fault.TableFault.{TableFault}
use Rattle.csv_load.proofs.ReadSteps.{count_bound, next_refused, no_header, none_read, none_taken, one_more, states_wide, whole_read}
use Rattle.csv_load.proofs.reading.read_columns.Goals as goal

pub records-init : goal.records-init
records-init c =
    none_read c.args.bytes.now c.args.schema.now.items c.args.limits.now c.new-reader.result.text.now c.in_ok-columns.columns.items (c.new-reader.ensures ∙ c.past_marks.ensures)
    (rw (← c.args.schema.now.kept, ← c.as_slice.ensures) c.in_ok-columns.ensures)

pub take_next-requires-clause-small : goal.take_next-requires-clause-small
take_next-requires-clause-small c =
    omega (arith, count_bound c.args.bytes.now c.args.schema.now.items c.args.limits.now c.records.reader.text.now c.records.from c.records.records c.records.columns.items c.records.invariant, c.requires)

pub take_next-requires-clause-wide : goal.take_next-requires-clause-wide
take_next-requires-clause-wide c =
    ap length c.deref_mut.ensures.value
    ∙ states_wide c.args.bytes.now c.args.schema.now.items c.args.limits.now c.records.reader.text.now c.records.from c.records.records c.records.columns.items c.records.invariant
    ∙ ap length (sym c.args.schema.now.kept)

pub returns-in_err-next-clause-err : goal.returns-in_err-next-clause-err
returns-in_err-next-clause-err c =
    let p = err_from_is_err_and c.from_residual-in_err-next.result c.from_residual-in_err-next.ensures.1 in
    let why = next_refused c.args.bytes.now c.args.schema.now.items c.args.limits.now c.records.reader.text.now c.records.from c.records.records c.records.columns.items c.records.invariant
    c.deref_mut.result.now c.in_err-next.field-0.0 c.deref_mut.ensures.value c.in_err-next.ensures.err in
    rw p.1 (subst (λ (e : TableFault). Refuses c.args.bytes.now c.args.schema.now.items c.args.limits.now e) (sym p.2) why)

pub records-preserved : goal.records-preserved
records-preserved c =
    let taken = rw c.in-Some.is at c.in_ok-next.ensures.ok in
    let whole = take_at c.take_next.new.columns (drop (length c.take_next.new.columns) c.records.columns.items) c.records.columns.len (omega (arith, c.take_next.auto.columns, c.deref_mut.ensures.len)) in
    rw (whole, c.take_next.ensures.text) (one_more c.args.bytes.now c.args.schema.now.items c.args.limits.now c.records.reader.text.now c.records.from c.records.records c.records.columns.items c.records.invariant
    c.deref_mut.result.now c.in-Some.next c.take_next.new.columns c.deref_mut.ensures.value taken)

pub returns-then-records-eq0-clause-err : goal.returns-then-records-eq0-clause-err
returns-then-records-eq0-clause-err c =
    let none = none_taken c.args.schema.now.items c.args.limits.now c.records.records c.records.reader.text.now c.records.from c.deref_mut.result.now c.take_next.new.columns _ c.in_default.not-Some c.in_ok-next.ensures.ok in
    no_header c.args.bytes.now c.args.schema.now.items c.args.limits.now c.records.reader.text.now c.records.from c.records.records c.records.columns.items c.records.invariant none.0 c.if-records-eq0.true

pub returns-clause-ok : goal.returns-clause-ok
returns-clause-ok c =
    let none = none_taken c.args.schema.now.items c.args.limits.now c.records.records c.records.reader.text.now c.records.from c.deref_mut.result.now c.take_next.new.columns _ c.in_default.not-Some c.in_ok-next.ensures.ok in
    let whole = take_at c.take_next.new.columns (drop (length c.take_next.new.columns) c.records.columns.items) c.records.columns.len (omega (arith, c.take_next.auto.columns, c.deref_mut.ensures.len)) in
    rw (whole, none.1, c.deref_mut.ensures.value)
    (whole_read c.args.bytes.now c.args.schema.now.items c.args.limits.now c.records.reader.text.now c.records.from c.records.records c.records.columns.items c.records.invariant none.0 c.if-records-eq0.false)
