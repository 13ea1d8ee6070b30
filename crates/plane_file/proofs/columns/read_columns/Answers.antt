use Rattle.std.proofs.Common.{◌≡◌, ℕ, ◌-◌, Option, List, refl, sym, ◌∙◌, arith, subst, inr}
use Rattle.std.proofs.lemmas.List.{length_push}
use Rattle.std.proofs.lemmas.Result.{err_from_is_err_and}
use Rattle.daq_table.specs.declared.head.ColumnHead.{ColumnHead}
use Rattle.plane_file.specs.Bytes.{AreBytes}
use Rattle.plane_file.proofs.HeadSteps.{bytes_left, checks_step, heads_end, heads_start, heads_step, heads_stop, planes_end, planes_step}
use Rattle.plane_file.specs.Checks.{column_checks, first_fault, titles_of}
use Rattle.plane_file.specs.Fronts.{AreHeads, IsColumnAt, MayFail}
use Rattle.plane_file.specs.declared.file_fault.FileFault.{FileFault}
use Rattle.plane_file.proofs.columns.read_columns.Goals as goal

none_read : (count : ℕ) → count - 0 ≡ count
none_read count = omega arith

pub loop-init : goal.loop-init
loop-init c =
    let none = c.new-columns.ensures.items in
    record {
      heads = rw none (heads_start c.args.bytes.now c.requires.header);
      many = rw none refl;
      planes = rw (none, none_read c.args.count) (omega arith);
      checks = rw (none, none_read c.args.count) refl;
    }

pub loop-preserved : goal.loop-preserved
loop-preserved c =
    let bytes = c.args.bytes.now in
    let columns = c.loop.columns.items in
    let place = c.loop.place in
    let last = c.in_ok-column.column in
    let end = c.in_ok-column.end in
    let fits : AreBytes bytes = λ i. omega (arith, c.type_inv.bytes i) in
    let next : IsColumnAt bytes (titles_of columns) place last end = subst (λ (cs : List ColumnHead). IsColumnAt bytes (titles_of cs) place last end) c.deref.ensures.value c.in_ok-column.ensures.ok in
    let pushed = c.in_ok-push.ensures.items in
    record {
      heads = rw pushed (heads_step bytes columns place last end fits c.loop.invariant.heads next);
      many = rw pushed (omega (arith, length_push columns last, c.loop.invariant.many));
      planes = rw pushed (planes_step c.args.count c.loop.counter bytes columns place last end fits c.loop-test.true next ∙ c.loop.invariant.planes);
      checks = rw pushed (checks_step c.args.count c.loop.counter bytes columns place last end c.loop-test.true next ∙ c.loop.invariant.checks);
    }

pub returns-in_err-column-clause-err : goal.returns-in_err-column-clause-err
returns-in_err-column-clause-err c =
    let bytes = c.args.bytes.now in
    let columns = c.loop.columns.items in
    let place = c.loop.place in
    let why = c.in_err-column.field-0.0 in
    let p = err_from_is_err_and c.from_residual.result c.from_residual.ensures.1 in
    let here : MayFail (first_fault (column_checks bytes (titles_of columns) place)) why =
    subst (λ (cs : List ColumnHead). MayFail (first_fault (column_checks bytes (titles_of cs) place)) why) c.deref.ensures.value c.in_err-column.ensures.err in
    let all = subst (λ (o : Option FileFault). MayFail o why) c.loop.invariant.checks (heads_stop c.args.count c.loop.counter bytes (titles_of columns) place why c.loop-test.true here) in
    rw (p.1, p.2) all

pub returns-then-place-bytes-clause-err : goal.returns-then-place-bytes-clause-err
returns-then-place-bytes-clause-err c =
    inr (sym c.loop.invariant.checks ∙ bytes_left c.args.count c.loop.counter c.args.bytes.now (titles_of c.loop.columns.items) c.loop.place c.loop-test.false c.if-place-bytes.true)

pub returns-clause-ok : goal.returns-clause-ok
returns-clause-ok c =
    let bytes = c.args.bytes.now in
    let columns = c.loop.columns.items in
    let count = c.args.count in
    let i = c.loop.counter in
    record {
      heads = subst (λ (n : ℕ). AreHeads bytes columns n) c.if-place-bytes.false c.loop.invariant.heads;
      count_is = omega (arith, c.loop.invariant.many, c.loop-test.false, c.loop.auto.counter-end);
      planes = omega (arith, planes_end count i bytes c.loop.place c.loop-test.false, c.loop.invariant.planes);
      passed = sym c.loop.invariant.checks ∙ heads_end count i bytes (titles_of columns) c.loop.place c.loop-test.false c.if-place-bytes.false;
    }
