-- The column is one of 32 planes, and its cells are those of all rows.
use Rattle.std.proofs.Common.{◌≡◌, ◌+◌, ◌*◌, ◌%◌, ◌^◌, ℕ, List, count_by, sum_by, sym, ap, ◌∙◌, subst, arith}
use Rattle.daq_table.specs.Tables.{ends_at}
use Rattle.query_model.specs.Queries.{Condition}
use Rattle.kleene_filter.specs.Filters.{is_unknown}
use Rattle.plane_bench.specs.declared.summing.TheConstants.{READINGS}
use Rattle.plane_bench.specs.declared.words.Work.{Work}
use Rattle.plane_bench.specs.Planes.{below_limit, cells_of, first_digits, truths_after, IsResult}
use Rattle.plane_bench.proofs.Sums.{sum_of_digits}
use Rattle.plane_bench.proofs.WideCells.{fit_all, planes_left, start_all, wide_planes}
use Rattle.plane_bench.proofs.do_work.Goals as goal

pub read_planes-requires-clause-few : goal.read_planes-requires-clause-few
read_planes-requires-clause-few c = omega (arith, wide_planes (ends_at c.in_ok-columns-in-Take.columns.frame 0) c.in_ok-columns-in-Take.ensures.wide)

pub read_planes-requires-clause-cells : goal.read_planes-requires-clause-cells
read_planes-requires-clause-cells c =
    fit_all (ends_at c.in_ok-columns-in-Take.columns.frame 0) c.args.rows c.deref-in-Take.result.now c.in_ok-columns-in-Take.ensures.wide (c.deref-in-Take.ensures.value ∙ c.in_ok-cells.ensures)

pub read_planes-requires-clause-start : goal.read_planes-requires-clause-start
read_planes-requires-clause-start c =
    start_all c.args.rows c.deref-in-Take.result.now c.in_ok-columns-in-Take.columns (c.deref-in-Take.ensures.value ∙ c.in_ok-cells.ensures) c.in_ok-columns-in-Take.ensures.unread c.in_ok-columns-in-Take.ensures.rows c.in_ok-columns-in-Take.ensures.one

pub returns-in-Take : goal.returns-in-Take
returns-in-Take c =
    let left =
    planes_left (ends_at c.in_ok-columns-in-Take.columns.frame 0) c.deref-in-Take.result.now c.args.rounds c.unread.result c.in_ok-read-in-Take.read c.in_ok-columns-in-Take.ensures.wide c.in_ok-read-in-Take.ensures c.unread.ensures in
    let number : c.from.result + c.args.rounds ≡ 32 = omega (arith, left, c.from.ensures) in
    subst (λ (work : Work). IsResult work c.args.rows c.args.rounds c.from.result) (sym c.in-Take.is) number

pub follow_planes-requires-clause-few : goal.follow_planes-requires-clause-few
follow_planes-requires-clause-few c = omega (arith, wide_planes (ends_at c.in_ok-columns-in-Follow.columns.frame 0) c.in_ok-columns-in-Follow.ensures.wide)

pub follow_planes-requires-clause-cells : goal.follow_planes-requires-clause-cells
follow_planes-requires-clause-cells c =
    fit_all (ends_at c.in_ok-columns-in-Follow.columns.frame 0) c.args.rows c.deref-in-Follow.result.now c.in_ok-columns-in-Follow.ensures.wide (c.deref-in-Follow.ensures.value ∙ c.in_ok-cells.ensures)

pub follow_planes-requires-clause-start : goal.follow_planes-requires-clause-start
follow_planes-requires-clause-start c =
    start_all c.args.rows c.deref-in-Follow.result.now c.in_ok-columns-in-Follow.columns (c.deref-in-Follow.ensures.value ∙ c.in_ok-cells.ensures) c.in_ok-columns-in-Follow.ensures.unread c.in_ok-columns-in-Follow.ensures.rows c.in_ok-columns-in-Follow.ensures.one

pub returns-in-Follow : goal.returns-in-Follow
returns-in-Follow c =
    let ends = (ends_at c.in_ok-columns-in-Follow.columns.frame 0) in
    let cells = c.deref-in-Follow.result.now in
    let rounds = c.args.rounds in
    let filter =
    c.in_ok-filter-in-Follow.ensures ∙ ap (λ (pred : Condition). truths_after pred ends cells rounds) c.make_condition.ensures ∙ ap (λ (all : List ℕ). truths_after below_limit ends all rounds) (c.deref-in-Follow.ensures.value ∙ c.in_ok-cells.ensures) in
    let number : c.unknown.result ≡ count_by is_unknown (truths_after below_limit ends (cells_of c.args.rows) rounds) = c.unknown.ensures ∙ ap (count_by is_unknown) filter in
    subst (λ (work : Work). IsResult work c.args.rows rounds c.unknown.result) (sym c.in-Follow.is) (ends, c.in_ok-columns-in-Follow.ensures.wide, number)

pub read_planes-requires-in-Sum-clause-few : goal.read_planes-requires-in-Sum-clause-few
read_planes-requires-in-Sum-clause-few c = omega (arith, wide_planes (ends_at c.in_ok-columns-in-Sum.columns.frame 0) c.in_ok-columns-in-Sum.ensures.wide)

pub read_planes-requires-in-Sum-clause-cells : goal.read_planes-requires-in-Sum-clause-cells
read_planes-requires-in-Sum-clause-cells c =
    fit_all (ends_at c.in_ok-columns-in-Sum.columns.frame 0) c.args.rows c.deref-in-Sum.result.now c.in_ok-columns-in-Sum.ensures.wide (c.deref-in-Sum.ensures.value ∙ c.in_ok-cells.ensures)

pub read_planes-requires-in-Sum-clause-start : goal.read_planes-requires-in-Sum-clause-start
read_planes-requires-in-Sum-clause-start c =
    start_all c.args.rows c.deref-in-Sum.result.now c.in_ok-columns-in-Sum.columns (c.deref-in-Sum.ensures.value ∙ c.in_ok-cells.ensures) c.in_ok-columns-in-Sum.ensures.unread c.in_ok-columns-in-Sum.ensures.rows c.in_ok-columns-in-Sum.ensures.one

pub returns : goal.returns
returns c =
    let ends = (ends_at c.in_ok-columns-in-Sum.columns.frame 0) in
    let rounds = c.args.rounds in
    let digits =
    sum_of_digits ends c.args.rows rounds c.deref-in-Sum.result.now c.in_ok-read-in-Sum.read c.column.result.now c.in_ok-columns-in-Sum.ensures.wide (c.deref-in-Sum.ensures.value ∙ c.in_ok-cells.ensures) c.in_ok-read-in-Sum.ensures c.column.ensures.column in
    let number : c.sum_readings.result ≡ READINGS * sum_by (first_digits rounds) (cells_of c.args.rows) % 2 ^ 64 = c.sum_readings.ensures ∙ ap (λ s. READINGS * s % 2 ^ 64) digits in
    subst (λ (work : Work). IsResult work c.args.rows rounds c.sum_readings.result) (sym c.in-Sum.is) number
