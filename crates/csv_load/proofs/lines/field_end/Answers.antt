use Rattle.std.proofs.Common.{◌∙◌, ◌+◌, ◌<◌, ◌≤◌, length, map, ap, sym, arith}
use lib.Count.{count_trailing_zeros}
use lib.Lanes.{chunk, mask_l}
use Rattle.csv_load.specs.Lines.{may_stop}
use Rattle.csv_load.proofs.StopFacts.{join_run, join_vector, joined}
use Rattle.csv_load.proofs.lines.field_end.Goals as goal

pub returns-then-found-ne0-clause-within : goal.returns-then-found-ne0-clause-within
returns-then-found-ne0-clause-within c =
    let found = c.stops-found in
    let room : c.loop-at.at + 16 ≤ length c.args.text.now = omega (arith, c.loop-at-test.true, c.loop-at.invariant.within) in
    let some : 0 < mask_l (map may_stop (chunk c.loop-at.at 16 c.args.text.now)) = omega (arith, c.if-found-ne0.true, found.ensures) in
    let run = join_run c.args.text.now c.args.from c.loop-at.at (count_trailing_zeros 64 found.result) room c.loop-at.invariant.field some (ap (count_trailing_zeros 64) found.ensures) in
    omega (arith, run.1, room)

pub returns-then-found-ne0-clause-field : goal.returns-then-found-ne0-clause-field
returns-then-found-ne0-clause-field c =
    let found = c.stops-found in
    let room : c.loop-at.at + 16 ≤ length c.args.text.now = omega (arith, c.loop-at-test.true, c.loop-at.invariant.within) in
    let some : 0 < mask_l (map may_stop (chunk c.loop-at.at 16 c.args.text.now)) = omega (arith, c.if-found-ne0.true, found.ensures) in
    let run = join_run c.args.text.now c.args.from c.loop-at.at (count_trailing_zeros 64 found.result) room c.loop-at.invariant.field some (ap (count_trailing_zeros 64) found.ensures) in
    joined c.args.text.now c.args.from (c.loop-at.at + count_trailing_zeros 64 found.result) (omega (arith, c.loop-at.invariant.from)) (omega (arith, run.1, room)) run.0

pub loop-at-preserved : goal.loop-at-preserved
loop-at-preserved c =
    let room : c.loop-at.at + 16 ≤ length c.args.text.now = omega (arith, c.loop-at-test.true, c.loop-at.invariant.within) in
    record {
      from = omega (arith, c.loop-at.invariant.from);
      within = room;
      field = join_vector c.args.text.now c.args.from c.loop-at.at room c.loop-at.invariant.field (sym c.stops-found.ensures ∙ c.if-found-ne0.false);
    }

pub returns-then-may_stop-clause-field : goal.returns-then-may_stop-clause-field
returns-then-may_stop-clause-field c =
    joined c.args.text.now c.args.from c.loop-end.end (omega (arith, c.loop-at.invariant.from, c.loop-end.auto.end)) (omega (arith, c.loop-end-test.true)) c.loop-end.invariant

pub returns-clause-field : goal.returns-clause-field
returns-clause-field c =
    joined c.args.text.now c.args.from (length c.args.text.now) (omega (arith, c.loop-at.invariant.from, c.loop-at.invariant.within)) (omega arith)
    (λ k ge lt. c.loop-end.invariant k ge (omega (arith, lt, c.loop-end-test.false)))
