use Rattle.std.proofs.Common.{◌+ℤ◌, ◌∷◌, [], ◌++◌, ap, sym, ◌∙◌, subst, arith, FitsSigned}
use Rattle.std.specs.Int.{w128}
use Rattle.std.specs.List.{range_with_len}
use Rattle.std.proofs.lemmas.List.{append_assoc}
use Rattle.query_model.specs.Bounds.{high_share, low_share}
use Rattle.aggregates.specs.declared.tally.Tally.{Tally}
use Rattle.aggregates.specs.Tallies.{pair_with, tally_of}
use Rattle.aggregates.proofs.Adding.{few_certain, high_sum_fits, low_sum_fits}
use Rattle.aggregates.proofs.BlockAdding.{may_get_row, no_pair, ordered_both, ordered_rows, pair_there, pairs_to, with_row, without_row}
use Rattle.aggregates.proofs.tally.Tally.add_block.Goals as goal
use Rattle.aggregates.proofs.tally.Tally.add_block.Goals.{then-has_bit, else-has_bit}

pub add-requires-clause-few : goal.add-requires-clause-few
add-requires-clause-few c =
    let ps = c.requires.room.pairs in
    let may = c.args.may in
    let must = c.args.must in
    let spans = c.args.spans.now in
    let row = c.loop-row.row in
    let span = c.index-spans-row.result in
    let given = pair_there may must spans row c.has_bit.result c.has_bit-then-has_bit.result span c.has_bit.ensures c.if-has_bit.true c.has_bit-then-has_bit.ensures c.index-spans-row.is c.loop-row-test.true in
    let get = may_get_row c.args.kind ps may must spans row (pair_with c.has_bit-then-has_bit.result span) c.requires.room.may_get c.loop-row-test.true given in
    let all = ap (λ (t : Tally). t.all) (c.loop-row.invariant ps c.requires.room.kept) in
    let few = get.few in
    omega (arith, all, few)

pub add-requires-clause-few_certain : goal.add-requires-clause-few_certain
add-requires-clause-few_certain c =
    let ps = c.requires.room.pairs in
    let may = c.args.may in
    let must = c.args.must in
    let spans = c.args.spans.now in
    let row = c.loop-row.row in
    let span = c.index-spans-row.result in
    let given = pair_there may must spans row c.has_bit.result c.has_bit-then-has_bit.result span c.has_bit.ensures c.if-has_bit.true c.has_bit-then-has_bit.ensures c.index-spans-row.is c.loop-row-test.true in
    let get = may_get_row c.args.kind ps may must spans row (pair_with c.has_bit-then-has_bit.result span) c.requires.room.may_get c.loop-row-test.true given in
    let certain = ap (λ (t : Tally). t.certain) (c.loop-row.invariant ps c.requires.room.kept) in
    let few = get.few in
    omega (arith, certain, few, few_certain (ps ++ pairs_to may must spans row))

pub add-requires-clause-low : goal.add-requires-clause-low
add-requires-clause-low c = λ sums.
    let ps = c.requires.room.pairs in
    let may = c.args.may in
    let must = c.args.must in
    let spans = c.args.spans.now in
    let row = c.loop-row.row in
    let span = c.index-spans-row.result in
    let p = pair_with c.has_bit-then-has_bit.result span in
    let before = ps ++ pairs_to may must spans row in
    let given = pair_there may must spans row c.has_bit.result c.has_bit-then-has_bit.result span c.has_bit.ensures c.if-has_bit.true c.has_bit-then-has_bit.ensures c.index-spans-row.is c.loop-row-test.true in
    let get = may_get_row c.args.kind ps may must spans row p c.requires.room.may_get c.loop-row-test.true given in
    let ordered = ordered_both ps (pairs_to may must spans row) c.requires.room.ordered (ordered_rows may must spans (range_with_len 0 row)) in
    subst (λ (t : Tally). FitsSigned w128 (t.low_sum +ℤ low_share p)) (sym (c.loop-row.invariant ps c.requires.room.kept)) (low_sum_fits c.args.kind before p ordered span.ordered get sums)

pub add-requires-clause-high : goal.add-requires-clause-high
add-requires-clause-high c = λ sums.
    let ps = c.requires.room.pairs in
    let may = c.args.may in
    let must = c.args.must in
    let spans = c.args.spans.now in
    let row = c.loop-row.row in
    let span = c.index-spans-row.result in
    let p = pair_with c.has_bit-then-has_bit.result span in
    let before = ps ++ pairs_to may must spans row in
    let given = pair_there may must spans row c.has_bit.result c.has_bit-then-has_bit.result span c.has_bit.ensures c.if-has_bit.true c.has_bit-then-has_bit.ensures c.index-spans-row.is c.loop-row-test.true in
    let get = may_get_row c.args.kind ps may must spans row p c.requires.room.may_get c.loop-row-test.true given in
    let ordered = ordered_both ps (pairs_to may must spans row) c.requires.room.ordered (ordered_rows may must spans (range_with_len 0 row)) in
    subst (λ (t : Tally). FitsSigned w128 (t.high_sum +ℤ high_share p)) (sym (c.loop-row.invariant ps c.requires.room.kept)) (high_sum_fits c.args.kind before p ordered span.ordered get sums)

pub loop-row-preserved : goal.loop-row-preserved
loop-row-preserved c = λ ps is.
    let may = c.args.may in
    let must = c.args.must in
    let spans = c.args.spans.now in
    let row = c.loop-row.row in
    let before = pairs_to may must spans row in
    elim c.if-has_bit.branch [
      | then-has_bit w ↦
          (let span = w.index-spans-row.result in
          let p = pair_with w.has_bit-then-has_bit.result span in
          let given = pair_there may must spans row c.has_bit.result w.has_bit-then-has_bit.result span c.has_bit.ensures w.if-has_bit.true w.has_bit-then-has_bit.ensures w.index-spans-row.is c.loop-row-test.true in
          rw w.self-is (w.add.ensures (ps ++ before) (c.loop-row.invariant ps is) ∙ ap (tally_of c.args.kind) (append_assoc ps before (p ∷ []) ∙ ap (λ qs. ps ++ qs) (sym (with_row may must spans row p given)))))
      | else-has_bit w ↦
          rw w.self-is (c.loop-row.invariant ps is ∙ ap (λ qs. tally_of c.args.kind (ps ++ qs)) (sym (without_row may must spans row (no_pair may must spans row c.has_bit.result c.has_bit.ensures w.if-has_bit.false))))
    ]
