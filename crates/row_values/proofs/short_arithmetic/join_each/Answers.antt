use Rattle.std.proofs.Common.{◌≡◌, Some, slice_get, get_or, sym, ap, ◌∙◌, arith}
use Rattle.std.proofs.lemmas.Option.{get_or_from_slice_get, slice_get-get_or}
use Rattle.row_values.specs.declared.short.ShortInterval.{ShortInterval}
use Rattle.row_values.specs.ShortSpans.{interval_of, result_of}
use Rattle.row_values.proofs.BlockRows.{holds_further, set_elsewhere}
use Rattle.row_values.proofs.short_arithmetic.join_each.Goals as goal

pub joined-requires : goal.joined-requires
joined-requires c =
    let i = c.loop-i.i in
    let x = get_or c.loop-i.left i c.index-left-i.result in
    let y = get_or c.args.right.now i c.index-right-i.result in
    c.requires.fit i x y (omega arith) (sym (c.loop-i.invariant.rest i (omega arith)) ∙ slice_get-get_or c.loop-i.left i c.index-left-i.result (omega arith))
    (slice_get-get_or c.args.right.now i c.index-right-i.result (omega arith))

pub loop-i-preserved : goal.loop-i-preserved
loop-i-preserved c =
    let i = c.loop-i.i in
    let old = c.args.left.now in
    let left = c.loop-i.left in
    let right = c.args.right.now in
    let operation = c.args.operation in
    record {
      done = holds_further (λ r z. (x y : ShortInterval) → slice_get old r ≡ Some x → slice_get right r ≡ Some y → interval_of z ≡ result_of operation (interval_of x) (interval_of y)) i left c.joined.result
          (λ x y at at'. c.joined.ensures
          ∙ ap (λ v. result_of operation (interval_of v) (interval_of (get_or right i c.index-right-i.result))) (get_or_from_slice_get left i x c.index-left-i.result (c.loop-i.invariant.rest i (omega arith) ∙ at))
          ∙ ap (λ v. result_of operation (interval_of x) (interval_of v)) (get_or_from_slice_get right i y c.index-right-i.result at'))
          c.loop-i.invariant.done;
      rest = λ r above. set_elsewhere left i r c.joined.result (λ e. omega (arith, e, above)) ∙ c.loop-i.invariant.rest r (omega (arith, above));
    }
