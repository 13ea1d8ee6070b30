use Rattle.std.proofs.Common.{◌≡◌, [], ◌∷◌, ◌++◌, append-nil, Some, slice_get, get_or, pos, None, if◌then◌else◌, ap, sym, ◌∙◌, arith}
use Rattle.std.proofs.lemmas.Int.{ints}
use Rattle.std.proofs.lemmas.Option.{slice_get-get_or}
use Rattle.interval_calc.specs.Intervals.{Interval}
use Rattle.plane_kernels.specs.Rows.{digit_at}
use Rattle.query_model.specs.declared.query.ItemKind.TheVariants.{Min}
use Rattle.query_model.specs.Answers.{answer}
use Rattle.query_model.specs.Bounds.{lows}
use Rattle.row_values.specs.declared.short.ShortInterval.{ShortInterval}
use Rattle.row_values.specs.BlockSums.{given, pair_if}
use Rattle.row_values.specs.ShortSpans.{interval_of}
use Rattle.row_values.proofs.BlockSums.{low_counts, passed_by}
use Rattle.row_values.proofs.row_ends.least_low.Goals as goal
use Rattle.row_values.proofs.row_ends.least_low.Goals.{then-has_bit, else-has_bit}

pub loop-i-init : goal.loop-i-init
loop-i-init c = λ give must gives xs e. e ∙ ap (answer Min) (sym (append-nil xs))

pub loop-i-preserved : goal.loop-i-preserved
loop-i-preserved c =
    let i = c.loop-i.i in
    elim c.if-has_bit.branch [
      | then-has_bit w ↦ λ give must gives xs e.
          (let span = w.index-spans-i.result in
          let at : slice_get c.args.spans.now i ≡ Some span = slice_get-get_or c.args.spans.now i span (omega arith) ∙ ap Some (sym w.index-spans-i.is) in
          let is = gives i span (omega arith) at ∙ ap (λ b. pair_if b (digit_at i must) (interval_of span)) (sym c.has_bit.ensures) in
          let number : w.widened.result.lo ≡ span.lo = ap (λ (i : Interval). i.low) (w.widened.ensures ∙ ap interval_of (sym w.index-spans-i.is)) in
          rw w.least-is (w.lesser-least.ensures (xs ++ lows (given give i)) (c.loop-i.invariant give must gives xs e)
          ∙ ap (λ n. answer Min ((xs ++ lows (given give i)) ++ n ∷ [])) number ∙ ap (answer Min) (low_counts give i (digit_at i must) (interval_of span) c.has_bit.result xs w.if-has_bit.true is)))
      | else-has_bit w ↦ λ give must gives xs e.
          (let zero : ShortInterval = record { lo = pos 0; hi = pos 0; ordered = omega (arith, ints) } in
          let span = get_or c.args.spans.now i zero in
          let at : slice_get c.args.spans.now i ≡ Some span = slice_get-get_or c.args.spans.now i zero (omega arith) in
          let is = gives i span (omega arith) at ∙ ap (λ b. pair_if b (digit_at i must) (interval_of span)) (sym c.has_bit.ensures) in
          rw w.least-is (c.loop-i.invariant give must gives xs e ∙ ap (λ ps. answer Min (xs ++ lows ps)) (passed_by give i (digit_at i must) (interval_of span) c.has_bit.result w.if-has_bit.false is)))
    ]

pub returns : goal.returns
returns c = λ give must gives xs e.
    let end : c.loop-i.i ≡ c.args.count = omega arith in
    c.loop-i.invariant give must gives xs (e c.if-not-kept.false) ∙ ap (λ n. answer Min (xs ++ lows (given give n))) end
    ∙ ap (λ b. if b then answer Min (xs ++ lows (given give c.args.count)) else None) (sym c.if-not-kept.false)
