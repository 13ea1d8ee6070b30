use Rattle.std.proofs.Common.{◌≡◌, ◌+◌, ◌≤ℤ◌, pos, negsuc, true, Some, slice_get, get_or, cond, ap, sym, subst, ◌∙◌, arith}
use Rattle.std.proofs.lemmas.Int.{ints}
use Rattle.std.proofs.lemmas.Option.{slice_get-get_or}
use Rattle.plane_kernels.specs.Rows.{digit_at}
use Rattle.row_values.specs.declared.short.ShortInterval.{ShortInterval}
use Rattle.row_values.specs.BlockSums.{given, pair_if, AreShares}
use Rattle.row_values.specs.ShortSpans.{interval_of}
use Rattle.row_values.proofs.BlockSums.{IsWithRow, added_short, again_small, and_true, high_part, high_part_small, low_part, low_part_small, one_of, sure_pair, sure_rows, with_row, within_more}
use Rattle.row_values.proofs.NullRows.{digit-and}
use Rattle.row_values.proofs.ShortNumbers.{again}
use Rattle.row_values.proofs.shares.sure_shares.Goals as goal

pub overflow_add-shares-in-loop-i : goal.overflow_add-shares-in-loop-i
overflow_add-shares-in-loop-i c =
    let i = c.loop-i.i in
    let old = c.loop-i.shares in
    let span = c.index-spans-i.result in
    let counts = c.has_bit-counts.result in
    let at : slice_get c.args.spans.now i ≡ Some span = slice_get-get_or c.args.spans.now i span (omega arith) ∙ ap Some (sym c.index-spans-i.is) in
    let small = c.requires.small i span (omega arith) at in
    let within = c.loop-i.invariant.within in
    let o = span.ordered in
    let low_least : negsuc 144115188075855870 ≤ℤ span.lo = small.low in
    let low_most : span.lo ≤ℤ pos 144115188075855871 = (let h = small.high in omega (arith, ints, h, o)) in
    let low_same : again (get_or c.args.spans.now i span).lo ≡ span.lo = ap (λ (s : ShortInterval). again s.lo) (sym c.index-spans-i.is) ∙ again_small span.lo low_least low_most in
    let low_is : c.kept.result ≡ low_part counts true span.lo = c.kept.ensures ∙ ap (low_part counts true) low_same in
    let low = added_short i old.low c.kept.result (low_part counts true span.lo) (omega arith) within.low within.not_low low_is (low_part_small counts true span.lo low_least low_most) in
    low.fits

pub overflow_add-shares-in-loop-i-2 : goal.overflow_add-shares-in-loop-i-2
overflow_add-shares-in-loop-i-2 c =
    let i = c.loop-i.i in
    let old = c.loop-i.shares in
    let span = c.index-spans-i.result in
    let counts = c.has_bit-counts.result in
    let at : slice_get c.args.spans.now i ≡ Some span = slice_get-get_or c.args.spans.now i span (omega arith) ∙ ap Some (sym c.index-spans-i.is) in
    let small = c.requires.small i span (omega arith) at in
    let within = c.loop-i.invariant.within in
    let o = span.ordered in
    let high_least : negsuc 144115188075855870 ≤ℤ span.hi = (let h = small.low in omega (arith, ints, h, o)) in
    let high_most : span.hi ≤ℤ pos 144115188075855871 = small.high in
    let high_same : again (get_or c.args.spans.now i span).hi ≡ span.hi = ap (λ (s : ShortInterval). again s.hi) (sym c.index-spans-i.is) ∙ again_small span.hi high_least high_most in
    let high_is : c.kept-in-loop-i.result ≡ high_part counts true span.hi = c.kept-in-loop-i.ensures ∙ ap (high_part counts true) high_same in
    let high = added_short i old.high c.kept-in-loop-i.result (high_part counts true span.hi) (omega arith) within.high within.not_high high_is (high_part_small counts true span.hi high_least high_most) in
    high.fits

pub loop-i-preserved : goal.loop-i-preserved
loop-i-preserved c =
    let i = c.loop-i.i in
    let old = c.loop-i.shares in
    let span = c.index-spans-i.result in
    let counts = c.has_bit-counts.result in
    let at : slice_get c.args.spans.now i ≡ Some span = slice_get-get_or c.args.spans.now i span (omega arith) ∙ ap Some (sym c.index-spans-i.is) in
    let small = c.requires.small i span (omega arith) at in
    let within = c.loop-i.invariant.within in
    let o = span.ordered in
    let low_least : negsuc 144115188075855870 ≤ℤ span.lo = small.low in
    let low_most : span.lo ≤ℤ pos 144115188075855871 = (let h = small.high in omega (arith, ints, h, o)) in
    let low_same : again (get_or c.args.spans.now i span).lo ≡ span.lo = ap (λ (s : ShortInterval). again s.lo) (sym c.index-spans-i.is) ∙ again_small span.lo low_least low_most in
    let low_is : c.kept.result ≡ low_part counts true span.lo = c.kept.ensures ∙ ap (low_part counts true) low_same in
    let low = added_short i old.low c.kept.result (low_part counts true span.lo) (omega arith) within.low within.not_low low_is (low_part_small counts true span.lo low_least low_most) in
    let high_least : negsuc 144115188075855870 ≤ℤ span.hi = (let h = small.low in omega (arith, ints, h, o)) in
    let high_most : span.hi ≤ℤ pos 144115188075855871 = small.high in
    let high_same : again (get_or c.args.spans.now i span).hi ≡ span.hi = ap (λ (s : ShortInterval). again s.hi) (sym c.index-spans-i.is) ∙ again_small span.hi high_least high_most in
    let high_is : c.kept-in-loop-i.result ≡ high_part counts true span.hi = c.kept-in-loop-i.ensures ∙ ap (high_part counts true) high_same in
    let high = added_short i old.high c.kept-in-loop-i.result (high_part counts true span.hi) (omega arith) within.high within.not_high high_is (high_part_small counts true span.hi high_least high_most) in
    let more = ap (λ n. old.all + n) (c.from.ensures ∙ one_of counts) in
    let with : IsWithRow (sure_rows old.all old.low old.high) _ counts true (interval_of span) = record {
      all = more;
      certain = more ∙ ap (λ b. old.all + cond b 1 0) (sym (and_true counts));
      low = low.is;
      high = high.is;
    } in
    record {
      within = within_more i counts true (interval_of span) (sure_rows old.all old.low old.high) _ span.ordered small with within;
      shares = λ give must part gives. with_row give i counts true (interval_of span) (sure_rows old.all old.low old.high) _
          (gives i span (omega arith) at
          ∙ sure_pair (digit_at i c.args.rows) (digit_at i must) (interval_of span) (sym (digit-and i c.args.rows must) ∙ ap (digit_at i) part)
          ∙ ap (λ b. pair_if b true (interval_of span)) (sym c.has_bit-counts.ensures))
          with (c.loop-i.invariant.shares give must part gives);
    }

pub returns-clause-shares : goal.returns-clause-shares
returns-clause-shares c = λ give must part gives.
    let shares = c.loop-i.shares in
    subst (λ n. AreShares (given give n) (sure_rows shares.all shares.low shares.high)) (omega arith) (c.loop-i.invariant.shares give must part gives)
