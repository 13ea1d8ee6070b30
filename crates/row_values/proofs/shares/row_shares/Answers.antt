use Rattle.std.proofs.Common.{◌≡◌, ◌+◌, ◌≤ℤ◌, pos, negsuc, Some, slice_get, get_or, ◌&&◌, ap, sym, ◌∙◌, arith}
use Rattle.std.proofs.lemmas.Int.{ints}
use Rattle.std.proofs.lemmas.Option.{slice_get-get_or}
use Rattle.plane_kernels.specs.Rows.{digit_at}
use Rattle.row_values.specs.declared.short.ShortInterval.{ShortInterval}
use Rattle.row_values.specs.BlockSums.{pair_if}
use Rattle.row_values.specs.ShortSpans.{interval_of}
use Rattle.row_values.proofs.BlockSums.{IsWithRow, added_short, again_small, high_part, high_part_small, low_part, low_part_small, one_of, with_row, within_more}
use Rattle.row_values.proofs.ShortNumbers.{again}
use Rattle.row_values.proofs.shares.row_shares.Goals as goal

pub overflow_add-shares-in-loop-i-2 : goal.overflow_add-shares-in-loop-i-2
overflow_add-shares-in-loop-i-2 c =
    let i = c.loop-i.i in
    let old = c.loop-i.shares in
    let span = c.index-spans-i.result in
    let counts = c.has_bit-counts.result in
    let surely = c.has_bit-surely.result in
    let at : slice_get c.args.spans.now i ≡ Some span = slice_get-get_or c.args.spans.now i span (omega arith) ∙ ap Some (sym c.index-spans-i.is) in
    let small = c.requires.small i span (omega arith) at in
    let within = c.loop-i.invariant.within in
    let o = span.ordered in
    let low_least : negsuc 144115188075855870 ≤ℤ span.lo = small.low in
    let low_most : span.lo ≤ℤ pos 144115188075855871 = (let h = small.high in omega (arith, ints, h, o)) in
    let low_same : again (get_or c.args.spans.now i span).lo ≡ span.lo = ap (λ (s : ShortInterval). again s.lo) (sym c.index-spans-i.is) ∙ again_small span.lo low_least low_most in
    let low_is : c.low_share.result ≡ low_part counts surely span.lo = c.low_share.ensures ∙ ap (low_part counts surely) low_same in
    let low = added_short i old.low c.low_share.result (low_part counts surely span.lo) (omega arith) within.low within.not_low low_is (low_part_small counts surely span.lo low_least low_most) in
    low.fits

pub overflow_add-shares-in-loop-i-3 : goal.overflow_add-shares-in-loop-i-3
overflow_add-shares-in-loop-i-3 c =
    let i = c.loop-i.i in
    let old = c.loop-i.shares in
    let span = c.index-spans-i.result in
    let counts = c.has_bit-counts.result in
    let surely = c.has_bit-surely.result in
    let at : slice_get c.args.spans.now i ≡ Some span = slice_get-get_or c.args.spans.now i span (omega arith) ∙ ap Some (sym c.index-spans-i.is) in
    let small = c.requires.small i span (omega arith) at in
    let within = c.loop-i.invariant.within in
    let o = span.ordered in
    let high_least : negsuc 144115188075855870 ≤ℤ span.hi = (let h = small.low in omega (arith, ints, h, o)) in
    let high_most : span.hi ≤ℤ pos 144115188075855871 = small.high in
    let high_same : again (get_or c.args.spans.now i span).hi ≡ span.hi = ap (λ (s : ShortInterval). again s.hi) (sym c.index-spans-i.is) ∙ again_small span.hi high_least high_most in
    let high_is : c.high_share.result ≡ high_part counts surely span.hi = c.high_share.ensures ∙ ap (high_part counts surely) high_same in
    let high = added_short i old.high c.high_share.result (high_part counts surely span.hi) (omega arith) within.high within.not_high high_is (high_part_small counts surely span.hi high_least high_most) in
    high.fits

pub loop-i-preserved : goal.loop-i-preserved
loop-i-preserved c =
    let i = c.loop-i.i in
    let old = c.loop-i.shares in
    let span = c.index-spans-i.result in
    let counts = c.has_bit-counts.result in
    let surely = c.has_bit-surely.result in
    let at : slice_get c.args.spans.now i ≡ Some span = slice_get-get_or c.args.spans.now i span (omega arith) ∙ ap Some (sym c.index-spans-i.is) in
    let small = c.requires.small i span (omega arith) at in
    let within = c.loop-i.invariant.within in
    let o = span.ordered in
    let low_least : negsuc 144115188075855870 ≤ℤ span.lo = small.low in
    let low_most : span.lo ≤ℤ pos 144115188075855871 = (let h = small.high in omega (arith, ints, h, o)) in
    let low_same : again (get_or c.args.spans.now i span).lo ≡ span.lo = ap (λ (s : ShortInterval). again s.lo) (sym c.index-spans-i.is) ∙ again_small span.lo low_least low_most in
    let low_is : c.low_share.result ≡ low_part counts surely span.lo = c.low_share.ensures ∙ ap (low_part counts surely) low_same in
    let low = added_short i old.low c.low_share.result (low_part counts surely span.lo) (omega arith) within.low within.not_low low_is (low_part_small counts surely span.lo low_least low_most) in
    let high_least : negsuc 144115188075855870 ≤ℤ span.hi = (let h = small.low in omega (arith, ints, h, o)) in
    let high_most : span.hi ≤ℤ pos 144115188075855871 = small.high in
    let high_same : again (get_or c.args.spans.now i span).hi ≡ span.hi = ap (λ (s : ShortInterval). again s.hi) (sym c.index-spans-i.is) ∙ again_small span.hi high_least high_most in
    let high_is : c.high_share.result ≡ high_part counts surely span.hi = c.high_share.ensures ∙ ap (high_part counts surely) high_same in
    let high = added_short i old.high c.high_share.result (high_part counts surely span.hi) (omega arith) within.high within.not_high high_is (high_part_small counts surely span.hi high_least high_most) in
    let with : IsWithRow old _ counts surely (interval_of span) = record {
      all = ap (λ n. old.all + n) (c.from.ensures ∙ one_of counts);
      certain = ap (λ n. old.certain + n) (c.from-in-loop-i.ensures ∙ one_of (counts && surely));
      low = low.is;
      high = high.is;
    } in
    record {
      within = within_more i counts surely (interval_of span) old _ span.ordered small with within;
      shares = λ give gives. with_row give i counts surely (interval_of span) old _
          (gives i span (omega arith) at ∙ ap (λ b. pair_if b (digit_at i c.args.must) (interval_of span)) (sym c.has_bit-counts.ensures) ∙ ap (λ b. pair_if counts b (interval_of span)) (sym c.has_bit-surely.ensures))
          with (c.loop-i.invariant.shares give gives);
    }
