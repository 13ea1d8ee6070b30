use Rattle.std.proofs.Common.{◌≡◌, ◌≤ℤ◌, pos, negsuc, true, Some, slice_get, get_or, ap, sym, subst, ◌∙◌, arith, refl}
use Rattle.std.proofs.lemmas.Int.{ints}
use Rattle.std.proofs.lemmas.Option.{slice_get-get_or}
use Rattle.row_values.specs.declared.short.ShortInterval.{ShortInterval}
use Rattle.row_values.specs.BlockSums.{given, pair_if, AreShares, Give}
use Rattle.row_values.specs.ShortSpans.{interval_of}
use Rattle.row_values.proofs.BlockSums.{IsWithRow, added_short, sure_rows, with_row, within_more}
use Rattle.row_values.proofs.NullRows.{digit-ones}
use Rattle.row_values.proofs.shares.whole_shares.Goals as goal

pub overflow_add-shares : goal.overflow_add-shares
overflow_add-shares c =
    let i = c.loop-i.i in
    let old = c.loop-i.shares in
    let span = c.index-spans-i.result in
    let at : slice_get c.args.spans.now i ≡ Some span = slice_get-get_or c.args.spans.now i span (omega arith) ∙ ap Some (sym c.index-spans-i.is) in
    let small = c.requires.small i span (omega arith) at in
    let within = c.loop-i.invariant.within in
    let o = span.ordered in
    let low_least : negsuc 144115188075855870 ≤ℤ span.lo = small.low in
    let low_most : span.lo ≤ℤ pos 144115188075855871 = (let h = small.high in omega (arith, ints, h, o)) in
    let low = added_short i old.low (get_or c.args.spans.now i span).lo span.lo (omega arith) within.low within.not_low (ap (λ (s : ShortInterval). s.lo) (sym c.index-spans-i.is)) (low_least, low_most) in
    low.fits

pub overflow_add-shares-in-loop-i : goal.overflow_add-shares-in-loop-i
overflow_add-shares-in-loop-i c =
    let i = c.loop-i.i in
    let old = c.loop-i.shares in
    let span = c.index-spans-i.result in
    let at : slice_get c.args.spans.now i ≡ Some span = slice_get-get_or c.args.spans.now i span (omega arith) ∙ ap Some (sym c.index-spans-i.is) in
    let small = c.requires.small i span (omega arith) at in
    let within = c.loop-i.invariant.within in
    let o = span.ordered in
    let high_least : negsuc 144115188075855870 ≤ℤ span.hi = (let h = small.low in omega (arith, ints, h, o)) in
    let high_most : span.hi ≤ℤ pos 144115188075855871 = small.high in
    let high = added_short i old.high (get_or c.args.spans.now i span).hi span.hi (omega arith) within.high within.not_high (ap (λ (s : ShortInterval). s.hi) (sym c.index-spans-i.is)) (high_least, high_most) in
    high.fits

pub loop-i-preserved : goal.loop-i-preserved
loop-i-preserved c =
    let i = c.loop-i.i in
    let old = c.loop-i.shares in
    let span = c.index-spans-i.result in
    let at : slice_get c.args.spans.now i ≡ Some span = slice_get-get_or c.args.spans.now i span (omega arith) ∙ ap Some (sym c.index-spans-i.is) in
    let small = c.requires.small i span (omega arith) at in
    let within = c.loop-i.invariant.within in
    let o = span.ordered in
    let low_least : negsuc 144115188075855870 ≤ℤ span.lo = small.low in
    let low_most : span.lo ≤ℤ pos 144115188075855871 = (let h = small.high in omega (arith, ints, h, o)) in
    let low = added_short i old.low (get_or c.args.spans.now i span).lo span.lo (omega arith) within.low within.not_low (ap (λ (s : ShortInterval). s.lo) (sym c.index-spans-i.is)) (low_least, low_most) in
    let high_least : negsuc 144115188075855870 ≤ℤ span.hi = (let h = small.low in omega (arith, ints, h, o)) in
    let high_most : span.hi ≤ℤ pos 144115188075855871 = small.high in
    let high = added_short i old.high (get_or c.args.spans.now i span).hi span.hi (omega arith) within.high within.not_high (ap (λ (s : ShortInterval). s.hi) (sym c.index-spans-i.is)) (high_least, high_most) in
    let with : IsWithRow (sure_rows i old.low old.high) _ true true (interval_of span) = record {
      all = refl;
      certain = refl;
      low = low.is;
      high = high.is;
    } in
    record {
      within = within_more i true true (interval_of span) (sure_rows i old.low old.high) _ span.ordered small with within;
      shares = λ give gives. with_row give i true true (interval_of span) (sure_rows i old.low old.high) _
          (gives i span (omega arith) at ∙ ap (λ b. pair_if b b (interval_of span)) (digit-ones i (omega arith)))
          with (c.loop-i.invariant.shares give gives);
    }

pub returns-clause-shares : goal.returns-clause-shares
returns-clause-shares c = λ give count is gives.
    let shares = c.loop-i.shares in
    let end : c.loop-i.i ≡ 64 = omega arith in
    let spans = c.args.spans.now in
    let told = c.loop-i.invariant.shares give (subst (λ k. Give give 18446744073709551615 18446744073709551615 k spans) is gives) in
    let all : AreShares (given give c.loop-i.i) (sure_rows 64 shares.low shares.high) = subst (λ k. AreShares (given give c.loop-i.i) (sure_rows k shares.low shares.high)) end told in
    subst (λ k. AreShares (given give k) (sure_rows 64 shares.low shares.high)) (end ∙ sym is) all
