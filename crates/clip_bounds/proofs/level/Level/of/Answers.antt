use Rattle.std.proofs.Common.{◌≡◌, ℕ, ℤ, ◌+◌, ◌-◌, ◌*◌, ◌^◌, ◌<◌, min, nat_abs, pos, negsuc, ◌+ℤ◌, ◌-ℤ◌, ◌≤ℤ◌, Some, ap, ◌∙◌, arith, to_z, of_z}
use Rattle.std.proofs.lemmas.Int.{ints}
use Rattle.std.specs.Int.{w128}
use Rattle.daq_table.specs.Tables.{first_code, planes, spread}
use Rattle.query_model.specs.Knowledge.{prefix_of}
use Rattle.clip_bounds.proofs.level.Level.of.Goals as goal

pub returns-clause-level : goal.returns-clause-level
returns-clause-level c =
    let ends = c.args.known.now.ends in
    let d = planes ends - c.args.known.now.known.read in
    let prefix = c.prefix_of-prefix.result in
    let first = c.numbers_of_prefix-first.result.0 in
    let last = c.numbers_of_prefix-first.result.1 in
    let unread = c.planes_unread-unread.ensures.unread in
    let same_first : first ≡ prefix * 2 ^ d - first_code ends =
    c.numbers_of_prefix-first.ensures.first ∙ ap (λ n. prefix * 2 ^ n - c.least_code.result) unread ∙ ap (λ n. prefix * 2 ^ d - n) c.least_code.ensures.code in
    let greatest : c.abs_diff-greatest.result ≡ spread ends = omega (arith, ints) in
    let same_last : last ≡ min ((prefix + 1) * 2 ^ d - 1 - first_code ends) (spread ends) =
    c.numbers_of_prefix-first.ensures.last ∙ ap (λ n. min ((prefix + 1) * 2 ^ n - 1 - c.least_code.result) c.abs_diff-greatest.result) unread
    ∙ ap (λ n. min ((prefix + 1) * 2 ^ d - 1 - n) c.abs_diff-greatest.result) c.least_code.ensures.code ∙ ap (min ((prefix + 1) * 2 ^ d - 1 - first_code ends)) greatest in
    let base : c.from-base.result ≡ ends.base = omega (arith, ints) in
    let again : to_z w128 (of_z w128 c.args.number) ≡ c.args.number = omega (arith, ints) in
    record {
      prefix = c.prefix_of-prefix.ensures.prefix ∙ ap (λ z. prefix_of ends c.args.known.now.known.read (Some (nat_abs (z -ℤ ends.base)))) again;
      few = c.prefix_of-prefix.ensures.few;
      low = added c.from-base.result c.from.result ends.base first base c.from.ensures (omega (arith, ints)) (omega (arith, ints)) (omega arith) ∙ ap (λ n. ends.base +ℤ pos n) same_first;
      high = added c.from-base.result c.from-2.result ends.base last base c.from-2.ensures (omega (arith, ints)) (omega (arith, ints)) (omega arith) ∙ ap (λ n. ends.base +ℤ pos n) same_last;
    }
  where
    added : (x y b : ℤ) (n : ℕ) → x ≡ b → y ≡ pos n → negsuc 9223372036854775807 ≤ℤ b → b ≤ℤ pos 9223372036854775807 → n < 18446744073709551616 →
        to_z w128 (of_z w128 (to_z w128 (of_z w128 x) +ℤ to_z w128 (of_z w128 y))) ≡ (b +ℤ pos n)
    added x y b n e f low high few = omega (arith, ints)

pub returns-clause-low : goal.returns-clause-low
returns-clause-low c = (omega (arith, ints), omega (arith, ints))

pub returns-clause-high : goal.returns-clause-high
returns-clause-high c = (omega (arith, ints), omega (arith, ints))
