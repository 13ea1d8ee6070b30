use Rattle.std.proofs.Common.{◌≡◌, ◌≢◌, ◌+◌, ◌*◌, ◌^◌, ◌%◌, ◌<◌, ◌==◌, suc, refl, ap, sym, ◌∙◌, arith}
use Rattle.std.proofs.Math.Nat.{pow-suc}
use Rattle.std.proofs.Math.Pow.{pow-lt}
use Rattle.std.proofs.lemmas.Nat.{or_lt}
use Rattle.std.proofs.lemmas.Nat.Bits.{bit_at_above, bit_at_set_same, bit_at_set_other}
use Rattle.std.specs.Int.{w64}
use Rattle.kleene_filter.proofs.words.with_bit.Goals as goal

pub returns-then-bit : goal.returns-then-bit
returns-then-bit c =
    let word = c.args.word in
    let row = c.args.row in
    let within : row < 64 = c.requires.row in
    let small : 2 ^ row < 2 ^ 64 = pow-lt within in
    let next : row + 1 ≡ suc row = omega arith in
    let twice : 2 ^ (row + 1) ≡ 2 ^ row * 2 = ap (λ k. 2 ^ k) next ∙ pow-suc 2 row in
    record {
      here = ap (λ n. n == 1) (bit_at_set_same w64 word row within) ∙ sym c.if-bit.true;
      before = λ r below. (let other : r ≢ row = omega arith in ap (λ n. n == 1) (bit_at_set_other w64 word row within r other));
      below = or_lt (row + 1) word (1 * 2 ^ row % 2 ^ 64) (let less = c.requires.below in omega (arith, twice)) (omega (arith, twice, small));
    }

pub returns-else-bit : goal.returns-else-bit
returns-else-bit c =
    let word = c.args.word in
    let row = c.args.row in
    let next : row + 1 ≡ suc row = omega arith in
    let twice : 2 ^ (row + 1) ≡ 2 ^ row * 2 = ap (λ k. 2 ^ k) next ∙ pow-suc 2 row in
    record {
      here = ap (λ n. n == 1) (bit_at_above word row row c.requires.below (omega arith)) ∙ sym c.if-bit.false;
      before = λ r below. refl;
      below = (let less = c.requires.below in omega (arith, twice));
    }
