use Rattle.std.proofs.Common.{◌≡◌, ℕ, ◌<◌, ◌+◌, ◌*◌, ◌-◌, ◌^◌, get_or, length, sym, subst, ap, ◌∙◌, arith}
use Rattle.std.specs.Simd.Lanes.{zip2}
use Rattle.std.proofs.lemmas.Grind.{same_number_lists}
use Rattle.std.proofs.lemmas.Simd.{get_or-zip2, length-zip2}
use Rattle.known_column.proofs.BlockSteps.{done_further, left_further}
use Rattle.known_column.proofs.blocks.append_digits.Goals as goal

pub followed-requires-clause-number : goal.followed-requires-clause-number
followed-requires-clause-number c =
    let i = c.loop-i.i in
    subst (λ n. n < 2 ^ (64 - c.args.count)) (sym (c.loop-i.invariant.left i (omega arith))) (c.requires.small i 0 (omega arith))

pub loop-i-preserved : goal.loop-i-preserved
loop-i-preserved c =
    let ns = c.args.numbers.now in
    let ds = c.args.digits.now in
    let i = c.loop-i.i in
    let join : ℕ → ℕ → ℕ = λ number digit. number * 2 ^ c.args.count + digit in
    let here : get_or c.loop-i.numbers i 0 ≡ get_or ns i 0 = c.loop-i.invariant.left i (omega arith) in
    let is : c.followed.result ≡ get_or (zip2 join ns ds) i 0 =
    c.followed.ensures ∙ ap (λ n. join n (get_or ds i 0)) here ∙ sym (get_or-zip2 join ns ds i 0 0 0 (omega arith) (omega arith)) in
    record {
      done = done_further c.loop-i.numbers (zip2 join ns ds) i c.followed.result (omega arith) is c.loop-i.invariant.done;
      left = left_further c.loop-i.numbers ns i c.followed.result c.loop-i.invariant.left;
    }

pub returns : goal.returns
returns c =
    let ns = c.args.numbers.now in
    let ds = c.args.digits.now in
    let join : ℕ → ℕ → ℕ = λ number digit. number * 2 ^ c.args.count + digit in
    let same : length (zip2 join ns ds) ≡ length ns = length-zip2 join ns ds (c.requires.rows ∙ sym c.requires.digits) in
    same_number_lists c.loop-i.numbers (zip2 join ns ds) (omega arith) (λ k h. c.loop-i.invariant.done k (omega arith))
