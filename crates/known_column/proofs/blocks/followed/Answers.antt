use Rattle.std.proofs.Common.{◌≡◌, ◌+◌, ◌-◌, ◌*◌, ◌%◌, ◌^◌, ◌<◌, ap, sym, ◌∙◌, arith}
use Rattle.std.proofs.lemmas.Nat.{mul-add-lt, pow-add, shl_whole}
use Rattle.known_column.proofs.blocks.followed.Goals as goal

pub overflow_add-result : goal.overflow_add-result
overflow_add-result c =
    let count = c.args.count in
    let room : count + (64 - count) ≡ 64 = omega arith in
    let whole : c.args.number * 2 ^ count % 2 ^ 64 ≡ c.args.number * 2 ^ count = shl_whole c.args.number (64 - count) count 64 c.requires.number (omega arith) in
    let below : c.args.number * 2 ^ count + c.args.digits < 2 ^ count * 2 ^ (64 - count) = mul-add-lt c.args.number (2 ^ count) c.args.digits (2 ^ (64 - count)) c.requires.number c.requires.digits in
    let all : 2 ^ count * 2 ^ (64 - count) ≡ 2 ^ 64 = sym (pow-add 2 count (64 - count)) ∙ ap (λ n. 2 ^ n) room in
    omega (arith, whole, below, all, c.from.ensures)

pub returns : goal.returns
returns c =
    let count = c.args.count in
    let whole : c.args.number * 2 ^ count % 2 ^ 64 ≡ c.args.number * 2 ^ count = shl_whole c.args.number (64 - count) count 64 c.requires.number (omega arith) in
    ap (λ n. n + c.from.result) whole ∙ ap (λ n. c.args.number * 2 ^ count + n) c.from.ensures
