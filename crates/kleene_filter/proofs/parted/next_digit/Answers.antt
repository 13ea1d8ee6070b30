use Rattle.std.proofs.Common.{◌≡◌, ◌-◌, ◌/◌, ◌%◌, ◌^◌, ◌==◌, ap, ◌∙◌, arith}
use Rattle.std.proofs.lemmas.Nat.Bits.{shr_and_one}
use Rattle.daq_table.specs.Tables.{planes}
use Rattle.kleene_filter.proofs.parted.next_digit.Goals as goal

pub returns : goal.returns
returns c =
    let column = c.args.column.now in
    let rest : c.unread.result ≡ planes column.ends - column.known.read = omega (arith, c.unread.ensures) in
    ap (λ n. n == 1) (shr_and_one c.args.code c.unread.result) ∙ ap (λ k. (c.args.code / 2 ^ k) % 2 == 1) rest
