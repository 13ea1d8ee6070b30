use Rattle.std.proofs.Common.{ℕ, ◌+◌, ◌*◌, ◌^◌, ◌<◌, length, sym, subst, ap, ◌∙◌}
use Rattle.std.specs.List.{All}
use Rattle.std.specs.Simd.Lanes.{zip2}
use Rattle.known_column.proofs.WordDigits.{fits_after, joined_digits}
use Rattle.known_column.proofs.blocks.append_words.Goals as goal

pub append_digits-requires-clause-fit : goal.append_digits-requires-clause-fit
append_digits-requires-clause-fit c = subst (All (λ d. d < 2 ^ length c.args.words.now)) (sym c.byte_digits.ensures) (fits_after c.args.words.now)

pub returns : goal.returns
returns c =
    let ns = c.args.numbers.now in
    let words = c.args.words.now in
    let join : ℕ → ℕ → ℕ = λ number digit. number * 2 ^ length words + digit in
    c.append_digits.ensures ∙ ap (zip2 join ns) c.byte_digits.ensures ∙ sym (joined_digits words ns 64 c.requires.rows)
