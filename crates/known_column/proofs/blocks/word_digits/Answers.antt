use Rattle.std.proofs.Common.{◌≡◌, ◌+◌, ◌-◌, ◌^◌, ◌<◌, ◌≤◌, ◌++◌, min, length, replicate, take, drop, sym, subst, ap, ◌∙◌, arith}
use Rattle.std.specs.List.{All}
use Rattle.std.proofs.Math.Nat.{pow-le-pow_right}
use Rattle.std.proofs.Math.Seq.{take-add}
use Rattle.std.proofs.lemmas.List.{length-take}
use Rattle.std.proofs.lemmas.List.Sums.{fold-append}
use Rattle.plane_kernels.specs.Rows.{bits_of}
use Rattle.query_model.specs.Knowledge.{longer}
use Rattle.known_column.specs.BlockDigits.{digits_after}
use Rattle.known_column.proofs.WordDigits.{fits_after}
use Rattle.known_column.proofs.blocks.word_digits.Goals as goal

pub append_words-requires-clause-small : goal.append_words-requires-clause-small
append_words-requires-clause-small c = λ k d below.
    let words = c.args.words.now in
    let read = c.loop-read.read in
    let before = take read words in
    let part = take (c.min-next.result - read) (drop read words) in
    let long : length before ≡ min read (length words) = length-take read words in
    let wide = length-take (c.min-next.result - read) (drop read words) in
    let size : length before ≤ 64 - length part = omega arith in
    let more : 2 ^ length before ≤ 2 ^ (64 - length part) = pow-le-pow_right (omega arith) size in
    let small = subst (All (λ n. n < 2 ^ length before)) (sym c.loop-read.invariant.digits) (fits_after before) in
    omega (arith, more, small k d below)

pub loop-read-preserved : goal.loop-read-preserved
loop-read-preserved c =
    let words = c.args.words.now in
    let read = c.loop-read.read in
    let part = take (c.min-next.result - read) (drop read words) in
    let end : read + (c.min-next.result - read) ≡ c.min-next.result = omega arith in
    let whole : take read words ++ part ≡ take c.min-next.result words = sym (take-add read (c.min-next.result - read) words) ∙ ap (λ n. take n words) end in
    record {
      within = omega arith;
      digits = c.append_words.ensures ∙ ap (digits_after part) c.loop-read.invariant.digits ∙ sym (fold-append (λ ns w. longer ns (bits_of 64 w)) (replicate 64 0) (take read words) part)
          ∙ ap (λ l. digits_after l (replicate 64 0)) whole;
    }
