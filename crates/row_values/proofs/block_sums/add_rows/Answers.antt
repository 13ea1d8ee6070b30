use Rattle.std.proofs.Common.{◌≡◌, ◌==◌, ◌+◌, ◌<◌, pos, negsuc, ◌≤ℤ◌, ◌++◌, refl, ap, ◌∙◌, arith}
use Rattle.std.specs.Int.Bits.{bit_and}
use Rattle.std.proofs.lemmas.Int.{ints}
use Rattle.aggregates.specs.Tallies.{tally_of}
use Rattle.known_column.specs.Columns.{count_in_block}
use Rattle.query_model.specs.declared.query.ItemKind.TheVariants.{Sum}
use Rattle.query_model.specs.Bounds.{lows, highs}
use Rattle.query_model.specs.Queries.{term_of}
use Rattle.row_values.specs.BlockSums.{given, row_pair}
use Rattle.row_values.proofs.BlockSums.{added_long, block_gives, block_small, tally_both}
use Rattle.row_values.proofs.block_sums.add_rows.Goals as goal

pub shares_of-shares-requires-clause-small : goal.shares_of-shares-requires-clause-small
shares_of-shares-requires-clause-small c =
    block_small (term_of c.args.expr.now) c.args.columns.now c.args.number c.min-count.result c.short_spans.new.spans (omega arith) c.short_spans.ensures c.requires.small.small

pub returns-clause-held : goal.returns-clause-held
returns-clause-held c =
    let number = c.args.number in
    let old = c.args.tally.now in
    let shares = c.shares_of-shares.result in
    let within = c.shares_of-shares.ensures.within in
    let held = c.requires.held in
    let few : number < 262144 = (let rows = c.rows.ensures.known.few_rows in omega (arith, rows)) in
    let low_least : negsuc 9223372036854775807 ≤ℤ shares.low = (let h = within.low in omega (arith, ints, h)) in
    let low_most : shares.low ≤ℤ pos 9223372036854775807 = (let h = within.not_low in omega (arith, ints, h)) in
    let high_least : negsuc 9223372036854775807 ≤ℤ shares.high = (let h = within.high in omega (arith, ints, h)) in
    let high_most : shares.high ≤ℤ pos 9223372036854775807 = (let h = within.not_high in omega (arith, ints, h)) in
    let low = added_long number old.low_sum c.from.result shares.low few held.low held.not_low (omega (arith, ints, low_least, low_most)) low_least low_most in
    let high = added_long number old.high_sum c.from-2.result shares.high few held.high held.not_high (omega (arith, ints, high_least, high_most)) high_least high_most in
    record {
      all = (let a = held.all in let b = within.all in omega (arith, a, b));
      certain = (let a = held.certain in let b = within.certain in omega (arith, a, b));
      low = (let a = held.low in omega (arith, ints, low, a, low_least));
      not_low = (let a = held.not_low in omega (arith, ints, low, a, low_most));
      high = (let a = held.high in omega (arith, ints, high, a, high_least));
      not_high = (let a = held.not_high in omega (arith, ints, high, a, high_most));
    }

pub returns-clause-tally : goal.returns-clause-tally
returns-clause-tally c = λ ps is.
    let number = c.args.number in
    let old = c.args.tally.now in
    let shares = c.shares_of-shares.result in
    let within = c.shares_of-shares.ensures.within in
    let held = c.requires.held in
    let few : number < 262144 = (let rows = c.rows.ensures.known.few_rows in omega (arith, rows)) in
    let low_least : negsuc 9223372036854775807 ≤ℤ shares.low = (let h = within.low in omega (arith, ints, h)) in
    let low_most : shares.low ≤ℤ pos 9223372036854775807 = (let h = within.not_low in omega (arith, ints, h)) in
    let high_least : negsuc 9223372036854775807 ≤ℤ shares.high = (let h = within.high in omega (arith, ints, h)) in
    let high_most : shares.high ≤ℤ pos 9223372036854775807 = (let h = within.not_high in omega (arith, ints, h)) in
    let low = added_long number old.low_sum c.from.result shares.low few held.low held.not_low (omega (arith, ints, low_least, low_most)) low_least low_most in
    let high = added_long number old.high_sum c.from-2.result shares.high few held.high held.not_high (omega (arith, ints, high_least, high_most)) high_least high_most in
    let term = term_of c.args.expr.now in
    let table = c.args.columns.now in
    let count = c.min-count.result in
    let spans = c.short_spans.new.spans in
    let rows : count ≡ count_in_block number table.frame.rows = omega arith in
    let give = row_pair term table number c.args.may c.args.must in
    let possible = c.possible_rows.result in
    let sure = c.sure_rows.result in
    let gives = block_gives term table number count spans rows c.short_spans.ensures c.args.may c.args.must possible sure c.possible_rows.ensures c.sure_rows.ensures in
    tally_both ps (given give count) old shares (old.certain + shares.certain) (old.all + shares.all) c.least_low-tally.result c.greatest_high-tally.result _ _ (old.certain + shares.certain == 0) is
    (c.shares_of-shares.ensures.shares give gives) refl refl low high refl
    (λ h. c.least_low-tally.ensures give (bit_and c.args.must sure) gives (lows ps) h)
    (λ h. c.greatest_high-tally.ensures give (bit_and c.args.must sure) gives (highs ps) h)
    ∙ ap (λ n. tally_of Sum (ps ++ given give n)) rows
