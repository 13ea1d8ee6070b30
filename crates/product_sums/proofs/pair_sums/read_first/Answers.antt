use Rattle.std.proofs.Common.{◌≡◌, min, cond, refl, ap, ◌∙◌, arith}
use Rattle.std.proofs.lemmas.Int.{ints}
use Rattle.daq_table.specs.Tables.{ends_at}
use Rattle.aggregates.proofs.NumberRows.{first_plane}
use Rattle.known_column.specs.Columns.{KnownColumn}
use Rattle.known_column.specs.KnownTables.{column_at}
use Rattle.query_model.specs.Knowledge.{known_at}
use Rattle.product_sums.proofs.PairSums.{started_are}
use Rattle.product_sums.proofs.pair_sums.read_first.Goals as goal

pub loop-j-init : goal.loop-j-init
loop-j-init c =
    let table = c.args.columns.now in
    let first = c.args.pair.first in
    let is : c.column.result.now ≡ column_at table first = c.column.ensures.column ∙ ap (column_at table) c.from.ensures in
    let from : c.number_planes-from.result.0 ≡ first_plane (ends_at table.frame first) (known_at table.known first).read =
    c.number_planes-from.ensures.from ∙ ap (λ (k : KnownColumn). min (cond k.ends.nullable 1 0) k.known.read) is in
    let to : c.number_planes-from.result.1 ≡ (known_at table.known first).read = c.number_planes-from.ensures.to ∙ ap (λ (k : KnownColumn). k.known.read) is in
    let sums = c.requires.sums in
    record {
      sums = started_are table c.args.rows.now c.args.pair c.rows-rows.ensures.known c.requires.pair sums.rows c.args.sums _ sums (omega (arith, from, c.max-begin.ensures)) (omega (arith, from, to, c.max-begin.ensures, sums.first_read)) refl (omega (arith, ints)) (omega (arith, ints)) (omega (arith, ints));
      first = refl;
      second = refl;
    }
