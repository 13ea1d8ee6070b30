use Rattle.std.proofs.Common.{arith, sym, ◌∙◌}
use Rattle.daq_table.proofs.CellDigits.{decimal_read, units_of_decimal}
use Rattle.daq_table.proofs.cells.decimal.Goals as goal

pub returns-in-Some : goal.returns-in-Some
returns-in-Some c =
    decimal_read c.args.scale c.args.minus c.args.whole.now c.args.fraction.now c.in-Some.units c.signed.result (omega arith)
    (rw (← c.split_at_most.ensures.back) (sym c.only_zeros.ensures ∙ c.if-not-only_zeros.false)) c.in-Some.ensures c.signed.ensures

pub returns-in-None : goal.returns-in-None
returns-in-None c = λ d. c.in-None.ensures (units_of_decimal _ _ _ _ d)
