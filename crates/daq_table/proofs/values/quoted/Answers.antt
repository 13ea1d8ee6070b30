use Rattle.std.proofs.Common.{◌+◌, drop, get_or, arith}
use Rattle.std.proofs.lemmas.List.{at_drop_more}
use Rattle.std.proofs.lemmas.Result.{err_from_is_err_and}
use Rattle.std.specs.List.{flat_map}
use Rattle.daq_table.specs.ValueTexts.{doubled}
use Rattle.daq_table.proofs.Quotes.{too_much}
use Rattle.daq_table.proofs.values.quoted.Goals as goal

pub returns-in_err-push_doubled-clause-err : goal.returns-in_err-push_doubled-clause-err
returns-in_err-push_doubled-clause-err c =
    let name = c.args.name.now in
    let at = c.loop-byte.byte-index in
    let next = at_drop_more (flat_map doubled) name at 0 (omega arith) in
    let p = err_from_is_err_and c.from_residual.result c.from_residual.ensures.1 in
    rw p.1 (too_much c.loop-byte.text (doubled (get_or name at 0)) (flat_map doubled (drop (at + 1) name)) (flat_map doubled name) (rw next at c.loop-byte.invariant) c.in_err-push_doubled.ensures.err.1)
