-- Why each step of a `load` stops it, and what it comes to.
use Rattle.std.proofs.Common.{refl, sym, subst}
use Rattle.std.proofs.lemmas.Result.{err_from_is_err_and}
use Rattle.daq_cli.specs.Inputs.{InputCause}
use Rattle.daq_cli.specs.commands.Load.{at_input, at_table}
use Rattle.daq_cli.proofs.Results.{if_err, on_ok}
use Rattle.daq_cli.proofs.Spelled.{can_be_spelled}
use Rattle.daq_cli.proofs.commands.load.carry_out.Goals as goal

pub store_table-requires : goal.store_table-requires
store_table-requires g c =
    let read = c.in_ok-table.ensures.read in
    let (columns, declared, is_table) = read.accepted in
    record { spelled = can_be_spelled c.args.asked.now.schema.now read.bytes columns c.in_ok-table.table declared is_table.is_table }

pub returns-in_err-table-clause-refused : goal.returns-in_err-table-clause-refused
returns-in_err-table-clause-refused g c =
    let p = err_from_is_err_and c.from_residual.result c.from_residual.ensures.1 in
    rw p.1 (at_input (subst (InputCause c.args.asked.now.schema.now (g.S.Source.state c.args.input.now) (g.S.Source.state c.read_table.new.input)) (sym p.2) c.in_err-table.ensures.refused) refl refl)

pub returns-clause-done : goal.returns-clause-done
returns-clause-done g c =
    on_ok _ _ c.store_table.result _ _
    (λ written. record { table = c.in_ok-table.table; read = c.in_ok-table.ensures.read; written = written }) c.store_table.ensures.done

pub returns-clause-refused : goal.returns-clause-refused
returns-clause-refused g c =
    if_err _ _ c.store_table.result _ _ (λ why cause. at_table c.in_ok-table.table c.in_ok-table.ensures.read cause) c.store_table.ensures.refused
