-- Why each step of an `upgrade` stops it, and what it comes to.
use Rattle.std.proofs.Common.{refl}
use Rattle.std.proofs.lemmas.Result.{err_from_is_err_and}
use Rattle.daq_cli.specs.commands.Upgrade.{at_file, at_table}
use Rattle.daq_cli.proofs.Results.{if_err, on_ok}
use Rattle.daq_cli.proofs.commands.upgrade.carry_out.Goals as goal

pub store_table-requires : goal.store_table-requires
store_table-requires g c = record { spelled = c.in_ok-table.ensures.read.opened.spelled }

pub returns-in_err-table-clause-refused : goal.returns-in_err-table-clause-refused
returns-in_err-table-clause-refused g c =
    let p = err_from_is_err_and c.from_residual.result c.from_residual.ensures.1 in
    rw p.1 (at_file (record { fault = c.in_err-table.field-0.0; is = p.2; refused = c.in_err-table.ensures.refused }) refl refl)

pub returns-clause-done : goal.returns-clause-done
returns-clause-done g c =
    on_ok _ _ c.store_table.result _ _
    (λ written. record { table = c.in_ok-table.table; read = c.in_ok-table.ensures.read; written = written }) c.store_table.ensures.done

pub returns-clause-refused : goal.returns-clause-refused
returns-clause-refused g c =
    if_err _ _ c.store_table.result _ _ (λ why cause. at_table c.in_ok-table.table c.in_ok-table.ensures.read cause) c.store_table.ensures.refused
