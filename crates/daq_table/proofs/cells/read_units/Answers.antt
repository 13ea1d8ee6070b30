use Rattle.std.proofs.Common.{◌≡◌, ℕ, ◌-◌, length, take, replicate, arith}
use Rattle.std.proofs.lemmas.List.{take-replicate}
use Rattle.daq_table.proofs.CellDigits.{units_whole, units_kept, units_read}
use Rattle.daq_table.proofs.cells.read_units.Goals as goal

pub returns-in_err-digits : goal.returns-in_err-digits
returns-in_err-digits c =
    rw c.from_residual.ensures (λ u. c.in_err-digits.ensures (u.before, units_whole c.args.scale c.args.whole.now c.args.fraction.now u))

pub returns-in_err-digits-2 : goal.returns-in_err-digits-2
returns-in_err-digits-2 c =
    let front = c.split_at_most.ensures.front in
    rw c.from_residual-in_err-digits-2.ensures (λ u. c.in_err-digits-2.ensures
    (rw front u.behind, rw (front, c.in_ok-digits.ensures.1) (units_kept c.args.scale c.args.whole.now c.args.fraction.now u)))

pub returns : goal.returns
returns c =
    let front = c.split_at_most.ensures.front in
    let missing : take {A = ℕ} c.saturating_sub.result (replicate 255 48) ≡ replicate (c.args.scale - length c.args.fraction.now) 48 =
    rw c.saturating_sub.ensures (take-replicate _ 255 48 (omega arith)) in
    units_read c.args.scale c.args.whole.now c.args.fraction.now c.in_ok-digits-2.digits c.read_digits-3.result c.in_ok-digits.ensures.0.0
    (rw front at c.in_ok-digits-2.ensures.0.0) (rw (front, c.in_ok-digits.ensures.1) at c.in_ok-digits-2.ensures.1) (rw missing at c.read_digits-3.ensures)
