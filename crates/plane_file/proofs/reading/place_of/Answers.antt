-- No place of a file is past 2 ^ 40.
use Rattle.std.proofs.Common.{ℕ, ◌+◌, ◌*◌, ◌<◌, ◌≤◌, ◌^◌, length, arith, ap}
use Rattle.std.proofs.Math.Nat.{mul-le-mul}
use Rattle.std.proofs.lemmas.List.{length-take}
use Rattle.daq_table.specs.declared.head.ColumnHead.{ColumnHead}
use Rattle.daq_table.specs.declared.table_head.Head.{Head}
use Rattle.plane_file.specs.Format.{plane_size}
use Rattle.plane_file.proofs.Bounds.{short_heads}
use Rattle.plane_file.proofs.reading.place_of.Goals as goal

-- a place behind few and short heads, and so many planes of so many words
low_place : (heads columns words planes : ℕ) → heads ≤ 16777304 * columns → columns ≤ 64 → words ≤ 2097160 → planes ≤ 4415 → 32 + heads + words * planes + 2097160 < 2 ^ 63
low_place heads columns words planes short few small many = omega (arith, short, few, mul-le-mul small many)

pub overflow_add-result : goal.overflow_add-result
overflow_add-result c =
    let head = c.args.file.now.head in
    let columns = ap (λ (h : Head). length h.columns) c.head-head.ensures.head in
    let rows = ap (λ (h : Head). h.rows) c.head-head.ensures.head in
    let words : 8 * c.div_ceil.result ≤ 2097160 = omega (arith, c.div_ceil.ensures, rows, head.is_head.few_rows) in
    let before : c.planes_in.result + c.from.result ≤ 4415 = omega (arith, c.planes_in.ensures.few, c.from.ensures, c.ranges.plane.fits, length-take {A = ColumnHead}, ap length c.as_slice.ensures, columns, head.is_head.few_columns) in
    let low = low_place _ (length head.columns) (8 * c.div_ceil.result) (c.planes_in.result + c.from.result) (short_heads head.columns c.head-head.ensures.opened.spelled.each) head.is_head.few_columns words before in
    record { fits = omega (arith, low, c.planes_at.ensures) }

pub returns-clause-fits : goal.returns-clause-fits
returns-clause-fits c =
    let head = c.args.file.now.head in
    let columns = ap (λ (h : Head). length h.columns) c.head-head.ensures.head in
    let rows = ap (λ (h : Head). h.rows) c.head-head.ensures.head in
    let words : 8 * c.div_ceil.result ≤ 2097160 = omega (arith, c.div_ceil.ensures, rows, head.is_head.few_rows) in
    let before : c.planes_in.result + c.from.result ≤ 4415 = omega (arith, c.planes_in.ensures.few, c.from.ensures, c.ranges.plane.fits, length-take {A = ColumnHead}, ap length c.as_slice.ensures, columns, head.is_head.few_columns) in
    let low = low_place _ (length head.columns) (8 * c.div_ceil.result) (c.planes_in.result + c.from.result) (short_heads head.columns c.head-head.ensures.opened.spelled.each) head.is_head.few_columns words before in
    let size : plane_size head.rows ≤ 2097160 = omega (arith, head.is_head.few_rows) in
    omega (arith, low, c.planes_at.ensures, size)
