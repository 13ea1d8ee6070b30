use Rattle.std.proofs.Common.{◌≡◌, false, length, get_or, Some, inl, inr, refl, ap, ◌∙◌, arith}
use Rattle.std.proofs.lemmas.Bool.{cases_lt}
use Rattle.std.proofs.lemmas.Option.{get_or_from_slice_get}
use Rattle.plane_kernels.proofs.Evens.{first_there, none_there}
use Rattle.plane_kernels.proofs.RemainingRows.{none_before}
use Rattle.plane_kernels.proofs.remaining.first_from.Goals as goal

pub returns-then-get : goal.returns-then-get
returns-then-get c =
    let rows = c.args.rows.now in
    first_there c.loop-row.row rows (none_before rows c.loop-row.row (omega arith) c.loop-row.invariant) (c.get.ensures ∙ ap Some c.if-get.true)

pub loop-row-preserved : goal.loop-row-preserved
loop-row-preserved c = λ r h.
    let rows = c.args.rows.now in
    let row = c.loop-row.row in
    elim (cases_lt r row) [
      | inl low ↦ c.loop-row.invariant r low
      | inr up ↦ (let same : r ≡ row = omega (arith, h, up) in ap (λ k. get_or rows k false) same ∙ get_or_from_slice_get rows row c.get.result false c.get.ensures ∙ c.if-get.false)
    ]

pub returns : goal.returns
returns c =
    let rows = c.args.rows.now in
    none_there (length rows) rows (none_before rows (length rows) (omega arith) (λ r h. c.loop-row.invariant r (omega (arith, h, c.loop-row-test.false, c.rows-row-end.ensures)))) refl
