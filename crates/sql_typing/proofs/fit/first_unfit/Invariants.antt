-- Each item so far fits.
use Rattle.std.proofs.Common.{◌≡◌, ℕ, ◌<◌, Some, slice_get}
use Rattle.query_model.specs.Validity.{FitsItem}
use Rattle.query_model.specs.Queries.{Aggregate}
use Rattle.sql_typing.proofs.fit.first_unfit.Given as goal

abbrev pub invariant-loop-place : goal.invariant-loop-place
invariant-loop-place l = (i : ℕ) (item : Aggregate) → i < l.place → slice_get l.items i ≡ Some item → FitsItem (record { rows = l.rows; columns = l.ends }) item
