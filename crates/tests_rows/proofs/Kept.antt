-- A sum that is kept stays so, whether the next plane is taken or refused.
use Rattle.std.proofs.Common.{Bool, List, Result, Ok, Err, OnOk, OnErr, ◌≡◌, length, subst, sym}
use Rattle.known_column.specs.Columns.{KnownColumn, read_further, rows_of_column}
use Rattle.aggregates.specs.declared.kept_sum.KeptSum.{KeptSum}
use Rattle.aggregates.specs.KeptSums.{IsKept}
use Rattle.aggregates.proofs.KeptSums.{still_kept}

pub kept_either : {E : Type 0} (old new : KnownColumn) (bits : List Bool) (r : Result (Unit {0}) E) → OnOk r (new ≡ read_further old bits) → OnErr r (new ≡ old) → length bits ≡ rows_of_column old → (kept : KeptSum) → IsKept old kept → IsKept new kept
kept_either old new bits (Ok a) taken same long kept is = subst (λ w. IsKept w kept) (sym taken) (still_kept old bits kept long is)
kept_either old new bits (Err e) taken same long kept is = subst (λ w. IsKept w kept) (sym same) is
