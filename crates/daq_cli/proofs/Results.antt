-- What holds of a result that is known to be there.
use Rattle.std.proofs.Common.{Ok, Err, OnOk, IfOk, IfErr}
use Rattle.std.specs.declared.result.Result.{Result}

pub on_ok : (T E : Type 0) (r : Result T E) (P Q : Type 0) → (P → Q) → OnOk r P → OnOk r Q
on_ok T E (Ok x) P Q f p = f p
on_ok T E (Err e) P Q f p = tt

pub if_err : (T E : Type 0) (r : Result T E) (P Q : E → Type 0) → ((e : E) → P e → Q e) → IfErr r P → IfErr r Q
if_err T E (Ok x) P Q f p = tt
if_err T E (Err e) P Q f p = f e p

pub if_ok : (T E : Type 0) (r : Result T E) (P Q : T → Type 0) → ((x : T) → P x → Q x) → IfOk r P → IfOk r Q
if_ok T E (Ok x) P Q f p = f x p
if_ok T E (Err e) P Q f p = tt
