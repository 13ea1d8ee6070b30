-- What holds of the result of a step: it left what it took a plane to, or what was there.
use Rattle.std.proofs.Common.{◌≡◌, refl, sym, subst, IfErr, IfNone, IsNone, OnErr, OnOk}
use Rattle.std.specs.declared.option.Option.{Option}
use Rattle.std.specs.declared.option.Option.TheVariants.{Some, None}
use Rattle.std.specs.declared.result.Result.{Result}
use Rattle.std.specs.declared.result.Result.TheVariants.{Ok, Err}

-- what holds of both holds of what is there after it
pub stays : {T E X : Type 0} (P : X → Type 0) (r : Result T E) (old new next : X) → OnOk r (new ≡ next) → OnErr r (new ≡ old) → P old → P next → P new
stays P (Ok done) old new next taken unchanged before after = subst P (sym taken) after
stays P (Err error) old new next taken unchanged before after = subst P (sym unchanged) before

pub on_ok : {T E P Q : Type 0} (r : Result T E) → (P → Q) → OnOk r P → OnOk r Q
on_ok (Ok done) then p = then p
on_ok (Err error) then p = tt

pub on_both : {T E P Q R : Type 0} (r : Result T E) → (P → Q → R) → OnOk r P → OnOk r Q → OnOk r R
on_both (Ok done) then p q = then p q
on_both (Err error) then p q = tt

pub if_err : {T E : Type 0} (P Q : E → Type 0) (r : Result T E) → ((error : E) → P error → Q error) → IfErr r P → IfErr r Q
if_err P Q (Ok done) then p = tt
if_err P Q (Err error) then p = then error p

pub if_none : {T P : Type 0} (o : Option T) → (IsNone o → P) → IfNone o P
if_none None then = then refl
if_none (Some x) then = tt

pub none_then : {T P Q : Type 0} (o : Option T) → (P → Q) → IfNone o P → IfNone o Q
none_then None then p = then p
none_then (Some x) then p = tt
