-- Rules that can be completed, and at which the next token alone decides.
use Rattle.std.proofs.Common.{◌≡◌, Some, None, ◌⊎◌}
use Rattle.sql_tokens.specs.declared.token.Fixed.TheVariants as fixed
use Rattle.sql_tokens.specs.Lexeme.{Lexeme}
use Rattle.sql_text.specs.declared.fault.Cause.TheVariants.{TooDeep}
use Rattle.sql_text.specs.Number.{Written, is, is_number, is_sum}
use Rattle.sql_text.specs.Rule.{Part, InExpr, InPred, InNeg, Inner, Rule, give, one, number, either, deeper, next, many}
use Rattle.sql_text.specs.Sentence.{IsLimitAt}

-- it may stand for no token
abbrev pub Null : {A : Type 0} → Rule A → Type 0
Null (give a) = Unit {0}
Null (one test) = ⊥
Null (number negative f) = ⊥
Null (either test go stay) = Null stay
Null (deeper test part go stay) = Null stay
Null (next {B} p go) = Null p × ((b : B) × Null (go b))
Null (many separator first join part) = Null part

-- a token with which it may begin
abbrev pub First : {A : Type 0} → Rule A → Lexeme → Type 0
First (give a) t = ⊥
First (one {A} test) t = (a : A) × (test t ≡ Some a)
First (number negative f) t = (n : Written) × (is_number t ≡ Some n)
First (either {X} test go stay) t = ((x : X) × (test t ≡ Some x)) ⊎ First stay t
First (deeper {X} test part go stay) t = ((x : X) × (test t ≡ Some x)) ⊎ First stay t
First (next {B} p go) t = First p t ⊎ (Null p × ((b : B) × First (go b) t))
First (many separator first join part) t = First part t

-- a token that cannot lengthen it
abbrev pub EndsPart : Part → Lexeme → Type 0
EndsPart InExpr t = (is fixed.Star t ≡ None) × (is_sum t ≡ None)
EndsPart InPred t = (is fixed.And t ≡ None) × (is fixed.Or t ≡ None)
EndsPart InNeg t = Unit {0}

abbrev pub Ends : {A : Type 0} → Rule A → Lexeme → Type 0
Ends (give a) t = Unit {0}
Ends (one test) t = Unit {0}
Ends (number negative f) t = Unit {0}
Ends (either {X} test go stay) t = ((x : X) → Ends (go x) t) × Ends stay t × (Null stay → test t ≡ None)
Ends (deeper test part go stay) t = ((b : Inner part) → Ends (go b) t) × ((b : Inner part) → Null (go b) → EndsPart part t) × Ends stay t × (Null stay → test t ≡ None)
Ends (next {B} p go) t = ((b : B) → Ends (go b) t) × ((b : B) → Null (go b) → Ends p t)
Ends (many separator first join part) t = Ends part t × (separator t ≡ None)

abbrev pub Clear : {A : Type 0} → Rule A → Type 0
Clear (give a) = Unit {0}
Clear (one {A} test) = (t : Lexeme) × (a : A) × (test t ≡ Some a)
Clear (number negative f) = Unit {0}
Clear (either {X} test go stay) = ((x : X) → Clear (go x)) × Clear stay × ((t : Lexeme) → First stay t → test t ≡ None)
Clear (deeper {X} test part go stay) =
    ((b : Inner part) → Clear (go b)) × Clear stay × ((t : Lexeme) → First stay t → test t ≡ None) × ((t : Lexeme) (x : X) → test t ≡ Some x → IsLimitAt TooDeep t) × ((b : Inner part) (t : Lexeme) → First (go b) t → EndsPart part t)
Clear (next {B} p go) = Clear p × ((b : B) → Clear (go b)) × ((b : B) (t : Lexeme) → First (go b) t → Ends p t)
Clear (many {X} separator first join part) = Clear part × (Null part → ⊥) × ((t : Lexeme) (x : X) → separator t ≡ Some x → Ends part t)
