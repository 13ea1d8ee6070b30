-- Reading tokens from left to right, with the first refusal that is met.
use Rattle.std.specs.Prelude.{◌≡◌, ℕ, zero, suc, List, [], ◌∷◌, length}
use Rattle.std.specs.Prelude.{Result, Ok, Err, Option, Some, None, Bool, if◌then◌else◌}
use Rattle.std.specs.Borrow.{Bor}
use Rattle.sql_tokens.specs.declared.token.Token.{Token}
use Rattle.sql_tokens.specs.Lexeme.{Lexeme, views}
use Rattle.sql_text.specs.declared.fault.Cause.{Cause}
use Rattle.sql_text.specs.declared.fault.Cause.TheVariants.{Syntax, TooDeep, TooLarge}
use Rattle.sql_text.specs.declared.fault.Stop.{Stop}
use Rattle.sql_text.specs.declared.fault.Refusal.{Refusal}
use Rattle.sql_text.specs.declared.fault.Refusal.TheVariants as refusals
use Rattle.sql_text.specs.declared.tree.Num.{Num}
use Rattle.sql_text.specs.Tree.{Query}
use Rattle.sql_text.specs.Number.{is_number, number_of, is_small}
use Rattle.sql_text.specs.Rule.{Part, Inner, Rule, give, one, number, either, deeper, next, many}
use Rattle.sql_text.specs.Grammar.{rule_of, query}

infixl 10 ◌>>=◌
abbrev pub ◌>>=◌ : {A B : Type 0} → Result A Stop → (A → Result B Stop) → Result B Stop
(Ok x) >>= f = f x
(Err e) >>= f = Err e

-- What a function returned, seen by view, is what reading gives, unless memory ran out.
abbrev pub Fails : {Y : Type 0} → Refusal → Result Y Stop → Type 0
Fails refusals.Memory read = Unit {0}
Fails (refusals.Stop f) read = read ≡ Err f

abbrev pub Gives : {X Y : Type 0} → (X → Y) → Result X Refusal → Result Y Stop → Type 0
Gives view (Ok x) read = read ≡ Ok (view x)
Gives view (Err e) read = Fails e read

abbrev pub Finds : {X Y : Type 0} → (X → Y) → Option X → Option Y → Type 0
Finds view None found = found ≡ None
Finds view (Some x) found = found ≡ Some (view x)

-- a value and the tokens behind it
abbrev pub seen : {X Y : Type 0} → (X → Y) → X × Bor (List Token) → Y × List Lexeme
seen view x = (view x.0, views x.1.now)

-- what is read of a front of the tokens, and the tokens after it
abbrev pub Reader : Type 0 → Type 0
Reader A = List Lexeme → Result (A × List Lexeme) Stop

abbrev pub refuse : {A : Type 0} → Cause → List Lexeme → Result A Stop
refuse c w = Err (record { cause = c; left = length w })

-- where something was found, f of it, and c elsewhere
abbrev pub when : {A C : Type 0} → Option A → C → (A → C) → C
when None c f = c
when (Some x) c f = f x

-- what a test says of the first token, and what follows it
abbrev pub found : {X : Type 0} → Option X → List Lexeme → Option (X × List Lexeme)
found None w = None
found (Some x) w = Some (x, w)

unfoldable pub look : {X : Type 0} → (Lexeme → Option X) → List Lexeme → Option (X × List Lexeme)
look test [] = None
look test (t ∷ w) = found (test t) w

unfoldable pub expect : {X : Type 0} → (Lexeme → Option X) → Reader X
expect test w = when (look test w) (refuse Syntax w) (λ x. Ok x)

unfoldable pub numeral : (fits : Bool → Option ℕ → Bool) → Bool → Reader Num
numeral fits negative w =
    when (look is_number w) (refuse Syntax w)
    (λ x. if fits negative x.0.units then Ok (number_of negative x.0, x.1) else refuse TooLarge w)

-- more parts, each behind a separator, at most so many
unfoldable pub chain : {A B X : Type 0} → ℕ → (Lexeme → Option X) → (A → X → B → A) → Reader B → A → Reader A
chain zero separator join part a w = Ok (a, w)
chain (suc m) separator join part a w =
    when (look separator w) (Ok (a, w))
    (λ x. part x.1 >>= λ y. chain m separator join part (join a x.0 y.0) y.1)

-- one more than the tokens of a text of 4096 bytes
unfoldable pub turns : ℕ
turns = 4097

-- what is read of a rule: `inside` is handed the token that opens a level too
unfoldable pub reads : (m : ℕ) (fits : Bool → Option ℕ → Bool) (inside : (p : Part) → Reader (Inner p)) → {A : Type 0} → Rule A → Reader A
reads m fits inside (give a) w = Ok (a, w)
reads m fits inside (one test) w = expect test w
reads m fits inside (number negative f) w = numeral fits negative w >>= λ x. Ok (f x.0, x.1)
reads m fits inside (either test go stay) w = when (look test w) (reads m fits inside stay w) (λ x. reads m fits inside (go x.0) x.1)
reads m fits inside (deeper test part go stay) w =
    when (look test w) (reads m fits inside stay w)
    (λ x. inside part w >>= λ y. reads m fits inside (go y.0) y.1)
reads m fits inside (next p go) w = reads m fits inside p w >>= λ x. reads m fits inside (go x.0) x.1
reads m fits inside (many separator first join part) w =
    reads m fits inside part w >>= λ x.
    chain m separator join (reads m fits inside part) (first x.0) x.1

-- one level down, where so many levels are left
unfoldable pub inside_at : (m : ℕ) (fits : Bool → Option ℕ → Bool) (levels : ℕ) (p : Part) → Reader (Inner p)
inside_at m fits zero p w = refuse TooDeep w
inside_at m fits (suc n) p [] = refuse Syntax []
inside_at m fits (suc n) p (t ∷ w) = reads m fits (inside_at m fits n) (rule_of p) w

abbrev pub down : ℕ → (p : Part) → Reader (Inner p)
down levels = inside_at turns is_small levels

abbrev pub by : {A : Type 0} → ℕ → Rule A → Reader A
by levels r = reads turns is_small (down levels) r

-- nothing is left
unfoldable pub ended : List Lexeme → Result (List Lexeme) Stop
ended [] = Ok []
ended (t ∷ w) = refuse Syntax (t ∷ w)

unfoldable pub sentence : ℕ → (Bool → Option ℕ → Bool) → ℕ → List Lexeme → Result Query Stop
sentence m fits levels w = reads m fits (inside_at m fits levels) query w >>= λ x. ended x.1 >>= λ _. Ok x.0

-- what is read of a rule that has no levels
abbrev pub flat : {A : Type 0} → Rule A → Reader A
flat r = reads turns is_small (down 0) r
