-- Rules of a grammar, and the lists of tokens that each stands for, with their values.
use Rattle.std.specs.Prelude.{◌≡◌, ℕ, Bool, true, List, [], ◌∷◌, ◌++◌, Option, Some, ◌⊎◌}
use Rattle.sql_tokens.specs.Lexeme.{Lexeme}
use Rattle.sql_text.specs.declared.tree.Num.{Num}
use Rattle.sql_text.specs.Tree.{Expr, Pred}
use Rattle.sql_text.specs.Number.{Written, is_number, number_of}

abbrev pub Language : Type 0 → Type 1
Language A = List Lexeme → A → Type 0

-- what may stand one level down: in parentheses, or behind NOT
pub data Part : Type 0 where
  InExpr : Part
  InPred : Part
  InNeg : Part

abbrev pub Inner : Part → Type 0
Inner InExpr = Expr
Inner InPred = Pred
Inner InNeg = Pred

-- A rule with values of type A. A test says something of the tokens that pass it.
pub data Rule : Type 0 → Type 1 where
  -- no token
  give : {A : Type 0} → A → Rule A
  -- a token that passes a test
  one : {A : Type 0} → (Lexeme → Option A) → Rule A
  -- a number, with a `-` before it or not
  number : {A : Type 0} → (negative : Bool) → (Num → A) → Rule A
  -- a token that passes a test, and then go, or stay
  either : {A X : Type 0} → (Lexeme → Option X) → (go : X → Rule A) → (stay : Rule A) → Rule A
  -- a token that passes a test, then a part one level down, and then go, or stay
  deeper : {A X : Type 0} → (Lexeme → Option X) → (part : Part) → (go : Inner part → Rule A) → (stay : Rule A) → Rule A
  -- one rule and then another
  next : {A B : Type 0} → Rule B → (B → Rule A) → Rule A
  -- part {separator part}, grouped to the left
  many : {A B X : Type 0} → (separator : Lexeme → Option X) → (first : B → A) → (join : A → X → B → A) → (part : Rule B) → Rule A

-- a token of which a test says x, and then a list of P x
abbrev pub Behind : {A X : Type 0} → (Lexeme → Option X) → (X → Language A) → Language A
Behind {A} {X} test P w a = (t : Lexeme) × (x : X) × (v : List Lexeme) × (w ≡ t ∷ v) × (test t ≡ Some x) × P x v a

-- part {separator part}
pub data Chain {A B X : Type 0}
    (separator : Lexeme → Option X) (first : B → A) (join : A → X → B → A) (part : List Lexeme → B → Type 0) :
    List Lexeme → A → Type 0 where
  start : {w : List Lexeme} {b : B} → part w b → Chain separator first join part w (first b)
  further : {u v : List Lexeme} {t : Lexeme} {x : X} {a : A} {b : B} →
      separator t ≡ Some x → Chain separator first join part u a → part v b →
      Chain separator first join part (u ++ (t ∷ v)) (join a x b)

-- The lists of a rule, where numbers pass `fits` and the parts one level down are those of `inside`.
abbrev pub IsOf : (fits : Bool → Option ℕ → Bool) (inside : (p : Part) → Language (Inner p)) → {A : Type 0} → Rule A → Language A
IsOf fits inside (give b) w a = (w ≡ []) × (a ≡ b)
IsOf fits inside (one test) w a = (t : Lexeme) × (w ≡ t ∷ []) × (test t ≡ Some a)
IsOf fits inside (number negative f) w a =
    (t : Lexeme) × (n : Written) × (w ≡ t ∷ [])
    × (is_number t ≡ Some n) × (fits negative n.units ≡ true) × (a ≡ f (number_of negative n))
IsOf fits inside (either test go stay) w a = Behind test (λ x v b. IsOf fits inside (go x) v b) w a ⊎ IsOf fits inside stay w a
IsOf fits inside (deeper {X} test part go stay) w a =
    ((t : Lexeme) × (x : X) × (u : List Lexeme) × (v : List Lexeme) × (b : Inner part)
    × (w ≡ t ∷ (u ++ v)) × (test t ≡ Some x) × inside part u b × IsOf fits inside (go b) v a)
    ⊎ IsOf fits inside stay w a
IsOf fits inside (next {B} p go) w a =
    (u : List Lexeme) × (v : List Lexeme) × (b : B)
    × (w ≡ u ++ v) × IsOf fits inside p u b × IsOf fits inside (go b) v a
IsOf fits inside (many separator first join part) w a = Chain separator first join (λ v b. IsOf fits inside part v b) w a
