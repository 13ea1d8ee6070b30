-- A test of keywords and signs, by the keyword or sign at the front.
use Rattle.std.specs.Prelude.{◌≡◌, refl, Option, Some, None, List, [], ◌∷◌}
use Rattle.std.proofs.Common.{◌∙◌, ap}
use Rattle.sql_tokens.specs.declared.token.Fixed.{Fixed}
use Rattle.sql_tokens.specs.Lexeme.{Lexeme, token, FIXED, NAME, NUMBER, STRING}
use Rattle.sql_text.specs.Number.{fixed_test, is_fixed}
use Rattle.sql_text.specs.Reading.{found, look, when}

-- what a test finds
by_front : {X : Type 0} (test : Fixed → Option X) (w : List Lexeme) → look (fixed_test test) w ≡ when (look is_fixed w) None (λ x. found (test x.0) x.1)
unfolding look
by_front test [] = refl
by_front test (token p (FIXED k) ∷ w) = refl
by_front test (token p (NAME s) ∷ w) = refl
by_front test (token p (NUMBER u c) ∷ w) = refl
by_front test (token p (STRING s) ∷ w) = refl

-- nothing where there is none
pub no_front : {X : Type 0} (test : Fixed → Option X) (w : List Lexeme) → look is_fixed w ≡ None → look (fixed_test test) w ≡ None
no_front test w none = by_front test w ∙ ap (λ (o : Option (Fixed × List Lexeme)). when o None (λ x. found (test x.0) x.1)) none

-- nothing where the test fails there
pub other_front : {X : Type 0} (test : Fixed → Option X) (w v : List Lexeme) (k : Fixed) →
    look is_fixed w ≡ Some (k, v) → test k ≡ None → look (fixed_test test) w ≡ None
other_front test w v k some fails =
    by_front test w ∙ ap (λ (o : Option (Fixed × List Lexeme)). when o None (λ x. found (test x.0) x.1)) some ∙ ap (λ o. found o v) fails

-- and else what it says
pub this_front : {X : Type 0} (test : Fixed → Option X) (w v : List Lexeme) (k : Fixed) (x : X) →
    look is_fixed w ≡ Some (k, v) → test k ≡ Some x → look (fixed_test test) w ≡ Some (x, v)
this_front test w v k x some passes =
    by_front test w ∙ ap (λ (o : Option (Fixed × List Lexeme)). when o None (λ x. found (test x.0) x.1)) some ∙ ap (λ o. found o v) passes
