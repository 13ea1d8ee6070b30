-- What is read of a rule does not depend on what follows, nor on limits that are not met.
use Rattle.std.proofs.Common.{◌≡◌, ℕ, zero, suc, ◌≤◌, ◌<◌, List, [], ◌∷◌, ◌++◌, length, Bool, true, false, cond, Ok, Option, Some, None, refl, arith}
use Rattle.sql_tokens.specs.Lexeme.{Lexeme}
use Rattle.sql_text.specs.declared.fault.Cause.{Cause}
use Rattle.sql_text.specs.declared.fault.Cause.TheVariants.{Syntax, TooDeep, TooLarge}
use Rattle.sql_text.specs.declared.tree.Num.{Num}
use Rattle.sql_text.specs.Number.{Written, is_number, number_of}
use Rattle.sql_text.specs.Rule.{Part, Inner, Rule, give, one, number, either, deeper, next, many}
use Rattle.sql_text.specs.Grammar.{rule_of}
use Rattle.sql_text.specs.Reading.{◌>>=◌, Reader, refuse, when, found, look, numeral, chain, reads, inside_at}
use Rattle.sql_text.proofs.Fine.{seen}
use Rattle.sql_text.proofs.RuleFine.{Limits}
use Rattle.sql_text.proofs.Same.{Cut, cut_behind, cut_then, cut_look, cut_peek, expect_cut, chain_cut, Carries, Same, same_less, same_ok, same_refuse, same_then, same_map, same_look, same_peek, past, expect_same, chain_same}

-- ---- what was read and what is left are the list

numeral_cut : (fits : Limits) (negative : Bool) (w : List Lexeme) → Cut w (numeral fits negative w)
unfolding numeral
numeral_cut fits negative w = go (look is_number w) refl
  where
    read : (x : Written × List Lexeme) → look is_number w ≡ Some x → (b : Bool) → Cut {A = Num} w (cond b (Ok (number_of negative x.0, x.1)) (refuse TooLarge w))
    read x e true = let k = seen is_number w x.0 x.1 e in (k.t ∷ [], k.parts)
    read x e false = ([], w, refl, refl)

    go : (o : Option (Written × List Lexeme)) → look is_number w ≡ o → Cut {A = Num} w (when o (refuse Syntax w) (λ x. cond (fits negative x.0.units) (Ok (number_of negative x.0, x.1)) (refuse TooLarge w)))
    go None e = ([], w, refl, refl)
    go (Some x) e = read x e (fits negative x.0.units)

module _ (m : ℕ) (fits : Limits) (g : (p : Part) → Reader (Inner p)) (cut : (p : Part) (w : List Lexeme) → Cut w (g p w)) where
  pub read_cut : {A : Type 0} (r : Rule A) (w : List Lexeme) → Cut w (reads m fits g r w)
  unfolding reads
  read_cut (give a) w = ([], refl)
  read_cut (one test) w = expect_cut test w
  read_cut (number negative f) w = cut_then w (numeral fits negative w) (λ n v. Ok (f n, v)) (numeral_cut fits negative w) (λ n v. ([], refl))
  read_cut (either test go stay) w = cut_look test w (reads m fits g stay w) (λ x. reads m fits g (go x)) (read_cut stay w) (λ x v. read_cut (go x) v)
  read_cut (deeper test part go stay) w =
      cut_peek test w (reads m fits g stay w) (g part w >>= λ y. reads m fits g (go y.0) y.1) (read_cut stay w) (cut_then w (g part w) (λ b. reads m fits g (go b)) (cut part w) (λ b v. read_cut (go b) v))
  read_cut (next p go) w = cut_then w (reads m fits g p w) (λ b. reads m fits g (go b)) (read_cut p w) (λ b v. read_cut (go b) v)
  read_cut (many separator first join part) w =
      cut_then w (reads m fits g part w) (λ b. chain m separator join (reads m fits g part) (first b)) (read_cut part w) (λ b. chain_cut separator join (reads m fits g part) (read_cut part) m (first b))

pub inside_cut : (m : ℕ) (fits : Limits) (n : ℕ) (p : Part) (w : List Lexeme) → Cut w (inside_at m fits n p w)
unfolding inside_at
inside_cut m fits zero p w = ([], w, refl, refl)
inside_cut m fits (suc n) p [] = ([], [], refl, refl)
inside_cut m fits (suc n) p (t ∷ w) = cut_behind (t ∷ w) (t ∷ []) w refl (reads m fits (inside_at m fits n) (rule_of p) w) (read_cut m fits (inside_at m fits n) (inside_cut m fits n) (rule_of p) w)

-- ---- the same under other limits, and whatever follows

module _ (kept : Cause → Type 0) (limit m m' : ℕ) (lt : limit < m) (lt' : limit < m') (fits fits' : Limits) (wider : (negative : Bool) (n : Option ℕ) → fits negative n ≡ true → fits' negative n ≡ true)
    (narrow : kept TooLarge → (negative : Bool) (n : Option ℕ) → fits negative n ≡ false → fits' negative n ≡ false) where
  module _ (negative : Bool) where
    at_head : (t : Lexeme) (v z : List Lexeme) (n : Written) (b : Bool) → fits negative n.units ≡ b
        → Carries kept t v z (cond b (Ok (number_of negative n, v)) (refuse TooLarge (t ∷ v))) (cond (fits' negative n.units) (Ok (number_of negative n, z)) (refuse TooLarge (t ∷ z)))
    at_head t v z n true h = past kept t v z (Ok (number_of negative n, v)) (cond (fits' negative n.units) (Ok (number_of negative n, z)) (refuse TooLarge (t ∷ z))) ([], refl)
    at_head t v z n false h = λ l k. rw (narrow k negative n.units h) refl

    later : (a : Lexeme) (d v z : List Lexeme) (t : Lexeme) (n : Written) → suc (length d) ≤ limit → (b : Bool) → fits negative n.units ≡ b
        → Carries kept t v z (cond b (Ok (number_of negative n, d ++ (t ∷ v))) (refuse TooLarge (a ∷ (d ++ (t ∷ v))))) (cond (fits' negative n.units) (Ok (number_of negative n, d ++ (t ∷ z))) (refuse TooLarge (a ∷ (d ++ (t ∷ z)))))
    later a d v z t n short true h = rw (wider negative n.units h) (same_ok kept limit (number_of negative n) d v z t (omega arith))
    later a d v z t n short false h = λ l k. rw (narrow k negative n.units h) (same_refuse kept limit {A = Num} TooLarge (a ∷ d) v z t short l k)

    numeral_same : Same kept limit (numeral fits negative) (numeral fits' negative)
    unfolding numeral look
    numeral_same [] v z t short = go (is_number t)
      where
        go : (o : Option Written) → Carries {A = Num} kept t v z (when (found o v) (refuse Syntax (t ∷ v)) (λ x. cond (fits negative x.0.units) (Ok (number_of negative x.0, x.1)) (refuse TooLarge (t ∷ v))))
            (when (found o z) (refuse Syntax (t ∷ z)) (λ x. cond (fits' negative x.0.units) (Ok (number_of negative x.0, x.1)) (refuse TooLarge (t ∷ z))))
        go None = same_refuse kept limit {A = Num} Syntax [] v z t short
        go (Some n) = at_head t v z n (fits negative n.units) refl
    numeral_same (a ∷ d) v z t short = go (is_number a)
      where
        go : (o : Option Written) → Carries {A = Num} kept t v z (when (found o (d ++ (t ∷ v))) (refuse Syntax (a ∷ (d ++ (t ∷ v)))) (λ x. cond (fits negative x.0.units) (Ok (number_of negative x.0, x.1)) (refuse TooLarge (a ∷ (d ++ (t ∷ v))))))
            (when (found o (d ++ (t ∷ z))) (refuse Syntax (a ∷ (d ++ (t ∷ z)))) (λ x. cond (fits' negative x.0.units) (Ok (number_of negative x.0, x.1)) (refuse TooLarge (a ∷ (d ++ (t ∷ z))))))
        go None = same_refuse kept limit {A = Num} Syntax (a ∷ d) v z t short
        go (Some n) = later a d v z t n (omega arith) (fits negative n.units) refl

  module _ (g g' : (p : Part) → Reader (Inner p)) (sg : (p : Part) → Same kept limit (g p) (g' p)) (cut : (p : Part) (w : List Lexeme) → Cut w (g p w)) where
    pub read_same : {A : Type 0} (r : Rule A) → Same kept limit (reads m fits g r) (reads m' fits' g' r)
    unfolding reads
    read_same (give a) = same_ok kept limit a
    read_same (one test) = expect_same kept limit test
    read_same (number negative f) = same_map kept limit f (numeral fits negative) (numeral fits' negative) (numeral_same negative) (numeral_cut fits negative)
    read_same (either test go stay) =
        same_look kept limit test (reads m fits g stay) (reads m' fits' g' stay) (λ x. reads m fits g (go x)) (λ x. reads m' fits' g' (go x)) (read_same stay)
        (λ n lt x. same_less kept limit n (reads m fits g (go x)) (reads m' fits' g' (go x)) (omega arith) (read_same (go x))) (λ x w. read_cut m fits g cut (go x) w)
    read_same (deeper test part go stay) =
        same_peek kept limit test (reads m fits g stay) (reads m' fits' g' stay) (λ w. g part w >>= λ y. reads m fits g (go y.0) y.1) (λ w. g' part w >>= λ y. reads m' fits' g' (go y.0) y.1) (read_same stay)
        (same_then kept limit (g part) (g' part) (λ b. reads m fits g (go b)) (λ b. reads m' fits' g' (go b)) (sg part) (cut part) (λ b. read_same (go b)) (λ b w. read_cut m fits g cut (go b) w))
    read_same (next p go) =
        same_then kept limit (reads m fits g p) (reads m' fits' g' p) (λ b. reads m fits g (go b)) (λ b. reads m' fits' g' (go b)) (read_same p) (read_cut m fits g cut p) (λ b. read_same (go b)) (λ b w. read_cut m fits g cut (go b) w)
    read_same (many separator first join part) =
        same_then kept limit (reads m fits g part) (reads m' fits' g' part) (λ b. chain m separator join (reads m fits g part) (first b)) (λ b. chain m' separator join (reads m' fits' g' part) (first b)) (read_same part) (read_cut m fits g cut part)
        (λ b. chain_same kept limit separator join (reads m fits g part) (reads m' fits' g' part) (read_same part) (read_cut m fits g cut part) limit m m' (omega arith) lt lt' (first b))
        (λ b. chain_cut separator join (reads m fits g part) (read_cut m fits g cut part) m (first b))

  pub inside_same : (n n' : ℕ) → n ≤ n' → (kept TooDeep → n ≡ n') → (p : Part) → Same kept limit (inside_at m fits n p) (inside_at m' fits' n' p)
  unfolding inside_at
  inside_same zero zero le deep p d v z t short = same_refuse kept limit {A = Inner p} TooDeep d v z t short
  inside_same zero (suc n') le deep p d v z t short = λ l k. let e : 0 ≡ suc n' = deep k in absurd (omega arith)
  inside_same (suc n) zero le deep p d v z t short = absurd (omega arith)
  inside_same (suc n) (suc n') le deep p [] v z t short =
      past kept t v z (reads m fits (inside_at m fits n) (rule_of p) v) (reads m' fits' (inside_at m' fits' n') (rule_of p) z) (read_cut m fits (inside_at m fits n) (inside_cut m fits n) (rule_of p) v)
  inside_same (suc n) (suc n') le deep p (a ∷ d) v z t short =
      let deeper_too : kept TooDeep → n ≡ n' = λ k. let e : suc n ≡ suc n' = deep k in omega arith in
      read_same (inside_at m fits n) (inside_at m' fits' n') (inside_same n n' (omega arith) deeper_too) (inside_cut m fits n) (rule_of p) d v z t (omega arith)

  pub is_same : (n n' : ℕ) → n ≤ n' → (kept TooDeep → n ≡ n') → {A : Type 0} (r : Rule A) → Same kept limit (reads m fits (inside_at m fits n) r) (reads m' fits' (inside_at m' fits' n') r)
  is_same n n' le deep r = read_same (inside_at m fits n) (inside_at m' fits' n') (inside_same n n' le deep) (inside_cut m fits n) r
