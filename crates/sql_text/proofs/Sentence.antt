-- What is read is a sentence, each sentence is read, and a refusal is the first one.
use Rattle.std.proofs.Common.{◌≡◌, ℕ, suc, ◌+◌, ◌≤◌, ◌<◌, List, [], ◌∷◌, ◌++◌, length, Bool, true, false, Result, Ok, Err, Option, Some, refl, sym, ap, subst, ◌∙◌, append_assoc, arith}
use Rattle.std.proofs.lemmas.List.{length-append, append-nil}
use Rattle.sql_tokens.specs.Lexeme.{Lexeme}
use Rattle.sql_text.specs.declared.fault.Cause.{Cause}
use Rattle.sql_text.specs.declared.fault.Cause.TheVariants.{Syntax, TooDeep, TooLarge}
use Rattle.sql_text.specs.declared.fault.Stop.{Stop}
use Rattle.sql_text.specs.Tree.{Query}
use Rattle.sql_text.specs.Number.{is_small, any_number}
use Rattle.sql_text.specs.Rule.{Language}
use Rattle.sql_text.specs.Grammar.{Is, query}
use Rattle.sql_text.specs.Reading.{◌>>=◌, Reader, refuse, reads, inside_at, ended, sentence}
use Rattle.sql_text.specs.Sentence.{Begins, IsSentence, IsAnySentence, IsCause, IsRefused}
use Rattle.sql_text.proofs.Fine.{Fine, Joins, Passes, fine_then, fine_refuse}
use Rattle.sql_text.proofs.Same.{Cut, cut_of, Carries, Same, same_refuse, same_then}
use Rattle.sql_text.proofs.RuleFine.{Limits, is_fine, is_grow}
use Rattle.sql_text.proofs.RuleSame.{is_same}
use Rattle.sql_text.proofs.RuleWhole.{is_whole}
use Rattle.sql_text.proofs.GrammarClear.{query_clear, parts_clear, parts_end}

abbrev query_at : ℕ → Limits → ℕ → Reader Query
query_at m fits levels = reads m fits (inside_at m fits levels) query

abbrev IsQuery : Limits → ℕ → Language Query
IsQuery fits n w q = Is fits n query w q

query_grow : (fits fits⁺ : Limits) → ((negative : Bool) (n : Option ℕ) → fits negative n ≡ true → fits⁺ negative n ≡ true) → (n k : ℕ) → n ≤ k → (w : List Lexeme) (q : Query) → IsQuery fits n w q → IsQuery fits⁺ k w q
query_grow fits fits⁺ wider n k le w q h = is_grow fits fits⁺ wider n k le query w q h

small_any : (negative : Bool) (n : Option ℕ) → is_small negative n ≡ true → any_number negative n ≡ true
small_any negative n h = refl

zero_small : (negative : Bool) → is_small negative (Some 0) ≡ true
zero_small true = refl
zero_small false = refl

query_fine : (m n : ℕ) (w : List Lexeme) → Fine (IsQuery is_small n) (IsQuery any_number (suc n)) w (query_at m is_small n w)
query_fine m n w = is_fine m is_small any_number small_any (λ _ _. refl) zero_small parts_clear n query query_clear w

query_whole : (m : ℕ) (fits : Limits) (n : ℕ) (w : List Lexeme) (q : Query) → length w ≤ m → IsQuery fits n w q → query_at m fits n w ≡ Ok (q, [])
query_whole m fits n w q le h =
    let read = is_whole m fits parts_clear parts_end n query query_clear w [] q le h tt in
    ap (query_at m fits n) (sym (append-nil w)) ∙ read

-- the last step as a reader
final : Query → Reader Query
final q [] = Ok (q, [])
final q (t ∷ w) = refuse Syntax (t ∷ w)

whole : (m : ℕ) (fits : Limits) (levels : ℕ) → Reader Query
whole m fits levels w = query_at m fits levels w >>= λ x. final x.0 x.1

value : Result (Query × List Lexeme) Stop → Result Query Stop
value (Ok x) = Ok x.0
value (Err e) = Err e

sentence_is : (m : ℕ) (fits : Limits) (levels : ℕ) (w : List Lexeme) → sentence m fits levels w ≡ value (whole m fits levels w)
unfolding sentence whole value ended final
sentence_is m fits levels w = go (query_at m fits levels w)
  where
    last : (q : Query) (v : List Lexeme) → (ended v >>= λ _. Ok q) ≡ value (final q v)
    last q [] = refl
    last q (t ∷ v) = refl

    go : (r : Result (Query × List Lexeme) Stop) → (r >>= λ x. ended x.1 >>= λ _. Ok x.0) ≡ value (r >>= λ x. final x.0 x.1)
    go (Ok x) = last x.0 x.1
    go (Err e) = refl

Last : Query → Language Query
Last q v a = (v ≡ []) × (a ≡ q)

final_fine : (q : Query) (w : List Lexeme) → Fine (Last q) (Last q) w (final q w)
unfolding final Last
final_fine q [] = record { front = []; parts = refl; inside = (refl, refl) }
final_fine q (t ∷ w) = fine_refuse (Last q) (Last q) (t ∷ w) ([], q, (refl, refl))

joins_last : (fits : Limits) (n : ℕ) → Joins (IsQuery fits n) Last (IsQuery fits n)
unfolding Last
joins_last fits n = record {
  seq = λ {u} {v} {a} {b} h k. rw (k.0, k.1, append-nil u) h;
  fill = λ q. ([], q, (refl, refl));
}

whole_fine : (m levels : ℕ) (w : List Lexeme) → Fine (IsQuery is_small levels) (IsQuery any_number (suc levels)) w (whole m is_small levels w)
unfolding whole
whole_fine m levels w = fine_then (joins_last is_small levels) (joins_last any_number (suc levels)) (query_grow is_small any_number small_any levels (suc levels) (omega arith)) w (query_at m is_small levels w) final
    (query_fine m levels w) final_fine

final_same : (kept : Cause → Type 0) (limit : ℕ) (q : Query) → Same kept limit (final q) (final q)
unfolding final
final_same kept limit q [] v z t short = same_refuse kept limit {A = Query} Syntax [] v z t short
final_same kept limit q (a ∷ d) v z t short = same_refuse kept limit {A = Query} Syntax (a ∷ d) v z t short

query_cut : (m levels : ℕ) (w : List Lexeme) → Cut w (query_at m is_small levels w)
query_cut m levels w = cut_of (IsQuery is_small levels) (IsQuery any_number (suc levels)) w (query_at m is_small levels w) (query_fine m levels w)

final_cut : (q : Query) (w : List Lexeme) → Cut w (final q w)
final_cut q w = cut_of (Last q) (Last q) w (final q w) (final_fine q w)

whole_same : (kept : Cause → Type 0) (limit m m' : ℕ) → limit < m → limit < m' → (fits' : Limits) → ((negative : Bool) (n : Option ℕ) → is_small negative n ≡ true → fits' negative n ≡ true) → (kept TooLarge → (negative : Bool) (n : Option ℕ) → is_small negative n ≡ false → fits' negative n ≡ false)
    → (n n' : ℕ) → n ≤ n' → (kept TooDeep → n ≡ n') → Same kept limit (whole m is_small n) (whole m' fits' n')
unfolding whole
whole_same kept limit m m' lt lt' fits' wider narrow n n' le deep =
    same_then kept limit (query_at m is_small n) (query_at m' fits' n') final final (is_same kept limit m m' lt lt' is_small fits' wider narrow n n' le deep query) (query_cut m n) (final_same kept limit) final_cut

whole_whole : (m : ℕ) (fits : Limits) (n : ℕ) (w : List Lexeme) (q : Query) → length w ≤ m → IsQuery fits n w q → whole m fits n w ≡ Ok (q, [])
unfolding whole final
whole_whole m fits n w q le h = rw (query_whole m fits n w q le h) refl

-- ---- found

ok_not_err : {A B : Type 0} (a : A) (e : B) → ◌≡◌ {A = Result A B} (Ok a) (Err e) → ⊥
ok_not_err a e h = cc

final_nothing : (q : Query) (v : List Lexeme) (x : Query × List Lexeme) → final q v ≡ Ok x → x.1 ≡ []
unfolding final
final_nothing q [] x e = let pair : ◌≡◌ {A = Query × List Lexeme} (q, []) x = cc in ap (λ (y : Query × List Lexeme). y.1) (sym pair)
final_nothing q (t ∷ v) x e = absurd cc

module _ (m levels : ℕ) (w : List Lexeme) where
  ends : (x : Query × List Lexeme) (r : Result (Query × List Lexeme) Stop) → (r >>= λ y. final y.0 y.1) ≡ Ok x → x.1 ≡ []
  ends x (Ok y) e = final_nothing y.0 y.1 x e
  ends x (Err s) e = absurd cc

  found_at : (q : Query) (r : Result (Query × List Lexeme) Stop) → whole m is_small levels w ≡ r → Fine (IsQuery is_small levels) (IsQuery any_number (suc levels)) w r → value r ≡ Ok q → IsSentence levels w q
  unfolding whole value
  found_at q (Ok x) is h e =
      let nothing : x.1 ≡ [] = ends x (query_at m is_small levels w) is in
      let all : w ≡ h.front = h.parts ∙ ap (λ s. h.front ++ s) nothing ∙ append-nil h.front in
      let q-is : x.0 ≡ q = cc in
      subst (λ s. IsQuery is_small levels w s) q-is (subst (λ s. IsQuery is_small levels s x.0) (sym all) h.inside)
  found_at q (Err s) is h e = absurd cc

  pub found : (q : Query) → sentence m is_small levels w ≡ Ok q → IsSentence levels w q
  found q e = found_at q (whole m is_small levels w) refl (whole_fine m levels w) (sym (sentence_is m is_small levels w) ∙ e)

  pub only : (q : Query) → length w ≤ m → IsSentence levels w q → sentence m is_small levels w ≡ Ok q
  unfolding value
  only q le h = sentence_is m is_small levels w ∙ ap value (whole_whole m is_small levels w q le h)

-- ---- the first refusal

abbrev Each : Cause → Type 0
Each c = Unit {0}

abbrev IsSyntax : Cause → Type 0
IsSyntax Syntax = Unit {0}
IsSyntax TooDeep = ⊥
IsSyntax TooLarge = ⊥

module _ (m levels : ℕ) (d : List Lexeme) (x : Lexeme) (v : List Lexeme) (short : length d < m) where
  -- whatever follows, a reader with no limits refuses at x too
  wrong : whole m is_small levels (d ++ (x ∷ v)) ≡ Err (record { cause = Syntax; left = suc (length v) }) → Begins IsAnySentence (d ++ (x ∷ [])) → ⊥
  wrong e h =
      let w : List Lexeme = d ++ (x ∷ h.0) in
      let n : ℕ = h.2.0 in
      let big : ℕ = m + length w in
      let allowed = query_grow any_number any_number (λ _ _ k. k) n (levels + n) (omega arith) w h.1 (subst (λ s. IsQuery any_number n s h.1) (append_assoc d (x ∷ []) h.0) h.2.1) in
      let read = whole_whole big any_number (levels + n) w h.1 (omega arith) allowed in
      let carried = whole_same IsSyntax (length d) m big short (omega arith) any_number small_any (λ k. absurd k) levels (levels + n) (omega arith) (λ k. absurd k) d v h.0 x (omega arith) in
      let refused = subst (λ r. Carries IsSyntax x v h.0 r (whole big any_number (levels + n) w)) e carried refl tt in
      ok_not_err (h.1, []) (record { cause = Syntax; left = suc (length h.0) }) (sym read ∙ refused)

  -- whatever follows, the same limit is passed
  limited : (c : Cause) → whole m is_small levels (d ++ (x ∷ v)) ≡ Err (record { cause = c; left = suc (length v) }) → Begins (IsSentence levels) (d ++ (x ∷ [])) → ⊥
  limited c e h =
      let w : List Lexeme = d ++ (x ∷ h.0) in
      let big : ℕ = m + length w in
      let read = whole_whole big is_small levels w h.1 (omega arith) (subst (λ s. IsQuery is_small levels s h.1) (append_assoc d (x ∷ []) h.0) h.2) in
      let carried = whole_same Each (length d) m big short (omega arith) is_small (λ _ _ k. k) (λ _ _ _ k. k) levels levels (omega arith) (λ _. refl) d v h.0 x (omega arith) in
      let refused = subst (λ r. Carries Each x v h.0 r (whole big is_small levels w)) e carried refl tt in
      ok_not_err (h.1, []) (record { cause = c; left = suc (length h.0) }) (sym read ∙ refused)

module _ (m levels : ℕ) (w : List Lexeme) (short : length w < m) where
  placed : (c : Cause) (l : ℕ) (front rest : List Lexeme) (x : Lexeme) (v : List Lexeme) → whole m is_small levels w ≡ Err (record { cause = c; left = l }) → w ≡ front ++ rest → l ≡ length rest → rest ≡ x ∷ v
      → (whole m is_small levels (front ++ (x ∷ v)) ≡ Err (record { cause = c; left = suc (length v) })) × (length front < m)
  placed c l front rest x v e parts left is =
      let w-is : w ≡ front ++ (x ∷ v) = parts ∙ ap (λ s. front ++ s) is in
      let l-is : l ≡ suc (length v) = left ∙ ap length is in
      let len : length w ≡ length front + suc (length v) = ap length w-is ∙ length-append front (x ∷ v) in
      (ap (whole m is_small levels) (sym w-is) ∙ e ∙ ap (λ (n : ℕ). Err (record { cause = c; left = n })) l-is, omega (arith, len, short))

  any_of : (u : List Lexeme) → Begins (IsQuery any_number (suc levels)) u → Begins IsAnySentence u
  any_of u h = (h.0, h.1, (suc levels, h.2))

  cause_of : (c : Cause) (l : ℕ) (front rest : List Lexeme) → whole m is_small levels w ≡ Err (record { cause = c; left = l }) → w ≡ front ++ rest → l ≡ length rest → Passes c (IsQuery any_number (suc levels)) front rest → IsCause levels c front rest
  cause_of Syntax l front rest e parts left passes = λ x v is h. let p = placed Syntax l front rest x v e parts left is in wrong m levels front x v p.1 p.0 h
  cause_of TooDeep l front rest e parts left passes =
      let p = placed TooDeep l front rest passes.0 passes.1 e parts left passes.2 in
      (passes.0, passes.1, passes.2, passes.3, any_of (front ++ (passes.0 ∷ [])) passes.4, limited m levels front passes.0 passes.1 p.1 TooDeep p.0)
  cause_of TooLarge l front rest e parts left passes =
      let p = placed TooLarge l front rest passes.0 passes.1 e parts left passes.2 in
      (passes.0, passes.1, passes.2, passes.3, any_of (front ++ (passes.0 ∷ [])) passes.4, limited m levels front passes.0 passes.1 p.1 TooLarge p.0)

  refused_at : (r : Result (Query × List Lexeme) Stop) → whole m is_small levels w ≡ r → Fine (IsQuery is_small levels) (IsQuery any_number (suc levels)) w r → (e : Stop) → value r ≡ Err e → IsRefused levels w e
  unfolding value
  refused_at (Ok x) is h e k = absurd cc
  refused_at (Err s) is h e k =
      let s-is : s ≡ e = cc in
      subst (IsRefused levels w) s-is (record { front = h.front; rest = h.rest; parts = h.parts; left = h.left; begins = h.begins; cause = cause_of s.cause s.left h.front h.rest is h.parts h.left h.passes })

  pub first : (e : Stop) → sentence m is_small levels w ≡ Err e → IsRefused levels w e
  first e h = refused_at (whole m is_small levels w) refl (whole_fine m levels w) e (sym (sentence_is m is_small levels w) ∙ h)
