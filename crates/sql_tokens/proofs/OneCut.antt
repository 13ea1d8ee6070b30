-- A text has one list of tokens.
use Rattle.std.proofs.Common.{◌≡◌, ℕ, ◌+◌, ◌≤◌, List, [], ◌∷◌, ◌++◌, length, Option, Some, refl, sym, ap, subst, ◌∙◌, arith}
use Rattle.std.proofs.lemmas.List.{length-append, append_cancel_left}
use Rattle.sql_tokens.specs.declared.byte.Class.TheVariants.{Blank, Letter, Digit, Quote, Apostrophe, Other}
use Rattle.sql_tokens.specs.Lexeme.{Mark, Lexeme, token}
use Rattle.sql_tokens.specs.Byte.{class_of}
use Rattle.sql_tokens.specs.Spelling.{IsToken, word, quoted, digits, point, string, one, two, IsLongest, BeginsNone, Splits, stops, blank, next}
use Rattle.sql_tokens.specs.Reads.{token_at}
use Rattle.sql_tokens.proofs.Marks.{reach, takes}

-- no token begins with a blank
starts : (u v w : List ℕ) (m : Mark) (b : ℕ) → IsToken u m → u ++ v ≡ b ∷ w → class_of b ≡ Blank → ⊥
unfolding class_of
starts u v w m b (word {b = d} c each) e k = let i : d ≡ b = cc in let f : class_of d ≡ Blank = ap class_of i ∙ k in let g : Letter ≡ Blank = sym c ∙ f in cc
starts u v w m b (digits {b = d} c each) e k = let i : d ≡ b = cc in let f : class_of d ≡ Blank = ap class_of i ∙ k in let g : Digit ≡ Blank = sym c ∙ f in cc
starts u v w m b (point {b = d} x y z c each each_f) e k = let i : d ≡ b = cc in let f : class_of d ≡ Blank = ap class_of i ∙ k in let g : Digit ≡ Blank = sym c ∙ f in cc
starts u v w m b (one {b = d} c h) e k = let i : d ≡ b = cc in let f : class_of d ≡ Blank = ap class_of i ∙ k in let g : Other ≡ Blank = sym c ∙ f in cc
starts u v w m b (two {b = d} c h) e k = let i : d ≡ b = cc in let f : class_of d ≡ Blank = ap class_of i ∙ k in let g : Other ≡ Blank = sym c ∙ f in cc
starts u v w m b (quoted each) e k = let i : 34 ≡ b = cc in let f : Quote ≡ Blank = ap class_of i ∙ k in cc
starts u v w m b (string s) e k = let i : 39 ≡ b = cc in let f : Apostrophe ≡ Blank = ap class_of i ∙ k in cc

same_front : (u v s t : List ℕ) → u ++ v ≡ s ++ t → length u ≡ length s → u ≡ s
same_front [] v [] t e l = refl
same_front [] v (b ∷ s) t e l = absurd (omega arith)
same_front (a ∷ u) v [] t e l = absurd (omega arith)
same_front (a ∷ u) v (b ∷ s) t e l = let i : a ≡ b = cc in let k : u ++ v ≡ s ++ t = cc in let j : u ≡ s = same_front u v s t k (omega arith) in cc

-- the longest token that stands there is read
exact : (u v : List ℕ) (m : Mark) → IsToken u m → IsLongest u v → token_at (u ++ v) ≡ Some (m, v)
exact u v m p long =
    let a = reach u v m p in
    let t = takes (u ++ v) a.0 a.1 in
    let short : length t.0 ≤ length u = long t.0 a.0.1 a.0.0 t.1 t.2 in
    let l : length u + length v ≡ length t.0 + length a.0.1 = sym (length-append u v) ∙ ap length t.1 ∙ length-append t.0 a.0.1 in
    let fronts : u ≡ t.0 = same_front u v t.0 a.0.1 t.1 (omega (arith, l, short, a.2)) in
    let rests : v ≡ a.0.1 = append_cancel_left t.0 v a.0.1 (subst (λ r. r ++ v ≡ t.0 ++ a.0.1) fronts t.1) in
    let mark : a.0.0 ≡ m = a.3 (sym rests) in
    a.1 ∙ ap (λ (n : Mark). Some (n, a.0.1)) mark ∙ ap (λ (r : List ℕ). Some (m, r)) (sym rests)

-- two longest tokens at one place are one
record Both (u v s t : List ℕ) (m n : Mark) : Type 0 where
  fronts : u ≡ s
  rests : v ≡ t
  marks : m ≡ n

same_token : (u v s t : List ℕ) (m n : Mark) → u ++ v ≡ s ++ t → IsToken u m → IsLongest u v → IsToken s n → IsLongest s t → Both u v s t m n
same_token u v s t m n e p long q long' =
    let l : length u ≡ length s = let a = long s t n e q in let b = long' u v m (sym e) p in omega (arith, a, b) in
    let fronts : u ≡ s = same_front u v s t e l in
    let rests : v ≡ t = append_cancel_left s v t (subst (λ r. r ++ v ≡ s ++ t) fronts e) in
    let one : ◌≡◌ {A = Option (Mark × List ℕ)} (Some (m, v)) (Some (n, t)) = sym (exact u v m p long) ∙ ap token_at e ∙ exact s t n q long' in
    let pair : ◌≡◌ {A = Mark × List ℕ} (m, v) (n, t) = cc in
    record { fronts = fronts; rests = rests; marks = ap (λ (x : Mark × List ℕ). x.0) pair }

pub record Alike (ts us : List Lexeme) (r s : List ℕ) : Type 0 where
  pub tokens : ts ≡ us
  pub rest : r ≡ s

Further : ℕ → List ℕ → List Lexeme → List ℕ → Type 0
Further at v ts r = (at' : ℕ) (w : List ℕ) (us : List Lexeme) (s : List ℕ) → at ≡ at' → v ≡ w → Splits at' w us s → Alike ts us r s

in_stops : {at' : ℕ} {w s : List ℕ} {us : List Lexeme} → Splits at' w us s → (x : List ℕ) → BeginsNone x → x ≡ w → Alike [] us x s
in_stops (stops none') x none e = record { tokens = refl; rest = e }
in_stops (blank {b} {w} c h) x none e = absurd (none.1 b w e c)
in_stops (next {front} {w} {m} tok long h) x none e = absurd (none.0 front w m e tok)

in_blank : {at' : ℕ} {w s : List ℕ} {us : List Lexeme} → Splits at' w us s → (at b : ℕ) (x r : List ℕ) (ts : List Lexeme) → class_of b ≡ Blank → Further (at + 1) x ts r → at ≡ at' → b ∷ x ≡ w → Alike ts us r s
unfolding Further
in_blank (stops none') at b x r ts c ih ea e = absurd (none'.1 b x (sym e) c)
in_blank (blank {at = at'} {b = b'} {w} {rest} {ts = us} c' h) at b x r ts c ih ea e = let i : x ≡ w = cc in ih (at' + 1) w us rest (ap (λ n. n + 1) ea) i h
in_blank (next {front} {w} {m} tok long h) at b x r ts c ih ea e = absurd (starts front w x m b tok (sym e) c)

in_next : {at' : ℕ} {w s : List ℕ} {us : List Lexeme} → Splits at' w us s → (at : ℕ) (front x r : List ℕ) (m : Mark) (ts : List Lexeme) → IsToken front m → IsLongest front x → Further (at + length front) x ts r → at ≡ at' → front ++ x ≡ w
    → Alike (token at m ∷ ts) us r s
unfolding Further
in_next (stops none') at front x r m ts tok long ih ea e = absurd (none'.0 front x m (sym e) tok)
in_next (blank {b} {w} c h) at front x r m ts tok long ih ea e = absurd (starts front x w m b tok e c)
in_next (next {at = at'} {front = front'} {w} {rest} {m = n} {ts = us} tok' long' h) at front x r m ts tok long ih ea e =
    let b = same_token front x front' w m n e tok long tok' long' in
    let k = ih (at' + length front') w us rest (ap (λ i. i + length front) ea ∙ ap (λ f. at' + length f) b.fronts) b.rests h in
    record {
      tokens = ap (λ i. token i m ∷ ts) ea ∙ ap (λ j. token at' j ∷ ts) b.marks ∙ ap (λ t. token at' n ∷ t) k.tokens;
      rest = k.rest;
    }

further : {at : ℕ} {v : List ℕ} {ts : List Lexeme} {r : List ℕ} → Splits at v ts r → Further at v ts r
unfolding Further
further (stops {at} {w = x} none) at' w us s ea e k = in_stops k x none e
further (blank {at} {b} {w = x} {rest} {ts} c h) at' w us s ea e k = in_blank k at b x rest ts c (further h) ea e
further (next {at} {front} {w = x} {rest} {m} {ts} tok long h) at' w us s ea e k = in_next k at front x rest m ts tok long (further h) ea e

pub one_cut : (at : ℕ) (w : List ℕ) (ts us : List Lexeme) (r s : List ℕ) → Splits at w ts r → Splits at w us s → Alike ts us r s
unfolding Further
one_cut at w ts us r s h k = further h at w us s refl refl k
