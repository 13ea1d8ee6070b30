-- From tokens to a text.
use Rattle.std.proofs.Common.{◌≡◌, ℕ, zero, suc, ◌-◌, ◌<◌, ◌≤◌, List, [], ◌∷◌, length, get_or, drop, Ok, Err, refl, sym, ap, subst, ◌∙◌, arith}
use Rattle.std.proofs.lemmas.List.{append-nil, length-map, length-append, length-drop, drop_all}
use Rattle.sql_tokens.specs.declared.token.Token.{Token}
use Rattle.sql_tokens.specs.Lexeme.{Lexeme, token, mark_of, views}
use Rattle.sql_tokens.specs.Spelling.{Splits, stops, blank, next}
use Rattle.sql_tokens.proofs.Cutting.{token_long}
use Rattle.sql_tokens.proofs.OneCut.{one_cut}
use Rattle.sql_text.specs.declared.fault.Cause.{Cause}
use Rattle.sql_text.specs.declared.fault.Cause.TheVariants as causes
use Rattle.sql_text.specs.declared.fault.Stop.{Stop}
use Rattle.sql_text.specs.declared.tree.Tree.{Tree}
use Rattle.sql_text.specs.Tree.{Query, query_of}
use Rattle.sql_text.specs.Number.{is_small}
use Rattle.sql_text.specs.Reading.{turns, sentence}
use Rattle.sql_text.specs.Sentence.{IsSentence, IsRefused}
use Rattle.sql_text.specs.Answer.{most_levels, IsText, Breaks, IsFault, first_place, place, fault_of}
use Rattle.sql_text.proofs.Loops.{turns-is}
use Rattle.sql_text.proofs.Sentence.{found, only, first}
use Rattle.sql_text.proofs.OneRefusal.{one_refusal}

-- a token has at least one byte
count : {at : ℕ} {w : List ℕ} {ts : List Lexeme} {r : List ℕ} → Splits at w ts r → length ts ≤ length w
count (stops n) = omega arith
count (blank c h) = let ih = count h in omega (arith, ih)
count (next {front} {w} {m} tok long h) = let ih = count h in omega (arith, ih, token_long front m tok, length-append front w)

pub end_is : (text : List ℕ) (end : ℕ) → end ≤ length text → length text - length (drop end text) ≡ end
end_is text end le = omega (arith, length-drop end text)

module _ (text : List ℕ) (ts : List Lexeme) (r : List ℕ) (short : length text ≤ 4096) (cut : Splits 0 text ts r) where
  few : length ts < turns
  few = let n = count cut in rw turns-is (omega (arith, n))

  pub is_text : (q : Query) → r ≡ [] → sentence turns is_small most_levels ts ≡ Ok q → IsText text q
  is_text q nil e = record { tokens = ts; short = short; cut = subst (λ s. Splits 0 text ts s) nil cut; sentence = found turns most_levels ts q e }

  read_text : (q : Query) → IsText text q → (sentence turns is_small most_levels ts ≡ Ok q) × (r ≡ [])
  read_text q h =
      let a = one_cut 0 text ts h.tokens r [] cut h.cut in
      let le : length ts ≤ turns = let k = few in omega arith in
      (only turns most_levels ts q le (subst (λ s. IsSentence most_levels s q) (sym a.tokens) h.sentence), a.rest)

  pub breaks : (e : Stop) → sentence turns is_small most_levels ts ≡ Err e → Breaks text e.cause (place (length text - length r) ts e.left)
  breaks e h = record {
    tokens = ts;
    rest = r;
    stop = e;
    short = short;
    cut = cut;
    refused = first turns most_levels ts few e h;
    none = λ nil q s. let le : length ts ≤ turns = let k = few in omega arith in let k : Ok q ≡ Err e = sym (only turns most_levels ts q le s) ∙ h in cc;
    has_cause = refl;
    has_place = refl;
  }

  pub breaks_behind : (q : Query) → sentence turns is_small most_levels ts ≡ Ok q → (r ≡ [] → ⊥) → Breaks text causes.Syntax (length text - length r)
  breaks_behind q h more = record {
    tokens = ts;
    rest = r;
    stop = record { cause = causes.Syntax; left = 0 };
    short = short;
    cut = cut;
    refused = record {
      front = ts;
      rest = [];
      parts = sym (append-nil ts);
      left = refl;
      begins = ([], q, subst (λ s. IsSentence most_levels s q) (sym (append-nil ts)) (found turns most_levels ts q h));
      cause = λ x v e b. absurd cc;
    };
    none = λ nil. absurd (more nil);
    has_cause = refl;
    has_place = rw (drop_all (length ts - 0) ts (omega arith)) refl;
  }

  -- what a text's query asks of the answer
  pub answered : (t : Tree) (q : Query) → sentence turns is_small most_levels ts ≡ Ok (query_of t) → IsText text q → query_of t ≡ q
  answered t q e h =
      let k : Ok (query_of t) ≡ Ok q = sym e ∙ (read_text q h).0 in
      cc

  pub no_fault : (e : Stop) (q : Query) → sentence turns is_small most_levels ts ≡ Err e → IsText text q → ⊥
  no_fault e q k h = let i : Ok q ≡ Err e = sym (read_text q h).0 ∙ k in cc

  pub no_rest : (q : Query) → IsText text q → r ≡ []
  no_rest q h = (read_text q h).1

-- ---- one answer

pub one_query : (text : List ℕ) (p q : Query) → IsText text p → IsText text q → p ≡ q
one_query text p q h k =
    let a = read_text text h.tokens [] h.short h.cut p h in
    let b = read_text text h.tokens [] h.short h.cut q k in
    let e : Ok p ≡ Ok q = sym a.0 ∙ b.0 in
    cc

pub one_fault : (text : List ℕ) (c d : Cause) (i j : ℕ) → Breaks text c i → Breaks text d j → (c ≡ d) × (i ≡ j)
one_fault text c d i j h k =
    let a = one_cut 0 text h.tokens k.tokens h.rest k.rest h.cut k.cut in
    let e : h.stop ≡ k.stop = one_refusal most_levels k.tokens h.stop k.stop (subst (λ s. IsRefused most_levels s h.stop) a.tokens h.refused) k.refused in
    let causes-is : h.stop.cause ≡ k.stop.cause = ap (λ (s : Stop). s.cause) e in
    let lefts : h.stop.left ≡ k.stop.left = ap (λ (s : Stop). s.left) e in (
      h.has_cause ∙ causes-is ∙ sym k.has_cause,
      h.has_place ∙ ap (λ s. place (length text - length s) h.tokens h.stop.left) a.rest ∙ ap (λ s. place (length text - length k.rest) s h.stop.left) a.tokens ∙ ap (place (length text - length k.rest) k.tokens) lefts ∙ sym k.has_place,
    )

pub not_both : (text : List ℕ) (c : Cause) (i : ℕ) (q : Query) → Breaks text c i → IsText text q → ⊥
not_both text c i q h k =
    let a = one_cut 0 text h.tokens k.tokens h.rest [] h.cut k.cut in
    h.none a.rest q (subst (λ s. IsSentence most_levels s q) (sym a.tokens) k.sentence)

pub faulted : (text : List ℕ) (c : Cause) (i : ℕ) → Breaks text c i → IsFault text (fault_of c i)
faulted text causes.Syntax i h = h
faulted text causes.TooDeep i h = h
faulted text causes.TooLarge i h = h

pub not_done : (text : List ℕ) (end : ℕ) → end < length text → drop end text ≡ [] → ⊥
not_done text end lt nil = let l : length (drop end text) ≡ 0 = ap length nil in omega (arith, l, length-drop end text)

place_at : (ts : List Token) (i end : ℕ) (d : Token) → i < length ts → (get_or ts i d).at ≡ first_place end (drop i (views ts))
place_at [] i end d lt = absurd (omega arith)
place_at (s ∷ ts) zero end d lt = refl
place_at (s ∷ ts) (suc i) end d lt = place_at ts i end d (omega arith)

views-length : (ts : List Token) → length (views ts) ≡ length ts
views-length ts = length-map ts (λ (t : Token). token t.at (mark_of t.kind))

pub place_of : (ts : List Token) (i left end : ℕ) (d : Token) → i ≡ length ts - left → i < length ts → (get_or ts i d).at ≡ place end (views ts) left
place_of ts i left end d e lt = place_at ts i end d lt ∙ ap (λ n. first_place end (drop n (views ts))) (e ∙ ap (λ n. n - left) (sym (views-length ts)))
