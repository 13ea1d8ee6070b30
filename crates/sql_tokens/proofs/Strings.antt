-- A loop over the bytes of a string.
use Rattle.std.proofs.Common.{◌≡◌, ℕ, ◌+◌, ◌-◌, ◌<◌, ◌≤◌, List, [], ◌∷◌, ◌++◌, length, get_or, take, drop, true, false, eqb, Option, Some, None, refl, sym, ap, ◌∙◌, append_assoc, add-one, arith, drop-cons}
use Rattle.std.specs.Prelude.{IfSome}
use Rattle.std.proofs.lemmas.List.{append-nil, drop_all, take_all, length-drop, take-append-le, length-append}
use Rattle.sql_tokens.specs.Reads.{string_from, grows, or_else}

-- what was read before, and what is still read
abbrev pub prepend : List ℕ → Option (List ℕ × List ℕ) → Option (List ℕ × List ℕ)
prepend front None = None
prepend front (Some x) = Some (front ++ x.0, x.1)

-- the last end that was met
abbrev pub kept : List ℕ → List ℕ → Option (ℕ × ℕ) → Option (List ℕ × List ℕ)
kept out text None = None
kept out text (Some x) = Some (take x.0 out, drop x.1 text)

grows-prepend : (front : List ℕ) (b : ℕ) (o : Option (List ℕ × List ℕ)) → prepend front (grows b o) ≡ prepend (front ++ (b ∷ [])) o
grows-prepend front b None = refl
grows-prepend front b (Some x) = ap (λ (s : List ℕ). Some (s, x.1)) (sym (append_assoc front (b ∷ []) x.0))

at_place : (text : List ℕ) (i : ℕ) → i < length text → drop i text ≡ get_or text i 0 ∷ drop (i + 1) text
at_place text i lt = rw (add-one, drop-cons text i 0 lt)

kept_push : (out text : List ℕ) (b : ℕ) (last : Option (ℕ × ℕ)) → IfSome last (λ x. (x.0 ≤ length out) × (x.1 ≤ length text)) → kept (out ++ (b ∷ [])) text last ≡ kept out text last
kept_push out text b None h = refl
kept_push out text b (Some x) h = ap (λ (s : List ℕ). Some (s, drop x.1 text)) (take-append-le x.0 out (b ∷ []) h.0)

pub within_push : (out text : List ℕ) (b : ℕ) (last : Option (ℕ × ℕ)) → IfSome last (λ x. (x.0 ≤ length out) × (x.1 ≤ length text)) → IfSome last (λ x. (x.0 ≤ length (out ++ (b ∷ []))) × (x.1 ≤ length text))
within_push out text b None h = tt
within_push out text b (Some x) h = (omega (arith, h.0, length-append out (b ∷ [])), h.1)

ends_here : (out : List ℕ) (c : ℕ) (w : List ℕ) (o last : Option (List ℕ × List ℕ)) → or_else (prepend out (or_else (grows 39 o) (Some ([], c ∷ w)))) last ≡ or_else (prepend (out ++ (39 ∷ [])) o) (Some (out, c ∷ w))
ends_here out c w None last = ap (λ (s : List ℕ). Some (s, c ∷ w)) (append-nil out)
ends_here out c w (Some x) last = ap (λ (s : List ℕ). Some (s, x.1)) (sym (append_assoc out (39 ∷ []) x.0))

module _ (text out : List ℕ) (i : ℕ) (last : Option (ℕ × ℕ)) (total : Option (List ℕ × List ℕ)) (lt : i < length text) (within : IfSome last (λ x. (x.0 ≤ length out) × (x.1 ≤ length text))) where
  pub plain : eqb (get_or text i 0) 39 ≡ false → or_else (prepend out (string_from false (drop i text))) (kept out text last) ≡ total
      → or_else (prepend (out ++ (get_or text i 0 ∷ [])) (string_from false (drop (i + 1) text))) (kept (out ++ (get_or text i 0 ∷ [])) text last) ≡ total
  unfolding string_from
  plain differs so_far = rw (kept_push out text (get_or text i 0) last within, ← grows-prepend out (get_or text i 0) (string_from false (drop (i + 1) text))) (sym (rw (at_place text i lt, differs) refl) ∙ so_far)

  pub first : eqb (get_or text i 0) 39 ≡ true → or_else (prepend out (string_from false (drop i text))) (kept out text last) ≡ total → or_else (prepend out (string_from true (drop (i + 1) text))) (kept out text last) ≡ total
  unfolding string_from
  first same so_far = sym (rw (at_place text i lt, same) refl) ∙ so_far

  pub second : eqb (get_or text i 0) 39 ≡ true → or_else (prepend out (string_from true (drop i text))) (kept out text last) ≡ total
      → or_else (prepend (out ++ (39 ∷ [])) (string_from false (drop (i + 1) text))) (kept (out ++ (39 ∷ [])) text (Some (length out, i))) ≡ total
  unfolding string_from
  second same so_far =
      let here : take (length out) (out ++ (39 ∷ [])) ≡ out = take-append-le (length out) out (39 ∷ []) (omega arith) ∙ take_all (length out) out (omega arith) in
      rw here (ap (λ (s : List ℕ). or_else (prepend (out ++ (39 ∷ [])) (string_from false (drop (i + 1) text))) (Some (out, s))) (at_place text i lt)
      ∙ sym (ends_here out (get_or text i 0) (drop (i + 1) text) (string_from false (drop (i + 1) text)) (kept out text last)) ∙ sym (rw (at_place text i lt, same) refl) ∙ so_far)

  pub over : eqb (get_or text i 0) 39 ≡ false → or_else (prepend out (string_from true (drop i text))) (kept out text last) ≡ total → total ≡ Some (out, drop i text)
  unfolding string_from
  over differs so_far = sym so_far ∙ rw (at_place text i lt, differs) (ap (λ (s : List ℕ). Some (s, get_or text i 0 ∷ drop (i + 1) text)) (append-nil out))

pub over_at_end : (text out : List ℕ) (i : ℕ) (last : Option (ℕ × ℕ)) (total : Option (List ℕ × List ℕ)) → length text ≤ i → or_else (prepend out (string_from true (drop i text))) (kept out text last) ≡ total → total ≡ Some (out, [])
unfolding string_from
over_at_end text out i last total le so_far = sym so_far ∙ rw (drop_all i text le) (ap (λ (s : List ℕ). Some (s, [])) (append-nil out))

pub endless : (text out : List ℕ) (i : ℕ) (last : Option (ℕ × ℕ)) (total : Option (List ℕ × List ℕ)) → length text ≤ i → or_else (prepend out (string_from false (drop i text))) (kept out text last) ≡ total → total ≡ kept out text last
unfolding string_from
endless text out i last total le so_far = sym so_far ∙ rw (drop_all i text le) refl

pub rest_is : (text : List ℕ) (i : ℕ) → take (length text - i) (drop i text) ≡ drop i text
rest_is text i = take_all (length text - i) (drop i text) (omega (arith, length-drop i text))
