-- Texts of a list, one after the other, numbered in order.
use Rattle.std.proofs.Common.{◌≡◌, ℕ, zero, suc, ◌+◌, ◌<◌, ◌≤◌, List, [], ◌∷◌, ◌++◌, get_or, length, map, take, drop, slice_get, Some, Ok, Err, IsErr, refl, sym, ap, subst, ◌∙◌, arith, append_assoc, append-nil}
use Rattle.std.proofs.lemmas.List.{take_all}
use Rattle.std.proofs.lemmas.Option.{slice_get-get_or, slice_get-map}
use Rattle.std.specs.Prelude.{option_map}
use Rattle.std.specs.declared.result.Result.{Result}
use Rattle.outer_world.proofs.Writes.{writes_both, writes_cut}
use Rattle.outer_world.specs.Device.{SinkState}
use Rattle.outer_world.specs.Whole.{Writes}
use Rattle.daq_cli.specs.SessionReport.{numbered}

-- ---- elements

pub there_below : {A : Type 0} (xs : List A) (place : ℕ) → place < length xs → (x : A) × (slice_get xs place ≡ Some x)
there_below [] place h = absurd (omega (arith, h))
there_below (x ∷ xs) zero h = (x, refl)
there_below (x ∷ xs) (suc place) h = there_below xs place (omega (arith, h))

-- the text of what is read there
pub text_there : {A : Type 0} (f : A → List ℕ) (xs : List A) (place : ℕ) (x : A) → place < length xs → x ≡ get_or xs place x → slice_get (map f xs) place ≡ Some (f x)
text_there f xs place x h is = slice_get-map f xs place ∙ ap (option_map f) (slice_get-get_or xs place x h ∙ ap Some (sym is))

-- ---- texts

-- the same texts
pub numbered_same : {A : Type 0} (text other : ℕ → A → List ℕ) (xs : List A) → ((place : ℕ) (x : A) → slice_get xs place ≡ Some x → (number : ℕ) → text number x ≡ other number x) → (number : ℕ) →
    numbered text number xs ≡ numbered other number xs
numbered_same text other [] same number = refl
numbered_same text other (x ∷ xs) same number =
    ap (λ l. l ++ numbered text (number + 1) xs) (same 0 x refl number)
    ∙ ap (λ l. other number x ++ l) (numbered_same text other xs (λ place y there. same (suc place) y there) (number + 1))

module _ {A : Type 0} (text : ℕ → A → List ℕ) where
  -- one more
  one_more : (n : ℕ) (xs : List A) (place : ℕ) (x : A) → slice_get xs place ≡ Some x → numbered text n (take (suc place) xs) ≡ numbered text n (take place xs) ++ text (place + n) x
  one_more n [] place x e = absurd (cc)
  one_more n (y ∷ ys) zero x e =
      let same : y ≡ x = cc in
      let first : n ≡ 0 + n = omega arith in
      append-nil (text n y) ∙ ap (λ (k : ℕ). text k y) first ∙ ap (text (0 + n)) same
  one_more n (y ∷ ys) (suc place) x e =
      let later : place + (n + 1) ≡ suc place + n = omega arith in
      ap (λ l. text n y ++ l) (one_more (n + 1) ys place x e ∙ ap (λ (k : ℕ). numbered text (n + 1) (take place ys) ++ text k x) later)
      ∙ sym (append_assoc (text n y) (numbered text (n + 1) (take place ys)) (text (suc place + n) x))

  -- so many, and the rest
  parted : (n : ℕ) (xs : List A) (place : ℕ) → numbered text n xs ≡ numbered text n (take place xs) ++ numbered text (place + n) (drop place xs)
  parted n xs zero = let first : n ≡ 0 + n = omega arith in ap (λ (k : ℕ). numbered text k xs) first
  parted n [] (suc place) = refl
  parted n (y ∷ ys) (suc place) =
      let later : place + (n + 1) ≡ suc place + n = omega arith in
      ap (λ l. text n y ++ l) (parted (n + 1) ys place ∙ ap (λ (k : ℕ). numbered text (n + 1) (take place ys) ++ numbered text k (drop place ys)) later)
      ∙ sym (append_assoc (text n y) (numbered text (n + 1) (take place ys)) (numbered text (suc place + n) (drop place ys)))

  -- the texts so far, and one more
  pub text_after : {B C D E : Type 0} (u : B) (v : C) (w : D) (xs : List A) (place : ℕ) (x : A) (a b c : SinkState) → slice_get xs place ≡ Some x → Writes {E = E} (Ok u) a b (numbered text 1 (take place xs)) →
      Writes {E = E} (Ok v) b c (text (place + 1) x) → Writes {E = E} (Ok w) a c (numbered text 1 (take (place + 1) xs))
  text_after {E = E} u v w xs place x a b c there before line =
      let next : suc place ≡ place + 1 = omega arith in
      let both = writes_both u (Ok v) a b c _ _ before line in
      subst (λ (k : ℕ). Writes {E = E} (Ok w) a c (numbered text 1 (take k xs))) next
      (subst (Writes {E = E} (Ok w) a c) (sym (one_more 1 xs place x there)) (record { done = both.done; part = tt; cause = record { later = both.cause.later; failed = tt } }))

  -- the texts so far, and a part of one more
  pub text_cut : {B T E F : Type 0} (u : B) (e : F) (result : Result T E) (xs : List A) (place : ℕ) (x : A) (a b c : SinkState) → slice_get xs place ≡ Some x →
      Writes {E = E} (Ok u) a b (numbered text 1 (take place xs)) → IsErr result → Writes {T = T} (Err e) b c (text (place + 1) x) → Writes result a c (numbered text 1 xs)
  text_cut u e result xs place x a b c there before failed line =
      let so_far = numbered text 1 (take place xs) in
      let rest = numbered text (suc place + 1) (drop (suc place) xs) in
      let all = parted 1 xs (suc place) ∙ ap (λ l. l ++ rest) (one_more 1 xs place x there) ∙ append_assoc so_far (text (place + 1) x) rest in
      subst (Writes result a c) (sym all) (writes_both u result a b c so_far _ before (writes_cut e result b c _ rest failed line))

  -- all of them
  pub all_texts : {T E : Type 0} (result : Result T E) (xs : List A) (place : ℕ) (a b : SinkState) → length xs ≤ place → Writes result a b (numbered text 1 (take place xs)) → Writes result a b (numbered text 1 xs)
  all_texts result xs place a b end = subst (λ l. Writes result a b (numbered text 1 l)) (take_all place xs end)
