-- Texts parted by commas, one after the other.
use Rattle.std.proofs.Common.{◌≡◌, ℕ, zero, suc, ◌+◌, List, [], ◌∷◌, ◌++◌, take, drop, slice_get, Some, Ok, Err, IsErr, refl, sym, ap, subst, ◌∙◌, arith, append_assoc, append-nil, codes}
use Rattle.std.specs.List.{flat_map}
use Rattle.std.specs.declared.result.Result.{Result}
use Rattle.outer_world.proofs.Writes.{writes_both, writes_cut}
use Rattle.outer_world.specs.Device.{SinkState}
use Rattle.outer_world.specs.Whole.{Writes}
use Rattle.daq_report.specs.Groups.{behind_comma, listed}

abbrev with_comma : List ℕ → List ℕ
with_comma text = codes ", " ++ text

commas_more : (texts : List (List ℕ)) (k : ℕ) (text : List ℕ) → slice_get texts k ≡ Some text →
    flat_map with_comma (take (suc k) texts) ≡ flat_map with_comma (take k texts) ++ with_comma text
commas_more [] k text e = absurd (cc)
commas_more (t ∷ ts) zero text e = append-nil (with_comma t) ∙ ap with_comma (cc)
commas_more (t ∷ ts) (suc k) text e =
    ap (λ (l : List ℕ). with_comma t ++ l) (commas_more ts k text e) ∙ sym (append_assoc (with_comma t) (flat_map with_comma (take k ts)) (with_comma text))

commas_split : (texts : List (List ℕ)) (k : ℕ) → flat_map with_comma texts ≡ flat_map with_comma (take k texts) ++ flat_map with_comma (drop k texts)
commas_split texts zero = refl
commas_split [] (suc k) = refl
commas_split (t ∷ ts) (suc k) =
    ap (λ (l : List ℕ). with_comma t ++ l) (commas_split ts k) ∙ sym (append_assoc (with_comma t) (flat_map with_comma (take k ts)) (flat_map with_comma (drop k ts)))

-- one more text
listed_more : (texts : List (List ℕ)) (k : ℕ) (text : List ℕ) → slice_get texts k ≡ Some text → listed (take (suc k) texts) ≡ listed (take k texts) ++ behind_comma k text
listed_more [] k text e = absurd (cc)
listed_more (t ∷ ts) zero text e = append-nil t ∙ cc
listed_more (t ∷ ts) (suc k) text e =
    ap (λ (l : List ℕ). t ++ l) (commas_more ts k text e) ∙ sym (append_assoc t (flat_map with_comma (take k ts)) (with_comma text))

-- so many texts, and the rest
abbrev listed_rest : List (List ℕ) → ℕ → List ℕ
listed_rest texts zero = listed texts
listed_rest texts (suc k) = flat_map with_comma (drop (suc k) texts)

listed_split : (texts : List (List ℕ)) (k : ℕ) → listed texts ≡ listed (take k texts) ++ listed_rest texts k
listed_split texts zero = refl
listed_split [] (suc k) = refl
listed_split (t ∷ ts) (suc k) =
    ap (λ (l : List ℕ). t ++ l) (commas_split ts k) ∙ sym (append_assoc t (flat_map with_comma (take k ts)) (flat_map with_comma (drop k ts)))

-- the texts so far, and one more
pub listed_after : {A B C E : Type 0} (x : A) (y : B) (z : C) (texts : List (List ℕ)) (k : ℕ) (text : List ℕ) (old mid new : SinkState) → slice_get texts k ≡ Some text →
    Writes {E = E} (Ok x) old mid (listed (take k texts)) → Writes {E = E} (Ok y) mid new (behind_comma k text) → Writes {E = E} (Ok z) old new (listed (take (k + 1) texts))
listed_after {E = E} x y z texts k text old mid new there before more =
    let next : suc k ≡ k + 1 = omega arith in
    let both = writes_both x (Ok y) old mid new _ _ before more in
    subst (λ (j : ℕ). Writes {E = E} (Ok z) old new (listed (take j texts))) next
    (subst (Writes {E = E} (Ok z) old new) (sym (listed_more texts k text there)) (record { done = both.done; part = tt; cause = record { later = both.cause.later; failed = tt } }))

-- the texts so far, and a part of one more
pub listed_cut : {A T E F : Type 0} (x : A) (e : F) (result : Result T E) (texts : List (List ℕ)) (k : ℕ) (text : List ℕ) (old mid new : SinkState) → slice_get texts k ≡ Some text →
    Writes {E = E} (Ok x) old mid (listed (take k texts)) → IsErr result → Writes {T = T} (Err e) mid new (behind_comma k text) → Writes result old new (listed texts)
listed_cut x e result texts k text old mid new there before failed more =
    let rest = listed_rest texts (suc k) in
    let whole = listed_split texts (suc k) ∙ ap (λ (l : List ℕ). l ++ rest) (listed_more texts k text there) ∙ append_assoc (listed (take k texts)) (behind_comma k text) rest in
    subst (Writes result old new) (sym whole) (writes_both x result old mid new _ _ before (writes_cut e result mid new _ rest failed more))
