-- Which bytes of a vector may stop a field, and what that tells of the bytes before the first.
use Rattle.std.proofs.Common.{◌≡◌, ℕ, ◌+◌, ◌-◌, ◌%◌, ◌^◌, ◌<◌, ◌≤◌, ◌||◌, Bool, true, false, not, cond, eqb, All, inl, inr, List, [], ◌∷◌, map, length, take, drop, get_or, replicate, refl, sym, ap, ap₂, subst, ◌∙◌, arith}
use Rattle.std.proofs.lemmas.Bool.{cases_lt, true≢false}
use Rattle.std.proofs.lemmas.List.{get_or-drop, get_or-take, length-drop, length-map, length-take-le}
use Rattle.std.proofs.lemmas.List.Elements.{All-from_get_or}
use Rattle.std.proofs.lemmas.Simd.{length-chunk, mask_l-mod, none_from_empty_mask, run_in_chunk_fails, run_in_chunk_le, trailing_mask_l, zip2_splat}
use Rattle.std.specs.List.{prefix_len}
use lib.Bits.{bit_or}
use lib.Count.{count_trailing_zeros}
use lib.Lanes.{chunk, mask_l, top, zip2}
use Rattle.csv_load.specs.Lines.{JoinsField, may_stop}

-- ---- the mask of a vector

-- a lane of a comparison
abbrev hit : ℕ → ℕ → ℕ
hit a b = cond (eqb a b) 255 0

either : (f g : ℕ → ℕ) (v : List ℕ) → zip2 bit_or (map f v) (map g v) ≡ map (λ x. bit_or (f x) (g x)) v
either f g [] = refl
either f g (x ∷ xs) = ap (λ r. bit_or (f x) (g x) ∷ r) (either f g xs)

one_of : (a b c d : Bool) → top 7 (bit_or (bit_or (bit_or (cond a 255 0) (cond b 255 0)) (cond c 255 0)) (cond d 255 0)) ≡ (a || b || c || d)
one_of false false false false = refl
one_of false false false true = refl
one_of false false true false = refl
one_of false false true true = refl
one_of false true false false = refl
one_of false true false true = refl
one_of false true true false = refl
one_of false true true true = refl
one_of true false false false = refl
one_of true false false true = refl
one_of true false true false = refl
one_of true false true true = refl
one_of true true false false = refl
one_of true true false true = refl
one_of true true true false = refl
one_of true true true true = refl

abbrev lane : ℕ → ℕ
lane x = bit_or (bit_or (bit_or (hit x 44) (hit x 10)) (hit x 34)) (hit x 13)

each_lane : (v : List ℕ) → map (top 7) (map lane v) ≡ map may_stop v
each_lane [] = refl
each_lane (x ∷ xs) = ap₂ (λ (b : Bool) (bs : List Bool). b ∷ bs) (one_of (eqb x 44) (eqb x 10) (eqb x 34) (eqb x 13)) (each_lane xs)

lanes : (v : List ℕ) → length v ≡ 16
    → zip2 bit_or (zip2 bit_or (zip2 bit_or (zip2 hit v (replicate 16 44)) (zip2 hit v (replicate 16 10))) (zip2 hit v (replicate 16 34))) (zip2 hit v (replicate 16 13)) ≡ map lane v
lanes v long =
    let two = ap₂ (zip2 bit_or) (zip2_splat hit v 16 44 long) (zip2_splat hit v 16 10 long) ∙ either _ _ v in
    let three = ap₂ (zip2 bit_or) two (zip2_splat hit v 16 34 long) ∙ either _ _ v in
    ap₂ (zip2 bit_or) three (zip2_splat hit v 16 13 long) ∙ either _ _ v

pub stops_told : (v : List ℕ) → length v ≡ 16
    → mask_l (map (top 7) (zip2 bit_or (zip2 bit_or (zip2 bit_or (zip2 hit v (replicate 16 44)) (zip2 hit v (replicate 16 10))) (zip2 hit v (replicate 16 34))) (zip2 hit v (replicate 16 13)))) % 2 ^ 64 ≡ mask_l (map may_stop v)
stops_told v long =
    ap (λ (ls : List ℕ). mask_l (map (top 7) ls) % 2 ^ 64) (lanes v long) ∙ ap (λ (bs : List Bool). mask_l bs % 2 ^ 64) (each_lane v)
    ∙ mask_l-mod (map may_stop v) 64 (omega (arith, length-map v may_stop, long))

-- ---- bytes that join a field

unstopped : (x : ℕ) → may_stop x ≡ false → JoinsField x
unstopped x h = record {
  no_comma = λ e. true≢false (subst (λ c. may_stop c ≡ false) e h);
  no_break = λ e. true≢false (subst (λ c. may_stop c ≡ false) e h);
  no_return = λ e. true≢false (subst (λ c. may_stop c ≡ false) e h);
  no_quote = λ e. true≢false (subst (λ c. may_stop c ≡ false) e h);
}

-- each byte of a part joins a field
abbrev pub JoinBetween : List ℕ → ℕ → ℕ → Type 0
JoinBetween text from end = (k : ℕ) → from ≤ k → k < end → JoinsField (get_or text k 0)

pub joined : (text : List ℕ) (from end : ℕ) → from ≤ end → end ≤ length text → JoinBetween text from end → All JoinsField (take (end - from) (drop from text))
joined text from end le within joins = All-from_get_or JoinsField _ 0 each
  where
    long : length (take (end - from) (drop from text)) ≡ end - from
    long = length-take-le (end - from) (drop from text) (omega (arith, length-drop from text, le, within))

    each : (k : ℕ) → k < length (take (end - from) (drop from text)) → JoinsField (get_or (take (end - from) (drop from text)) k 0)
    each k lt =
        let short : k < end - from = omega (arith, long, lt) in
        subst JoinsField (sym (get_or-take (end - from) (drop from text) k 0 short ∙ get_or-drop from text k 0)) (joins (from + k) (omega arith) (omega (arith, short, le)))

-- a byte more
pub join_more : (text : List ℕ) (from end : ℕ) → JoinBetween text from end → JoinsField (get_or text end 0) → JoinBetween text from (end + 1)
join_more text from end joins one k ge lt =
    elim (cases_lt k end) [
      | inl below ↦ joins k ge below
      | inr above ↦ let same : end ≡ k = omega (arith, above, lt) in subst (λ j. JoinsField (get_or text j 0)) same one
    ]

-- a vector more, none of whose bytes may stop a field
pub join_vector : (text : List ℕ) (from at : ℕ) → at + 16 ≤ length text → JoinBetween text from at → mask_l (map may_stop (chunk at 16 text)) ≡ 0 → JoinBetween text from (at + 16)
join_vector text from at room joins none k ge lt =
    elim (cases_lt k at) [
      | inl below ↦ joins k ge below
      | inr above ↦ unstopped (get_or text k 0) (none_from_empty_mask may_stop text at 16 0 room none k above lt)
    ]

-- the bytes of a vector before the first that may stop a field
pub join_run : (text : List ℕ) (from at r : ℕ) → at + 16 ≤ length text → JoinBetween text from at → 0 < mask_l (map may_stop (chunk at 16 text))
    → r ≡ count_trailing_zeros 64 (mask_l (map may_stop (chunk at 16 text))) → JoinBetween text from (at + r) × (r ≤ 16)
join_run text from at r room joins some e = (each, run_in_chunk_le may_stop text at 16 r 0 room counted)
  where
    counted : r ≡ prefix_len (λ x. not (may_stop x)) (chunk at 16 text)
    counted = e ∙ trailing_mask_l may_stop 64 (chunk at 16 text) (omega (arith, length-chunk at 16 text room)) some

    each : JoinBetween text from (at + r)
    each k ge lt =
        elim (cases_lt k at) [
          | inl below ↦ joins k ge below
          | inr above ↦ unstopped (get_or text k 0) (run_in_chunk_fails may_stop text at 16 r 0 room counted k above lt)
        ]
