-- The fields of a record stay when a copy is added behind them.
use Rattle.std.proofs.Common.{◌≡◌, ℕ, ◌+◌, ◌-◌, All, List, [], ◌∷◌, ◌++◌, map, take, drop, length, refl, ap, ap₂, ◌∙◌, arith}
use Rattle.std.proofs.lemmas.List.{drop-append-le, drop_at, length-drop, take-append-le, take_all}
use Rattle.std.proofs.lemmas.List.Elements.{All-tail}
use Rattle.csv_load.specs.Parts.{IsPart, part_of}
use Rattle.csv_load.specs.declared.fields.Part.{Part}
use Rattle.csv_load.specs.declared.fields.Part.TheVariants.{InText, Apart}

kept : (copies more : List ℕ) (part : Part) → IsPart (length copies) part → part_of (copies ++ more) part ≡ part_of copies part
kept copies more (InText field) h = refl
kept copies more (Apart from to) h =
    ap (take (to - from)) (drop-append-le from copies more (omega (arith, h.0, h.1)))
    ∙ take-append-le (to - from) (drop from copies) more (omega (arith, h.0, h.1, length-drop from copies))

-- what is added is the copy
added : (copies field : List ℕ) (from to : ℕ) → from ≡ length copies → to ≡ length copies + length field → part_of (copies ++ field) (Apart from to) ≡ field
added copies field from to e f =
    ap (take (to - from)) (drop_at copies field from (omega (arith, e))) ∙ take_all (to - from) field (omega (arith, e, f))

pub parts_more : (copies field : List ℕ) (from to : ℕ) (parts : List Part) → from ≡ length copies → to ≡ length copies + length field → All (IsPart (length copies)) parts
    → map (part_of (copies ++ field)) (parts ++ Apart from to ∷ []) ≡ map (part_of copies) parts ++ field ∷ []
parts_more copies field from to [] e f all = ap (λ bytes. bytes ∷ []) (added copies field from to e f)
parts_more copies field from to (part ∷ parts) e f all =
    ap₂ (λ (bytes : List ℕ) (rest : List (List ℕ)). bytes ∷ rest) (kept copies field part (all 0 part (omega arith))) (parts_more copies field from to parts e f (All-tail (IsPart (length copies)) part parts all))
