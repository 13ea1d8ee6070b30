-- Numbers without the digit that tells null, block by block.
use Rattle.std.proofs.Common.{◌≡◌, ℕ, zero, suc, ◌+◌, ◌-◌, ◌*◌, ◌^◌, ◌<◌, ◌≤◌, min, Bool, true, false, List, [], ◌∷◌, All, length, map, replicate, take, drop, get_or, cond, Some, refl, ap, sym, ◌∙◌, arith}
use Rattle.std.specs.List.{fold}
use Rattle.std.proofs.lemmas.Bool.Decides.{nat_tests}
use Rattle.std.proofs.lemmas.Grind.{same_number_lists}
use Rattle.std.proofs.lemmas.List.{get_or-map, get_or-replicate, length-map, length-replicate, length-take-le, drop-replicate}
use Rattle.std.specs.List.{take-map, drop-map}
use Rattle.std.proofs.lemmas.List.Elements.{All-take}
use Rattle.daq_table.specs.declared.head.Ends.{Ends}
use Rattle.daq_table.specs.Tables.{planes as planes_of, spread}
use Rattle.query_model.specs.Knowledge.{IsLegal, longer, prefix_of}
use Rattle.known_column.specs.Columns.{block_rows, number_of}
use Rattle.known_column.specs.Marks.{block_after, prefixes_after}
use Rattle.known_column.proofs.CodeDigits.{least_plain, least_nullable}
use Rattle.known_column.proofs.Growing.{length-longer}
use Rattle.known_column.proofs.MarkSteps.{by_numbers, length-after}
use Rattle.known_column.proofs.RowDigits.{longer_at, row_after}
use Rattle.known_column.proofs.Steps.{legal_by}
use Rattle.known_column.proofs.BlockSteps.{block_of_planes, digits_behind, digits_small}

-- the number of a row out of its prefix
without_first : (b : Bool) (p d n f t : ℕ) → p ≡ cond b 1 0 * n + d → d < n → f ≡ n → legal_by true 0 f t p ≡ true → p - f ≡ d
without_first true p d n f t e small is legal = omega arith
without_first false p d n f t e small is legal = grind (arith, nat_tests)

-- ---- nullable columns of which a plane is read

without_rows : (ends : Ends) (r rows : ℕ) (v : List Bool) (ps : List (List Bool)) → ends.nullable ≡ true → suc r ≤ planes_of ends → length ps ≡ r → length v ≡ rows → All (λ plane. length plane ≡ rows) ps →
    All (IsLegal ends (suc r)) (prefixes_after rows (v ∷ ps)) → map (number_of ends (suc r)) (prefixes_after rows (v ∷ ps)) ≡ prefixes_after rows ps
without_rows ends r rows v ps nullable h count same each legal =
    let zeros : List ℕ = replicate rows 0 in
    let blank : length zeros ≡ rows = length-replicate rows 0 in
    let long : length (longer zeros v) ≡ rows = length-longer zeros v (same ∙ sym blank) ∙ blank in
    let xs = fold longer (longer zeros v) ps in
    let ys = fold longer zeros ps in
    let f = prefix_of ends (suc r) (Some 0) in
    let t = prefix_of ends (suc r) (Some (spread ends)) in
    let each_x : All (λ plane. length plane ≡ length (longer zeros v)) ps = λ k d below. each k d below ∙ sym long in
    let each_y : All (λ plane. length plane ≡ length zeros) ps = λ k d below. each k d below ∙ sym blank in
    let long_x : length xs ≡ rows = length-after ps (longer zeros v) each_x ∙ long in
    let long_y : length ys ≡ rows = length-after ps zeros each_y ∙ blank in
    let more : r + 1 ≡ suc r = omega arith in
    let least : f ≡ 2 ^ length ps = sym (ap (λ k. prefix_of ends k (Some 0)) more) ∙ least_nullable ends r nullable (omega arith) ∙ ap (λ k. 2 ^ k) (sym count) in
    same_number_lists (map (number_of ends (suc r)) xs) ys (length-map xs (number_of ends (suc r)) ∙ long_x ∙ sym long_y) (λ k below.
    let in_x : k < length xs = omega (arith, below, length-map xs (number_of ends (suc r))) in
    let p = get_or xs k 0 in
    let bit = get_or v k false in
    let zero_there : get_or zeros k 0 ≡ 0 = get_or-replicate rows k 0 0 (omega (arith, in_x, long_x)) in
    let start : get_or (longer zeros v) k 0 ≡ cond bit 1 0 = longer_at zeros v k (omega (arith, in_x, long_x, blank)) (same ∙ sym blank) ∙ omega (arith, zero_there) in
    let value : p ≡ fold (λ n plane. 2 * n + cond (get_or plane k false) 1 0) (cond bit 1 0) ps =
    row_after ps (longer zeros v) k (omega (arith, in_x, long_x, long)) each_x ∙ ap (λ s. fold (λ n plane. 2 * n + cond (get_or plane k false) 1 0) s ps) start in
    let number : get_or ys k 0 ≡ fold (λ n plane. 2 * n + cond (get_or plane k false) 1 0) 0 ps =
    row_after ps zeros k (omega (arith, in_x, long_x, blank)) each_y ∙ ap (λ s. fold (λ n plane. 2 * n + cond (get_or plane k false) 1 0) s ps) zero_there in
    let is_legal_there : legal_by true 0 f t p ≡ true = ap (λ b. legal_by b 0 f t p) (sym nullable) ∙ sym (by_numbers ends (suc r) p) ∙ legal k 0 in_x in
    get_or-map (number_of ends (suc r)) xs k 0 0 in_x
    ∙ without_first bit p (fold (λ n plane. 2 * n + cond (get_or plane k false) 1 0) 0 ps) (2 ^ length ps) f t (value ∙ digits_behind k ps (cond bit 1 0)) (digits_small k ps) least is_legal_there
    ∙ sym number)

-- ---- columns of each kind

map_kept : (f : ℕ → ℕ) → ((p : ℕ) → f p ≡ p) → (ps : List ℕ) → map f ps ≡ ps
map_kept f each [] = refl
map_kept f each (p ∷ ps) = ap (λ x. x ∷ map f ps) (each p) ∙ ap (λ l. p ∷ l) (map_kept f each ps)

zeros_kept : (f : ℕ → ℕ) → f 0 ≡ 0 → (n : ℕ) → map f (replicate n 0) ≡ replicate n 0
zeros_kept f e zero = refl
zeros_kept f e (suc n) = ap (λ x. x ∷ map f (replicate n 0)) e ∙ ap (λ l. 0 ∷ l) (zeros_kept f e n)

-- the numbers of all rows are what the planes give but for the one that tells null
pub numbers_of_planes : (nullable : Bool) (ends : Ends) (read rows from : ℕ) (planes : List (List Bool)) → ends.nullable ≡ nullable → from ≡ min (cond nullable 1 0) read → read ≤ planes_of ends → read ≤ length planes →
    All (λ plane. length plane ≡ rows) planes → All (IsLegal ends read) (prefixes_after rows (take read planes)) →
    map (number_of ends read) (prefixes_after rows (take read planes)) ≡ prefixes_after rows (take (read - from) (drop from planes))
numbers_of_planes false ends read rows from planes plain is h room each legal =
    let none : from ≡ 0 = omega arith in
    let whole : take read planes ≡ take (read - from) (drop from planes) = sym (ap (λ n. take (read - n) (drop n planes)) none ∙ ap (λ n. take n planes) (omega arith)) in
    map_kept (number_of ends read) (λ p. omega (arith, least_plain ends read plain)) (prefixes_after rows (take read planes)) ∙ ap (prefixes_after rows) whole
numbers_of_planes true ends zero rows from planes nullable is h room each legal =
    let none : from ≡ 0 = omega arith in
    let nothing : 0 - from ≡ 0 = omega arith in
    zeros_kept (number_of ends 0) (omega arith) rows ∙ sym (ap (λ n. prefixes_after rows (take n (drop from planes))) nothing)
numbers_of_planes true ends (suc r) rows from [] nullable is h room each legal = absurd (omega arith)
numbers_of_planes true ends (suc r) rows from (v ∷ ps) nullable is h room each legal =
    let one : from ≡ 1 = omega arith in
    let left : suc r - 1 ≡ r = omega arith in
    let few : r ≤ length ps = omega arith in
    without_rows ends r rows v (take r ps) nullable h (length-take-le r ps few) (each 0 v (omega arith)) (All-take (λ plane. length plane ≡ rows) r ps (λ k d below. each (suc k) d (omega arith))) legal
    ∙ sym (ap (λ n. prefixes_after rows (take (suc r - n) (drop n (v ∷ ps)))) one ∙ ap (λ n. prefixes_after rows (take n ps)) left)

-- ---- one block

take-zeros : (m n : ℕ) → take {A = ℕ} m (replicate n 0) ≡ replicate (min m n) 0
take-zeros zero n = (let e : 0 ≡ min 0 n = omega arith in ap (λ k. replicate k 0) e)
take-zeros (suc m) zero = (let e : 0 ≡ min (suc m) 0 = omega arith in ap (λ k. replicate k 0) e)
take-zeros (suc m) (suc n) = (let e : suc (min m n) ≡ min (suc m) (suc n) = omega arith in ap (λ l. 0 ∷ l) (take-zeros m n) ∙ ap (λ k. replicate k 0) e)

pub block_of_numbers : (block rows : ℕ) (planes : List (List Bool)) → block_after block (min 64 (rows - 64 * block)) planes ≡ block_rows block (prefixes_after rows planes)
block_of_numbers block rows planes =
    let start : block_rows block (replicate rows 0) ≡ replicate (min 64 (rows - 64 * block)) 0 = ap (take 64) (drop-replicate (64 * block) rows 0) ∙ take-zeros 64 (rows - 64 * block) in
    sym (block_of_planes block planes (replicate rows 0) ∙ ap (λ l. fold (λ numbers plane. longer numbers (block_rows block plane)) l planes) start)

pub block-map : (f : ℕ → ℕ) (block : ℕ) (ps : List ℕ) → block_rows block (map f ps) ≡ map f (block_rows block ps)
block-map f block ps = ap (take 64) (drop-map f (64 * block) ps) ∙ take-map f 64 (drop (64 * block) ps)
