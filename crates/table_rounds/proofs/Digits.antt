-- The bits of a column's planes and the prefixes that they write.
use Rattle.std.proofs.Common.{◌≡◌, ◌⊎◌, ℕ, zero, suc, ◌+◌, ◌*◌, ◌<◌, ◌≤◌, Bool, true, false, cond, List, [], ◌∷◌, drop, get_or, length, map, replicate, Some, refl, sym, ap, ◌∙◌, subst, arith, inl, inr}
use Rattle.std.proofs.lemmas.Bool.{cases_lt}
use Rattle.std.proofs.lemmas.List.{length-map}
use Rattle.std.proofs.Math.ListN.{length-replicate}
use Rattle.daq_table.specs.declared.head.Ends.{Ends}
use Rattle.daq_table.specs.Tables.{Cell, Frame, IsCell, IsTable, no_ends, planes}
use Rattle.query_model.specs.Knowledge.{AreCounts, bit_at, known_at, longer, prefix_of}
use Rattle.query_model.specs.Laws.{PlanesAreTaken}
use Rattle.query_model.proofs.Blocks.{none_read}
use Rattle.table_rounds.specs.Rounds.{prefixes_by}

-- ---- prefixes with one digit more

pub length-longer : (ps : List ℕ) (bits : List Bool) → length ps ≡ length bits → length (longer ps bits) ≡ length ps
length-longer [] bits same = refl
length-longer (p ∷ ps) [] same = absurd (omega arith)
length-longer (p ∷ ps) (b ∷ bits) same = let rest = length-longer ps bits (omega arith) in omega (arith, rest)

same_digit : (p q : ℕ) (a b : Bool) → 2 * p + cond a 1 0 ≡ 2 * q + cond b 1 0 → (p ≡ q) × (a ≡ b)
same_digit p q true true e = (omega (arith, e), refl)
same_digit p q false false e = (omega (arith, e), refl)
same_digit p q true false e = absurd (omega (arith, e))
same_digit p q false true e = absurd (omega (arith, e))

-- equal prefixes were so before their last digits, which are equal
pub same_parts : (ps qs : List ℕ) (a b : List Bool) → length ps ≡ length a → length qs ≡ length b → longer ps a ≡ longer qs b → (ps ≡ qs) × (a ≡ b)
same_parts [] [] [] [] h k e = (refl, refl)
same_parts [] [] (x ∷ a) b h k e = absurd (omega (arith, h))
same_parts [] [] [] (y ∷ b) h k e = absurd (omega (arith, k))
same_parts [] (q ∷ qs) a [] h k e = absurd (omega (arith, k))
same_parts [] (q ∷ qs) a (y ∷ b) h k e = absurd (let long = ap length e in omega (arith, long))
same_parts (p ∷ ps) qs [] b h k e = absurd (omega (arith, h))
same_parts (p ∷ ps) [] (x ∷ a) b h k e = absurd (let long = ap length e in omega (arith, long))
same_parts (p ∷ ps) (q ∷ qs) (x ∷ a) [] h k e = absurd (omega (arith, k))
same_parts (p ∷ ps) (q ∷ qs) (x ∷ a) (y ∷ b) h k e =
    let (first, digit) = same_digit p q x y (ap (λ l. get_or l 0 0) e) in
    let (rest, digits) = same_parts ps qs a b (omega (arith, h)) (omega (arith, k)) (ap (drop 1) e) in
    (ap (λ n. n ∷ ps) first ∙ ap (λ l. q ∷ l) rest, ap (λ n. n ∷ a) digit ∙ ap (λ l. y ∷ l) digits)

-- ---- prefixes by planes

pub length-prefixes : (rows : ℕ) (column : ℕ → List Bool) (k : ℕ) → ((j : ℕ) → j < k → length (column j) ≡ rows) → length (prefixes_by rows column k) ≡ rows
length-prefixes rows column zero long = length-replicate rows 0
length-prefixes rows column (suc k) long =
    let before = length-prefixes rows column k (λ j h. long j (omega arith)) in
    length-longer (prefixes_by rows column k) (column k) (before ∙ sym (long k (omega arith))) ∙ before

pub same_prefixes : (rows : ℕ) (a b : ℕ → List Bool) (k : ℕ) → ((j : ℕ) → j < k → a j ≡ b j) → prefixes_by rows a k ≡ prefixes_by rows b k
same_prefixes rows a b zero same = refl
same_prefixes rows a b (suc k) same =
    ap (λ ps. longer ps (a k)) (same_prefixes rows a b k (λ j h. same j (omega arith))) ∙ ap (longer (prefixes_by rows b k)) (same k (omega arith))

-- ---- the cells of a column

module _ (taking : PlanesAreTaken) (ends : Ends) (column : List Cell) (within : (r : ℕ) → r < length column → IsCell ends (get_or column r (Some 0))) where
  abbrev alone : Frame
  alone = record { rows = length column; columns = ends ∷ [] }

  is_alone : IsTable alone (column ∷ [])
  is_alone = record { columns = refl; rows = rows; within = cells }
    where
      rows : (c : ℕ) → c < 1 → length (get_or (column ∷ []) c []) ≡ length column
      rows zero h = refl
      rows (suc c) h = absurd (omega arith)

      cells : (c r : ℕ) → c < 1 → r < length column → IsCell (get_or (ends ∷ []) c no_ends) (get_or (get_or (column ∷ []) c []) r (Some 0))
      cells zero r h k = within r k
      cells (suc c) r h k = absurd (omega arith)

  so_many : (k : ℕ) → k < planes ends → AreCounts alone (k ∷ [])
  so_many k h = record { columns = refl; few = few }
    where
      few : (c : ℕ) → c < 1 → get_or (k ∷ []) c 0 ≤ planes (get_or (ends ∷ []) c no_ends)
      few zero lt = omega (arith, h)
      few (suc c) lt = absurd (omega arith)

  -- a plane is the next digit of each prefix
  next_digits : (k : ℕ) → k < planes ends → longer (map (prefix_of ends k) column) (map (bit_at ends k) column) ≡ map (prefix_of ends (k + 1)) column
  next_digits k h = ap (λ known. (known_at known 0).prefixes) (taking alone (column ∷ []) (k ∷ []) 0 is_alone (so_many k h) (omega arith) h).1

  next_digits' : (k : ℕ) → k < planes ends → longer (map (prefix_of ends k) column) (map (bit_at ends k) column) ≡ map (prefix_of ends (suc k)) column
  next_digits' k h = let same : k + 1 ≡ suc k = omega arith in next_digits k h ∙ ap (λ n. map (prefix_of ends n) column) same

  -- the planes of the cells write their prefixes
  pub cells_write : (k : ℕ) → k ≤ planes ends → prefixes_by (length column) (λ j. map (bit_at ends j) column) k ≡ map (prefix_of ends k) column
  cells_write zero few = sym (all_zero column within)
    where
      all_zero : (cells : List Cell) → ((r : ℕ) → r < length cells → IsCell ends (get_or cells r (Some 0))) → map (prefix_of ends 0) cells ≡ replicate (length cells) 0
      all_zero [] are = refl
      all_zero (cell ∷ cells) are =
          ap (λ p. p ∷ map (prefix_of ends 0) cells) (none_read ends cell (are 0 (omega arith))) ∙ ap (λ ps. 0 ∷ ps) (all_zero cells (λ r h. are (suc r) (omega arith)))
  cells_write (suc k) few = ap (λ ps. longer ps (map (bit_at ends k) column)) (cells_write k (omega arith)) ∙ next_digits' k (omega arith)

  -- bits that write the prefixes of the cells are those of their planes
  pub cells_have : (rows : ℕ) (bits : ℕ → List Bool) → length column ≡ rows → (k : ℕ) → k ≤ planes ends → ((j : ℕ) → j < k → length (bits j) ≡ rows) →
      map (prefix_of ends k) column ≡ prefixes_by rows bits k → (j : ℕ) → j < k → map (bit_at ends j) column ≡ bits j
  cells_have rows bits all zero few long same j h = absurd (omega arith)
  cells_have rows bits all (suc k) few long same j h =
      let before = length-prefixes rows bits k (λ i lt. long i (omega arith)) in
      let (rest, here) = same_parts (map (prefix_of ends k) column) (prefixes_by rows bits k) (map (bit_at ends k) column) (bits k)
      (length-map column (prefix_of ends k) ∙ sym (length-map column (bit_at ends k))) (before ∙ sym (long k (omega arith))) (next_digits' k (omega arith) ∙ same) in
      by here (λ less. cells_have rows bits all k (omega arith) (λ i lt. long i (omega arith)) rest j less) (cases_lt j k)
    where
      by : map (bit_at ends k) column ≡ bits k → (j < k → map (bit_at ends j) column ≡ bits j) → ((j < k) ⊎ (k ≤ j)) → map (bit_at ends j) column ≡ bits j
      by here earlier (inl less) = earlier less
      by here earlier (inr le) = let last : k ≡ j = omega (arith, h, le) in subst (λ i. map (bit_at ends i) column ≡ bits i) last here
