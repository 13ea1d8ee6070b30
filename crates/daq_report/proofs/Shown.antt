-- Rows that a word of a mask does not have.
use Rattle.std.proofs.Common.{◌≡◌, ℕ, zero, suc, ◌+◌, ◌-◌, ◌*◌, ◌<◌, ◌≤◌, min, Bool, true, false, not, nat_eq, List, [], ◌++◌, inl, inr, length, map, take, drop, get_or, refl, sym, ap, ◌∙◌, arith}
use Rattle.std.proofs.lemmas.Bool.{cases_Bool, eqb-true, false≢true, true≢false}
use Rattle.std.proofs.lemmas.List.{get_or-drop, get_or-take}
use Rattle.std.proofs.lemmas.List.FromFn.{get_or-map-range_with_len, length-map-range_with_len}
use Rattle.daq_table.specs.Tables.{rows_of}
use Rattle.daq_table.specs.declared.table_head.Head.{Head}
use Rattle.plane_kernels.specs.Rows.{bits_of}
use Rattle.query_model.specs.declared.bounds.Standing.{Standing}
use Rattle.query_model.specs.declared.bounds.Standing.TheVariants.{Certain, Possible, Excluded}
use Rattle.round_engine.specs.Stages.{Stage}
use Rattle.topk_bounds.specs.Standings.{is_certain, is_possible}
use Rattle.daq_report.specs.Rankings.{AreHidden, is_shown, row_text, rows_text, standing_at}

-- there is a bit for each row
pub mask_rows : (stage : Stage) (test : ℕ → Bool) (mask : List Bool) → mask ≡ map test (rows_of stage.frame) → length mask ≡ stage.frame.rows
mask_rows stage test mask is = ap length is ∙ length-map-range_with_len test 0 stage.frame.rows

-- ---- words

no_bits : (n i : ℕ) → get_or (bits_of n 0) i false ≡ false
no_bits zero i = refl
no_bits (suc n) zero = refl
no_bits (suc n) (suc i) = no_bits n i

-- a word of 0 is that of rows that do not pass
pub empty_word : (stage : Stage) (test : ℕ → Bool) (mask : List Bool) (block word r : ℕ) → mask ≡ map test (rows_of stage.frame) →
    bits_of (min 64 (length mask - 64 * block)) word ≡ take 64 (drop (64 * block) mask) → word ≡ 0 → 64 * block ≤ r →
    r < 64 * block + min 64 (stage.frame.rows - 64 * block) → test r ≡ false
empty_word stage test mask block word r is bits none above below =
    let i = r - 64 * block in
    let there : 64 * block + i ≡ r = omega (arith, above) in
    let in_block : i < 64 = omega (arith, above, below) in
    let in_rows : r < stage.frame.rows = omega (arith, above, below) in
    let in_word : get_or (take 64 (drop (64 * block) mask)) i false ≡ get_or mask r false =
    get_or-take 64 (drop (64 * block) mask) i false in_block ∙ get_or-drop (64 * block) mask i false ∙ ap (λ (k : ℕ). get_or mask k false) there in
    let of_row : get_or mask r false ≡ test r =
    ap (λ (l : List Bool). get_or l r false) is ∙ get_or-map-range_with_len test 0 stage.frame.rows r r false in_rows (omega arith) in
    sym of_row ∙ sym in_word ∙ ap (λ (l : List Bool). get_or l i false) (sym bits)
    ∙ ap (λ (w : ℕ). get_or (bits_of (min 64 (length mask - 64 * block)) w) i false) none ∙ no_bits (min 64 (length mask - 64 * block)) i

pub word_of_none : (word : ℕ) → not (nat_eq word 0) ≡ false → word ≡ 0
word_of_none word h = elim (cases_Bool (nat_eq word 0)) [
  | inl t ↦ eqb-true word 0 t
  | inr f ↦ absurd (true≢false (ap not (sym f) ∙ h))
]

-- ---- rows

hidden : (list : Bool) (standing : Standing) → is_certain standing ≡ false → (list ≡ true → is_possible standing ≡ false) → is_shown list standing ≡ false
hidden list Certain c p = absurd (cc)
hidden true Possible c p = absurd (false≢true (sym (p refl)))
hidden false Possible c p = refl
hidden list Excluded c p = refl

-- where no row of a block is certain, and none is possible or no list is asked for, none is shown
pub block_hidden : (stage : Stage) (list : Bool) (first count : ℕ) →
    ((r : ℕ) → first ≤ r → r < first + count → is_certain (standing_at stage r) ≡ false) →
    (list ≡ true → (r : ℕ) → first ≤ r → r < first + count → is_possible (standing_at stage r) ≡ false) → AreHidden stage list first count
block_hidden stage list first count certain possible r above below =
    hidden list (standing_at stage r) (certain r above below) (λ e. possible e r above below)

no_text : (head : Head) (stage : Stage) (key : ℕ) (list : Bool) (r : ℕ) (standing : Standing) → is_shown list standing ≡ false → row_text head stage key list r standing ≡ []
no_text head stage key list r Certain h = absurd (cc)
no_text head stage key true r Possible h = absurd (cc)
no_text head stage key false r Possible h = refl
no_text head stage key list r Excluded h = refl

-- rows that are not shown have no text
pub no_texts : (head : Head) (stage : Stage) (key : ℕ) (list : Bool) (first count : ℕ) → AreHidden stage list first count → rows_text head stage key list first count ≡ []
no_texts head stage key list first zero h = refl
no_texts head stage key list first (suc count) h =
    let one = no_text head stage key list first (standing_at stage first) (h first (omega arith) (omega arith)) in
    let more = no_texts head stage key list (first + 1) count (λ r above below. h r (omega (arith, above)) (omega (arith, below))) in
    ap (λ (l : List ℕ). l ++ rows_text head stage key list (first + 1) count) one ∙ more
