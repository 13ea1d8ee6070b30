-- Blocks of rows that are counted, kept or taken away.
use Rattle.std.proofs.Common.{◌≡◌, ◌≢◌, ℕ, zero, suc, ◌+◌, ◌-◌, ◌<◌, ◌≤◌, min, nat_lt, Bool, true, false, cond, ◌&&◌, List, [], ◌∷◌, ◌++◌, length, get_or, set, take, drop, count_by, replicate, inl, inr, refl, sym, ap, subst, ◌∙◌, arith}
use Rattle.std.specs.Simd.Lanes.{put_chunk}
use Rattle.std.proofs.lemmas.Bool.{cases_eq, cases_lt}
use Rattle.std.proofs.lemmas.Bool.Decides.{nat_tests}
use Rattle.std.proofs.lemmas.List.{drop_more, get_or_past, get_or-set_other, get_or-set_same, length-drop, take_all}
use Rattle.std.proofs.lemmas.List.Sums.{sum_by-cons}
use Rattle.std.proofs.lemmas.Simd.{get_or-put_chunk_above, get_or-put_chunk_at, get_or-put_chunk_below, length-put_chunk}
use Rattle.plane_kernels.specs.Rows.{bits_of, rows_of}
use Rattle.plane_kernels.proofs.RowLemmas.{length-rows_of}
use Rattle.topk_bounds.specs.Standings.{count_rows, is_in}
use Rattle.topk_bounds.specs.Stopping.{Clears, Stops, is_reached}
use Rattle.topk_bounds.proofs.Counting.{count_at}

-- ---- counts

pub count_longer : (f : ℕ → Bool) (x k : ℕ) → count_rows x f ≤ count_rows (x + k) f
count_longer f x zero = (let e : x + 0 ≡ x = omega arith in subst (λ n. count_rows x f ≤ count_rows n f) (sym e) (omega arith))
count_longer f x (suc k) = (let e : x + suc k ≡ suc (x + k) = omega arith in subst (λ n. count_rows x f ≤ count_rows n f) (sym e) (omega (arith, count_longer f x k, count_at f (x + k))))

pub count_grows : (f : ℕ → Bool) (x y : ℕ) → x ≤ y → count_rows x f ≤ count_rows y f
count_grows f x y h = (let e : x + (y - x) ≡ y = omega arith in subst (λ n. count_rows x f ≤ count_rows n f) e (count_longer f x (y - x)))

-- some rows more
pub count_cut : (rows : List Bool) (a k : ℕ) → a + k ≤ length rows → count_rows (a + k) (is_in rows) ≡ count_rows a (is_in rows) + count_by (λ b. b) (take k (drop a rows))
count_cut rows a zero h = (let e : a + 0 ≡ a = omega arith in ap (λ n. count_rows n (is_in rows)) e ∙ omega arith)
count_cut rows a (suc k) h =
    let first : drop a rows ≡ is_in rows a ∷ drop (a + 1) rows = drop_more rows a false (omega arith) in
    let e : a + suc k ≡ suc a + k = omega arith in
    let f : suc a ≡ a + 1 = omega arith in
    ap (λ n. count_rows n (is_in rows)) e ∙ count_cut rows (suc a) k (omega arith)
    ∙ ap (λ n. count_rows (suc a) (is_in rows) + count_by (λ b. b) (take k (drop n rows))) f
    ∙ omega (arith, count_at (is_in rows) a, sum_by-cons (λ c. cond c 1 0) (is_in rows a) (take k (drop (a + 1) rows)))
    ∙ ap (λ l. count_rows a (is_in rows) + count_by (λ b. b) (take (suc k) l)) (sym first)

pub count_block : (rows : List Bool) (a to : ℕ) → a < length rows → to ≡ min (length rows) (a + 512) → count_rows to (is_in rows) ≡ count_rows a (is_in rows) + count_by (λ b. b) (take 512 (drop a rows))
count_block rows a to h e = elim (cases_lt (length rows) (a + 512)) [
  | inr long ↦ (let whole : to ≡ a + 512 = omega arith in ap (λ n. count_rows n (is_in rows)) whole ∙ count_cut rows a 512 long)
  | inl short ↦
      (let whole : to ≡ a + (length rows - a) = omega arith in
      ap (λ n. count_rows n (is_in rows)) whole ∙ count_cut rows a (length rows - a) (omega arith)
      ∙ ap (λ l. count_rows a (is_in rows) + count_by (λ b. b) l) (all (drop a rows) (length rows - a) (omega (arith, length-drop a rows)) (omega (arith, length-drop a rows))))
]
  where
    all : (l : List Bool) (k : ℕ) → length l ≤ k → length l ≤ 512 → take k l ≡ take 512 l
    all l k h g = take_all k l h ∙ sym (take_all 512 l g)

-- ---- rows that are taken away

no_bits : (k i : ℕ) → is_in (bits_of k 0) i ≡ false
no_bits zero i = refl
no_bits (suc k) zero = refl
no_bits (suc k) (suc i) = no_bits k i

none_of_both : (xs ys : List Bool) → ((i : ℕ) → is_in xs i ≡ false) → ((i : ℕ) → is_in ys i ≡ false) → (i : ℕ) → is_in (xs ++ ys) i ≡ false
none_of_both [] ys h g i = g i
none_of_both (x ∷ xs) ys h g zero = h 0
none_of_both (x ∷ xs) ys h g (suc i) = none_of_both xs ys (λ k. h (suc k)) g i

no_rows : (n m i : ℕ) → is_in (rows_of n (replicate m 0)) i ≡ false
no_rows n zero i = refl
no_rows n (suc m) i = none_of_both (bits_of (min n 64) 0) (rows_of (n - 64) (replicate m 0)) (no_bits (min n 64)) (no_rows (n - 64) m) i

pub cleared : (rows : List Bool) (a : ℕ) → a < length rows → Clears a (a + 512) rows (put_chunk a rows (rows_of (min 512 (length rows - a)) (replicate 8 0)))
cleared rows a h =
    let n = min 512 (length rows - a) in
    let piece = rows_of n (replicate 8 0) in
    let long : length piece ≡ n = length-rows_of n (replicate 8 0) (omega arith) in
    record {
      inside = λ x low high. elim (cases_lt x (length rows)) [
        | inl within ↦
            (let e : a + (x - a) ≡ x = omega arith in
            subst (λ k. is_in (put_chunk a rows piece) k ≡ false) e (get_or-put_chunk_at a rows piece (x - a) false (omega (arith, long)) (omega (arith, long)) ∙ no_rows n 8 (x - a)))
        | inr past ↦ get_or_past (put_chunk a rows piece) x false (omega (arith, length-put_chunk a rows piece))
      ];
      before = λ x low. get_or-put_chunk_below a rows piece x false low;
      behind = λ x high. get_or-put_chunk_above a rows piece x false (omega (arith, long));
    }

-- ---- rows that are reached

with_all : (b : Bool) → b ≡ (b && true)
with_all true = refl
with_all false = refl

with_none : (b : Bool) → false ≡ (b && false)
with_none true = refl
with_none false = refl

reached_is : (k wanted : ℕ) → k < wanted → nat_lt k wanted ≡ true
reached_is k wanted h = grind (arith, nat_tests)

not_reached_is : (k wanted : ℕ) → wanted ≤ k → nat_lt k wanted ≡ false
not_reached_is k wanted h = grind (arith, nat_tests)

module _ (wanted : ℕ) (counted rows : List Bool) (from to : ℕ) where
  -- all rows of a block are reached
  pub stops_later : count_rows to (is_in counted) < wanted → Stops wanted counted from to rows rows
  stops_later few = record {
    inside = λ x low high.
        (let up = count_grows (is_in counted) x to (omega arith) in
        with_all (is_in rows x) ∙ ap (λ b. is_in rows x && b) (sym (reached_is (count_rows x (is_in counted)) wanted (omega (arith, up, few)))));
    before = λ x low. refl;
    behind = λ x high. refl;
  }

  -- none is
  pub stopped : (new : List Bool) → wanted ≤ count_rows from (is_in counted) → length new ≡ length rows → to ≡ min (length rows) (from + 512) → Clears from (from + 512) rows new → Stops wanted counted from to rows new
  stopped new many same at clears = record {
    inside = λ x low high.
        (let up = count_grows (is_in counted) from x low in
        clears.inside x low (omega (arith, at)) ∙ with_none (is_in rows x) ∙ ap (λ b. is_in rows x && b) (sym (not_reached_is (count_rows x (is_in counted)) wanted (omega (arith, up, many)))));
    before = λ x low. clears.before x low;
    behind = λ x high. elim (cases_lt x (from + 512)) [
      | inl near ↦ get_or_past new x false (omega (arith, same, at)) ∙ sym (get_or_past rows x false (omega (arith, at)))
      | inr far ↦ clears.behind x far
    ];
  }

-- one row more
pub stop_more : (wanted : ℕ) (counted rows now : List Bool) (from row : ℕ) (b : Bool) → from ≤ row → row < length now → b ≡ (is_in now row && is_reached wanted counted row) → Stops wanted counted from row rows now →
    Stops wanted counted from (row + 1) rows (set now row b)
stop_more wanted counted rows now from row b h r_in is stops = record {
  inside = λ x low high. elim (cases_eq x row) [
    | inl e ↦
        ap (λ k. get_or (set now row b) k false) e ∙ get_or-set_same now row b false r_in ∙ is
        ∙ ap (λ v. v && is_reached wanted counted row) (stops.behind row (omega arith)) ∙ ap (λ k. is_in rows k && is_reached wanted counted k) (sym e)
    | inr other ↦ get_or-set_other now row x b false other ∙ stops.inside x low (omega (arith, other))
  ];
  before = λ x low. (let other : x ≢ row = omega arith in get_or-set_other now row x b false other ∙ stops.before x low);
  behind = λ x high. (let other : x ≢ row = omega arith in get_or-set_other now row x b false other ∙ stops.behind x (omega arith));
}
