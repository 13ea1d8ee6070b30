-- How the columns of a seed grow by a row, and what their numbers are.
use Rattle.std.proofs.Common.{◌≡◌, ℕ, suc, ◌+◌, ◌<◌, pos, All, List, [], ◌∷◌, ◌++◌, length, map, get_or, refl, sym, ap, ◌∙◌, arith}
use Rattle.std.proofs.lemmas.Int.{ints}
use Rattle.std.proofs.lemmas.List.Elements.{All-map}
use Rattle.std.proofs.lemmas.List.FromFn.{length-map-range_with_len, map-range_with_len_more}
use Rattle.std.proofs.lemmas.Simd.{map-map}
use Rattle.std.specs.List.{range_with_len}
use Rattle.daq_table.specs.ValueTexts.{IsDay}
use Rattle.table_gen.specs.Draws.{after, code_of, column_of, d_of, g_of, state_at, text_of}

one_more : (row : ℕ) → row + 1 ≡ suc row
one_more row = omega arith

state_more : (seed row : ℕ) → state_at seed (suc row) ≡ after (state_at seed row) 5
unfolding state_at
state_more seed row = refl

pub state_next : (seed row : ℕ) → state_at seed (row + 1) ≡ after (state_at seed row) 5
state_next seed row = ap (state_at seed) (one_more row) ∙ state_more seed row

pub column_next : {X : Type 0} (value : ℕ → X) (seed row state : ℕ) (xs ys : List X) (x : X) → xs ≡ column_of value seed row → state ≡ state_at seed row → x ≡ value state → ys ≡ xs ++ x ∷ []
    → ys ≡ column_of value seed (row + 1)
column_next value seed row state xs ys x h s e more =
    more ∙ ap (λ zs. zs ++ x ∷ []) h ∙ ap (λ z. column_of value seed row ++ z ∷ []) (e ∙ ap value s)
    ∙ sym (map-range_with_len_more (λ (r : ℕ). value (state_at seed r)) 0 row row (omega arith))

pub column_long : {X : Type 0} (value : ℕ → X) (seed rows : ℕ) → length (column_of value seed rows) ≡ rows
column_long value seed rows = length-map-range_with_len (λ (r : ℕ). value (state_at seed r)) 0 rows

pub column_has : {X : Type 0} (P : X → Type 0) (value : ℕ → X) (seed rows : ℕ) → ((x : ℕ) → P (value x)) → All P (column_of value seed rows)
column_has P value seed rows h = All-map P (λ (r : ℕ). value (state_at seed r)) (range_with_len 0 rows) (λ k d lt. h (state_at seed (get_or (range_with_len 0 rows) k d)))

code_small : (x : ℕ) → code_of x < 16
code_small x = omega arith

pub codes_small : (seed rows : ℕ) → All (λ code. code < 16) (column_of code_of seed rows)
codes_small seed rows = column_has (λ (code : ℕ). code < 16) code_of seed rows code_small

pub texts_are : (seed rows : ℕ) (codes : List ℕ) → codes ≡ column_of code_of seed rows → map text_of codes ≡ column_of g_of seed rows
texts_are seed rows codes e = ap (map text_of) e ∙ map-map text_of (λ (r : ℕ). code_of (state_at seed r)) (range_with_len 0 rows)

day_is : (n : ℕ) → n < 20000 → IsDay (pos n)
day_is n lt = (omega (arith, ints), omega (arith, ints, lt))

pub d_is_day : (x : ℕ) → IsDay (d_of x)
d_is_day x = day_is _ (omega arith)
