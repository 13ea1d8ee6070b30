-- The draws of a seed, and what a row makes of the five that it takes.
use Rattle.std.specs.Prelude.{ℕ, zero, suc, ◌+◌, ◌*◌, ◌/◌, ◌%◌, ◌^◌}
use Rattle.std.specs.Prelude.{ℤ, pos, ◌-ℤ◌, List, [], ◌∷◌, ◌++◌, codes, map}
use Rattle.std.specs.List.{range_with_len}

-- the state after one more draw
abbrev pub next : ℕ → ℕ
next x = (x * 1103515245 + 12345) % 2 ^ 31

-- the state after so many draws
abbrev pub after : ℕ → ℕ → ℕ
after x zero = x
after x (suc n) = next (after x n)

-- the draw of that number, counted from 1
abbrev pub draw : ℕ → ℕ → ℕ
draw x n = after x n / 65536

-- the state before a row's first draw
unfoldable pub state_at : ℕ → ℕ → ℕ
state_at seed zero = seed % 2 ^ 31
state_at seed (suc row) = after (state_at seed row) 5

-- what a row that begins at that state has in each column
abbrev pub a_of : ℕ → ℤ
a_of x = pos (draw x 1 * 32768 + draw x 2) -ℤ pos 536870912

abbrev pub b_of : ℕ → ℤ
b_of x = pos (draw x 3 % 10001)

abbrev pub d_of : ℕ → ℤ
d_of x = pos (10957 + draw x 4 % 3653)

-- the byte of a digit
abbrev pub digit : ℕ → ℕ
digit n = 48 + n

-- the text of that number: `g` and two digits
abbrev pub text_of : ℕ → List ℕ
text_of code = codes "g" ++ digit (code / 10) ∷ digit (code % 10) ∷ []

abbrev pub code_of : ℕ → ℕ
code_of x = draw x 5 % 16

abbrev pub g_of : ℕ → List ℕ
g_of x = text_of (code_of x)

-- a column: what each row has in it
abbrev pub column_of : {X : Type 0} → (ℕ → X) → ℕ → ℕ → List X
column_of value seed rows = map (λ row. value (state_at seed row)) (range_with_len 0 rows)
