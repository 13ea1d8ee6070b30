-- How the lines of bytes are found again: those of two readings of the same bytes are the same, as far as both go.
use Rattle.std.proofs.Common.{◌≡◌, ℕ, suc, ◌+◌, ◌<◌, ◌≤◌, nat_lt, Bool, true, false, not, cond, List, [], ◌∷◌, ◌++◌, length, take, refl, sym, ap, ◌∙◌, subst, inl, inr, ◌⊎◌, arith, length-append, append_assoc}
use Rattle.std.proofs.lemmas.Bool.Decides.{nat_tests}
use Rattle.std.proofs.lemmas.List.{append_cancel_left, take_at}
use Rattle.std.specs.Io.KnownBytes.{Consumes}
use Rattle.outer_world.specs.Device.{SourceState}
use Rattle.source_lines.specs.Lines.{has_line, is_feed, line_length, most_line}
use Rattle.report_stream.specs.Streams.{AreLines, IsLine, ReadsLines, lines_text}

-- ---- one line

not_less : (a b : ℕ) → nat_lt a b ≡ false → b ≤ a
not_less a b h = grind (arith, nat_tests)

-- no line feed stands there
abbrev pub IsPlain : List ℕ → Type 0
IsPlain [] = Unit {0}
IsPlain (c ∷ cs) = (is_feed c ≡ false) × IsPlain cs

at_most_by : (b : Bool) (n m : ℕ) → n ≤ m → cond (not b) (1 + n) 0 ≤ suc m
at_most_by true n m h = omega arith
at_most_by false n m h = omega (arith, h)

short : (bytes : List ℕ) → line_length bytes ≤ length bytes
short [] = omega arith
short (c ∷ cs) = at_most_by (is_feed c) (line_length cs) (length cs) (short cs)

only_false : (b : Bool) (n m : ℕ) → suc m ≤ cond (not b) (1 + n) 0 → (b ≡ false) × (m ≤ n)
only_false true n m h = absurd (omega (arith, h))
only_false false n m h = (refl, omega (arith, h))

plain_by : (bytes : List ℕ) → length bytes ≤ line_length bytes → IsPlain bytes
plain_by [] h = tt
plain_by (c ∷ cs) h = let both = only_false (is_feed c) (line_length cs) (length cs) h in (both.0, plain_by cs both.1)

pub plain : (bytes : List ℕ) → has_line bytes ≡ false → IsPlain bytes
plain bytes h = plain_by bytes (not_less (line_length bytes) (length bytes) h)

-- a line ends at its line feed
pub ends_there : (line rest : List ℕ) → IsPlain line → line_length (line ++ 10 ∷ rest) ≡ length line
ends_there [] rest h = refl
ends_there (c ∷ cs) rest h = let rest_ends = ends_there cs rest h.1 in rw h.0 (omega (arith, rest_ends))

-- and no earlier than what stands before it
later_by : (b : Bool) (n m : ℕ) → n ≤ m → cond (not b) (1 + n) 0 ≤ cond (not b) (1 + m) 0
later_by true n m h = omega arith
later_by false n m h = omega (arith, h)

pub no_earlier : (bytes more : List ℕ) → line_length bytes ≤ line_length (bytes ++ more)
no_earlier [] more = omega arith
no_earlier (c ∷ cs) more = later_by (is_feed c) (line_length cs) (line_length (cs ++ more)) (no_earlier cs more)

pub all_before : (bytes : List ℕ) → has_line bytes ≡ false → line_length bytes ≡ length bytes
all_before bytes h = let a = short bytes in let b = not_less (line_length bytes) (length bytes) h in omega (arith, a, b)

pub same_line : (a b x y : List ℕ) → IsPlain a → IsPlain b → a ++ 10 ∷ x ≡ b ++ 10 ∷ y → (a ≡ b) × (x ≡ y)
same_line a b x y h k e =
    let long : length a ≡ length b = sym (ends_there a x h) ∙ ap line_length e ∙ ends_there b y k in
    let front : a ≡ b = sym (take_at a (10 ∷ x) (length a) refl) ∙ ap (λ (v : List ℕ). take (length a) v) e ∙ take_at b (10 ∷ y) (length a) (sym long) in (
      front,
      append_cancel_left (b ++ 10 ∷ []) x y
          (append_assoc b (10 ∷ []) x ∙ ap (λ (v : List ℕ). v ++ 10 ∷ x) (sym front) ∙ e ∙ sym (append_assoc b (10 ∷ []) y)),
    )

-- ---- lines

pub lines_behind : (lines more : List (List ℕ)) → lines_text (lines ++ more) ≡ lines_text lines ++ lines_text more
lines_behind [] more = refl
lines_behind (line ∷ lines) more =
    ap (λ (v : List ℕ). line ++ (10 ∷ v)) (lines_behind lines more) ∙ sym (append_assoc line (10 ∷ lines_text lines) (lines_text more))

-- the lines of the one are the first of the other, which has these more
pub record GoOn (lines : List (List ℕ)) (rest : List ℕ) (others : List (List ℕ)) (left : List ℕ) : Type 0 where
  pub more : List (List ℕ)
  pub lines_are : others ≡ lines ++ more
  pub rest_is : rest ≡ lines_text more ++ left
  pub are_lines : AreLines more

pub front_line : (line rest tail : List ℕ) → (line ++ (10 ∷ rest)) ++ tail ≡ line ++ 10 ∷ (rest ++ tail)
front_line line rest tail = append_assoc line (10 ∷ rest) tail

longer : (line : List ℕ) (a : List (List ℕ)) (x : List ℕ) (b : List (List ℕ)) (y : List ℕ) → GoOn a x b y → GoOn (line ∷ a) x (line ∷ b) y
longer line a x b y g = record { more = g.more; lines_are = ap (λ (ls : List (List ℕ)). line ∷ ls) g.lines_are; rest_is = g.rest_is; are_lines = g.are_lines }

pub which_goes_on : (a : List (List ℕ)) (x : List ℕ) (b : List (List ℕ)) (y : List ℕ) → AreLines a → AreLines b → lines_text a ++ x ≡ lines_text b ++ y →
    GoOn a x b y ⊎ GoOn b y a x
which_goes_on [] x b y h k e = inl (record { more = b; lines_are = refl; rest_is = e; are_lines = k })
which_goes_on (line ∷ a) x [] y h k e = inr (record { more = line ∷ a; lines_are = refl; rest_is = sym e; are_lines = h })
which_goes_on (line ∷ a) x (other ∷ b) y h k e = by (which_goes_on a x b y h.1 k.1 both.1)
  where
    both : (line ≡ other) × (lines_text a ++ x ≡ lines_text b ++ y)
    both = same_line line other (lines_text a ++ x) (lines_text b ++ y) (plain line h.0.plain) (plain other k.0.plain)
        (sym (front_line line (lines_text a) x) ∙ e ∙ front_line other (lines_text b) y)

    by : GoOn a x b y ⊎ GoOn b y a x → GoOn (line ∷ a) x (other ∷ b) y ⊎ GoOn (other ∷ b) y (line ∷ a) x
    by (inl g) = inl (subst (λ (l : List ℕ). GoOn (line ∷ a) x (l ∷ b) y) both.0 (longer line a x b y g))
    by (inr g) = inr (subst (λ (l : List ℕ). GoOn (other ∷ b) y (l ∷ a) x) (sym both.0) (longer other b y a x g))

-- ---- one line more

pub last_line : (lines : List (List ℕ)) (line : List ℕ) → AreLines (lines ++ line ∷ []) → AreLines lines × IsLine line
last_line [] line h = (tt, h.0)
last_line (first ∷ lines) line h = let rest = last_line lines line h.1 in ((h.0, rest.0), rest.1)

pub line_more : (lines : List (List ℕ)) (line x : List ℕ) → lines_text (lines ++ line ∷ []) ++ x ≡ lines_text lines ++ (line ++ 10 ∷ x)
line_more lines line x =
    ap (λ (v : List ℕ). v ++ x) (lines_behind lines (line ∷ []))
    ∙ append_assoc (lines_text lines) (line ++ 10 ∷ []) x ∙ ap (λ (v : List ℕ). lines_text lines ++ v) (append_assoc line (10 ∷ []) x)

-- the last of the lines that were read may count as what was read behind them
pub read_before : (input input' : SourceState) (lines : List (List ℕ)) (line rest : List ℕ) → ReadsLines input input' (lines ++ line ∷ []) rest →
    ReadsLines input input' lines (line ++ 10 ∷ rest)
read_before input input' lines line rest read = record {
  came = subst (Consumes input.left input'.left) (line_more lines line rest) read.came;
  are_lines = (last_line lines line read.are_lines).0;
  few = let same = ap length (line_more lines line rest) in let few = read.few in omega (arith, same, few);
}

-- ---- what a line that is there rules out

-- it is not too long
pub not_long : (read behind next y : List ℕ) → read ++ behind ≡ next ++ 10 ∷ y → IsLine next → most_line < line_length read → ⊥
not_long read behind next y e is long =
    let there = ap line_length e ∙ ends_there next y (plain next is.plain) in
    let before = no_earlier read behind in
    let short = is.short in
    omega (arith, there, before, short, long)

-- and is no rest without a line feed
pub not_rest : (read next y : List ℕ) → read ≡ next ++ 10 ∷ y → IsLine next → has_line read ≡ false → ⊥
not_rest read next y e is none =
    let there = ap line_length e ∙ ends_there next y (plain next is.plain) in
    let all = all_before read none in
    let long = ap length e in
    let parts = length-append next (10 ∷ y) in
    omega (arith, there, all, long, parts)
