-- The text of lines, and a line more.
use Rattle.std.proofs.Common.{◌≡◌, ℕ, ◌≤◌, List, [], ◌∷◌, ◌++◌, length, refl, sym, ap, ◌∙◌, arith, append_assoc, length-append}
use Rattle.report_parts.specs.Course.{Task}
use Rattle.report_parts.specs.declared.combination.Until.{Until}
use Rattle.report_stream.specs.Streams.{AreLines, IsLine, IsTask, first_line, lines_text}

text_behind : (lines : List (List ℕ)) (line : List ℕ) → lines_text (lines ++ line ∷ []) ≡ lines_text lines ++ (line ++ 10 ∷ [])
text_behind [] line = refl
text_behind (first ∷ lines) line =
    ap (λ (t : List ℕ). first ++ (10 ∷ t)) (text_behind lines line) ∙ sym (append_assoc first (10 ∷ lines_text lines) (line ++ 10 ∷ []))

-- what stands there is the next line and what is behind it
pub text_split : (lines : List (List ℕ)) (line rest pending : List ℕ) → pending ≡ line ++ (10 ∷ rest) →
    lines_text lines ++ pending ≡ lines_text (lines ++ line ∷ []) ++ rest
text_split lines line rest pending e =
    ap (λ (t : List ℕ). lines_text lines ++ t) (e ∙ sym (append_assoc line (10 ∷ []) rest))
    ∙ sym (append_assoc (lines_text lines) (line ++ 10 ∷ []) rest)
    ∙ sym (ap (λ (t : List ℕ). t ++ rest) (text_behind lines line))

pub lines_behind : (lines : List (List ℕ)) (line : List ℕ) → AreLines lines → IsLine line → AreLines (lines ++ line ∷ [])
lines_behind [] line h is = (is, tt)
lines_behind (first ∷ lines) line h is = (h.0, lines_behind lines line h.1 is)

-- each line has its line feed
pub no_more_lines : (lines : List (List ℕ)) → length lines ≤ length (lines_text lines)
no_more_lines [] = omega arith
no_more_lines (line ∷ lines) =
    let rest = no_more_lines lines in
    let long = length-append line (10 ∷ lines_text lines) in
    omega (arith, rest, long)

-- the first line stays the first
pub task_stays : (count : ℕ) (until : Until) (lines : List (List ℕ)) (line : List ℕ) (task : Task) → IsTask count until (first_line lines) task →
    IsTask count until (first_line (lines ++ line ∷ [])) task
task_stays count until [] line task h = let some = h.is_tag.0 in absurd (omega (arith, some))
task_stays count until (first ∷ lines) line task h = h
