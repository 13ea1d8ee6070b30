-- A turn of the loop over the lines of a script.
use Rattle.std.proofs.Common.{◌≡◌, ℕ, suc, ◌+◌, ◌<◌, Bool, true, false, List, [], ◌∷◌, ◌++◌, length, drop, drop-cons, get_or, append_assoc, append-nil, refl, sym, ap, ◌∙◌, arith}
use Rattle.session_script.specs.Lines.{Line, is_blank, lines_from}

from_here : (texts : List (List ℕ)) (n : ℕ) (text : List ℕ) → (n < length texts) × (text ≡ get_or texts n text) →
    drop n texts ≡ text ∷ drop (n + 1) texts
from_here texts n text (within, is) =
    let next : suc n ≡ n + 1 = omega arith in
    drop-cons texts n text within ∙ ap (λ t. t ∷ drop (suc n) texts) (sym is) ∙ ap (λ m. text ∷ drop m texts) next

-- the first line and the others
first_line : (number : ℕ) (text : List ℕ) (texts : List (List ℕ)) (test : Bool) → is_blank text ≡ test →
    lines_from number (text ∷ texts) ≡ lines_from number (text ∷ []) ++ lines_from (number + 1) texts
first_line number text texts true blank = rw blank refl
first_line number text texts false filled = rw filled refl

-- the lines so far are one more
pub next_turn : (texts : List (List ℕ)) (old new all : List Line) (n : ℕ) (text : List ℕ) → (n < length texts) × (text ≡ get_or texts n text) →
    new ≡ old ++ lines_from (n + 1) (text ∷ []) → old ++ lines_from (n + 1) (drop n texts) ≡ all →
    new ++ lines_from (n + 1 + 1) (drop (n + 1) texts) ≡ all
next_turn texts old new all n text turn taken left =
    ap (λ lines. lines ++ lines_from (n + 1 + 1) (drop (n + 1) texts)) taken
    ∙ append_assoc old (lines_from (n + 1) (text ∷ [])) (lines_from (n + 1 + 1) (drop (n + 1) texts))
    ∙ ap (λ lines. old ++ lines) (sym (first_line (n + 1) text (drop (n + 1) texts) (is_blank text) refl)
    ∙ ap (lines_from (n + 1)) (sym (from_here texts n text turn)))
    ∙ left

none_left : (texts : List (List ℕ)) (n : ℕ) → n ≡ length texts → drop n texts ≡ []
none_left [] n e = rw e refl
none_left (text ∷ texts) n e = rw e (none_left texts (length texts) refl)

-- all lines are the lines so far
pub last_turn : (texts : List (List ℕ)) (old all : List Line) (n : ℕ) → n ≡ length texts → old ++ lines_from (n + 1) (drop n texts) ≡ all → old ≡ all
last_turn texts old all n e left =
    sym (append-nil old) ∙ ap (λ rest. old ++ lines_from (n + 1) rest) (sym (none_left texts n e)) ∙ left
