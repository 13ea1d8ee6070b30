-- Lines that are added in parts of a text are added in the whole.
use Rattle.std.proofs.Common.{◌≡◌, ◌⊎◌, ℕ, List, [], ◌++◌, refl, sym, ap, ◌∙◌, subst, append_assoc, inl, inr}
use Rattle.std.specs.Prelude.{codes}
use Rattle.run_headline.specs.Added.{AddsLines, EndsLine, added, kept}

-- a text that ends a line, or none
abbrev pub AreLines : List ℕ → Type 0
AreLines text = (text ≡ []) ⊎ EndsLine text

-- whatever lines are added behind them, the second part has lines that are added to the first
abbrev pub AddsIn : List ℕ → List ℕ → Type 0
AddsIn one other = (less more : List ℕ) → AddsLines less more → AddsLines (one ++ less) (other ++ more)

pub ends_line : (text : List ℕ) → EndsLine (text ++ codes "\n")
ends_line text = record { before = text; is = refl }

pub ends_behind : (front text : List ℕ) → EndsLine text → EndsLine (front ++ text)
ends_behind front text end = record { before = front ++ end.before; is = ap (λ l. front ++ l) end.is ∙ sym (append_assoc front end.before (codes "\n")) }

pub stays : (text : List ℕ) → EndsLine text → AddsIn text text
stays text end less more adds = kept text less more end adds

pub nothing_added : AddsIn [] []
nothing_added less more adds = adds

pub lines_added : (text : List ℕ) → AreLines text → AddsIn [] text
lines_added text (inl none) less more adds = subst (λ l. AddsLines less (l ++ more)) (sym none) adds
lines_added text (inr end) less more adds = added text less more end adds

pub in_both : (a b c d : List ℕ) → AddsIn a b → AddsIn c d → AddsIn (a ++ c) (b ++ d)
in_both a b c d first second less more adds =
    subst (λ l. AddsLines l ((b ++ d) ++ more)) (sym (append_assoc a c less))
    (subst (λ l. AddsLines (a ++ (c ++ less)) l) (sym (append_assoc b d more)) (first (c ++ less) (d ++ more) (second less more adds)))
