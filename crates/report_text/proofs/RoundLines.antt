-- That the line of a round is known by what stands behind its number.
use Rattle.std.proofs.Common.{◌≡◌, ℕ, List, ◌++◌, codes, decimal, sym, subst, ◌∙◌}
use Rattle.std.proofs.lemmas.List.{append_cancel_left}
use Rattle.report_text.specs.Lines.{IsNamed, IsRoundLine}

pub named_behind : (round : ℕ) (line rest : List ℕ) → line ≡ codes "round " ++ (decimal round ++ rest) → IsRoundLine round line → IsNamed rest
named_behind round line rest e h =
    let same = append_cancel_left (decimal round) h.named rest (append_cancel_left (codes "round ") (decimal round ++ h.named) (decimal round ++ rest) (sym h.split ∙ e)) in
    subst IsNamed same h.is_named
