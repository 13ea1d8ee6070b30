use Rattle.std.proofs.Common.{List, ℕ, Some, false, ap, ◌∙◌}
use Rattle.report_text.proofs.Outside.{inner_found, undoubled_back}
use Rattle.report_text.specs.Quotes.{undoubled}
use Rattle.report_text.proofs.quotes.unquoted.Goals as goal

pub returns-in_ok-undoubled-in-Some : goal.returns-in_ok-undoubled-in-Some
returns-in_ok-undoubled-in-Some c = λ name e.
    ap (λ (t : List ℕ). Some t)
    (c.new.ensures ∙ c.in_ok-undoubled-in-Some.ensures ∙ ap (undoubled false) (inner_found c.in-Some.inner.now c.args.text.now name e c.in-Some.ensures) ∙ undoubled_back name)
