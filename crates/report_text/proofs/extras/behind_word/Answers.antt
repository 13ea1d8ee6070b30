use Rattle.std.proofs.Common.{◌≡◌, ◌≢◌, ℕ, List, ◌++◌, MatchOption, subst}
use Rattle.report_text.proofs.extras.behind_word.Goals as goal

pub returns : goal.returns
returns c =
    subst (λ (w : List ℕ). MatchOption c.behind.result ((rest : List ℕ) → c.args.text.now ≢ w ++ rest) (λ rest. c.args.text.now ≡ w ++ rest.now))
    c.extra_word.ensures.word c.behind.ensures
