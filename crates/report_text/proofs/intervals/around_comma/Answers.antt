use Rattle.std.proofs.Common.{◌++◌, codes, sym, ◌∙◌}
use Rattle.std.proofs.lemmas.List.{append_cancel_right}
use Rattle.report_text.proofs.intervals.around_comma.Goals as goal

pub returns-in_err-low : goal.returns-in_err-low
returns-in_err-low c = λ low high h e. absurd (c.in_err-low.ensures.parted low (high ++ codes "]") h e)

pub returns-in_err-high : goal.returns-in_err-high
returns-in_err-high c = λ low high h e.
    absurd (c.in_err-high.ensures high (c.in_ok-low.ensures.parted low (high ++ codes "]") h e).1)

pub returns : goal.returns
returns c = λ low high h e.
    (let parts = c.in_ok-low.ensures.parted low (high ++ codes "]") h e in
    (parts.0, append_cancel_right c.in_ok-high.high.now high (codes "]") (sym c.in_ok-high.ensures ∙ parts.1)))
