-- A number between two texts.
use Rattle.std.proofs.Common.{◌≡◌, ◌++◌, ◌∙◌, sym, ap, subst, pos, codes}
use Rattle.std.specs.Fmt.{signed_decimal}
use Rattle.daq_cli.specs.Refusals.{reads_fault_text}
use Rattle.daq_cli.proofs.fault_lines.written_reads_fault.Goals as goal

pub returns-in-UnknownName-clause-text : goal.returns-in-UnknownName-clause-text
returns-in-UnknownName-clause-text c =
    subst (λ f. c.with_number.result ≡ reads_fault_text f) (sym c.in-UnknownName.is)
    (c.with_number.ensures.text ∙ ap (λ n. (codes "query refused: read " ++ signed_decimal (pos n)) ++ codes " names no column of the query") c.after.ensures)
