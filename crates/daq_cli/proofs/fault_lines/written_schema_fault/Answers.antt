-- A number between two texts.
use Rattle.std.proofs.Common.{◌≡◌, ◌++◌, ◌∙◌, sym, ap, subst, pos, codes}
use Rattle.std.specs.Fmt.{signed_decimal}
use Rattle.daq_cli.specs.Refusals.{schema_fault_text}
use Rattle.daq_cli.proofs.fault_lines.written_schema_fault.Goals as goal

pub returns-in-TooManyItems-clause-text : goal.returns-in-TooManyItems-clause-text
returns-in-TooManyItems-clause-text c =
    subst (λ f. c.with_number-in-TooManyItems.result ≡ schema_fault_text f) (sym c.in-TooManyItems.is)
    (c.with_number-in-TooManyItems.ensures.text ∙ ap (λ n. (codes "table refused: " ++ signed_decimal (pos n)) ++ codes " schema items with those skipped") c.counted-in-TooManyItems.ensures)
