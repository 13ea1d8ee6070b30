-- What is said of the query alone, behind its first words.
use Rattle.std.proofs.Common.{◌++◌, drop, pos, codes, ap, ◌∙◌}
use Rattle.std.proofs.lemmas.List.{drop_min, take_rest}
use Rattle.std.specs.Fmt.{signed_decimal}
use Rattle.daq_cli.proofs.fault_lines.written_at_line.Goals as goal

pub returns-clause-text : goal.returns-clause-text
returns-clause-text c =
    let alone = c.args.alone.now in
    c.append.ensures.text
    ∙ ap (λ text. c.with_number-text.result ++ text)
    (take_rest alone c.min.result ∙ ap (λ n. drop n alone) c.min.ensures ∙ drop_min 15 alone)
    ∙ ap (λ text. text ++ drop 15 alone) c.with_number-text.ensures.text
    ∙ ap (λ n. codes "query refused: line " ++ signed_decimal (pos n) ++ codes ": " ++ drop 15 alone) c.counted.ensures
