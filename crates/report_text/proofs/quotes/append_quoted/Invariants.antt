use Rattle.std.proofs.Common.{◌≡◌, ◌++◌, ◌∷◌, [], drop}
use Rattle.std.specs.List.{flat_map}
use Rattle.daq_table.specs.ValueTexts.{doubled, quoted_text}
use Rattle.report_text.proofs.quotes.append_quoted.Given as goal

abbrev pub invariant-loop-byte : goal.invariant-loop-byte
invariant-loop-byte l =
    l.text.items ++ (flat_map doubled (drop l.byte-index l.name) ++ (39 ∷ [])) ≡ l.fn.text.items ++ quoted_text l.name
