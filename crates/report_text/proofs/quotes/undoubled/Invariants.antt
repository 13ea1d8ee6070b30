use Rattle.std.proofs.Common.{◌≡◌, ◌++◌, false, drop}
use Rattle.report_text.specs.Quotes.{undoubled}
use Rattle.report_text.proofs.quotes.undoubled.Given as goal

abbrev pub invariant-loop-byte : goal.invariant-loop-byte
invariant-loop-byte l = l.single.items ++ undoubled l.second (drop l.byte-index l.text) ≡ undoubled false l.text
