use Rattle.std.proofs.Common.{◌≡◌, ◌+◌, false, drop}
use Rattle.report_text.specs.Quotes.{place_outside}
use Rattle.report_text.proofs.quotes.place_outside.Given as goal

abbrev pub invariant-loop-place : goal.invariant-loop-place
invariant-loop-place l = l.place + place_outside l.word l.quoted (drop l.place l.text) ≡ place_outside l.word false l.text
