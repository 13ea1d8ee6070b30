use Rattle.std.proofs.Common.{◌≡◌, ◌≤◌, None, drop, length}
use Rattle.report_text.specs.Quotes.{is_open, last_outside}
use Rattle.report_text.proofs.quotes.last_outside.Given as goal

abbrev pub invariant-loop-place : goal.invariant-loop-place
invariant-loop-place l = record {
  within : l.place ≤ length l.text;
  quoted : l.quoted ≡ is_open (drop l.place l.text);
  none : last_outside l.word (drop l.place l.text) ≡ None;
}

abbrev pub decreases-loop-place : goal.decreases-loop-place
decreases-loop-place l = l.place
