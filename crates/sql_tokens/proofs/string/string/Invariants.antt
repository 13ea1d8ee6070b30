-- What is read and what is left give the string of the whole text.
use Rattle.std.proofs.Common.{◌≡◌, ◌≤◌, drop, false, length}
use Rattle.std.specs.Prelude.{IfSome}
use Rattle.sql_tokens.specs.Reads.{string_from, or_else}
use Rattle.sql_tokens.proofs.Strings.{prepend, kept}
use Rattle.sql_tokens.proofs.string.string.Given as goal

abbrev pub invariant-loop-i : goal.invariant-loop-i
invariant-loop-i l = record {
  reads : or_else (prepend l.out.items (string_from l.ended (drop l.i l.text))) (kept l.out.items l.text l.last) ≡ string_from false l.text;
  within : IfSome l.last (λ x. (x.0 ≤ length l.out.items) × (x.1 ≤ length l.text));
}
