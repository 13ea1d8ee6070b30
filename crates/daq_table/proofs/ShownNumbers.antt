-- Of which numbers a kind has texts: of 0, and of all between two that have them.
use Rattle.std.proofs.Common.{ℤ, pos, ◌≤ℤ◌, arith}
use Rattle.std.proofs.lemmas.Int.{ints}
use Rattle.daq_table.specs.ValueTexts.{HasText}
use Rattle.daq_table.specs.declared.head.Kind.{Kind}
use Rattle.daq_table.specs.declared.head.Kind.TheVariants.{Int, Dec, Date, Text}

pub zero_has : (kind : Kind) → HasText kind (pos 0)
zero_has Int = tt
zero_has (Dec scale) = tt
zero_has Date = omega (arith, ints)
zero_has Text = tt

-- between two numbers with texts each has one
pub between_has : (kind : Kind) (base top value : ℤ) → HasText kind base → HasText kind top → base ≤ℤ value → value ≤ℤ top → HasText kind value
between_has Int base top value low high h k = tt
between_has (Dec scale) base top value low high h k = tt
between_has Date base top value low high h k = (omega (arith, ints, low, h), omega (arith, ints, high, k))
between_has Text base top value low high h k = tt
