use Rattle.std.proofs.Common.{not, map, sym, ap, ◌∙◌, replicate, rules}
use Rattle.plane_kernels.proofs.Evens.{filled_words}
use Rattle.plane_kernels.proofs.Flips.{map_not-replicate}
use Rattle.plane_kernels.proofs.bits.Bits.filled.Goals as goal

pub invariant_of-bits : goal.invariant_of-bits
invariant_of-bits c = (filled_words c.args.rows c.div_ceil.result c.resize.new.self.items c.div_ceil.ensures (search rules)).holds

pub invariant_of-bits-else-bit : goal.invariant_of-bits-else-bit
invariant_of-bits-else-bit c = (filled_words c.args.rows c.div_ceil.result c.resize.new.self.items c.div_ceil.ensures (search rules)).holds

pub returns-then-bit : goal.returns-then-bit
returns-then-bit c =
    c.not_into.ensures ∙ ap (map not) (filled_words c.args.rows c.div_ceil.result c.resize.new.self.items c.div_ceil.ensures (search rules)).rows
    ∙ map_not-replicate c.args.rows ∙ ap (replicate c.args.rows) (sym c.if-bit.true)

pub returns-else-bit : goal.returns-else-bit
returns-else-bit c =
    (filled_words c.args.rows c.div_ceil.result c.resize.new.self.items c.div_ceil.ensures (search rules)).rows ∙ ap (replicate c.args.rows) (sym c.if-bit.false)
