use Rattle.std.proofs.Common.{◌+◌, ◌*◌, ◌<◌, false, List, Bool, length, get_or, sym, ap, subst, ◌∙◌, arith}
use Rattle.kleene_filter.specs.declared.parted.Sides.{Sides}
use Rattle.kleene_filter.specs.declared.parted.Sides.TheVariants as sides
use Rattle.kleene_filter.specs.Blocks.{at_best}
use Rattle.kleene_filter.specs.Parted.{HasSides}
use Rattle.kleene_filter.specs.Unions.{MayFail}
use Rattle.kleene_filter.proofs.BlockBits.{none_in}
use Rattle.kleene_filter.proofs.Parting.{beyond_ends, has_row, side_at_best}
use Rattle.kleene_filter.proofs.parted.Sides.at_best.Goals as goal

pub returns-in-Parted : goal.returns-in-Parted
returns-in-Parted c = λ r few.
    let column = c.args.column.now in
    let op = c.args.op in
    let value = c.args.value in
    let own = sides.Parted c.in-Parted.parted in
    let row = 512 * c.args.block + r in
    let has = subst (λ (s : Sides). HasSides column op value s) c.in-Parted.is c.requires.sides in
    let may = subst (λ (s : Sides). MayFail column op s) c.in-Parted.is (c.only_adds.ensures c.if-not-only_adds.false) in
    let inside : row < length c.mask.result.now = omega (arith, ap length c.mask.ensures, (has_row column op value own row has (omega (arith, few))).1) in
    side_at_best column op value own row has c.requires.known (omega (arith, few)) may.unknown may.less may.greater may.plain
    ∙ ap at_best (sym (c.read_block.ensures r (omega (arith, few)) inside ∙ ap (λ (l : List Bool). get_or l row false) c.mask.ensures))

pub returns-in-AllLess : goal.returns-in-AllLess
returns-in-AllLess c = λ r few.
    let may = c.only_adds.ensures c.if-not-only_adds.false in
    side_at_best c.args.column.now c.args.op c.args.value c.args.self.now (512 * c.args.block + r) c.requires.sides c.requires.known (omega (arith, few)) may.unknown may.less may.greater may.plain
    ∙ ap at_best ((beyond_ends c.args.self.now (512 * c.args.block + r) c.in-AllLess.is).0 ∙ sym (none_in r (omega (arith, few))))

pub returns-in-AllLess-2 : goal.returns-in-AllLess-2
returns-in-AllLess-2 c = λ r few.
    let may = c.only_adds.ensures c.if-not-only_adds.false in
    side_at_best c.args.column.now c.args.op c.args.value c.args.self.now (512 * c.args.block + r) c.requires.sides c.requires.known (omega (arith, few)) may.unknown may.less may.greater may.plain
    ∙ ap at_best ((beyond_ends c.args.self.now (512 * c.args.block + r) c.in-AllLess.is).0 ∙ sym (none_in r (omega (arith, few))))
