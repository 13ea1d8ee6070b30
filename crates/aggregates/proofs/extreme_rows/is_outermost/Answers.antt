use Rattle.std.proofs.Common.{Some, sym, ap, subst, ◌∙◌, arith}
use Rattle.std.proofs.lemmas.Bool.{eqb-true}
use Rattle.aggregates.specs.declared.extreme_rows.Extreme.{Extreme}
use Rattle.aggregates.specs.ExtremeRows.{number_at, IsAsFar}
use Rattle.aggregates.proofs.ExtremeEnds.{none_above, top_rows}
use Rattle.aggregates.proofs.extreme_rows.is_outermost.Goals as goal

pub returns-in-Least : goal.returns-in-Least
returns-in-Least c = λ e r h.
    subst (λ (x : Extreme). IsAsFar x c.args.found.number (number_at c.args.known.now r)) (sym c.in-Least.is) (let none = eqb-true c.args.found.number 0 e in omega (arith, none))

pub get-requires : goal.get-requires
get-requires c = omega (arith, c.requires.row, top_rows c.args.known.now c.at_top.result.now c.at_top.ensures)

pub returns-in-Greatest : goal.returns-in-Greatest
returns-in-Greatest c = λ e r h.
    let far = none_above c.args.known.now c.at_top.result.now c.args.found.row c.rows-rows.ensures.known c.at_top.ensures (c.get.ensures ∙ ap Some e) c.requires.row r h in
    subst (λ (x : Extreme). IsAsFar x c.args.found.number (number_at c.args.known.now r)) (sym c.in-Greatest.is) (omega (arith, far, c.requires.number))
