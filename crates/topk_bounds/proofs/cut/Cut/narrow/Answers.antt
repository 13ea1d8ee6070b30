use Rattle.std.proofs.Common.{count_by, sym, ap, ◌∙◌, arith}
use Rattle.topk_bounds.proofs.Cutting.{both_digits, cut_moves, cut_stays, keeps_rows, passes_rows}
use Rattle.topk_bounds.proofs.cut.Cut.narrow.Goals as goal

pub returns-then-share-firsts-clause-rows : goal.returns-then-share-firsts-clause-rows
returns-then-share-firsts-clause-rows c = keeps_rows c.args.plane.now c.args.first c.args.self.now c.keep_firsts.new.self c.requires.rows c.keep_firsts.ensures

pub returns-then-share-firsts-clause-narrows : goal.returns-then-share-firsts-clause-narrows
returns-then-share-firsts-clause-narrows c counted among limit place rows is =
    cut_stays counted among limit place c.args.plane.now c.args.first c.args.self.now c.keep_firsts.new.self c.args.share rows is c.count_first-firsts.result c.count_first-firsts.ensures (omega (arith, c.if-share-firsts.true)) c.keep_firsts.ensures

pub returns-clause-rows : goal.returns-clause-rows
returns-clause-rows c = passes_rows c.args.plane.now c.args.first c.args.self.now c.pass_firsts.new.self c.requires.rows c.pass_firsts.ensures

pub returns-clause-there : goal.returns-clause-there
returns-clause-there c =
    let parts = both_digits c.args.first c.args.self.now.counted c.args.plane.now (sym c.requires.rows.counted) in
    omega (arith, parts, c.count_first-firsts.ensures, c.requires.there) ∙ ap (count_by (λ b. b)) (sym c.pass_firsts.ensures.counted)

pub returns-clause-narrows : goal.returns-clause-narrows
returns-clause-narrows c counted among limit place rows is =
    cut_moves counted among limit place c.args.plane.now c.args.first c.args.self.now c.pass_firsts.new.self c.args.share rows is c.pass_firsts.ensures c.count_first-firsts.result c.count_first-firsts.ensures (omega (arith, c.if-share-firsts.false))
