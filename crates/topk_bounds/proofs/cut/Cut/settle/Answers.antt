use Rattle.std.proofs.Common.{◌≡◌, ◌||◌, length, sym, ap, subst, ◌∙◌}
use Rattle.std.specs.Simd.Lanes.{zip2}
use Rattle.std.proofs.lemmas.Simd.{length-zip2}
use Rattle.known_column.specs.Columns.{rows_of_column}
use Rattle.topk_bounds.specs.Stopping.{StopsAt}
use Rattle.topk_bounds.proofs.Finding.{settles_all, settles_narrow, settles_none}
use Rattle.topk_bounds.proofs.cut.Cut.settle.Goals as goal

pub returns-then-not-may_differ-clause-rows : goal.returns-then-not-may_differ-clause-rows
returns-then-not-may_differ-clause-rows c =
    let rows = c.requires.rows in
    let level : length c.drop_past.new.level ≡ rows_of_column c.args.key.now = c.drop_past.ensures.rows ∙ ap length c.copy_from.ensures ∙ rows.level in
    ap length c.or_into.ensures ∙ length-zip2 (λ a b. a || b) c.drop_past.new.level c.args.self.now.before (level ∙ sym rows.before) ∙ level

pub returns-then-not-may_differ-clause-settles : goal.returns-then-not-may_differ-clause-settles
returns-then-not-may_differ-clause-settles c =
    let cut = c.args.self.now in
    settles_narrow c.args.rivals c.args.key.now cut c.args.share c.requires.rows c.requires.one_range c.in-Some.row (sym c.first_one.ensures.first ∙ c.in-Some.is) c.drop_past.new.level c.or_into.new.self
    (sym c.may_differ.ensures ∙ c.if-not-may_differ.true) (c.drop_past.ensures.rows ∙ ap length c.copy_from.ensures)
    (subst (λ l. StopsAt c.args.share.wanted cut.counted l c.drop_past.new.level) c.copy_from.ensures c.drop_past.ensures.stops) c.or_into.ensures

pub returns-then-all_wanted-clause-rows : goal.returns-then-all_wanted-clause-rows
returns-then-all_wanted-clause-rows c =
    let rows = c.requires.rows in
    let cut = c.args.self.now in
    ap length c.or_into-then-all_wanted.ensures ∙ ap (λ l. length (zip2 (λ a b. a || b) l cut.level)) c.copy_from-2.ensures ∙ length-zip2 (λ a b. a || b) cut.before cut.level (rows.before ∙ sym rows.level) ∙ rows.before

pub returns-then-all_wanted-clause-settles : goal.returns-then-all_wanted-clause-settles
returns-then-all_wanted-clause-settles c =
    let cut = c.args.self.now in
    settles_all c.args.rivals c.args.key.now cut c.args.share c.requires.rows c.requires.one_range c.in-Some.row (sym c.first_one.ensures.first ∙ c.in-Some.is) c.or_into-then-all_wanted.new.self
    (sym c.may_differ.ensures ∙ c.if-not-may_differ.false) (sym c.all_wanted.ensures ∙ c.if-all_wanted.true) (c.or_into-then-all_wanted.ensures ∙ ap (λ l. zip2 (λ a b. a || b) l cut.level) c.copy_from-2.ensures)

pub returns-else-all_wanted-clause-settles : goal.returns-else-all_wanted-clause-settles
returns-else-all_wanted-clause-settles c =
    settles_none c.args.rivals c.args.key.now c.args.self.now c.args.share c.requires.rows c.requires.one_range c.in-Some.row (sym c.first_one.ensures.first ∙ c.in-Some.is) c.copy_from-2.new.self
    (sym c.may_differ.ensures ∙ c.if-not-may_differ.false) (sym c.all_wanted.ensures ∙ c.if-all_wanted.false) c.copy_from-2.ensures
