use Rattle.std.proofs.Common.{◌+◌, ◌*◌, ◌<◌, ◌||◌, length, take, ap, sym, subst, ◌∙◌, arith}
use Rattle.std.specs.List.{list_any}
use Rattle.std.proofs.lemmas.List.Folds.{list_any_more}
use Rattle.kleene_filter.specs.declared.members.Level.{Level}
use Rattle.kleene_filter.specs.Members.{may_be_member, must_be_member}
use Rattle.kleene_filter.proofs.BlockBits.{none_in, or_of}
use Rattle.kleene_filter.proofs.members.block_members.Goals as goal

pub loop-level-init : goal.loop-level-init
loop-level-init c = λ row few have. record { may = none_in row few; must = none_in row few }

pub loop-level-preserved : goal.loop-level-preserved
loop-level-preserved c = λ row few have.
    let levels = c.args.levels.now in
    let i = c.loop-level.level-index in
    let own = c.level-item.result in
    let at = 512 * c.args.block + row in
    let here = c.in_block-rows.ensures row few (subst (λ (l : Level). at < length l.rows) (sym c.level-item.is) (have i own (omega arith))) in
    let before = c.loop-level.invariant row few have in
    let may_before = list_any (may_be_member at) (take i levels) in
    let must_before = list_any (must_be_member at) (take i levels) in
    record {
      may = or_of _ _ _ _ _ (c.either-may.ensures row few) before.may here.may ∙ ap (λ l. may_before || may_be_member at l) c.level-item.is ∙ sym (list_any_more (may_be_member at) levels i own (omega arith));
      must = or_of _ _ _ _ _ (c.either-must.ensures row few) before.must here.must ∙ ap (λ l. must_before || must_be_member at l) c.level-item.is ∙ sym (list_any_more (must_be_member at) levels i own (omega arith));
    }
