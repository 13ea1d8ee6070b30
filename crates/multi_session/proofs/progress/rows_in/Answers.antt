use Rattle.std.proofs.Common.{◌≡◌, ◌+◌, sym, ap, ◌∙◌, subst, arith}
use Rattle.round_engine.specs.Progresses.{possible_rows, unknown_rows}
use Rattle.multi_session.specs.Members.{IsMember, stage_in}
use Rattle.multi_session.proofs.Telling.{few_possible, few_unknown, rows_at, rows_more, rows_narrow, rows_wide}
use Rattle.multi_session.proofs.progress.rows_in.Goals as goal
use Rattle.multi_session.proofs.progress.rows_in.Goals.{then-not-member, else-not-member}

pub overflow_add-unknown : goal.overflow_add-unknown
overflow_add-unknown c =
    let places = c.args.columns.now.places.items in
    let table = c.args.columns.now.known in
    let m = c.member-item.result in
    let kept = c.requires.kept.1 in
    let is : IsMember c.args.near kept.0 places table m =
    subst (IsMember c.args.near kept.0 places table) (sym c.member-item.is) (kept.1 c.loop-member.member-index m c.loop-member-test.true) in
    let few = few_unknown (stage_in table m) is.open_stage in
    let told : c.progress-progress.result.unknown ≡ unknown_rows (stage_in table m) = c.progress-progress.ensures.unknown ∙ ap unknown_rows c.view.ensures in
    omega (arith, few, told, c.loop-member.invariant.few_unknown, c.loop-member-test.true, c.requires.few)

pub overflow_add-possible : goal.overflow_add-possible
overflow_add-possible c =
    let places = c.args.columns.now.places.items in
    let table = c.args.columns.now.known in
    let m = c.member-item.result in
    let kept = c.requires.kept.1 in
    let is : IsMember c.args.near kept.0 places table m =
    subst (IsMember c.args.near kept.0 places table) (sym c.member-item.is) (kept.1 c.loop-member.member-index m c.loop-member-test.true) in
    let few = few_possible (stage_in table m) is.open_stage in
    let told : c.progress-progress.result.possible ≡ possible_rows (stage_in table m) = c.progress-progress.ensures.possible ∙ ap possible_rows c.view.ensures in
    omega (arith, few, told, c.loop-member.invariant.few_possible, c.loop-member-test.true, c.requires.few)

pub loop-member-preserved : goal.loop-member-preserved
loop-member-preserved c =
    let w = c.args.near in
    let places = c.args.columns.now.places.items in
    let table = c.args.columns.now.known in
    let members = c.args.members.now in
    let i = c.loop-member.member-index in
    let h = c.loop-member-test.true in
    let m = c.member-item.result in
    let kept = c.requires.kept.1 in
    let is : IsMember w kept.0 places table m = subst (IsMember w kept.0 places table) (sym c.member-item.is) (kept.1 i m h) in
    let stage = stage_in table m in
    let before = c.loop-member.invariant in
    let few_u = few_unknown stage is.open_stage in
    let few_p = few_possible stage is.open_stage in
    elim c.if-not-member.branch [
      | then-not-member b ↦
          (let unknown : b.progress-progress.result.unknown ≡ unknown_rows stage = b.progress-progress.ensures.unknown ∙ ap unknown_rows b.view.ensures in
          let possible : b.progress-progress.result.possible ≡ possible_rows stage = b.progress-progress.ensures.possible ∙ ap possible_rows b.view.ensures in
          let adds_u : c.if-not-member.unknown ≡ c.loop-member.unknown + rows_at unknown_rows w stage =
          omega (arith, b.unknown-is, unknown, rows_wide table unknown_rows w m is.finished b.if-not-member.true) in
          let adds_p : c.if-not-member.possible ≡ c.loop-member.possible + rows_at possible_rows w stage =
          omega (arith, b.possible-is, possible, rows_wide table possible_rows w m is.finished b.if-not-member.true) in
          record {
            unknown = rows_more table unknown_rows w members i c.loop-member.unknown c.if-not-member.unknown m h c.member-item.is before.unknown adds_u;
            few_unknown = omega (arith, before.few_unknown, few_u, b.unknown-is, unknown);
            possible = rows_more table possible_rows w members i c.loop-member.possible c.if-not-member.possible m h c.member-item.is before.possible adds_p;
            few_possible = omega (arith, before.few_possible, few_p, b.possible-is, possible);
          })
      | else-not-member b ↦
          (let adds_u : c.if-not-member.unknown ≡ c.loop-member.unknown + rows_at unknown_rows w stage =
          omega (arith, b.unknown-is, rows_narrow table unknown_rows w m is.finished b.if-not-member.false) in
          let adds_p : c.if-not-member.possible ≡ c.loop-member.possible + rows_at possible_rows w stage =
          omega (arith, b.possible-is, rows_narrow table possible_rows w m is.finished b.if-not-member.false) in
          record {
            unknown = rows_more table unknown_rows w members i c.loop-member.unknown c.if-not-member.unknown m h c.member-item.is before.unknown adds_u;
            few_unknown = omega (arith, before.few_unknown, b.unknown-is);
            possible = rows_more table possible_rows w members i c.loop-member.possible c.if-not-member.possible m h c.member-item.is before.possible adds_p;
            few_possible = omega (arith, before.few_possible, b.possible-is);
          })
    ]
