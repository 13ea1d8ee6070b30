use Rattle.std.proofs.Common.{◌≡◌, ◌<◌, ◌||◌, length, max, false, Some, None, sym, ap, ◌∙◌, subst, arith}
use Rattle.std.proofs.lemmas.Option.{get_or_from_slice_get}
use Rattle.plane_schedule.specs.declared.progress.Role.TheVariants.{Filter}
use Rattle.round_engine.specs.Progresses.{IsProgress, gives_values, role_of}
use Rattle.multi_session.specs.Members.{IsMember, stage_in, stages_of}
use Rattle.multi_session.specs.Sessions.{awaited, first_role, gives_for, gives_in, role_for, role_in, taken_for, taken_in}
use Rattle.multi_session.proofs.Awaiting.{awaited_own, own_there}
use Rattle.multi_session.proofs.Found.{awaits_is}
use Rattle.multi_session.proofs.Telling.{folded_more, gives_none, gives_some, role_none, role_some, taken_none, taken_some}
use Rattle.multi_session.proofs.progress.use_in.Goals as goal
use Rattle.multi_session.proofs.progress.use_in.Goals.{in-Some, in_default}

pub loop-member-preserved : goal.loop-member-preserved
loop-member-preserved c =
    let w = c.args.near in
    let p = c.args.place in
    let places = c.args.columns.now.places.items in
    let table = c.args.columns.now.known in
    let members = c.args.members.now in
    let m = c.member-item.result in
    let i = c.loop-member.member-index in
    let h = c.loop-member-test.true in
    let at = c.member-item.is in
    let steps = c.requires.1.0 in
    let is : IsMember w steps places table m = subst (IsMember w steps places table) (sym at) (c.requires.1.1 i m h) in
    let stage = stage_in table m in
    let before = c.loop-member.invariant in
    elim c.match-awaited.branch [
      | in-Some b ↦
          (let waits : awaited w p stage ≡ Some b.in-Some.own = awaits_is w steps places table m is p c.awaited.result c.awaited.ensures ∙ b.in-Some.is in
          let own = awaited_own w p stage b.in-Some.own waits in
          let there = own_there m.follower.query.columns p b.in-Some.own own.1 in
          let progress = subst (λ s. IsProgress s b.progress-progress.result) b.view.ensures b.progress-progress.ensures in
          let inside : b.in-Some.own < length stage.frame.columns = omega (arith, there.0, is.open_stage.open_query.columns) in
          let role = get_or_from_slice_get b.progress-progress.result.role b.in-Some.own (role_of m.follower.query b.in-Some.own) Filter (progress.role b.in-Some.own inside) in
          let gives = get_or_from_slice_get b.progress-progress.result.gives_values b.in-Some.own (gives_values m.follower.query b.in-Some.own) false (progress.gives b.in-Some.own inside) in
          let taken = progress.taken b.in-Some.own inside in
          let few = progress.sound.read b.in-Some.own in
          record {
            role = folded_more table first_role (role_for w p) c.loop-member.role c.match-awaited.role (role_in w p (stages_of table members)) members i m h at
                (b.role-is ∙ b.first_role-role.ensures ∙ ap (first_role c.loop-member.role) (role ∙ sym (role_some w p b.in-Some.own stage waits))) before.role;
            read = folded_more table max (taken_for w p) c.loop-member.read c.match-awaited.read (taken_in w p (stages_of table members)) members i m h at
                (b.read-is ∙ b.max-read.ensures ∙ ap (max c.loop-member.read) (taken ∙ sym (taken_some w p b.in-Some.own stage waits))) before.read;
            few = omega (arith, b.read-is, b.max-read.ensures, few, before.few);
            gives = folded_more table ◌||◌ (gives_for w p) c.loop-member.gives_values c.match-awaited.gives_values (gives_in w p (stages_of table members)) members i m h at
                (b.gives_values-is ∙ ap (λ g. c.loop-member.gives_values || g) (gives ∙ sym (gives_some w p b.in-Some.own stage waits))) before.gives;
          })
      | in_default b ↦
          (let waits : awaited w p stage ≡ None = awaits_is w steps places table m is p c.awaited.result c.awaited.ensures ∙ b.in_default.is in
          record {
            role = folded_more table first_role (role_for w p) c.loop-member.role c.match-awaited.role (role_in w p (stages_of table members)) members i m h at
                (b.role-is ∙ sym (role_none w p c.loop-member.role stage waits)) before.role;
            read = folded_more table max (taken_for w p) c.loop-member.read c.match-awaited.read (taken_in w p (stages_of table members)) members i m h at
                (b.read-is ∙ sym (taken_none w p c.loop-member.read stage waits)) before.read;
            few = omega (arith, b.read-is, before.few);
            gives = folded_more table ◌||◌ (gives_for w p) c.loop-member.gives_values c.match-awaited.gives_values (gives_in w p (stages_of table members)) members i m h at
                (b.gives_values-is ∙ sym (gives_none w p c.loop-member.gives_values stage waits)) before.gives;
          })
    ]
