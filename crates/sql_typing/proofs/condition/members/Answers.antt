-- One more value is typed, or is the first fault.
use Rattle.std.proofs.Common.{◌≡◌, ◌∙◌, ap, rules, to_z, of_z}
use Rattle.std.specs.Int.{w128}
use Rattle.std.proofs.lemmas.Result.{err_from_is_err_and}
use Rattle.sql_text.specs.Tree.{name_of, operand_of}
use Rattle.sql_typing.specs.Typing.{member, spot_in}
use Rattle.sql_typing.proofs.Lists.{next_pushed, rest_is}
use Rattle.sql_typing.proofs.Values.{bad_value, next_value, one_too_many}
use Rattle.sql_typing.proofs.condition.members.Goals as goal

pub returns-in_err-spot : goal.returns-in_err-spot
returns-in_err-spot c =
    let p = err_from_is_err_and c.from_residual.result c.from_residual.ensures.1 in
    let rest = rest_is operand_of c.args.values.now c.loop-before.before c.index-values-before.result c.loop-before-test.true c.index-values-before.is in
    rw p.1 (rw p.2 (bad_value _ c.loop-before.before (operand_of c.index-values-before.result) _ _ _ c.in_err-spot.field-0.0 rest c.loop-before.invariant.faults c.in_err-spot.ensures))

pub returns-then-before-eq-MOST_VALUES : goal.returns-then-before-eq-MOST_VALUES
returns-then-before-eq-MOST_VALUES c =
    let rest = rest_is operand_of c.args.values.now c.loop-before.before c.index-values-before.result c.loop-before-test.true c.index-values-before.is in
    rw c.place_of_value.ensures (one_too_many _ c.loop-before.before (operand_of c.index-values-before.result) _ _ _ rest c.loop-before.invariant.faults c.in_ok-spot.ensures.0 c.if-before-eq-MOST_VALUES.true)

pub loop-before-preserved : goal.loop-before-preserved
loop-before-preserved c =
    let rest = rest_is operand_of c.args.values.now c.loop-before.before c.index-values-before.result c.loop-before-test.true c.index-values-before.is in
    let back : to_z w128 (of_z w128 c.member.result) ≡ c.member.result = search rules in
    record {
      faults = next_value _ c.loop-before.before (operand_of c.index-values-before.result) _ _ _ rest c.loop-before.invariant.faults c.in_ok-spot.ensures.0 c.if-before-eq-MOST_VALUES.false;
      values = next_pushed (λ v. member (spot_in c.args.table.now (name_of c.args.column.now) v)) c.loop-before.members.items c.push.new.self.items _ (operand_of c.index-values-before.result) _ _ _ rest
          (back ∙ (c.member.ensures ∙ ap member c.in_ok-spot.ensures.1)) c.in_ok-push.ensures.items c.loop-before.invariant.values;
    }
