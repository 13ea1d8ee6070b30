use Rattle.std.proofs.Common.{◌+◌, List, [], ◌∷◌, ◌++◌, subst, sym}
use Rattle.std.proofs.lemmas.Result.{err_from_is_err_and}
use Rattle.daq_table.specs.declared.table_head.Head.{Head}
use Rattle.query_model.specs.Queries.{Query}
use Rattle.query_model.specs.Validity.{IsValid}
use Rattle.table_rounds.specs.SessionLaws.{AreValid}
use Rattle.daq_cli.specs.ScriptValues.{scripted_of}
use Rattle.daq_cli.specs.commands.Session.{typing_step}
use Rattle.daq_cli.proofs.Steps.{IsLeft, none_left, one_less, one_stops}
use Rattle.daq_cli.proofs.together.type_each.Goals as goal

valid_more : (head : Head) (queries : List Query) (query : Query) → AreValid head queries → IsValid head query → AreValid head (queries ++ query ∷ [])
valid_more head [] query all one = (one, tt)
valid_more head (first ∷ queries) query (valid, all) one = (valid, valid_more head queries query all one)

pub loop-one-preserved : goal.loop-one-preserved
loop-one-preserved c =
    let head = c.args.head.now in
    let queries = c.args.queries.now in
    let i = c.loop-one.one-index in
    let typed = c.loop-one.typed.items in
    let query = c.in_ok-type_one.field-0 in
    record {
      left = subst (IsLeft (typing_step head) scripted_of queries (i + 1)) (sym c.in_ok-push.ensures.items)
          (one_less (typing_step head) scripted_of queries i typed c.loop-one.invariant.left c.one-item.result c.loop-one-test.true (sym c.one-item.is) query c.in_ok-type_one.ensures.typed);
      valid = subst (AreValid head) (sym c.in_ok-push.ensures.items) (valid_more head typed query c.loop-one.invariant.valid c.in_ok-type_one.ensures.valid);
    }

pub returns-in_err-type_one-clause-refused : goal.returns-in_err-type_one-clause-refused
returns-in_err-type_one-clause-refused c =
    let p = err_from_is_err_and c.from_residual-in_err-type_one.result c.from_residual-in_err-type_one.ensures.1 in
    rw (p.1, p.2) (one_stops (typing_step c.args.head.now) scripted_of c.args.queries.now c.loop-one.one-index c.loop-one.typed.items c.loop-one.invariant.left
    c.one-item.result c.loop-one-test.true (sym c.one-item.is) c.in_err-type_one.field-0.0 c.in_err-type_one.ensures.refused)

pub returns-clause-typed : goal.returns-clause-typed
returns-clause-typed c =
    none_left (typing_step c.args.head.now) scripted_of c.args.queries.now c.loop-one.one-index c.loop-one.typed.items c.loop-one.invariant.left c.loop-one-test.false
