use Rattle.std.proofs.Common.{◌≡◌, ◌+◌, true, sym, ◌∙◌, arith, inr}
use Rattle.plane_file.proofs.NameSteps.{checks_done, checks_step, end_done, end_step, name_within, names_done, names_step, names_stop}
use Rattle.plane_file.specs.Checks.{byte_at, is_name, name_at}
use Rattle.plane_file.proofs.names.read_names.Goals as goal

pub returns-then-not-is_name-clause-err : goal.returns-then-not-is_name-clause-err
returns-then-not-is_name-clause-err c =
    inr (sym c.loop.invariant.checks ∙ names_stop c.args.count c.loop.counter c.args.bytes.now c.loop.before c.loop.place c.loop-test.true (sym c.is_name.ensures ∙ c.if-not-is_name.true))

pub loop-preserved : goal.loop-preserved
loop-preserved c =
    let i = c.loop.counter in
    let count = c.args.count in
    let bytes = c.args.bytes.now in
    let place = c.loop.place in
    let here : is_name bytes c.loop.before place ≡ true = sym c.is_name.ensures ∙ c.if-not-is_name.false in
    let next : place + (1 + c.byte_at.result) ≡ place + 1 + byte_at bytes place = omega (arith, c.byte_at.ensures) in
    let name : c.new.result ≡ name_at bytes place = c.new.ensures ∙ c.in_ok-from_slice.ensures.items ∙ c.name_at.ensures in
    let within = name_within bytes c.loop.before place here in
    record {
      names = rw (next, c.in_ok-push.ensures.items, name) (names_step c.loop.names.items count i bytes place c.loop-test.true ∙ c.loop.invariant.names);
      end = rw next (end_step count i bytes place c.loop-test.true ∙ c.loop.invariant.end);
      checks = rw next (checks_step count i bytes c.loop.before place c.loop-test.true here ∙ c.loop.invariant.checks);
      within = omega (arith, next, within);
      before = c.loop.invariant.within;
    }

pub returns-clause-ok : goal.returns-clause-ok
returns-clause-ok c =
    let i = c.loop.counter in
    let bytes = c.args.bytes.now in
    let place = c.loop.place in
    let end = sym (end_done c.args.count i bytes place c.loop-test.false) ∙ c.loop.invariant.end in
    record {
      names_are = c.new-2.ensures ∙ sym (names_done c.loop.names.items c.args.count i bytes place c.loop-test.false) ∙ c.loop.invariant.names;
      end_is = end;
      within = c.loop.invariant.within;
      passed = sym c.loop.invariant.checks ∙ checks_done c.args.count i bytes c.loop.before place c.loop-test.false;
    }
