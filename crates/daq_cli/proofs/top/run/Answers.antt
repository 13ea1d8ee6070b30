-- What is shown is told, and what is accepted is answered.
use Rattle.std.proofs.Common.{◌∙◌, ap, subst, refl, inl}
use Rattle.daq_cli.specs.Refusals.{IsTold}
use Rattle.daq_cli.specs.Worlds.{Device, IsSame, WorldState}
use Rattle.daq_cli.proofs.Runs.{accepted_is, completes, done_apart, done_is, ends_so, same_after, same_cause, shown_is, unwritten}
use Rattle.daq_cli.proofs.top.run.Goals as goal

pub returns-in-Ok-clause-exact : goal.returns-in-Ok-clause-exact
returns-in-Ok-clause-exact g c = λ why shows.
    absurd (done_apart c.steps_are_exact.ensures c.one_command.ensures.commands c.one_command.ensures.places c.args.words.now c.args.world.now c.perform.new.world why c.in-Ok.ensures.done shows)

pub returns-in-Ok-clause-complete : goal.returns-in-Ok-clause-complete
returns-in-Ok-clause-complete g c = λ task accepts.
    inl (refl, done_is c.steps_are_exact.ensures c.one_command.ensures.commands c.one_command.ensures.places c.args.words.now c.args.world.now c.perform.new.world task c.in-Ok.ensures.done accepts)

pub returns-in-Err-clause-refused : goal.returns-in-Err-clause-refused
returns-in-Err-clause-refused g c = λ other.
    let after : WorldState = record {
      input = g.S.Source.state c.world.inside.input;
      side = g.S.Source.state c.world.inside.side;
      planes = g.P.Store.state c.world.inside.planes;
      made = g.K.Sink.state c.world.inside.made;
      out = g.K.Sink.state c.world.inside.out;
      err = g.K.Sink.state c.refuse.new.err;
    } in
    let told = subst (λ e. IsTold c.in-Err.why c.refuse.result e (g.K.Sink.state c.refuse.new.err)) (ap (λ w. w.err) c.world.view_is ∙ c.in-Err.ensures.quiet) c.refuse.ensures in
    (c.in-Err.why, same_cause c.args.words.now c.args.world.now c.perform.new.world after c.in-Err.why (ap (λ w. w.input) c.world.view_is) (ap (λ w. w.side) c.world.view_is) (ap (λ w. w.planes) c.world.view_is) (ap (λ w. w.made) c.world.view_is) (ap (λ w. w.out) c.world.view_is) c.in-Err.ensures.refused, told)

pub returns-in-Err-clause-exact : goal.returns-in-Err-clause-exact
returns-in-Err-clause-exact g c = λ why shows.
    let after : WorldState = record {
      input = g.S.Source.state c.world.inside.input;
      side = g.S.Source.state c.world.inside.side;
      planes = g.P.Store.state c.world.inside.planes;
      made = g.K.Sink.state c.world.inside.made;
      out = g.K.Sink.state c.world.inside.out;
      err = g.K.Sink.state c.refuse.new.err;
    } in
    let told = subst (λ e. IsTold c.in-Err.why c.refuse.result e (g.K.Sink.state c.refuse.new.err)) (ap (λ w. w.err) c.world.view_is ∙ c.in-Err.ensures.quiet) c.refuse.ensures in
    let cause = same_cause c.args.words.now c.args.world.now c.perform.new.world after c.in-Err.why (ap (λ w. w.input) c.world.view_is) (ap (λ w. w.side) c.world.view_is) (ap (λ w. w.planes) c.world.view_is) (ap (λ w. w.made) c.world.view_is) (ap (λ w. w.out) c.world.view_is) c.in-Err.ensures.refused in
    ends_so c.args.words.now c.in-Err.why why c.refuse.result c.args.world.now after told
    (shown_is c.steps_are_exact.ensures c.one_command.ensures.commands c.one_command.ensures.places c.args.words.now c.args.world.now after c.in-Err.why why cause shows)

pub returns-in-Err-clause-complete : goal.returns-in-Err-clause-complete
returns-in-Err-clause-complete g c = λ task accepts.
    let after : WorldState = record {
      input = g.S.Source.state c.world.inside.input;
      side = g.S.Source.state c.world.inside.side;
      planes = g.P.Store.state c.world.inside.planes;
      made = g.K.Sink.state c.world.inside.made;
      out = g.K.Sink.state c.world.inside.out;
      err = g.K.Sink.state c.refuse.new.err;
    } in
    let told = subst (λ e. IsTold c.in-Err.why c.refuse.result e (g.K.Sink.state c.refuse.new.err)) (ap (λ w. w.err) c.world.view_is ∙ c.in-Err.ensures.quiet) c.refuse.ensures in
    let cause = same_cause c.args.words.now c.args.world.now c.perform.new.world after c.in-Err.why (ap (λ w. w.input) c.world.view_is) (ap (λ w. w.side) c.world.view_is) (ap (λ w. w.planes) c.world.view_is) (ap (λ w. w.made) c.world.view_is) (ap (λ w. w.out) c.world.view_is) c.in-Err.ensures.refused in
    completes c.args.words.now accepts.command accepts.is_command c.in-Err.why task c.refuse.result c.args.world.now after told
    (accepted_is c.steps_are_exact.ensures c.one_command.ensures.commands c.one_command.ensures.places c.args.words.now c.args.world.now after c.in-Err.why task cause accepts)

pub returns-in-Err-clause-early : goal.returns-in-Err-clause-early
returns-in-Err-clause-early g c = λ done fault.
    let after : WorldState = record {
      input = g.S.Source.state c.world.inside.input;
      side = g.S.Source.state c.world.inside.side;
      planes = g.P.Store.state c.world.inside.planes;
      made = g.K.Sink.state c.world.inside.made;
      out = g.K.Sink.state c.world.inside.out;
      err = g.K.Sink.state c.refuse.new.err;
    } in
    let told = subst (λ e. IsTold c.in-Err.why c.refuse.result e (g.K.Sink.state c.refuse.new.err)) (ap (λ w. w.err) c.world.view_is ∙ c.in-Err.ensures.quiet) c.refuse.ensures in
    let cause = same_cause c.args.words.now c.args.world.now c.perform.new.world after c.in-Err.why (ap (λ w. w.input) c.world.view_is) (ap (λ w. w.side) c.world.view_is) (ap (λ w. w.planes) c.world.view_is) (ap (λ w. w.made) c.world.view_is) (ap (λ w. w.out) c.world.view_is) c.in-Err.ensures.refused in
    let same : (one : Device) → IsSame one c.args.world.now c.perform.new.world → IsSame one c.args.world.now after = same_after c.args.world.now c.perform.new.world after
    (ap (λ w. w.input) c.world.view_is) (ap (λ w. w.side) c.world.view_is) (ap (λ w. w.planes) c.world.view_is) (ap (λ w. w.made) c.world.view_is) (ap (λ w. w.out) c.world.view_is) in
    unwritten c.one_command.ensures.commands c.args.words.now c.args.world.now after c.in-Err.why c.refuse.result
    (λ refused one. same one (c.in-Err.ensures.untouched refused one)) (λ one none. same one (c.in-Err.ensures.stays one none)) cause told fault

pub returns-in-Err-clause-stays : goal.returns-in-Err-clause-stays
returns-in-Err-clause-stays g c = λ one none.
    let after : WorldState = record {
      input = g.S.Source.state c.world.inside.input;
      side = g.S.Source.state c.world.inside.side;
      planes = g.P.Store.state c.world.inside.planes;
      made = g.K.Sink.state c.world.inside.made;
      out = g.K.Sink.state c.world.inside.out;
      err = g.K.Sink.state c.refuse.new.err;
    } in
    same_after c.args.world.now c.perform.new.world after
    (ap (λ w. w.input) c.world.view_is) (ap (λ w. w.side) c.world.view_is) (ap (λ w. w.planes) c.world.view_is) (ap (λ w. w.made) c.world.view_is) (ap (λ w. w.out) c.world.view_is)
    one (c.in-Err.ensures.stays one none)

pub returns-in-Err-clause-aside : goal.returns-in-Err-clause-aside
returns-in-Err-clause-aside g c = λ refused one other.
    let after : WorldState = record {
      input = g.S.Source.state c.world.inside.input;
      side = g.S.Source.state c.world.inside.side;
      planes = g.P.Store.state c.world.inside.planes;
      made = g.K.Sink.state c.world.inside.made;
      out = g.K.Sink.state c.world.inside.out;
      err = g.K.Sink.state c.refuse.new.err;
    } in
    same_after c.args.world.now c.perform.new.world after
    (ap (λ w. w.input) c.world.view_is) (ap (λ w. w.side) c.world.view_is) (ap (λ w. w.planes) c.world.view_is) (ap (λ w. w.made) c.world.view_is) (ap (λ w. w.out) c.world.view_is)
    one (c.in-Err.ensures.aside refused one other)
