-- Each command does what it says, or stops with its cause.
use Rattle.std.proofs.Common.{sym, ap, ◌∙◌, subst, arith}
use Rattle.command_line.specs.Commands.{IsCommand, ask, combine, demo, help, info, load, query, session, upgrade, version}
use Rattle.command_line.specs.Values.{ask_of, combine_of, command_of, demo_of, info_of, load_of, query_of, session_of, upgrade_of}
use Rattle.daq_cli.specs.Runs.{IsCause}
use Rattle.daq_cli.specs.Scripts.{AcceptsScript}
use Rattle.daq_cli.specs.commands.Help.{help_text}
use Rattle.daq_cli.specs.commands.Version.{version_text}
use Rattle.daq_cli.proofs.Combine.{combine_stops}
use Rattle.daq_cli.proofs.Results.{if_err}
use Rattle.daq_cli.proofs.Runs.{apart_same, ask_stops, demo_stops, info_stops, load_stops, notice_stops, query_stops, session_stops, upgrade_stops}
use Rattle.daq_cli.proofs.Widths.{ask_width, demo_width, query_width, session_width}
use Rattle.daq_cli.proofs.top.perform.Goals as goal

pub carry_out-requires : goal.carry_out-requires
carry_out-requires g c =
    let small = ask_width c.args.words.now (ask_of c.in-Ok-Ask.asked) (subst (λ f. IsCommand c.args.words.now (command_of f)) c.in-Ok-Ask.field-0-is c.in-Ok-Ask.ensures.ok) in
    record { width = omega (arith, small) }

pub carry_out-requires-in-Ok-Combine : goal.carry_out-requires-in-Ok-Combine
carry_out-requires-in-Ok-Combine g c =
    let is : IsCommand c.args.words.now (combine (combine_of c.in-Ok-Combine.asked)) = subst (λ f. IsCommand c.args.words.now (command_of f)) c.in-Ok-Combine.field-0-is c.in-Ok-Combine.ensures.ok in
    let some = is.is_parts.some in
    record { parts = omega (arith, some) }

pub carry_out-requires-in-Ok-Demo : goal.carry_out-requires-in-Ok-Demo
carry_out-requires-in-Ok-Demo g c =
    let small = demo_width c.args.words.now (demo_of c.in-Ok-Demo.asked) (subst (λ f. IsCommand c.args.words.now (command_of f)) c.in-Ok-Demo.field-0-is c.in-Ok-Demo.ensures.ok) in
    record { width = omega (arith, small) }

pub carry_out-requires-in-Ok-Query : goal.carry_out-requires-in-Ok-Query
carry_out-requires-in-Ok-Query g c =
    let small = query_width c.args.words.now (query_of c.in-Ok-Query.asked) (subst (λ f. IsCommand c.args.words.now (command_of f)) c.in-Ok-Query.field-0-is c.in-Ok-Query.ensures.ok) in
    record { width = omega (arith, small) }

pub carry_out-requires-in-Ok-Session : goal.carry_out-requires-in-Ok-Session
carry_out-requires-in-Ok-Session g c =
    let is : IsCommand c.args.words.now (session (session_of c.in-Ok-Session.asked)) = subst (λ f. IsCommand c.args.words.now (command_of f)) c.in-Ok-Session.field-0-is c.in-Ok-Session.ensures.ok in
    let small = session_width c.args.words.now (session_of c.in-Ok-Session.asked) is in
    record { width = omega (arith, small); by_policy = is.by_policy }

pub returns-in-Ok-Session-clause-refused : goal.returns-in-Ok-Session-clause-refused
returns-in-Ok-Session-clause-refused g c =
    let is : IsCommand c.args.words.now (session (session_of c.in-Ok-Session.asked)) = subst (λ f. IsCommand c.args.words.now (command_of f)) c.in-Ok-Session.field-0-is c.in-Ok-Session.ensures.ok in
    if_err _ _ c.carry_out-in-Ok-Session.result _ _
    (λ why cause. IsCause.of_command (session (session_of c.in-Ok-Session.asked)) is
    (session_stops (session_of c.in-Ok-Session.asked) (g.S.Source.state c.world.inside.side) c.args.world.now.side (g.S.Source.state c.carry_out-in-Ok-Session.new.side)
    (g.P.Store.state c.world.inside.planes) c.args.world.now.planes (g.P.Store.state c.carry_out-in-Ok-Session.new.planes)
    (g.K.Sink.state c.world.inside.out) c.args.world.now.out (g.K.Sink.state c.carry_out-in-Ok-Session.new.out) why
    (ap (λ w. w.side) c.world.view_is) (ap (λ w. w.planes) c.world.view_is) (ap (λ w. w.out) c.world.view_is) cause)) c.carry_out-in-Ok-Session.ensures.refused

pub returns-in-Ok-Session-clause-aside : goal.returns-in-Ok-Session-clause-aside
returns-in-Ok-Session-clause-aside g c refused =
    let is : IsCommand c.args.words.now (session (session_of c.in-Ok-Session.asked)) = subst (λ f. IsCommand c.args.words.now (command_of f)) c.in-Ok-Session.field-0-is c.in-Ok-Session.ensures.ok in
    let view = c.world.view_is in
    let same = c.carry_out-in-Ok-Session.ensures.aside (λ accepted. refused (session (session_of c.in-Ok-Session.asked)) is
    (subst (λ w. AcceptsScript w.side.left) view accepted)) in
    apart_same c.args.world.now _ (ap (λ w. w.input) view) (same.0 ∙ ap (λ w. w.planes) view) (ap (λ w. w.made) view) (same.1 ∙ ap (λ w. w.out) view)

pub returns-in-Ok-Query-clause-refused : goal.returns-in-Ok-Query-clause-refused
returns-in-Ok-Query-clause-refused g c =
    let is : IsCommand c.args.words.now (query (query_of c.in-Ok-Query.asked)) = subst (λ f. IsCommand c.args.words.now (command_of f)) c.in-Ok-Query.field-0-is c.in-Ok-Query.ensures.ok in
    if_err _ _ c.carry_out-in-Ok-Query.result _ _
    (λ why cause. IsCause.of_command (query (query_of c.in-Ok-Query.asked)) is
    (query_stops (query_of c.in-Ok-Query.asked) (g.P.Store.state c.world.inside.planes) c.args.world.now.planes (g.P.Store.state c.carry_out-in-Ok-Query.new.planes)
    (g.K.Sink.state c.world.inside.out) c.args.world.now.out (g.K.Sink.state c.carry_out-in-Ok-Query.new.out) why
    (ap (λ w. w.planes) c.world.view_is) (ap (λ w. w.out) c.world.view_is) cause)) c.carry_out-in-Ok-Query.ensures.refused

pub returns-in-Ok-Ask-clause-refused : goal.returns-in-Ok-Ask-clause-refused
returns-in-Ok-Ask-clause-refused g c =
    let is : IsCommand c.args.words.now (ask (ask_of c.in-Ok-Ask.asked)) = subst (λ f. IsCommand c.args.words.now (command_of f)) c.in-Ok-Ask.field-0-is c.in-Ok-Ask.ensures.ok in
    if_err _ _ c.carry_out.result _ _
    (λ why cause. IsCause.of_command (ask (ask_of c.in-Ok-Ask.asked)) is
    (ask_stops (ask_of c.in-Ok-Ask.asked) (g.S.Source.state c.world.inside.input) c.args.world.now.input (g.S.Source.state c.carry_out.new.input)
    (g.K.Sink.state c.world.inside.out) c.args.world.now.out (g.K.Sink.state c.carry_out.new.out) why (ap (λ w. w.input) c.world.view_is) (ap (λ w. w.out) c.world.view_is) cause)) c.carry_out.ensures.refused

pub returns-in-Ok-Combine-clause-refused : goal.returns-in-Ok-Combine-clause-refused
returns-in-Ok-Combine-clause-refused g c =
    let is : IsCommand c.args.words.now (combine (combine_of c.in-Ok-Combine.asked)) = subst (λ f. IsCommand c.args.words.now (command_of f)) c.in-Ok-Combine.field-0-is c.in-Ok-Combine.ensures.ok in
    if_err _ _ c.carry_out-in-Ok-Combine.result _ _
    (λ why cause. IsCause.of_command (combine (combine_of c.in-Ok-Combine.asked)) is
    (combine_stops (combine_of c.in-Ok-Combine.asked) (g.S.Source.state c.world.inside.input) c.args.world.now.input (g.S.Source.state c.carry_out-in-Ok-Combine.new.input)
    (g.K.Sink.state c.world.inside.out) c.args.world.now.out (g.K.Sink.state c.carry_out-in-Ok-Combine.new.out) why (ap (λ w. w.input) c.world.view_is) (ap (λ w. w.out) c.world.view_is) cause)) c.carry_out-in-Ok-Combine.ensures.refused

pub returns-in-Ok-Demo-clause-refused : goal.returns-in-Ok-Demo-clause-refused
returns-in-Ok-Demo-clause-refused g c =
    let is : IsCommand c.args.words.now (demo (demo_of c.in-Ok-Demo.asked)) = subst (λ f. IsCommand c.args.words.now (command_of f)) c.in-Ok-Demo.field-0-is c.in-Ok-Demo.ensures.ok in
    if_err _ _ c.carry_out-in-Ok-Demo.result _ _
    (λ why cause. IsCause.of_command (demo (demo_of c.in-Ok-Demo.asked)) is
    (demo_stops (demo_of c.in-Ok-Demo.asked) (g.K.Sink.state c.world.inside.out) c.args.world.now.out (g.K.Sink.state c.carry_out-in-Ok-Demo.new.out) why (ap (λ w. w.out) c.world.view_is) cause)) c.carry_out-in-Ok-Demo.ensures.refused

pub returns-in-Ok-Load-clause-refused : goal.returns-in-Ok-Load-clause-refused
returns-in-Ok-Load-clause-refused g c =
    let is : IsCommand c.args.words.now (load (load_of c.in-Ok-Load.asked)) = subst (λ f. IsCommand c.args.words.now (command_of f)) c.in-Ok-Load.field-0-is c.in-Ok-Load.ensures.ok in
    if_err _ _ c.carry_out-in-Ok-Load.result _ _
    (λ why cause. IsCause.of_command (load (load_of c.in-Ok-Load.asked)) is
    (load_stops (load_of c.in-Ok-Load.asked) (g.S.Source.state c.world.inside.input) c.args.world.now.input (g.S.Source.state c.carry_out-in-Ok-Load.new.input)
    (g.K.Sink.state c.world.inside.made) c.args.world.now.made (g.K.Sink.state c.carry_out-in-Ok-Load.new.made)
    (g.K.Sink.state c.world.inside.out) c.args.world.now.out (g.K.Sink.state c.carry_out-in-Ok-Load.new.out) why
    (ap (λ w. w.input) c.world.view_is) (ap (λ w. w.made) c.world.view_is) (ap (λ w. w.out) c.world.view_is) cause)) c.carry_out-in-Ok-Load.ensures.refused

pub returns-in-Ok-Info-clause-refused : goal.returns-in-Ok-Info-clause-refused
returns-in-Ok-Info-clause-refused g c =
    let is : IsCommand c.args.words.now (info (info_of c.in-Ok-Info.field-0-0)) = subst (λ f. IsCommand c.args.words.now (command_of f)) c.in-Ok-Info.field-0-is c.in-Ok-Info.ensures.ok in
    if_err _ _ c.carry_out-in-Ok-Info.result _ _
    (λ why cause. IsCause.of_command (info (info_of c.in-Ok-Info.field-0-0)) is
    (info_stops (g.P.Store.state c.world.inside.planes) c.args.world.now.planes (g.P.Store.state c.carry_out-in-Ok-Info.new.planes)
    (g.K.Sink.state c.world.inside.out) c.args.world.now.out (g.K.Sink.state c.carry_out-in-Ok-Info.new.out) why
    (ap (λ w. w.planes) c.world.view_is) (ap (λ w. w.out) c.world.view_is) cause)) c.carry_out-in-Ok-Info.ensures.refused

pub returns-in-Ok-Upgrade-clause-refused : goal.returns-in-Ok-Upgrade-clause-refused
returns-in-Ok-Upgrade-clause-refused g c =
    let is : IsCommand c.args.words.now (upgrade (upgrade_of c.in-Ok-Upgrade.field-0-0)) = subst (λ f. IsCommand c.args.words.now (command_of f)) c.in-Ok-Upgrade.field-0-is c.in-Ok-Upgrade.ensures.ok in
    if_err _ _ c.carry_out-in-Ok-Upgrade.result _ _
    (λ why cause. IsCause.of_command (upgrade (upgrade_of c.in-Ok-Upgrade.field-0-0)) is
    (upgrade_stops (g.P.Store.state c.world.inside.planes) c.args.world.now.planes (g.P.Store.state c.carry_out-in-Ok-Upgrade.new.planes)
    (g.K.Sink.state c.world.inside.made) c.args.world.now.made (g.K.Sink.state c.carry_out-in-Ok-Upgrade.new.made)
    (g.K.Sink.state c.world.inside.out) c.args.world.now.out (g.K.Sink.state c.carry_out-in-Ok-Upgrade.new.out) why
    (ap (λ w. w.planes) c.world.view_is) (ap (λ w. w.made) c.world.view_is) (ap (λ w. w.out) c.world.view_is) cause)) c.carry_out-in-Ok-Upgrade.ensures.refused

pub returns-in-Ok-Help-clause-refused : goal.returns-in-Ok-Help-clause-refused
returns-in-Ok-Help-clause-refused g c =
    let is : IsCommand c.args.words.now help = subst (λ f. IsCommand c.args.words.now (command_of f)) c.in-Ok-Help.field-0-is c.in-Ok-Help.ensures.ok in
    if_err _ _ c.carry_out-in-Ok-Help.result _ _
    (λ why cause. IsCause.of_command help is
    (notice_stops help_text (g.K.Sink.state c.world.inside.out) c.args.world.now.out (g.K.Sink.state c.carry_out-in-Ok-Help.new.out) why (ap (λ w. w.out) c.world.view_is) cause)) c.carry_out-in-Ok-Help.ensures.refused

pub returns-in-Ok-Version-clause-refused : goal.returns-in-Ok-Version-clause-refused
returns-in-Ok-Version-clause-refused g c =
    let is : IsCommand c.args.words.now version = subst (λ f. IsCommand c.args.words.now (command_of f)) c.in-Ok-Version.field-0-is c.in-Ok-Version.ensures.ok in
    if_err _ _ c.carry_out-in-Ok-Version.result _ _
    (λ why cause. IsCause.of_command version is
    (notice_stops version_text (g.K.Sink.state c.world.inside.out) c.args.world.now.out (g.K.Sink.state c.carry_out-in-Ok-Version.new.out) why (ap (λ w. w.out) c.world.view_is) cause)) c.carry_out-in-Ok-Version.ensures.refused

pub returns-in-Err-clause-refused : goal.returns-in-Err-clause-refused
returns-in-Err-clause-refused g c = subst (IsCause c.args.words.now c.args.world.now c.args.world.now) (sym c.from.ensures) (IsCause.usage c.in-Err.usage.place c.in-Err.ensures.usage)
