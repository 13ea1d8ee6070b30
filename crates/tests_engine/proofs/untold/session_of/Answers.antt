use Rattle.std.proofs.Common.{subst, sym, ◌≡◌}
use Rattle.std.proofs.lemmas.Result.{IfOk-weaker}
use Rattle.multi_session.specs.Sessions.{session_opened}
use Rattle.table_rounds.specs.Steps.{FitsSession}
use Rattle.table_rounds.proofs.Fitting.{fits_opened}
use Rattle.tests_engine.proofs.untold.session_of.Goals as goal

pub returns-clause-fits : goal.returns-clause-fits
returns-clause-fits c =
    let head = c.args.head.now in
    let near = c.exact.result in
    IfOk-weaker c.open.result (λ s. s ≡ session_opened c.args.queries.items head near) (λ s. FitsSession s head)
    (λ s is. subst (λ s. FitsSession s head) (sym is) (fits_opened c.args.queries.items head near c.requires.valid)) c.open.ensures.opened
