use Rattle.row_values.proofs.shares.shares_of.Goals as goal

pub returns-then-may-must-clause-shares : goal.returns-then-may-must-clause-shares
returns-then-may-must-clause-shares c = λ give gives. c.sure_shares.ensures.shares give c.args.must c.if-may-must.true gives
