-- A text has one cut.
use Rattle.sql_tokens.proofs.OneCut.{one_cut}
use Rattle.sql_tokens.proofs.cut.one_cut.Goals as goal

pub returns : goal.returns
returns c = λ w ts us r s h k. let a = one_cut 0 w ts us r s h k in (a.tokens, a.rest)
