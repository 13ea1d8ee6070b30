-- A sign between terms is there where the keyword or sign at the front is one.
use Rattle.std.proofs.Common.{sym}
use Rattle.sql_tokens.specs.Lexeme.{views}
use Rattle.sql_text.specs.Number.{sum_of}
use Rattle.sql_text.proofs.Fixed.{no_front, other_front, this_front}
use Rattle.sql_text.proofs.look.sum_sign.Goals as goal

pub returns-in-Some-sum_of : goal.returns-in-Some-sum_of
returns-in-Some-sum_of c = this_front sum_of (views c.args.tokens.now) (views c.in-Some.rest.now) c.in-Some.found c.in-Some-sum_of.x c.in-Some.ensures (sym c.in-Some-sum_of.ensures)

pub returns-in-None-sum_of : goal.returns-in-None-sum_of
returns-in-None-sum_of c = other_front sum_of (views c.args.tokens.now) (views c.in-Some.rest.now) c.in-Some.found c.in-Some.ensures (sym c.in-None-sum_of.ensures)

pub returns-in-None : goal.returns-in-None
returns-in-None c = no_front sum_of (views c.args.tokens.now) c.in-None.ensures
