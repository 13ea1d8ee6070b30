-- A call is there where the keyword or sign at the front is one.
use Rattle.std.proofs.Common.{sym}
use Rattle.sql_tokens.specs.Lexeme.{views}
use Rattle.sql_text.specs.Number.{call_of}
use Rattle.sql_text.proofs.Fixed.{no_front, other_front, this_front}
use Rattle.sql_text.proofs.look.call_token.Goals as goal

pub returns-in-Some-call_of : goal.returns-in-Some-call_of
returns-in-Some-call_of c = this_front call_of (views c.args.tokens.now) (views c.in-Some.rest.now) c.in-Some.found c.in-Some-call_of.x c.in-Some.ensures (sym c.in-Some-call_of.ensures)

pub returns-in-None-call_of : goal.returns-in-None-call_of
returns-in-None-call_of c = other_front call_of (views c.args.tokens.now) (views c.in-Some.rest.now) c.in-Some.found c.in-Some.ensures (sym c.in-None-call_of.ensures)

pub returns-in-None : goal.returns-in-None
returns-in-None c = no_front call_of (views c.args.tokens.now) c.in-None.ensures
