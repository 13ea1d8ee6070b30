-- A comparison is there where the keyword or sign at the front is one.
use Rattle.std.proofs.Common.{sym}
use Rattle.sql_tokens.specs.Lexeme.{views}
use Rattle.sql_text.specs.Number.{cmp_of}
use Rattle.sql_text.proofs.Fixed.{no_front, other_front, this_front}
use Rattle.sql_text.proofs.look.comparison.Goals as goal

pub returns-in-Some-cmp_of : goal.returns-in-Some-cmp_of
returns-in-Some-cmp_of c = this_front cmp_of (views c.args.tokens.now) (views c.in-Some.rest.now) c.in-Some.found c.in-Some-cmp_of.x c.in-Some.ensures (sym c.in-Some-cmp_of.ensures)

pub returns-in-None-cmp_of : goal.returns-in-None-cmp_of
returns-in-None-cmp_of c = other_front cmp_of (views c.args.tokens.now) (views c.in-Some.rest.now) c.in-Some.found c.in-Some.ensures (sym c.in-None-cmp_of.ensures)

pub returns-in-None : goal.returns-in-None
returns-in-None c = no_front cmp_of (views c.args.tokens.now) c.in-None.ensures
