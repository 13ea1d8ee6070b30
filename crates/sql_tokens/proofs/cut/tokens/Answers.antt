-- A blank or a token more keeps the cut, which ends where no token begins.
use Rattle.std.proofs.Common.{sym, arith}
use Rattle.std.proofs.lemmas.List.{map_push}
use Rattle.sql_tokens.specs.Lexeme.{views, mark_of}
use Rattle.sql_tokens.proofs.Strings.{rest_is}
use Rattle.sql_tokens.proofs.Cutting.{past_blank, no_more, past_token, at_end}
use Rattle.sql_tokens.proofs.cut.tokens.Goals as goal

pub loop-at-preserved-then-is_blank : goal.loop-at-preserved-then-is_blank
loop-at-preserved-then-is_blank c = record {
  completes = past_blank c.args.text.now c.loop-at.at (views c.loop-at.out.items) c.loop-at-test.true (sym c.if-is_blank.ensures) c.loop-at.invariant.completes;
  within = omega arith;
}

pub returns-in_default-clause-cut : goal.returns-in_default-clause-cut
returns-in_default-clause-cut c =
    let none = rw (c.in_default.is, rest_is c.args.text.now c.loop-at.at) at c.in_ok-kind.ensures in
    no_more c.args.text.now c.loop-at.at (views c.loop-at.out.items) c.loop-at-test.true (sym c.if-is_blank.ensures) none c.loop-at.invariant.completes

pub overflow_sub-at : goal.overflow_sub-at
overflow_sub-at c =
    let found = rw (c.in-Some.is, rest_is c.args.text.now c.loop-at.at) at c.in_ok-kind.ensures in
    let p = past_token c.args.text.now c.loop-at.at (views c.loop-at.out.items) c.loop-at-test.true (mark_of c.in-Some.kind) c.in-Some.behind.now found c.loop-at.invariant.completes in
    p.2

pub loop-at-smaller : goal.loop-at-smaller
loop-at-smaller c =
    let found = rw (c.in-Some.is, rest_is c.args.text.now c.loop-at.at) at c.in_ok-kind.ensures in
    let p = past_token c.args.text.now c.loop-at.at (views c.loop-at.out.items) c.loop-at-test.true (mark_of c.in-Some.kind) c.in-Some.behind.now found c.loop-at.invariant.completes in
    omega (arith, p.1, p.2)

pub loop-at-preserved : goal.loop-at-preserved
loop-at-preserved c =
    let found = rw (c.in-Some.is, rest_is c.args.text.now c.loop-at.at) at c.in_ok-kind.ensures in
    let p = past_token c.args.text.now c.loop-at.at (views c.loop-at.out.items) c.loop-at-test.true (mark_of c.in-Some.kind) c.in-Some.behind.now found c.loop-at.invariant.completes in
    rw (c.in_ok-push.ensures.items, map_push) (record { completes = p.0; within = omega arith })

pub returns-clause-cut : goal.returns-clause-cut
returns-clause-cut c = at_end c.args.text.now c.loop-at.at (views c.loop-at.out.items) c.loop-at-test.false c.loop-at.invariant.completes
