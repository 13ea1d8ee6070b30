-- Each byte read keeps the string of the whole text.
use Rattle.std.proofs.Common.{◌≡◌, false, length, ◌∷◌, [], vec_len, arith}
use Rattle.std.proofs.lemmas.Bool.{eq-eqb, ne_eqb}
use Rattle.std.proofs.lemmas.List.{drop_all, length-append}
use Rattle.sql_tokens.specs.Reads.{string_from}
use Rattle.sql_tokens.proofs.Strings.{plain, first, second, over, over_at_end, endless, rest_is, within_push}
use Rattle.sql_tokens.proofs.string.string.Goals as goal

pub returns-then-b-ne39 : goal.returns-then-b-ne39
returns-then-b-ne39 c =
    let text = c.args.text.now in
    let so_far = rw c.if-ended.true at c.loop-i.invariant.reads in
    rw (rest_is text c.loop-i.i) (over text c.loop-i.out.items c.loop-i.i c.loop-i.last (string_from false text) c.loop-i-test.true c.loop-i.invariant.within (ne_eqb _ _ c.if-b-ne39.true) so_far)

pub loop-i-preserved-then-ended : goal.loop-i-preserved-then-ended
loop-i-preserved-then-ended c =
    let text = c.args.text.now in
    let out = c.loop-i.out.items in
    let so_far = rw c.if-ended.true at c.loop-i.invariant.reads in
    let len-is : vec_len c.loop-i.out ≡ length out = omega (arith, c.loop-i.out.ok.0) in
    rw (c.in_ok-push.ensures.items, c.len.ensures, len-is) (record {
      reads = second text out c.loop-i.i c.loop-i.last (string_from false text) c.loop-i-test.true c.loop-i.invariant.within (eq-eqb _ _ c.if-b-ne39.false) so_far;
      within = (omega (arith, length-append out (39 ∷ [])), omega arith);
    })

pub loop-i-preserved-then-b-eq39 : goal.loop-i-preserved-then-b-eq39
loop-i-preserved-then-b-eq39 c =
    let text = c.args.text.now in
    let so_far = rw c.if-ended.false at c.loop-i.invariant.reads in
    record {
      reads = first text c.loop-i.out.items c.loop-i.i c.loop-i.last (string_from false text) c.loop-i-test.true c.loop-i.invariant.within (eq-eqb _ _ c.if-b-eq39.true) so_far;
      within = c.loop-i.invariant.within;
    }

pub loop-i-preserved : goal.loop-i-preserved
loop-i-preserved c =
    let text = c.args.text.now in
    let so_far = rw c.if-ended.false at c.loop-i.invariant.reads in
    rw (c.if-ended.false, c.in_ok-push-2.ensures.items) (record {
      reads = plain text c.loop-i.out.items c.loop-i.i c.loop-i.last (string_from false text) c.loop-i-test.true c.loop-i.invariant.within (ne_eqb _ _ c.if-b-eq39.false) so_far;
      within = within_push c.loop-i.out.items text _ c.loop-i.last c.loop-i.invariant.within;
    })

pub returns-then-ended-2 : goal.returns-then-ended-2
returns-then-ended-2 c =
    let text = c.args.text.now in
    let so_far = rw c.if-ended-2.true at c.loop-i.invariant.reads in
    rw (rest_is text (length text), drop_all (length text) text (omega arith)) (over_at_end text c.loop-i.out.items c.loop-i.i c.loop-i.last (string_from false text) c.loop-i-test.false so_far)

pub returns-in-None : goal.returns-in-None
returns-in-None c =
    let text = c.args.text.now in
    let so_far = rw c.if-ended-2.false at c.loop-i.invariant.reads in
    rw c.in-None.is at (endless text c.loop-i.out.items c.loop-i.i c.loop-i.last (string_from false text) c.loop-i-test.false so_far)

pub returns : goal.returns
returns c =
    let text = c.args.text.now in
    let so_far = rw c.if-ended-2.false at c.loop-i.invariant.reads in
    rw (rest_is text c.in-Some.i, c.truncate.ensures.items) (rw c.in-Some.is at (endless text c.loop-i.out.items c.loop-i.i c.loop-i.last (string_from false text) c.loop-i-test.false so_far))
