use Rattle.std.proofs.Common.{◌≡◌, ◌-◌, None, suc, sym, subst, drop, arith}
use Rattle.std.proofs.lemmas.List.{take_rest}
use Rattle.report_text.proofs.LastOutside.{hit_found}
use Rattle.report_text.specs.Quotes.{is_open, last_outside}
use Rattle.report_text.proofs.quotes.last_outside.Goals as goal

pub returns-then-begins_outside-clause-place : goal.returns-then-begins_outside-clause-place
returns-then-begins_outside-clause-place c =
    let place = c.loop-place.place - 1 in
    let some = c.loop-place-test.true in
    let within = c.loop-place.invariant.within in
    let next : suc place ≡ c.loop-place.place = omega (arith, some) in
    let begins = sym c.if-begins_outside.ensures in
    sym (hit_found place c.args.word.now c.args.text.now c.loop-place.quoted (omega (arith, some, within))
    (subst (λ n. c.loop-place.quoted ≡ is_open (drop n c.args.text.now)) (sym next) c.loop-place.invariant.quoted)
    (subst (λ n. last_outside c.args.word.now (drop n c.args.text.now) ≡ None) (sym next) c.loop-place.invariant.none)
    (rw (c.turned-quoted.ensures, take_rest c.args.text.now place) at begins))
