use Rattle.std.proofs.Common.{◌≡◌, ◌∙◌, [], List, ℕ, sym, ap, get_or, length, arith}
use Rattle.std.proofs.lemmas.List.{get_or_read}
use Rattle.std.proofs.lemmas.List.Sums.{position_or_len_is}
use Rattle.std.specs.Str.{bytes_eq}
use Rattle.table_gen.specs.Draws.{text_of}
use Rattle.table_gen.proofs.names.place_of.Goals as goal

pub returns-then-eq-clause-place : goal.returns-then-eq-clause-place
returns-then-eq-clause-place c =
    let names = c.args.names.now in
    let place = c.loop-place.place in
    let text = c.as_slice.ensures ∙ c.name_of-text.ensures in
    let name = c.as_slice-in-loop-place.ensures ∙ get_or_read names place c.index-names-place.result c.loop-place-test.true c.index-names-place.is [] in
    sym (position_or_len_is (bytes_eq (text_of c.args.code)) names place [] (omega (arith, c.loop-place-test.true)) c.loop-place.invariant
    (λ lt. sym (ap (λ (t : List ℕ). bytes_eq t (get_or names place [])) text) ∙ sym (ap (λ (n : List ℕ). bytes_eq c.as_slice.result.now n) name) ∙ sym c.eq.ensures ∙ c.if-eq.true))

pub returns-clause-place : goal.returns-clause-place
returns-clause-place c =
    let end : c.loop-place.place ≡ length c.args.names.now = omega (arith, c.loop-place-test.false, c.loop-place.auto.place-end) in
    sym end ∙ sym (position_or_len_is (bytes_eq (text_of c.args.code)) c.args.names.now c.loop-place.place [] (omega (arith, end)) c.loop-place.invariant (λ lt. absurd (omega (arith, lt, end))))
