use Rattle.std.proofs.Common.{◌++◌, codes, refl, sym, ◌∙◌}
use Rattle.std.proofs.lemmas.List.{append_cancel_left}
use Rattle.std.proofs.lemmas.Option.{none-some, same_Some}
use Rattle.report_text.proofs.EndPlaces.{bracketed_laid, high_found, low_found, word_found}
use Rattle.report_text.specs.Layouts.{tail_text}
use Rattle.report_text.proofs.layouts.bracketed.Goals as goal

pub returns-in_err-second-clause-read : goal.returns-in_err-second-clause-read
returns-in_err-second-clause-read c = λ null low high h j k e.
    (let first = low_found c.args.inner.now c.around_front.result.0.now c.around_front.result.1.now null low high
    c.around_front.ensures.front c.around_front.ensures.rest h e in
    absurd (c.in_err-second.ensures (high ++ (codes "]" ++ tail_text null)) first.1))

pub returns-in_err-tail-clause-read : goal.returns-in_err-tail-clause-read
returns-in_err-tail-clause-read c = λ null low high h j k e.
    (let first = low_found c.args.inner.now c.around_front.result.0.now c.around_front.result.1.now null low high
    c.around_front.ensures.front c.around_front.ensures.rest h e in
    let second = append_cancel_left (codes ", ") (high ++ (codes "]" ++ tail_text null)) c.in_ok-second.second.now (sym first.1 ∙ c.in_ok-second.ensures) in
    let found = high_found c.in_ok-second.second.now c.around_front-2.result.0.now c.around_front-2.result.1.now null high
    c.around_front-2.ensures.front c.around_front-2.ensures.rest j second in
    absurd (c.in_err-tail.ensures (tail_text null) found.1))

pub returns-in_err-null-clause-read : goal.returns-in_err-null-clause-read
returns-in_err-null-clause-read c = λ null low high h j k e.
    (let first = low_found c.args.inner.now c.around_front.result.0.now c.around_front.result.1.now null low high
    c.around_front.ensures.front c.around_front.ensures.rest h e in
    let second = append_cancel_left (codes ", ") (high ++ (codes "]" ++ tail_text null)) c.in_ok-second.second.now (sym first.1 ∙ c.in_ok-second.ensures) in
    let found = high_found c.in_ok-second.second.now c.around_front-2.result.0.now c.around_front-2.result.1.now null high
    c.around_front-2.ensures.front c.around_front-2.ensures.rest j second in
    let word = word_found c.in_ok-tail.tail.now c.nullity.result null c.nullity.ensures.never c.nullity.ensures.possibly k (sym c.in_ok-tail.ensures ∙ found.1) in
    absurd (none-some null (sym c.in_err-null.was ∙ word)))

pub returns-clause-read : goal.returns-clause-read
returns-clause-read c = λ null low high h j k e.
    (let first = low_found c.args.inner.now c.around_front.result.0.now c.around_front.result.1.now null low high
    c.around_front.ensures.front c.around_front.ensures.rest h e in
    let second = append_cancel_left (codes ", ") (high ++ (codes "]" ++ tail_text null)) c.in_ok-second.second.now (sym first.1 ∙ c.in_ok-second.ensures) in
    let found = high_found c.in_ok-second.second.now c.around_front-2.result.0.now c.around_front-2.result.1.now null high
    c.around_front-2.ensures.front c.around_front-2.ensures.rest j second in
    let word = word_found c.in_ok-tail.tail.now c.nullity.result null c.nullity.ensures.never c.nullity.ensures.possibly k (sym c.in_ok-tail.ensures ∙ found.1) in
    record { word = same_Some _ _ (sym c.in_ok-null.was ∙ word); single_so = λ _. refl; ends = λ _. (first.0, found.0) })

pub returns-clause-laid : goal.returns-clause-laid
returns-clause-laid c =
    bracketed_laid c.in_ok-null.null c.around_front.result.0.now c.around_front-2.result.0.now c.around_front.result.1.now c.in_ok-second.second.now
    c.around_front-2.result.1.now c.in_ok-tail.tail.now c.args.inner.now c.in_ok-null.ensures.is c.around_front.ensures.whole c.in_ok-second.ensures
    c.around_front-2.ensures.whole c.in_ok-tail.ensures

pub returns-clause-nothing : goal.returns-clause-nothing
returns-clause-nothing c = λ e. absurd (c.in_ok-null.ensures.is.some e)
