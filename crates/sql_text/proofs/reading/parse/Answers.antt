-- From the sentence of the tokens, or their refusal, to that of the text.
use Rattle.std.proofs.Common.{drop, subst, arith}
use Rattle.std.proofs.lemmas.List.{drop_all}
use Rattle.sql_tokens.specs.Lexeme.{views}
use Rattle.sql_text.specs.declared.fault.Cause.TheVariants as causes
use Rattle.sql_text.specs.Tree.{query_of}
use Rattle.sql_text.specs.Answer.{Breaks, place}
use Rattle.sql_text.proofs.Answering.{end_is, is_text, breaks, breaks_behind, answered, no_fault, no_rest, faulted, not_done}
use Rattle.sql_text.proofs.reading.parse.Goals as goal

pub returns-then-end-text-clause-only : goal.returns-then-end-text-clause-only
returns-then-end-text-clause-only c =
    let text = c.args.text.now in
    let end = c.in_ok-tokens.end in
    let cut = rw c.as_bytes.ensures.value at c.in_ok-tokens.ensures.cut in
    λ q h. not_done text end (omega arith) (no_rest text (views c.in_ok-tokens.tokens.items) (drop end text) (omega arith) cut q h)

pub returns-then-end-text-clause-refused : goal.returns-then-end-text-clause-refused
returns-then-end-text-clause-refused c =
    let text = c.args.text.now in
    let end = c.in_ok-tokens.end in
    let cut = rw c.as_bytes.ensures.value at c.in_ok-tokens.ensures.cut in
    let within = rw c.as_bytes.ensures.value at c.in_ok-tokens.ensures.within in
    let read = rw c.as_slice.ensures.value at c.in-Ok.ensures in
    subst (Breaks text causes.Syntax) (end_is text end within)
    (breaks_behind text (views c.in_ok-tokens.tokens.items) (drop end text) (omega arith) cut (query_of c.in-Ok.tree) read (not_done text end (omega arith)))

pub returns-in-Ok-clause-found : goal.returns-in-Ok-clause-found
returns-in-Ok-clause-found c =
    let text = c.args.text.now in
    let end = c.in_ok-tokens.end in
    let cut = rw c.as_bytes.ensures.value at c.in_ok-tokens.ensures.cut in
    let read = rw c.as_slice.ensures.value at c.in-Ok.ensures in
    is_text text (views c.in_ok-tokens.tokens.items) (drop end text) (omega arith) cut (query_of c.in-Ok.tree) (drop_all end text (omega arith)) read

pub returns-in-Ok-clause-only : goal.returns-in-Ok-clause-only
returns-in-Ok-clause-only c =
    let text = c.args.text.now in
    let end = c.in_ok-tokens.end in
    let cut = rw c.as_bytes.ensures.value at c.in_ok-tokens.ensures.cut in
    let read = rw c.as_slice.ensures.value at c.in-Ok.ensures in
    λ q h. answered text (views c.in_ok-tokens.tokens.items) (drop end text) (omega arith) cut c.in-Ok.tree q read h

pub returns-clause-only : goal.returns-clause-only
returns-clause-only c =
    let text = c.args.text.now in
    let end = c.in_ok-tokens.end in
    let cut = rw c.as_bytes.ensures.value at c.in_ok-tokens.ensures.cut in
    let read = rw (c.in-Err-Stop.field-0-is, c.as_slice.ensures.value) at c.in-Err-Stop.ensures in
    λ q h. absurd (no_fault text (views c.in_ok-tokens.tokens.items) (drop end text) (omega arith) cut c.in-Err-Stop.stop q read h)

pub returns-clause-refused : goal.returns-clause-refused
returns-clause-refused c =
    let text = c.args.text.now in
    let end = c.in_ok-tokens.end in
    let cut = rw c.as_bytes.ensures.value at c.in_ok-tokens.ensures.cut in
    let within = rw c.as_bytes.ensures.value at c.in_ok-tokens.ensures.within in
    let read = rw (c.in-Err-Stop.field-0-is, c.as_slice.ensures.value) at c.in-Err-Stop.ensures in
    let ts = views c.in_ok-tokens.tokens.items in
    let stop = c.in-Err-Stop.stop in
    let broken = breaks text ts (drop end text) (omega arith) cut stop read in
    rw (c.fault.ensures, c.place.ensures, c.as_slice-in-Err-Stop.ensures.value) (faulted text stop.cause (place end ts stop.left) (subst (λ n. Breaks text stop.cause (place n ts stop.left)) (end_is text end within) broken))
