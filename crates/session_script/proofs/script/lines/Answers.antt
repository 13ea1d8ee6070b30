use Rattle.std.proofs.Common.{◌≡◌, ◌+◌, ◌++◌, [], ◌∷◌, length, length-append, drop, lit<, map, ap, sym, subst, ◌∙◌, arith}
use Rattle.std.proofs.lemmas.Iterator.Consumers.{YieldsList-at, YieldsList-turn, YieldsList-end}
use Rattle.std.proofs.lemmas.Iterator.Splits.{YieldsList-from_str_split}
use Rattle.session_script.specs.Lines.{line_of, lines_from, queries_of, texts_of}
use Rattle.session_script.proofs.Turns.{last_turn, next_turn}
use Rattle.session_script.proofs.script.lines.Goals as goal

pub lines-preserved : goal.lines-preserved
lines-preserved c =
    let script = c.args.script.now in
    let turn = YieldsList-turn (YieldsList-at c.into_iter-text-iterator.ensures.into_iter_gives (YieldsList-from_str_split 10 script (lit< tt) c.split-text-items.ensures.text c.split-text-items.ensures.has_more c.split-text-items.ensures.pattern)) c.lines.yielded _ c.lines.yielded_by _ _ c.in-Some.text c.in-Some.is c.next.ensures.steps in
    let further : length (c.lines.yielded ++ c.in-Some.text ∷ []) ≡ length c.lines.yielded + 1 = length-append c.lines.yielded (c.in-Some.text ∷ []) in
    let taken = c.in_ok-take_line.ensures ∙ ap (λ n. map line_of c.lines.queries.items ++ lines_from (n + 1) (c.in-Some.text.now ∷ [])) c.lines.invariant.count in
    record {
      count = let count = c.lines.invariant.count in omega (arith, count, further);
      left = subst (λ n. map line_of c.take_line.new.queries.items ++ lines_from (n + 1) (drop n (texts_of script)) ≡ queries_of script) (sym further)
          (next_turn (texts_of script) (map line_of c.lines.queries.items) (map line_of c.take_line.new.queries.items) (queries_of script) (length c.lines.yielded) c.in-Some.text.now turn taken c.lines.invariant.left);
    }

pub returns : goal.returns
returns c =
    let script = c.args.script.now in
    let end = YieldsList-end (YieldsList-at c.into_iter-text-iterator.ensures.into_iter_gives (YieldsList-from_str_split 10 script (lit< tt) c.split-text-items.ensures.text c.split-text-items.ensures.has_more c.split-text-items.ensures.pattern)) c.lines.yielded _ c.lines.yielded_by _ _ c.in-None.is c.next.ensures.steps in
    last_turn (texts_of script) (map line_of c.lines.queries.items) (queries_of script) (length c.lines.yielded) end.1 c.lines.invariant.left
