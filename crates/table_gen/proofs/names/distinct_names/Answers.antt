use Rattle.std.proofs.Common.{◌<◌, ℕ, get_or, map, refl, vec_items}
use Rattle.std.proofs.lemmas.List.Elements.{All-get_or}
use Rattle.table_gen.proofs.Dictionaries.{seen_known, seen_new}
use Rattle.table_gen.proofs.names.distinct_names.Goals as goal
use Rattle.table_gen.proofs.names.distinct_names.Goals.{then-not-seen-code+in_ok-add_name, else-not-seen-code}

pub loop-code-preserved : goal.loop-code-preserved
loop-code-preserved c =
    let codes = c.args.codes.now in
    let place = c.loop-code.code-index in
    let code = get_or codes place 0 in
    let small : code < 16 = All-get_or (λ (n : ℕ). n < 16) codes place 0 c.loop-code-test.true c.requires in
    elim c.if-not-seen-code.branch [
      | then-not-seen-code+in_ok-add_name w ↦
          rw (w.names-is, w.seen-is) (seen_new codes place code (map vec_items c.loop-code.names.keys) (map vec_items w.add_name.new.names.keys) c.loop-code.seen c.loop-code.invariant c.loop-code-test.true refl small w.in_ok-add_name.ensures)
      | else-not-seen-code w ↦
          rw (w.names-is, w.seen-is) (seen_known codes place code (map vec_items c.loop-code.names.keys) c.loop-code.seen c.loop-code.invariant c.loop-code-test.true refl small w.if-not-seen-code.false)
    ]
