use Rattle.std.proofs.Common.{◌≡◌, ℕ, ◌++◌, ◌∷◌, [], map, ap, sym, ◌∙◌, arith}
use Rattle.std.specs.List.{range_with_len}
use Rattle.std.proofs.lemmas.List.FromFn.{map-range_with_len_more}
use Rattle.daq_table.specs.Tables.{ends_at}
use Rattle.known_column.specs.Columns.{KnownColumn, unread_column}
use Rattle.known_column.proofs.row_block.open_each.Goals as goal

pub loop-c-preserved : goal.loop-c-preserved
loop-c-preserved c =
    let fresh : ℕ → KnownColumn = λ k. unread_column (ends_at c.args.columns.now.frame k) 0 in
    let opened : c.open.result ≡ fresh c.loop-c.c = c.open.ensures ∙ ap (λ (k : KnownColumn). unread_column k.ends 0) c.column.ensures.column in
    c.in_ok-push.ensures.items ∙ ap (λ bs. bs ++ c.open.result ∷ []) c.loop-c.invariant ∙ ap (λ b. map fresh (range_with_len 0 c.loop-c.c) ++ b ∷ []) opened ∙ sym (map-range_with_len_more fresh 0 c.loop-c.c c.loop-c.c (omega arith))
