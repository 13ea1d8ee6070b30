-- A plane that is taken is one less to be read.
use Rattle.std.proofs.Common.{◌≡◌, ℕ, ◌+◌, ◌<◌, ◌≤◌, Bool, List, [], length, map, get_or, set, sym, ap, ◌∙◌, subst, arith, sum}
use Rattle.std.proofs.lemmas.List.{get_or-map, length-map, map-set}
use Rattle.daq_table.specs.Tables.{ends_at, no_ends, planes}
use Rattle.query_model.specs.Knowledge.{ColumnKnowledge, IsKnowledge, Knowledge, known_at, longer_column, taken}
use Rattle.round_engine.specs.Progresses.{planes_read}
use Rattle.round_engine.specs.Stages.{HasPlane, Stage, stepped}
use Rattle.table_rounds.specs.Rounds.{unread_planes}
use Rattle.table_rounds.proofs.Counts.{sum_less, sum_raised}

abbrev counts_of : Knowledge → List ℕ
counts_of known = map (λ column. column.read) known

abbrev nothing : ColumnKnowledge
nothing = record { read = 0; prefixes = [] }

read_at : (known : Knowledge) (c : ℕ) → c < length known → get_or (counts_of known) c 0 ≡ (known_at known c).read
read_at known c h = get_or-map (λ (column : ColumnKnowledge). column.read) known c nothing 0 h

one_more_read : (known : Knowledge) (c : ℕ) (bits : List Bool) → c < length known → planes_read (taken known c bits) ≡ planes_read known + 1
one_more_read known c bits h =
    ap sum (map-set (λ (column : ColumnKnowledge). column.read) known c (longer_column (known_at known c) bits) ∙ ap (λ n. set (counts_of known) c (n + 1)) (sym (read_at known c h)))
    ∙ sum_raised (counts_of known) c (subst (λ n. c < n) (sym (length-map known (λ (column : ColumnKnowledge). column.read))) h)

some_left : (stage : Stage) (c : ℕ) → IsKnowledge stage.frame stage.known → HasPlane stage c → planes_read stage.known < sum (map planes stage.frame.columns)
some_left stage c is has =
    sum_less (counts_of stage.known) stage.frame.columns no_ends c (length-map stage.known (λ (column : ColumnKnowledge). column.read) ∙ is.columns)
    (λ d h. subst (λ n. n ≤ planes (ends_at stage.frame d)) (sym (read_at stage.known d (subst (λ n. d < n) (sym is.columns) h))) (is.read d h)) has.column
    (subst (λ n. n < planes (ends_at stage.frame c)) (sym (read_at stage.known c (subst (λ n. c < n) (sym is.columns) has.column))) has.unread)

pub fewer_unread : (stage new : Stage) (c : ℕ) (bits : List Bool) → IsKnowledge stage.frame stage.known → HasPlane stage c → new ≡ stepped stage c bits → unread_planes new < unread_planes stage
fewer_unread stage new c bits is has step = subst (λ s. unread_planes s < unread_planes stage) (sym step)
    (let one = one_more_read stage.known c bits (subst (λ n. c < n) (sym is.columns) has.column) in let left = some_left stage c is has in omega (arith, one, left))
