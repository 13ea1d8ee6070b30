use Rattle.std.proofs.Common.{◌≡◌, ◌<◌, length, set, sym, subst, arith, OnOk}
use Rattle.std.proofs.lemmas.List.{length-map}
use Rattle.daq_table.specs.Tables.{ends_at, planes}
use Rattle.query_model.specs.Knowledge.{known_at}
use Rattle.known_column.specs.Columns.{KnownColumn}
use Rattle.known_column.specs.KnownTables.{KnownTable, read_column, table_of}
use Rattle.known_column.proofs.Several.{kept_either, read_either}
use Rattle.known_column.proofs.known_columns.KnownColumns.take.Goals as goal

pub invariant_of-self : goal.invariant_of-self
invariant_of-self c =
    let kept = c.self.inside in
    let columns = kept.columns.items in
    let at = c.args.column in
    let within : at < length columns = omega (arith, subst (λ (t : KnownTable). at < length t.frame.columns) (sym c.self.view_is) c.requires.column, length-map columns (λ (k : KnownColumn). k.ends)) in
    kept_either kept.rows at columns c.index_mut.result.now c.args.plane.now within c.index_mut.ensures.value c.take.new.self c.take.result c.take.ensures.taken c.take.ensures.legal c.take.ensures.unchanged
    c.self.invariant (subst (λ (t : KnownTable). (known_at t.known at).read < planes (ends_at t.frame at)) (sym c.self.view_is) c.requires.unread) (subst (λ (t : KnownTable). length c.args.plane.now ≡ t.frame.rows) (sym c.self.view_is) c.requires.rows)

pub returns-clause-taken : goal.returns-clause-taken
returns-clause-taken c =
    let kept = c.self.inside in
    let columns = kept.columns.items in
    let at = c.args.column in
    let within : at < length columns = omega (arith, subst (λ (t : KnownTable). at < length t.frame.columns) (sym c.self.view_is) c.requires.column, length-map columns (λ (k : KnownColumn). k.ends)) in
    subst (λ (t : KnownTable). OnOk c.take.result (table_of kept.rows (set columns at c.take.new.self) ≡ read_column t at c.args.plane.now)) c.self.view_is
    (read_either kept.rows at columns c.index_mut.result.now c.args.plane.now within c.index_mut.ensures.value c.take.new.self c.take.result c.take.ensures.taken)
