-- The plane is taken, since each row's prefix stays that of its cell.
use Rattle.std.proofs.Common.{◌≡◌, ◌-◌, length, ap, ◌∙◌, sym, arith, rules}
use Rattle.std.specs.Result.{IsOk}
use Rattle.daq_table.specs.Tables.{ends_at, planes}
use Rattle.query_model.specs.Knowledge.{known_at}
use Rattle.known_column.specs.Columns.{rows_of_column}
use Rattle.known_column.specs.KnownTables.{read_column}
use Rattle.known_column.specs.declared.known.OverTop.{OverTop}
use Rattle.plane_bench.proofs.Steps.{all_planes, is_taken, next_read, of_ok}
use Rattle.plane_bench.proofs.reading.read_next.Goals as goal

pub unwrap-requires : goal.unwrap-requires
unwrap-requires c =
    let table = c.args.columns.now in
    let wide : c.width-width.result ≡ planes (ends_at table.frame 0) = all_planes table c.column.result.now c.width-width.result c.requires.plain c.column.ensures.column c.width-width.ensures.digits in
    let rows : length (known_at table.known 0).prefixes ≡ table.frame.rows = sym (ap rows_of_column c.column.ensures.column) ∙ c.column.ensures.rows in
    let left = c.unread.ensures in
    let next = next_read c.planes_are_taken.ensures table (ends_at table.frame 0) c.args.cells.now (known_at table.known 0).read c.width-width.result (c.width-width.result - c.unread.result) c.transpose.new.out
    c.requires.plain c.requires.cells c.requires.stands wide (omega arith) c.requires.unread c.transpose.ensures in
    is_taken c.take.result table c.transpose.new.out rows next.0 c.take.ensures.over

pub returns : goal.returns
returns c =
    let table = c.args.columns.now in
    let bits = c.transpose.new.out in
    let wide : c.width-width.result ≡ planes (ends_at table.frame 0) = all_planes table c.column.result.now c.width-width.result c.requires.plain c.column.ensures.column c.width-width.ensures.digits in
    let rows : length (known_at table.known 0).prefixes ≡ table.frame.rows = sym (ap rows_of_column c.column.ensures.column) ∙ c.column.ensures.rows in
    let left = c.unread.ensures in
    let next = next_read c.planes_are_taken.ensures table (ends_at table.frame 0) c.args.cells.now (known_at table.known 0).read c.width-width.result (c.width-width.result - c.unread.result) bits
    c.requires.plain c.requires.cells c.requires.stands wide (omega arith) c.requires.unread c.transpose.ensures in
    let is : IsOk c.take.result = is_taken c.take.result table bits rows next.0 c.take.ensures.over in
    let taken : c.take.new.self ≡ read_column table 0 bits = of_ok (Unit {0}) OverTop c.take.result (c.take.new.self ≡ read_column table 0 bits) is c.take.ensures.taken in
    record { further = taken ∙ next.1; taken = taken; legal = next.0; rows = search rules }
