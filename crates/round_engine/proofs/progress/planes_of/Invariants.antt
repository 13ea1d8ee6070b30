use Rattle.std.proofs.Common.{◌≡◌, ◌≤◌, ◌<◌, ◌+◌, ◌*◌, ℕ, length, slice_index, take}
use Rattle.daq_table.specs.Tables.{ends_at, planes}
use Rattle.query_model.specs.Knowledge.{known_at}
use Rattle.round_engine.specs.Progresses.{planes_read}
use Rattle.round_engine.proofs.progress.planes_of.Given as goal

abbrev pub invariant-loop-column : goal.invariant-loop-column
invariant-loop-column l = record {
  places : length l.unread ≡ 16;
  told : (k : ℕ) → k < l.column → slice_index l.unread k + (known_at l.columns.known k).read ≡ planes (ends_at l.columns.frame k);
  few : (k : ℕ) → slice_index l.unread k ≤ 65;
  places_read : length l.read ≡ 16;
  told_read : (k : ℕ) → k < l.column → slice_index l.read k ≡ (known_at l.columns.known k).read;
  few_read : (k : ℕ) → slice_index l.read k ≤ 65;
  sum : l.all_read ≡ planes_read (take l.column l.columns.known);
  small : l.all_read ≤ 65 * l.column;
}
