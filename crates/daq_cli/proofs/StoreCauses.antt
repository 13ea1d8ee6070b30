-- What becomes of a table that is written as a file, with its line.
use Rattle.std.proofs.Common.{◌≡◌, ◌≤◌, List, ℕ, refl, sym, subst, inl, inr, ◌⊎◌}
use Rattle.std.specs.Io.KnownBytes.{Appends}
use Rattle.daq_table.specs.Tables.{Contents}
use Rattle.outer_world.specs.Device.{Rose, SinkState}
use Rattle.outer_world.specs.Whole.{Writes}
use Rattle.plane_file.specs.Format.{file}
use Rattle.plane_file.specs.Writing.{StopsWriting}
use Rattle.plane_file.specs.declared.write_fault.FileWriteFault.{FileWriteFault}
use Rattle.plane_file.specs.declared.write_fault.FileWriteFault.TheVariants as w
use Rattle.daq_cli.specs.Faults as of
use Rattle.daq_cli.specs.Stores.{StoreCause, table_line, no_memory, write_fault}
use Rattle.daq_cli.specs.Worlds.{partly, whole}
use Rattle.daq_cli.specs.declared.refusal.Refusal.{Refusal}
use Rattle.daq_cli.specs.declared.refusal.Refusal.TheVariants.{NoMemory, WriteFault}

module _ (word : List ℕ) (table : Contents) (made made' out : SinkState) where
  -- the file was not written
  pub file_stops : (fault : FileWriteFault) (why : Refusal) → StopsWriting made made' (file 2 table) fault → made.faults ≤ made'.faults → why ≡ of.writing fault
      → StoreCause word table made made' out out why
  file_stops w.Fault why stop later e =
      let cut : Writes partly made made' (file 2 table) = record { done = tt; part = stop.part; cause = record { later = later; failed = stop.rose } } in
      subst (StoreCause word table made made' out out) (sym e) (write_fault (inl (cut, refl)))
  file_stops w.NoMemory why stop later e = subst (StoreCause word table made made' out out) (sym e) (no_memory stop refl)

  -- nor was the line
  pub line_stops : (out' : SinkState) → Appends made.written made'.written (file 2 table) → made.faults ≤ made'.faults → Writes partly out out' (table_line word table)
      → StoreCause word table made made' out out' WriteFault
  line_stops out' appended later line =
      let file_is : Writes whole made made' (file 2 table) = record { done = appended; part = tt; cause = record { later = later; failed = tt } } in
      write_fault (inr (record { file_is = file_is; line = line }))

module _ (word : List ℕ) (table : Contents) (made made' out out' : SinkState) where
  -- memory ran out, or a write failed
  pub store_excused : (why : Refusal) → StoreCause word table made made' out out' why → (why ≡ NoMemory) ⊎ Rose made.faults made'.faults ⊎ Rose out.faults out'.faults
  store_excused why (write_fault (inl cut)) = inr (inl cut.0.cause.failed)
  store_excused why (write_fault (inr written)) = inr (inr written.line.cause.failed)
  store_excused why (no_memory m o) = inl refl

  -- but for a failed write nothing was written
  pub store_unwritten : (why : Refusal) → StoreCause word table made made' out out' why → ((made' ≡ made) × (out' ≡ out)) ⊎ (why ≡ WriteFault)
  store_unwritten why (write_fault cut) = inr refl
  store_unwritten why (no_memory m o) = inl (m, o)
