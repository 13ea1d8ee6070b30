-- What an `info` shows and accepts, where its store tells its bytes, is what becomes of it.
use Rattle.std.proofs.Common.{◌≡◌, refl, subst, inl, inr, ◌⊎◌}
use Rattle.outer_world.specs.Device.{Rose, SinkState, StoreState}
use Rattle.outer_world.specs.Whole.{Writes}
use Rattle.plane_file.specs.Opening.{Opened}
use Rattle.daq_cli.specs.Files.{file_step}
use Rattle.daq_cli.specs.Laws.{StepsAreExact}
use Rattle.daq_cli.specs.Worlds.{Extent}
use Rattle.daq_cli.specs.commands.Info.{InfoAccepts, InfoCause, InfoShows, Informs, info_text, at_file, write_fault}
use Rattle.daq_cli.specs.declared.refusal.Refusal.{Refusal}
use Rattle.daq_cli.specs.declared.refusal.Refusal.TheVariants.{NoMemory, WriteFault}
use Rattle.daq_cli.proofs.Files.{opened_told, stop_told}

module _ (law : StepsAreExact) (planes planes' : StoreState) (out out' : SinkState) where
  -- lines were begun only where nothing is shown
  pub informs_apart : (extent : Extent) (other : Refusal) → Informs extent planes planes' out out' → InfoShows planes.held other → ⊥
  informs_apart extent other does (bytes, told, p) = (law.file bytes).apart does.file other (opened_told planes planes' bytes told does.file does.opened) p

  -- what is shown is the cause, unless memory runs out or a read fails
  pub info_shown : (why other : Refusal) → InfoCause planes planes' out out' why → InfoShows planes.held other →
      (why ≡ other) ⊎ (why ≡ NoMemory) ⊎ Rose planes.faults planes'.faults
  info_shown why other (at_file stop o) (bytes, told, p) = by (stop_told planes planes' bytes told why stop)
    where
      by : (file_step bytes).shows why ⊎ (why ≡ NoMemory) ⊎ Rose planes.faults planes'.faults → (why ≡ other) ⊎ (why ≡ NoMemory) ⊎ Rose planes.faults planes'.faults
      by (inl shown) = inl ((law.file bytes).same why other shown p)
      by (inr excused) = inr excused
  info_shown why other (write_fault does) shows = absurd (informs_apart _ other does shows)

  -- the file that is accepted is the one whose lines were written
  pub informs_file : (extent : Extent) (file : Opened) → Informs extent planes planes' out out' → InfoAccepts planes.held file → Writes extent out out' (info_text file)
  informs_file extent file does (bytes, told, accepted) =
      let same = (law.file bytes).once does.file file (opened_told planes planes' bytes told does.file does.opened) accepted in
      subst (λ f. Writes extent out out' (info_text f)) same does.written

  -- where it is accepted, nothing but want of memory and faults stops the run
  pub info_accepted : (why : Refusal) (file : Opened) → InfoCause planes planes' out out' why → InfoAccepts planes.held file →
      (why ≡ NoMemory) ⊎ Rose planes.faults planes'.faults ⊎ Rose out.faults out'.faults
  info_accepted why file (at_file stop o) (bytes, told, accepted) = by (stop_told planes planes' bytes told why stop)
    where
      by : (file_step bytes).shows why ⊎ (why ≡ NoMemory) ⊎ Rose planes.faults planes'.faults → (why ≡ NoMemory) ⊎ Rose planes.faults planes'.faults ⊎ Rose out.faults out'.faults
      by (inl shown) = absurd ((law.file bytes).apart file why accepted shown)
      by (inr (inl e)) = inl e
      by (inr (inr rose)) = inr (inl rose)
  info_accepted why file (write_fault does) accepted = inr (inr does.written.cause.failed)

-- but for a failed write nothing was written
pub info_unwritten : (planes planes' : StoreState) (out out' : SinkState) (why : Refusal) → InfoCause planes planes' out out' why → (out' ≡ out) ⊎ (why ≡ WriteFault)
info_unwritten planes planes' out out' why (at_file stop o) = inl o
info_unwritten planes planes' out out' why (write_fault does) = inr refl
