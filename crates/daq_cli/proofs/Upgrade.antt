-- What an `upgrade` shows and accepts, where its store tells its bytes, is what becomes of it.
use Rattle.std.proofs.Common.{◌≡◌, ℕ, List, refl, sym, ap, ◌∙◌, subst, inl, inr, ◌⊎◌, Some}
use Rattle.daq_table.specs.Tables.{Contents}
use Rattle.outer_world.specs.Device.{Rose, SinkState, StoreState}
use Rattle.plane_file.specs.Bytes.{AreBytes}
use Rattle.plane_file.specs.Checks.{file_fault}
use Rattle.plane_file.specs.Format.{IsFileOf}
use Rattle.plane_file.specs.Laws as laws
use Rattle.plane_file.specs.TableReading.{IsCause, ReadsTable, ShowsFault}
use Rattle.plane_file.specs.declared.file_fault.FileFault.TheVariants as f
use Rattle.plane_file.specs.declared.plane_fault.PlaneFault.TheVariants as d
use Rattle.plane_file.specs.declared.table_fault.TableReadFault.{TableReadFault}
use Rattle.plane_file.specs.declared.table_fault.TableReadFault.TheVariants as t
use Rattle.daq_cli.specs.Faults as of
use Rattle.daq_cli.specs.Laws.{StepsAreExact}
use Rattle.daq_cli.specs.Steps.{IsComplete, IsExact}
use Rattle.daq_cli.specs.Stores.{WritesTable}
use Rattle.daq_cli.specs.Worlds.{whole}
use Rattle.daq_cli.specs.commands.Upgrade.{ShowsTableFault, StopsTable, UpgradeAccepts, UpgradeCause, UpgradeShows, Upgrades, upgrade_step, upgraded, at_file, at_table}
use Rattle.daq_cli.specs.declared.refusal.Refusal.{Refusal}
use Rattle.daq_cli.specs.declared.refusal.Refusal.TheVariants.{NoMemory, WriteFault}
use Rattle.daq_cli.proofs.Files.{if_told}
use Rattle.daq_cli.proofs.StoreCauses.{store_excused, store_unwritten}

module _ (planes planes' : StoreState) (bytes : List ℕ) (told : planes.held ≡ Some bytes) where
  shown : (fault : TableReadFault) (why : Refusal) → why ≡ of.reading fault → ShowsFault bytes fault → ShowsTableFault bytes why ⊎ (why ≡ NoMemory) ⊎ Rose planes.faults planes'.faults
  shown fault why is faulty = inl (record { fault = fault; is = is; faulty = faulty })

  by_fault : (fault : TableReadFault) (why : Refusal) → why ≡ of.reading fault → IsCause planes planes' fault →
      ShowsTableFault bytes why ⊎ (why ≡ NoMemory) ⊎ Rose planes.faults planes'.faults
  by_fault (t.File f.BadMagic) why is cause = shown (t.File f.BadMagic) why is (if_told (λ b. file_fault b ≡ Some f.BadMagic) planes.held bytes told cause.0)
  by_fault (t.File (f.UnknownVersion found)) why is cause =
      shown (t.File (f.UnknownVersion found)) why is (if_told (λ b. file_fault b ≡ Some (f.UnknownVersion found)) planes.held bytes told cause.0)
  by_fault (t.File (f.BadHead at)) why is cause = shown (t.File (f.BadHead at)) why is (if_told (λ b. file_fault b ≡ Some (f.BadHead at)) planes.held bytes told cause.0)
  by_fault (t.File (f.LimitPassed at)) why is cause =
      shown (t.File (f.LimitPassed at)) why is (if_told (λ b. file_fault b ≡ Some (f.LimitPassed at)) planes.held bytes told cause.0)
  by_fault (t.File (f.WrongSize found wanted)) why is cause =
      shown (t.File (f.WrongSize found wanted)) why is (if_told (λ b. file_fault b ≡ Some (f.WrongSize found wanted)) planes.held bytes told cause.0)
  by_fault (t.File f.WentShort) why is cause = absurd (if_told (λ b. ⊥) planes.held bytes told cause.0.1)
  by_fault (t.File f.Fault) why is cause = inr (inr cause.0)
  by_fault (t.File f.NoMemory) why is cause = inr (inl is)
  by_fault (t.Plane (d.PadBits column plane)) why is cause =
      shown (t.Plane (d.PadBits column plane)) why is (if_told (λ b. ShowsFault b (t.Plane (d.PadBits column plane))) planes.held bytes told cause)
  by_fault (t.Plane d.Fault) why is cause = inr (inr cause)
  by_fault (t.Plane d.WentShort) why is cause = absurd (if_told (λ b. ⊥) planes.held bytes told cause.1)
  by_fault (t.OverTop column plane row) why is cause =
      shown (t.OverTop column plane row) why is (if_told (λ b. ShowsFault b (t.OverTop column plane row)) planes.held bytes told cause)
  by_fault t.NoMemory why is cause = inr (inl is)

  -- bytes of which no table was read are shown to be the file of none, unless memory ran out or a read failed
  stop_told : (why : Refusal) → StopsTable planes planes' why → (upgrade_step bytes).shows why ⊎ (why ≡ NoMemory) ⊎ Rose planes.faults planes'.faults
  stop_told why stop = by_fault stop.fault why stop.is stop.refused.cause

  -- a table that was read is accepted
  table_told : (table : Contents) → ReadsTable planes planes' table → (upgrade_step bytes).accepts table
  table_told table read = (read.version, if_told (λ b. IsFileOf b read.version table) planes.held bytes told read.file_is)

module _ (law : StepsAreExact) (planes planes' : StoreState) where
  -- a table was read only where nothing is shown
  read_apart : (table : Contents) (other : Refusal) → ReadsTable planes planes' table → UpgradeShows planes.held other → ⊥
  read_apart table other read (bytes, told, p) = (law.upgrade bytes).apart table other (table_told planes planes' bytes told table read) p

  module _ (made made' out out' : SinkState) where
    pub upgrades_apart : (other : Refusal) → Upgrades planes planes' made made' out out' → UpgradeShows planes.held other → ⊥
    upgrades_apart other does shows = read_apart does.table other does.read shows

    -- what is shown is the cause, unless memory runs out or a read fails
    pub upgrade_shown : (why other : Refusal) → UpgradeCause planes planes' made made' out out' why → UpgradeShows planes.held other →
        (why ≡ other) ⊎ (why ≡ NoMemory) ⊎ Rose planes.faults planes'.faults
    upgrade_shown why other (at_file stop m o) (bytes, told, p) = by (stop_told planes planes' bytes told why stop)
      where
        by : (upgrade_step bytes).shows why ⊎ (why ≡ NoMemory) ⊎ Rose planes.faults planes'.faults → (why ≡ other) ⊎ (why ≡ NoMemory) ⊎ Rose planes.faults planes'.faults
        by (inl q) = inl ((law.upgrade bytes).same why other q p)
        by (inr excused) = inr excused
    upgrade_shown why other (at_table table read cause) shows = absurd (read_apart table other read shows)

    -- the table that is accepted is the one whose file was written
    pub upgrades_table : (table : Contents) → Upgrades planes planes' made made' out out' → UpgradeAccepts planes.held table → WritesTable upgraded table whole made made' out out'
    upgrades_table table does (bytes, told, accepted) =
        let same = (law.upgrade bytes).once does.table table (table_told planes planes' bytes told does.table does.read) accepted in
        subst (λ x. WritesTable upgraded x whole made made' out out') same does.written

    -- where it is accepted, nothing but want of memory and faults stops the run
    pub upgrade_accepted : (why : Refusal) (table : Contents) → UpgradeCause planes planes' made made' out out' why → UpgradeAccepts planes.held table →
        (why ≡ NoMemory) ⊎ Rose planes.faults planes'.faults ⊎ Rose made.faults made'.faults ⊎ Rose out.faults out'.faults
    upgrade_accepted why table (at_file stop m o) (bytes, told, accepted) = by (stop_told planes planes' bytes told why stop)
      where
        by : (upgrade_step bytes).shows why ⊎ (why ≡ NoMemory) ⊎ Rose planes.faults planes'.faults →
            (why ≡ NoMemory) ⊎ Rose planes.faults planes'.faults ⊎ Rose made.faults made'.faults ⊎ Rose out.faults out'.faults
        by (inl q) = absurd ((law.upgrade bytes).apart table why accepted q)
        by (inr (inl e)) = inl e
        by (inr (inr rose)) = inr (inl rose)
    upgrade_accepted why table (at_table other read cause) accepted = by (store_excused upgraded other made made' out out' why cause)
      where
        by : (why ≡ NoMemory) ⊎ Rose made.faults made'.faults ⊎ Rose out.faults out'.faults →
            (why ≡ NoMemory) ⊎ Rose planes.faults planes'.faults ⊎ Rose made.faults made'.faults ⊎ Rose out.faults out'.faults
        by (inl e) = inl e
        by (inr failed) = inr (inr failed)

-- but for a failed write nothing was written
pub upgrade_unwritten : (planes planes' : StoreState) (made made' out out' : SinkState) (why : Refusal) → UpgradeCause planes planes' made made' out out' why
    → ((made' ≡ made) × (out' ≡ out)) ⊎ (why ≡ WriteFault)
upgrade_unwritten planes planes' made made' out out' why (at_file stop m o) = inl (m, o)
upgrade_unwritten planes planes' made made' out out' why (at_table table read cause) = store_unwritten upgraded table made made' out out' why cause

-- ---- the step

pub upgrade_exact : laws.TablesAreOne → laws.ShowOneFault → laws.FilesShowNoFault → (bytes : List ℕ) → IsExact (upgrade_step bytes)
upgrade_exact one fault none bytes = record {
  once = λ a b p r. (one bytes p.0 r.0 a b p.1 r.1).1;
  same = λ why other p r. p.is ∙ ap (λ (x : TableReadFault). of.reading x) (fault bytes p.fault r.fault p.faulty r.faulty) ∙ sym r.is;
  apart = λ table why is p. none bytes is.0 table p.fault is.1 p.faulty;
}

pub upgrade_complete : laws.HaveTables → (bytes : List ℕ) → AreBytes bytes → IsComplete (upgrade_step bytes)
upgrade_complete tables bytes are = by (tables bytes are)
  where
    by : ((version : ℕ) × (table : Contents) × IsFileOf bytes version table) ⊎ ((fault : TableReadFault) × ShowsFault bytes fault) → IsComplete (upgrade_step bytes)
    by (inl (version, table, is)) = inl (table, (version, is))
    by (inr (fault, faulty)) = inr (of.reading fault, record { fault = fault; is = refl; faulty = faulty })
