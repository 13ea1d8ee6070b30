-- `upgrade`: the table whose file a store holds is written as a file of planes, in the newest version.
use Rattle.std.specs.Prelude.{◌≡◌, ℕ, List, codes, Some}
use Rattle.std.specs.declared.option.Option.{Option}
use Rattle.daq_table.specs.Tables.{Contents}
use Rattle.outer_world.specs.Device.{SinkState, StoreState}
use Rattle.plane_file.specs.Format.{IsFileOf}
use Rattle.plane_file.specs.TableReading.{ReadsTable, RefusesTable, ShowsFault}
use Rattle.plane_file.specs.declared.table_fault.TableReadFault.{TableReadFault}
use Rattle.daq_cli.specs.Faults as of
use Rattle.daq_cli.specs.Steps.{Step}
use Rattle.daq_cli.specs.Stores.{StoreCause, WritesTable}
use Rattle.daq_cli.specs.Worlds.{whole}
use Rattle.daq_cli.specs.declared.refusal.Refusal.{Refusal}

-- ---- the step

-- the bytes are the file of the table, in one of the versions
abbrev pub AreTable : List ℕ → Contents → Type 0
AreTable bytes table = (version : ℕ) × IsFileOf bytes version table

-- they are the file of no table, for this reason first
pub record ShowsTableFault (bytes : List ℕ) (why : Refusal) : Type 0 where
  pub fault : TableReadFault
  pub is : why ≡ of.reading fault
  pub faulty : ShowsFault bytes fault

abbrev pub upgrade_step : List ℕ → Step Contents
upgrade_step bytes = record { accepts = AreTable bytes; shows = ShowsTableFault bytes }

-- what a store shows that tells its bytes
abbrev pub UpgradeShows : Option (List ℕ) → Refusal → Type 0
UpgradeShows told why = (bytes : List ℕ) × (told ≡ Some bytes) × (upgrade_step bytes).shows why

-- such a store is accepted, as this table
abbrev pub UpgradeAccepts : Option (List ℕ) → Contents → Type 0
UpgradeAccepts told table = (bytes : List ℕ) × (told ≡ Some bytes) × (upgrade_step bytes).accepts table

-- ---- what becomes of an `upgrade`

abbrev pub upgraded : List ℕ
upgraded = codes "upgraded"

-- the store holds the file of the table, which was read, and its file was written anew, and the line
pub record Upgrades (planes planes' : StoreState) (made made' out out' : SinkState) : Type 0 where
  pub table : Contents
  pub read : ReadsTable planes planes' table
  pub written : WritesTable upgraded table whole made made' out out'

-- no table was read, for this reason
pub record StopsTable (planes planes' : StoreState) (why : Refusal) : Type 0 where
  pub fault : TableReadFault
  pub is : why ≡ of.reading fault
  pub refused : RefusesTable planes planes' fault

-- why an `upgrade` stops; but for a failed write nothing was written
pub data UpgradeCause (planes planes' : StoreState) (made made' out out' : SinkState) : Refusal → Type 0 where
  at_file : {why : Refusal} → StopsTable planes planes' why → made' ≡ made → out' ≡ out →
      UpgradeCause planes planes' made made' out out' why
  at_table : {why : Refusal} (table : Contents) → ReadsTable planes planes' table → StoreCause upgraded table made made' out out' why
      → UpgradeCause planes planes' made made' out out' why
