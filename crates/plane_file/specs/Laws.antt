-- What holds of all files.
use Rattle.std.specs.Prelude.{◌≡◌, ◌⊎◌, ℕ, None, List}
use Rattle.daq_table.specs.Tables.{Cells, Contents, IsTable, frame_of}
use Rattle.daq_table.specs.declared.table_head.Head.{Head}
use Rattle.plane_file.specs.Bytes.{AreBytes}
use Rattle.plane_file.specs.Checks.{file_fault}
use Rattle.plane_file.specs.Format.{IsFileOf, file}
use Rattle.plane_file.specs.Opening.{IsFileHead}
use Rattle.plane_file.specs.TableReading.{ShowsFault}
use Rattle.plane_file.specs.declared.table_fault.TableReadFault.{TableReadFault}

-- bytes without a fault begin with a head, and have the size of its file
abbrev pub HasHead : Type 0
HasHead = (bytes : List ℕ) → AreBytes bytes → file_fault bytes ≡ None → (version : ℕ) × (head : Head) × IsFileHead bytes version head

-- where tables of one head have equal files, in whichever versions, their cells are equal
abbrev pub FilesTellCells : Type 0
FilesTellCells = (version other : ℕ) (head : Head) (cells others : Cells) → IsTable (frame_of head) cells → IsTable (frame_of head) others
    → file version (record { head = head; cells = cells }) ≡ file other (record { head = head; cells = others }) → cells ≡ others

-- bytes that begin with a head, and have the size of its file, have no fault
abbrev pub AreFaultless : Type 0
AreFaultless = (bytes : List ℕ) (version : ℕ) (head : Head) → IsFileHead bytes version head → file_fault bytes ≡ None

-- bytes begin with one head at most, in one version
abbrev pub HaveOneHead : Type 0
HaveOneHead = (bytes : List ℕ) (version other : ℕ) (one another : Head) → IsFileHead bytes version one → IsFileHead bytes other another
    → (version ≡ other) × (one ≡ another)

-- bytes are the file of one table at most, in one version
abbrev pub TablesAreOne : Type 0
TablesAreOne = (bytes : List ℕ) (version other : ℕ) (one another : Contents) → IsFileOf bytes version one → IsFileOf bytes other another
    → (version ≡ other) × (one ≡ another)

-- bytes show one fault at most
abbrev pub ShowOneFault : Type 0
ShowOneFault = (bytes : List ℕ) (one other : TableReadFault) → ShowsFault bytes one → ShowsFault bytes other → one ≡ other

-- the file of a table shows none
abbrev pub FilesShowNoFault : Type 0
FilesShowNoFault =
    (bytes : List ℕ) (version : ℕ) (table : Contents) (fault : TableReadFault) →
    IsFileOf bytes version table → ¬ ShowsFault bytes fault

-- bytes that show no fault are the file of a table
abbrev pub HaveTables : Type 0
HaveTables = (bytes : List ℕ) → AreBytes bytes
    → ((version : ℕ) × (table : Contents) × IsFileOf bytes version table) ⊎ ((fault : TableReadFault) × ShowsFault bytes fault)
