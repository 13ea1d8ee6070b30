-- What a `load` shows and accepts, where its input tells its bytes, is what becomes of it.
use Rattle.std.proofs.Common.{◌≡◌, ℕ, List, refl, subst, arith, inl, inr, ◌⊎◌, Some}
use Rattle.command_line.specs.Commands.{Load}
use Rattle.daq_table.specs.Tables.{Contents}
use Rattle.outer_world.specs.Device.{Rose, SourceState, SinkState}
use Rattle.daq_cli.specs.Inputs.{InputCause, ReadsTable, StopsAtInput, input_step}
use Rattle.daq_cli.specs.Inputs as inputs
use Rattle.daq_cli.specs.Stores.{WritesTable}
use Rattle.daq_cli.specs.Worlds.{whole}
use Rattle.daq_cli.specs.commands.Load.{LoadAccepts, LoadCause, LoadShows, Loads, load_step, loaded, at_input, at_table}
use Rattle.daq_cli.specs.declared.refusal.Refusal.{Refusal}
use Rattle.daq_cli.specs.declared.refusal.Refusal.TheVariants.{NoMemory, WriteFault}
use Rattle.daq_cli.specs.Laws.{StepsAreExact}
use Rattle.daq_cli.proofs.Ask.{all_bytes, few_bytes}
use Rattle.daq_cli.proofs.StoreCauses.{store_excused, store_unwritten}

-- what is shown by the part that was read is shown by all that the input told
input_told : (schema : List ℕ) (input input' : SourceState) (bytes : List ℕ) (why : Refusal) → input.left ≡ Some bytes → StopsAtInput (input_step schema) input input' why
    → (input_step schema bytes).shows why
input_told schema input input' bytes why told stop = by stop.shown
  where
    by : (input_step schema stop.bytes).shows why → (input_step schema bytes).shows why
    by (inl p) = inl p
    by (inr (columns, declared, inl long)) =
        let longer = long.longer in
        let few = few_bytes input.left input'.left bytes stop.bytes told stop.came in
        inr (columns, declared, inl (record { longer = omega (arith, longer, few); is = long.is }))
    by (inr (columns, declared, inr faulty)) =
        let read = all_bytes input.left input'.left bytes stop.bytes told stop.came (stop.ended faulty.small) in
        subst (λ l. (input_step schema l).shows why) read (inr (columns, declared, inr faulty))

module _ (law : StepsAreExact) (load : Load) (input input' : SourceState) where
  -- the table that was read is the one of all bytes
  table_told : (table : Contents) (bytes : List ℕ) → ReadsTable load.schema input input' table → input.left ≡ Some bytes → (load_step load bytes).accepts table
  table_told table bytes r told =
      let read = all_bytes input.left input'.left bytes r.bytes told r.read.came r.read.ended in
      subst (λ l. (load_step load l).accepts table) read r.accepted

  -- a table was read only where nothing is shown
  read_apart : (table : Contents) (other : Refusal) → ReadsTable load.schema input input' table → LoadShows load input.left other → ⊥
  read_apart table other r (inl p) = (law.load load r.bytes).apart table other r.accepted (inl p)
  read_apart table other r (inr (bytes, told, p)) = (law.load load bytes).apart table other (table_told table bytes r told) p

  -- what is shown is the cause, unless memory runs out or a read fails
  input_shown : (why other : Refusal) → InputCause load.schema input input' why → LoadShows load input.left other → (why ≡ other) ⊎ (why ≡ NoMemory) ⊎ Rose input.faults input'.faults
  input_shown why other (inputs.at_schema p i) (inl r) = inl ((law.schema load).same why other p r)
  input_shown why other (inputs.at_schema p i) (inr (bytes, told, r)) = inl ((law.load load bytes).same why other (inl p) r)
  input_shown why other (inputs.at_bytes stop) (inl r) = inl ((law.load load stop.bytes).same why other stop.shown (inl r))
  input_shown why other (inputs.at_bytes stop) (inr (bytes, told, r)) = inl ((law.load load bytes).same why other (input_told load.schema input input' bytes why told stop) r)
  input_shown why other (inputs.read_fault declared rose taken) shows = inr (inr rose)
  input_shown why other (inputs.no_memory taken) shows = inr (inl refl)

  -- where a table is accepted, nothing but want of memory and faults keeps it from being read
  input_accepted : (why : Refusal) (table : Contents) → InputCause load.schema input input' why → LoadAccepts load input.left table → (why ≡ NoMemory) ⊎ Rose input.faults input'.faults
  input_accepted why table (inputs.at_schema p i) (bytes, told, accepted) = absurd ((law.load load bytes).apart table why accepted (inl p))
  input_accepted why table (inputs.at_bytes stop) (bytes, told, accepted) = absurd ((law.load load bytes).apart table why accepted (input_told load.schema input input' bytes why told stop))
  input_accepted why table (inputs.read_fault declared rose taken) accepted = inr rose
  input_accepted why table (inputs.no_memory taken) accepted = inl refl

  module _ (made made' out out' : SinkState) where
    pub loads_apart : (other : Refusal) → Loads load input input' made made' out out' → LoadShows load input.left other → ⊥
    loads_apart other does shows = read_apart does.table other does.read shows

    pub load_shown : (why other : Refusal) → LoadCause load input input' made made' out out' why → LoadShows load input.left other →
        (why ≡ other) ⊎ (why ≡ NoMemory) ⊎ Rose input.faults input'.faults
    load_shown why other (at_input cause m o) shows = input_shown why other cause shows
    load_shown why other (at_table table read cause) shows = absurd (read_apart table other read shows)

    -- the table that is accepted is the one whose file was written
    pub loads_table : (table : Contents) → Loads load input input' made made' out out' → LoadAccepts load input.left table → WritesTable loaded table whole made made' out out'
    loads_table table does (bytes, told, accepted) =
        let same = (law.load load bytes).once does.table table (table_told does.table bytes does.read told) accepted in
        subst (λ t. WritesTable loaded t whole made made' out out') same does.written

    pub load_accepted : (why : Refusal) (table : Contents) → LoadCause load input input' made made' out out' why → LoadAccepts load input.left table →
        (why ≡ NoMemory) ⊎ Rose input.faults input'.faults ⊎ Rose made.faults made'.faults ⊎ Rose out.faults out'.faults
    load_accepted why table (at_input cause m o) accepted = by (input_accepted why table cause accepted)
      where
        by : (why ≡ NoMemory) ⊎ Rose input.faults input'.faults → (why ≡ NoMemory) ⊎ Rose input.faults input'.faults ⊎ Rose made.faults made'.faults ⊎ Rose out.faults out'.faults
        by (inl e) = inl e
        by (inr rose) = inr (inl rose)
    load_accepted why table (at_table other read cause) accepted = by (store_excused loaded other made made' out out' why cause)
      where
        by : (why ≡ NoMemory) ⊎ Rose made.faults made'.faults ⊎ Rose out.faults out'.faults →
            (why ≡ NoMemory) ⊎ Rose input.faults input'.faults ⊎ Rose made.faults made'.faults ⊎ Rose out.faults out'.faults
        by (inl e) = inl e
        by (inr failed) = inr (inr failed)

-- but for a failed write nothing was written
pub load_unwritten : (load : Load) (input input' : SourceState) (made made' out out' : SinkState) (why : Refusal) → LoadCause load input input' made made' out out' why
    → ((made' ≡ made) × (out' ≡ out)) ⊎ (why ≡ WriteFault)
load_unwritten load input input' made made' out out' why (at_input cause m o) = inl (m, o)
load_unwritten load input input' made made' out out' why (at_table table read cause) = store_unwritten loaded table made made' out out' why cause
