-- Why each step of reading a table stops it.
use Rattle.std.proofs.Common.{◌≡◌, ◌∙◌, ℕ, List, [], refl, sym, ap, subst, arith, inl, inr, ◌⊎◌, Option, Some, None}
use Rattle.std.specs.Io.KnownBytes.{Consumes}
use Rattle.daq_table.specs.Schemas.{DeclaresItems}
use Rattle.daq_table.specs.Tables.{Contents}
use Rattle.daq_table.specs.declared.schema_item.SchemaItem.{SchemaItem}
use Rattle.outer_world.specs.Device.{SourceState}
use Rattle.outer_world.specs.Whole.{ReadsToEnd, StopsReading, Takes}
use Rattle.outer_world.specs.declared.whole.ReadAllFault.{ReadAllFault}
use Rattle.outer_world.specs.declared.whole.ReadAllFault.TheVariants as all
use Rattle.daq_cli.specs.Faults as of
use Rattle.daq_cli.specs.Inputs.{InputCause, IsTableText, ReadsTable, ShowsSchema, ShowsTable, most_bytes, at_schema, at_bytes, read_fault, no_memory}
use Rattle.daq_cli.specs.declared.refusal.Refusal.{Refusal}
use Rattle.daq_cli.specs.declared.refusal.Refusal.TheVariants.{NoMemory, TooLong}

nothing_consumed : (left : Option (List ℕ)) → Consumes left left []
nothing_consumed None = tt
nothing_consumed (Some xs) = refl

pub nothing_taken : (input : SourceState) → Takes input input 0 most_bytes
nothing_taken input = record { bytes = []; enough = omega arith; within = omega arith; came = nothing_consumed input.left }

-- all that came was taken
pub all_taken : (schema : List ℕ) (input input' : SourceState) (table : Contents) → ReadsTable schema input input' table → Takes input input' 0 most_bytes
all_taken schema input input' table r = record { bytes = r.bytes; enough = omega arith; within = r.read.within; came = r.read.came }

module _ (schema : List ℕ) where
  -- the schema
  pub stops_at_schema : (input : SourceState) (why : Refusal) → ShowsSchema schema why ⊎ (why ≡ NoMemory) → InputCause schema input input why
  stops_at_schema input why (inl p) = at_schema p refl
  stops_at_schema input why (inr e) = subst (InputCause schema input input) (sym e) (no_memory (nothing_taken input))

  module _ (columns : List SchemaItem) (declared : DeclaresItems schema columns) (input input' : SourceState) where
    -- the input
    pub stops_reading : (fault : ReadAllFault) (why : Refusal) → StopsReading input input' most_bytes fault → why ≡ of.input fault → InputCause schema input input' why
    stops_reading all.Fault why stop e = subst (InputCause schema input input') (sym e) (read_fault (columns, declared) stop.rose stop.within)
    stops_reading (all.TooLong told) why stop e =
        let over = stop.over in
        let long = over.enough in
        at_bytes (record {
          bytes = over.bytes;
          came = over.came;
          within = over.within;
          ended = λ few. absurd (omega (arith, long, few));
          shown = inr (columns, declared, inl (record { longer = omega (arith, long); is = e ∙ ap TooLong stop.is_limit }));
        })
    stops_reading all.NoMemory why stop e =
        subst (InputCause schema input input') (sym e) (no_memory (record { bytes = stop.bytes; enough = omega arith; within = stop.within; came = stop.came }))

    module _ (bytes : List ℕ) (read : ReadsToEnd input input' most_bytes bytes) where
      -- the table
      pub stops_at_table : (why : Refusal) → ShowsTable columns bytes why ⊎ (why ≡ NoMemory) → InputCause schema input input' why
      stops_at_table why (inl p) =
          let small = read.within in
          at_bytes (record {
            bytes = bytes;
            came = read.came;
            within = omega (arith, small);
            ended = λ few. read.ended;
            shown = inr (columns, declared, inr p);
          })
      stops_at_table why (inr e) =
          subst (InputCause schema input input') (sym e) (no_memory (record { bytes = bytes; enough = omega arith; within = read.within; came = read.came }))

      pub table_read : (table : Contents) → IsTableText columns bytes table → ReadsTable schema input input' table
      table_read table is = record { bytes = bytes; read = read; accepted = (columns, declared, is) }
