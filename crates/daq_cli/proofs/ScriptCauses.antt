-- Why each step of reading a script stops it.
use Rattle.std.proofs.Common.{◌≡◌, ◌⊎◌, ℕ, List, arith, inl, inr, subst, sym, Some}
use Rattle.outer_world.specs.Device.{SourceState}
use Rattle.outer_world.specs.Whole.{ReadsToEnd, StopsReading}
use Rattle.outer_world.specs.declared.whole.ReadAllFault.{ReadAllFault}
use Rattle.outer_world.specs.declared.whole.ReadAllFault.TheVariants as all
use Rattle.session_script.specs.Answers.{IsScript, most_bytes}
use Rattle.session_script.specs.Answers as scripts
use Rattle.session_script.specs.Lines.{Line}
use Rattle.session_script.specs.declared.fault.ScriptFault.{ScriptFault}
use Rattle.session_script.specs.declared.fault.ScriptFault.TheVariants as s
use Rattle.daq_cli.specs.Faults as of
use Rattle.daq_cli.specs.Scripts.{ReadsScript, ScriptCause, Scripted, ShowsScript, line_step, queries_step, at_bytes, read_fault, no_memory}
use Rattle.daq_cli.specs.Steps.{StopsStep, each}
use Rattle.daq_cli.specs.declared.refusal.Refusal.{Refusal}
use Rattle.daq_cli.specs.declared.refusal.Refusal.TheVariants.{NoMemory}
use Rattle.daq_cli.proofs.Ask.{all_bytes}

module _ (side side' : SourceState) where
  -- the source
  pub stops_reading : (fault : ReadAllFault) (why : Refusal) → StopsReading side side' most_bytes fault → why ≡ of.side fault → ScriptCause side side' why
  stops_reading all.Fault why stop e = subst (ScriptCause side side') (sym e) (read_fault stop.rose stop.within)
  stops_reading (all.TooLong told) why stop e =
      let over = stop.over in
      let long = over.enough in
      at_bytes (record {
        script = over.bytes;
        came = over.came;
        within = over.within;
        ended = λ few. absurd (omega (arith, long, few));
        shown = inl (record { fault = s.TooLong told; shown = λ n. cc; is = e; faulty = (stop.is_limit, omega (arith, long)) });
      })
  stops_reading all.NoMemory why stop e =
      subst (ScriptCause side side') (sym e) (no_memory (record { bytes = stop.bytes; enough = omega arith; within = stop.within; came = stop.came }))

  module _ (script : List ℕ) (read : ReadsToEnd side side' most_bytes script) where
    -- what was read shows why
    shown_so : (why : Refusal) → ShowsScript script why ⊎ ((lines : List Line) × IsScript script lines × (each line_step lines).shows why) → ScriptCause side side' why
    shown_so why shown =
        let small = read.within in
        at_bytes (record { script = script; came = read.came; within = omega (arith, small); ended = λ few. read.ended; shown = shown })

    no_room : (why : Refusal) → why ≡ NoMemory → ScriptCause side side' why
    no_room why e = subst (ScriptCause side side') (sym e) (no_memory (record { bytes = script; enough = omega arith; within = read.within; came = read.came }))

    -- the bytes
    pub stops_at_script : (fault : ScriptFault) (why : Refusal) → scripts.Refuses script fault → why ≡ of.script fault → ScriptCause side side' why
    stops_at_script (s.TooLong limit) why faulty is = shown_so why (inl (record { fault = s.TooLong limit; shown = λ n. cc; is = is; faulty = faulty }))
    stops_at_script (s.NoText at) why faulty is = shown_so why (inl (record { fault = s.NoText at; shown = λ n. cc; is = is; faulty = faulty }))
    stops_at_script s.NoQuery why faulty is = shown_so why (inl (record { fault = s.NoQuery; shown = λ n. cc; is = is; faulty = faulty }))
    stops_at_script (s.TooMany count) why faulty is = shown_so why (inl (record { fault = s.TooMany count; shown = λ n. cc; is = is; faulty = faulty }))
    stops_at_script s.NoMemory why faulty is = no_room why is

    module _ (lines : List Line) (is_script : IsScript script lines) where
      -- the lines
      pub stops_at_line : (why : Refusal) → StopsStep (each line_step lines) why → ScriptCause side side' why
      stops_at_line why (inl shown) = shown_so why (inr (lines, is_script, shown))
      stops_at_line why (inr e) = no_room why e

-- what was read is what was told
pub script_told : (side side' : SourceState) (script : List ℕ) → side.left ≡ Some script → (queries : List Scripted) → ReadsScript side side' queries → (queries_step script).accepts queries
script_told side side' script told queries read =
    subst (λ l. (queries_step l).accepts queries) (all_bytes side.left side'.left script read.script told read.read.came read.read.ended) read.accepted
