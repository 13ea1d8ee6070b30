-- What a `demo` shows and accepts is what becomes of it.
use Rattle.std.proofs.Common.{◌≡◌, refl, subst, inl, inr, ◌⊎◌}
use Rattle.command_line.specs.Commands.{Demo}
use Rattle.outer_world.specs.Device.{Rose, SinkState}
use Rattle.daq_cli.specs.Questions.{Question, Reports}
use Rattle.daq_cli.specs.Worlds.{Extent}
use Rattle.daq_cli.specs.commands.Demo.{DemoCause, Demonstrates, demo_step, step, write_fault, no_memory}
use Rattle.daq_cli.specs.declared.refusal.Refusal.{Refusal}
use Rattle.daq_cli.specs.declared.refusal.Refusal.TheVariants.{NoMemory, WriteFault}
use Rattle.daq_cli.specs.Laws.{StepsAreExact}

module _ (law : StepsAreExact) (demo : Demo) (out out' : SinkState) where
  -- a report was begun only where nothing is shown
  pub demo_apart : (extent : Extent) (other : Refusal) → Demonstrates demo extent out out' → (demo_step demo).shows other → ⊥
  demo_apart extent other does p = (law.demo demo).apart does.question other does.accepted p

  -- what is shown is the cause, unless memory runs out
  pub demo_shown : (why other : Refusal) → DemoCause demo out out' why → (demo_step demo).shows other → (why ≡ other) ⊎ (why ≡ NoMemory)
  demo_shown why other (step p o) r = inl ((law.demo demo).same why other p r)
  demo_shown why other (write_fault does) r = absurd (demo_apart _ other does r)
  demo_shown why other (no_memory few o) r = inr refl

  -- the question that is accepted is the one that was answered
  pub demo_question : (extent : Extent) (question : Question) → Demonstrates demo extent out out' → (demo_step demo).accepts question → Reports question extent out out'
  demo_question extent question does accepted = subst (λ a. Reports a extent out out') ((law.demo demo).once does.question question does.accepted accepted) does.reported

  -- where it is accepted, nothing but want of memory and faults stops the run
  pub demo_accepted : (why : Refusal) (question : Question) → DemoCause demo out out' why → (demo_step demo).accepts question → (why ≡ NoMemory) ⊎ Rose out.faults out'.faults
  demo_accepted why question (step p o) accepted = absurd ((law.demo demo).apart question why accepted p)
  demo_accepted why question (write_fault does) accepted = inr does.reported.written.cause.failed
  demo_accepted why question (no_memory few o) accepted = inl refl

-- but for a failed write nothing was written
pub demo_unwritten : (demo : Demo) (out out' : SinkState) (why : Refusal) → DemoCause demo out out' why → (out' ≡ out) ⊎ (why ≡ WriteFault)
demo_unwritten demo out out' why (step p o) = inl o
demo_unwritten demo out out' why (write_fault does) = inr refl
demo_unwritten demo out out' why (no_memory few o) = inl o
