-- What an `ask` shows and accepts, where its input tells its bytes, is what becomes of it.
use Rattle.std.proofs.Common.{◌≡◌, ℕ, ◌≤◌, List, ◌++◌, length, length-append, append-nil, refl, sym, ap, ◌∙◌, subst, arith, inl, inr, ◌⊎◌, Option, Some, None}
use Rattle.std.specs.Io.KnownBytes.{Consumes, IsAtEnd}
use Rattle.command_line.specs.Commands.{Ask}
use Rattle.outer_world.specs.Device.{Rose, SourceState, SinkState}
use Rattle.daq_cli.specs.Inputs.{StopsAtInput}
use Rattle.daq_cli.specs.Questions.{Question, Reports}
use Rattle.daq_cli.specs.Worlds.{Extent}
use Rattle.daq_cli.specs.commands.Ask.{AskAccepts, AskCause, AskShows, Asks, ask_step, words_step, at_words, at_input, read_fault, write_fault, no_memory}
use Rattle.daq_cli.specs.declared.refusal.Refusal.{Refusal}
use Rattle.daq_cli.specs.declared.refusal.Refusal.TheVariants.{NoMemory, WriteFault}
use Rattle.daq_cli.specs.Laws.{StepsAreExact}

-- ---- told bytes are read whole

pub all_bytes : (left left' : Option (List ℕ)) (bytes read : List ℕ) → left ≡ Some bytes → Consumes left left' read → IsAtEnd left' → read ≡ bytes
all_bytes None left' bytes read e c end = absurd cc
all_bytes (Some xs) None bytes read e c end = absurd c
all_bytes (Some xs) (Some ys) bytes read e c end =
    let told : xs ≡ bytes = cc in
    sym (sym told ∙ c ∙ ap (λ l. read ++ l) end ∙ append-nil read)

pub few_bytes : (left left' : Option (List ℕ)) (bytes read : List ℕ) → left ≡ Some bytes → Consumes left left' read → length read ≤ length bytes
few_bytes None left' bytes read e c = absurd cc
few_bytes (Some xs) None bytes read e c = absurd c
few_bytes (Some xs) (Some ys) bytes read e c =
    let told : xs ≡ bytes = cc in
    let long : length bytes ≡ length (read ++ ys) = ap length (sym told ∙ c) in
    omega (arith, long, length-append read ys)

same_told : (told : Option (List ℕ)) (a b : List ℕ) → told ≡ Some a → told ≡ Some b → a ≡ b
same_told told a b e f = cc

-- ---- what is shown

-- what the words show they show with each input
pub words_anyway : (ask : Ask) (bytes : List ℕ) (why : Refusal) → (words_step ask).shows why → (ask_step ask bytes).shows why
words_anyway ask bytes why (inl p) = inl p
words_anyway ask bytes why (inr (query, is, p)) = inr (query, is, inl p)

-- what is shown by the part that was read is shown by all that the input told
told_too : (ask : Ask) (input input' : SourceState) (bytes : List ℕ) (why : Refusal) → input.left ≡ Some bytes → StopsAtInput (ask_step ask) input input' why → (ask_step ask bytes).shows why
told_too ask input input' bytes why told stop = by stop.shown
  where
    by : (ask_step ask stop.bytes).shows why → (ask_step ask bytes).shows why
    by (inl p) = inl p
    by (inr (query, is, inl p)) = inr (query, is, inl p)
    by (inr (query, is, inr (columns, declared, inl (inl long)))) =
        let longer = long.longer in
        let few = few_bytes input.left input'.left bytes stop.bytes told stop.came in
        inr (query, is, inr (columns, declared, inl (inl (record { longer = omega (arith, longer, few); is = long.is }))))
    by (inr (query, is, inr (columns, declared, inl (inr faulty)))) =
        let whole = all_bytes input.left input'.left bytes stop.bytes told stop.came (stop.ended faulty.small) in
        subst (λ l. (ask_step ask l).shows why) whole (inr (query, is, inr (columns, declared, inl (inr faulty))))
    by (inr (query, is, inr (columns, declared, inr (table, is_table, p)))) =
        let whole = all_bytes input.left input'.left bytes stop.bytes told stop.came (stop.ended is_table.small) in
        subst (λ l. (ask_step ask l).shows why) whole (inr (query, is, inr (columns, declared, inr (table, is_table, p))))

module _ (law : StepsAreExact) (ask : Ask) (input input' : SourceState) (out out' : SinkState) where
  -- a report was begun only where nothing is shown
  pub asks_apart : (extent : Extent) (other : Refusal) → Asks ask extent input input' out out' → AskShows ask input.left other → ⊥
  asks_apart extent other does (inl p) = (law.ask ask does.bytes).apart does.question other does.accepted (words_anyway ask does.bytes other p)
  asks_apart extent other does (inr (bytes, told, p)) =
      let read = all_bytes input.left input'.left bytes does.bytes told does.read.came does.read.ended in
      (law.ask ask bytes).apart does.question other (subst (λ l. (ask_step ask l).accepts does.question) read does.accepted) p

  -- what is shown is the cause, unless memory runs out or a read fails
  pub ask_shown : (why other : Refusal) → AskCause ask input input' out out' why → AskShows ask input.left other →
      (why ≡ other) ⊎ (why ≡ NoMemory) ⊎ Rose input.faults input'.faults
  ask_shown why other (at_words p i o) (inl r) = inl ((law.words ask).same why other p r)
  ask_shown why other (at_words p i o) (inr (bytes, told, r)) = inl ((law.ask ask bytes).same why other (words_anyway ask bytes why p) r)
  ask_shown why other (at_input stop o) (inl p) = inl ((law.ask ask stop.bytes).same why other stop.shown (words_anyway ask stop.bytes other p))
  ask_shown why other (at_input stop o) (inr (bytes, told, p)) = inl ((law.ask ask bytes).same why other (told_too ask input input' bytes why told stop) p)
  ask_shown why other (read_fault accepted rose taken o) shows = inr (inr rose)
  ask_shown why other (write_fault does) shows = absurd (asks_apart _ other does shows)
  ask_shown why other (no_memory few taken o) shows = inr (inl refl)

  -- the question that is accepted is the one that was answered
  pub asks_question : (extent : Extent) (question : Question) → Asks ask extent input input' out out' → AskAccepts ask input.left question → Reports question extent out out'
  asks_question extent question does (bytes, told, accepted) =
      let read = all_bytes input.left input'.left bytes does.bytes told does.read.came does.read.ended in
      let same = (law.ask ask bytes).once does.question question (subst (λ l. (ask_step ask l).accepts does.question) read does.accepted) accepted in
      subst (λ a. Reports a extent out out') same does.reported

  -- where it is accepted, nothing but want of memory and faults stops the run
  pub ask_accepted : (why : Refusal) (question : Question) → AskCause ask input input' out out' why → AskAccepts ask input.left question →
      (why ≡ NoMemory) ⊎ Rose input.faults input'.faults ⊎ Rose out.faults out'.faults
  ask_accepted why question (at_words p i o) (bytes, told, accepted) = absurd ((law.ask ask bytes).apart question why accepted (words_anyway ask bytes why p))
  ask_accepted why question (at_input stop o) (bytes, told, accepted) = absurd ((law.ask ask bytes).apart question why accepted (told_too ask input input' bytes why told stop))
  ask_accepted why question (read_fault words rose taken o) accepted = inr (inl rose)
  ask_accepted why question (write_fault does) accepted = inr (inr does.reported.written.cause.failed)
  ask_accepted why question (no_memory few taken o) accepted = inl refl

-- but for a failed write nothing was written
pub ask_unwritten : (ask : Ask) (input input' : SourceState) (out out' : SinkState) (why : Refusal) → AskCause ask input input' out out' why → (out' ≡ out) ⊎ (why ≡ WriteFault)
ask_unwritten ask input input' out out' why (at_words p i o) = inl o
ask_unwritten ask input input' out out' why (at_input stop o) = inl o
ask_unwritten ask input input' out out' why (read_fault words rose taken o) = inl o
ask_unwritten ask input input' out out' why (write_fault does) = inr refl
ask_unwritten ask input input' out out' why (no_memory few taken o) = inl o
