-- What a `combine` accepts, where its input tells its bytes, is what becomes of it; and before its report can begin it writes nothing.
use Rattle.std.proofs.Common.{◌≡◌, ℕ, List, [], ◌∷◌, ◌++◌, refl, sym, ◌∙◌, ap, subst, inl, inr, ◌⊎◌}
use Rattle.command_line.specs.Commands.{Combine}
use Rattle.std.specs.Io.KnownBytes.{Consumes}
use Rattle.outer_world.specs.Device.{Rose, SinkState, SourceState}
use Rattle.outer_world.specs.Whole.{Writes}
use Rattle.report_parts.specs.Course.{Tell}
use Rattle.report_parts.specs.GroupHeadline.{CombinedGroupsAreCertain}
use Rattle.report_parts.specs.Headline.{CombinedAveragesAreCertain, CombinedBesidesAreCertain, CombinedClipsAreCertain, CombinedExactAveragesAreCertain, CombinedIsCertain}
use Rattle.report_parts.specs.RowHeadline.{CombinedRowsAreCertain}
use Rattle.report_parts.specs.TextHeadline.{CombinedTextClipsAreCertain, CombinedTextsAreCertain}
use Rattle.report_parts.specs.Told.{Told}
use Rattle.report_stream.proofs.LineTexts.{read_before}
use Rattle.report_stream.specs.Streams.{AreLines, Combined, HasWritten, IsCutOff, ReadsLines, StreamCause, TellsBody, lines_text}
use Rattle.report_stream.specs.declared.fault.StreamFault.{StreamFault}
use Rattle.report_stream.specs.declared.fault.StreamFault.TheVariants as p
use Rattle.daq_cli.specs.Faults as of
use Rattle.daq_cli.specs.Laws.{StepsAreExact}
use Rattle.daq_cli.specs.Worlds.{whole}
use Rattle.daq_cli.specs.commands.Combine.{BeginsReport, CombineAccepts, CombineCause, CombineShows, CombinesReports, until_of}
use Rattle.daq_cli.specs.declared.refusal.Refusal.{Refusal}
use Rattle.daq_cli.specs.declared.refusal.Refusal.TheVariants.{NoMemory, WriteFault}

module _ (law : StepsAreExact) (c : Combine) (input input' : SourceState) (out out' : SinkState) where
  -- the report that is accepted is the one that was written
  pub combines_text : (text : List ℕ) → CombinesReports c input input' out out' → CombineAccepts c input.left text → Writes whole out out' text
  combines_text text does (bytes, told, accepted) = (law.reports c.parts (until_of c) input input' out out' bytes text told accepted).done does.combined

  -- where it is accepted, nothing but want of memory and faults stops the run
  pub combine_accepted : (why : Refusal) (text : List ℕ) → CombineCause c input input' out out' why → CombineAccepts c input.left text →
      (why ≡ NoMemory) ⊎ Rose input.faults input'.faults ⊎ Rose out.faults out'.faults
  combine_accepted why text cause (bytes, told, accepted) = by ((law.reports c.parts (until_of c) input input' out out' bytes text told accepted).stopped cause.fault cause.cause)
    where
      by : (cause.fault ≡ p.NoMemory) ⊎ Rose input.faults input'.faults ⊎ Rose out.faults out'.faults → (why ≡ NoMemory) ⊎ Rose input.faults input'.faults ⊎ Rose out.faults out'.faults
      by (inl e) = inl (cause.is ∙ ap (of.reports c.parts) e)
      by (inr failed) = inr failed

-- a write that failed is one of a report that could begin
cut_begins : (c : Combine) (input input' : SourceState) (out out' : SinkState) → IsCutOff c.parts (until_of c) input input' out out' → BeginsReport c input input'
cut_begins c input input' out out' h = by h.told
  where
    begins : (parts : List Told) → Tell h.task [] (h.lines ++ h.line ∷ []) parts → BeginsReport c input input'
    begins parts told = record { lines = h.lines ++ h.line ∷ []; rest = h.rest; task = h.task; parts = parts; came = h.read.came; are_lines = h.read.are_lines; is_task = h.is_task; told = told }

    by : TellsBody h.task h.lines h.line h.body → BeginsReport c input input'
    by (inl (end, combines)) = begins combines.parts combines.told
    by (inr (before, more, fault, put, stopped)) = begins stopped.parts stopped.told

module _ (law : StepsAreExact) (c : Combine) (input input' : SourceState) (out out' : SinkState) where
  -- where something is shown the report was not written to its end
  pub combines_apart : (other : Refusal) → CombinesReports c input input' out out' → CombineShows c input.left other → ⊥
  combines_apart other does (bytes, told, s) = (law.faults c.parts (until_of c) input input' out out' bytes s.fault told s.shown).undone does.combined

  -- what is shown is the cause, unless memory runs out, a read fails, or the write of a report that could begin
  pub combine_shown : (why other : Refusal) → CombineCause c input input' out out' why → CombineShows c input.left other →
      (why ≡ other) ⊎ (why ≡ NoMemory) ⊎ Rose input.faults input'.faults ⊎ (BeginsReport c input input' × Rose out.faults out'.faults × (why ≡ WriteFault))
  combine_shown why other cause (bytes, told, s) = by ((law.faults c.parts (until_of c) input input' out out' bytes s.fault told s.shown).stopped cause.fault cause.cause)
    where
      by : (cause.fault ≡ s.fault) ⊎ (cause.fault ≡ p.NoMemory) ⊎ Rose input.faults input'.faults ⊎ ((cause.fault ≡ p.WriteFault) × Rose out.faults out'.faults) →
          (why ≡ other) ⊎ (why ≡ NoMemory) ⊎ Rose input.faults input'.faults ⊎ (BeginsReport c input input' × Rose out.faults out'.faults × (why ≡ WriteFault))
      by (inl e) = inl (cause.is ∙ ap (of.reports c.parts) e ∙ sym s.is)
      by (inr (inl e)) = inr (inl (cause.is ∙ ap (of.reports c.parts) e))
      by (inr (inr (inl rose))) = inr (inr (inl rose))
      by (inr (inr (inr (e, rose)))) =
          inr (inr (inr (cut_begins c input input' out out' (subst (StreamCause c.parts (until_of c) input input' out out') e cause.cause), rose, cause.is ∙ ap (of.reports c.parts) e)))

module _ (c : Combine) (input input' : SourceState) (out out' : SinkState) where
  abbrev Early : Type 0
  Early = (out' ≡ out) ⊎ BeginsReport c input input'

  -- nothing was written, or lines were taken
  behind_early : (lines : List (List ℕ)) (rest : List ℕ) → Consumes input.left input'.left (lines_text lines ++ rest) → AreLines lines →
      HasWritten c.parts (until_of c) out out' lines → Early
  behind_early lines rest came are (inl (none, same)) = inl same
  behind_early lines rest came are (inr g) = inr (record {
    lines = lines;
    rest = rest;
    task = g.task;
    parts = g.combines.parts;
    came = came;
    are_lines = are;
    is_task = g.is_task;
    told = g.combines.told;
  })

  written_early : (lines : List (List ℕ)) (rest : List ℕ) → ReadsLines input input' lines rest → HasWritten c.parts (until_of c) out out' lines → Early
  written_early lines rest read written = behind_early lines rest read.came read.are_lines written

  stopped_early : (fault : StreamFault) → StreamCause c.parts (until_of c) input input' out out' fault → Early ⊎ (fault ≡ p.WriteFault)
  stopped_early (p.Line number why) (inl h) = inl (inl h.unwritten)
  stopped_early (p.Line number why) (inr (inl h)) = inl (written_early h.lines (h.line ++ 10 ∷ h.rest) (read_before input input' h.lines h.line h.rest h.read) h.written)
  stopped_early (p.Line number why) (inr (inr (inl h))) = inl (inr (record {
    lines = h.lines ++ h.line ∷ [];
    rest = h.rest;
    task = h.task;
    parts = h.stopped.parts;
    came = h.read.came;
    are_lines = h.read.are_lines;
    is_task = h.is_task;
    told = h.stopped.told;
  }))
  stopped_early (p.Line number why) (inr (inr (inr h))) = inl (written_early h.lines h.rest h.read h.written)
  stopped_early (p.EndsEarly tag) h = let e = h.ends.ends in inl (written_early h.ends.lines e.rest e.read e.written)
  stopped_early (p.OtherCount number) (inl (none, e)) = inl (written_early [] e.rest e.read e.written)
  stopped_early (p.OtherCount number) (inr h) = let e = h.ends.ends in inl (written_early h.ends.lines e.rest e.read e.written)
  stopped_early p.TooLong h = inl (behind_early h.lines (h.rest ++ h.last ∷ []) h.came h.are_lines h.written)
  stopped_early p.ReadFault h = inl (written_early h.lines h.rest h.read h.written)
  stopped_early p.WriteFault h = inr refl
  stopped_early p.NoMemory h = inl (written_early h.lines h.rest h.read h.written)

  -- before its report can begin it writes nothing
  pub combine_unwritten : (why : Refusal) → CombineCause c input input' out out' why → (out' ≡ out) ⊎ BeginsReport c input input' ⊎ (why ≡ WriteFault)
  combine_unwritten why cause = by (stopped_early cause.fault cause.cause)
    where
      by : Early ⊎ (cause.fault ≡ p.WriteFault) → (out' ≡ out) ⊎ BeginsReport c input input' ⊎ (why ≡ WriteFault)
      by (inl (inl same)) = inl same
      by (inl (inr begins)) = inr (inl begins)
      by (inr e) = inr (inr (cause.is ∙ ap (of.reports c.parts) e))

-- the same said of devices that tell the same
pub combine_stops : (c : Combine) (i i' j : SourceState) (o o' p : SinkState) (why : Refusal) → i ≡ i' → o ≡ o' → CombineCause c i j o p why → CombineCause c i' j o' p why
combine_stops c i i' j o o' p why e f cause = subst (λ x. CombineCause c x j o' p why) e (subst (λ x. CombineCause c i j x p why) f cause)

-- what is written is certain, where the reports of the parts are
pub combine_done : CombinedIsCertain → CombinedAveragesAreCertain → CombinedBesidesAreCertain → CombinedClipsAreCertain → CombinedExactAveragesAreCertain → CombinedGroupsAreCertain →
    CombinedRowsAreCertain → CombinedTextsAreCertain → CombinedTextClipsAreCertain →
    (c : Combine) (input input' : SourceState) (out out' : SinkState) → Combined c.parts (until_of c) input input' out out' → CombinesReports c input input' out out'
combine_done certain averages besides clips exact groups rows texts text_clips c input input' out out' combined = record {
  combined = combined;
  headline = λ totals. record {
    items = λ item kind tables round other there all. certain item kind combined.task.shape combined.combines.parts tables round totals other there all;
    averages = λ item tables round there none all. averages item combined.task.shape combined.combines.parts tables round totals there none all;
    besides = λ item beside tables round there stands all both. besides item beside combined.task.shape combined.combines.parts tables round totals there stands all both;
    clips = λ item kind tables round other there all. clips item kind combined.task.shape combined.combines.parts tables round totals other there all;
    exact_averages = λ item tables round there all. exact item combined.task.shape combined.combines.parts tables round totals there all;
    texts = λ item kind extreme tables round there asks all. texts item kind extreme combined.task.shape combined.combines.parts tables round totals there asks all;
    text_clips = λ item kind extreme tables round there asks all. text_clips item kind extreme combined.task.shape combined.combines.parts tables round totals there asks all;
  };
  groups = groups combined.task (combined.lines ++ combined.last ∷ []) combined.combines.parts combined.combines.told;
  rows = λ asked no_groups is_asked.
      rows combined.task (combined.lines ++ combined.last ∷ []) combined.combines.parts asked combined.combines.told no_groups is_asked;
}
