-- Why a line is not taken.
use Rattle.std.proofs.Common.{◌≡◌, ◌⊎◌, ℕ, ◌+◌, None, List, [], ◌∷◌, ◌++◌, refl, sym, ap, subst, ◌∙◌, inl, inr}
use Rattle.outer_world.specs.Device.{SinkState, SourceState}
use Rattle.outer_world.specs.Whole.{Writes}
use Rattle.report_parts.proofs.Courses.{stands_combined}
use Rattle.report_parts.specs.Course.{Combines, Course, IsCourseFault, IsStopped, Stops, StopsBy, Task}
use Rattle.report_parts.specs.declared.combination.Until.{Until}
use Rattle.report_parts.specs.declared.fault.BlockFault.{BlockFault}
use Rattle.report_parts.specs.declared.fault.BlockFault.TheVariants as b
use Rattle.report_parts.specs.declared.fault.CourseFault.TheVariants.{Block, Input}
use Rattle.report_parts.specs.declared.fault.InputFault.{InputFault}
use Rattle.report_parts.specs.declared.fault.InputFault.TheVariants as i
use Rattle.report_parts.specs.declared.fault.LineFault.TheVariants as l
use Rattle.source_lines.specs.Lines.{LinesState, behind_line, front_line}
use Rattle.report_stream.specs.Faults.{of_block, of_input}
use Rattle.report_stream.specs.Steps.{Puts, StopsTake}
use Rattle.report_stream.specs.Steps.Puts.{stopped as put_stopped, taken as put_taken}
use Rattle.report_stream.specs.Steps.StopsTake.{by_block, by_input, by_memory, by_write}
use Rattle.report_stream.specs.Streams.{HasWritten, IsTask, ReadsLines, StreamCause, first_line, partly, whole}
use Rattle.report_stream.specs.declared.fault.LineRefusal.{LineRefusal}
use Rattle.report_stream.specs.declared.fault.LineRefusal.TheVariants as r
use Rattle.report_stream.specs.declared.fault.StreamFault.{StreamFault}
use Rattle.report_stream.specs.declared.fault.StreamFault.TheVariants.{Line, NoMemory, WriteFault}
use Rattle.report_stream.proofs.Passed.{as_read, passed}
use Rattle.report_stream.proofs.Runs.{has_written, still_combines}
use Rattle.report_stream.proofs.Goes.{AtLine, next_task, written_on}

input_kinds : (fault : InputFault) (number : ℕ) →
    ((why : LineRefusal) × (of_input number fault ≡ Line number why)) ⊎ (of_input number fault ≡ NoMemory)
input_kinds i.NoTab number = inl (r.NoTab, refl)
input_kinds i.NoTag number = inl (r.NoTag, refl)
input_kinds i.OtherPart number = inl (r.MoreParts, refl)
input_kinds (i.Line l.OtherQuery) number = inl (r.OtherQuery, refl)
input_kinds (i.Line l.Unlisted) number = inl (r.Unlisted, refl)
input_kinds (i.Line l.OtherLine) number = inl (r.OtherLine, refl)
input_kinds (i.Line l.NoMemory) number = inr refl

-- what is put behind an empty text
pub record StopsEmpty (task : Task) (lines : List (List ℕ)) (body before after : List ℕ) (fault : BlockFault) : Type 0 where
  pub more : List ℕ
  pub put : after ≡ before ++ more
  pub stopped : IsStopped task lines body [] more fault

stops_of : (task : Task) (lines : List (List ℕ)) (body before after : List ℕ) (fault : BlockFault) (h : IsStopped task lines body before after fault) →
    (own : Stops task h.parts body before after fault) → ((more : List ℕ) → Stops task h.parts body [] more fault → StopsBy fault task h.parts body [] more) →
    StopsEmpty task lines body before after fault
stops_of task lines body before after fault h own as_stops = record {
  more = own.more;
  put = own.put;
  stopped = record {
    parts = h.parts;
    told = h.told;
    all = h.all;
    stops = as_stops own.more (record { round = own.round; more = own.more; put = refl; passed = own.passed; goes = own.goes; has = own.has; fault = own.fault });
  };
}

not_memory : (number : ℕ) (why : LineRefusal) → Line number why ≡ NoMemory → ⊥
not_memory number why e = cc

stops_empty : (task : Task) (lines : List (List ℕ)) (body before after : List ℕ) (fault : BlockFault) (number : ℕ) (why : LineRefusal) →
    Line number why ≡ of_block number fault → IsStopped task lines body before after fault → StopsEmpty task lines body before after fault
stops_empty task lines body before after (b.OtherColumn column) number why e h = stops_of task lines body before after (b.OtherColumn column) h h.stops (λ more own. own)
stops_empty task lines body before after (b.OtherItem item) number why e h = stops_of task lines body before after (b.OtherItem item) h h.stops (λ more own. own)
stops_empty task lines body before after (b.TooWide item) number why e h = stops_of task lines body before after (b.TooWide item) h h.stops (λ more own. own)
stops_empty task lines body before after (b.UnclearTag part) number why e h = stops_of task lines body before after (b.UnclearTag part) h h.stops (λ more own. own)
stops_empty task lines body before after b.OtherForm number why e h = stops_of task lines body before after b.OtherForm h h.stops (λ more own. own)
stops_empty task lines body before after b.NoMemory number why e h = absurd (not_memory number why e)

module _ (count : ℕ) (until : Until) (input source : SourceState) (out sink next : SinkState) (reader : LinesState) (old : Course) (text : List ℕ)
    (number : ℕ) (h : AtLine count until input source out sink reader old text number) (opened : old.end ≡ None) where
  read_line : ReadsLines input source (h.runs.lines ++ front_line reader.pending ∷ []) (behind_line reader.pending)
  read_line =
      let own : LinesState = record { pending = behind_line reader.pending; total = reader.total } in
      as_read input source own (h.runs.lines ++ front_line reader.pending ∷ [])
      (passed input source reader own h.runs.lines h.runs.read h.there h.short refl refl)

  task_is : IsTask count until (first_line (h.runs.lines ++ front_line reader.pending ∷ [])) old.task
  task_is = next_task count until out sink reader old.task text h.runs.lines h.runs.body h.runs.at

  wrote : next ≡ sink → HasWritten count until out next h.runs.lines
  wrote same = subst (λ (s : SinkState). HasWritten count until out s h.runs.lines) (sym same)
      (has_written count until out sink reader old text h.runs.lines h.runs.body h.runs.stands opened h.runs.at)

  starved : (why : StreamFault) → why ≡ NoMemory → next ≡ sink → StreamCause count until input source out next why
  starved why e same = subst (λ (f : StreamFault). StreamCause count until input source out next f) (sym e) (record {
    lines = h.runs.lines;
    rest = reader.pending;
    read = as_read input source reader h.runs.lines h.runs.read;
    written = wrote same;
  })

  refuses_line : (why : StreamFault) (fault : InputFault) → why ≡ of_input (number + 1) fault → IsCourseFault (Input fault) old (front_line reader.pending) text text →
      next ≡ sink → ((refusal : LineRefusal) × (of_input (number + 1) fault ≡ Line (number + 1) refusal)) ⊎ (of_input (number + 1) fault ≡ NoMemory) →
      StreamCause count until input source out next why
  refuses_line why fault e refused same (inl (refusal, is)) =
      subst (λ (f : StreamFault). StreamCause count until input source out next f) (sym (e ∙ is)) (inr (inl (record {
        lines = h.runs.lines;
        line = front_line reader.pending;
        rest = behind_line reader.pending;
        task = old.task;
        fault = fault;
        read = read_line;
        counted = ap (λ (n : ℕ). n + 1) h.runs.counted;
        is_task = task_is;
        is = sym is;
        refused = refused.1 h.runs.lines h.runs.body h.runs.stands;
        written = wrote same;
      })))
  refuses_line why fault e refused same (inr is) = starved why (e ∙ is) same

  refuses_block : (why : StreamFault) (refusal : LineRefusal) (fault : BlockFault) (put : List ℕ) → why ≡ Line (number + 1) refusal →
      Line (number + 1) refusal ≡ of_block (number + 1) fault → IsCourseFault (Block fault) old (front_line reader.pending) text put →
      Writes whole sink next put → StreamCause count until input source out next why
  refuses_block why refusal fault put e is stopped written =
      let all = stopped h.runs.lines h.runs.body h.runs.stands in
      let own = stops_empty old.task (h.runs.lines ++ front_line reader.pending ∷ []) h.runs.body text put fault (number + 1) refusal is all in
      subst (λ (f : StreamFault). StreamCause count until input source out next f) (sym e) (inr (inr (inl (record {
        lines = h.runs.lines;
        line = front_line reader.pending;
        rest = behind_line reader.pending;
        task = old.task;
        fault = fault;
        body = h.runs.body;
        more = own.more;
        read = read_line;
        counted = ap (λ (n : ℕ). n + 1) h.runs.counted;
        is_task = task_is;
        is = is;
        earlier = still_combines old h.runs.lines h.runs.body h.runs.stands opened;
        stopped = own.stopped;
        written = written_on count until out sink next reader old.task text h.runs.lines h.runs.body put own.more whole h.runs.at own.put written;
      }))))

  cut_off : (why : StreamFault) (put : List ℕ) → why ≡ WriteFault → Puts old (front_line reader.pending) text put → Writes partly sink next put →
      StreamCause count until input source out next why
  cut_off why put e (put_taken new same takes) written =
      let adds = takes h.runs.lines h.runs.body h.runs.stands in
      let combines = stands_combined new (h.runs.lines ++ front_line reader.pending ∷ []) (h.runs.body ++ adds.more) adds.stands in
      subst (λ (f : StreamFault). StreamCause count until input source out next f) (sym e) (record {
        lines = h.runs.lines;
        line = front_line reader.pending;
        rest = behind_line reader.pending;
        task = old.task;
        body = h.runs.body ++ adds.more;
        read = read_line;
        is_task = task_is;
        told = inl (new.end, subst (λ (t : Task). Combines t (h.runs.lines ++ front_line reader.pending ∷ []) (h.runs.body ++ adds.more) new.end) same combines);
        written = written_on count until out sink next reader old.task text h.runs.lines h.runs.body put adds.more partly h.runs.at adds.put written;
      })
  cut_off why put e (put_stopped n refusal fault is stopped) written =
      let all = stopped h.runs.lines h.runs.body h.runs.stands in
      let own = stops_empty old.task (h.runs.lines ++ front_line reader.pending ∷ []) h.runs.body text put fault n refusal is all in
      subst (λ (f : StreamFault). StreamCause count until input source out next f) (sym e) (record {
        lines = h.runs.lines;
        line = front_line reader.pending;
        rest = behind_line reader.pending;
        task = old.task;
        body = h.runs.body ++ own.more;
        read = read_line;
        is_task = task_is;
        told = inr (h.runs.body, own.more, fault, refl, own.stopped);
        written = written_on count until out sink next reader old.task text h.runs.lines h.runs.body put own.more partly h.runs.at own.put written;
      })

  pub not_taken : {K : Type 0} (state : K → SinkState) (device device' : K) (why : StreamFault) → state device ≡ sink → state device' ≡ next →
      StopsTake old (front_line reader.pending) text (number + 1) device device' (state device) (state device') why →
      StreamCause count until input source out next why
  not_taken state device device' why a b (by_input fault e refused same) =
      refuses_line why fault e refused (sym b ∙ ap state same ∙ a) (input_kinds fault (number + 1))
  not_taken state device device' why a b (by_block refusal fault put e is stopped written) =
      refuses_block why refusal fault put e is stopped (subst (λ (s : SinkState). Writes whole s next put) a (subst (λ (s : SinkState). Writes whole (state device) s put) b written))
  not_taken state device device' why a b (by_memory e same) = starved why e (sym b ∙ ap state same ∙ a)
  not_taken state device device' why a b (by_write put e told written) =
      cut_off why put e told (subst (λ (s : SinkState). Writes partly s next put) a (subst (λ (s : SinkState). Writes partly (state device) s put) b written))
