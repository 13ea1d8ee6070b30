-- The first line, and what it asks.
use Rattle.std.proofs.Common.{◌≡◌, ℕ, ◌≤◌, true, None, List, [], ◌∷◌, refl, sym, subst, ◌∙◌, inl}
use Rattle.outer_world.specs.Device.{SinkState, SourceState}
use Rattle.report_parts.specs.declared.shape.Shape.{Shape}
use Rattle.report_parts.specs.Course.{Course, Stands, Task, opening_text}
use Rattle.report_parts.specs.declared.combination.Until.{Until}
use Rattle.source_lines.specs.Lines.{LinesState, behind_line, front_line, has_line, line_length, most_line}
use Rattle.source_lines.specs.Lines as sl
use Rattle.report_stream.proofs.Passed.{HasRead, as_read, has_read_on, none_read, passed}
use Rattle.report_stream.proofs.NoLines.{no_line_comes}
use Rattle.report_stream.proofs.Ended.{nothing_came}
use Rattle.report_stream.proofs.Runs.{Runs, begins}
use Rattle.report_stream.specs.Steps.{IsAsked, IsFirstFault, StopsAt}
use Rattle.report_stream.specs.Streams.{IsShapeOf, IsTask, StreamCause}
use Rattle.report_stream.specs.declared.fault.StreamFault.{StreamFault}
use Rattle.report_stream.specs.declared.fault.StreamFault.TheVariants.{EndsEarly, Line, NoMemory, OtherCount, ReadFault, TooLong, WriteFault}

-- ---- the first line comes, or does not

pub first_read : (input now : SourceState) (old new : LinesState) → old ≡ sl.no_lines → sl.Stands old new input now → input.faults ≤ now.faults →
    HasRead input now new []
first_read input now old new e stands later =
    has_read_on input input now old new [] (subst (λ (s : LinesState). HasRead input input s []) (sym e) (none_read input)) stands.reads later

pub no_first : (count : ℕ) (until : Until) (input now : SourceState) (out : SinkState) (old : LinesState) (why : StreamFault) → old ≡ sl.no_lines →
    StopsAt 1 old input now why → StreamCause count until input now out out why
no_first count until input now out old why e stop =
    no_line_comes count until input input now out out old [] 1 why (subst (λ (s : LinesState). HasRead input input s []) (sym e) (none_read input))
    (inl (refl, refl)) refl stop

pub none_at_all : (count : ℕ) (until : Until) (input now : SourceState) (out : SinkState) (old new : LinesState) → old ≡ sl.no_lines →
    sl.Ends old new input now → input.faults ≤ now.faults → StreamCause count until input now out out (OtherCount 0)
none_at_all count until input now out old new e ends later =
    nothing_came count until input now out new (subst (λ (s : LinesState). sl.Ends s new input now) e ends) later

-- ---- what it asks

module _ (count : ℕ) (until : Until) (input source : SourceState) (out : SinkState) (reader : LinesState) (read : HasRead input source reader []) where
  pub starved : (why : StreamFault) → why ≡ NoMemory → StreamCause count until input source out out why
  starved why e = subst (λ (f : StreamFault). StreamCause count until input source out out f) (sym e) (record {
    lines = [];
    rest = reader.pending;
    read = as_read input source reader [] read;
    written = inl (refl, refl);
  })

  pub not_asked : has_line reader.pending ≡ true → line_length reader.pending ≤ most_line → (why : StreamFault) →
      IsFirstFault (front_line reader.pending) why → StreamCause count until input source out out why
  not_asked there short (Line number why) p =
      let own : LinesState = record { pending = behind_line reader.pending; total = reader.total } in
      inl (record {
        first = front_line reader.pending;
        rest = behind_line reader.pending;
        read = as_read input source own (front_line reader.pending ∷ []) (passed input source reader own [] read there short refl refl);
        counted = p.0;
        refused = p.1;
        unwritten = refl;
      })
  not_asked there short NoMemory p = starved NoMemory refl
  not_asked there short (EndsEarly tag) p = absurd p
  not_asked there short (OtherCount n) p = absurd p
  not_asked there short TooLong p = absurd p
  not_asked there short ReadFault p = absurd p
  not_asked there short WriteFault p = absurd p

task_of : (count : ℕ) (until : Until) (first query : List ℕ) (shape : Shape) (task : Task) → IsAsked first query shape → task.query ≡ query →
    task.shape ≡ shape → task.count ≡ count → task.near ≡ until.near → task.last ≡ until.rounds → IsTask count until first task
task_of count until first query shape task h q k n w l = record {
  is_tag = h.is_tag;
  query = q ∙ h.is_query;
  is_shape = subst (λ (own : Shape). IsShapeOf task.query own) (sym k) (subst (λ (own : List ℕ). IsShapeOf own shape) (sym q) h.is_shape);
  count = n;
  near = w;
  last = l;
}

pub starts : (count : ℕ) (until : Until) (input source : SourceState) (out : SinkState) (reader : LinesState) (course : Course) (text query : List ℕ)
    (shape : Shape) → HasRead input source reader [] → has_line reader.pending ≡ true → IsAsked (front_line reader.pending) query shape →
    text ≡ opening_text query count → course.task.query ≡ query → course.task.shape ≡ shape → course.task.count ≡ count →
    course.task.near ≡ until.near → course.task.last ≡ until.rounds → Stands course [] [] → course.end ≡ None →
    Runs count until input source out out reader course text 0
starts count until input source out reader course text query shape read there asked opening q k n w l stands e =
    begins count until input source out reader course text read there stands e
    (task_of count until (front_line reader.pending) query shape course.task asked q k n w l)
    (subst (λ (own : List ℕ). text ≡ opening_text own course.task.count) (sym q)
    (subst (λ (parts : ℕ). text ≡ opening_text query parts) (sym n) opening))
