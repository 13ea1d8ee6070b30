-- A line more is taken.
use Rattle.std.proofs.Common.{◌≡◌, ℕ, ◌+◌, ◌≤◌, true, None, List, [], ◌∷◌, ◌++◌, length, refl, sym, ap, subst, ◌∙◌, inl, inr, append_assoc, length-append}
use Rattle.outer_world.specs.Device.{SinkState, SourceState}
use Rattle.outer_world.specs.Whole.{Writes}
use Rattle.outer_world.proofs.Writes.{writes_both}
use Rattle.report_parts.specs.Course.{Combines, Course, Task, opening_text}
use Rattle.report_parts.specs.declared.combination.Until.{Until}
use Rattle.source_lines.specs.Lines.{LinesState, behind_line, front_line, has_line, line_length, most_bytes, most_line}
use Rattle.source_lines.specs.Lines as sl
use Rattle.report_stream.proofs.Counts.{line_more, line_within}
use Rattle.report_stream.proofs.Lines.{no_more_lines, task_stays}
use Rattle.report_stream.specs.Steps.{PutsOut}
use Rattle.report_stream.specs.Streams.{Extent, IsTask, combined_text, first_line, lines_text, whole}
use Rattle.report_stream.proofs.Passed.{has_read_on, passed}
use Rattle.report_stream.proofs.Runs.{IsAt, IsFresh, Runs, still_combines}

-- ---- a line stands there

-- the line is read on to, and where it is the first nothing is read
pub record AtLine (count : ℕ) (until : Until) (input source : SourceState) (out sink : SinkState) (reader : LinesState) (course : Course)
    (text : List ℕ) (number : ℕ) : Type 0 where
  pub runs : Runs count until input source out sink reader course text number
  pub there : has_line reader.pending ≡ true
  pub short : line_length reader.pending ≤ most_line

pub at_line : (count : ℕ) (until : Until) (input now next : SourceState) (out sink : SinkState) (old new : LinesState) (course : Course)
    (text : List ℕ) (number : ℕ) → Runs count until input now out sink old course text number → sl.Stands old new now next →
    (has_line old.pending ≡ true → new ≡ old) → now.faults ≤ next.faults → AtLine count until input next out sink new course text number
at_line count until input now next out sink old new course text number h stands idle later = record {
  runs = record {
    lines = h.lines;
    body = h.body;
    read = has_read_on input now next old new h.lines h.read stands.reads later;
    stands = h.stands;
    at = moved h.at;
    ended = h.ended;
    counted = h.counted;
    few = h.few;
  };
  there = stands.line;
  short = stands.short;
}
  where
    moved : IsAt count until out sink old course.task text h.lines h.body → IsAt count until out sink new course.task text h.lines h.body
    moved (inl fresh) = inl (subst (λ (s : LinesState). IsFresh count until out sink s course.task text h.lines h.body) (sym (idle fresh.there)) fresh)
    moved (inr going) = inr going

-- the task of the line and those before it
pub next_task : (count : ℕ) (until : Until) (out now : SinkState) (reader : LinesState) (task : Task) (text : List ℕ) (lines : List (List ℕ)) (body : List ℕ) →
    IsAt count until out now reader task text lines body → IsTask count until (first_line (lines ++ front_line reader.pending ∷ [])) task
next_task count until out now reader task text lines body (inl fresh) =
    subst (λ (ls : List (List ℕ)). IsTask count until (first_line (ls ++ front_line reader.pending ∷ [])) task) (sym fresh.none) fresh.is_task
next_task count until out now reader task text lines body (inr going) =
    task_stays count until lines (front_line reader.pending) task going.is_task

-- what is written behind the text goes on from what was written
pub written_on : (count : ℕ) (until : Until) (out now next : SinkState) (reader : LinesState) (task : Task) (text : List ℕ) (lines : List (List ℕ))
    (body put more : List ℕ) (extent : Extent) → IsAt count until out now reader task text lines body → put ≡ text ++ more →
    Writes extent now next put → Writes extent out next (combined_text task (body ++ more))
written_on count until out now next reader task text lines body put more extent (inl fresh) e w =
    let opening = opening_text task.query task.count in
    let all : put ≡ opening ++ (body ++ more) =
    e ∙ ap (λ (t : List ℕ). t ++ more) fresh.opening ∙ sym (ap (λ (t : List ℕ). opening ++ (t ++ more)) fresh.nothing) in
    subst (λ (t : List ℕ). Writes extent out next t) all (subst (λ (s : SinkState). Writes extent s next put) fresh.unwritten w)
written_on count until out now next reader task text lines body put more extent (inr going) e w =
    let opening = opening_text task.query task.count in
    let own : put ≡ more = e ∙ ap (λ (t : List ℕ). t ++ more) going.empty in
    subst (λ (t : List ℕ). Writes extent out next t) (append_assoc opening body more)
    (writes_both tt extent out now next (opening ++ body) more going.written (subst (λ (t : List ℕ). Writes extent now next t) own w))

-- ---- the line is taken

pub goes_on : (count : ℕ) (until : Until) (input source : SourceState) (out sink next : SinkState) (reader behind : LinesState) (old new : Course)
    (text text' : List ℕ) (number : ℕ) → AtLine count until input source out sink reader old text number → old.end ≡ None → new.task ≡ old.task →
    PutsOut old new (front_line reader.pending) text text' sink next → behind.pending ≡ behind_line reader.pending → behind.total ≡ reader.total →
    behind.total ≤ most_bytes → Runs count until input source out next behind new text' (number + 1)
goes_on count until input source out sink next reader behind old new text text' number h opened task puts pending total within =
    let run = h.runs in
    let line = front_line reader.pending in
    let adds = puts.takes run.lines run.body run.stands in
    let read = passed input source reader behind run.lines run.read h.there h.short pending total in
    let counts = length-append run.lines (line ∷ []) in
    let fewer = no_more_lines (run.lines ++ line ∷ []) in
    let is_task = next_task count until out sink reader old.task text run.lines run.body run.at in
    let written = written_on count until out sink next reader old.task text run.lines run.body puts.put adds.more whole run.at adds.put puts.written in
    record {
      lines = run.lines ++ line ∷ [];
      body = run.body ++ adds.more;
      read = read;
      stands = adds.stands;
      at = inr (record {
        is_task = subst (λ (t : Task). IsTask count until (first_line (run.lines ++ line ∷ [])) t) (sym task) is_task;
        written = subst (λ (t : Task). Writes whole out next (combined_text t (run.body ++ adds.more))) (sym task) written;
        empty = puts.empty;
      });
      ended = λ end some. record {
        before = run.lines;
        last = line;
        split = refl;
        earlier = subst (λ (t : Task). (body : List ℕ) × Combines t run.lines body None) (sym task)
            (run.body, still_combines old run.lines run.body run.stands opened);
      };
      counted = line_more number (length run.lines) (length (run.lines ++ line ∷ [])) run.counted counts;
      few =
          line_within most_bytes number (length run.lines) (length (run.lines ++ line ∷ [])) (length (lines_text (run.lines ++ line ∷ [])))
          behind.total (length behind.pending) run.counted counts fewer read.total within;
    }
