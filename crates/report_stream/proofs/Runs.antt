-- The course of the stream: what was read, taken and written so far.
use Rattle.std.proofs.Common.{◌≡◌, ◌⊎◌, ℕ, ◌≤◌, true, Option, Some, None, List, [], ◌∷◌, ◌++◌, length, refl, sym, subst, ◌∙◌, inl, inr}
use Rattle.std.proofs.lemmas.Option.{none-some}
use Rattle.outer_world.specs.Device.{SinkState, SourceState}
use Rattle.outer_world.specs.Whole.{Writes}
use Rattle.report_text.specs.declared.lines.ReportEnd.{ReportEnd}
use Rattle.report_parts.proofs.Courses.{stands_combined}
use Rattle.report_parts.specs.Course.{Combines, Course, Stands, Task, opening_text}
use Rattle.report_parts.specs.declared.combination.Until.{Until}
use Rattle.source_lines.specs.Lines.{LinesState, front_line, has_line, most_bytes}
use Rattle.report_stream.specs.Streams.{HasWritten, IsTask, combined_text, first_line, whole}
use Rattle.report_stream.proofs.Counts.{none_few}
use Rattle.report_stream.proofs.Passed.{HasRead}

-- the first line stands there, and the opening is not written yet
pub record IsFresh (count : ℕ) (until : Until) (out now : SinkState) (reader : LinesState) (task : Task) (text : List ℕ)
    (lines : List (List ℕ)) (body : List ℕ) : Type 0 where
  pub none : lines ≡ []
  pub nothing : body ≡ []
  pub there : has_line reader.pending ≡ true
  pub is_task : IsTask count until (front_line reader.pending) task
  pub unwritten : now ≡ out
  pub opening : text ≡ opening_text task.query task.count

-- what the lines tell is written
pub record IsGoing (count : ℕ) (until : Until) (out now : SinkState) (task : Task) (text : List ℕ) (lines : List (List ℕ)) (body : List ℕ)
    : Type 0 where
  pub is_task : IsTask count until (first_line lines) task
  pub written : Writes whole out now (combined_text task body)
  pub empty : text ≡ []

abbrev pub IsAt : ℕ → Until → SinkState → SinkState → LinesState → Task → List ℕ → List (List ℕ) → List ℕ → Type 0
IsAt count until out now reader task text lines body =
    IsFresh count until out now reader task text lines body ⊎ IsGoing count until out now task text lines body

-- the last of the lines ended the report
pub record EndedBy (task : Task) (lines : List (List ℕ)) : Type 0 where
  pub before : List (List ℕ)
  pub last : List ℕ
  pub split : lines ≡ before ++ last ∷ []
  pub earlier : (body : List ℕ) × Combines task before body None

pub record Runs (count : ℕ) (until : Until) (input source : SourceState) (out sink : SinkState) (reader : LinesState) (course : Course)
    (text : List ℕ) (number : ℕ) : Type 0 where
  pub lines : List (List ℕ)
  pub body : List ℕ
  pub read : HasRead input source reader lines
  pub stands : Stands course lines body
  pub at : IsAt count until out sink reader course.task text lines body
  pub ended : (end : ReportEnd) → course.end ≡ Some end → EndedBy course.task lines
  pub counted : number ≡ length lines
  pub few : number ≤ most_bytes

pub still_combines : (course : Course) (lines : List (List ℕ)) (body : List ℕ) → Stands course lines body → course.end ≡ None →
    Combines course.task lines body None
still_combines course lines body h e =
    subst (λ (o : Option ReportEnd). Combines course.task lines body o) e (stands_combined course lines body h)

pub has_written : (count : ℕ) (until : Until) (out now : SinkState) (reader : LinesState) (course : Course) (text : List ℕ) (lines : List (List ℕ))
    (body : List ℕ) → Stands course lines body → course.end ≡ None → IsAt count until out now reader course.task text lines body →
    HasWritten count until out now lines
has_written count until out now reader course text lines body h e (inl fresh) = inl (fresh.none, fresh.unwritten)
has_written count until out now reader course text lines body h e (inr going) =
    inr (record { task = course.task; body = body; is_task = going.is_task; combines = still_combines course lines body h e; written = going.written })

-- before the first line is taken
pub begins : (count : ℕ) (until : Until) (input source : SourceState) (out : SinkState) (reader : LinesState) (course : Course) (text : List ℕ) →
    HasRead input source reader [] → has_line reader.pending ≡ true → Stands course [] [] → course.end ≡ None →
    IsTask count until (front_line reader.pending) course.task → text ≡ opening_text course.task.query course.task.count →
    Runs count until input source out out reader course text 0
begins count until input source out reader course text read there stands e is_task opening = record {
  lines = [];
  body = [];
  read = read;
  stands = stands;
  at = inl (record { none = refl; nothing = refl; there = there; is_task = is_task; unwritten = refl; opening = opening });
  ended = λ end some. absurd (none-some end (sym e ∙ some));
  counted = refl;
  few = none_few most_bytes;
}
