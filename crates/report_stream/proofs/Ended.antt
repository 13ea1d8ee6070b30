-- The report ends, or the input before it.
use Rattle.std.proofs.Common.{◌≡◌, ℕ, ◌≤◌, true, false, Option, Some, None, is_some, List, [], ◌∷◌, ◌++◌, length, refl, sym, ap, subst, ◌∙◌, inl, inr, length-append}
use Rattle.std.proofs.lemmas.Bool.{false≢true}
use Rattle.outer_world.specs.Device.{SinkState, SourceState}
use Rattle.report_text.specs.declared.lines.ReportEnd.{ReportEnd}
use Rattle.report_parts.proofs.Courses.{stands_combined}
use Rattle.report_parts.specs.Course.{Combines, Course}
use Rattle.report_parts.specs.declared.combination.Until.{Until}
use Rattle.source_lines.specs.Lines.{LinesState, has_line}
use Rattle.source_lines.specs.Lines as sl
use Rattle.report_stream.proofs.Counts.{not_none}
use Rattle.report_stream.proofs.Parts.{kept_parts, same_open, same_tag_at, tells_in_order}
use Rattle.report_parts.proofs.FromRounds.{same_count}
use Rattle.report_stream.specs.Steps.{IsEarlyPart, IsEnd, IsOtherCount}
use Rattle.report_stream.specs.Streams.{Combined, Ends, EndsWith, HasWritten, IsTask, ReadsLines, StreamCause, first_line}
use Rattle.report_stream.specs.declared.fault.StreamFault.{StreamFault}
use Rattle.report_stream.specs.declared.fault.StreamFault.TheVariants.{EndsEarly, Line, NoMemory, OtherCount, ReadFault, TooLong, WriteFault}
use Rattle.report_stream.proofs.Passed.{HasRead, as_read, has_read_on, none_read}
use Rattle.report_stream.proofs.Runs.{EndedBy, IsAt, Runs, has_written}

-- ---- the end of the report

never_empty : (before : List (List ℕ)) (last : List ℕ) → [] ≡ before ++ last ∷ [] → ⊥
never_empty before last e = not_none (length (before ++ last ∷ [])) (length before) (ap length e) (length-append before (last ∷ []))

done : (count : ℕ) (until : Until) (input source : SourceState) (out sink : SinkState) (reader : LinesState) (course : Course) (text : List ℕ)
    (number : ℕ) (end : ReportEnd) → Runs count until input source out sink reader course text number → course.end ≡ Some end →
    Combined count until input source out sink
done count until input source out sink reader course text number end h some = by h.at
  where
    own : EndedBy course.task h.lines
    own = h.ended end some

    combines : Combines course.task (own.before ++ own.last ∷ []) h.body (Some end)
    combines = subst (λ (ls : List (List ℕ)). Combines course.task ls h.body (Some end)) own.split
        (subst (λ (o : Option ReportEnd). Combines course.task h.lines h.body o) some (stands_combined course h.lines h.body h.stands))

    by : IsAt count until out sink reader course.task text h.lines h.body → Combined count until input source out sink
    by (inl fresh) = absurd (never_empty own.before own.last (sym fresh.none ∙ own.split))
    by (inr going) = record {
      lines = own.before;
      last = own.last;
      rest = reader.pending;
      task = course.task;
      body = h.body;
      end = end;
      read = subst (λ (ls : List (List ℕ)). ReadsLines input source ls reader.pending) own.split (as_read input source reader h.lines h.read);
      is_task = subst (λ (ls : List (List ℕ)). IsTask count until (first_line ls) course.task) own.split going.is_task;
      combines = combines;
      earlier = own.earlier;
      written = going.written;
    }

some_end : (end : Option ReportEnd) → is_some end ≡ true → (own : ReportEnd) × (end ≡ Some own)
some_end None h = absurd (false≢true h)
some_end (Some own) h = (own, refl)

pub done_where : (count : ℕ) (until : Until) (input source : SourceState) (out sink : SinkState) (reader : LinesState) (course : Course) (text : List ℕ)
    (number : ℕ) → Runs count until input source out sink reader course text number → is_some course.end ≡ true →
    Combined count until input source out sink
done_where count until input source out sink reader course text number h ended =
    let end = some_end course.end ended in
    done count until input source out sink reader course text number end.0 h end.1

-- ---- the end of the input

ends_here : (count : ℕ) (until : Until) (input source now : SourceState) (out sink : SinkState) (old new : LinesState) (lines : List (List ℕ)) →
    HasRead input source old lines → sl.Ends old new source now → source.faults ≤ now.faults → HasWritten count until out sink lines →
    Ends count until input now out sink lines
ends_here count until input source now out sink old new lines h ends later w = record {
  rest = new.pending;
  read = as_read input now new lines (has_read_on input source now old new lines h ends.reads later);
  ended = ends.ended;
  is_rest = ends.rest;
  written = w;
}

-- no line came
pub nothing_came : (count : ℕ) (until : Until) (input now : SourceState) (out : SinkState) (new : LinesState) →
    sl.Ends sl.no_lines new input now → input.faults ≤ now.faults → StreamCause count until input now out out (OtherCount 0)
nothing_came count until input now out new ends later =
    inl (refl, ends_here count until input input now out out sl.no_lines new [] (none_read input) ends later (inl (refl, refl)))

module _ (count : ℕ) (until : Until) (input source now : SourceState) (out sink : SinkState) (reader new : LinesState) (course : Course) (text : List ℕ)
    (number : ℕ) (h : Runs count until input source out sink reader course text number) (opened : course.end ≡ None)
    (ends : sl.Ends reader new source now) (later : source.faults ≤ now.faults) where
  behind : Ends count until input now out sink h.lines
  behind = ends_here count until input source now out sink reader new h.lines h.read ends later
      (has_written count until out sink reader course text h.lines h.body h.stands opened h.at)

  ends_with : IsTask count until (first_line h.lines) course.task → EndsWith count until input now out sink h.stands.parts
  ends_with is_task = record {
    lines = h.lines;
    task = course.task;
    ends = behind;
    is_task = is_task;
    told = h.stands.told;
    in_order = tells_in_order course.task h.lines h.stands.parts h.stands.told;
  }

  early : IsTask count until (first_line h.lines) course.task → (why : StreamFault) → IsEarlyPart course why → StreamCause count until input now out sink why
  early is_task (EndsEarly tag) p = record {
    parts = h.stands.parts;
    place = p.place;
    ends = ends_with is_task;
    is_open = same_open course.round h.stands.parts course.parts (kept_parts course h.lines h.body h.stands opened) ∙ p.is_open;
    tagged = p.early ∙ same_tag_at course.round p.place h.stands.parts course.parts (kept_parts course h.lines h.body h.stands opened);
  }
  early is_task NoMemory p = record { lines = h.lines; rest = behind.rest; read = behind.read; written = behind.written }
  early is_task (Line n why) p = absurd p.early
  early is_task (OtherCount n) p = absurd p.early
  early is_task TooLong p = absurd p.early
  early is_task ReadFault p = absurd p.early
  early is_task WriteFault p = absurd p.early

  other : IsTask count until (first_line h.lines) course.task → (why : StreamFault) → IsOtherCount course why → StreamCause count until input now out sink why
  other is_task why p =
      let kept = kept_parts course h.lines h.body h.stands opened in
      subst (λ (f : StreamFault). StreamCause count until input now out sink f) (sym p.is) (inr (record {
        parts = h.stands.parts;
        ends = ends_with is_task;
        other = (
          same_open course.round h.stands.parts course.parts kept ∙ p.other.0,
          sym (same_count course.round h.stands.parts course.parts kept) ∙ p.other.1,
          λ e. p.other.2 (e ∙ sym is_task.count),
        );
      }))

  pub may_not_end : (has_line reader.pending ≡ true → new ≡ reader) → (why : StreamFault) → IsEnd course why → StreamCause count until input now out sink why
  may_not_end idle why p = by h.at p
    where
      by : IsAt count until out sink reader course.task text h.lines h.body → IsEnd course why → StreamCause count until input now out sink why
      by (inl fresh) p =
          let never : true ≡ false = sym fresh.there ∙ ap (λ (s : LinesState). has_line s.pending) (sym (idle fresh.there)) ∙ ends.rest.no_line in
          absurd (false≢true (sym never))
      by (inr going) (inl p) = early going.is_task why p
      by (inr going) (inr p) = other going.is_task why p
