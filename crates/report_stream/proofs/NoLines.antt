-- Why no line comes.
use Rattle.std.proofs.Common.{◌≡◌, ℕ, ◌+◌, None, List, [], ◌∷◌, ◌++◌, length, refl, sym, ap, subst, ◌∙◌, inr, append_assoc, length-append}
use Rattle.std.proofs.KnownBytes.{Consumes-trans}
use Rattle.std.specs.Io.KnownBytes.{Consumes}
use Rattle.outer_world.specs.Device.{SinkState, SourceState}
use Rattle.report_parts.specs.Course.{Course}
use Rattle.report_parts.specs.declared.combination.Until.{Until}
use Rattle.source_lines.specs.Lines.{LinesState, StopsLines, most_bytes}
use Rattle.source_lines.specs.declared.fault.LineFault.{LineFault}
use Rattle.source_lines.specs.declared.fault.LineFault.TheVariants as sf
use Rattle.report_stream.specs.Faults.{of_source}
use Rattle.report_stream.specs.Steps.{StopsAt}
use Rattle.report_stream.specs.Streams.{HasWritten, StreamCause, lines_text}
use Rattle.report_stream.specs.declared.fault.StreamFault.{StreamFault}
use Rattle.report_stream.proofs.Counts.{rose_later, sum_full}
use Rattle.report_stream.proofs.Runs.{Runs, has_written}
use Rattle.report_stream.proofs.Passed.{HasRead, reads_more}

pub no_line_comes : (count : ℕ) (until : Until) (input now next : SourceState) (out out' : SinkState) (reader : LinesState) (lines : List (List ℕ))
    (number : ℕ) (why : StreamFault) → HasRead input now reader lines → HasWritten count until out out' lines → number ≡ length lines + 1 →
    StopsAt number reader now next why → StreamCause count until input next out out' why
no_line_comes count until input now next out out' reader lines number why h w counted stop =
    subst (λ (f : StreamFault). StreamCause count until input next out out' f) (sym stop.is) (by_fault stop.fault stop.stops)
  where
    by_fault : (fault : LineFault) → StopsLines reader now next fault → StreamCause count until input next out out' (of_source number fault)
    by_fault sf.Fault p = record {
      lines = lines;
      rest = reader.pending ++ p.took.bytes;
      read = reads_more input now next reader lines p.took.bytes h p.took.came p.took.within;
      is_rest = p.took.holds;
      rose = rose_later input.faults now.faults next.faults h.faults p.rose;
      written = w;
    }
    by_fault sf.LineTooLong p = inr (inr (inr (record {
      lines = lines;
      rest = reader.pending ++ p.bytes;
      read = reads_more input now next reader lines p.bytes h p.came p.within;
      counted = counted;
      is = refl;
      long = p.holds;
      written = w;
    })))
    by_fault sf.TooLong p =
        let came =
        Consumes-trans input.left now.left next.left (lines_text lines ++ reader.pending) (p.front ++ p.last ∷ []) h.came p.came in
        let split : (lines_text lines ++ reader.pending) ++ (p.front ++ p.last ∷ []) ≡ lines_text lines ++ ((reader.pending ++ p.front) ++ p.last ∷ []) =
        append_assoc (lines_text lines) reader.pending (p.front ++ p.last ∷ [])
        ∙ ap (λ (t : List ℕ). lines_text lines ++ t) (sym (append_assoc reader.pending p.front (p.last ∷ []))) in
        record {
          lines = lines;
          rest = reader.pending ++ p.front;
          last = p.last;
          came = subst (λ (t : List ℕ). Consumes input.left next.left t) split came;
          are_lines = h.are_lines;
          full =
              sum_full most_bytes reader.total (length (lines_text lines)) (length reader.pending) (length p.front)
              (length (reader.pending ++ p.front)) (length (lines_text lines ++ (reader.pending ++ p.front))) h.total p.full
              (length-append (lines_text lines) (reader.pending ++ p.front)) (length-append reader.pending p.front);
          is_rest = p.rest;
          written = w;
        }
    by_fault sf.NoMemory p = record {
      lines = lines;
      rest = reader.pending ++ p.bytes;
      read = reads_more input now next reader lines p.bytes h p.came p.within;
      written = w;
    }

-- behind the lines that were taken
pub no_line_more : (count : ℕ) (until : Until) (input now next : SourceState) (out sink : SinkState) (reader : LinesState) (course : Course)
    (text : List ℕ) (number : ℕ) (why : StreamFault) → Runs count until input now out sink reader course text number → course.end ≡ None →
    StopsAt (number + 1) reader now next why → StreamCause count until input next out sink why
no_line_more count until input now next out sink reader course text number why h opened stop =
    no_line_comes count until input now next out sink reader h.lines (number + 1) why h.read
    (has_written count until out sink reader course text h.lines h.body h.stands opened h.at) (ap (λ (n : ℕ). n + 1) h.counted) stop
