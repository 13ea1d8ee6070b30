-- That bytes which are accepted are answered by their combined report.
use Rattle.std.proofs.Common.{◌≡◌, ℕ, ◌+◌, ◌≤◌, List, [], ◌∷◌, ◌++◌, length, Some, None, refl, sym, ap, ◌∙◌, subst, inl, inr, ◌⊎◌, arith, append_assoc, append-nil, length-append}
use Rattle.std.proofs.lemmas.Option.{none-some}
use Rattle.std.specs.Io.KnownBytes.{IsAtEnd}
use Rattle.outer_world.specs.Device.{Rose, SinkState, SourceState}
use Rattle.outer_world.specs.Whole.{Writes}
use Rattle.report_parts.proofs.Telling.{ended_stays}
use Rattle.report_parts.specs.Course.{Combines, IsLineFault, IsStopped, Task, Tell}
use Rattle.report_parts.specs.declared.combination.Until.{Until}
use Rattle.source_lines.specs.Lines.{line_length, most_bytes}
use Rattle.report_stream.proofs.LineTexts.{GoOn, all_before, ends_there, front_line, last_line, line_more, lines_behind, no_earlier, not_long, not_rest, plain, same_line, which_goes_on}
use Rattle.report_stream.proofs.Taken.{refuses_block, refuses_line, shape_some}
use Rattle.report_stream.proofs.Tasks.{IsOpen, QueriesAreOne, Told, block_open, either, first_not_refused, some_lines, task_of_more, told_by, written_open}
use Rattle.report_stream.specs.Accepted.{AreReports, ReportsAreAnswered, ReportsAreOne}
use Rattle.report_stream.specs.Faults.{of_block, of_input}
use Rattle.report_stream.specs.Streams.{AreLines, Combined, Ends, IsFull, IsLine, IsTask, ReadsLines, RefusesBlock, RefusesFirst, RefusesLength, RefusesLine, StreamCause, combined_text, first_line, lines_text, whole}
use Rattle.report_stream.specs.declared.fault.LineRefusal.{LineRefusal}
use Rattle.report_stream.specs.declared.fault.StreamFault.{StreamFault}
use Rattle.report_stream.specs.declared.fault.StreamFault.TheVariants.{EndsEarly, Line, NoMemory, OtherCount, ReadFault, TooLong, WriteFault}

module _ (kinds : QueriesAreOne) (count : ℕ) (until : Until) where
  -- ---- the report is one

  longer_same : (bytes text other : List ℕ) (h : AreReports count until bytes text) (k : AreReports count until bytes other) → GoOn h.lines h.rest k.lines k.rest → other ≡ text
  longer_same bytes text other h k g =
      let task = task_of_more kinds count until h.lines g.more h.task k.task h.is_task (subst (λ (ls : List (List ℕ)). IsTask count until (first_line ls) k.task) g.lines_are k.is_task) in
      let more : Combines h.task (h.lines ++ g.more) k.body (Some k.end) =
      subst (λ (t : Task). Combines t (h.lines ++ g.more) k.body (Some k.end)) (sym task)
      (subst (λ (ls : List (List ℕ)). Combines k.task ls k.body (Some k.end)) g.lines_are k.combines) in
      let body = (ended_stays h.task h.lines g.more h.body k.body h.end (Some k.end) h.combines more).0 in
      k.is ∙ ap (λ (t : Task). combined_text t k.body) (sym task) ∙ ap (combined_text h.task) body ∙ sym h.is

  pub reports_once : (bytes text other : List ℕ) → AreReports count until bytes text → AreReports count until bytes other → other ≡ text
  reports_once bytes text other h k =
      by (which_goes_on h.lines h.rest k.lines k.rest h.are_lines k.are_lines (sym h.split ∙ k.split))
    where
      by : GoOn h.lines h.rest k.lines k.rest ⊎ GoOn k.lines k.rest h.lines h.rest → other ≡ text
      by (inl g) = longer_same bytes text other h k g
      by (inr g) = sym (longer_same bytes other text k h g)

  -- ---- where lines are accepted

  module _ (bytes text : List ℕ) (m : AreReports count until bytes text) where
    none_taken : (lines more : List (List ℕ)) → IsTask count until (first_line lines) m.task → [] ≡ lines ++ more → ⊥
    none_taken [] more is e = some_lines count until [] m.task is refl
    none_taken (line ∷ lines) more is e = absurd cc

    -- the report has not ended there
    not_ended : (lines more : List (List ℕ)) → lines ≡ m.lines ++ more → IsOpen kinds count until lines → ⊥
    not_ended lines more e (inl none) = none_taken m.lines more m.is_task (sym none ∙ e)
    not_ended lines more e (inr (task, body, is, combines)) =
        let same = task_of_more kinds count until m.lines more m.task task m.is_task (subst (λ (ls : List (List ℕ)). IsTask count until (first_line ls) task) e is) in
        let open_too : Combines m.task (m.lines ++ more) body None =
        subst (λ (t : Task). Combines t (m.lines ++ more) body None) (sym same) (subst (λ (ls : List (List ℕ)). Combines task ls body None) e combines) in
        none-some m.end (ended_stays m.task m.lines more m.body body m.end None m.combines open_too).1

    -- so a line comes behind them
    record ComesNext (lines : List (List ℕ)) (x : List ℕ) : Type 0 where
      next : List ℕ
      others : List (List ℕ)
      lines_are : m.lines ≡ lines ++ next ∷ others
      rest_is : x ≡ next ++ 10 ∷ (lines_text others ++ m.rest)
      is_line : IsLine next

    comes_by : (lines : List (List ℕ)) (x : List ℕ) → IsOpen kinds count until lines → (more : List (List ℕ)) → m.lines ≡ lines ++ more → x ≡ lines_text more ++ m.rest → AreLines more → ComesNext lines x
    comes_by lines x is_open [] e f all = absurd (not_ended lines [] (sym (append-nil lines) ∙ sym e ∙ sym (append-nil m.lines)) is_open)
    comes_by lines x is_open (next ∷ others) e f all =
        record { next = next; others = others; lines_are = e; rest_is = f ∙ front_line next (lines_text others) m.rest; is_line = all.0 }

    comes_next : (lines : List (List ℕ)) (x : List ℕ) → AreLines lines → bytes ≡ lines_text lines ++ x → IsOpen kinds count until lines → ComesNext lines x
    comes_next lines x are split is_open = by (which_goes_on lines x m.lines m.rest are m.are_lines (sym split ∙ m.split))
      where
        by : GoOn lines x m.lines m.rest ⊎ GoOn m.lines m.rest lines x → ComesNext lines x
        by (inl g) = comes_by lines x is_open g.more g.lines_are g.rest_is g.are_lines
        by (inr g) = absurd (not_ended lines g.more g.lines_are is_open)

    -- its line feed comes
    next_ends : (lines : List (List ℕ)) (x : List ℕ) (n : ComesNext lines x) → line_length x ≡ length n.next
    next_ends lines x n = ap line_length n.rest_is ∙ ends_there n.next (lines_text n.others ++ m.rest) (plain n.next n.is_line.plain)

    -- a line that was read behind these is that line
    record IsNext (lines : List (List ℕ)) (line : List ℕ) : Type 0 where
      others : List (List ℕ)
      lines_are : m.lines ≡ lines ++ line ∷ others

    is_next : (lines : List (List ℕ)) (line x : List ℕ) → AreLines (lines ++ line ∷ []) → bytes ≡ lines_text (lines ++ line ∷ []) ++ x → IsOpen kinds count until lines → IsNext lines line
    is_next lines line x are split is_open =
        let both = last_line lines line are in
        let n = comes_next lines (line ++ 10 ∷ x) both.0 (split ∙ line_more lines line x) is_open in
        let same = (same_line line n.next x (lines_text n.others ++ m.rest) (plain line both.1.plain) (plain n.next n.is_line.plain) n.rest_is).0 in
        record { others = n.others; lines_are = n.lines_are ∙ ap (λ (l : List ℕ). lines ++ l ∷ n.others) (sym same) }

    one_more : (lines : List (List ℕ)) (line : List ℕ) (n : IsNext lines line) → m.lines ≡ (lines ++ line ∷ []) ++ n.others
    one_more lines line n = n.lines_are ∙ sym (append_assoc lines (line ∷ []) n.others)

    -- what the lines before it tell
    own_task : (lines : List (List ℕ)) (line : List ℕ) (task : Task) → IsNext lines line → IsTask count until (first_line (lines ++ line ∷ [])) task → task ≡ m.task
    own_task lines line task n is =
        task_of_more kinds count until (lines ++ line ∷ []) n.others task m.task is (subst (λ (ls : List (List ℕ)). IsTask count until (first_line ls) m.task) (one_more lines line n) m.is_task)

    -- ---- why it does not stop

    -- ---- the run

    module _ (input input' : SourceState) (out out' : SinkState) (left : input.left ≡ Some bytes) where
      -- what was read, and what is left
      read_told : (lines : List (List ℕ)) (rest : List ℕ) → ReadsLines input input' lines rest → Told input'.left bytes (lines_text lines ++ rest)
      read_told lines rest read = told_by input.left input'.left bytes (lines_text lines ++ rest) left read.came

      split_by : (lines : List (List ℕ)) (rest : List ℕ) (read : ReadsLines input input' lines rest) → bytes ≡ lines_text lines ++ (rest ++ (read_told lines rest read).behind)
      split_by lines rest read = let t = read_told lines rest read in t.split ∙ append_assoc (lines_text lines) rest t.behind

      stops_first : (number : ℕ) (why : LineRefusal) → RefusesFirst input input' out out' number why → ⊥
      stops_first number why h =
          let t = read_told (h.first ∷ []) h.rest h.read in
          let n = is_next [] h.first (h.rest ++ t.behind) h.read.are_lines (split_by (h.first ∷ []) h.rest h.read) (inl refl) in
          first_not_refused kinds count until why h.first m.task (subst (λ (ls : List (List ℕ)). IsTask count until (first_line ls) m.task) n.lines_are m.is_task) h.refused

      stops_line : (number : ℕ) (why : LineRefusal) → RefusesLine count until input input' out out' number why → ⊥
      stops_line number why h =
          let t = read_told (h.lines ++ h.line ∷ []) h.rest h.read in
          let n = is_next h.lines h.line (h.rest ++ t.behind) h.read.are_lines (split_by (h.lines ++ h.line ∷ []) h.rest h.read) (written_open kinds count until out out' h.lines h.written) in
          let same = own_task h.lines h.line h.task n h.is_task in
          let told : Tell m.task [] (h.lines ++ h.line ∷ n.others) m.combines.parts = subst (λ (ls : List (List ℕ)). Tell m.task [] ls m.combines.parts) n.lines_are m.combines.told in
          refuses_line m.task h.lines n.others h.line m.combines.parts h.fault (shape_some m.task.query m.task.shape m.is_task.is_shape) told (λ e. absurd (let f : Line number why ≡ NoMemory = h.is ∙ ap (of_input number) e in cc))
          (subst (λ (t : Task). IsLineFault t h.lines h.line h.fault) same h.refused)

      stops_block : (number : ℕ) (why : LineRefusal) → RefusesBlock count until input input' out out' number why → ⊥
      stops_block number why h =
          let t = read_told (h.lines ++ h.line ∷ []) h.rest h.read in
          let n = is_next h.lines h.line (h.rest ++ t.behind) h.read.are_lines (split_by (h.lines ++ h.line ∷ []) h.rest h.read)
          (block_open kinds count until h.lines h.line h.task h.body h.is_task h.earlier) in
          let same = own_task h.lines h.line h.task n h.is_task in
          let all : Combines m.task ((h.lines ++ h.line ∷ []) ++ n.others) m.body (Some m.end) =
          subst (λ (ls : List (List ℕ)). Combines m.task ls m.body (Some m.end)) (one_more h.lines h.line n) m.combines in
          refuses_block m.task h.lines n.others h.line h.body h.more m.body (Some m.end) h.fault all (λ e. absurd (let f : Line number why ≡ NoMemory = h.is ∙ ap (of_block number) e in cc))
          (subst (λ (t : Task). IsStopped t (h.lines ++ h.line ∷ []) h.body [] h.more h.fault) same h.stopped)

      stops_length : (number : ℕ) (why : LineRefusal) → RefusesLength count until input input' out out' number why → ⊥
      stops_length number why h =
          let t = read_told h.lines h.rest h.read in
          let x = h.rest ++ t.behind in
          let n = comes_next h.lines x h.read.are_lines (split_by h.lines h.rest h.read) (written_open kinds count until out out' h.lines h.written) in
          not_long h.rest t.behind n.next (lines_text n.others ++ m.rest) n.rest_is n.is_line h.long

      stops_ends : (lines : List (List ℕ)) → Ends count until input input' out out' lines → ⊥
      stops_ends lines h =
          let t = read_told lines h.rest h.read in
          let x = h.rest ++ t.behind in
          let n = comes_next lines x h.read.are_lines (split_by lines h.rest h.read) (written_open kinds count until out out' lines h.written) in
          let none : t.behind ≡ [] = subst IsAtEnd t.is_left h.ended in
          let same : x ≡ h.rest = ap (λ (v : List ℕ). h.rest ++ v) none ∙ append-nil h.rest in
          not_rest h.rest n.next (lines_text n.others ++ m.rest) (sym same ∙ n.rest_is) n.is_line h.is_rest.no_line

      too_many : (a b c d : ℕ) → most_bytes ≤ a + b → a + (c + (1 + d)) ≤ most_bytes → b ≤ c → ⊥
      too_many a b c d h k l = omega (arith, h, k, l)

      stops_full : IsFull count until input input' out out' → ⊥
      stops_full h =
          let read = lines_text h.lines ++ (h.rest ++ h.last ∷ []) in
          let t = told_by input.left input'.left bytes read left h.came in
          let x = h.rest ++ (h.last ∷ [] ++ t.behind) in
          let split : bytes ≡ lines_text h.lines ++ x =
          t.split ∙ append_assoc (lines_text h.lines) (h.rest ++ h.last ∷ []) t.behind
          ∙ ap (λ (v : List ℕ). lines_text h.lines ++ v) (append_assoc h.rest (h.last ∷ []) t.behind) in
          let n = comes_next h.lines x h.are_lines split (written_open kinds count until out out' h.lines h.written) in
          let there = next_ends h.lines x n in
          let before = no_earlier h.rest (h.last ∷ [] ++ t.behind) in
          let all = all_before h.rest h.is_rest.no_line in
          let few = m.few in
          let text : length (lines_text m.lines) ≡ length (lines_text h.lines ++ (n.next ++ 10 ∷ lines_text n.others)) =
          ap (λ (ls : List (List ℕ)). length (lines_text ls)) n.lines_are ∙ ap length (lines_behind h.lines (n.next ∷ n.others)) in
          let one = length-append (lines_text h.lines) (n.next ++ 10 ∷ lines_text n.others) in
          let two = length-append n.next (10 ∷ lines_text n.others) in
          let full = h.full in
          let three = length-append (lines_text h.lines) h.rest in
          too_many (length (lines_text h.lines)) (length h.rest) (length n.next) (length (lines_text n.others)) (omega (arith, three, full)) (omega (arith, text, one, two, few))
          (omega (arith, there, before, all))

      abbrev Excused : StreamFault → Type 0
      Excused why = (why ≡ NoMemory) ⊎ Rose input.faults input'.faults ⊎ Rose out.faults out'.faults

      excused : (why : StreamFault) → StreamCause count until input input' out out' why → Excused why
      excused (Line number why) (inl h) = absurd (stops_first number why h)
      excused (Line number why) (inr (inl h)) = absurd (stops_line number why h)
      excused (Line number why) (inr (inr (inl h))) = absurd (stops_block number why h)
      excused (Line number why) (inr (inr (inr h))) = absurd (stops_length number why h)
      excused (EndsEarly tag) h = absurd (stops_ends h.ends.lines h.ends.ends)
      excused (OtherCount number) (inl (none, h)) = absurd (stops_ends [] h)
      excused (OtherCount number) (inr h) = absurd (stops_ends h.ends.lines h.ends.ends)
      excused TooLong h = absurd (stops_full h)
      excused ReadFault h = inr (inl h.rose)
      excused WriteFault h = inr (inr h.written.cause.failed)
      excused NoMemory h = inl refl

      -- what is written is the text
      text_same : (d : Combined count until input input' out out') → text ≡ combined_text d.task d.body → Writes whole out out' text
      text_same d e = subst (λ (t : List ℕ). Writes whole out out' t) (sym e) d.written

      done_more : (own : List (List ℕ)) (x : List ℕ) (d : Combined count until input input' out out') → own ≡ d.lines ++ d.last ∷ [] → GoOn own x m.lines m.rest → Writes whole out out' text
      done_more own x d is g =
          let mine : IsTask count until (first_line own) d.task = subst (λ (ls : List (List ℕ)). IsTask count until (first_line ls) d.task) (sym is) d.is_task in
          let its : Combines d.task own d.body (Some d.end) = subst (λ (ls : List (List ℕ)). Combines d.task ls d.body (Some d.end)) (sym is) d.combines in
          let task = task_of_more kinds count until own g.more d.task m.task mine (subst (λ (ls : List (List ℕ)). IsTask count until (first_line ls) m.task) g.lines_are m.is_task) in
          let more : Combines d.task (own ++ g.more) m.body (Some m.end) =
          subst (λ (t : Task). Combines t (own ++ g.more) m.body (Some m.end)) (sym task)
          (subst (λ (ls : List (List ℕ)). Combines m.task ls m.body (Some m.end)) g.lines_are m.combines) in
          text_same d (m.is ∙ ap (λ (t : Task). combined_text t m.body) (sym task) ∙ ap (combined_text d.task) (ended_stays d.task own g.more d.body m.body d.end (Some m.end) its more).0)

      done_less : (own : List (List ℕ)) (x : List ℕ) (d : Combined count until input input' out out') → own ≡ d.lines ++ d.last ∷ [] → GoOn m.lines m.rest own x → Writes whole out out' text
      done_less own x d is g =
          let mine : IsTask count until (first_line own) d.task = subst (λ (ls : List (List ℕ)). IsTask count until (first_line ls) d.task) (sym is) d.is_task in
          let its : Combines d.task own d.body (Some d.end) = subst (λ (ls : List (List ℕ)). Combines d.task ls d.body (Some d.end)) (sym is) d.combines in
          let task = task_of_more kinds count until m.lines g.more m.task d.task m.is_task (subst (λ (ls : List (List ℕ)). IsTask count until (first_line ls) d.task) g.lines_are mine) in
          let more : Combines m.task (m.lines ++ g.more) d.body (Some d.end) =
          subst (λ (t : Task). Combines t (m.lines ++ g.more) d.body (Some d.end)) (sym task)
          (subst (λ (ls : List (List ℕ)). Combines d.task ls d.body (Some d.end)) g.lines_are its) in
          text_same d (m.is ∙ ap (combined_text m.task) (sym (ended_stays m.task m.lines g.more m.body d.body m.end (Some d.end) m.combines more).0) ∙ ap (λ (t : Task). combined_text t d.body) task)

      done_so : Combined count until input input' out out' → Writes whole out out' text
      done_so d =
          let own = d.lines ++ d.last ∷ [] in
          let x = d.rest ++ (read_told own d.rest d.read).behind in
          either (which_goes_on own x m.lines m.rest d.read.are_lines m.are_lines (sym (split_by own d.rest d.read) ∙ m.split))
          (λ g. done_more own x d refl g) (λ g. done_less own x d refl g)

pub are_one : QueriesAreOne → ReportsAreOne
are_one kinds count until bytes text other h k = reports_once kinds count until bytes text other h k

pub are_answered : QueriesAreOne → ReportsAreAnswered
are_answered kinds count until input input' out out' bytes text left m = record {
  done = done_so kinds count until bytes text m input input' out out' left;
  stopped = excused kinds count until bytes text m input input' out out' left;
}
