-- That what the bytes of an input show is told.
use Rattle.std.proofs.Common.{◌≡◌, ◌≢◌, ℕ, ◌+◌, ◌-◌, ◌<◌, ◌≤◌, false, List, [], ◌∷◌, ◌++◌, length, take, Option, Some, None, refl, sym, ap, ◌∙◌, subst, inl, inr, ◌⊎◌, arith, append_assoc, append-nil, length-append}
use Rattle.std.proofs.Math.Seq.{take-append-add, take-nil}
use Rattle.std.proofs.lemmas.List.{length-take-le, take_at}
use Rattle.std.proofs.lemmas.Option.{none-some}
use Rattle.std.specs.Io.KnownBytes.{IsAtEnd}
use Rattle.outer_world.specs.Device.{Rose, SinkState, SourceState}
use Rattle.query_kinds.specs.Kinds.{IsNoQuery}
use Rattle.report_text.specs.declared.lines.ReportEnd.{ReportEnd}
use Rattle.report_parts.proofs.Ordered.{absent_none}
use Rattle.report_parts.proofs.Reached.{as_stops, never_combined, stops_once}
use Rattle.report_parts.proofs.Telling.{ended_stays, telling_one, tells_split}
use Rattle.report_parts.specs.Course.{Combines, IsLineFault, IsStopped, Stops, TakesLine, Task, Tell}
use Rattle.report_parts.specs.Ends.{first_open}
use Rattle.report_parts.specs.Tags.{HasPart, HasTab, IsRefused, IsTag, behind_tag, part_at, tag_of, told_of}
use Rattle.report_parts.specs.Told.{IsUnlisted, Takes, TakesAt, Told as PartTold, nothing_told}
use Rattle.report_parts.specs.declared.combination.Until.{Until}
use Rattle.report_parts.specs.declared.fault.BlockFault.{BlockFault}
use Rattle.report_parts.specs.declared.fault.BlockFault.TheVariants as b
use Rattle.report_parts.specs.declared.fault.InputFault.{InputFault}
use Rattle.report_parts.specs.declared.fault.InputFault.TheVariants as i
use Rattle.report_parts.specs.declared.fault.LineFault.TheVariants as l
use Rattle.report_parts.specs.declared.part.Place.{Place}
use Rattle.report_parts.specs.declared.part.Place.TheVariants.{Query, Row}
use Rattle.source_lines.specs.Lines.{IsRest, has_line, line_length, most_bytes, most_line}
use Rattle.report_stream.proofs.LineTexts.{all_before, front_line, last_line, line_more, no_earlier, not_long, not_rest, plain, same_line, which_goes_on}
use Rattle.report_stream.proofs.Taken.{no_tab as no_tab_behind, not_refused, refuses_block, refuses_line, shape_some, tell_started}
use Rattle.report_stream.proofs.Tasks.{IsOpen, QueriesAreOne, Told, block_open, either, first_not_refused, some_lines, some_query, some_shape, task_of_more, told_by, written_open}
use Rattle.report_stream.specs.Faults.{of_block, of_input}
use Rattle.report_stream.specs.Shown.{ComesNext, FaultsAreTold, GoesRight, GoesTooFar, IsNext, IsOfEnd, IsTold, IsUnwritten, ShowsFault, TellsFault, heard}
use Rattle.report_stream.specs.Shown.{ends_early, first_too_long, first_without_tab, first_without_tag, more_parts, no_line, no_query, no_tab, no_tag, no_items}
use Rattle.report_stream.specs.Shown.{other_block, other_count, other_line, other_query, shown, too_long, too_many, unlisted}
use Rattle.report_stream.specs.Streams.{AreLines, AsksNothing, Combined, Ends, IsFirstRefused, IsFull, IsLine, IsShapeOf, IsTask, ReadsLines, RefusesBlock, RefusesFirst, RefusesLength, RefusesLine, StreamCause, first_line, lines_text}
use Rattle.report_stream.specs.declared.fault.LineRefusal.{LineRefusal}
use Rattle.report_stream.specs.declared.fault.LineRefusal.TheVariants as r
use Rattle.report_stream.specs.declared.fault.StreamFault.{StreamFault}
use Rattle.report_stream.specs.declared.fault.StreamFault.TheVariants.{EndsEarly, Line, NoMemory, OtherCount, ReadFault, TooLong, WriteFault}

-- ---- lists

nothing_longer : (own : List (List ℕ)) (line : List ℕ) (others : List (List ℕ)) → [] ≡ own ++ line ∷ others → ⊥
nothing_longer [] line others e = absurd cc
nothing_longer (first ∷ own) line others e = absurd cc

-- ---- what was read of the bytes that may come

-- the bytes that may come are those that were read, and others behind; where all that comes was read, no others
record Heard (left' : Option (List ℕ)) (whole bytes read : List ℕ) : Type 0 where
  behind : List ℕ
  split : bytes ≡ read ++ behind
  ended : IsAtEnd left' → (behind ≡ []) × (length whole ≤ most_bytes)

cut_behind : (most : ℕ) (read behind : List ℕ) → length read ≤ most → take most (read ++ behind) ≡ read ++ take (most - length read) behind
cut_behind most read behind few =
    let count : most ≡ length read + (most - length read) = omega (arith, few) in
    ap (λ (n : ℕ). take n (read ++ behind)) count ∙ take-append-add read behind (most - length read)

none_behind : (most : ℕ) (whole read behind : List ℕ) → whole ≡ read ++ behind → length read ≤ most → behind ≡ [] → length whole ≤ most
none_behind most whole read behind e few none =
    let long = ap length e in
    let parts = length-append read behind in
    let nothing = ap length none in
    omega (arith, few, long, parts, nothing)

heard_by : (left' : Option (List ℕ)) (whole bytes read : List ℕ) → bytes ≡ heard whole → Told left' whole read → length read ≤ most_bytes →
    Heard left' whole bytes read
heard_by left' whole bytes read cut t few = record {
  behind = take (most_bytes - length read) t.behind;
  split = cut ∙ ap heard t.split ∙ cut_behind most_bytes read t.behind few;
  ended = λ at.
      let none : t.behind ≡ [] = subst IsAtEnd t.is_left at in (
        ap (λ (v : List ℕ). take (most_bytes - length read) v) none ∙ take-nil (most_bytes - length read),
        none_behind most_bytes whole read t.behind t.split few none,
      );
}

longer_than : (most : ℕ) (whole read : List ℕ) (last : ℕ) (behind : List ℕ) → whole ≡ read ++ last ∷ behind → length read ≡ most → most < length whole
longer_than most whole read last behind e full =
    let long = ap length e in
    let parts = length-append read (last ∷ behind) in
    omega (arith, long, parts, full)

-- ---- a run over an input that tells all

module _ (kinds : QueriesAreOne) (count : ℕ) (until : Until) (whole bytes : List ℕ) (cut : bytes ≡ heard whole)
    (input input' : SourceState) (out out' : SinkState) (left : input.left ≡ Some whole) where
  read_told : (lines : List (List ℕ)) (rest : List ℕ) → ReadsLines input input' lines rest → Heard input'.left whole bytes (lines_text lines ++ rest)
  read_told lines rest read =
      let text = lines_text lines ++ rest in
      heard_by input'.left whole bytes text cut (told_by input.left input'.left whole text left read.came) read.few

  split_by : (lines : List (List ℕ)) (rest : List ℕ) (read : ReadsLines input input' lines rest) → bytes ≡ lines_text lines ++ (rest ++ (read_told lines rest read).behind)
  split_by lines rest read = let t = read_told lines rest read in t.split ∙ append_assoc (lines_text lines) rest t.behind

  split_line : (lines : List (List ℕ)) (line rest : List ℕ) (read : ReadsLines input input' (lines ++ line ∷ []) rest) →
      bytes ≡ lines_text lines ++ (line ++ 10 ∷ (rest ++ (read_told (lines ++ line ∷ []) rest read).behind))
  split_line lines line rest read =
      split_by (lines ++ line ∷ []) rest read ∙ line_more lines line (rest ++ (read_told (lines ++ line ∷ []) rest read).behind)

  -- at its end all was read
  all_read : (lines : List (List ℕ)) (rest : List ℕ) (read : ReadsLines input input' lines rest) → IsAtEnd input'.left → rest ++ (read_told lines rest read).behind ≡ rest
  all_read lines rest read ended = ap (λ (v : List ℕ). rest ++ v) ((read_told lines rest read).ended ended).0 ∙ append-nil rest

  -- all bytes that may come were read, and more come
  full_read : (h : IsFull count until input input' out out') → (bytes ≡ lines_text h.lines ++ h.rest) × (most_bytes < length whole)
  full_read h =
      let text = lines_text h.lines ++ h.rest in
      let t = told_by input.left input'.left whole (lines_text h.lines ++ (h.rest ++ h.last ∷ [])) left h.came in
      let split : whole ≡ text ++ h.last ∷ t.behind =
      t.split ∙ ap (λ (v : List ℕ). v ++ t.behind) (sym (append_assoc (lines_text h.lines) h.rest (h.last ∷ [])))
      ∙ append_assoc text (h.last ∷ []) t.behind in
      (cut ∙ ap heard split ∙ take_at text (h.last ∷ t.behind) most_bytes h.full, longer_than most_bytes whole text h.last t.behind split h.full)

  abbrev Out : StreamFault → StreamFault → Type 0
  Out fault why = (why ≡ fault) ⊎ (why ≡ NoMemory) ⊎ Rose input.faults input'.faults ⊎ ((why ≡ WriteFault) × Rose out.faults out'.faults)

  -- ---- behind lines that are right

  module _ (own : List (List ℕ)) (rest : List ℕ) (g : GoesRight count until bytes own rest) where
    -- of these lines this comes next
    record Before (lines : List (List ℕ)) (x : List ℕ) : Type 0 where
      next : List ℕ
      others : List (List ℕ)
      lines_are : own ≡ lines ++ next ∷ others
      rest_is : x ≡ next ++ 10 ∷ (lines_text others ++ rest)
      is_line : IsLine next

    -- behind them came this
    record Behind (lines : List (List ℕ)) (x : List ℕ) : Type 0 where
      line : List ℕ
      others : List (List ℕ)
      after : List ℕ
      lines_are : lines ≡ own ++ line ∷ others
      rest_is : rest ≡ line ++ 10 ∷ after
      is_line : IsLine line

    abbrev Where : List (List ℕ) → List ℕ → Type 0
    Where lines x = Before lines x ⊎ ((lines ≡ own) × (x ≡ rest)) ⊎ Behind lines x

    goes_by : (lines : List (List ℕ)) (x : List ℕ) (more : List (List ℕ)) → own ≡ lines ++ more → x ≡ lines_text more ++ rest → AreLines more → Where lines x
    goes_by lines x [] e f all = inr (inl (sym (e ∙ append-nil lines), f))
    goes_by lines x (next ∷ others) e f all =
        inl (record { next = next; others = others; lines_are = e; rest_is = f ∙ front_line next (lines_text others) rest; is_line = all.0 })

    came_by : (lines : List (List ℕ)) (x : List ℕ) (more : List (List ℕ)) → lines ≡ own ++ more → rest ≡ lines_text more ++ x → AreLines more → Where lines x
    came_by lines x [] e f all = inr (inl (e ∙ append-nil own, sym f))
    came_by lines x (line ∷ others) e f all =
        inr (inr (record { line = line; others = others; after = lines_text others ++ x; lines_are = e; rest_is = f ∙ front_line line (lines_text others) x; is_line = all.0 }))

    where_is : (lines : List (List ℕ)) (x : List ℕ) → AreLines lines → bytes ≡ lines_text lines ++ x → Where lines x
    where_is lines x are split =
        either (which_goes_on lines x own rest are g.are_lines (sym split ∙ g.split)) (λ h. goes_by lines x h.more h.lines_are h.rest_is h.are_lines)
        (λ h. came_by lines x h.more h.lines_are h.rest_is h.are_lines)

    some : own ≢ []
    some = some_lines count until own g.task g.is_task

    -- the parts take the line that comes next
    taken_next : (line : List ℕ) (others : List (List ℕ)) (parts : List PartTold) → Tell g.task [] (own ++ line ∷ others) parts →
        (next : List PartTold) × TakesLine g.task g.combines.parts line next
    taken_next line others parts told =
        let (mid, before, (next, takes, after)) = tells_split g.task [] own (line ∷ others) parts told in
        (next, subst (λ (ps : List PartTold). TakesLine g.task ps line next) (telling_one g.task [] own g.combines.parts mid g.combines.told before) takes)

    -- no line comes that leads on
    abbrev Stuck : Type 0
    Stuck = (line behind : List ℕ) (others : List (List ℕ)) (body : List ℕ) (end : Option ReportEnd) → rest ≡ line ++ 10 ∷ behind → IsLine line →
        Combines g.task (own ++ line ∷ others) body end → ⊥

    not_told : Stuck → (lines : List (List ℕ)) (x : List ℕ) → Behind lines x → (task : Task) (body : List ℕ) (end : Option ReportEnd) →
        IsTask count until (first_line lines) task → Combines task lines body end → ⊥
    not_told stuck lines x h task body end is combines =
        let same = task_of_more kinds count until own (h.line ∷ h.others) g.task task g.is_task (subst (λ (ls : List (List ℕ)). IsTask count until (first_line ls) task) h.lines_are is) in
        let all : Combines g.task (own ++ h.line ∷ h.others) body end =
        subst (λ (t : Task). Combines t (own ++ h.line ∷ h.others) body end) (sym same)
        (subst (λ (ls : List (List ℕ)). Combines task ls body end) h.lines_are combines) in
        stuck h.line h.after h.others body end h.rest_is h.is_line all

    not_open : Stuck → (lines : List (List ℕ)) (x : List ℕ) → Behind lines x → IsOpen kinds count until lines → ⊥
    not_open stuck lines x h (inl none) = nothing_longer own h.line h.others (sym none ∙ h.lines_are)
    not_open stuck lines x h (inr (task, body, is, combines)) = not_told stuck lines x h task body None is combines

    -- a line more was read
    one_more : (lines : List (List ℕ)) (line y : List ℕ) → IsLine line → ((lines ≡ own) × (line ++ 10 ∷ y ≡ rest)) ⊎ Behind lines (line ++ 10 ∷ y) → Behind (lines ++ line ∷ []) y
    one_more lines line y is (inl (e, f)) =
        record { line = line; others = []; after = y; lines_are = ap (λ (ls : List (List ℕ)). ls ++ line ∷ []) e; rest_is = sym f; is_line = is }
    one_more lines line y is (inr h) = record {
      line = h.line;
      others = h.others ++ line ∷ [];
      after = h.after;
      lines_are = ap (λ (ls : List (List ℕ)). ls ++ line ∷ []) h.lines_are ∙ append_assoc own (h.line ∷ h.others) (line ∷ []);
      rest_is = h.rest_is;
      is_line = h.is_line;
    }

    -- the line that was read is the next
    same_next : (lines : List (List ℕ)) (line y : List ℕ) → IsLine line → (h : Before lines (line ++ 10 ∷ y)) → own ≡ lines ++ line ∷ h.others
    same_next lines line y is h =
        let same = (same_line line h.next y (lines_text h.others ++ rest) (plain line is.plain) (plain h.next h.is_line.plain) h.rest_is).0 in
        h.lines_are ∙ ap (λ (n : List ℕ). lines ++ n ∷ h.others) (sym same)

    next_task : (lines others : List (List ℕ)) (line : List ℕ) (task : Task) → own ≡ lines ++ line ∷ others → IsTask count until (first_line (lines ++ line ∷ [])) task → task ≡ g.task
    next_task lines others line task e is =
        task_of_more kinds count until (lines ++ line ∷ []) others task g.task is
        (subst (λ (ls : List (List ℕ)). IsTask count until (first_line ls) g.task) (e ∙ sym (append_assoc lines (line ∷ []) others)) g.is_task)

    next_told : (lines others : List (List ℕ)) (line : List ℕ) → own ≡ lines ++ line ∷ others → Tell g.task [] (lines ++ line ∷ others) g.combines.parts
    next_told lines others line e = subst (λ (ls : List (List ℕ)). Tell g.task [] ls g.combines.parts) e g.combines.told

    -- what comes of each cause right behind the lines
    record Here (fault : StreamFault) : Type 0 where
      stuck : Stuck
      line : (line behind : List ℕ) (number : ℕ) (why : LineRefusal) (f : InputFault) → rest ≡ line ++ 10 ∷ behind → IsLine line → number ≡ length own + 1 →
          Line number why ≡ of_input number f → IsRefused f g.task.query g.task.shape g.task.count g.combines.parts line → Line number why ≡ fault
      block : (line behind : List ℕ) (number : ℕ) (why : LineRefusal) (f : BlockFault) (body more : List ℕ) → rest ≡ line ++ 10 ∷ behind → IsLine line →
          number ≡ length own + 1 → Line number why ≡ of_block number f → IsStopped g.task (own ++ line ∷ []) body [] more f → Line number why ≡ fault
      long : (read behind : List ℕ) (number : ℕ) (why : LineRefusal) → read ++ behind ≡ rest → most_line < line_length read → number ≡ length own + 1 →
          why ≡ r.TooLong → Line number why ≡ fault
      early : (place : ℕ) (tag : List ℕ) → IsRest rest → length whole ≤ most_bytes → first_open g.combines.parts ≡ Some place →
          tag ≡ (part_at place g.combines.parts).tag → EndsEarly tag ≡ fault
      other : (number : ℕ) → IsRest rest → length whole ≤ most_bytes → first_open g.combines.parts ≡ None → number ≡ length g.combines.parts →
          OtherCount number ≡ fault
      full : IsRest rest → most_bytes < length whole → TooLong ≡ fault

    module _ (fault : StreamFault) (here : Here fault) where
      undone : Combined count until input input' out out' → ⊥
      undone d = by (where_is d.lines (d.last ++ 10 ∷ y) (last_line d.lines d.last d.read.are_lines).0 (split_line d.lines d.last d.rest d.read))
        where
          y : List ℕ
          y = d.rest ++ (read_told (d.lines ++ d.last ∷ []) d.rest d.read).behind

          is : IsLine d.last
          is = (last_line d.lines d.last d.read.are_lines).1

          before : Before d.lines (d.last ++ 10 ∷ y) → ⊥
          before h =
              let e = same_next d.lines d.last y is h in
              let same = next_task d.lines h.others d.last d.task e d.is_task in
              let mine : Combines g.task (d.lines ++ d.last ∷ []) d.body (Some d.end) = subst (λ (t : Task). Combines t (d.lines ++ d.last ∷ []) d.body (Some d.end)) same d.combines in
              let all : Combines g.task ((d.lines ++ d.last ∷ []) ++ h.others) g.body None =
              subst (λ (ls : List (List ℕ)). Combines g.task ls g.body None) (e ∙ sym (append_assoc d.lines (d.last ∷ []) h.others)) g.combines in
              none-some d.end (ended_stays g.task (d.lines ++ d.last ∷ []) h.others d.body g.body d.end None mine all).1

          by : Where d.lines (d.last ++ 10 ∷ y) → ⊥
          by (inl h) = before h
          by (inr h) = not_told here.stuck (d.lines ++ d.last ∷ []) y (one_more d.lines d.last y is h) d.task d.body (Some d.end) d.is_task d.combines

      stops_first : (number : ℕ) (why : LineRefusal) → RefusesFirst input input' out out' number why → ⊥
      stops_first number why h = by (where_is [] (h.first ++ 10 ∷ y) tt (split_line [] h.first h.rest h.read))
        where
          y : List ℕ
          y = h.rest ++ (read_told (h.first ∷ []) h.rest h.read).behind

          by : Where [] (h.first ++ 10 ∷ y) → ⊥
          by (inl b) =
              let e = same_next [] h.first y h.read.are_lines.0 b in
              first_not_refused kinds count until why h.first g.task (subst (λ (ls : List (List ℕ)). IsTask count until (first_line ls) g.task) e g.is_task) h.refused
          by (inr (inl (e, f))) = some (sym e)
          by (inr (inr b)) = nothing_longer own b.line b.others b.lines_are

      stops_line : (number : ℕ) (why : LineRefusal) → RefusesLine count until input input' out out' number why → Line number why ≡ fault
      stops_line number why h = by (where_is h.lines (h.line ++ 10 ∷ y) (last_line h.lines h.line h.read.are_lines).0 (split_line h.lines h.line h.rest h.read))
        where
          y : List ℕ
          y = h.rest ++ (read_told (h.lines ++ h.line ∷ []) h.rest h.read).behind

          is : IsLine h.line
          is = (last_line h.lines h.line h.read.are_lines).1

          by : Where h.lines (h.line ++ 10 ∷ y) → Line number why ≡ fault
          by (inl b) =
              let e = same_next h.lines h.line y is b in
              let same = next_task h.lines b.others h.line h.task e h.is_task in
              absurd (refuses_line g.task h.lines b.others h.line g.combines.parts h.fault (shape_some g.task.query g.task.shape g.is_task.is_shape) (next_told h.lines b.others h.line e)
              (λ n. absurd (let f : Line number why ≡ NoMemory = h.is ∙ ap (of_input number) n in cc)) (subst (λ (t : Task). IsLineFault t h.lines h.line h.fault) same h.refused))
          by (inr (inl (e, f))) =
              let mine : IsTask count until (first_line (own ++ h.line ∷ [])) h.task = subst (λ (ls : List (List ℕ)). IsTask count until (first_line (ls ++ h.line ∷ [])) h.task) e h.is_task in
              let same = task_of_more kinds count until own (h.line ∷ []) g.task h.task g.is_task mine in
              let refused : IsLineFault g.task own h.line h.fault =
              subst (λ (t : Task). IsLineFault t own h.line h.fault) (sym same) (subst (λ (ls : List (List ℕ)). IsLineFault h.task ls h.line h.fault) e h.refused) in
              let parts = telling_one g.task [] own g.combines.parts refused.parts g.combines.told refused.told in
              here.line h.line y number why h.fault (sym f) is (h.counted ∙ ap (λ (ls : List (List ℕ)). length ls + 1) e) h.is
              (subst (λ (ps : List PartTold). IsRefused h.fault g.task.query g.task.shape g.task.count ps h.line) parts refused.refused)
          by (inr (inr b)) = absurd (not_open here.stuck h.lines (h.line ++ 10 ∷ y) b (written_open kinds count until out out' h.lines h.written))

      stops_block : (number : ℕ) (why : LineRefusal) → RefusesBlock count until input input' out out' number why → Line number why ≡ fault
      stops_block number why h = by (where_is h.lines (h.line ++ 10 ∷ y) (last_line h.lines h.line h.read.are_lines).0 (split_line h.lines h.line h.rest h.read))
        where
          y : List ℕ
          y = h.rest ++ (read_told (h.lines ++ h.line ∷ []) h.rest h.read).behind

          is : IsLine h.line
          is = (last_line h.lines h.line h.read.are_lines).1

          by : Where h.lines (h.line ++ 10 ∷ y) → Line number why ≡ fault
          by (inl b) =
              let e = same_next h.lines h.line y is b in
              let same = next_task h.lines b.others h.line h.task e h.is_task in
              let all : Combines g.task ((h.lines ++ h.line ∷ []) ++ b.others) g.body None =
              subst (λ (ls : List (List ℕ)). Combines g.task ls g.body None) (e ∙ sym (append_assoc h.lines (h.line ∷ []) b.others)) g.combines in
              absurd (refuses_block g.task h.lines b.others h.line h.body h.more g.body None h.fault all
              (λ n. absurd (let f : Line number why ≡ NoMemory = h.is ∙ ap (of_block number) n in cc))
              (subst (λ (t : Task). IsStopped t (h.lines ++ h.line ∷ []) h.body [] h.more h.fault) same h.stopped))
          by (inr (inl (e, f))) =
              let mine : IsTask count until (first_line (own ++ h.line ∷ [])) h.task = subst (λ (ls : List (List ℕ)). IsTask count until (first_line (ls ++ h.line ∷ [])) h.task) e h.is_task in
              let same = task_of_more kinds count until own (h.line ∷ []) g.task h.task g.is_task mine in
              let stopped : IsStopped g.task (own ++ h.line ∷ []) h.body [] h.more h.fault =
              subst (λ (t : Task). IsStopped t (own ++ h.line ∷ []) h.body [] h.more h.fault) (sym same)
              (subst (λ (ls : List (List ℕ)). IsStopped h.task (ls ++ h.line ∷ []) h.body [] h.more h.fault) e h.stopped) in
              here.block h.line y number why h.fault h.body h.more (sym f) is (h.counted ∙ ap (λ (ls : List (List ℕ)). length ls + 1) e) h.is stopped
          by (inr (inr b)) =
              absurd (not_open here.stuck h.lines (h.line ++ 10 ∷ y) b (block_open kinds count until h.lines h.line h.task h.body h.is_task h.earlier))

      stops_length : (number : ℕ) (why : LineRefusal) → RefusesLength count until input input' out out' number why → Line number why ≡ fault
      stops_length number why h = by (where_is h.lines x h.read.are_lines (split_by h.lines h.rest h.read))
        where
          behind : List ℕ
          behind = (read_told h.lines h.rest h.read).behind

          x : List ℕ
          x = h.rest ++ behind

          by : Where h.lines x → Line number why ≡ fault
          by (inl b) = absurd (not_long h.rest behind b.next (lines_text b.others ++ rest) b.rest_is b.is_line h.long)
          by (inr (inl (e, f))) = here.long h.rest behind number why f h.long (h.counted ∙ ap (λ (ls : List (List ℕ)). length ls + 1) e) h.is
          by (inr (inr b)) = absurd (not_open here.stuck h.lines x b (written_open kinds count until out out' h.lines h.written))

      -- the input ends there
      ends_there : (lines : List (List ℕ)) → Ends count until input input' out out' lines → (lines ≡ own) × IsRest rest × (length whole ≤ most_bytes)
      ends_there lines h = by (where_is lines x h.read.are_lines (split_by lines h.rest h.read))
        where
          x : List ℕ
          x = h.rest ++ (read_told lines h.rest h.read).behind

          same : x ≡ h.rest
          same = all_read lines h.rest h.read h.ended

          by : Where lines x → (lines ≡ own) × IsRest rest × (length whole ≤ most_bytes)
          by (inl b) = absurd (not_rest h.rest b.next (lines_text b.others ++ rest) (sym same ∙ b.rest_is) b.is_line h.is_rest.no_line)
          by (inr (inl (e, f))) =
              (e, subst (λ (v : List ℕ). IsRest v) (sym (sym f ∙ same)) h.is_rest, ((read_told lines h.rest h.read).ended h.ended).1)
          by (inr (inr b)) = absurd (not_open here.stuck lines x b (written_open kinds count until out out' lines h.written))

      -- more bytes come than may, and no line ends before
      full_there : (h : IsFull count until input input' out out') → IsRest rest
      full_there h = by (where_is h.lines h.rest h.are_lines (full_read h).0)
        where
          by : Where h.lines h.rest → IsRest rest
          by (inl b) = absurd (not_rest h.rest b.next (lines_text b.others ++ rest) b.rest_is b.is_line h.is_rest.no_line)
          by (inr (inl (e, f))) = subst (λ (v : List ℕ). IsRest v) f h.is_rest
          by (inr (inr b)) = absurd (not_open here.stuck h.lines h.rest b (written_open kinds count until out out' h.lines h.written))

      own_parts : (lines : List (List ℕ)) (task : Task) (parts : List PartTold) → lines ≡ own → IsTask count until (first_line lines) task → Tell task [] lines parts → parts ≡ g.combines.parts
      own_parts lines task parts e is told =
          let mine : IsTask count until (first_line (own ++ [])) task = subst (λ (ls : List (List ℕ)). IsTask count until (first_line ls) task) (e ∙ sym (append-nil own)) is in
          let same = task_of_more kinds count until own [] g.task task g.is_task mine in
          telling_one g.task [] own g.combines.parts parts g.combines.told
          (subst (λ (t : Task). Tell t [] own parts) (sym same) (subst (λ (ls : List (List ℕ)). Tell task [] ls parts) e told))

      stopped : (why : StreamFault) → StreamCause count until input input' out out' why → Out fault why
      stopped (Line number why) (inl h) = absurd (stops_first number why h)
      stopped (Line number why) (inr (inl h)) = inl (stops_line number why h)
      stopped (Line number why) (inr (inr (inl h))) = inl (stops_block number why h)
      stopped (Line number why) (inr (inr (inr h))) = inl (stops_length number why h)
      stopped (EndsEarly tag) h =
          let there = ends_there h.ends.lines h.ends.ends in
          let same = own_parts h.ends.lines h.ends.task h.parts there.0 h.ends.is_task h.ends.told in
          inl (here.early h.place tag there.1 there.2 (ap first_open (sym same) ∙ h.is_open) (h.tagged ∙ ap (λ (ps : List PartTold). (part_at h.place ps).tag) same))
      stopped (OtherCount number) (inl (none, h)) = absurd (some (sym (ends_there [] h).0))
      stopped (OtherCount number) (inr h) =
          let there = ends_there h.ends.lines h.ends.ends in
          let same = own_parts h.ends.lines h.ends.task h.parts there.0 h.ends.is_task h.ends.told in
          inl (here.other number there.1 there.2 (ap first_open (sym same) ∙ h.other.0) (sym h.other.1 ∙ ap length same))
      stopped TooLong h = inl (here.full (full_there h) (full_read h).1)
      stopped ReadFault h = inr (inr (inl h.rose))
      stopped WriteFault h = inr (inr (inr (refl, h.written.cause.failed)))
      stopped NoMemory h = inr (inl refl)

      is_told : IsTold count until input input' out out' fault
      is_told = record { undone = undone; stopped = stopped }

-- where more bytes than a line may have come before a line feed stands no line, and no rest
no_line_there : (rest line behind : List ℕ) → GoesTooFar rest → rest ≡ line ++ 10 ∷ behind → IsLine line → ⊥
no_line_there rest line behind far e is = not_long rest [] line behind (append-nil rest ∙ e) is far

no_rest : (rest : List ℕ) → GoesTooFar rest → IsRest rest → ⊥
no_rest rest far is = let short = is.short in omega (arith, far, short)

-- ---- what is shown

module _ (kinds : QueriesAreOne) (count : ℕ) (until : Until) (whole bytes : List ℕ) (cut : bytes ≡ heard whole)
    (input input' : SourceState) (out out' : SinkState) (left : input.left ≡ Some whole) where
  -- a rest has no line
  rest_here : (own : List (List ℕ)) (rest : List ℕ) (g : GoesRight count until bytes own rest) (fault : StreamFault) → IsRest rest →
      ((place : ℕ) (tag : List ℕ) → length whole ≤ most_bytes → first_open g.combines.parts ≡ Some place → tag ≡ (part_at place g.combines.parts).tag →
      EndsEarly tag ≡ fault) →
      ((number : ℕ) → length whole ≤ most_bytes → first_open g.combines.parts ≡ None → number ≡ length g.combines.parts → OtherCount number ≡ fault) →
      (most_bytes < length whole → TooLong ≡ fault) →
      Here kinds count until whole bytes cut input input' out out' left own rest g fault
  rest_here own rest g fault is early other full = record {
    stuck = λ line behind others body end e line_is combines. not_rest rest line behind e line_is is.no_line;
    line = λ line behind number why f e line_is counted same refused. absurd (not_rest rest line behind e line_is is.no_line);
    block = λ line behind number why f body more e line_is counted same stopped. absurd (not_rest rest line behind e line_is is.no_line);
    long = λ read behind number why e many counted said.
        let before = no_earlier read behind in
        let same = ap line_length e in
        let short = is.short in
        absurd (omega (arith, many, before, same, short));
    early = λ place tag none few open_there tagged. early place tag few open_there tagged;
    other = λ number none few ended counted. other number few ended counted;
    full = λ none many. full many;
  }

  -- a line that is not taken comes next
  line_here : (own : List (List ℕ)) (rest line behind : List ℕ) (g : GoesRight count until bytes own rest) (fault : StreamFault) → IsNext rest line behind →
      ((next : List PartTold) → TakesLine g.task g.combines.parts line next → ⊥) →
      ((number : ℕ) (why : LineRefusal) (f : InputFault) → number ≡ length own + 1 → Line number why ≡ of_input number f →
      IsRefused f g.task.query g.task.shape g.task.count g.combines.parts line → Line number why ≡ fault) →
      Here kinds count until whole bytes cut input input' out out' left own rest g fault
  line_here own rest line behind g fault comes none refused = record {
    stuck = λ other after others body end e is combines. not_taken other after others combines.parts e is combines.told;
    line = λ other after number why f e is counted said refuted.
        refused number why f counted said
        (subst (λ (v : List ℕ). IsRefused f g.task.query g.task.shape g.task.count g.combines.parts v) (sym (same line other behind after comes.is_line is (sym comes.split ∙ e))) refuted);
    block = λ other after number why f body more e is counted said stopped. absurd (not_taken other after [] stopped.parts e is stopped.told);
    long = λ read after number why e many counted said. absurd (not_long read after line behind (e ∙ comes.split) comes.is_line many);
    early = λ place tag refuted few open_there tagged. absurd (not_rest rest line behind comes.split comes.is_line refuted.no_line);
    other = λ number refuted few ended counted. absurd (not_rest rest line behind comes.split comes.is_line refuted.no_line);
    full = λ refuted many. absurd (not_rest rest line behind comes.split comes.is_line refuted.no_line);
  }
    where
      same : (a b x y : List ℕ) → IsLine a → IsLine b → a ++ 10 ∷ x ≡ b ++ 10 ∷ y → a ≡ b
      same a b x y h k e = (same_line a b x y (plain a h.plain) (plain b k.plain) e).0

      not_taken : (other after : List ℕ) (others : List (List ℕ)) (parts : List PartTold) → rest ≡ other ++ 10 ∷ after → IsLine other →
          Tell g.task [] (own ++ other ∷ others) parts → ⊥
      not_taken other after others parts e is told =
          let (next, takes) = taken_next kinds count until whole bytes cut input input' out out' left own rest g other others parts told in
          none next (subst (λ (v : List ℕ). TakesLine g.task g.combines.parts v next) (sym (same line other behind after comes.is_line is (sym comes.split ∙ e))) takes)

  some_tag : {a b : ℕ} → Some a ≡ Some b → a ≡ b
  some_tag e = cc

  -- ---- each

  -- the part's report ends early
  early_told : (own : List (List ℕ)) (rest : List ℕ) (g : GoesRight count until bytes own rest) (place : ℕ) (tag : List ℕ) → IsRest rest → first_open g.combines.parts ≡ Some place →
      tag ≡ (part_at place g.combines.parts).tag → length whole ≤ most_bytes → IsTold count until input input' out out' (EndsEarly tag)
  early_told own rest g place tag is open_there tagged few =
      is_told kinds count until whole bytes cut input input' out out' left own rest g (EndsEarly tag)
      (rest_here own rest g (EndsEarly tag) is
      (λ other named all at names.
      let places : other ≡ place = some_tag (sym at ∙ open_there) in
      ap (λ (t : List ℕ). EndsEarly t) (names ∙ ap (λ (n : ℕ). (part_at n g.combines.parts).tag) places ∙ sym tagged))
      (λ number all none counted. absurd (none-some place (sym none ∙ open_there))) (λ many. absurd (omega (arith, few, many))))

  other_told : (own : List (List ℕ)) (rest : List ℕ) (g : GoesRight count until bytes own rest) (number : ℕ) → IsRest rest → first_open g.combines.parts ≡ None →
      number ≡ length g.combines.parts → length whole ≤ most_bytes → IsTold count until input input' out out' (OtherCount number)
  other_told own rest g number is none counted few =
      is_told kinds count until whole bytes cut input input' out out' left own rest g (OtherCount number)
      (rest_here own rest g (OtherCount number) is
      (λ place tag all at names. absurd (none-some place (sym none ∙ at)))
      (λ other all ended so_many. ap (λ (n : ℕ). OtherCount n) (so_many ∙ sym counted)) (λ many. absurd (omega (arith, few, many))))

  -- more bytes come than may
  many_told : (own : List (List ℕ)) (rest : List ℕ) (g : GoesRight count until bytes own rest) → IsRest rest → most_bytes < length whole →
      IsTold count until input input' out out' TooLong
  many_told own rest g is many =
      is_told kinds count until whole bytes cut input input' out out' left own rest g TooLong
      (rest_here own rest g TooLong is (λ place tag few at names. absurd (omega (arith, few, many)))
      (λ number few ended so_many. absurd (omega (arith, few, many))) (λ again. refl))

  line_number : (a b : ℕ) (why other : LineRefusal) → a ≡ b → why ≡ other → Line a why ≡ Line b other
  line_number a b why other e f = ap (λ (n : ℕ). Line n why) e ∙ ap (λ (w : LineRefusal). Line b w) f

  why_is : (number : ℕ) (why other : LineRefusal) → Line number why ≡ Line number other → why ≡ other
  why_is number why other e = cc

  -- the report of a part that has begun does not go on so
  line_told : (own : List (List ℕ)) (rest line behind : List ℕ) (g : GoesRight count until bytes own rest) (number : ℕ) → ComesNext rest line behind →
      (told_of (tag_of line) g.combines.parts).place ≢ Query → ¬ IsUnlisted (told_of (tag_of line) g.combines.parts) → ((next : PartTold) → Takes g.task.query g.task.shape (told_of (tag_of line) g.combines.parts) (behind_tag line) next → ⊥) →
      number ≡ length own + 1 → IsTold count until input input' out out' (Line number r.OtherLine)
  line_told own rest line behind g number comes begun listed cannot counted =
      is_told kinds count until whole bytes cut input input' out out' left own rest g (Line number r.OtherLine)
      (line_here own rest line behind g (Line number r.OtherLine) comes.next (λ next takes. cannot takes.taken.told takes.taken.taken) only)
    where
      only : (n : ℕ) (why : LineRefusal) (f : InputFault) → n ≡ length own + 1 → Line n why ≡ of_input n f → IsRefused f g.task.query g.task.shape g.task.count g.combines.parts line →
          Line n why ≡ Line number r.OtherLine
      only n why i.NoTab e said refuted = absurd (refuted comes.tagged.0)
      only n why i.NoTag e said refuted = absurd (refuted.1 comes.tagged.1)
      only n why i.OtherPart e said refuted =
          absurd (begun (ap (λ (t : PartTold). t.place) (absent_none (tag_of line) g.combines.parts refuted.1.1)))
      only n why (i.Line l.OtherQuery) e said refuted = absurd (begun refuted.2.0)
      only n why (i.Line l.Unlisted) e said refuted = absurd (listed refuted.2.0)
      only n why (i.Line l.OtherLine) e said refuted = line_number n number why r.OtherLine (e ∙ sym counted) (why_is n why r.OtherLine said)
      only n why (i.Line l.NoMemory) e said refuted = absurd (let f : Line n why ≡ NoMemory = said in cc)

  -- of the first rows before the line the possible ones are not listed
  unlisted_told : (own : List (List ℕ)) (rest line behind : List ℕ) (g : GoesRight count until bytes own rest) (number : ℕ) → ComesNext rest line behind →
      IsUnlisted (told_of (tag_of line) g.combines.parts) → ((next : PartTold) → Takes g.task.query g.task.shape (told_of (tag_of line) g.combines.parts) (behind_tag line) next → ⊥) →
      number ≡ length own + 1 → IsTold count until input input' out out' (Line number r.Unlisted)
  unlisted_told own rest line behind g number comes lacks cannot counted =
      is_told kinds count until whole bytes cut input input' out out' left own rest g (Line number r.Unlisted)
      (line_here own rest line behind g (Line number r.Unlisted) comes.next (λ next takes. cannot takes.taken.told takes.taken.taken) only)
    where
      begun : (told_of (tag_of line) g.combines.parts).place ≢ Query
      begun there = absurd (let f : Row ≡ Query = sym lacks.0 ∙ there in cc)

      only : (n : ℕ) (why : LineRefusal) (f : InputFault) → n ≡ length own + 1 → Line n why ≡ of_input n f → IsRefused f g.task.query g.task.shape g.task.count g.combines.parts line →
          Line n why ≡ Line number r.Unlisted
      only n why i.NoTab e said refuted = absurd (refuted comes.tagged.0)
      only n why i.NoTag e said refuted = absurd (refuted.1 comes.tagged.1)
      only n why i.OtherPart e said refuted =
          absurd (begun (ap (λ (t : PartTold). t.place) (absent_none (tag_of line) g.combines.parts refuted.1.1)))
      only n why (i.Line l.OtherQuery) e said refuted = absurd (begun refuted.2.0)
      only n why (i.Line l.Unlisted) e said refuted = line_number n number why r.Unlisted (e ∙ sym counted) (why_is n why r.Unlisted said)
      only n why (i.Line l.OtherLine) e said refuted = absurd (refuted.2.1 lacks)
      only n why (i.Line l.NoMemory) e said refuted = absurd (let f : Line n why ≡ NoMemory = said in cc)

  -- there is one part more
  more_told : (own : List (List ℕ)) (rest line behind : List ℕ) (g : GoesRight count until bytes own rest) (number : ℕ) → ComesNext rest line behind →
      ¬ HasPart (tag_of line) g.combines.parts → count ≤ length g.combines.parts → number ≡ length own + 1 →
      IsTold count until input input' out out' (Line number r.MoreParts)
  more_told own rest line behind g number comes new many counted =
      is_told kinds count until whole bytes cut input input' out out' left own rest g (Line number r.MoreParts)
      (line_here own rest line behind g (Line number r.MoreParts) comes.next full only)
    where
      more : (g.task.count ≤ length g.combines.parts) × ¬ HasPart (tag_of line) g.combines.parts
      more = (subst (λ (n : ℕ). n ≤ length g.combines.parts) (sym g.is_task.count) many, new)

      full : (next : List PartTold) → TakesLine g.task g.combines.parts line next → ⊥
      full next takes = not_refused i.OtherPart g.task g.combines.parts line next (shape_some g.task.query g.task.shape g.is_task.is_shape) (tell_started g.task [] own g.combines.parts tt g.combines.told) takes
          (λ e. absurd cc) (comes.tagged, more)

      only : (n : ℕ) (why : LineRefusal) (f : InputFault) → n ≡ length own + 1 → Line n why ≡ of_input n f → IsRefused f g.task.query g.task.shape g.task.count g.combines.parts line →
          Line n why ≡ Line number r.MoreParts
      only n why i.NoTab e said refuted = absurd (refuted comes.tagged.0)
      only n why i.NoTag e said refuted = absurd (refuted.1 comes.tagged.1)
      only n why i.OtherPart e said refuted = line_number n number why r.MoreParts (e ∙ sym counted) (why_is n why r.MoreParts said)
      only n why (i.Line l.OtherQuery) e said refuted = absurd (refuted.1 more)
      only n why (i.Line l.Unlisted) e said refuted = absurd (refuted.1 more)
      only n why (i.Line l.OtherLine) e said refuted = absurd (refuted.1 more)
      only n why (i.Line l.NoMemory) e said refuted = absurd (let f : Line n why ≡ NoMemory = said in cc)

  -- what refuses a line that comes next
  abbrev Refuting : (line : List ℕ) (own : List (List ℕ)) (rest : List ℕ) → GoesRight count until bytes own rest → InputFault → Type 0
  Refuting line own rest g f = IsRefused f g.task.query g.task.shape g.task.count g.combines.parts line

  started : (own : List (List ℕ)) (rest : List ℕ) (g : GoesRight count until bytes own rest) (f : InputFault) (line : List ℕ) (next : List PartTold) → f ≢ i.Line l.NoMemory →
      Refuting line own rest g f → TakesLine g.task g.combines.parts line next → ⊥
  started own rest g f line next memory refused takes =
      not_refused f g.task g.combines.parts line next (shape_some g.task.query g.task.shape g.is_task.is_shape) (tell_started g.task [] own g.combines.parts tt g.combines.told) takes memory refused

  -- no tab stands in the line
  tab_told : (own : List (List ℕ)) (rest line behind : List ℕ) (g : GoesRight count until bytes own rest) (number : ℕ) → IsNext rest line behind → ¬ HasTab line →
      number ≡ length own + 1 → IsTold count until input input' out out' (Line number r.NoTab)
  tab_told own rest line behind g number comes none counted =
      is_told kinds count until whole bytes cut input input' out out' left own rest g (Line number r.NoTab)
      (line_here own rest line behind g (Line number r.NoTab) comes (λ next takes. started own rest g i.NoTab line next (λ e. absurd cc) none takes) only)
    where
      only : (n : ℕ) (why : LineRefusal) (f : InputFault) → n ≡ length own + 1 → Line n why ≡ of_input n f → Refuting line own rest g f → Line n why ≡ Line number r.NoTab
      only n why i.NoTab e said refuted = line_number n number why r.NoTab (e ∙ sym counted) (why_is n why r.NoTab said)
      only n why i.NoTag e said refuted = absurd (none refuted.0)
      only n why i.OtherPart e said refuted = absurd (none refuted.0.0)
      only n why (i.Line l.OtherQuery) e said refuted = absurd (none refuted.0.0)
      only n why (i.Line l.Unlisted) e said refuted = absurd (none refuted.0.0)
      only n why (i.Line l.OtherLine) e said refuted = absurd (none refuted.0.0)
      only n why (i.Line l.NoMemory) e said refuted = absurd (none refuted.0.0)

  -- what stands before the tab is no tag
  tag_told : (own : List (List ℕ)) (rest line behind : List ℕ) (g : GoesRight count until bytes own rest) (number : ℕ) → IsNext rest line behind → HasTab line →
      ¬ IsTag (tag_of line) → number ≡ length own + 1 → IsTold count until input input' out out' (Line number r.NoTag)
  tag_told own rest line behind g number comes tab none counted =
      is_told kinds count until whole bytes cut input input' out out' left own rest g (Line number r.NoTag)
      (line_here own rest line behind g (Line number r.NoTag) comes (λ next takes. started own rest g i.NoTag line next (λ e. absurd cc) (tab, none) takes) only)
    where
      only : (n : ℕ) (why : LineRefusal) (f : InputFault) → n ≡ length own + 1 → Line n why ≡ of_input n f → Refuting line own rest g f → Line n why ≡ Line number r.NoTag
      only n why i.NoTab e said refuted = absurd (refuted tab)
      only n why i.NoTag e said refuted = line_number n number why r.NoTag (e ∙ sym counted) (why_is n why r.NoTag said)
      only n why i.OtherPart e said refuted = absurd (none refuted.0.1)
      only n why (i.Line l.OtherQuery) e said refuted = absurd (none refuted.0.1)
      only n why (i.Line l.Unlisted) e said refuted = absurd (none refuted.0.1)
      only n why (i.Line l.OtherLine) e said refuted = absurd (none refuted.0.1)
      only n why (i.Line l.NoMemory) e said refuted = absurd (none refuted.0.1)

  -- a part for which there is room tells another query
  query_told : (own : List (List ℕ)) (rest line behind : List ℕ) (g : GoesRight count until bytes own rest) (number : ℕ) → ComesNext rest line behind →
      told_of (tag_of line) g.combines.parts ≡ nothing_told (tag_of line) → length g.combines.parts < count → behind_tag line ≢ g.task.query → number ≡ length own + 1 →
      IsTold count until input input' out out' (Line number r.OtherQuery)
  query_told own rest line behind g number comes new room another counted =
      is_told kinds count until whole bytes cut input input' out out' left own rest g (Line number r.OtherQuery)
      (line_here own rest line behind g (Line number r.OtherQuery) comes.next (λ next takes. cannot takes.taken.told takes.taken.taken) only)
    where
      mine : PartTold
      mine = told_of (tag_of line) g.combines.parts

      there : mine.place ≡ Query
      there = ap (λ (t : PartTold). t.place) new

      cannot : (next : PartTold) → Takes g.task.query g.task.shape mine (behind_tag line) next → ⊥
      cannot next takes = another (sym (subst (λ (p : Place). TakesAt p g.task.query g.task.shape mine (behind_tag line) next) there takes).is_query)

      only : (n : ℕ) (why : LineRefusal) (f : InputFault) → n ≡ length own + 1 → Line n why ≡ of_input n f → Refuting line own rest g f → Line n why ≡ Line number r.OtherQuery
      only n why i.NoTab e said refuted = absurd (refuted comes.tagged.0)
      only n why i.NoTag e said refuted = absurd (refuted.1 comes.tagged.1)
      only n why i.OtherPart e said refuted = absurd (let many = refuted.1.0 in let same = g.is_task.count in omega (arith, many, room, same))
      only n why (i.Line l.OtherQuery) e said refuted = line_number n number why r.OtherQuery (e ∙ sym counted) (why_is n why r.OtherQuery said)
      only n why (i.Line l.Unlisted) e said refuted = absurd (let f : Row ≡ Query = sym refuted.2.0.0 ∙ there in cc)
      only n why (i.Line l.OtherLine) e said refuted = absurd (refuted.2.0 there)
      only n why (i.Line l.NoMemory) e said refuted = absurd (let f : Line n why ≡ NoMemory = said in cc)

  -- more bytes than a line may have come before a line feed
  length_told : (own : List (List ℕ)) (rest : List ℕ) (g : GoesRight count until bytes own rest) (number : ℕ) → GoesTooFar rest → number ≡ length own + 1 →
      IsTold count until input input' out out' (Line number r.TooLong)
  length_told own rest g number far counted =
      is_told kinds count until whole bytes cut input input' out out' left own rest g (Line number r.TooLong) (record {
        stuck = λ line behind others body end e line_is combines. no_line_there rest line behind far e line_is;
        line = λ line behind n why f e line_is at said refuted. absurd (no_line_there rest line behind far e line_is);
        block = λ line behind n why f body more e line_is at said stopped. absurd (no_line_there rest line behind far e line_is);
        long = λ read behind n why e many at said. line_number n number why r.TooLong (at ∙ sym counted) said;
        early = λ place tag refuted few open_there tagged. absurd (no_rest rest far refuted);
        other = λ n refuted few ended at. absurd (no_rest rest far refuted);
        full = λ refuted many. absurd (no_rest rest far refuted);
      })

  -- the line completes a block that cannot be written
  block_told : (own : List (List ℕ)) (rest line behind : List ℕ) (g : GoesRight count until bytes own rest) (number : ℕ) (fault : BlockFault) → IsNext rest line behind →
      IsUnwritten g.task (own ++ line ∷ []) fault → number ≡ length own + 1 → IsTold count until input input' out out' (of_block number fault)
  block_told own rest line behind g number fault comes un counted =
      is_told kinds count until whole bytes cut input input' out out' left own rest g (of_block number fault) (record {
        stuck = λ other after others body end e is combines. on others body end
            (subst (λ (v : List ℕ). Combines g.task (own ++ v ∷ others) body end) (same other after e is) combines);
        line = λ other after n why f e is at said refused.
            absurd (refuses_line g.task own [] line un.parts f (shape_some g.task.query g.task.shape g.is_task.is_shape) un.told
            (λ m. absurd (let none : Line n why ≡ NoMemory = said ∙ ap (of_input n) m in cc)) (record {
              parts = g.combines.parts;
              told = g.combines.told;
              refused = subst (λ (v : List ℕ). IsRefused f g.task.query g.task.shape g.task.count g.combines.parts v) (same other after e is) refused;
            }));
        block = λ other after n why f body more e is at said stopped.
            said ∙ ap (λ (k : ℕ). of_block k f) (at ∙ sym counted)
            ∙ ap (of_block number) (sym (one f body more (λ m. absurd (let none : Line n why ≡ NoMemory = said ∙ ap (of_block n) m in cc))
            (subst (λ (v : List ℕ). IsStopped g.task (own ++ v ∷ []) body [] more f) (same other after e is) stopped)));
        long = λ read after n why e many at said. absurd (not_long read after line behind (e ∙ comes.split) comes.is_line many);
        early = λ place tag refuted few open_there tagged. absurd (not_rest rest line behind comes.split comes.is_line refuted.no_line);
        other = λ n refuted few ended at. absurd (not_rest rest line behind comes.split comes.is_line refuted.no_line);
        full = λ refuted many. absurd (not_rest rest line behind comes.split comes.is_line refuted.no_line);
      })
    where
      same : (other after : List ℕ) → rest ≡ other ++ 10 ∷ after → IsLine other → other ≡ line
      same other after e is = (same_line other line after behind (plain other is.plain) (plain line comes.is_line.plain) (sym e ∙ comes.split)).0

      on : (others : List (List ℕ)) (body : List ℕ) (end : Option ReportEnd) → Combines g.task (own ++ line ∷ others) body end → ⊥
      on others body end combines =
          never_combined g.task (own ++ line ∷ []) others un.parts [] [] un.body body end fault un.told un.all un.stops un.some
          (subst (λ (ls : List (List ℕ)). Combines g.task ls body end) (sym (append_assoc own (line ∷ []) others)) combines)

      one : (f : BlockFault) (body more : List ℕ) → f ≢ b.NoMemory → IsStopped g.task (own ++ line ∷ []) body [] more f → fault ≡ f
      one f body more some stopped =
          let parts = telling_one g.task [] (own ++ line ∷ []) un.parts stopped.parts un.told stopped.told in
          stops_once g.task un.parts [] body [] [] un.body more fault f un.stops
          (subst (λ (ps : List PartTold). Stops g.task ps body [] more f) parts (as_stops f g.task stopped.parts body [] more some stopped.stops))
          un.some some

  -- ---- where no line was taken

  abbrev here_read : (lines : List (List ℕ)) (rest : List ℕ) → ReadsLines input input' lines rest → Heard input'.left whole bytes (lines_text lines ++ rest)
  here_read lines rest read = read_told kinds count until whole bytes cut input input' out out' left lines rest read

  here_split : (lines : List (List ℕ)) (rest : List ℕ) (read : ReadsLines input input' lines rest) → bytes ≡ lines_text lines ++ (rest ++ (here_read lines rest read).behind)
  here_split lines rest read = split_by kinds count until whole bytes cut input input' out out' left lines rest read

  some_more : (lines : List (List ℕ)) (line : List ℕ) → lines ++ line ∷ [] ≢ []
  some_more [] line e = absurd cc
  some_more (first ∷ lines) line e = absurd cc

  no_lines : (lines : List (List ℕ)) (x : List ℕ) → has_line bytes ≡ false → AreLines lines → bytes ≡ lines_text lines ++ x → lines ≡ []
  no_lines [] x none are e = refl
  no_lines (line ∷ lines) x none are e = absurd (not_rest bytes line (lines_text lines ++ x) (e ∙ front_line line (lines_text lines) x) are.0 none)

  module _ (is : IsRest bytes) where
    none_read : (lines : List (List ℕ)) (rest : List ℕ) → ReadsLines input input' lines rest → lines ≡ []
    none_read lines rest read = no_lines lines (rest ++ (here_read lines rest read).behind) is.no_line read.are_lines (here_split lines rest read)

    none_asked : (lines : List (List ℕ)) (rest : List ℕ) (task : Task) → ReadsLines input input' lines rest → IsTask count until (first_line lines) task → ⊥
    none_asked lines rest task read asked = some_lines count until lines task asked (none_read lines rest read)

    too_short : (lines : List (List ℕ)) (rest : List ℕ) → ReadsLines input input' lines rest → most_line < line_length rest → ⊥
    too_short lines rest read long =
        let t = here_read lines rest read in
        let e : bytes ≡ rest ++ t.behind = subst (λ (ls : List (List ℕ)). bytes ≡ lines_text ls ++ (rest ++ t.behind)) (none_read lines rest read) (here_split lines rest read) in
        let same = ap line_length e in
        let before = no_earlier rest t.behind in
        let short = is.short in
        omega (arith, long, same, before, short)

    -- nor do as many bytes come as may
    none_full : most_bytes < length whole → ⊥
    none_full many =
        let all = all_before bytes is.no_line in
        let long : length bytes ≡ most_bytes = ap length cut ∙ length-take-le most_bytes whole (omega (arith, many)) in
        let short = is.short in
        omega (arith, all, long, short)

    none_stopped : (why : StreamFault) → StreamCause count until input input' out out' why → (why ≡ OtherCount 0) ⊎ (why ≡ NoMemory) ⊎ Rose input.faults input'.faults ⊎ ((why ≡ WriteFault) × Rose out.faults out'.faults)
    none_stopped (Line number why) (inl h) = absurd (some_more [] h.first (none_read (h.first ∷ []) h.rest h.read))
    none_stopped (Line number why) (inr (inl h)) = absurd (some_more h.lines h.line (none_read (h.lines ++ h.line ∷ []) h.rest h.read))
    none_stopped (Line number why) (inr (inr (inl h))) = absurd (some_more h.lines h.line (none_read (h.lines ++ h.line ∷ []) h.rest h.read))
    none_stopped (Line number why) (inr (inr (inr h))) = absurd (too_short h.lines h.rest h.read h.long)
    none_stopped (EndsEarly tag) h = absurd (none_asked h.ends.lines h.ends.ends.rest h.ends.task h.ends.ends.read h.ends.is_task)
    none_stopped (OtherCount number) (inl (none, h)) = inl (ap (λ (n : ℕ). OtherCount n) none)
    none_stopped (OtherCount number) (inr h) = absurd (none_asked h.ends.lines h.ends.ends.rest h.ends.task h.ends.ends.read h.ends.is_task)
    none_stopped TooLong h = absurd (none_full (full_read kinds count until whole bytes cut input input' out out' left h).1)
    none_stopped ReadFault h = inr (inr (inl h.rose))
    none_stopped WriteFault h = inr (inr (inr (refl, h.written.cause.failed)))
    none_stopped NoMemory h = inr (inl refl)

    none_told : IsTold count until input input' out out' (OtherCount 0)
    none_told = record { undone = λ d. none_asked (d.lines ++ d.last ∷ []) d.rest d.task d.read d.is_task; stopped = none_stopped }

  -- ---- where the first line is too long

  module _ (far : GoesTooFar bytes) where
    none_whole : (lines : List (List ℕ)) (x : List ℕ) → AreLines lines → bytes ≡ lines_text lines ++ x → lines ≡ []
    none_whole [] x are e = refl
    none_whole (line ∷ lines) x are e = absurd (no_line_there bytes line (lines_text lines ++ x) far (e ∙ front_line line (lines_text lines) x) are.0)

    far_read : (lines : List (List ℕ)) (rest : List ℕ) → ReadsLines input input' lines rest → lines ≡ []
    far_read lines rest read = none_whole lines (rest ++ (here_read lines rest read).behind) read.are_lines (here_split lines rest read)

    far_asked : (lines : List (List ℕ)) (rest : List ℕ) (task : Task) → ReadsLines input input' lines rest → IsTask count until (first_line lines) task → ⊥
    far_asked lines rest task read asked = some_lines count until lines task asked (far_read lines rest read)

    far_full : IsFull count until input input' out out' → ⊥
    far_full h =
        let none = none_whole h.lines h.rest h.are_lines (full_read kinds count until whole bytes cut input input' out out' left h).0 in
        let same : bytes ≡ h.rest =
        subst (λ (ls : List (List ℕ)). bytes ≡ lines_text ls ++ h.rest) none (full_read kinds count until whole bytes cut input input' out out' left h).0 in
        no_rest bytes far (subst (λ (v : List ℕ). IsRest v) (sym same) h.is_rest)

    far_ends : Ends count until input input' out out' [] → ⊥
    far_ends h =
        let same : h.rest ≡ bytes = sym (all_read kinds count until whole bytes cut input input' out out' left [] h.rest h.read h.ended) ∙ sym (here_split [] h.rest h.read) in
        no_rest bytes far (subst (λ (v : List ℕ). IsRest v) same h.is_rest)

    far_stopped : (why : StreamFault) → StreamCause count until input input' out out' why →
        (why ≡ Line 1 r.TooLong) ⊎ (why ≡ NoMemory) ⊎ Rose input.faults input'.faults ⊎ ((why ≡ WriteFault) × Rose out.faults out'.faults)
    far_stopped (Line number why) (inl h) = absurd (some_more [] h.first (far_read (h.first ∷ []) h.rest h.read))
    far_stopped (Line number why) (inr (inl h)) = absurd (some_more h.lines h.line (far_read (h.lines ++ h.line ∷ []) h.rest h.read))
    far_stopped (Line number why) (inr (inr (inl h))) = absurd (some_more h.lines h.line (far_read (h.lines ++ h.line ∷ []) h.rest h.read))
    far_stopped (Line number why) (inr (inr (inr h))) =
        inl (line_number number 1 why r.TooLong (h.counted ∙ ap (λ (ls : List (List ℕ)). length ls + 1) (far_read h.lines h.rest h.read)) h.is)
    far_stopped (EndsEarly tag) h = absurd (far_asked h.ends.lines h.ends.ends.rest h.ends.task h.ends.ends.read h.ends.is_task)
    far_stopped (OtherCount number) (inl (none, h)) = absurd (far_ends h)
    far_stopped (OtherCount number) (inr h) = absurd (far_asked h.ends.lines h.ends.ends.rest h.ends.task h.ends.ends.read h.ends.is_task)
    far_stopped TooLong h = absurd (far_full h)
    far_stopped ReadFault h = inr (inr (inl h.rose))
    far_stopped WriteFault h = inr (inr (inr (refl, h.written.cause.failed)))
    far_stopped NoMemory h = inr (inl refl)

    far_told : IsTold count until input input' out out' (Line 1 r.TooLong)
    far_told = record { undone = λ d. far_asked (d.lines ++ d.last ∷ []) d.rest d.task d.read d.is_task; stopped = far_stopped }

  -- ---- where the first line asks nothing

  module _ (first behind : List ℕ) (comes : IsNext bytes first behind) (asks_none : (task : Task) → IsTask count until first task → ⊥)
      (fault : StreamFault) (only : (why : LineRefusal) → IsFirstRefused why first → Line 1 why ≡ fault) where
    first_is : (lines : List (List ℕ)) (x : List ℕ) → lines ≢ [] → AreLines lines → bytes ≡ lines_text lines ++ x → first_line lines ≡ first
    first_is [] x there are e = absurd (there refl)
    first_is (line ∷ lines) x there are e =
        (same_line line first (lines_text lines ++ x) behind (plain line are.0.plain) (plain first comes.is_line.plain)
        (sym (front_line line (lines_text lines) x) ∙ sym e ∙ comes.split)).0

    no_task_by : (lines : List (List ℕ)) (x : List ℕ) (task : Task) → AreLines lines → bytes ≡ lines_text lines ++ x →
        IsTask count until (first_line lines) task → ⊥
    no_task_by lines x task are split asked =
        let same = first_is lines x (some_lines count until lines task asked) are split in
        asks_none task (subst (λ (line : List ℕ). IsTask count until line task) same asked)

    none_taken_by : (lines : List (List ℕ)) (x : List ℕ) → AreLines lines → bytes ≡ lines_text lines ++ x → IsOpen kinds count until lines → lines ≡ []
    none_taken_by lines x are split (inl none) = none
    none_taken_by lines x are split (inr (task, body, asked, combines)) = absurd (no_task_by lines x task are split asked)

    no_task : (lines : List (List ℕ)) (rest : List ℕ) (task : Task) → ReadsLines input input' lines rest → IsTask count until (first_line lines) task → ⊥
    no_task lines rest task read asked = no_task_by lines (rest ++ (here_read lines rest read).behind) task read.are_lines (here_split lines rest read) asked

    none_taken : (lines : List (List ℕ)) (rest : List ℕ) → ReadsLines input input' lines rest → IsOpen kinds count until lines → lines ≡ []
    none_taken lines rest read is_open = none_taken_by lines (rest ++ (here_read lines rest read).behind) read.are_lines (here_split lines rest read) is_open

    first_stands : (lines : List (List ℕ)) (rest : List ℕ) (read : ReadsLines input input' lines rest) → lines ≡ [] → rest ++ (here_read lines rest read).behind ≡ first ++ 10 ∷ behind
    first_stands lines rest read none =
        sym (subst (λ (ls : List (List ℕ)). bytes ≡ lines_text ls ++ (rest ++ (here_read lines rest read).behind)) none (here_split lines rest read)) ∙ comes.split

    first_length : (number : ℕ) (why : LineRefusal) → RefusesLength count until input input' out out' number why → ⊥
    first_length number why h =
        let none = none_taken h.lines h.rest h.read (written_open kinds count until out out' h.lines h.written) in
        not_long h.rest (here_read h.lines h.rest h.read).behind first behind (first_stands h.lines h.rest h.read none) comes.is_line h.long

    first_ends : Ends count until input input' out out' [] → ⊥
    first_ends h =
        not_rest h.rest first behind (sym (all_read kinds count until whole bytes cut input input' out out' left [] h.rest h.read h.ended) ∙ first_stands [] h.rest h.read refl) comes.is_line h.is_rest.no_line

    first_full : IsFull count until input input' out out' → ⊥
    first_full h =
        let split = (full_read kinds count until whole bytes cut input input' out out' left h).0 in
        let none = none_taken_by h.lines h.rest h.are_lines split (written_open kinds count until out out' h.lines h.written) in
        let same : bytes ≡ h.rest = subst (λ (ls : List (List ℕ)). bytes ≡ lines_text ls ++ h.rest) none split in
        not_rest h.rest first behind (sym same ∙ comes.split) comes.is_line h.is_rest.no_line

    first_stopped : (why : StreamFault) → StreamCause count until input input' out out' why → (why ≡ fault) ⊎ (why ≡ NoMemory) ⊎ Rose input.faults input'.faults ⊎ ((why ≡ WriteFault) × Rose out.faults out'.faults)
    first_stopped (Line number why) (inl h) =
        let same = first_is (h.first ∷ []) (h.rest ++ (here_read (h.first ∷ []) h.rest h.read).behind) (some_more [] h.first) h.read.are_lines (here_split (h.first ∷ []) h.rest h.read) in
        inl (line_number number 1 why why h.counted refl ∙ only why (subst (IsFirstRefused why) same h.refused))
    first_stopped (Line number why) (inr (inl h)) = absurd (no_task (h.lines ++ h.line ∷ []) h.rest h.task h.read h.is_task)
    first_stopped (Line number why) (inr (inr (inl h))) = absurd (no_task (h.lines ++ h.line ∷ []) h.rest h.task h.read h.is_task)
    first_stopped (Line number why) (inr (inr (inr h))) = absurd (first_length number why h)
    first_stopped (EndsEarly tag) h = absurd (no_task h.ends.lines h.ends.ends.rest h.ends.task h.ends.ends.read h.ends.is_task)
    first_stopped (OtherCount number) (inl (none, h)) = absurd (first_ends h)
    first_stopped (OtherCount number) (inr h) = absurd (no_task h.ends.lines h.ends.ends.rest h.ends.task h.ends.ends.read h.ends.is_task)
    first_stopped TooLong h = absurd (first_full h)
    first_stopped ReadFault h = inr (inr (inl h.rose))
    first_stopped WriteFault h = inr (inr (inr (refl, h.written.cause.failed)))
    first_stopped NoMemory h = inr (inl refl)

    first_told : IsTold count until input input' out out' fault
    first_told = record { undone = λ d. no_task (d.lines ++ d.last ∷ []) d.rest d.task d.read d.is_task; stopped = first_stopped }

  query_only : (first : List ℕ) → HasTab first → IsTag (tag_of first) → IsNoQuery (behind_tag first) → (why : LineRefusal) → IsFirstRefused why first → Line 1 why ≡ Line 1 r.NoQuery
  query_only first tab tag none r.NoTab h = absurd (h tab)
  query_only first tab tag none r.NoTag h = absurd (h.1 tag)
  query_only first tab tag none r.NoQuery h = refl
  query_only first tab tag none r.NoItems h = absurd (none h.1.0.query h.1.0.is_line)
  query_only first tab tag none r.MoreParts h = absurd h
  query_only first tab tag none r.OtherQuery h = absurd h
  query_only first tab tag none r.Unlisted h = absurd h
  query_only first tab tag none r.OtherLine h = absurd h
  query_only first tab tag none (r.OtherColumn column) h = absurd h
  query_only first tab tag none (r.OtherItem item) h = absurd h
  query_only first tab tag none (r.TooWide item) h = absurd h
  query_only first tab tag none (r.UnclearTag part) h = absurd h
  query_only first tab tag none r.OtherForm h = absurd h
  query_only first tab tag none r.TooLong h = absurd h

  items_only : (first : List ℕ) → HasTab first → IsTag (tag_of first) → AsksNothing (behind_tag first) → (why : LineRefusal) → IsFirstRefused why first → Line 1 why ≡ Line 1 r.NoItems
  items_only first tab tag other r.NoTab h = absurd (h tab)
  items_only first tab tag other r.NoTag h = absurd (h.1 tag)
  items_only first tab tag other r.NoQuery h = absurd (h.1 other.0.query other.0.is_line)
  items_only first tab tag other r.NoItems h = refl
  items_only first tab tag other r.MoreParts h = absurd h
  items_only first tab tag other r.OtherQuery h = absurd h
  items_only first tab tag other r.Unlisted h = absurd h
  items_only first tab tag other r.OtherLine h = absurd h
  items_only first tab tag other (r.OtherColumn column) h = absurd h
  items_only first tab tag other (r.OtherItem item) h = absurd h
  items_only first tab tag other (r.TooWide item) h = absurd h
  items_only first tab tag other (r.UnclearTag part) h = absurd h
  items_only first tab tag other r.OtherForm h = absurd h
  items_only first tab tag other r.TooLong h = absurd h

  tab_only : (first : List ℕ) → ¬ HasTab first → (why : LineRefusal) → IsFirstRefused why first → Line 1 why ≡ Line 1 r.NoTab
  tab_only first none r.NoTab h = refl
  tab_only first none r.NoTag h = absurd (none h.0)
  tab_only first none r.NoQuery h = absurd (none h.0.0)
  tab_only first none r.NoItems h = absurd (none h.0.0)
  tab_only first none r.MoreParts h = absurd h
  tab_only first none r.OtherQuery h = absurd h
  tab_only first none r.Unlisted h = absurd h
  tab_only first none r.OtherLine h = absurd h
  tab_only first none (r.OtherColumn column) h = absurd h
  tab_only first none (r.OtherItem item) h = absurd h
  tab_only first none (r.TooWide item) h = absurd h
  tab_only first none (r.UnclearTag part) h = absurd h
  tab_only first none r.OtherForm h = absurd h
  tab_only first none r.TooLong h = absurd h

  tag_only : (first : List ℕ) → HasTab first → ¬ IsTag (tag_of first) → (why : LineRefusal) → IsFirstRefused why first → Line 1 why ≡ Line 1 r.NoTag
  tag_only first tab none r.NoTab h = absurd (h tab)
  tag_only first tab none r.NoTag h = refl
  tag_only first tab none r.NoQuery h = absurd (none h.0.1)
  tag_only first tab none r.NoItems h = absurd (none h.0.1)
  tag_only first tab none r.MoreParts h = absurd h
  tag_only first tab none r.OtherQuery h = absurd h
  tag_only first tab none r.Unlisted h = absurd h
  tag_only first tab none r.OtherLine h = absurd h
  tag_only first tab none (r.OtherColumn column) h = absurd h
  tag_only first tab none (r.OtherItem item) h = absurd h
  tag_only first tab none (r.TooWide item) h = absurd h
  tag_only first tab none (r.UnclearTag part) h = absurd h
  tag_only first tab none r.OtherForm h = absurd h
  tag_only first tab none r.TooLong h = absurd h

  -- what is shown is told
  shown_told : (fault : StreamFault) → ShowsFault count until bytes fault → (IsOfEnd fault → length whole ≤ most_bytes) → IsTold count until input input' out out' fault
  shown_told fault (no_line is) few = none_told is
  shown_told fault (ends_early lines rest g place tag is at named) few = early_told lines rest g place tag is at named (few tt)
  shown_told fault (other_count lines rest g number is none counted) few = other_told lines rest g number is none counted (few tt)
  shown_told fault (no_query first behind comes none) few =
      first_told first behind comes.next
      (λ task is. some_query kinds (behind_tag first) task.shape (subst (λ (q : List ℕ). IsShapeOf q task.shape) is.query is.is_shape) none)
      (Line 1 r.NoQuery) (query_only first comes.tagged.0 comes.tagged.1 none)
  shown_told fault (no_items first behind comes other) few =
      first_told first behind comes.next
      (λ task is. some_shape kinds (behind_tag first) task.shape (subst (λ (q : List ℕ). IsShapeOf q task.shape) is.query is.is_shape) other)
      (Line 1 r.NoItems) (items_only first comes.tagged.0 comes.tagged.1 other)
  shown_told fault (first_without_tab first behind comes none) few =
      first_told first behind comes
      (λ task is. shape_some task.query task.shape is.is_shape (is.query ∙ no_tab_behind first none)) (Line 1 r.NoTab) (tab_only first none)
  shown_told fault (first_without_tag first behind comes tab none) few =
      first_told first behind comes (λ task is. none is.is_tag) (Line 1 r.NoTag) (tag_only first tab none)
  shown_told fault (first_too_long far) few = far_told far
  shown_told fault (no_tab lines rest line behind g number comes none counted) few = tab_told lines rest line behind g number comes none counted
  shown_told fault (no_tag lines rest line behind g number comes tab none counted) few = tag_told lines rest line behind g number comes tab none counted
  shown_told fault (too_long lines rest g number far counted) few = length_told lines rest g number far counted
  shown_told fault (other_query lines rest line behind g number comes new room another counted) few =
      query_told lines rest line behind g number comes new room another counted
  shown_told fault (more_parts lines rest line behind g number comes new many counted) few = more_told lines rest line behind g number comes new many counted
  shown_told fault (other_block lines rest line behind g number block why comes un counted is) few =
      subst (λ (f : StreamFault). IsTold count until input input' out out' f) (sym is) (block_told lines rest line behind g number block comes un counted)
  shown_told fault (other_line lines rest line behind g number comes begun listed cannot counted) few = line_told lines rest line behind g number comes begun listed cannot counted
  shown_told fault (unlisted lines rest line behind g number comes lacks cannot counted) few = unlisted_told lines rest line behind g number comes lacks cannot counted

  no_end : (number : ℕ) (fault : BlockFault) → IsOfEnd (of_block number fault) → ⊥
  no_end number (b.OtherColumn column) end = end
  no_end number (b.OtherItem item) end = end
  no_end number (b.TooWide item) end = end
  no_end number (b.UnclearTag part) end = end
  no_end number b.OtherForm end = end
  no_end number b.NoMemory end = end

  -- where the bytes that may come only end too early, and more come, that is told
  full_told : (fault : StreamFault) → ShowsFault count until bytes fault → IsOfEnd fault → most_bytes < length whole → IsTold count until input input' out out' TooLong
  full_told fault (no_line is) end many = absurd (none_full is many)
  full_told fault (ends_early lines rest g place tag is at named) end many = many_told lines rest g is many
  full_told fault (other_count lines rest g number is none counted) end many = many_told lines rest g is many
  full_told fault (first_without_tab first behind comes none) end many = absurd end
  full_told fault (first_without_tag first behind comes tab none) end many = absurd end
  full_told fault (first_too_long far) end many = absurd end
  full_told fault (no_query first behind comes none) end many = absurd end
  full_told fault (no_items first behind comes other) end many = absurd end
  full_told fault (no_tab lines rest line behind g number comes none counted) end many = absurd end
  full_told fault (no_tag lines rest line behind g number comes tab none counted) end many = absurd end
  full_told fault (too_long lines rest g number far counted) end many = absurd end
  full_told fault (other_query lines rest line behind g number comes new room another counted) end many = absurd end
  full_told fault (more_parts lines rest line behind g number comes new room counted) end many = absurd end
  full_told fault (unlisted lines rest line behind g number comes lacks cannot counted) end many = absurd end
  full_told fault (other_line lines rest line behind g number comes begun listed cannot counted) end many = absurd end
  full_told fault (other_block lines rest line behind g number block why comes un counted is) end many =
      absurd (no_end number block (subst IsOfEnd is end))

  -- what the bytes tell is told
  pub all_told : (fault : StreamFault) → TellsFault count until whole fault → IsTold count until input input' out out' fault
  all_told fault (shown own shows few) = shown_told own (subst (λ (v : List ℕ). ShowsFault count until v own) (sym cut) shows) few
  all_told fault (too_many other shows end many) = full_told other (subst (λ (v : List ℕ). ShowsFault count until v other) (sym cut) shows) end many

pub are_told : QueriesAreOne → FaultsAreTold
are_told kinds count until input input' out out' bytes fault left tells =
    all_told kinds count until bytes (heard bytes) refl input input' out out' left fault tells
