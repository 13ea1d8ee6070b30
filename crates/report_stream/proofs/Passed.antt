-- What was read: the lines that were passed, and what stands there behind them.
use Rattle.std.proofs.Common.{◌≡◌, ℕ, ◌+◌, ◌-◌, ◌*◌, ◌<◌, ◌≤◌, true, List, [], ◌∷◌, ◌++◌, length, refl, sym, ap, subst, ◌∙◌, append_assoc, length-append}
use Rattle.std.proofs.KnownBytes.{Consumes-nil, Consumes-trans}
use Rattle.std.specs.Io.KnownBytes.{Consumes}
use Rattle.outer_world.specs.Device.{SourceState}
use Rattle.source_lines.proofs.Splits.{front_is_line, line_split}
use Rattle.source_lines.specs.Lines.{LinesState, ReadsOn, behind_line, front_line, has_line, line_length, most_bytes, most_line}
use Rattle.source_lines.specs.Lines as sl
use Rattle.report_stream.proofs.Counts.{later_on, less_left, no_less, none_few, sum_on, sum_passed, sum_within, within_same}
use Rattle.report_stream.proofs.Lines.{lines_behind, text_split}
use Rattle.report_stream.specs.Streams.{AreLines, IsLine, ReadsLines, lines_text}

-- these lines were read, and what stands there behind them
pub record HasRead (input now : SourceState) (reader : LinesState) (lines : List (List ℕ)) : Type 0 where
  pub came : Consumes input.left now.left (lines_text lines ++ reader.pending)
  pub are_lines : AreLines lines
  pub faults : input.faults ≤ now.faults
  pub total : reader.total ≡ length (lines_text lines) + length reader.pending
  pub few : reader.total ≤ most_bytes

pub none_read : (input : SourceState) → HasRead input input sl.no_lines []
none_read input = record { came = Consumes-nil input.left; are_lines = tt; faults = no_less input.faults; total = refl; few = none_few most_bytes }

-- some bytes more
pub reads_more : (input now next : SourceState) (reader : LinesState) (lines : List (List ℕ)) (bytes : List ℕ) → HasRead input now reader lines →
    Consumes now.left next.left bytes → reader.total + length bytes ≤ most_bytes → ReadsLines input next lines (reader.pending ++ bytes)
reads_more input now next reader lines bytes h came few = record {
  came = subst (λ (t : List ℕ). Consumes input.left next.left t) (append_assoc (lines_text lines) reader.pending bytes)
      (Consumes-trans input.left now.left next.left (lines_text lines ++ reader.pending) bytes h.came came);
  are_lines = h.are_lines;
  few =
      sum_within most_bytes reader.total (length (lines_text lines)) (length reader.pending) (length bytes) (length (reader.pending ++ bytes))
      (length (lines_text lines ++ (reader.pending ++ bytes))) h.total few (length-append reader.pending bytes)
      (length-append (lines_text lines) (reader.pending ++ bytes));
}

pub has_read_on : (input now next : SourceState) (old new : LinesState) (lines : List (List ℕ)) → HasRead input now old lines →
    ReadsOn old new now next → now.faults ≤ next.faults → HasRead input next new lines
has_read_on input now next old new lines h on later =
    let more = reads_more input now next old lines on.bytes h on.came (within_same most_bytes (old.total + length on.bytes) new.total (sym on.total) on.within) in
    record {
      came = subst (λ (t : List ℕ). Consumes input.left next.left (lines_text lines ++ t)) (sym on.pending) more.came;
      are_lines = h.are_lines;
      faults = later_on input.faults now.faults next.faults h.faults later;
      total =
          sum_on old.total new.total (length (lines_text lines)) (length old.pending) (length on.bytes) (length (old.pending ++ on.bytes))
          (length new.pending) h.total on.total (length-append old.pending on.bytes) (ap length on.pending);
      few = on.within;
    }

pub as_read : (input now : SourceState) (reader : LinesState) (lines : List (List ℕ)) → HasRead input now reader lines → ReadsLines input now lines reader.pending
as_read input now reader lines h = record {
  came = h.came;
  are_lines = h.are_lines;
  few =
      within_same most_bytes (length (lines_text lines ++ reader.pending)) reader.total
      (length-append (lines_text lines) reader.pending ∙ sym h.total) h.few;
}

-- the next line is passed
pub passed : (input now : SourceState) (old new : LinesState) (lines : List (List ℕ)) → HasRead input now old lines → has_line old.pending ≡ true →
    line_length old.pending ≤ most_line → new.pending ≡ behind_line old.pending → new.total ≡ old.total →
    HasRead input now new (lines ++ front_line old.pending ∷ [])
passed input now old new lines h some short pending total =
    let split = text_split lines (front_line old.pending) (behind_line old.pending) old.pending (line_split old.pending some) in
    record {
      came = subst (λ (t : List ℕ). Consumes input.left now.left (lines_text (lines ++ front_line old.pending ∷ []) ++ t)) (sym pending)
          (subst (λ (t : List ℕ). Consumes input.left now.left t) split h.came);
      are_lines = lines_behind lines (front_line old.pending) h.are_lines (is_line old.pending some short);
      faults = h.faults;
      total =
          let text = lines_text (lines ++ front_line old.pending ∷ []) in
          sum_passed old.total new.total (length (lines_text lines)) (length old.pending) (length (lines_text lines ++ old.pending))
          (length (text ++ behind_line old.pending)) (length text) (length (behind_line old.pending)) (length new.pending) h.total total
          (length-append (lines_text lines) old.pending) (length-append text (behind_line old.pending)) (ap length split) (ap length pending);
      few = within_same most_bytes new.total old.total total h.few;
    }
  where
    is_line : (bytes : List ℕ) → has_line bytes ≡ true → line_length bytes ≤ most_line → IsLine (front_line bytes)
    is_line bytes some short = let front = front_is_line bytes in record {
      plain = front.0;
      short = within_same most_line (length (front_line bytes)) (line_length bytes) front.1 short;
    }

-- ---- the lines that are left

-- with each line that is passed less is left to read
pub less : (old mid new : LinesState) (now next : SourceState) → sl.Stands old mid now next → new.pending ≡ behind_line mid.pending →
    new.total ≡ mid.total → new.total ≤ most_bytes →
    2 * (most_bytes - new.total) + length new.pending < 2 * (most_bytes - old.total) + length old.pending
less old mid new now next stands pending total within =
    less_left most_bytes old.total mid.total new.total (length old.pending) (length stands.reads.bytes) (length (old.pending ++ stands.reads.bytes))
    (length mid.pending) (length (front_line mid.pending)) (length (behind_line mid.pending)) (length new.pending) (ap length stands.reads.pending)
    (length-append old.pending stands.reads.bytes) stands.reads.total
    (ap length (line_split mid.pending stands.line) ∙ length-append (front_line mid.pending) (10 ∷ behind_line mid.pending))
    (ap length pending) total within
