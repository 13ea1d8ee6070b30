-- What is told of a source's planes, and what a line before the rounds adds.
use Rattle.std.proofs.Common.{ℕ, ◌≤◌, arith, List, [], ◌∷◌, length, refl, Option, Some, None, Ok, Err, Result, IfSome}
use Rattle.std.proofs.KnownBytes.{Appends-nil}
use Rattle.outer_world.proofs.Writes.{writes_both, writes_cut}
use Rattle.outer_world.specs.Device.{Rose, SinkState}
use Rattle.outer_world.specs.Whole.{Writes}
use Rattle.table_rounds.proofs.Courses.{each_of_none}
use Rattle.table_rounds.specs.Courses.{AreReads}
use Rattle.table_rounds.specs.Rounds.{Planes}
use Rattle.daq_cli.specs.Report.{CausesAfter, EndsOverSome, EndsRounds, Fails, FailsInLast, FailsOverSome, HasStopCause, Seen, Shown, blocks_below, rounds_text}
use Rattle.daq_cli.specs.Worlds.{partly, whole}
use Rattle.daq_cli.specs.declared.stop.Stop.TheVariants.{Failed, Step}
use Rattle.daq_cli.specs.declared.stop.Stop.{Stop}

-- ---- what is told

pub if_some : {A : Type 0} (o : Option A) (P Q : A → Type 0) → ((a : A) → P a → Q a) → IfSome o P → IfSome o Q
if_some None P Q f p = tt
if_some (Some a) P Q f p = f a p

pub all_some : {A : Type 0} (o : Option A) (P : A → Type 0) → ((a : A) → P a) → IfSome o P
all_some None P f = tt
all_some (Some a) P f = f a

pub if_both : {A : Type 0} (o : Option A) (P Q R : A → Type 0) → ((a : A) → P a → Q a → R a) → IfSome o P → IfSome o Q → IfSome o R
if_both None P Q R f p q = tt
if_both (Some a) P Q R f p q = f a p q

-- ---- ends

pub as_whole : {T E : Type 0} (x : T) (old new : SinkState) (piece : List ℕ) → Writes {E = E} (Ok x) old new piece → Writes whole old new piece
as_whole x old new piece p = record { done = p.done; part = tt; cause = record { later = p.cause.later; failed = tt } }

pub as_partly : {T E : Type 0} (e : E) (old new : SinkState) (piece : List ℕ) → Writes {T = T} (Err e) old new piece → Writes partly old new piece
as_partly e old new piece p = record { done = tt; part = p.part; cause = record { later = p.cause.later; failed = p.cause.failed } }

-- a count that rose later on rose
pub rose_later : (first mid last : ℕ) → first ≤ mid → Rose mid last → Rose first last
rose_later first mid last before rose = omega (arith, before, rose)

-- so did that of a report that stopped, where something was written before
pub cause_after : {E : Type 0} (causes : CausesAfter E) (result : Result (Unit {0}) (Stop E)) (old mid new : SinkState) → old.faults ≤ mid.faults → HasStopCause causes result mid new →
    HasStopCause causes result old new
cause_after causes (Ok done) old mid new before cause = tt
cause_after causes (Err Failed) old mid new before cause = rose_later old.faults mid.faults new.faults before cause
cause_after causes (Err (Step fault)) old mid new before cause = cause

-- ---- a line before the rounds

module _ (line : List ℕ) where
  fails_after : (shown : Shown) (reads : List ℕ) (old mid new : SinkState) → Writes whole old mid line → FailsInLast [] shown reads mid new → FailsInLast line shown reads old new
  fails_after shown [] old mid new first fails = writes_both tt partly old mid new line (rounds_text shown []) first fails
  fails_after shown (c ∷ reads) old mid new first (next, begun, last) = (next, writes_both tt whole old mid next line (blocks_below shown.block (c ∷ reads) (length (c ∷ reads))) first begun, last)

  module _ (shown : Shown) (seen : Seen) where
    -- a line that was written whole stands before what became of the rounds
    pub after_line : {E : Type 0} (causes : CausesAfter E) (result : Result (Unit {0}) (Stop E)) (old mid new : SinkState) (from to : Option (List ℕ)) → Writes whole old mid line →
        EndsRounds [] shown seen causes result mid new from to → EndsRounds line shown seen causes result old new from to
    after_line causes (Ok done) old mid new from to first rest = record { reads = rest.reads; rounds = rest.rounds; each = rest.each; written = writes_both tt whole old mid new line _ first rest.written; handed = rest.handed }
    after_line causes (Err Failed) old mid new from to first rest = record { reads = rest.reads; rounds = rest.rounds; each = rest.each; written = fails_after shown rest.reads old mid new first rest.written; handed = rest.handed }
    after_line causes (Err (Step fault)) old mid new from to first rest = record {
      reads = rest.reads;
      at = rest.at;
      more = rest.more;
      stop = rest.stop;
      each = rest.each;
      refused = rest.refused;
      written = writes_both tt whole old mid new line _ first rest.written;
      before = rest.before;
      handed = rest.handed;
    }

    -- it was not written whole
    pub in_line : (old new : SinkState) (from : Option (List ℕ)) → AreReads shown.course [] → Writes partly old new line → Fails line shown seen old new from from
    in_line old new from rounds written = record {
      reads = [];
      rounds = rounds;
      each = each_of_none seen.shows shown.course;
      written = writes_cut tt partly old new line (rounds_text shown []) refl written;
      handed = Appends-nil from;
    }

  module _ (shown : Planes → Shown) where
    pub after_line_some : {E : Type 0} (result : Result (Unit {0}) (Stop E)) (old mid new : SinkState) → Writes whole old mid line → EndsOverSome [] shown result mid new → EndsOverSome line shown result old new
    after_line_some (Ok done) old mid new first rest =
        record { bits = rest.bits; reads = rest.reads; rounds = rest.rounds; come_to = rest.come_to; written = writes_both tt whole old mid new line (rounds_text (shown rest.bits) rest.reads) first rest.written }
    after_line_some (Err Failed) old mid new first rest =
        record { bits = rest.bits; reads = rest.reads; rounds = rest.rounds; written = fails_after (shown rest.bits) rest.reads old mid new first rest.written }
    after_line_some (Err (Step fault)) old mid new first rest =
        record { bits = rest.bits; reads = rest.reads; rounds = rest.rounds; come_to = rest.come_to; written = writes_both tt whole old mid new line (rounds_text (shown rest.bits) rest.reads) first rest.written }

    pub in_line_some : (old new : SinkState) → ((bits : Planes) → AreReads (shown bits).course []) → Writes partly old new line → FailsOverSome line shown old new
    in_line_some old new rounds written =
        let bits : Planes = λ column number. [] in
        record { bits = bits; reads = []; rounds = rounds bits; written = writes_cut tt partly old new line (rounds_text (shown bits) []) refl written }
