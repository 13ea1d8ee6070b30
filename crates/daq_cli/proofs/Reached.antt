-- How far the report of a course has come.
use Rattle.std.proofs.Common.{◌≡◌, ℕ, zero, suc, ◌+◌, ◌<◌, ◌≤◌, List, [], ◌∷◌, ◌++◌, length, refl, sym, ap, ◌∙◌, subst, arith, slice_get, Option, Some, None, IsNone, IsSome, append-nil, append_assoc, length-append}
use Rattle.std.proofs.KnownBytes.{Appends-nil}
use Rattle.std.specs.Io.KnownBytes.{Appends}
use Rattle.outer_world.proofs.Writes.{writes_both, writes_cut}
use Rattle.outer_world.specs.Device.{SinkState}
use Rattle.outer_world.specs.Whole.{Writes}
use Rattle.plane_course.specs.Sources.{Causes, OnRefused, StopsAt}
use Rattle.plane_course.specs.declared.reading.StepFault.{StepFault}
use Rattle.plane_course.specs.declared.reading.StepFault.TheVariants.{Source, OverTop}
use Rattle.plane_schedule.specs.Choices.{HasChoice, Outlook}
use Rattle.plane_schedule.specs.declared.policy.Ending.{Ending}
use Rattle.plane_schedule.specs.declared.policy.Policy.{Policy}
use Rattle.table_rounds.proofs.Courses.{each_more, each_of_none, next_handed}
use Rattle.table_rounds.specs.Courses.{AreReads, Course, IsOpen, OfEach, OfPlanes, OfRound, Places, places_after, places_of}
use Rattle.table_rounds.specs.Rounds.{column_read}
use Rattle.daq_cli.specs.Report.{CausesAfter, Fails, FailsInLast, Finishes, Seen, Shown, Stops, blocks_below, end_line, ending_line, last_text, rounds_text}
use Rattle.daq_cli.specs.Worlds.{partly, whole}

-- ---- blocks

abbrev pub Stay : (List ℕ → ℕ → List ℕ) → Type 0
Stay block = (reads more : List ℕ) (round : ℕ) → round ≤ length reads → block (reads ++ more) round ≡ block reads round

pub no_blocks : (block : List ℕ → ℕ → List ℕ) (reads : List ℕ) → blocks_below block reads 0 ≡ []
unfolding blocks_below
no_blocks block reads = refl

pub next_block : (block : List ℕ → ℕ → List ℕ) (reads : List ℕ) (round : ℕ) → blocks_below block reads (round + 1) ≡ blocks_below block reads round ++ block reads round
unfolding blocks_below
next_block block reads round = let same : round + 1 ≡ suc round = omega arith in ap (blocks_below block reads) same

-- blocks that are the same one by one are the same together
pub same_below : (one other : List ℕ → ℕ → List ℕ) (a b : List ℕ) (n : ℕ) → ((round : ℕ) → round < n → one a round ≡ other b round) → blocks_below one a n ≡ blocks_below other b n
unfolding blocks_below
same_below one other a b zero same = refl
same_below one other a b (suc n) same =
    ap (λ l. l ++ one a n) (same_below one other a b n (λ round h. same round (omega (arith, h)))) ∙ ap (λ l. blocks_below other b n ++ l) (same n (omega arith))

pub column_last : (reads : List ℕ) (c : ℕ) → column_read (reads ++ c ∷ []) (length reads + 1) ≡ Some c
column_last reads c = let same : length reads + 1 ≡ suc (length reads) = omega arith in ap (column_read (reads ++ c ∷ [])) same ∙ get_after reads c
  where
    get_after : (reads : List ℕ) (c : ℕ) → slice_get (reads ++ c ∷ []) (length reads) ≡ Some c
    get_after [] c = refl
    get_after (r ∷ reads) c = get_after reads c

pub no_line : (o : Option Ending) → IsNone o → end_line o ≡ []
no_line None none = refl
no_line (Some ending) none = cc

-- ---- the rounds so far

-- their blocks but for the last are written: these columns were read, so it stands, and the places of their planes were handed over
pub record Reached (shown : Shown) (seen : Seen) (After : List ℕ → Type 0) (last : Option ℕ) (old new : SinkState) (from to : Option (List ℕ)) : Type 0 where
  pub reads : List ℕ
  pub rounds : AreReads shown.course reads
  pub after : After reads
  pub last_is : last ≡ column_read reads (length reads)
  pub text : Writes whole old new (blocks_below shown.block reads (length reads))
  pub handed : Appends from to (places_of seen.places shown.course reads (length reads))
  pub each : OfEach seen.shows shown.course reads

module _ (shown : Shown) (seen : Seen) where
  pub first_reached : (After : List ℕ → Type 0) (old : SinkState) (from : Option (List ℕ)) → AreReads shown.course [] → After [] → Reached shown seen After None old old from from
  first_reached After old from rounds after = record {
    reads = [];
    rounds = rounds;
    after = after;
    last_is = refl;
    text = subst (Writes whole old old) (sym (no_blocks shown.block [])) (record { done = Appends-nil old.written; part = tt; cause = record { later = omega arith; failed = tt } });
    handed = Appends-nil from;
    each = each_of_none seen.shows shown.course;
  }

  -- with its block written and the next plane read, the rounds have come one further
  pub next_reached : (After Next : List ℕ → Type 0) (last : Option ℕ) (c : ℕ) (old mid now : SinkState) (from at to : Option (List ℕ)) → Stay shown.block → (r : Reached shown seen After last old mid from at) →
      Writes whole mid now (shown.block r.reads (length r.reads)) → AreReads shown.course (r.reads ++ c ∷ []) → Next (r.reads ++ c ∷ []) →
      Appends at to (places_after seen.places shown.course r.reads (length r.reads) c) → OfRound seen.shows shown.course r.reads (length r.reads) c → Reached shown seen Next (Some c) old now from to
  next_reached After Next last c old mid now from at to stay r written rounds after handed here =
      let all = r.reads ++ c ∷ [] in
      let long : length all ≡ length r.reads + 1 = length-append r.reads (c ∷ []) in
      let text : Writes whole old now (blocks_below shown.block r.reads (length r.reads + 1)) =
      subst (Writes whole old now) (sym (next_block shown.block r.reads (length r.reads))) (writes_both tt whole old mid now _ _ r.text written) in
      let same = same_below shown.block shown.block all r.reads (length r.reads + 1) (λ round h. stay r.reads (c ∷ []) round (omega (arith, h))) in
      record {
        reads = all;
        rounds = rounds;
        after = after;
        last_is = sym (ap (column_read all) long ∙ column_last r.reads c);
        text = subst (Writes whole old now) (sym (ap (blocks_below shown.block all) long ∙ same)) text;
        handed = next_handed shown.course r.reads c seen.places from at to r.handed handed;
        each = each_more shown.course r.reads c seen.shows r.each here;
      }

  -- the last of the rounds so far is written whole, or in part
  pub last_whole : (line reads : List ℕ) (old mid new : SinkState) → Writes whole old mid (line ++ blocks_below shown.block reads (length reads)) → Writes whole mid new (last_text shown reads) →
      Writes whole old new (line ++ rounds_text shown reads)
  last_whole line reads old mid new begun last =
      subst (Writes whole old new) (append_assoc line (blocks_below shown.block reads (length reads)) (last_text shown reads)) (writes_both tt whole old mid new _ _ begun last)

  last_in_part : (line reads : List ℕ) (old mid new : SinkState) → Writes whole old mid (line ++ blocks_below shown.block reads (length reads)) → Writes partly mid new (last_text shown reads) →
      Writes partly old new (line ++ rounds_text shown reads)
  last_in_part line reads old mid new begun last =
      subst (Writes partly old new) (append_assoc line (blocks_below shown.block reads (length reads)) (last_text shown reads)) (writes_both tt partly old mid new _ _ begun last)

  fails_in_last : (line reads : List ℕ) (old mid new : SinkState) → Writes whole old mid (line ++ blocks_below shown.block reads (length reads)) → Writes partly mid new (last_text shown reads) →
      FailsInLast line shown reads old new
  fails_in_last line [] old mid new begun last = last_in_part line [] old mid new begun last
  fails_in_last line (c ∷ reads) old mid new begun last = (mid, begun, last)

  -- what fails in the last round is a part of the text
  pub part_of_text : (line reads : List ℕ) (old new : SinkState) → FailsInLast line shown reads old new → Writes partly old new (line ++ rounds_text shown reads)
  part_of_text line [] old new fails = fails
  part_of_text line (c ∷ reads) old new (mid, begun, last) = last_in_part line (c ∷ reads) old mid new begun last

  module _ (After : List ℕ → Type 0) (last : Option ℕ) (old mid now : SinkState) (from to : Option (List ℕ)) (r : Reached shown seen After last old mid from to) where
    abbrev reads : List ℕ
    reads = r.reads

    -- the last block was not written whole
    pub block_in_part : Writes partly mid now (shown.block reads (length reads)) → Fails [] shown seen old now from to
    block_in_part written = record {
      reads = reads;
      rounds = r.rounds;
      each = r.each;
      written = fails_in_last [] reads old mid now r.text (writes_cut tt partly mid now _ (end_line (shown.course.ending reads (length reads))) refl written);
      handed = r.handed;
    }

    module _ (written : Writes whole mid now (shown.block reads (length reads))) where
      module _ (ending : Ending) (end : SinkState) (is : shown.course.ending reads (length reads) ≡ Some ending) where
        -- it was, and the end line whole or in part
        pub all_written : Writes whole now end (ending_line ending) → Finishes [] shown seen old end from to
        all_written line = record {
          reads = reads;
          rounds = record { rounds = r.rounds; ended = subst IsSome (sym is) refl };
          each = r.each;
          written = last_whole [] reads old mid end r.text (writes_both tt whole mid now end _ _ written (subst (λ e. Writes whole now end (end_line e)) (sym is) line));
          handed = r.handed;
        }

        pub line_in_part : Writes partly now end (ending_line ending) → Fails [] shown seen old end from to
        line_in_part line = record {
          reads = reads;
          rounds = r.rounds;
          each = r.each;
          written = fails_in_last [] reads old mid end r.text (writes_both tt partly mid now end _ _ written (subst (λ e. Writes partly now end (end_line e)) (sym is) line));
          handed = r.handed;
        }

      module _ (going : IsNone (shown.course.ending reads (length reads))) where
        -- the blocks so far are the text of these rounds
        pub text_so_far : Writes whole old now ([] ++ rounds_text shown reads)
        text_so_far =
            let block = shown.block reads (length reads) in
            last_whole [] reads old mid now r.text (subst (Writes whole mid now) (sym (ap (λ l. block ++ l) (no_line (shown.course.ending reads (length reads)) going) ∙ append-nil block)) written)

        -- the rounds stopped at the next plane
        pub stopped : {E : Type 0} (causes : CausesAfter E) (fault : StepFault E) (end : Option (List ℕ)) →
            (handed : List ℕ) × StopsAt shown.course seen.places (causes to) reads fault handed × Appends to end handed → OnRefused fault seen.shows → Stops [] shown seen causes fault old now from end
        stopped causes fault end (handed, stops, grown) refused = record {
          reads = reads;
          at = to;
          more = handed;
          stop = stops;
          each = r.each;
          refused = refused;
          written = text_so_far;
          before = r.handed;
          handed = grown;
        }

-- a course goes on where what runs sees that it does
pub open_after : (course : Course) (policy : Policy) (o : Outlook) (reads : List ℕ) → course.policy ≡ policy → o ≡ course.outlook reads (length reads) → None ≡ course.ending reads (length reads) → HasChoice policy o → IsOpen course reads
open_after course policy o reads by sees going choice = record {
  going = subst IsNone going refl;
  choice = subst (λ p. HasChoice p (course.outlook reads (length reads))) (sym by) (subst (HasChoice policy) sees choice);
}

-- what a source that fails at a step may fail for, as a source that was another one before
pub stops_since : {E : Type 0} (course : Course) (places : Places) (causes others : Causes E) (fault : StepFault E) →
    ((column number : ℕ) (error : E) → causes column number error → others column number error) → (reads handed : List ℕ) →
    StopsAt course places causes reads fault handed → StopsAt course places others reads fault handed
stops_since course places causes others (Source error) weaker done handed (next, followed, failed, rest) = (next, followed, weaker _ _ error failed, rest)
stops_since course places causes others (OverTop column plane row) weaker done handed stop = stop

-- before it stops the reads were those of the course
pub reads_before : {E : Type 0} (course : Course) (places : Places) (causes : Causes E) (fault : StepFault E) (reads handed : List ℕ) → StopsAt course places causes reads fault handed → AreReads course reads
reads_before course places causes (Source error) done handed (next, followed, failed, rest) = followed.rounds
reads_before course places causes (OverTop column plane row) done handed (refused, all) = refused.before.followed.rounds

-- a plane that is refused showed before what it shows
pub refused_before : {E : Type 0} (fault : StepFault E) (P Q : OfPlanes) → ((column plane : ℕ) → P column plane → Q column plane) → OnRefused fault P → OnRefused fault Q
refused_before (Source error) P Q f p = tt
refused_before (OverTop column plane row) P Q f p = f column plane p
