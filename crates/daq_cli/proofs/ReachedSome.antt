-- How far the report of a course over some planes has come: where the bits of a plane are taken, there are planes over which it goes on.
use Rattle.std.proofs.Common.{◌≡◌, ℕ, ◌+◌, ◌<◌, ◌≤◌, Bool, List, [], ◌∷◌, ◌++◌, length, sym, ap, ◌∙◌, subst, arith, Option, Some, None, IsNone, IsSome}
use Rattle.outer_world.specs.Device.{SinkState}
use Rattle.outer_world.specs.Whole.{Writes}
use Rattle.plane_schedule.specs.declared.policy.Ending.{Ending}
use Rattle.table_rounds.proofs.Courses.{in_its_place, same_read, with_plane}
use Rattle.table_rounds.specs.Courses.{AreReads, HaveSameRead, number_after}
use Rattle.table_rounds.specs.Rounds.{Planes, column_read}
use Rattle.daq_cli.specs.Report.{FailsOverSome, Seen, Shown, WritesOverSome, ending_line, seen_by}
use Rattle.daq_cli.specs.Worlds.{Extent, partly, whole}
use Rattle.daq_cli.proofs.Reached.{Reached, Stay, all_written, block_in_part, first_reached, line_in_part, next_reached, same_below, text_so_far}

-- nothing is said of where the planes lie
abbrev pub unseen : Seen
unseen = seen_by (λ column number. []) (λ column number. Unit {0})

pub record ReachedSome (shown : Planes → Shown) (after : Planes → List ℕ → Type 0) (last : Option ℕ) (old new : SinkState) : Type 0 where
  pub bits : Planes
  pub reached : Reached (shown bits) unseen (after bits) last old new None None

module _ (shown : Planes → Shown) (after : Planes → List ℕ → Type 0) where
  pub first_some : (old : SinkState) → ((bits : Planes) → AreReads (shown bits).course []) → ((bits : Planes) → after bits []) → ReachedSome shown after None old old
  first_some old rounds begun =
      let bits : Planes = λ column number. [] in
      record { bits = bits; reached = first_reached (shown bits) unseen (after bits) old None (rounds bits) (begun bits) }

  -- what is written of a round, over whatever planes it stands so
  abbrev pub Wrote : Option ℕ → Extent → SinkState → SinkState → Type 0
  Wrote last extent mid now = (bits : Planes) (reads : List ℕ) → after bits reads → last ≡ column_read reads (length reads) → Writes extent mid now ((shown bits).block reads (length reads))

  module _ (last : Option ℕ) (old mid now : SinkState) (r : ReachedSome shown after last old mid) where
    abbrev at : Reached (shown r.bits) unseen (after r.bits) last old mid None None
    at = r.reached

    -- the last block was not written whole
    pub block_part_some : Wrote last partly mid now → FailsOverSome [] shown old now
    block_part_some wrote =
        let fails = block_in_part (shown r.bits) unseen (after r.bits) last old mid now None None at (wrote r.bits at.reads at.after at.last_is) in
        record { bits = r.bits; reads = fails.reads; rounds = fails.rounds; written = fails.written }

    module _ (wrote : Wrote last whole mid now) where
      written : Writes whole mid now ((shown r.bits).block at.reads (length at.reads))
      written = wrote r.bits at.reads at.after at.last_is

      module _ (ending : Ending) (end : SinkState) (is : (shown r.bits).course.ending at.reads (length at.reads) ≡ Some ending) where
        -- nor was the end line
        pub line_part_some : Writes partly now end (ending_line ending) → FailsOverSome [] shown old end
        line_part_some line =
            let fails = line_in_part (shown r.bits) unseen (after r.bits) last old mid now None None at written ending end is line in
            record { bits = r.bits; reads = fails.reads; rounds = fails.rounds; written = fails.written }

        -- it was
        pub written_some : Writes whole now end (ending_line ending) → WritesOverSome [] shown IsSome old end
        written_some line =
            let all = all_written (shown r.bits) unseen (after r.bits) last old mid now None None at written ending end is line in
            record { bits = r.bits; reads = all.reads; rounds = all.rounds.rounds; come_to = all.rounds.ended; written = all.written }

      -- the next plane was not taken
      pub stopped_some : IsNone ((shown r.bits).course.ending at.reads (length at.reads)) → WritesOverSome [] shown IsNone old now
      stopped_some going = record {
        bits = r.bits;
        reads = at.reads;
        rounds = at.rounds;
        come_to = going;
        written = text_so_far (shown r.bits) unseen (after r.bits) last old mid now None None at written going;
      }

      -- it was
      module _ (Next : Planes → List ℕ → Type 0) (c place : ℕ) (plane : List Bool) (stay : (bits : Planes) → Stay (shown bits).block)
          (are : (bits : Planes) (reads : List ℕ) → Next bits reads → AreReads (shown bits).course reads)
          (are_now : (bits : Planes) (reads : List ℕ) → after bits reads → AreReads (shown bits).course reads)
          (inside : (bits : Planes) (reads : List ℕ) → after bits reads → c < ((shown bits).course.outlook reads (length reads)).columns)
          (apart : (bits : Planes) (reads : List ℕ) → after bits reads → (d : ℕ) → d < ((shown bits).course.outlook reads (length reads)).columns → (shown bits).course.place d ≡ (shown bits).course.place c → d ≡ c)
          (place_is : (bits : Planes) (reads : List ℕ) → after bits reads → (shown bits).course.place c ≡ place)
          (agrees : (a b : Planes) (reads : List ℕ) → after a reads → HaveSameRead (shown a).course reads a b → after b reads)
          (blocks : (a b : Planes) (reads : List ℕ) (round : ℕ) → after a reads → HaveSameRead (shown a).course reads a b → round ≤ length reads → (shown a).block reads round ≡ (shown b).block reads round)
          (next : (bits : Planes) (reads : List ℕ) → after bits reads → plane ≡ bits place (number_after reads (length reads) c) → Next bits (reads ++ c ∷ [])) where
        pub next_some : ReachedSome shown Next (Some c) old now
        next_some =
            let bits = r.bits in
            let reads = at.reads in
            let number = number_after reads (length reads) c in
            let other = with_plane bits ((shown bits).course.place c) number plane in
            let same = same_read (shown bits).course reads c (inside bits reads at.after) (apart bits reads at.after) bits plane in
            let after_other = agrees bits other reads at.after same in
            let there : Reached (shown other) unseen (after other) last old mid None None = record {
              reads = reads;
              rounds = are_now other reads after_other;
              after = after_other;
              last_is = at.last_is;
              text = subst (Writes whole old mid) (same_below (shown bits).block (shown other).block reads reads (length reads) (λ round h. blocks bits other reads round at.after same (omega (arith, h)))) at.text;
              handed = tt;
              each = λ round h. tt;
            } in
            let here : plane ≡ other place number =
            sym (in_its_place bits ((shown bits).course.place c) number plane) ∙ ap (λ i. other i number) (place_is bits reads at.after) in
            let further = next other reads after_other here in
            record {
              bits = other;
              reached = next_reached (shown other) unseen (after other) (Next other) last c old mid now None None None (stay other) there (wrote other reads after_other at.last_is)
                  (are other (reads ++ c ∷ []) further) further tt tt;
            }
