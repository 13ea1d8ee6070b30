-- Tables that agree with what is known have the planes that were read, and values.
use Rattle.std.proofs.Common.{◌≡◌, ◌≢◌, ◌⊎◌, ℕ, zero, suc, ◌+◌, ◌*◌, ◌<◌, ◌≤◌, cond, Bool, true, false, List, [], ◌∷◌, length, map, get_or, Some, inl, inr, refl, sym, ap, subst, ◌∙◌, arith}
use Rattle.std.proofs.lemmas.Bool.{cases_eq}
use Rattle.std.specs.List.{AllByRecursion}
use Rattle.std.proofs.lemmas.List.{get_or-map, length-map, same_lists}
use Rattle.daq_table.specs.Tables.{Cell, Cells, Frame, IsTable, cell_at, ends_at, frame_of, planes}
use Rattle.daq_table.specs.declared.head.Ends.{Ends}
use Rattle.daq_table.specs.declared.table_head.Head.{Head}
use Rattle.plane_schedule.specs.declared.policy.Plan.{Plan}
use Rattle.query_model.proofs.Planes.{next_digit}
use Rattle.query_model.specs.Knowledge.{bit_at, known_at, plane_of, prefix_of}
use Rattle.query_model.specs.Projection.{projected}
use Rattle.query_model.specs.Worlds.{AgreesWith}
use Rattle.sql_meaning.specs.Laws.{HasValues}
use Rattle.sql_meaning.proofs.Filled.{tables_have}
use Rattle.table_rounds.proofs.Reached.{columns_of_part, ends_there, part_of, read_there}
use Rattle.table_rounds.specs.Rounds.{HasPlanes, counts_after}
use Rattle.sql_meaning.specs.Attained.{HasTexts}
use Rattle.sql_headline.specs.Worlds.{Run, stage_at}
use Rattle.sql_headline.proofs.Begun.{IsSure, Laws, certain, knowledge, named}

all_at : (P : ℕ → Type 0) (xs : List ℕ) → AllByRecursion P xs → (i : ℕ) → i < length xs → P (get_or xs i 0)
all_at P [] h i lt = absurd (omega (arith, lt))
all_at P (x ∷ xs) h zero lt = h.0
all_at P (x ∷ xs) h (suc i) lt = all_at P xs h.1 i (omega (arith, lt))

-- one prefix has one list of digits
same_bit : (a b : Bool) (p q : ℕ) → 2 * p + cond a 1 0 ≡ 2 * q + cond b 1 0 → (p ≡ q) × (a ≡ b)
same_bit true true p q e = (omega (arith, e), refl)
same_bit false false p q e = (omega (arith, e), refl)
same_bit true false p q e = absurd (omega (arith, e))
same_bit false true p q e = absurd (omega (arith, e))

same_digits : (ends : Ends) (read : ℕ) (a b : Cell) → read ≤ planes ends → prefix_of ends read a ≡ prefix_of ends read b → (j : ℕ) → j < read → bit_at ends j a ≡ bit_at ends j b
same_digits ends zero a b few same j lt = absurd (omega (arith, lt))
same_digits ends (suc read) a b few same j lt =
    let next : suc read ≡ read + 1 = omega arith in
    let same_next : prefix_of ends (read + 1) a ≡ prefix_of ends (read + 1) b = subst (λ n. prefix_of ends n a ≡ prefix_of ends n b) next same in
    let unread : read < planes ends = omega (arith, few) in
    let here = same_bit (bit_at ends read a) (bit_at ends read b) (prefix_of ends read a) (prefix_of ends read b) (next_digit ends read a unread ∙ same_next ∙ sym (next_digit ends read b unread)) in
    by here.1 (last j read lt) (λ less. same_digits ends read a b (omega (arith, few)) here.0 j less)
  where
    last : (j read : ℕ) → j < suc read → (j ≡ read) ⊎ (j < read)
    last j read lt = cases (cases_eq j read)
      where
        cases : (j ≡ read) ⊎ (j ≢ read) → (j ≡ read) ⊎ (j < read)
        cases (inl e) = inl e
        cases (inr n) = inr (omega (arith, lt, n))

    by : bit_at ends read a ≡ bit_at ends read b → (j ≡ read) ⊎ (j < read) → (j < read → bit_at ends j a ≡ bit_at ends j b) → bit_at ends j a ≡ bit_at ends j b
    by bit (inl e) before = subst (λ n. bit_at ends n a ≡ bit_at ends n b) (sym e) bit
    by bit (inr less) before = before less

module _ (law : Laws) (run : Run) (plan : Plan) (is : IsSure run plan) where
  abbrev frame : Frame
  frame = frame_of run.head

  -- a table that agrees with what is known has the planes read
  pub has_planes : (round : ℕ) → round ≤ length run.reads → (world : Cells) → AgreesWith run.query frame (stage_at run round).known world →
      HasPlanes run.query frame (plane_of frame run.cells) (counts_after run.query run.reads round) world
  has_planes round h world agrees = record { table = agrees.table; same = same }
    where
      same : (c number : ℕ) → c < length run.query.columns → number < get_or (counts_after run.query run.reads round) c 0 →
          plane_of frame world (get_or run.query.columns c 0) number ≡ plane_of frame run.cells (get_or run.query.columns c 0) number
      same c number c_in lt =
          let itself = (certain law run plan is).itself round h in
          let place = get_or run.query.columns c 0 in
          let part = part_of run.query frame in
          let known = knowledge law run plan is round h in
          let in_part : c < length part.columns = subst (λ n. c < n) (sym (columns_of_part run.query frame)) c_in in
          let read_is = read_there run.query frame (plane_of frame run.cells) (counts_after run.query run.reads round) c in_part in
          let read = (known_at (stage_at run round).known c).read in
          let ends : ends_at part c ≡ ends_at frame place = sym (ends_there run.query frame c c_in) in
          let place_in : place < length frame.columns = in_range c c_in in
          let here : (cells : Cells) (r : ℕ) → cell_at (projected run.query cells) c r ≡ cell_at cells place r =
          (λ cells r. ap (λ l. get_or l r (Some 0)) (get_or-map (λ i. get_or cells i []) run.query.columns c 0 [] c_in)) in
          let long : (cells : Cells) → IsTable frame cells → length (get_or cells place []) ≡ frame.rows = (λ cells table. table.rows place place_in) in
          same_lists (map (bit_at (ends_at frame place) number) (get_or world place [])) (map (bit_at (ends_at frame place) number) (get_or run.cells place []))
          (length-map (get_or world place []) (bit_at (ends_at frame place) number) ∙ long world agrees.table ∙ sym (long run.cells itself.table) ∙ sym (length-map (get_or run.cells place []) (bit_at (ends_at frame place) number)))
          (λ r d r_in.
          let r_world : r < length (get_or world place []) = subst (λ n. r < n) (length-map (get_or world place []) (bit_at (ends_at frame place) number)) r_in in
          let r_rows : r < frame.rows = subst (λ n. r < n) (long world agrees.table) r_world in
          let r_own : r < length (get_or run.cells place []) = subst (λ n. r < n) (sym (long run.cells itself.table)) r_rows in
          let prefix : prefix_of (ends_at part c) read (cell_at (projected run.query world) c r) ≡ prefix_of (ends_at part c) read (cell_at (projected run.query run.cells) c r) =
          agrees.part.agrees c r in_part r_rows ∙ sym (itself.part.agrees c r in_part r_rows) in
          let digits = same_digits (ends_at part c) read (cell_at (projected run.query world) c r) (cell_at (projected run.query run.cells) c r) (known.read c in_part) prefix number (omega (arith, lt, read_is)) in
          let own : bit_at (ends_at frame place) number (cell_at world place r) ≡ bit_at (ends_at frame place) number (cell_at run.cells place r) =
          subst (λ w. bit_at w number (cell_at world place r) ≡ bit_at w number (cell_at run.cells place r)) ends
          (ap (bit_at (ends_at part c) number) (sym (here world r)) ∙ digits ∙ ap (bit_at (ends_at part c) number) (here run.cells r)) in
          get_or-map (bit_at (ends_at frame place) number) (get_or world place []) r (Some 0) d r_world ∙ own
          ∙ sym (get_or-map (bit_at (ends_at frame place) number) (get_or run.cells place []) r (Some 0) d r_own))
        where
          in_range : (c : ℕ) → c < length run.query.columns → get_or run.query.columns c 0 < length (frame_of run.head).columns
          in_range c c_in = all_at (λ i. i < length (frame_of run.head).columns) run.query.columns (named law run plan is).in_range c c_in

-- where each column of texts has a text, each number of a table stands for a value
pub has_values : (head : Head) (world : Cells) → HasTexts head → IsTable (frame_of head) world → HasValues head world
has_values head world texts table = tables_have head world table (λ c r column r_in at text none. absurd (texts c column at text none))
