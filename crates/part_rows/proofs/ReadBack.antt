-- The block over all parts is read back as the block of a report.
use Rattle.std.proofs.Common.{◌≡◌, ℕ, ◌+◌, ◌-◌, ◌<◌, Bool, true, false, not, cond, List, [], ◌∷◌, ◌++◌, length, refl, sym, ap, ◌∙◌, subst, arith, inl, inr, map, Some, All}
use Rattle.std.specs.Prelude.{count_by, slice_get}
use Rattle.std.proofs.lemmas.Bool.{lt-ltb}
use Rattle.std.proofs.lemmas.List.{append_assoc, append-nil, get_or-append-add, length-append}
use Rattle.std.proofs.lemmas.List.Elements.{All-cons, All-nil}
use Rattle.std.proofs.lemmas.List.Sums.{sum_by-append, sum_by-cons}
use Rattle.std.proofs.lemmas.Option.{slice_get-get_or}
use Rattle.report_text.specs.RowBlocks.{IsFirstLine, certain_rows, is_behind, is_lacking, last_row, possible_rows, tag_bytes, told_rows}
use Rattle.report_text.specs.Rows.{IsShownRow, row_line}
use Rattle.report_text.specs.declared.row_blocks.RowsTop.TheVariants.{Counts, Skipped}
use Rattle.report_text.specs.declared.rows.RowLine.{RowLine}
use Rattle.report_text.specs.declared.rows.TopLine.{TopLine}
use Rattle.query_kinds.specs.declared.rows.FirstRows.{FirstRows}
use Rattle.part_rows.specs.Combined.{CombinedRows, Listing, PartListing, block_of, is_skipped, joined_tag, line_by, line_of, listings, listings_from, listings_of, rows_of, skipped_block, standing_in, told_lines, top_of}
use Rattle.part_rows.specs.ReadBack.{AreShownParts, AreTaken, BlocksAreReadBack, IsReadBack, LinesAreShown}
use Rattle.part_rows.specs.Rising.{AreRisingLines, AreRisingParts}
use Rattle.part_rows.specs.Tables.{is_excluded}
use Rattle.part_rows.specs.Worlds.{IsIn}
use Rattle.part_rows.proofs.Joins.{in_either}
use Rattle.part_rows.proofs.Reports.{chosen}
use Rattle.part_rows.proofs.Rising.{lines_rise}
use Rattle.part_rows.proofs.Trees.{out_of_map}

-- ---- lines that rise are taken

last_is : (done : List RowLine) (row : RowLine) → last_row (done ++ row ∷ []) ≡ Some row
last_is done row =
    let all = done ++ row ∷ [] in
    let long : length all ≡ length done + 1 = length-append done (row ∷ []) in
    let place : length all - 1 ≡ length done + 0 = omega (arith, long) in
    ap (slice_get all) place ∙ slice_get-get_or all (length done + 0) row (omega (arith, long))
    ∙ ap (λ r. Some r) (get_or-append-add done (row ∷ []) 0 row)

-- the first of them comes behind those before
abbrev Follows : List RowLine → List RowLine → Type 0
Follows done [] = Unit {0}
Follows done (row ∷ rest) = is_behind (last_row done) row.name ≡ true

follows_next : (done : List RowLine) (row : RowLine) (rest : List RowLine) → AreRisingLines (row ∷ rest) → Follows (done ++ row ∷ []) rest
follows_next done row [] p = tt
follows_next done row (next ∷ rest) p =
    ap (λ last. is_behind last next.name) (last_is done row) ∙ p.0 next (inl refl)

-- how many rows there are with one more among them
with_one : (is : RowLine → Bool) (done : List RowLine) (row : RowLine) (rest : List RowLine) →
    count_by is (done ++ row ∷ rest) ≡ count_by is done + (cond (is row) 1 0 + count_by is rest)
with_one is done row rest =
    let each : RowLine → ℕ = λ r. cond (is r) 1 0 in
    sum_by-append each done (row ∷ rest) ∙ ap (λ n. count_by is done + n) (sum_by-cons each row rest)

-- the numbers are those of these rows
record AreCounted (top : TopLine) (rows : List RowLine) : Type 0 where
  certain : certain_rows rows ≡ top.certain
  possible : possible_rows rows ≡ top.possible

-- so one of them was not counted before
lacking : (top : TopLine) (done : List RowLine) (row : RowLine) (rest : List RowLine) (certain : Bool) → row.certain ≡ certain →
    AreCounted top (done ++ row ∷ rest) → is_lacking (Some (Counts top)) done certain ≡ true
lacking top done row rest true e c =
    let one : ◌≡◌ {A = ℕ} (cond row.certain 1 0) 1 = ap (λ b. cond b 1 0) e in
    lt-ltb (certain_rows done) top.certain (omega (arith, one, with_one (λ r. r.certain) done row rest, c.certain))
lacking top done row rest false e c =
    let one : ◌≡◌ {A = ℕ} (cond (not row.certain) 1 0) 1 = ap (λ b. cond (not b) 1 0) e in
    lt-ltb (possible_rows done) top.possible (omega (arith, one, with_one (λ r. not r.certain) done row rest, c.possible))

rows_taken : (limit : ℕ) (top : TopLine) (done rest : List RowLine) → ((line : RowLine) → IsIn line rest → IsShownRow line) →
    AreRisingLines rest → Follows done rest → AreCounted top (done ++ rest) →
    AreTaken limit (told_rows (Counts top) done) (map row_line rest) (told_rows (Counts top) (done ++ rest))
rows_taken limit top done [] shown p f c = λ i. told_rows (Counts top) (sym (append-nil done) i)
rows_taken limit top done (row ∷ rest) shown p f c =
    let same = append_assoc done (row ∷ []) rest in (
      told_rows (Counts top) (done ++ row ∷ []),
      inr (inl (row, record { lacking = lacking top done row rest row.certain refl c; is_shown = shown row (inl refl); is_line = refl; behind = f }, refl)),
      subst (λ rows. AreTaken limit (told_rows (Counts top) (done ++ row ∷ [])) (map row_line rest) (told_rows (Counts top) rows)) same
          (rows_taken limit top (done ++ row ∷ []) rest (λ line i. shown line (inr i)) p.1 (follows_next done row rest p)
          (subst (AreCounted top) (sym same) c)),
    )

first_follows : (lines : List RowLine) → Follows [] lines
first_follows [] = tt
first_follows (row ∷ rest) = refl

-- ---- the lines of the block can be shown

joined_long : (tag inner : List ℕ) → 0 < length tag → 0 < length (joined_tag tag inner)
joined_long tag [] long = long
joined_long tag (byte ∷ inner) long = omega (arith, length-append tag (32 ∷ byte ∷ inner), long)

-- the row has a line that can be shown
record CanShow (row : Listing) : Type 0 where
  tag : 0 < length row.tag
  line : IsShownRow row.line

can_show : (place : ℕ) (parts : List PartListing) → AreShownParts parts → (row : Listing) → IsIn row (listings_from place parts) → CanShow row
can_show place [] s row i = absurd i
can_show place (part ∷ parts) s row i =
    elim (in_either row (listings_of place part) (listings_from (place + 1) parts) i) [
      | inl j ↦
          let make : RowLine → Listing = λ line. record { part = place; tag = part.tag; line = line } in
          let from = out_of_map make part.rows row j in
          subst CanShow (sym from.same) (record { tag = s.tags part (inl refl); line = s.lines part (inl refl) from.element from.is })
      | inr j ↦ can_show (place + 1) parts (record { tags = λ p k. s.tags p (inr k); lines = λ p k. s.lines p (inr k) }) row j
    ]

shown_line : (certain : Bool) (row : Listing) → CanShow row → IsShownRow (line_by certain row)
shown_line certain row can =
    record {
      name = record { tag = joined_long row.tag (tag_bytes row.line.name.tag) can.tag; number = can.line.name.number };
      key = can.line.key;
    }

shown_lines : (asked : FirstRows) (parts : List PartListing) → AreShownParts parts → (line : RowLine) →
    IsIn line (told_lines asked (listings parts)) → IsShownRow line
shown_lines asked parts s line i =
    let rows = rows_of (listings parts) in
    let from = chosen (line_of asked rows) (λ row. not (is_excluded (standing_in asked rows row))) (listings parts) line i in
    subst IsShownRow (sym from.same) (shown_line (line_of asked rows from.element).certain from.element (can_show 0 parts s from.element from.is))

each_of : {X : Type 0} (P : X → Type 0) (xs : List X) → ((x : X) → IsIn x xs → P x) → All P xs
each_of P [] h = All-nil P
each_of P (x ∷ xs) h = All-cons P x xs (h x (inl refl)) (each_of P xs (λ y i. h y (inr i)))

pub lines_are_shown : LinesAreShown
lines_are_shown asked parts s =
    let skipped = skipped_block asked.limit in
    let block = block_of asked (listings parts) in
    elim (is_skipped parts) as (λ b. All IsShownRow (cond b skipped block).rows) [
      | true ↦ All-nil IsShownRow
      | false ↦ each_of IsShownRow block.rows (shown_lines asked parts s)
    ]

-- a block whose rows are judged
judged_back : (asked : FirstRows) (parts : List PartListing) → AreShownParts parts → AreRisingParts parts →
    IsFirstLine (block_of asked (listings parts)).top → IsReadBack asked.limit (block_of asked (listings parts))
judged_back asked parts s r is_top =
    let lines = told_lines asked (listings parts) in
    let top = top_of asked.limit lines in
    record {
      taken = (
        record { top = Some (Counts top); rows = [] },
        inl (top, record { first = refl; is_top = is_top; asked = refl; is_line = refl }, refl),
        rows_taken asked.limit top [] lines (shown_lines asked parts s) (lines_rise asked parts r) (first_follows lines)
            (record { certain = refl; possible = refl }),
      );
      whole = (refl, refl);
    }

-- one in which none is
skipped_back : (limit : ℕ) → IsReadBack limit (skipped_block limit)
skipped_back limit = record {
  taken = (record { top = Some (Skipped limit); rows = [] }, inr (inr (record { first = refl; is_line = refl }, refl)), refl);
  whole = tt;
}

back_by : (b : Bool) (limit : ℕ) (block : CombinedRows) → IsFirstLine (cond b (skipped_block limit) block).top →
    (IsFirstLine block.top → IsReadBack limit block) → IsReadBack limit (cond b (skipped_block limit) block)
back_by true limit block top judged = skipped_back limit
back_by false limit block top judged = judged top

pub blocks_are_read_back : BlocksAreReadBack
blocks_are_read_back asked parts s r top = back_by (is_skipped parts) asked.limit (block_of asked (listings parts)) top (judged_back asked parts s r)
