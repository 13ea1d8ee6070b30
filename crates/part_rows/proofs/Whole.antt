-- What the lines of the block over all parts say of the rows of all parts together.
use Rattle.std.proofs.Common.{◌≡◌, ℕ, ◌+◌, Bool, not, cond, List, [], ◌∷◌, ◌++◌, length, sym, ap, ◌∙◌, subst, arith, IsTrue, inl, inr}
use Rattle.std.specs.declared.option.Option.TheVariants.{Some}
use Rattle.std.proofs.lemmas.Bool.{cases_Bool}
use Rattle.std.proofs.lemmas.Cmp.{tied_itself}
use Rattle.std.proofs.lemmas.List.{map-append}
use Rattle.part_groups.specs.Cells.{span_of}
use Rattle.report_text.specs.RowBlocks.{tag_bytes}
use Rattle.report_text.specs.declared.rows.RowLine.{RowLine}
use Rattle.report_text.specs.declared.rows.RowName.{RowName as ShownName}
use Rattle.query_kinds.specs.declared.rows.FirstRows.{FirstRows}
use Rattle.part_rows.specs.declared.row.End.TheVariants.{First, Last}
use Rattle.part_rows.specs.declared.row.PartRow.{PartRow}
use Rattle.part_rows.specs.declared.row.RowName.{RowName}
use Rattle.part_rows.specs.Combined.{Listing, PartListing, joined_tag, line_of, listings, listings_from, listings_of, row_of, rows_of, standing_in, told_lines}
use Rattle.part_rows.specs.Faults.{AreClear, first_unclear, is_clear}
use Rattle.part_rows.specs.Joined.{JoinedLinesBecomeExact, joined_name, listed_at}
use Rattle.part_rows.specs.Laws.{AreLater, IsExact}
use Rattle.part_rows.specs.Marks.{Mark, key_at, name_cmp}
use Rattle.part_rows.specs.Tables.{Holds, is_excluded}
use Rattle.part_rows.specs.Whole.{AreAllLater, IsLineOf, NamedLinesAreRight, NamesAreApart, PartsAreLater, shown_name}
use Rattle.part_rows.specs.Worlds.{IsIn, World}
use Rattle.part_rows.proofs.Joined.{names_alike, tag_of}
use Rattle.part_rows.proofs.Lists.{in_map}
use Rattle.part_rows.proofs.Nesting.{later_reports_join}
use Rattle.part_rows.proofs.Orders.{name_total}
use Rattle.part_rows.proofs.Reports.{chosen}
use Rattle.part_rows.proofs.Told.{lines_are_right, lines_become_exact}
use Rattle.part_rows.proofs.Trees.{out_of_map, same_name}

-- ---- names

pub all_clear : (parts : List PartListing) → AreClear parts → (part : PartListing) → IsIn part parts → IsTrue (is_clear part.tag)
all_clear [] clear part i = absurd i
all_clear (first ∷ parts) clear part i =
    let counted = λ (b : Bool). cond (not (not b)) (1 + first_unclear parts) 0 ≡ length (first ∷ parts) in
    elim (cases_Bool (is_clear first.tag)) [
      | inl t ↦
          let rest = subst counted t clear in
          elim i [
            | inl e ↦ subst (λ (p : PartListing). IsTrue (is_clear p.tag)) (sym e) t
            | inr j ↦ all_clear parts (omega (arith, rest)) part j
          ]
      | inr s ↦ let none = subst counted s clear in absurd (omega (arith, none))
    ]

pub names_are_apart : NamesAreApart
names_are_apart parts a b clear rising here there e =
    let make : ShownName → RowName = λ name. record { part = 0; tag = tag_bytes name.tag; number = name.number } in
    let one = joined_name 0 parts a in
    let same : one ≡ joined_name 0 parts b = ap make e in
    same_name a b (sym (names_alike 0 parts (record { clear = all_clear parts clear; tags = rising }) a b here there)
    ∙ ap (name_cmp one) (sym same) ∙ tied_itself name_total one)

-- ---- lines

-- the line of a listed row is that of the row of the world with its name
line_shows : (asked : FirstRows) (parts : List PartListing) (world : World) → Holds asked (rows_of (listings parts)) world →
    (row : Listing) → IsIn row (listings parts) → (mark : Mark) → IsIn mark world → mark.name ≡ (row_of row).name →
    IsLineOf parts mark (line_of asked (rows_of (listings parts)) row)
line_shows asked parts world h row i mark j e =
    let make : List ℕ → ShownName = λ tag. record { tag = Some (joined_tag tag (tag_bytes row.line.name.tag)); number = row.line.name.number } in
    record {
      named = ap make (tag_of parts row i) ∙ ap (shown_name parts) (sym e);
      key = h.is_world.keys (row_of row) mark (in_map row_of row (listings parts) i) j e;
    }

pub named_lines_are_right : NamedLinesAreRight
named_lines_are_right asked parts world h =
    let listed = listings parts in
    let rows = rows_of listed in
    let right = lines_are_right asked listed world h.named h.is_world in
    record {
      certain = λ line i t.
          let from = chosen (line_of asked rows) (λ r. not (is_excluded (standing_in asked rows r))) listed line i in
          let told = right.certain from.element from.is (ap (λ (l : RowLine). l.certain) (sym from.same) ∙ t) in
          record {
            mark = told.mark;
            is = told.is;
            shows = subst (IsLineOf parts told.mark) (sym from.same) (line_shows asked parts world h from.element from.is told.mark told.is told.named);
            first = told.first;
          };
      all = λ mark j f.
          let has = right.all mark j f in
          record { line = line_of asked rows has.row; is = has.told; shows = line_shows asked parts world h has.row has.is mark j (sym has.named) };
    }

-- ---- later reports

later_from : (down : Bool) (place : ℕ) (olds parts : List PartListing) → AreAllLater down place olds parts →
    AreLater down (rows_of (listings_from place olds)) (rows_of (listings_from place parts))
later_from down place [] [] h = record { listed = λ row i. absurd i; kept = λ old i t. absurd i }
later_from down place [] (part ∷ parts) h = absurd h
later_from down place (old ∷ olds) [] h = absurd h
later_from down place (old ∷ olds) (part ∷ parts) h =
    let was = listings_of place old in
    let is = listings_of place part in
    let others_were = listings_from (place + 1) olds in
    let others = listings_from (place + 1) parts in
    subst (λ rows. AreLater down rows (rows_of (is ++ others))) (sym (map-append row_of was others_were))
    (subst (AreLater down (rows_of was ++ rows_of others_were)) (sym (map-append row_of is others))
    (later_reports_join down (rows_of was) (rows_of is) (rows_of others_were) (rows_of others) h.0 (later_from down (place + 1) olds parts h.1)))

pub parts_are_later : PartsAreLater
parts_are_later down olds parts h = later_from down 0 olds parts h

-- ---- exact

-- a certain line with the key of a row that has one key is exact, whatever its name
exact_by : (down : Bool) (name : RowName) (row : PartRow) (line : RowLine) → IsExact down row → span_of line.key ≡ row.key → IsTrue line.certain →
    IsExact down (record { name = name; certain = line.certain; key = span_of line.key })
exact_by down name row line exact same certain = record {
  certain = certain;
  one_key = ap (λ k. record { key = key_at down First k; name = name }) same
      ∙ ap (λ (m : Mark). record { key = m.key; name = name }) exact.one_key
      ∙ ap (λ k. record { key = key_at down Last k; name = name }) (sym same);
}

pub joined_lines_become_exact : JoinedLinesBecomeExact
joined_lines_become_exact place tag asked parts exact row i =
    let listed = listings parts in
    let rows = rows_of listed in
    let make : RowLine → Listing = λ line. record { part = place; tag = tag; line = line } in
    let mapped = out_of_map row_of (listed_at place tag (told_lines asked listed)) row i in
    let of = out_of_map make (told_lines asked listed) mapped.element mapped.is in
    let line = of.element in
    let from = chosen (line_of asked rows) (λ r. not (is_excluded (standing_in asked rows r))) listed line of.is in
    let own = exact (row_of from.element) (in_map row_of from.element listed from.is) in
    subst (IsExact asked.down) (sym (mapped.same ∙ ap row_of of.same))
    (exact_by asked.down (row_of (make line)).name (row_of from.element) line own (ap (λ (l : RowLine). span_of l.key) from.same)
    (lines_become_exact asked listed exact line of.is))
