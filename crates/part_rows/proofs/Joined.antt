-- The lines of the block over all parts hold as those of one part of more.
use Rattle.std.proofs.Common.{◌≡◌, ℕ, suc, zero, ◌+◌, ◌<◌, Bool, true, false, not, cond, List, [], ◌∷◌, ◌++◌, get_or, length, refl, sym, ap, ◌∙◌, subst, arith, IsTrue, inl, inr, map}
use Rattle.std.specs.declared.cmp.Ordering.{Ordering}
use Rattle.std.specs.declared.cmp.Ordering.TheVariants.{Less, Equal, Greater}
use Rattle.std.specs.Cmp.{nat_cmp_is}
use Rattle.std.specs.Cmp.Lexicographic.{slice_cmp}
use Rattle.std.specs.List.{filter}
use Rattle.std.specs.Ordering.{is_lt, nat_cmp, ordering_reverse, ordering_then}
use Rattle.std.proofs.lemmas.Bool.{cases_lt, false≢true}
use Rattle.std.proofs.lemmas.Cmp.{nat_cmp_total, nat_list_cmp_total, tied_itself}
use Rattle.std.proofs.lemmas.List.{length-map}
use Rattle.part_groups.specs.Cells.{span_of}
use Rattle.report_text.specs.RowBlocks.{tag_bytes}
use Rattle.report_text.specs.declared.rows.RowLine.{RowLine}
use Rattle.query_kinds.specs.declared.rows.FirstRows.{FirstRows}
use Rattle.part_rows.specs.declared.row.PartRow.{PartRow}
use Rattle.part_rows.specs.declared.row.RowName.{RowName}
use Rattle.part_rows.specs.Combined.{Listing, PartListing, joined_tag, line_of, lines_of, listings, listings_from, listings_of, row_of, rows_of, standing_in, told_lines}
use Rattle.part_rows.specs.Faults.{is_clear}
use Rattle.part_rows.specs.Joined.{AreOfSoMany, JoinedLinesNest, LinesHold, joined_name, listed_at, tag_at}
use Rattle.part_rows.specs.Laws.{AreLater}
use Rattle.part_rows.specs.Marks.{Mark, name_cmp}
use Rattle.part_rows.specs.Rising.{AreInOrder}
use Rattle.part_rows.specs.Standings.{standing}
use Rattle.part_rows.specs.Tables.{Holds, is_certain, is_excluded}
use Rattle.part_rows.specs.Trees.{AreOfOnePart, renamed, told_row, told_rows}
use Rattle.part_rows.specs.Worlds.{IsIn, World, names_in, names_of}
use Rattle.part_rows.proofs.Joins.{in_either}
use Rattle.part_rows.proofs.Rising.{in_order_mapped, joined_cmp, joined_rises}
use Rattle.part_rows.proofs.ToldLater.{told_rows_nest}
use Rattle.part_rows.proofs.Trees.{out_of_map, told_rows_hold}

-- ---- the tags of the parts

in_at : {X : Type 0} (xs : List X) (j : ℕ) (d : X) → j < length xs → IsIn (get_or xs j d) xs
in_at [] j d lt = absurd (omega (arith, lt))
in_at (x ∷ xs) zero d lt = inl refl
in_at (x ∷ xs) (suc j) d lt = inr (in_at xs j d (omega (arith, lt)))

between : {X : Type 0} (before : X → X → Bool) (xs : List X) (i j : ℕ) (d : X) → AreInOrder before xs → i < j → j < length xs →
    IsTrue (before (get_or xs i d) (get_or xs j d))
between before [] i j d p less lt = absurd (omega (arith, lt))
between before (x ∷ xs) i zero d p less lt = absurd (omega (arith, less))
between before (x ∷ xs) zero (suc j) d p less lt = p.0 (get_or xs j d) (in_at xs j d (omega (arith, lt)))
between before (x ∷ xs) (suc i) (suc j) d p less lt = between before xs i j d p.1 (omega (arith, less)) (omega (arith, lt))

-- they are clear and rise
pub record HasTags (parts : List PartListing) : Type 0 where
  pub clear : (part : PartListing) → IsIn part parts → IsTrue (is_clear part.tag)
  pub tags : AreInOrder (λ a b. is_lt (slice_cmp nat_cmp a.tag b.tag)) parts

clear_at : (parts : List PartListing) → HasTags parts → (j : ℕ) → j < length parts → IsTrue (is_clear (tag_at parts j))
clear_at parts r j lt =
    let tag : PartListing → List ℕ = λ part. part.tag in
    let there : j < length (map tag parts) = subst (λ n. j < n) (sym (length-map parts tag)) lt in
    let from = out_of_map tag parts (tag_at parts j) (in_at (map tag parts) j [] there) in
    subst (λ t. IsTrue (is_clear t)) (sym from.same) (r.clear from.element from.is)

rises_at : (parts : List PartListing) → HasTags parts → (i j : ℕ) (s t : List ℕ) → i < j → j < length parts →
    IsTrue (is_lt (slice_cmp nat_cmp (joined_tag (tag_at parts i) s) (joined_tag (tag_at parts j) t)))
rises_at parts r i j s t less lt =
    let tag : PartListing → List ℕ = λ part. part.tag in
    let there : j < length (map tag parts) = subst (λ n. j < n) (sym (length-map parts tag)) lt in
    let order = in_order_mapped tag (λ a b. is_lt (slice_cmp nat_cmp a.tag b.tag)) (λ a b. is_lt (slice_cmp nat_cmp a b)) parts
    (λ a b h. h) r.tags in
    joined_rises (tag_at parts i) (tag_at parts j) s t (between (λ a b. is_lt (slice_cmp nat_cmp a b)) (map tag parts) i j [] order less there)
    (clear_at parts r j lt)

-- ---- joined names stand in the order of the names

pub less_by : (o : Ordering) → IsTrue (is_lt o) → o ≡ Less
less_by Less t = refl
less_by Equal t = absurd (false≢true t)
less_by Greater t = absurd (false≢true t)

tags_alike : (parts : List PartListing) → HasTags parts → (i j : ℕ) (s t : List ℕ) → i < length parts → j < length parts →
    slice_cmp nat_cmp (joined_tag (tag_at parts i) s) (joined_tag (tag_at parts j) t) ≡ ordering_then (nat_cmp i j) (slice_cmp nat_cmp s t)
tags_alike parts r i j s t here there =
    let one = joined_tag (tag_at parts i) s in
    let other = joined_tag (tag_at parts j) t in
    elim (cases_lt i j) [
      | inl less ↦ less_by (slice_cmp nat_cmp one other) (rises_at parts r i j s t less there)
          ∙ ap (λ o. ordering_then o (slice_cmp nat_cmp s t)) (nat_cmp_is i j Less less)
      | inr up ↦ elim (cases_lt j i) [
        | inl more ↦ nat_list_cmp_total.antisymm one other
            ∙ ap ordering_reverse (less_by (slice_cmp nat_cmp other one) (rises_at parts r j i t s more here))
            ∙ ap (λ o. ordering_then o (slice_cmp nat_cmp s t)) (nat_cmp_is i j Greater more)
        | inr down ↦
            let same : i ≡ j = omega (arith, up, down) in
            ap (λ n. slice_cmp nat_cmp (joined_tag (tag_at parts n) s) other) same ∙ joined_cmp (tag_at parts j) s t
            ∙ ap (λ o. ordering_then o (slice_cmp nat_cmp s t)) (nat_cmp_is i j Equal same)
      ]
    ]

pub names_alike : (place : ℕ) (parts : List PartListing) → HasTags parts → (a b : RowName) → a.part < length parts → b.part < length parts →
    name_cmp (joined_name place parts a) (joined_name place parts b) ≡ name_cmp a b
names_alike place parts r a b here there =
    let tags = slice_cmp nat_cmp (joined_tag (tag_at parts a.part) a.tag) (joined_tag (tag_at parts b.part) b.tag) in
    let numbers = nat_cmp a.number b.number in
    ap (λ o. ordering_then (ordering_then o tags) numbers) (tied_itself nat_cmp_total place)
    ∙ ap (λ o. ordering_then o numbers) (tags_alike parts r a.part b.part a.tag b.tag here there)

-- ---- the rows of the parts

-- the place and the tag of a row are those of its part
pub record IsAt (place : ℕ) (parts : List PartListing) (row : Listing) : Type 0 where
  pub at : ℕ
  pub part_is : row.part ≡ place + at
  pub below : at < length parts
  pub tag_is : row.tag ≡ tag_at parts at

pub is_at : (place : ℕ) (parts : List PartListing) (row : Listing) → IsIn row (listings_from place parts) → IsAt place parts row
is_at place [] row i = absurd i
is_at place (part ∷ parts) row i =
    elim (in_either row (listings_of place part) (listings_from (place + 1) parts) i) [
      | inl j ↦
          let make : RowLine → Listing = λ line. record { part = place; tag = part.tag; line = line } in
          let same = (out_of_map make part.rows row j).same in
          let here : row.part ≡ place = ap (λ (l : Listing). l.part) same in
          record { at = 0; part_is = omega (arith, here); below = omega arith; tag_is = ap (λ (l : Listing). l.tag) same }
      | inr j ↦
          let rest = is_at (place + 1) parts row j in
          record { at = suc rest.at; part_is = omega (arith, rest.part_is); below = omega (arith, rest.below); tag_is = rest.tag_is }
    ]

-- a row has the tag of the part that it names
pub tag_of : (parts : List PartListing) (row : Listing) → IsIn row (listings parts) → row.tag ≡ tag_at parts row.part
tag_of parts row i =
    let at = is_at 0 parts row i in
    let there : at.at ≡ row.part = omega (arith, at.part_is) in
    at.tag_is ∙ ap (λ n. tag_at parts n) there

-- one row more, if it is told
first : (b : Bool) (place : ℕ) (tag : List ℕ) (asked : FirstRows) (parts : List PartListing) (rows : List PartRow) (row : Listing)
    (some : List Listing) (others : List PartRow) → row.tag ≡ tag_at parts row.part →
    rows_of (listed_at place tag (map (line_of asked rows) some)) ≡ map (told_row (joined_name place parts) asked rows) others →
    rows_of (listed_at place tag (map (line_of asked rows) (cond b (row ∷ some) some)))
    ≡ map (told_row (joined_name place parts) asked rows) (cond b (row_of row ∷ others) others)
first true place tag asked parts rows row some others e same =
    let make : List ℕ → PartRow = λ t. record {
      name = record { part = place; tag = joined_tag t (tag_bytes row.line.name.tag); number = row.line.name.number };
      certain = is_certain (standing_in asked rows row);
      key = span_of row.line.key;
    } in
    λ i. make (e i) ∷ same i
first false place tag asked parts rows row some others e same = same

-- what the lines tell as those of one part is what is told of the rows
told_is : (place : ℕ) (tag : List ℕ) (asked : FirstRows) (parts : List PartListing) (rows : List PartRow) (listed : List Listing) →
    ((row : Listing) → IsIn row listed → row.tag ≡ tag_at parts row.part) →
    rows_of (listed_at place tag (lines_of asked rows listed))
    ≡ map (told_row (joined_name place parts) asked rows) (filter (λ row. not (is_excluded (standing asked rows row))) (rows_of listed))
told_is place tag asked parts rows [] tags = refl
told_is place tag asked parts rows (row ∷ rest) tags =
    first (not (is_excluded (standing_in asked rows row))) place tag asked parts rows row
    (filter (λ r. not (is_excluded (standing_in asked rows r))) rest)
    (filter (λ r. not (is_excluded (standing asked rows r))) (rows_of rest)) (tags row (inl refl))
    (told_is place tag asked parts rows rest (λ r i. tags r (inr i)))

-- each name is of one of the parts
name_below : (parts : List PartListing) (world : World) → AreOfSoMany (length parts) world → (name : RowName) →
    IsIn name (names_of (rows_of (listings parts)) ++ names_in world) → name.part < length parts
name_below parts world of name i =
    elim (in_either name (names_of (rows_of (listings parts))) (names_in world) i) [
      | inl j ↦
          let row = out_of_map (λ (r : PartRow). r.name) (rows_of (listings parts)) name j in
          let from = out_of_map row_of (listings parts) row.element row.is in
          let at = is_at 0 parts from.element from.is in
          let same : name.part ≡ from.element.part = ap (λ (n : RowName). n.part) row.same ∙ ap (λ (r : PartRow). r.name.part) from.same in
          omega (arith, same, at.part_is, at.below)
      | inr j ↦
          let from = out_of_map (λ (m : Mark). m.name) world name j in
          subst (λ (n : RowName). n.part < length parts) (sym from.same) (of from.element from.is)
    ]

pub lines_hold : LinesHold
lines_hold place tag asked parts world r of h =
    let listed = listings parts in
    let rows = rows_of listed in
    let rename = joined_name place parts in
    let tags : HasTags parts = record { clear = r.clear; tags = r.tags } in
    let one : AreOfOnePart rename place (names_of rows ++ names_in world) = record {
      part_is = λ name. refl;
      ordered = λ a b i j. names_alike place parts tags a b (name_below parts world of a i) (name_below parts world of b j);
    } in
    let same = told_is place tag asked parts rows listed (tag_of parts) in
    subst (λ rs. Holds asked rs (renamed rename world)) (sym same) (told_rows_hold rename place asked rows world one h)

pub joined_lines_nest : JoinedLinesNest
joined_lines_nest place tag asked olds parts alike n m later =
    let rename = joined_name place parts in
    let before = told_is place tag asked parts (rows_of (listings olds)) (listings olds)
    (λ row i. tag_of olds row i ∙ ap (λ tags. get_or tags row.part []) alike) in
    let after = told_is place tag asked parts (rows_of (listings parts)) (listings parts) (tag_of parts) in
    subst (λ rows. AreLater asked.down rows (rows_of (listed_at place tag (told_lines asked (listings parts))))) (sym before)
    (subst (AreLater asked.down (told_rows rename asked (rows_of (listings olds)))) (sym after)
    (told_rows_nest rename asked (rows_of (listings olds)) (rows_of (listings parts)) n m later))
