-- That a combined report of first rows is certain of all rows together, where what the parts say is of their own.
use Rattle.std.proofs.Common.{◌≡◌, ℕ, ◌+◌, ◌<◌, cond, Option, Some, List, [], ◌∷◌, length, map, refl, sym, ap, subst, ◌∙◌, IsTrue, inl, inr}
use Rattle.std.proofs.lemmas.List.{length-map}
use Rattle.std.proofs.lemmas.List.Elements.{All-nil}
use Rattle.std.specs.Cmp.Lexicographic.{slice_cmp}
use Rattle.std.specs.List.{AllByRecursion}
use Rattle.std.specs.List.Sorted.{IsStrictlySortedBy}
use Rattle.std.specs.Ordering.{is_lt, nat_cmp}
use Rattle.std.specs.declared.cmp.Ordering.TheVariants.{Less}
use Rattle.query_kinds.specs.declared.rows.FirstRows.{FirstRows}
use Rattle.report_text.specs.declared.rows.RowLine.{RowLine}
use Rattle.part_rows.specs.Combined.{PartListing, block_of, listings, rows_of, skipped_block, told_lines}
use Rattle.part_rows.specs.Joined.{AreAllExact, AreOfSoMany, JoinedLinesBecomeExact, JoinedLinesNest, LinesHold, joined_name, listed_at}
use Rattle.part_rows.specs.Laws.{AreLater}
use Rattle.part_rows.specs.Rising.{AreRisingLines, RisingLinesAreListedOnce}
use Rattle.part_rows.specs.Tables.{Holds}
use Rattle.part_rows.specs.Trees.{renamed}
use Rattle.part_rows.specs.Whole.{AreLinesRight, AreTagsRising, NamedLinesAreRight, NamesAreApart, PartsAreLater}
use Rattle.part_rows.specs.Worlds.{IsIn}
use Rattle.part_rows.proofs.Whole.{all_clear}
use Rattle.report_parts.proofs.Ordered.{none_in_order, order_stays}
use Rattle.report_parts.proofs.Shown.{rising_here, tagged_shown}
use Rattle.report_parts.specs.Blocks as blocks
use Rattle.report_parts.specs.Course.{Task, Tell}
use Rattle.report_parts.specs.Reports.{block_beside, block_by}
use Rattle.report_parts.specs.RowHeadline.{AreJudgedIn, AreRowsCertain, CombinedRowsAreCertain, printed_rows, told_rows_in}
use Rattle.report_parts.specs.Rounds.{all_listed_in, listed_in}
use Rattle.report_parts.specs.Shown.{AreShownFrom, IsShownFrom}
use Rattle.report_parts.specs.Tags.{AreInOrder}
use Rattle.report_parts.specs.Told.{Told}
use Rattle.report_parts.specs.declared.shape.Shape.{Shape}

-- ---- the tags of the parts

pub tell_in_order : (task : Task) (parts : List Told) (lines : List (List ℕ)) (last : List Told) → AreInOrder parts → Tell task parts lines last → AreInOrder last
tell_in_order task parts [] last order h = subst AreInOrder (sym h) order
tell_in_order task parts (line ∷ lines) last order (next, takes, rest) =
    tell_in_order task next lines last (subst AreInOrder (sym takes.taken.put) (order_stays takes.taken.told parts order)) rest

below_all : (tag : List ℕ) (round : ℕ) (parts : List Told) → AllByRecursion (λ other. slice_cmp nat_cmp tag other ≡ Less) (map (λ (p : Told). p.tag) parts) →
    (y : PartListing) → IsIn y (all_listed_in round parts) → IsTrue (is_lt (slice_cmp nat_cmp tag y.tag))
below_all tag round [] h y i = absurd i
below_all tag round (part ∷ parts) h y (inl e) = subst (λ (p : PartListing). IsTrue (is_lt (slice_cmp nat_cmp tag p.tag))) (sym e) (ap is_lt h.0)
below_all tag round (part ∷ parts) h y (inr i) = below_all tag round parts h.1 y i

tags_rising : (round : ℕ) (parts : List Told) → AreInOrder parts → AreTagsRising (all_listed_in round parts)
unfolding IsStrictlySortedBy
tags_rising round [] sorted = tt
tags_rising round (part ∷ parts) sorted = ((λ y i. below_all part.tag round parts sorted.0 y i), tags_rising round parts sorted.1)

tags_same : (round next : ℕ) (parts : List Told) → map (λ (p : PartListing). p.tag) (all_listed_in round parts) ≡ map (λ (p : PartListing). p.tag) (all_listed_in next parts)
tags_same round next [] = refl
tags_same round next (part ∷ parts) = ap (λ tags. part.tag ∷ tags) (tags_same round next parts)

tell_shown : (task : Task) (round : ℕ) (parts : List Told) (lines : List (List ℕ)) (last : List Told) → Tell task parts lines last →
    AreShownFrom round parts → AreShownFrom round last
tell_shown task round parts [] last same h = subst (λ (ps : List Told). AreShownFrom round ps) (sym same) h
tell_shown task round parts (line ∷ lines) last (next, takes, rest) h =
    tell_shown task round next lines last rest (tagged_shown task.query task.shape round parts line next takes.taken h)

-- ---- what is printed

-- where the rows are judged their lines are printed
printed_is : (round : ℕ) (shape : Shape) (parts : List Told) (asked : FirstRows) → shape.columns ≡ 0 → shape.rows ≡ Some asked → AreJudgedIn round parts →
    printed_rows round shape parts ≡ told_lines asked (listings (all_listed_in round parts))
printed_is round shape parts asked no_groups is_asked judged =
    let all = all_listed_in round parts in
    ap (λ (columns : ℕ). blocks.rows_of (block_beside shape.besides (block_by columns shape.rows round shape.kinds parts))) no_groups
    ∙ ap (λ (rows : Option FirstRows). blocks.rows_of (block_beside shape.besides (block_by 0 rows round shape.kinds parts))) is_asked
    ∙ ap (λ b. (cond b (skipped_block asked.limit) (block_of asked (listings all))).rows) judged

-- ---- the headline

module _ (task : Task) (lines : List (List ℕ)) (parts : List Told) (asked : FirstRows) (told : Tell task [] lines parts) (no_groups : task.shape.columns ≡ 0)
    (is_asked : task.shape.rows ≡ Some asked) where
  abbrev listed : ℕ → List PartListing
  listed round = all_listed_in round parts

  printed : (round : ℕ) → AreJudgedIn round parts → printed_rows round task.shape parts ≡ told_lines asked (listings (listed round))
  printed round judged = printed_is round task.shape parts asked no_groups is_asked judged

  -- what is printed, as it is told of one part
  told_is : (round : ℕ) → AreJudgedIn round parts → told_rows_in round task.shape parts ≡ rows_of (listed_at 0 [] (told_lines asked (listings (listed round))))
  told_is round judged = ap (λ (ls : List RowLine). rows_of (listed_at 0 [] ls)) (printed round judged)

  certain : NamesAreApart → NamedLinesAreRight → PartsAreLater → JoinedLinesNest → JoinedLinesBecomeExact → RisingLinesAreListedOnce → LinesHold →
      AreRowsCertain asked task.shape parts
  certain apart right later nests exact once hold =
      let order = tell_in_order task [] lines parts none_in_order told in
      let rising : (round : ℕ) (part : PartListing) → IsIn part (listed round) → AreRisingLines part.rows =
      λ round. rising_here round parts (tell_shown task round [] lines parts told (All-nil (IsShownFrom round))) in
      let as_many : (round n : ℕ) → n < length parts → n < length (listed round) = λ round n below. subst (λ m. n < m) (sym (length-map parts (listed_in round))) below in
      record {
        order = order;
        apart = λ round a b clear here there e.
            apart (listed round) a b clear (tags_rising round parts order) (as_many round a.part here) (as_many round b.part there) e;
        right = λ round world judged holds. subst (λ (ls : List RowLine). AreLinesRight asked (listed round) ls world) (sym (printed round judged))
            (right asked (listed round) world holds);
        nests = λ round judged next_judged all.
            subst (λ rows. AreLater asked.down rows (told_rows_in (round + 1) task.shape parts)) (sym (told_is round judged))
            (subst (AreLater asked.down (rows_of (listed_at 0 [] (told_lines asked (listings (listed round)))))) (sym (told_is (round + 1) next_judged))
            (nests 0 [] asked (listed round) (listed (round + 1)) (tags_same round (round + 1) parts) (once (listed round) (rising round))
            (once (listed (round + 1)) (rising (round + 1))) (later asked.down (listed round) (listed (round + 1)) all)));
        exact = λ round judged all. subst (AreAllExact asked.down) (sym (told_is round judged)) (exact 0 [] asked (listed round) all);
        again = λ round world judged clear few holds.
            subst (λ rows. Holds asked rows (renamed (joined_name 0 (listed round)) world)) (sym (told_is round judged))
            (hold 0 [] asked (listed round) world
            (record { clear = all_clear (listed round) clear; tags = tags_rising round parts order; lines = rising round })
            (subst (λ n. AreOfSoMany n world) (sym (length-map parts (listed_in round))) few) holds);
      }

pub rows_certain : NamesAreApart → NamedLinesAreRight → PartsAreLater → JoinedLinesNest → JoinedLinesBecomeExact → RisingLinesAreListedOnce → LinesHold →
    CombinedRowsAreCertain
rows_certain apart right later nests exact once hold task lines parts asked told no_groups is_asked =
    certain task lines parts asked told no_groups is_asked apart right later nests exact once hold
