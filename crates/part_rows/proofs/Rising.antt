-- The lines of the block over all parts rise where those of the parts do.
use Rattle.std.proofs.Common.{◌≡◌, ℕ, ◌+◌, nat_lt, Bool, true, not, ◌&&◌, ◌||◌, cond, List, [], ◌∷◌, ◌++◌, refl, sym, ap, ◌∙◌, subst, IsTrue, inl, inr, map}
use Rattle.std.specs.declared.cmp.Ordering.{Ordering}
use Rattle.std.specs.declared.cmp.Ordering.TheVariants.{Less, Equal, Greater}
use Rattle.std.specs.Cmp.Lexicographic.{slice_cmp}
use Rattle.std.specs.Cmp.{nat_cmp_is}
use Rattle.std.specs.List.{filter}
use Rattle.std.specs.Ordering.{is_eq, is_lt, nat_cmp, ordering_then}
use Rattle.std.proofs.lemmas.Bool.{and_parts, cases_Bool, false≢true, ltb-true, or_left}
use Rattle.std.proofs.lemmas.Cmp.{nat_cmp_total, tied_itself}
use Rattle.std.proofs.lemmas.List.{append-nil}
use Rattle.report_text.specs.RowBlocks.{comes_before as stands_before, tag_bytes}
use Rattle.report_text.specs.declared.rows.RowLine.{RowLine}
use Rattle.part_rows.specs.Combined.{Listing, PartListing, joined_tag, line_by, line_of, listings, listings_from, listings_of, rows_of, standing_in}
use Rattle.part_rows.specs.Faults.{is_clear}
use Rattle.part_rows.specs.Rising.{AreInOrder, AreRisingLines, AreRisingParts, LinesRise}
use Rattle.part_rows.specs.Tables.{is_excluded}
use Rattle.part_rows.specs.Worlds.{IsIn}
use Rattle.part_rows.proofs.Joins.{in_either}
use Rattle.part_rows.proofs.Trees.{out_of_filter, out_of_map}

-- ---- lists in order

in_order_joined : {X : Type 0} (before : X → X → Bool) (xs ys : List X) → AreInOrder before xs → AreInOrder before ys →
    ((x y : X) → IsIn x xs → IsIn y ys → IsTrue (before x y)) → AreInOrder before (xs ++ ys)
in_order_joined before [] ys p q across = q
in_order_joined before (x ∷ xs) ys p q across = (
  (λ y i. elim (in_either y xs ys i) [
    | inl j ↦ p.0 y j
    | inr j ↦ across x y (inl refl) j
  ]),
  in_order_joined before xs ys p.1 q (λ a b i j. across a b (inr i) j),
)

pub in_order_mapped : {X Y : Type 0} (f : X → Y) (before : X → X → Bool) (after : Y → Y → Bool) (xs : List X) →
    ((a b : X) → IsTrue (before a b) → IsTrue (after (f a) (f b))) → AreInOrder before xs → AreInOrder after (map f xs)
in_order_mapped f before after [] keeps p = tt
in_order_mapped f before after (x ∷ xs) keeps p = (
  (λ y i.
      let from = out_of_map f xs y i in
      subst (λ z. IsTrue (after (f x) z)) (sym from.same) (keeps x from.element (p.0 from.element from.is))),
  in_order_mapped f before after xs keeps p.1,
)

in_order_filtered : {X : Type 0} (before : X → X → Bool) (test : X → Bool) (xs : List X) → AreInOrder before xs → AreInOrder before (filter test xs)
in_order_filtered before test [] p = tt
in_order_filtered before test (x ∷ xs) p =
    elim (cases_Bool (test x)) [
      | inl t ↦ subst (λ b. AreInOrder before (cond b (x ∷ filter test xs) (filter test xs))) (sym t)
          ((λ y i. p.0 y (out_of_filter test y xs i)), in_order_filtered before test xs p.1)
      | inr s ↦ subst (λ b. AreInOrder before (cond b (x ∷ filter test xs) (filter test xs))) (sym s) (in_order_filtered before test xs p.1)
    ]

-- ---- joined tags

-- what stands behind the tag of a part
abbrev behind_tag : List ℕ → List ℕ
behind_tag [] = []
behind_tag (byte ∷ inner) = 32 ∷ byte ∷ inner

joined_is : (tag inner : List ℕ) → joined_tag tag inner ≡ tag ++ behind_tag inner
joined_is tag [] = sym (append-nil tag)
joined_is tag (byte ∷ inner) = refl

same_byte : (byte : ℕ) (s t : List ℕ) → slice_cmp nat_cmp (byte ∷ s) (byte ∷ t) ≡ slice_cmp nat_cmp s t
same_byte byte s t = ap (λ o. ordering_then o (slice_cmp nat_cmp s t)) (tied_itself nat_cmp_total byte)

same_front : (front s t : List ℕ) → slice_cmp nat_cmp (front ++ s) (front ++ t) ≡ slice_cmp nat_cmp s t
same_front [] s t = refl
same_front (byte ∷ front) s t = same_byte byte (front ++ s) (front ++ t) ∙ same_front front s t

behind_cmp : (s t : List ℕ) → slice_cmp nat_cmp (behind_tag s) (behind_tag t) ≡ slice_cmp nat_cmp s t
behind_cmp [] [] = refl
behind_cmp [] (y ∷ t) = refl
behind_cmp (x ∷ s) [] = refl
behind_cmp (x ∷ s) (y ∷ t) = same_byte 32 (x ∷ s) (y ∷ t)

-- the tags of one part keep their order
pub joined_cmp : (tag s t : List ℕ) → slice_cmp nat_cmp (joined_tag tag s) (joined_tag tag t) ≡ slice_cmp nat_cmp s t
joined_cmp tag s t =
    ap (λ l. slice_cmp nat_cmp l (joined_tag tag t)) (joined_is tag s) ∙ ap (λ l. slice_cmp nat_cmp (tag ++ behind_tag s) l) (joined_is tag t)
    ∙ same_front tag (behind_tag s) (behind_tag t) ∙ behind_cmp s t

by_first : (o p q : Ordering) → (IsTrue (is_lt p) → IsTrue (is_lt q)) → IsTrue (is_lt (ordering_then o p)) → IsTrue (is_lt (ordering_then o q))
by_first Less p q keeps t = refl
by_first Equal p q keeps t = keeps t
by_first Greater p q keeps t = t

-- a clear tag that comes behind another does so whatever stands behind them
rising : (tag later s t : List ℕ) → IsTrue (is_lt (slice_cmp nat_cmp tag later)) → IsTrue (is_clear later) →
    IsTrue (is_lt (slice_cmp nat_cmp (tag ++ behind_tag s) (later ++ behind_tag t)))
rising [] [] s t p c = absurd (false≢true p)
rising [] (y ∷ later) [] t p c = refl
rising [] (y ∷ later) (x ∷ s) t p c =
    let less = ltb-true 32 y (and_parts (nat_lt 32 y) (is_clear later) c).0 in
    ap (λ o. is_lt (ordering_then o (slice_cmp nat_cmp (x ∷ s) (later ++ behind_tag t)))) (sym (nat_cmp_is 32 y Less less))
rising (x ∷ tag) [] s t p c = absurd (false≢true p)
rising (x ∷ tag) (y ∷ later) s t p c =
    by_first (nat_cmp x y) (slice_cmp nat_cmp tag later) (slice_cmp nat_cmp (tag ++ behind_tag s) (later ++ behind_tag t))
    (λ q. rising tag later s t q (and_parts (nat_lt 32 y) (is_clear later) c).1) p

pub joined_rises : (tag later s t : List ℕ) → IsTrue (is_lt (slice_cmp nat_cmp tag later)) → IsTrue (is_clear later) →
    IsTrue (is_lt (slice_cmp nat_cmp (joined_tag tag s) (joined_tag later t)))
joined_rises tag later s t p c =
    ap (λ l. is_lt (slice_cmp nat_cmp l (joined_tag later t))) (joined_is tag s)
    ∙ ap (λ l. is_lt (slice_cmp nat_cmp (tag ++ behind_tag s) l)) (joined_is later t) ∙ rising tag later s t p c

-- ---- the rows of all parts

-- the line of the one stands before that of the other
abbrev before : Listing → Listing → Bool
before a b = stands_before (line_by true a).name (line_by true b).name

of_part : (place : ℕ) (part : PartListing) → AreRisingLines part.rows → AreInOrder before (listings_of place part)
of_part place part p =
    in_order_mapped (λ (line : RowLine). record { part = place; tag = part.tag; line = line }) (λ a b. stands_before a.name b.name) before
    part.rows
    (λ a b t. subst (λ o. IsTrue (is_lt o || (is_eq o && nat_lt a.name.number b.name.number)))
    (sym (joined_cmp part.tag (tag_bytes a.name.tag) (tag_bytes b.name.tag))) t)
    p

-- the tag is that of one of the parts
record IsTagOf (parts : List PartListing) (tag : List ℕ) : Type 0 where
  part : PartListing
  is : IsIn part parts
  same : tag ≡ part.tag

tag_of_part : (place : ℕ) (part : PartListing) (row : Listing) → IsIn row (listings_of place part) → row.tag ≡ part.tag
tag_of_part place part row i =
    ap (λ (r : Listing). r.tag)
    (out_of_map (λ (line : RowLine). record { part = place; tag = part.tag; line = line }) part.rows row i).same

tagged : (place : ℕ) (parts : List PartListing) (row : Listing) → IsIn row (listings_from place parts) → IsTagOf parts row.tag
tagged place [] row i = absurd i
tagged place (part ∷ parts) row i =
    elim (in_either row (listings_of place part) (listings_from (place + 1) parts) i) [
      | inl j ↦ record { part = part; is = inl refl; same = tag_of_part place part row j }
      | inr j ↦ let rest = tagged (place + 1) parts row j in record { part = rest.part; is = inr rest.is; same = rest.same }
    ]

across : (a b : Listing) → IsTrue (is_lt (slice_cmp nat_cmp a.tag b.tag)) → IsTrue (is_clear b.tag) → IsTrue (before a b)
across a b p c =
    let s = tag_bytes a.line.name.tag in
    let t = tag_bytes b.line.name.tag in
    let o = slice_cmp nat_cmp (joined_tag a.tag s) (joined_tag b.tag t) in
    or_left (is_lt o) (is_eq o && nat_lt a.line.name.number b.line.name.number) (joined_rises a.tag b.tag s t p c)

all_in_order : (place : ℕ) (parts : List PartListing) → AreRisingParts parts → AreInOrder before (listings_from place parts)
all_in_order place [] r = tt
all_in_order place (part ∷ parts) r =
    in_order_joined before (listings_of place part) (listings_from (place + 1) parts) (of_part place part (r.lines part (inl refl)))
    (all_in_order (place + 1) parts
    (record { clear = λ p i. r.clear p (inr i); tags = r.tags.1; lines = λ p i. r.lines p (inr i) }))
    (λ a b i j.
    let later = tagged (place + 1) parts b j in
    across a b
    (subst (λ s. IsTrue (is_lt (slice_cmp nat_cmp s b.tag))) (sym (tag_of_part place part a i))
    (subst (λ s. IsTrue (is_lt (slice_cmp nat_cmp part.tag s))) (sym later.same) (r.tags.0 later.part later.is)))
    (subst (λ s. IsTrue (is_clear s)) (sym later.same) (r.clear later.part (inr later.is))))

pub lines_rise : LinesRise
lines_rise asked parts r =
    let rows = rows_of (listings parts) in
    let test = λ (row : Listing). not (is_excluded (standing_in asked rows row)) in
    in_order_mapped (line_of asked rows) before (λ a b. stands_before a.name b.name) (filter test (listings parts)) (λ a b t. t)
    (in_order_filtered before test (listings parts) (all_in_order 0 parts r))
