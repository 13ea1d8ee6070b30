-- Blocks of totals have a line for each item.
use Rattle.std.proofs.Common.{◌≡◌, ◌≢◌, ℕ, zero, suc, ◌+◌, Bool, true, false, if◌then◌else◌, List, [], ◌∷◌, ◌++◌, length, map, Some, inl, refl, sym, ap, subst, ◌∙◌, arith, slice_get}
use Rattle.std.proofs.lemmas.List.{append_assoc}
use Rattle.std.proofs.lemmas.Option.{none-some, same_Some}
use Rattle.daq_report.specs.Blocks.{form_text, round_line}
use Rattle.daq_report.specs.Extras.{extra_lines, is_average}
use Rattle.daq_report.specs.Intervals.{average_text, bound_text}
use Rattle.daq_report.specs.Items.{item_lines, items_text}
use Rattle.daq_table.specs.declared.table_head.Head.{Head}
use Rattle.plane_schedule.specs.Plans.{no_extras}
use Rattle.plane_schedule.specs.declared.policy.Extras.{Extras}
use Rattle.plane_schedule.specs.declared.policy.Listing.{Listing}
use Rattle.query_model.specs.Bounds.{average_under, bound_under}
use Rattle.query_model.specs.Queries.{Aggregate}
use Rattle.query_model.specs.declared.query.ItemKind.{ItemKind}
use Rattle.query_model.specs.declared.query.ItemKind.TheVariants as kinds
use Rattle.query_model.specs.declared.query.Shape.{Shape}
use Rattle.query_model.specs.declared.query.Shape.TheVariants.{Plain}
use Rattle.round_engine.specs.Stages.{Stage}
use Rattle.sql_headline.specs.Lined.{AreLines, BlocksHaveLines, IsItemText, line_of, lines_of}

module _ (head : Head) (stage : Stage) where
  abbrev bounded : Aggregate → List ℕ
  bounded item = bound_text head stage.query item.face (bound_under stage.query item [] stage.frame stage.known)

  abbrev averaged : Aggregate → List ℕ
  averaged item = average_text head stage.query item.face (average_under stage.query item [] stage.frame stage.known)

  abbrev answer : Aggregate → List ℕ
  answer item = if is_average item.kind then averaged item else bounded item

  abbrev besides : (ℕ → Aggregate → List ℕ) → ℕ → List Aggregate → List (List ℕ)
  besides extra n [] = []
  besides extra n (item ∷ items) = extra n item ∷ besides extra (n + 1) items

  module _ (f : ℕ → List Aggregate → List ℕ) (extra : ℕ → Aggregate → List ℕ) (none : (n : ℕ) → f n [] ≡ [])
      (next : (n : ℕ) (item : Aggregate) (items : List Aggregate) → f n (item ∷ items) ≡ (line_of n (answer item) ++ extra n item) ++ f (n + 1) items) where
    with_more : (n : ℕ) (items : List Aggregate) → f n items ≡ lines_of n (map answer items) (besides extra n items)
    with_more n [] = none n
    with_more n (item ∷ items) =
        next n item items ∙ append_assoc (line_of n (answer item)) (extra n item) (f (n + 1) items)
        ∙ ap (λ rest. line_of n (answer item) ++ (extra n item ++ rest)) (with_more (n + 1) items)

  scoped : (extras : Extras) (s : _) → ((n : ℕ) (item : Aggregate) (items : List Aggregate) → item_lines head stage s n (item ∷ items) ≡ (line_of n (answer item) ++ extra_lines head stage extras n item) ++ item_lines head stage s (n + 1) items)
      → items_text head stage s ≡ lines_of 1 (map answer stage.query.items) (besides (extra_lines head stage extras) 1 stage.query.items)
  scoped extras s next = with_more (item_lines head stage s) (extra_lines head stage extras) (λ n. refl) next 1 stage.query.items

  form_with : (listing : Listing) (extras : Extras) → form_text head listing extras stage Plain ≡ lines_of 1 (map answer stage.query.items) (besides (extra_lines head stage extras) 1 stage.query.items)
  form_with listing extras = search (scoped extras)

  many : (extra : ℕ → Aggregate → List ℕ) (n : ℕ) (items : List Aggregate) → length (besides extra n items) ≡ length (map answer items)
  many extra n [] = refl
  many extra n (item ∷ items) = ap suc (many extra (n + 1) items)

  behind : (extra : ℕ → Aggregate → List ℕ) (n : ℕ) (items : List Aggregate) (i : ℕ) (item : Aggregate) → slice_get items i ≡ Some item → slice_get (besides extra n items) i ≡ Some (extra (i + n) item)
  behind extra n [] i item e = absurd (none-some item e)
  behind extra n (first ∷ items) zero item e =
      let none : n ≡ 0 + n = omega (arith) in
      ap (λ w. Some (extra n w)) (same_Some first item e) ∙ ap (λ k. Some (extra k item)) none
  behind extra n (first ∷ items) (suc i) item e =
      let shift : i + (n + 1) ≡ suc i + n = omega (arith) in
      behind extra (n + 1) items i item e ∙ ap (λ k. Some (extra k item)) shift

  as_many : (items : List Aggregate) → length (map answer items) ≡ length items
  as_many [] = refl
  as_many (item ∷ items) = ap suc (as_many items)

  flat : (extra : ℕ → Aggregate → List ℕ) → ((n : ℕ) (item : Aggregate) → extra n item ≡ []) → (n : ℕ) (items : List Aggregate)
      → lines_of n (map answer items) (besides extra n items) ≡ lines_of n (map answer items) []
  flat extra none n [] = refl
  flat extra none n (item ∷ items) =
      ap (λ more. line_of n (answer item) ++ (more ++ lines_of (n + 1) (map answer items) (besides extra (n + 1) items))) (none n item)
      ∙ ap (λ rest. line_of n (answer item) ++ rest) (flat extra none (n + 1) items)

  neither : (b : Bool) (xs ys : List ℕ) → xs ≡ [] → ys ≡ [] → (if b then xs else ys) ≡ []
  neither true xs ys e f = e
  neither false xs ys e f = f

  no_extra : (number : ℕ) (item : Aggregate) → extra_lines head stage no_extras number item ≡ []
  no_extra number item = neither (is_average item.kind) [] [] refl refl

  form_alone : (listing : Listing) → form_text head listing no_extras stage Plain ≡ lines_of 1 (map answer stage.query.items) []
  form_alone listing = form_with listing no_extras ∙ flat (extra_lines head stage no_extras) no_extra 1 stage.query.items

  plain_text : (item : Aggregate) (kind : ItemKind) → kind ≢ kinds.Avg → (if is_average kind then averaged item else bounded item) ≡ bounded item
  plain_text item kinds.Count other = refl
  plain_text item kinds.Sum other = refl
  plain_text item kinds.Min other = refl
  plain_text item kinds.Max other = refl
  plain_text item kinds.Avg other = absurd (other refl)

  answer_of : (plain : stage.query.shape ≡ Plain) (item : Aggregate) → IsItemText head stage item (answer item)
  answer_of plain item = (
    (λ other. inl (plain, plain_text item item.kind other)),
    (λ same. inl (plain, ap (λ k. if is_average k then averaged item else bounded item) same)),
  )

  shown_at : (plain : stage.query.shape ≡ Plain) (items : List Aggregate) (i : ℕ) (item : Aggregate) (text : List ℕ) → slice_get items i ≡ Some item → slice_get (map answer items) i ≡ Some text → IsItemText head stage item text
  shown_at plain [] i item text e g = absurd (none-some item e)
  shown_at plain (first ∷ items) zero item text e g =
      subst (IsItemText head stage item) (ap answer (sym (same_Some first item e)) ∙ same_Some (answer first) text g) (answer_of plain item)
  shown_at plain (first ∷ items) (suc i) item text e g = shown_at plain items i item text e g

  lines : stage.query.shape ≡ Plain → AreLines head stage (map answer stage.query.items)
  lines is_plain = record {
    as_many = as_many stage.query.items;
    shown = shown_at is_plain stage.query.items;
    plain = λ listing round last.
        ap (λ (s : Shape). round_line head stage round last ++ form_text head listing no_extras stage s) is_plain ∙ ap (λ text. round_line head stage round last ++ text) (form_alone listing);
    wanted = λ listing extras round last. (
      besides (extra_lines head stage extras) 1 stage.query.items,
      many (extra_lines head stage extras) 1 stage.query.items,
      behind (extra_lines head stage extras) 1 stage.query.items,
      ap (λ (s : Shape). round_line head stage round last ++ form_text head listing extras stage s) is_plain ∙ ap (λ text. round_line head stage round last ++ text) (form_with listing extras),
    );
  }

pub blocks_have : BlocksHaveLines
blocks_have head stage plain = (_, lines head stage plain)
