-- A query of which nothing is read, and items that are filled one by one.
use Rattle.std.proofs.Common.{◌≡◌, ◌≢◌, ℕ, zero, suc, ◌+◌, ◌<◌, ◌≤◌, Bool, true, false, List, [], ◌∷◌, ◌++◌, length, length-append, get_or, slice_get, take, Some, refl, sym, ap, subst, ◌∙◌, arith}
use Rattle.std.specs.List.{AllByRecursion}
use Rattle.std.proofs.lemmas.List.{length-map, take_more}
use Rattle.std.proofs.lemmas.Option.{none-some, same_Some}
use Rattle.daq_table.specs.declared.table_head.Head.{Head}
use Rattle.daq_table.specs.Tables.{ends_at, frame_of}
use Rattle.query_model.specs.Queries.{Aggregate, Query}
use Rattle.query_model.specs.declared.query.Shape.{Shape}
use Rattle.query_model.specs.declared.query.Shape.TheVariants.{Plain, Grouped, Top}
use Rattle.query_model.specs.Laws.{StartIsKnowledge}
use Rattle.query_model.specs.Meaning.{PredReadsBelow, ReadsBelow}
use Rattle.query_model.specs.Projection.{projected_frame}
use Rattle.query_model.specs.Validity.{IsValid, IsValidItem, IsValidShape}
use Rattle.known_column.specs.KnownTables.{KnownTable}
use Rattle.aggregates.specs.Runnings.{IsBlank, Tallies}
use Rattle.round_engine.specs.declared.item_bound.ItemBound.{ItemBound}
use Rattle.round_engine.specs.declared.answers.Answers.{Answers}
use Rattle.round_engine.specs.declared.answers.Answers.TheVariants.{Totals}
use Rattle.round_engine.specs.declared.totals.Totals as declared
use Rattle.round_engine.specs.Engines.{stage_of, AreAnswers, StoodBefore}
use Rattle.round_engine.specs.Followers.{AreUnreadFor}
use Rattle.round_engine.specs.Moves.{AreMoved, is_moved}
use Rattle.round_engine.specs.Stages.{IsOpenItem, IsOpenQuery, IsOpenShape, IsOpenStage, Stage, stepped}
use Rattle.round_engine.specs.Totals.{AreTotals, AreTotalsBeside, HaveRoom, IsBoundOf}
use Rattle.round_engine.proofs.Unmoved.{pairs_unmoved}

-- ---- the query

open_items : (head : Head) (query : Query) (items : List Aggregate) → AllByRecursion (IsValidItem head query) items → AllByRecursion (IsOpenItem (projected_frame query (frame_of head))) items
open_items head query [] valid = tt
open_items head query (item ∷ items) valid = (
  record {
    columns = subst (λ n. ReadsBelow n item.arg) (sym (length-map query.columns (ends_at (frame_of head)))) valid.0.columns;
    face = valid.0.face;
    fits = valid.0.fits;
  },
  open_items head query items valid.1,
)

open_shape : (head : Head) (query : Query) (shape : Shape) → IsValidShape head query shape → IsOpenShape (projected_frame query (frame_of head)) query shape
open_shape head query Plain valid = tt
open_shape head query (Grouped columns) valid =
    (subst (λ n. AllByRecursion (λ c. c < n) columns) (sym (length-map query.columns (ends_at (frame_of head)))) valid.0, valid.1, valid.2)
open_shape head query (Top key down limit) valid = (subst (λ n. key < n) (sym (length-map query.columns (ends_at (frame_of head)))) valid.0, valid.1, valid.2, valid.3)

open_query : (head : Head) (query : Query) → IsValid head query → head.rows ≤ 16777216 → IsOpenQuery query (projected_frame query (frame_of head))
open_query head query valid few = record {
  columns = length-map query.columns (ends_at (frame_of head));
  few_columns = valid.few_columns;
  few_items = valid.few_items;
  few_rows = few;
  condition = subst (λ n. PredReadsBelow n query.pred) (sym (length-map query.columns (ends_at (frame_of head)))) valid.condition;
  shape = open_shape head query query.shape valid.shape;
  items = open_items head query query.items valid.items;
}

pub open_stage : StartIsKnowledge → (query : Query) (columns : KnownTable) → AreUnreadFor query columns → columns.frame.rows ≤ 16777216 → IsOpenStage (stage_of query columns)
open_stage knows query columns are few =
    subst (λ t. IsOpenStage (stage_of query t)) (sym are.unread)
    (record {
      open_query = open_query are.head query are.valid (subst (λ (t : KnownTable). t.frame.rows ≤ 16777216) are.unread few);
      knowledge = knows (projected_frame query (frame_of are.head));
    })

-- ---- lists that agree place by place

pub agree_push : {X Y : Type 0} (R : X → Y → Type 0) (xs : List X) (ys : List Y) (x : X) (y : Y) → length ys ≡ length xs →
    ((i : ℕ) (a : X) (b : Y) → slice_get xs i ≡ Some a → slice_get ys i ≡ Some b → R a b) → R x y →
    (i : ℕ) (a : X) (b : Y) → slice_get (xs ++ x ∷ []) i ≡ Some a → slice_get (ys ++ y ∷ []) i ≡ Some b → R a b
agree_push R [] [] x y same before here zero a b at_a at_b = subst (λ v. R v b) (same_Some x a at_a) (subst (R x) (same_Some y b at_b) here)
agree_push R [] [] x y same before here (suc i) a b at_a at_b = absurd (none-some a at_a)
agree_push R [] (q ∷ ys) x y same before here i a b at_a at_b = absurd (omega arith)
agree_push R (p ∷ xs) [] x y same before here i a b at_a at_b = absurd (omega arith)
agree_push R (p ∷ xs) (q ∷ ys) x y same before here zero a b at_a at_b = before 0 a b at_a at_b
agree_push R (p ∷ xs) (q ∷ ys) x y same before here (suc i) a b at_a at_b = agree_push R xs ys x y (omega arith) (λ j. before (suc j)) here i a b at_a at_b

pub opened_more : (items : List Aggregate) (i : ℕ) (item : Aggregate) (runnings : List Tallies) (running : Tallies) → i < length items → item ≡ get_or items i item → HaveRoom (take i items) runnings →
    IsBlank running item.kind 1 1 → HaveRoom (take (i + 1) items) (runnings ++ running ∷ [])
opened_more items i item runnings running within there opened blank =
    let more : take (i + 1) items ≡ take i items ++ item ∷ [] = take_more items i item within ∙ ap (λ x. take i items ++ x ∷ []) (sym there) in
    let count : length (runnings ++ running ∷ []) ≡ length (take i items ++ item ∷ []) = simp length-append (omega (arith, opened.count)) in
    subst (λ xs. HaveRoom xs (runnings ++ running ∷ [])) (sym more) (record {
      count = count;
      each = agree_push (λ (it : Aggregate) (r : Tallies). (r.kind ≡ it.kind) × (r.room ≡ 1)) (take i items) runnings item running opened.count opened.each (blank.kind_is, blank.room_is);
    })

-- ---- what is computed anew after a plane, and what stays

beside_moved : (before : Stage) (column : ℕ) (bits marks : List Bool) (bounds : List ItemBound) → before.query.shape ≡ Plain → AreMoved before.query column marks → AreTotals before bounds →
    AreTotalsBeside (stepped before column bits) marks bounds
beside_moved before column bits marks bounds plain moved are = record {
  count = are.count;
  each = λ i item bound at_item at_bound unmarked.
      (let still : is_moved before.query column item ≡ false = is_false (is_moved before.query column item) (λ yes. unmarked (moved i item at_item ∙ yes)) in
      subst (λ ps. IsBoundOf item.kind ps bound) (sym (pairs_unmoved before.query item before.frame before.known column bits plain still)) (are.each i item bound at_item at_bound));
}
  where
    is_false : (b : Bool) → b ≢ true → b ≡ false
    is_false true h = absurd (h refl)
    is_false false h = refl

-- the totals of before a plane
pub stood_totals : (stage : Stage) (column : ℕ) (bits : List Bool) (answers : Answers) (totals : declared.Totals) → StoodBefore stage column bits answers → answers ≡ Totals totals →
    (before : Stage) × (stage ≡ stepped before column bits) × AreAnswers before (Totals totals)
stood_totals stage column bits answers totals stood form = (stood.before, stood.read, subst (AreAnswers stood.before) form stood.answered)

-- what a plane does not move is told still
pub still_told : (stage : Stage) (column : ℕ) (bits marks : List Bool) (totals : declared.Totals) → AreMoved stage.query column marks →
    (before : Stage) × (stage ≡ stepped before column bits) × AreAnswers before (Totals totals) →
    AreTotalsBeside stage marks totals.bounds.items
still_told stage column bits marks totals moved (before, read, are) =
    subst (λ (s : Stage). AreTotalsBeside s marks totals.bounds.items) (sym read)
    (beside_moved before column bits marks totals.bounds.items are.0 (subst (λ (s : Stage). AreMoved s.query column marks) read moved) are.1)
