-- Sums of products that are kept, after the next plane of a column.
use Rattle.std.proofs.Common.{◌≡◌, ℕ, ◌+◌, ◌<◌, Bool, List, [], ◌∷◌, ◌++◌, length, length-append, get_or, slice_get, take, Option, None, Some, sym, ap, subst, ◌∙◌, arith}
use Rattle.std.specs.Prelude.{IfSome}
use Rattle.std.proofs.lemmas.List.{take_more}
use Rattle.std.proofs.lemmas.List.Elements.{All-from_recursion}
use Rattle.std.proofs.lemmas.Option.{get_or_from_slice_get, slice_get_within}
use Rattle.known_column.specs.KnownTables.{IsKnownTable, KnownTable}
use Rattle.product_sums.specs.declared.kept_product.KeptProduct.{KeptProduct}
use Rattle.product_sums.specs.KeptProducts.{IsKeptProduct}
use Rattle.product_sums.proofs.StaysKept.{product_stays}
use Rattle.query_model.specs.Queries.{Aggregate}
use Rattle.round_engine.specs.declared.answers.Answers.{Answers}
use Rattle.round_engine.specs.declared.answers.Answers.TheVariants.{Totals}
use Rattle.round_engine.specs.declared.totals.Totals as declared
use Rattle.round_engine.specs.Engines.{AreAnswers, StoodBefore}
use Rattle.round_engine.specs.KeptProducts.{AreKeptProducts}
use Rattle.round_engine.specs.KeptSums.{columns_of}
use Rattle.round_engine.specs.Stages.{IsOpenItem, IsOpenStage, Stage, stepped}
use Rattle.round_engine.specs.Totals.{AreEach}
use Rattle.round_engine.proofs.Openings.{agree_push}

pub each_more : {X : Type 0} (R : Aggregate → X → Type 0) (items : List Aggregate) (i : ℕ) (item : Aggregate) (xs : List X) (x : X) → i < length items → item ≡ get_or items i item →
    AreEach (λ j it y. R it y) (take i items) xs → R item x → AreEach (λ j it y. R it y) (take (i + 1) items) (xs ++ x ∷ [])
each_more R items i item xs x within there opened room =
    let more : take (i + 1) items ≡ take i items ++ item ∷ [] = take_more items i item within ∙ ap (λ y. take i items ++ y ∷ []) (sym there) in
    let count : length (xs ++ x ∷ []) ≡ length (take i items ++ item ∷ []) = simp length-append (omega (arith, opened.count)) in
    subst (λ ys. AreEach (λ j it y. R it y) ys (xs ++ x ∷ [])) (sym more) (record { count = count; each = agree_push R (take i items) xs item x opened.count opened.each room })

pub products_more : (columns : KnownTable) (items : List Aggregate) (i : ℕ) (item : Aggregate) (kept : List (Option KeptProduct)) (one : Option KeptProduct) → i < length items → item ≡ get_or items i item →
    AreKeptProducts columns (take i items) kept → IfSome one (IsKeptProduct columns item.arg) → AreKeptProducts columns (take (i + 1) items) (kept ++ one ∷ [])
products_more columns items i item kept one within there opened room = each_more (λ (it : Aggregate) (k : Option KeptProduct). IfSome k (IsKeptProduct columns it.arg)) items i item kept one within there opened room

known_stage : (stage : Stage) → IsOpenStage stage → IsKnownTable (columns_of stage)
known_stage stage is = record { few_rows = is.open_query.few_rows; knowledge = is.knowledge }

pub product_stay : (before : Stage) (column : ℕ) (bits : List Bool) → IsOpenStage before → IsOpenStage (stepped before column bits) → length bits ≡ before.frame.rows → (i : ℕ) (item : Aggregate) (product : Option KeptProduct) →
    slice_get before.query.items i ≡ Some item → IfSome product (IsKeptProduct (columns_of before) item.arg) → IfSome product (IsKeptProduct (columns_of (stepped before column bits)) item.arg)
product_stay before column bits is next long i item None at kept = tt
product_stay before column bits is next long i item (Some p) at kept =
    let items = before.query.items in
    let within : i < length items = slice_get_within items i item at in
    let all = All-from_recursion (IsOpenItem before.frame) items is.open_query.items in
    let here : IsOpenItem before.frame item = subst (IsOpenItem before.frame) (get_or_from_slice_get items i item item at) (all i item within) in
    product_stays (columns_of before) (known_stage before is) column bits long (known_stage (stepped before column bits) next) item.arg p here.columns kept

pub products_stay : (before : Stage) (column : ℕ) (bits : List Bool) (kept : List (Option KeptProduct)) → IsOpenStage before → IsOpenStage (stepped before column bits) → length bits ≡ before.frame.rows →
    AreKeptProducts (columns_of before) before.query.items kept → AreKeptProducts (columns_of (stepped before column bits)) before.query.items kept
products_stay before column bits kept is next long are = record {
  count = are.count;
  each = λ i item product at_item at_product. product_stay before column bits is next long i item product at_item (are.each i item product at_item at_product);
}

pub products_stood : (stage : Stage) (column : ℕ) (bits : List Bool) (answers : Answers) (totals : declared.Totals) → IsOpenStage stage → StoodBefore stage column bits answers → answers ≡ Totals totals →
    AreKeptProducts (columns_of stage) stage.query.items totals.products.items
products_stood stage column bits answers totals is stood form =
    let are = subst (AreAnswers stood.before) form stood.answered in
    subst (λ (s : Stage). AreKeptProducts (columns_of s) s.query.items totals.products.items) (sym stood.read)
    (products_stay stood.before column bits totals.products.items stood.open_stage (subst IsOpenStage stood.read is) stood.rows are.5)
