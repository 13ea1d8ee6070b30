-- What is asked by the lines of an input, what was read of it, and where its report goes on.
use Rattle.std.proofs.Common.{◌≡◌, ◌≢◌, ℕ, Option, List, [], ◌∷◌, ◌++◌, Some, None, refl, sym, ap, ◌∙◌, subst, inl, inr, ◌⊎◌, arith}
use Rattle.std.proofs.lemmas.Option.{none-some, same_Some}
use Rattle.std.specs.Io.KnownBytes.{Consumes}
use Rattle.outer_world.specs.Device.{SinkState}
use Rattle.plane_schedule.specs.declared.policy.Nearness.{Nearness}
use Rattle.query_kinds.specs.Beside.{BesidesAreOne}
use Rattle.query_kinds.specs.Kinds.{IsNoQuery, KindsAreOne}
use Rattle.query_kinds.specs.Rows.{RowsAreOne}
use Rattle.query_kinds.specs.declared.beside.Beside.{Beside}
use Rattle.query_kinds.specs.declared.rows.FirstRows.{FirstRows}
use Rattle.query_model.specs.declared.query.ItemKind.{ItemKind}
use Rattle.report_parts.specs.Course.{Combines, Task}
use Rattle.report_parts.specs.declared.combination.Until.{Until}
use Rattle.report_parts.specs.declared.shape.Shape.{Shape}
use Rattle.report_parts.specs.Tags.{behind_tag}
use Rattle.report_stream.proofs.Taken.{no_tab, shape_some}
use Rattle.report_stream.specs.Streams.{AsksNothing, HasWritten, IsFirstRefused, IsShapeOf, IsTask, first_line, shape_of_rows}
use Rattle.report_stream.specs.declared.fault.LineRefusal.{LineRefusal}
use Rattle.report_stream.specs.declared.fault.LineRefusal.TheVariants as r

pub either : {A B C : Type 0} → A ⊎ B → (A → C) → (B → C) → C
either (inl a) f g = f a
either (inr b) f g = g b

-- ---- what was read of an input that tells all

-- the bytes are those that were read, and those that are left
pub record Told (left' : Option (List ℕ)) (bytes read : List ℕ) : Type 0 where
  pub behind : List ℕ
  pub is_left : left' ≡ Some behind
  pub split : bytes ≡ read ++ behind

pub told_by : (left left' : Option (List ℕ)) (bytes read : List ℕ) → left ≡ Some bytes → Consumes left left' read → Told left' bytes read
told_by None left' bytes read e c = absurd (none-some bytes e)
told_by (Some xs) None bytes read e c = absurd c
told_by (Some xs) (Some ys) bytes read e c = record { behind = ys; is_left = refl; split = sym (same_Some xs bytes e) ∙ c }

-- ---- what is asked

-- a line of a query tells one shape
pub record QueriesAreOne : Type 0 where
  pub kinds : KindsAreOne
  pub besides : BesidesAreOne
  pub rows : RowsAreOne

same_shape : (a b : Shape) → a.kinds ≡ b.kinds → a.columns ≡ b.columns → a.besides ≡ b.besides → a.rows ≡ b.rows → a ≡ b
same_shape a b kinds columns besides rows =
    ap (λ (x : List ItemKind). record { kinds = x; columns = a.columns; besides = a.besides; rows = a.rows }) kinds
    ∙ ap (λ (n : ℕ). record { kinds = b.kinds; columns = n; besides = a.besides; rows = a.rows }) columns
    ∙ ap (λ (x : List (Option Beside)). record { kinds = b.kinds; columns = b.columns; besides = x; rows = a.rows }) besides
    ∙ ap (λ (x : Option FirstRows). record { kinds = b.kinds; columns = b.columns; besides = b.besides; rows = x }) rows

shapes_same : QueriesAreOne → (query : List ℕ) (a b : Shape) → IsShapeOf query a → IsShapeOf query b → a ≡ b
shapes_same one query a b (inl h) (inl k) =
    let same = one.kinds.same query a.kinds b.kinds a.columns b.columns h.asks k.asks in
    same_shape a b same.0 same.1 (one.besides.same query a.besides b.besides h.besides k.besides) (h.no_rows ∙ sym k.no_rows)
shapes_same one query a b (inl h) (inr k) = absurd (one.rows.no_items query k.asked a.kinds a.columns k.asks h.asks)
shapes_same one query a b (inr h) (inl k) = absurd (one.rows.no_items query h.asked b.kinds b.columns h.asks k.asks)
shapes_same one query a b (inr h) (inr k) = h.is ∙ ap shape_of_rows (one.rows.same query h.asked k.asked h.asks k.asks) ∙ sym k.is

-- the line of a query that asks for something is one
pub some_query : QueriesAreOne → (query : List ℕ) (shape : Shape) → IsShapeOf query shape → IsNoQuery query → ⊥
some_query one query shape (inl h) none = one.kinds.not_none query shape.kinds shape.columns h.asks none
some_query one query shape (inr h) none = none h.asks.query h.asks.is_line

pub some_shape : QueriesAreOne → (query : List ℕ) (shape : Shape) → IsShapeOf query shape → AsksNothing query → ⊥
some_shape one query shape (inl h) (other, none) = one.kinds.not_other query shape.kinds shape.columns h.asks other
some_shape one query shape (inr h) (other, none) = one.rows.not_other query h.asked h.asks none

pub same_task : QueriesAreOne → (count : ℕ) (until : Until) (first : List ℕ) (a b : Task) → IsTask count until first a → IsTask count until first b → a ≡ b
same_task kinds count until first a b h k =
    let query = h.query ∙ sym k.query in
    let shape = shapes_same kinds b.query a.shape b.shape (subst (λ (q : List ℕ). IsShapeOf q a.shape) query h.is_shape) k.is_shape in
    ap (λ (q : List ℕ). record { query = q; shape = a.shape; count = a.count; near = a.near; last = a.last }) query
    ∙ ap (λ (x : Shape). record { query = b.query; shape = x; count = a.count; near = a.near; last = a.last }) shape
    ∙ ap (λ (n : ℕ). record { query = b.query; shape = b.shape; count = n; near = a.near; last = a.last }) (h.count ∙ sym k.count)
    ∙ ap (λ (n : Nearness). record { query = b.query; shape = b.shape; count = b.count; near = n; last = a.last }) (h.near ∙ sym k.near)
    ∙ ap (λ (o : Option ℕ). record { query = b.query; shape = b.shape; count = b.count; near = b.near; last = o }) (h.last ∙ sym k.last)

-- a task is that of a line
pub some_lines : (count : ℕ) (until : Until) (lines : List (List ℕ)) (task : Task) → IsTask count until (first_line lines) task → lines ≢ []
some_lines count until [] task is none = let some = is.is_tag.0 in omega (arith, some)
some_lines count until (line ∷ lines) task is none = absurd cc

pub first_of_more : (lines more : List (List ℕ)) → lines ≢ [] → first_line (lines ++ more) ≡ first_line lines
first_of_more [] more some = absurd (some refl)
first_of_more (line ∷ lines) more some = refl

module _ (kinds : QueriesAreOne) (count : ℕ) (until : Until) where
  -- the task of the first lines is that of all
  pub task_of_more : (lines more : List (List ℕ)) (a b : Task) → IsTask count until (first_line lines) a → IsTask count until (first_line (lines ++ more)) b → a ≡ b
  task_of_more lines more a b h k =
      same_task kinds count until (first_line lines) a b h
      (subst (λ (f : List ℕ). IsTask count until f b) (first_of_more lines more (some_lines count until lines a h)) k)

  -- no line was taken, or the report goes on behind those that were
  abbrev pub IsOpen : List (List ℕ) → Type 0
  IsOpen lines = (lines ≡ []) ⊎ ((task : Task) × (body : List ℕ) × IsTask count until (first_line lines) task × Combines task lines body None)

  pub written_open : (out out' : SinkState) (lines : List (List ℕ)) → HasWritten count until out out' lines → IsOpen lines
  written_open out out' lines (inl (none, same)) = inl none
  written_open out out' lines (inr g) = inr (g.task, g.body, g.is_task, g.combines)

  pub block_open : (lines : List (List ℕ)) (line : List ℕ) (task : Task) (body : List ℕ) → IsTask count until (first_line (lines ++ line ∷ [])) task →
      Combines task lines body None → IsOpen lines
  block_open [] line task body is combines = inl refl
  block_open (first ∷ lines) line task body is combines = inr (task, body, is, combines)

  -- a line that asks is not refused as the first
  pub first_not_refused : (why : LineRefusal) (first : List ℕ) (task : Task) → IsTask count until first task → IsFirstRefused why first → ⊥
  first_not_refused r.NoTab first task is none = shape_some task.query task.shape is.is_shape (is.query ∙ no_tab first none)
  first_not_refused r.NoTag first task is (tab, none) = none is.is_tag
  first_not_refused r.NoQuery first task is (tagged, none) =
      some_query kinds (behind_tag first) task.shape (subst (λ (q : List ℕ). IsShapeOf q task.shape) is.query is.is_shape) none
  first_not_refused r.NoItems first task is (tagged, nothing) =
      some_shape kinds (behind_tag first) task.shape (subst (λ (q : List ℕ). IsShapeOf q task.shape) is.query is.is_shape) nothing
  first_not_refused r.MoreParts first task is h = absurd h
  first_not_refused r.OtherQuery first task is h = absurd h
  first_not_refused r.Unlisted first task is h = absurd h
  first_not_refused r.OtherLine first task is h = absurd h
  first_not_refused (r.OtherColumn column) first task is h = absurd h
  first_not_refused (r.OtherItem item) first task is h = absurd h
  first_not_refused (r.TooWide item) first task is h = absurd h
  first_not_refused (r.UnclearTag part) first task is h = absurd h
  first_not_refused r.OtherForm first task is h = absurd h
  first_not_refused r.TooLong first task is h = absurd h
