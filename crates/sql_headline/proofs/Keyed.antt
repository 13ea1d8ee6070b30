-- Rows of worlds have keys.
use Rattle.std.proofs.Common.{◌≡◌, ◌≢◌, ℕ, ◌<◌, ◌≤◌, List, [], ◌∷◌, length, map, Some, None, sym, ap, subst, arith}
use Rattle.std.proofs.lemmas.Int.{ints}
use Rattle.std.specs.List.{AllByRecursion}
use Rattle.daq_table.specs.Tables.{Cell, Cells, Frame, IsCell, IsTable, ends_at, frame_of, row_of, value_of}
use Rattle.daq_table.specs.declared.head.Ends.{Ends}
use Rattle.daq_table.specs.declared.table_head.Head.{Head}
use Rattle.plane_schedule.specs.declared.policy.Plan.{Plan}
use Rattle.query_model.specs.Answers.{Key, groups_of}
use Rattle.query_model.specs.Groups.{IsKey, IsKeyPart}
use Rattle.query_model.specs.Projection.{projected}
use Rattle.query_model.specs.Queries.{Query}
use Rattle.query_model.specs.Validity.{IsValidShape}
use Rattle.query_model.specs.declared.query.Shape.{Shape}
use Rattle.query_model.specs.declared.query.Shape.TheVariants as shapes
use Rattle.sql_text.specs.Tree as tree
use Rattle.sql_typing.specs.Typing.{columns_of, typed_ending}
use Rattle.sql_meaning.specs.Answers.{grouping}
use Rattle.table_rounds.proofs.Reached.{columns_of_part, part_of}
use Rattle.table_rounds.specs.Headline.{IsKeyOn}
use Rattle.sql_headline.specs.Worlds.{IsGroupOf, IsWorld, RowsHaveKeys, Run}
use Rattle.sql_headline.proofs.Begun.{IsSure, Laws, part_there, sure}

key_part : (ends : Ends) (cell : Cell) → IsCell ends cell → IsKeyPart ends (value_of ends cell)
key_part ends None h = h
key_part ends (Some u) h = (let ordered = ends.ordered in (omega (arith, ints), omega (arith, ints)))

keys_of : (part : Frame) (cells : Cells) (r : ℕ) (cs : List ℕ) → IsTable part cells → r < part.rows → AllByRecursion (λ c. c < length part.columns) cs → IsKey part cs (map (row_of part cells r) cs)
keys_of part cells r [] table r_in h = tt
keys_of part cells r (c ∷ cs) table r_in h = (key_part (ends_at part c) _ (table.within c r h.0 r_in), keys_of part cells r cs table r_in h.1)

groups_in : (head : Head) (query : Query) (shape : Shape) → IsValidShape head query shape → AllByRecursion (λ c. c < length query.columns) (groups_of shape)
groups_in head query shapes.Plain h = tt
groups_in head query (shapes.Grouped columns) h = h.0
groups_in head query (shapes.Top key down limit) h = tt

cons_nil : {A : Type 0} (x : A) (xs : List A) → (x ∷ xs) ≢ []
cons_nil x xs e = absurd cc

by_ending : (head : Head) (columns : List ℕ) (part : Frame) (cells : Cells) (r : ℕ) (ending : tree.Ending) → IsTable part cells → (grouping ending ≢ [] → r < part.rows)
    → AllByRecursion (λ c. c < length part.columns) (groups_of (typed_ending head.columns columns ending))
    → IsKey part (groups_of (typed_ending head.columns columns ending)) (map (row_of part cells r) (groups_of (typed_ending head.columns columns ending)))
by_ending head columns part cells r tree.Nothing table some h = tt
by_ending head columns part cells r (tree.Ordered key down limit) table some h = tt
by_ending head columns part cells r (tree.Grouped []) table some h = tt
by_ending head columns part cells r (tree.Grouped (n ∷ ns)) table some h = keys_of part cells r _ table (some (cons_nil n ns)) h

pub have_keys : (law : Laws) (run : Run) (plan : Plan) → IsSure run plan → (round : ℕ) (world : Cells) (key : Key) (one : ℕ) → round ≤ length run.reads → IsWorld run round world → IsGroupOf run world key one → IsKeyOn run.query (frame_of run.head) key
have_keys law run plan is round world key one h is_world group =
    let part = part_of run.query (frame_of run.head) in
    let table = part_there law run plan is round h world is_world in
    let valid = law.valid run.text run.head run.query is.typed in
    let inside : AllByRecursion (λ c. c < length part.columns) (groups_of run.query.shape) =
    subst (λ n. AllByRecursion (λ c. c < n) (groups_of run.query.shape)) (sym (columns_of_part run.query (frame_of run.head))) (groups_in run.head run.query run.query.shape valid.shape) in
    let shape_is : run.query.shape ≡ typed_ending run.head.columns (columns_of run.head.columns run.text) run.text.ending = ap (λ (w : Query). w.shape) is.typed.same in
    let keyed = subst (λ (s : Shape). AllByRecursion (λ c. c < length part.columns) (groups_of s) → IsKey part (groups_of s) (map (row_of part (projected run.query world) one) (groups_of s)))
    (sym shape_is) (by_ending run.head (columns_of run.head.columns run.text) part (projected run.query world) one run.text.ending table group.row) inside in
    subst (λ (k : Key). IsKey part (groups_of run.query.shape) k) (sym group.same) keyed

pub rows_have : Laws → RowsHaveKeys
rows_have law run plan round world key one is h is_world group = have_keys law run plan (sure law run plan is) round world key one h is_world group
