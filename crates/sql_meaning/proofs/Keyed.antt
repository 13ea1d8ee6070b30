-- The parts of keys are values of the columns of GROUP BY.
use Rattle.std.proofs.Common.{◌≡◌, ℕ, zero, suc, ◌<◌, List, [], ◌∷◌, ◌++◌, map, None, Some, refl, sym, subst, slice_get}
use Rattle.std.specs.List.{AllByRecursion}
use Rattle.daq_table.specs.Tables.{Cells}
use Rattle.daq_table.specs.declared.table_head.Head.{Head}
use Rattle.query_model.specs.Answers.{groups_of}
use Rattle.query_model.specs.Queries.{Query}
use Rattle.query_model.specs.declared.query.Face.TheVariants as faces
use Rattle.sql_text.specs.Tree as tree
use Rattle.sql_text.specs.Tree.{Name}
use Rattle.sql_typing.specs.Faults.{first_fault}
use Rattle.sql_typing.specs.Names.{names_in_ending, names_in_filter, names_in_head, number_of}
use Rattle.sql_typing.specs.Typing as typing
use Rattle.sql_typing.specs.Typing.{columns_of, typed_ending}
use Rattle.sql_typing.proofs.Alls.{all_over, all_right}
use Rattle.sql_typing.proofs.Distinct.{after_all}
use Rattle.sql_meaning.specs.Answers.{grouping}
use Rattle.sql_meaning.specs.Rows.{row_at, shown}
use Rattle.sql_meaning.specs.Laws.{HasValues, IsPart, KeysMeanTheirTrees, numbers_at}
use Rattle.sql_meaning.proofs.Asked.{column_argument}
use Rattle.sql_meaning.proofs.Named.{IsRead, all_read}
use Rattle.sql_meaning.proofs.Readings.{shown_is}

each_at : {A : Type 0} (P Q : A → Type 0) (xs : List A) → ((i : ℕ) (x : A) → slice_get xs i ≡ Some x → P x → Q x) → AllByRecursion P xs → AllByRecursion Q xs
each_at P Q [] f h = tt
each_at P Q (x ∷ xs) f h = (f zero x refl h.0, each_at P Q xs (λ i y e. f (suc i) y e) h.1)

module _ (q : tree.Query) (head : Head) (cells : Cells) (one : ℕ) (one_in : one < head.rows) where
  abbrev query : Query
  query = typing.typed head.columns q

  part_of : (ns : List Name) → grouping q.ending ≡ ns → (i : ℕ) (n : Name) → slice_get ns i ≡ Some n → IsRead q head cells n
      → IsPart q head query cells one (number_of head.columns (columns_of head.columns q) n.name)
  part_of ns same i n e is =
      let a = column_argument q head cells n is in
      let k = number_of head.columns (columns_of head.columns q) n.name in
      record {
        place = i;
        name = n;
        grouped = subst (λ ms. slice_get ms i ≡ Some n) (sym same) e;
        same = shown_is (shown head.columns (columns_of head.columns q) (faces.OfColumn k)) a.stands a.reads
            (numbers_at query head cells one k) (row_at head cells one n.name) (a.related one one_in);
      }

  parts_by : (ending : tree.Ending) → grouping q.ending ≡ grouping ending → AllByRecursion (IsRead q head cells) (names_in_ending ending)
      → AllByRecursion (IsPart q head query cells one) (groups_of (typed_ending head.columns (columns_of head.columns q) ending))
  parts_by tree.Nothing same h = tt
  parts_by (tree.Ordered key down limit) same h = tt
  parts_by (tree.Grouped ns) same h =
      after_all (IsPart q head query cells one) [] (map (λ n. number_of head.columns (columns_of head.columns q) n.name) ns) tt
      (all_over (IsPart q head query cells one) (λ n. number_of head.columns (columns_of head.columns q) n.name) ns
      (each_at (IsRead q head cells) (λ n. IsPart q head query cells one (number_of head.columns (columns_of head.columns q) n.name)) ns (part_of ns same) h))

  pub parts_are : first_fault head.columns q ≡ None → HasValues head cells → AllByRecursion (IsPart q head query cells one) (groups_of query.shape)
  parts_are good values =
      parts_by q.ending refl (all_right (IsRead q head cells) (names_in_head q.head ++ names_in_filter q.pred) (names_in_ending q.ending) (all_read q head cells good values))

pub keys_mean : KeysMeanTheirTrees
keys_mean q head meant cells one is values one_in =
    subst (λ (w : Query). AllByRecursion (IsPart q head w cells one) (groups_of w.shape)) (sym is.same) (parts_are q head cells one one_in is.faultless values)
