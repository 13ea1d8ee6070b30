-- Which items a plane of a column may move: those whose condition or argument reads it. The pairs of the others stay.
use Rattle.std.specs.Prelude.{◌≡◌, ℕ, Bool, false, ◌||◌, List, slice_get, slice_index_or}
use Rattle.std.specs.declared.option.Option.TheVariants.{Some}
use Rattle.kleene_filter.specs.Filters.{stands_in}
use Rattle.query_model.specs.Meaning.{columns_of, columns_of_pred}
use Rattle.query_model.specs.Queries.{Aggregate, Query}

abbrev pub is_moved : Query → ℕ → Aggregate → Bool
is_moved query column item = stands_in (columns_of_pred query.pred) column || stands_in (columns_of item.arg) column

-- whether an item is marked
abbrev pub is_marked : List Bool → ℕ → Bool
is_marked marks item = slice_index_or marks item false

-- the items that the column moves are marked, and no others
abbrev pub AreMoved : Query → ℕ → List Bool → Type 0
AreMoved query column marks =
    (i : ℕ) (item : Aggregate) → slice_get query.items i ≡ Some item → is_marked marks i ≡ is_moved query column item
