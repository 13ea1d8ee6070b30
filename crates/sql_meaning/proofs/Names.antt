-- The names of a query: the columns for which they stand, those of GROUP BY in order, and the values that a row has there.
use Rattle.std.proofs.Common.{◌≡◌, ℕ, ◌<◌, ◌==◌, Bool, true, false, if◌then◌else◌, List, [], ◌∷◌, ◌++◌, map, get_or, Option, Some, None, IfSome, refl, sym, ap, subst, ◌∙◌, slice_get}
use Rattle.std.proofs.lemmas.List.{map-append}
use Rattle.std.proofs.lemmas.List.Quantifiers.{position-Some}
use Rattle.std.proofs.lemmas.Option.{none-some, same_Some, slice_get-get_or}
use Rattle.std.proofs.lemmas.Slice.Eq.{bytes_eq-Decides}
use Rattle.std.specs.Bool.{one_answer}
use Rattle.std.specs.List.{AllByRecursion, list_any, position, position_or_len}
use Rattle.std.specs.Str.{bytes_eq}
use Rattle.daq_table.specs.Tables.{Cells}
use Rattle.daq_table.specs.declared.head.ColumnHead.{ColumnHead}
use Rattle.daq_table.specs.declared.table_head.Head.{Head}
use Rattle.query_model.specs.Queries.{Query}
use Rattle.query_model.specs.declared.query.Face.TheVariants.{OfColumn}
use Rattle.sql_text.specs.Tree as tree
use Rattle.sql_text.specs.Tree.{Name}
use Rattle.sql_typing.specs.Faults.{unknown_at}
use Rattle.sql_typing.specs.Names.{names_in, number_at, number_of, place_of}
use Rattle.sql_typing.specs.Refusals.{IsTyped}
use Rattle.sql_typing.specs.Typing.{columns_of, distinct_after, group_columns, typed}
use Rattle.sql_typing.proofs.Alls.{all_join, all_then}
use Rattle.sql_typing.proofs.Comparisons.{number_same, same_number}
use Rattle.sql_typing.proofs.Distinct.{IsAmong}
use Rattle.sql_meaning.specs.Laws.{HasValues, IsShownAs, numbers_at}
use Rattle.sql_meaning.specs.Rows.{row_at, shown}
use Rattle.sql_meaning.proofs.Asked.{column_argument}
use Rattle.sql_meaning.proofs.Named.{IsRead, all_names, all_read, found, number_is}
use Rattle.sql_meaning.proofs.Readings.{shown_is}
use Rattle.sql_meaning.specs.Attained.{with_names}

-- ---- places

at_number : (c : ℕ) (cs : List ℕ) → IsAmong c cs → slice_get cs (number_at cs (Some c)) ≡ Some c
at_number c cs h =
    let is = found c cs h in
    ap (slice_get cs) (number_is c cs is) ∙ slice_get-get_or cs (position_or_len (λ i. i == c) cs) 0 is.within ∙ ap Some is.there

-- the column that is found has the name
found_name : (table : List ColumnHead) (name : List ℕ) (p : ℕ) → position (λ column. bytes_eq column.name name) table ≡ Some p → (column : ColumnHead) × (slice_get table p ≡ Some column) × (column.name ≡ name)
found_name [] name p e = absurd (none-some p e)
found_name (x ∷ xs) name p e =
    let at = position-Some (λ (column : ColumnHead). bytes_eq column.name name) (x ∷ xs) p x e in
    (get_or (x ∷ xs) p x, slice_get-get_or (x ∷ xs) p x at.0, (bytes_eq-Decides (get_or (x ∷ xs) p x).name name).0 at.1)

-- ---- names

-- the name stands for a column of the table, at a place, which has a number in the query
pub record IsKnown (table : List ColumnHead) (columns : List ℕ) (n : Name) : Type 0 where
  pub place : ℕ
  pub column : ColumnHead
  pub found : place_of table n.name ≡ Some place
  pub at : slice_get table place ≡ Some column
  pub named : column.name ≡ n.name
  pub number : slice_get columns (number_of table columns n.name) ≡ Some place

module _ (table : List ColumnHead) (columns : List ℕ) where
  abbrev number : Name → ℕ
  number n = number_of table columns n.name

  known_by : (n : Name) (o : Option ℕ) → place_of table n.name ≡ o → unknown_at n.at o ≡ None → IfSome o (λ c. IsAmong c columns) → IsKnown table columns n
  known_by n None e known among = absurd cc
  known_by n (Some p) e known among =
      let at = found_name table n.name p e in
      record {
        place = p;
        column = at.0;
        found = e;
        at = at.1;
        named = at.2;
        number = ap (λ o. slice_get columns (number_at columns o)) e ∙ at_number p columns among;
      }

  -- one column has one name
  pub one_name : (n m : Name) → IsKnown table columns n → IsKnown table columns m → number n ≡ number m → n.name ≡ m.name
  one_name n m a b e =
      let place : a.place ≡ b.place = same_Some a.place b.place (sym a.number ∙ ap (slice_get columns) e ∙ b.number) in
      let column : a.column ≡ b.column = same_Some a.column b.column (sym a.at ∙ ap (slice_get table) place ∙ b.at) in
      sym a.named ∙ ap (λ (c : ColumnHead). c.name) column ∙ b.named

  apart : (n m : Name) → IsKnown table columns n → IsKnown table columns m → (number n == number m) ≡ bytes_eq n.name m.name
  apart n m a b =
      one_answer (number n == number m) (bytes_eq n.name m.name)
      ((λ e. one_name n m a b (same_number (number n) (number m) e)), (λ e. number_same (number n) (number m) (ap (number_of table columns) e)))
      (bytes_eq-Decides n.name m.name)

  pub any_alike : (n : Name) (seen : List Name) → IsKnown table columns n → AllByRecursion (IsKnown table columns) seen → list_any (λ m. number n == m) (map number seen) ≡ list_any (λ m. bytes_eq n.name m.name) seen
  any_alike n [] known all = refl
  any_alike n (m ∷ seen) known all = rw (apart n m known all.0, any_alike n seen known all.1) refl

  step_alike : (b : Bool) (n : Name) (seen : List Name) → (if b then map number seen else (map number seen ++ number n ∷ [])) ≡ map number (if b then seen else seen ++ n ∷ [])
  step_alike true n seen = refl
  step_alike false n seen = sym (map-append number seen (n ∷ []))

  step_all : (P : Name → Type 0) (b : Bool) (n : Name) (seen : List Name) → AllByRecursion P seen → P n → AllByRecursion P (if b then seen else seen ++ n ∷ [])
  step_all P true n seen h p = h
  step_all P false n seen h p = all_join P seen (n ∷ []) h (p, tt)

  pub with_all : (P : Name → Type 0) (seen ns : List Name) → AllByRecursion P seen → AllByRecursion P ns → AllByRecursion P (with_names seen ns)
  with_all P seen [] h k = h
  with_all P seen (n ∷ ns) h k = with_all P (if list_any (λ m. bytes_eq n.name m.name) seen then seen else seen ++ n ∷ []) ns (step_all P (list_any (λ m. bytes_eq n.name m.name) seen) n seen h k.0) k.1

  distinct_alike : (seen ns : List Name) → AllByRecursion (IsKnown table columns) seen → AllByRecursion (IsKnown table columns) ns → distinct_after (map number seen) (map number ns) ≡ map number (with_names seen ns)
  distinct_alike seen [] h k = refl
  distinct_alike seen (n ∷ ns) h k =
      let test = list_any (λ m. bytes_eq n.name m.name) seen in
      let same : (if list_any (λ m. number n == m) (map number seen) then map number seen else (map number seen ++ number n ∷ [])) ≡ map number (if test then seen else seen ++ n ∷ []) =
      ap (λ b. if b then map number seen else (map number seen ++ number n ∷ [])) (any_alike n seen k.0 h) ∙ step_alike test n seen in
      ap (λ l. distinct_after l (map number ns)) same
      ∙ distinct_alike (if test then seen else seen ++ n ∷ []) ns (step_all (IsKnown table columns) test n seen h k.0) k.1

  -- the group columns are the numbers of the names, each once
  pub groups_are : (ns : List Name) → AllByRecursion (IsKnown table columns) ns → group_columns table columns ns ≡ map number (with_names [] ns)
  groups_are ns k = distinct_alike [] ns tt k

-- each name of a typed query is known
pub all_known : (q : tree.Query) (head : Head) (query : Query) → IsTyped q head query → AllByRecursion (IsKnown head.columns query.columns) (names_in q)
all_known q head query is =
    subst (λ (w : Query). AllByRecursion (IsKnown head.columns w.columns) (names_in q)) (sym is.same)
    (all_names (IsKnown head.columns (columns_of head.columns q)) q head is.faultless
    (λ n known among. known_by head.columns (columns_of head.columns q) n (place_of head.columns n.name) refl known among))

-- ---- values

-- the number of a row in the column of a name is shown as the value of the row there
abbrev pub IsShownIn : Query → Head → Cells → ℕ → Name → Type 0
IsShownIn query head world one n =
    IsShownAs (shown head.columns query.columns (OfColumn (number_of head.columns query.columns n.name))) (numbers_at query head world one (number_of head.columns query.columns n.name)) (row_at head world one n.name)

module _ (q : tree.Query) (head : Head) (world : Cells) (one : ℕ) (one_in : one < head.rows) where
  shown_name : (n : Name) → IsRead q head world n → IsShownIn (typed head.columns q) head world one n
  shown_name n read =
      let a = column_argument q head world n read in
      let k = number_of head.columns (columns_of head.columns q) n.name in
      shown_is (shown head.columns (columns_of head.columns q) (OfColumn k)) a.stands a.reads (numbers_at (typed head.columns q) head world one k) (row_at head world one n.name) (a.related one one_in)

  pub names_shown : (query : Query) → IsTyped q head query → HasValues head world → AllByRecursion (IsShownIn query head world one) (names_in q)
  names_shown query is values =
      subst (λ (w : Query). AllByRecursion (IsShownIn w head world one) (names_in q)) (sym is.same)
      (all_then (IsRead q head world) (IsShownIn (typed head.columns q) head world one) shown_name (names_in q) (all_read q head world is.faultless values))
