-- The columns that the names of a query stand for.
use Rattle.std.proofs.Common.{◌≡◌, ◌≢◌, ℕ, zero, suc, ◌+◌, ◌<◌, ◌==◌, cond, Bool, true, false, ℤ, List, [], ◌∷◌, length, map, get_or, Option, Some, None, IfSome, inl, inr, refl, sym, ap, ◌∙◌, arith, slice_get}
use Rattle.std.proofs.lemmas.Bool.{cases_eq}
use Rattle.std.proofs.lemmas.List.{get_or-map}
use Rattle.std.proofs.lemmas.Option.{none-some, same_Some, slice_get-get_or}
use Rattle.std.specs.Prelude.{nat_lt, slice_index_or}
use Rattle.std.specs.List.{AllByRecursion, position, position_or_len}
use Rattle.std.specs.Str.{bytes_eq}
use Rattle.daq_table.specs.Tables.{Cells, ends_at, frame_of, no_ends, row_of}
use Rattle.daq_table.specs.declared.head.ColumnHead.{ColumnHead}
use Rattle.daq_table.specs.declared.head.Kind.{Kind}
use Rattle.daq_table.specs.declared.head.Kind.TheVariants.{Int}
use Rattle.daq_table.specs.declared.table_head.Head.{Head}
use Rattle.query_model.specs.Meaning as typed
use Rattle.query_model.specs.Queries.{Query}
use Rattle.sql_text.specs.Tree as tree
use Rattle.sql_text.specs.Tree.{Name}
use Rattle.sql_typing.specs.Faults.{first_fault, first_in, name_fault, unknown_at}
use Rattle.sql_typing.specs.Names.{columns_named, dictionary_at, dictionary_of, kind_at, kind_of, mention, mentions, names_in, number_at, number_of, place_of}
use Rattle.sql_typing.specs.Typing.{typed}
use Rattle.sql_typing.proofs.Alls.{all_both, all_mapped}
use Rattle.sql_typing.proofs.Clean.{clean}
use Rattle.sql_typing.proofs.Comparisons.{below, is_below, number_same, other_number}
use Rattle.sql_typing.proofs.Distinct.{IsAmong, all_seen}
use Rattle.sql_typing.proofs.Firsts.{none_first, none_later}
use Rattle.sql_meaning.specs.Values.{Value, unless_null}
use Rattle.sql_meaning.specs.Conditions.{Row}
use Rattle.sql_meaning.specs.Rows.{row_at, value_at, value_in, value_of}
use Rattle.sql_meaning.specs.Laws.{HasValues, numbers_at}

-- the name stands for a column: numbers w of a typed row, values of a row
pub record IsNamed (table : List ColumnHead) (columns : List ℕ) (w : typed.Row) (row : Row) (n : Name) : Type 0 where
  pub column : ColumnHead
  pub kind : kind_of table n.name ≡ column.kind
  pub names : dictionary_of table n.name ≡ column.names
  pub value : row n.name ≡ value_of (Some column) (w (number_of table columns n.name))
  pub stands : (z : ℤ) → w (number_of table columns n.name) ≡ Some z → (x : Value) × (value_in column.kind column.names z ≡ Some x)

-- ---- places

found_below : (b : Bool) (k n : ℕ) → b ≡ nat_lt k n → IfSome (cond b (Some k) None) (λ i. i < n)
found_below true k n h = below k n (sym h)
found_below false k n h = tt

position_within : {A : Type 0} (test : A → Bool) (xs : List A) → IfSome (position test xs) (λ i. i < length xs)
position_within test xs = found_below (nat_lt (position_or_len test xs) (length xs)) (position_or_len test xs) (length xs) refl

pub record IsFound (c : ℕ) (cs : List ℕ) : Type 0 where
  pub within : position_or_len (λ i. i == c) cs < length cs
  pub there : get_or cs (position_or_len (λ i. i == c) cs) 0 ≡ c

pub found : (c : ℕ) (cs : List ℕ) → IsAmong c cs → IsFound c cs
found c [] h = elim h [ ]
found c (x ∷ cs) h = elim (cases_eq x c) [
  | inl e ↦ record { within = rw (number_same x c e) (omega arith); there = rw (number_same x c e) e }
  | inr other ↦
      let rest = found c cs (later x c cs other h) in
      let next : 1 + position_or_len (λ i. i == c) cs ≡ suc (position_or_len (λ i. i == c) cs) = omega arith in
      let within : position_or_len (λ i. i == c) cs < length cs = rest.within in
      record { within = rw (other_number x c other) (omega (arith, within)); there = rw (other_number x c other, next) rest.there }
] where
  later : (x c : ℕ) (cs : List ℕ) → x ≢ c → IsAmong c (x ∷ cs) → IsAmong c cs
  later x c cs other (inl e) = absurd (other e)
  later x c cs other (inr h) = h

pub number_is : (c : ℕ) (cs : List ℕ) → IsFound c cs → number_at cs (Some c) ≡ position_or_len (λ i. i == c) cs
number_is c cs h = rw (is_below (position_or_len (λ i. i == c) cs) (length cs) h.within) refl

pub record IsThere {A : Type 0} (xs : List A) (c : ℕ) : Type 0 where
  pub element : A
  pub get : slice_get xs c ≡ Some element

pub there : {A : Type 0} (xs : List A) (c : ℕ) → c < length xs → IsThere xs c
there [] c h = absurd (omega arith)
there (x ∷ xs) zero h = record { element = x; get = refl }
there (x ∷ xs) (suc c) h = let rest = there xs c (omega arith) in record { element = rest.element; get = rest.get }

pub mapped : {A B : Type 0} (f : A → B) (xs : List A) (c : ℕ) (x : A) (d : B) → slice_get xs c ≡ Some x → get_or (map f xs) c d ≡ f x
mapped f [] c x d e = absurd (none-some x e)
mapped f (y ∷ xs) zero x d e = ap f (same_Some y x e)
mapped f (y ∷ xs) (suc c) x d e = mapped f xs c x d e

-- the name stands for a column
pub record IsColumn (table : List ColumnHead) (columns : List ℕ) (n : Name) : Type 0 where
  pub column : ColumnHead
  pub kind : kind_of table n.name ≡ column.kind
  pub names : dictionary_of table n.name ≡ column.names
  pub at : unless_null (slice_get table) (slice_get columns (number_of table columns n.name)) ≡ Some column

column_at : (table : List ColumnHead) (columns : List ℕ) (n : Name) (c : ℕ) → place_of table n.name ≡ Some c → c < length table → IsAmong c columns → IsColumn table columns n
column_at table columns n c place c_in among =
    let at = there table c c_in in
    let is = found c columns among in
    let number : number_of table columns n.name ≡ position_or_len (λ i. i == c) columns = ap (number_at columns) place ∙ number_is c columns is in
    record {
      column = at.element;
      kind = ap (kind_at table) place ∙ mapped (λ h. h.kind) table c at.element Int at.get;
      names = ap (dictionary_at table) place ∙ mapped (λ h. h.names) table c at.element [] at.get;
      at = ap (λ k. unless_null (slice_get table) (slice_get columns k)) number
          ∙ ap (unless_null (slice_get table)) (slice_get-get_or columns (position_or_len (λ i. i == c) columns) 0 is.within ∙ ap Some is.there) ∙ at.get;
    }

column_by : (table : List ColumnHead) (columns : List ℕ) (n : Name) (o : Option ℕ) → place_of table n.name ≡ o → unknown_at n.at o ≡ None → IfSome o (λ c. c < length table) → IfSome o (λ c. IsAmong c columns) → IsColumn table columns n
column_by table columns n None place known c_in among = absurd cc
column_by table columns n (Some c) place known c_in among = column_at table columns n c place c_in among

-- ---- numbers of the columns of a query

module _ (head : Head) (cells : Cells) (r : ℕ) (query : Query) where
  -- the query's column has the numbers of the table's
  numbers_are : (k c : ℕ) → k < length query.columns → get_or query.columns k 0 ≡ c → numbers_at query head cells r k ≡ row_of (frame_of head) cells r c
  numbers_are k c within is =
      rw (get_or-map (ends_at (frame_of head)) query.columns k 0 no_ends within, get_or-map (λ i. slice_index_or cells i []) query.columns k 0 [] within, is) refl

  some_value : (kind : Kind) (names : List (List ℕ)) (z : ℤ) (o : Option Value) → value_in kind names z ≡ o → (o ≡ None → ⊥) → (x : Value) × (value_in kind names z ≡ Some x)
  some_value kind names z None e some = absurd (some refl)
  some_value kind names z (Some x) e some = (x, e)

  named_at : (n : Name) (c : ℕ) → HasValues head cells → r < head.rows → place_of head.columns n.name ≡ Some c → c < length head.columns → IsAmong c query.columns
      → IsNamed head.columns query.columns (numbers_at query head cells r) (row_at head cells r) n
  named_at n c values r_in place c_in among =
      let at = there head.columns c c_in in
      let is = found c query.columns among in
      let number : number_of head.columns query.columns n.name ≡ position_or_len (λ i. i == c) query.columns = ap (number_at query.columns) place ∙ number_is c query.columns is in
      let numbers : numbers_at query head cells r (number_of head.columns query.columns n.name) ≡ row_of (frame_of head) cells r c =
      ap (numbers_at query head cells r) number ∙ numbers_are (position_or_len (λ i. i == c) query.columns) c is.within is.there in
      let value : value_at head cells r c ≡ value_of (Some at.element) (row_of (frame_of head) cells r c) = ap (λ o. value_of o (row_of (frame_of head) cells r c)) at.get in
      record {
        column = at.element;
        kind = ap (kind_at head.columns) place ∙ mapped (λ h. h.kind) head.columns c at.element Int at.get;
        names = ap (dictionary_at head.columns) place ∙ mapped (λ h. h.names) head.columns c at.element [] at.get;
        value = ap (unless_null (value_at head cells r)) place ∙ value ∙ ap (value_of (Some at.element)) (sym numbers);
        stands = λ z e.
            (let same : row_of (frame_of head) cells r c ≡ Some z = sym numbers ∙ e in
            some_value at.element.kind at.element.names z (value_in at.element.kind at.element.names z) refl
            (λ no_value. none-some z (sym (values c r c_in r_in (value ∙ ap (value_of (Some at.element)) same ∙ no_value)) ∙ same)));
      }

  named_by : (n : Name) (o : Option ℕ) → HasValues head cells → r < head.rows → place_of head.columns n.name ≡ o → unknown_at n.at o ≡ None → IfSome o (λ c. c < length head.columns) → IfSome o (λ c. IsAmong c query.columns)
      → IsNamed head.columns query.columns (numbers_at query head cells r) (row_at head cells r) n
  named_by n None values r_in place known c_in among = absurd cc
  named_by n (Some c) values r_in place known c_in among = named_at n c values r_in place c_in among

all_known : (table : List ColumnHead) (ns : List Name) → first_in (name_fault table) ns ≡ None → AllByRecursion (λ n. name_fault table n ≡ None) ns
all_known table [] h = tt
all_known table (n ∷ ns) h = (none_first _ _ h, all_known table ns (none_later _ _ h))

-- what holds of each name that is known and numbered holds of all names of a query without faults
pub all_names : (P : Name → Type 0) (q : tree.Query) (head : Head) → first_fault head.columns q ≡ None
    → ((n : Name) → name_fault head.columns n ≡ None → IfSome (place_of head.columns n.name) (λ c. IsAmong c (columns_named head.columns (names_in q))) → P n) → AllByRecursion P (names_in q)
all_names P q head good each =
    all_both (λ n. name_fault head.columns n ≡ None) (λ n. IfSome (place_of head.columns n.name) (λ c. IsAmong c (columns_named head.columns (names_in q)))) P each
    (names_in q) (all_known head.columns (names_in q) (clean head.columns q good).known)
    (all_mapped (λ m. IfSome m.column (λ c. IsAmong c (columns_named head.columns (names_in q)))) (mention head.columns) (names_in q) (all_seen [] (mentions head.columns (names_in q))))

-- the column of a name, and what it holds at each row
pub record IsRead (q : tree.Query) (head : Head) (cells : Cells) (n : Name) : Type 0 where
  pub column : IsColumn head.columns (typed head.columns q).columns n
  pub at_row : (r : ℕ) → r < head.rows → IsNamed head.columns (typed head.columns q).columns (numbers_at (typed head.columns q) head cells r) (row_at head cells r) n

-- each name of a query without faults stands for a column
pub all_read : (q : tree.Query) (head : Head) (cells : Cells) → first_fault head.columns q ≡ None → HasValues head cells → AllByRecursion (IsRead q head cells) (names_in q)
all_read q head cells good values =
    all_names (IsRead q head cells) q head good
    (λ n known among. (let within = position_within (λ column. bytes_eq column.name n.name) head.columns in
    record {
      column = column_by head.columns (typed head.columns q).columns n (place_of head.columns n.name) refl known within among;
      at_row = λ r r_in. named_by head cells r (typed head.columns q) n (place_of head.columns n.name) values r_in refl known within among;
    }))
