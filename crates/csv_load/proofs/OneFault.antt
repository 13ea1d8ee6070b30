-- The records of a text are the same however far it is read, so that the first fault is the only one.
use Rattle.std.proofs.Common.{◌≡◌, ◌≢◌, ℕ, zero, suc, ◌*◌, ◌<◌, ◌≤◌, Some, None, List, [], ◌∷◌, ◌++◌, slice_get, get_or, take, length, refl, sym, ap, subst, inl, inr, ◌⊎◌, ◌∙◌, arith, length-append}
use Rattle.std.proofs.Math.Seq.{get_or-append_seam}
use Rattle.std.proofs.lemmas.List.{get_or-take, get_or_append_left, length-take-le, same_lists}
use Rattle.std.proofs.lemmas.Option.{get_or_from_slice_get, slice_get_within}
use Rattle.std.specs.Option.{unwrap_or}
use Rattle.csv.specs.Machine.{Read, next_record}
use Rattle.csv.specs.Reading.{Reached, default_config}
use Rattle.csv.specs.declared.parser.Config.{Config}
use Rattle.csv.specs.declared.parser.State.{State}
use Rattle.csv.specs.declared.parser.State.TheVariants as st
use Rattle.daq_table.specs.Schemas.{columns_in, item_names}
use Rattle.daq_table.specs.Tables.{Contents}
use Rattle.daq_table.specs.declared.schema_column.SchemaColumn.{SchemaColumn}
use Rattle.daq_table.specs.declared.schema_item.SchemaItem.{SchemaItem}
use Rattle.csv_load.specs.Columns.{IsValue, column_texts, dictionary, present}
use Rattle.csv_load.specs.Faults.{HasBadCell, HasBadField, HasFaultyRow, HasOtherHeader, IsFirstDifference, PassesFieldNames, PassesNames, ReachesCell, Refuses, ShowsFault}
use Rattle.csv_load.specs.Kept.{kept_fields, kept_rows, place_of}
use Rattle.csv_load.specs.Laws.{HasOneFault, IsFaultless}
use Rattle.csv_load.specs.Records.{AreRecordsOf, Begins, Fields, without_marks}
use Rattle.csv_load.specs.Rows.{HasRoom, IsGoodCell}
use Rattle.csv_load.specs.TableOf.{IsTableOf}
use Rattle.csv_load.specs.declared.fault.TableFault.{TableFault}
use Rattle.csv_load.specs.declared.fault.TableFault.TheVariants.{NoHeader, HeaderDiffers, TooManyRows, TooManyCells, UnequalLength, BadCell, TooManyNames, NoMemory}
use Rattle.csv_load.specs.declared.limits.Limits.{Limits}
use Rattle.csv_load.proofs.KeptRows.{GoodRow, GoodRows, room_of_kept, row_there}

same_some : (a b : Read) → Some a ≡ Some b → a ≡ b
same_some a b e = ap (λ o. unwrap_or o a) e

pub agree : (cfg : Config) (s : State) (xs : List ℕ) (us vs : List Fields) (s1 s2 : State) (y1 y2 : List ℕ) → Reached cfg s xs us s1 y1 → Reached cfg s xs vs s2 y2
    → (k : ℕ) (d : Fields) → k < length us → k < length vs → get_or us k d ≡ get_or vs k d
unfolding Reached
agree cfg s xs [] vs s1 s2 y1 y2 h g k d lt lu = absurd (omega (arith, lt))
agree cfg s xs (a ∷ us) [] s1 s2 y1 y2 h g k d lt lu = absurd (omega (arith, lu))
agree cfg s xs (a ∷ us) (b ∷ vs) s1 s2 y1 y2 h g zero d lt lu = h.2 ∙ ap (λ (p : Read). p.0) (same_some h.0 g.0 (sym h.1 ∙ g.1)) ∙ sym g.2
agree cfg s xs (a ∷ us) (b ∷ vs) s1 s2 y1 y2 h g (suc k) d lt lu =
    let same : h.0 ≡ g.0 = same_some h.0 g.0 (sym h.1 ∙ g.1) in
    agree cfg h.0.1 h.0.2 us vs s1 s2 y1 y2 h.3 (subst (λ (p : Read). Reached cfg p.1 p.2 vs s2 y2) (sym same) g.3) k d (omega (arith, lt)) (omega (arith, lu))

none_is : (a : Read) (o : Read) → Some a ≡ None → ⊥
none_is a o e = absurd cc

pub ended : (cfg : Config) (s : State) (xs : List ℕ) (us vs : List Fields) (s1 s2 : State) (y1 y2 : List ℕ) → Reached cfg s xs us s1 y1 → next_record cfg s1 [] [] y1 ≡ None → Reached cfg s xs vs s2 y2
    → length vs ≤ length us
unfolding Reached
ended cfg s xs us [] s1 s2 y1 y2 h e g = omega arith
ended cfg s xs [] (b ∷ vs) s1 s2 y1 y2 h e g =
    let none : next_record cfg s [] [] xs ≡ None = rw (h.0, h.1) e in
    absurd (none_is g.0 g.0 (sym g.1 ∙ none))
ended cfg s xs (a ∷ us) (b ∷ vs) s1 s2 y1 y2 h e g =
    let same : h.0 ≡ g.0 = same_some h.0 g.0 (sym h.1 ∙ g.1) in
    let rest = ended cfg h.0.1 h.0.2 us vs s1 s2 y1 y2 h.3 e (subst (λ (p : Read). Reached cfg p.1 p.2 vs s2 y2) (sym same) g.3) in
    omega (arith, rest)

apart : (a b : ℕ) → a < b → b ≤ a → ⊥
apart a b lt le = omega arith

-- a good row shows no fault
good_shows_none : (items : List SchemaItem) (limits : Limits) (rows : List Fields) (next : Fields) (fault : TableFault) → GoodRow items limits rows next → ShowsFault items limits rows next fault → ⊥
good_shows_none items limits rows next NoHeader g h = h
good_shows_none items limits rows next (HeaderDiffers place) g h = h
good_shows_none items limits rows next (TooManyRows limit) g h = apart limits.rows (suc (length rows)) h.many (room_of_kept items limits rows g.good.room).row
good_shows_none items limits rows next (TooManyCells count) g h =
    apart limits.cells (suc (length rows) * length (columns_in items)) (subst (λ (n : ℕ). limits.cells < n) h.count_is h.many) (room_of_kept items limits rows g.good.room).cells
good_shows_none items limits rows next (UnequalLength entry got want) g h = h.differ (h.got_is ∙ g.full ∙ sym h.want_is)
good_shows_none items limits rows next (BadCell entry place) g h =
    let cell = h.bad.reached in
    h.bad.bad (g.good.cells h.column cell.column (slice_get_within (columns_in items) h.column cell.column cell.column_is) cell.column_is h.bad.given).value
good_shows_none items limits rows next (TooManyNames place) g h =
    let cell = h.passed.reached in
    apart limits.names (length (dictionary cell.column.kind (present cell.column.nullable (column_texts h.column (kept_rows items rows)) ++ get_or (kept_fields items next) h.column [] ∷ []))) h.passed.many
    (g.good.cells h.column cell.column (slice_get_within (columns_in items) h.column cell.column cell.column_is) cell.column_is h.passed.given).few
good_shows_none items limits rows next NoMemory g h = h

order : (a b : ℕ) → (a < b) ⊎ ((a ≡ b) ⊎ (b < a))
order a b = grind arith

good_at : (columns : List SchemaColumn) (limits : Limits) (rows : List Fields) (next : Fields) (p q : ℕ) (c : SchemaColumn) → ReachesCell columns limits rows next q → p < q → slice_get columns p ≡ Some c
    → IsGoodCell c limits.names (column_texts p rows) (get_or next p [])
good_at columns limits rows next p q c r lt e = r.before p c lt e

bad_bad : (columns : List SchemaColumn) (limits : Limits) (rows : List Fields) (next : Fields) (n m p q : ℕ) → HasBadCell columns limits rows next n p → HasBadCell columns limits rows next m q → p ≡ q
bad_bad columns limits rows next n m p q h k =
    elim (order p q) [
      | inl lt ↦ absurd (h.bad (good_at columns limits rows next p q h.reached.column k.reached lt h.reached.column_is h.given).value)
      | inr other ↦ elim other [ inl same ↦ same | inr gt ↦ absurd (k.bad (good_at columns limits rows next q p k.reached.column h.reached gt k.reached.column_is k.given).value) ]
    ]

column_same : (columns : List SchemaColumn) (p : ℕ) (c d : SchemaColumn) → slice_get columns p ≡ Some c → slice_get columns p ≡ Some d → c ≡ d
column_same columns p c d e f = sym (get_or_from_slice_get columns p c c e) ∙ get_or_from_slice_get columns p d c f

bad_many : (columns : List SchemaColumn) (limits : Limits) (rows : List Fields) (next : Fields) (n p q : ℕ) → HasBadCell columns limits rows next n p → PassesNames columns limits rows next q → ⊥
bad_many columns limits rows next n p q h k =
    elim (order p q) [
      | inl lt ↦ h.bad (good_at columns limits rows next p q h.reached.column k.reached lt h.reached.column_is h.given).value
      | inr other ↦ elim other [
        | inl same ↦
            let here = subst (λ (x : ℕ). slice_get columns x ≡ Some h.reached.column) same h.reached.column_is in
            let kind = column_same columns q k.reached.column h.reached.column k.reached.column_is here in
            h.bad (subst (λ (x : ℕ). IsValue h.reached.column.kind (get_or next x [])) (sym same) (subst (λ (c : SchemaColumn). IsValue c.kind (get_or next q [])) kind k.value))
        | inr gt ↦
            apart limits.names (length (dictionary k.reached.column.kind (present k.reached.column.nullable (column_texts q rows) ++ get_or next q [] ∷ []))) k.many (good_at columns limits rows next q p k.reached.column h.reached gt k.reached.column_is k.given).few
      ]
    ]

many_many : (columns : List SchemaColumn) (limits : Limits) (rows : List Fields) (next : Fields) (p q : ℕ) → PassesNames columns limits rows next p → PassesNames columns limits rows next q → p ≡ q
many_many columns limits rows next p q h k =
    elim (order p q) [
      | inl lt ↦ absurd (apart limits.names (length (dictionary h.reached.column.kind (present h.reached.column.nullable (column_texts p rows) ++ get_or next p [] ∷ []))) h.many (good_at columns limits rows next p q h.reached.column k.reached lt h.reached.column_is h.given).few)
      | inr other ↦ elim other [
        | inl same ↦ same
        | inr gt ↦ absurd (apart limits.names (length (dictionary k.reached.column.kind (present k.reached.column.nullable (column_texts q rows) ++ get_or next q [] ∷ []))) k.many (good_at columns limits rows next q p k.reached.column h.reached gt k.reached.column_is k.given).few)
      ]
    ]

roomy : (columns : List SchemaColumn) (limits : Limits) (rows : List Fields) (count : ℕ) → HasRoom columns limits rows → count ≡ suc (length rows) * length columns → limits.cells < count → ⊥
roomy columns limits rows count r e lt = apart limits.cells (suc (length rows) * length columns) (subst (λ (n : ℕ). limits.cells < n) e lt) r.cells

module _ (items : List SchemaItem) (limits : Limits) (rows : List Fields) (next : Fields) where
  -- what both a bad cell and one that brings a name too many say
  bad_room : (entry place : ℕ) → HasBadField items limits rows next entry place → HasRoom (columns_in items) limits rows
  bad_room entry place h = room_of_kept items limits rows h.bad.reached.room

  names_room : (place : ℕ) → PassesFieldNames items limits rows next place → HasRoom (columns_in items) limits rows
  names_room place h = room_of_kept items limits rows h.passed.reached.room

  same_bad : (n m p q : ℕ) → HasBadField items limits rows next n p → HasBadField items limits rows next m q → BadCell n p ≡ BadCell m q
  same_bad n m p q h k =
      let column = bad_bad (columns_in items) limits (kept_rows items rows) (kept_fields items next) n m h.column k.column h.bad k.bad in
      let place : p ≡ q = h.place_is ∙ ap (place_of items) column ∙ sym k.place_is in
      let entry : n ≡ m = h.bad.entry_is ∙ sym k.bad.entry_is in
      rw (entry, place) refl

  same_names : (p q : ℕ) → PassesFieldNames items limits rows next p → PassesFieldNames items limits rows next q → p ≡ q
  same_names p q h k =
      h.place_is ∙ ap (place_of items) (many_many (columns_in items) limits (kept_rows items rows) (kept_fields items next) h.column k.column h.passed k.passed) ∙ sym k.place_is

  bad_or_many : (n p q : ℕ) → HasBadField items limits rows next n p → PassesFieldNames items limits rows next q → ⊥
  bad_or_many n p q h k = bad_many (columns_in items) limits (kept_rows items rows) (kept_fields items next) n h.column k.column h.bad k.passed

  one_shown : (one other : TableFault) → ShowsFault items limits rows next one → ShowsFault items limits rows next other → one ≡ other
  one_shown NoHeader other h k = absurd h
  one_shown (HeaderDiffers place) other h k = absurd h
  one_shown NoMemory other h k = absurd h
  one_shown (TooManyRows l) NoHeader h k = absurd k
  one_shown (TooManyRows l) (HeaderDiffers place) h k = absurd k
  one_shown (TooManyRows l) (TooManyRows m) h k = ap TooManyRows (h.limit_is ∙ sym k.limit_is)
  one_shown (TooManyRows l) (TooManyCells c) h k = absurd (apart limits.rows (suc (length rows)) h.many k.row)
  one_shown (TooManyRows l) (UnequalLength m g w) h k = absurd (apart limits.rows (suc (length rows)) h.many k.room.row)
  one_shown (TooManyRows l) (BadCell m q) h k = absurd (apart limits.rows (suc (length rows)) h.many (bad_room m q k).row)
  one_shown (TooManyRows l) (TooManyNames q) h k = absurd (apart limits.rows (suc (length rows)) h.many (names_room q k).row)
  one_shown (TooManyRows l) NoMemory h k = absurd k
  one_shown (TooManyCells c) NoHeader h k = absurd k
  one_shown (TooManyCells c) (HeaderDiffers place) h k = absurd k
  one_shown (TooManyCells c) (TooManyRows m) h k = absurd (apart limits.rows (suc (length rows)) k.many h.row)
  one_shown (TooManyCells c) (TooManyCells m) h k = ap TooManyCells (h.count_is ∙ sym k.count_is)
  one_shown (TooManyCells c) (UnequalLength m g w) h k = absurd (roomy (columns_in items) limits rows c k.room h.count_is h.many)
  one_shown (TooManyCells c) (BadCell m q) h k = absurd (roomy (columns_in items) limits rows c (bad_room m q k) h.count_is h.many)
  one_shown (TooManyCells c) (TooManyNames q) h k = absurd (roomy (columns_in items) limits rows c (names_room q k) h.count_is h.many)
  one_shown (TooManyCells c) NoMemory h k = absurd k
  one_shown (UnequalLength n got want) NoHeader h k = absurd k
  one_shown (UnequalLength n got want) (HeaderDiffers place) h k = absurd k
  one_shown (UnequalLength n got want) (TooManyRows m) h k = absurd (apart limits.rows (suc (length rows)) k.many h.room.row)
  one_shown (UnequalLength n got want) (TooManyCells c) h k = absurd (roomy (columns_in items) limits rows c h.room k.count_is k.many)
  one_shown (UnequalLength n got want) (UnequalLength m g w) h k = rw (h.entry_is, k.entry_is, h.got_is, k.got_is, h.want_is, k.want_is) refl
  one_shown (UnequalLength n got want) (BadCell m q) h k = absurd (h.differ (h.got_is ∙ k.full ∙ sym h.want_is))
  one_shown (UnequalLength n got want) (TooManyNames q) h k = absurd (h.differ (h.got_is ∙ k.full ∙ sym h.want_is))
  one_shown (UnequalLength n got want) NoMemory h k = absurd k
  one_shown (BadCell n p) NoHeader h k = absurd k
  one_shown (BadCell n p) (HeaderDiffers place) h k = absurd k
  one_shown (BadCell n p) (TooManyRows m) h k = absurd (apart limits.rows (suc (length rows)) k.many (bad_room n p h).row)
  one_shown (BadCell n p) (TooManyCells c) h k = absurd (roomy (columns_in items) limits rows c (bad_room n p h) k.count_is k.many)
  one_shown (BadCell n p) (UnequalLength m g w) h k = absurd (k.differ (k.got_is ∙ h.full ∙ sym k.want_is))
  one_shown (BadCell n p) (BadCell m q) h k = same_bad n m p q h k
  one_shown (BadCell n p) (TooManyNames q) h k = absurd (bad_or_many n p q h k)
  one_shown (BadCell n p) NoMemory h k = absurd k
  one_shown (TooManyNames p) NoHeader h k = absurd k
  one_shown (TooManyNames p) (HeaderDiffers place) h k = absurd k
  one_shown (TooManyNames p) (TooManyRows m) h k = absurd (apart limits.rows (suc (length rows)) k.many (names_room p h).row)
  one_shown (TooManyNames p) (TooManyCells c) h k = absurd (roomy (columns_in items) limits rows c (names_room p h) k.count_is k.many)
  one_shown (TooManyNames p) (UnequalLength m g w) h k = absurd (k.differ (k.got_is ∙ h.full ∙ sym k.want_is))
  one_shown (TooManyNames p) (BadCell m q) h k = absurd (bad_or_many m q p k h)
  one_shown (TooManyNames p) (TooManyNames q) h k = ap TooManyNames (same_names p q h k)
  one_shown (TooManyNames p) NoMemory h k = absurd k

-- the same of the rows behind a header
rows_agree : (bytes : List ℕ) (header : Fields) (us vs : List Fields) → Begins bytes (header ∷ us) → Begins bytes (header ∷ vs) → (k : ℕ) (d : Fields) → k < length us → k < length vs → get_or us k d ≡ get_or vs k d
rows_agree bytes header us vs h g k d lt lu =
    agree default_config st.StartRecord (without_marks bytes) (header ∷ us) (header ∷ vs) h.state g.state h.rest g.rest h.reached g.reached (suc k) d (omega (arith, lt)) (omega (arith, lu))

overlap : (rows others : List Fields) (next : Fields) → ((k : ℕ) (d : Fields) → k < length (rows ++ next ∷ []) → k < length others → get_or (rows ++ next ∷ []) k d ≡ get_or others k d)
    → length rows < length others → (take (length rows) others ≡ rows) × (get_or others (length rows) [] ≡ next)
overlap rows others next same lt =
    let n = length rows in
    let long = length-append rows (next ∷ []) in (
      same_lists (take n others) rows (length-take-le n others (omega (arith, lt))) (λ k d at.
          let before : k < n = omega (arith, at, length-take-le n others (omega (arith, lt))) in
          get_or-take n others k d before ∙ sym (same k d (omega (arith, before, long)) (omega (arith, before, lt))) ∙ get_or_append_left rows (next ∷ []) d k before),
      sym (same n [] (omega (arith, long)) lt) ∙ get_or-append_seam rows next [] [],
    )

-- rows that go on past the one with the fault are not all good
passed : (items : List SchemaItem) (limits : Limits) (rows others : List Fields) (next : Fields) (fault : TableFault) → ((k : ℕ) (d : Fields) → k < length (rows ++ next ∷ []) → k < length others → get_or (rows ++ next ∷ []) k d ≡ get_or others k d)
    → length rows < length others → GoodRows items limits others → ShowsFault items limits rows next fault → ⊥
passed items limits rows others next fault same lt good shows =
    let o = overlap rows others next same lt in
    let row = subst (λ (xs : List Fields). GoodRow items limits xs (get_or others (length rows) [])) o.0 (row_there items limits others (length rows) good lt) in
    good_shows_none items limits rows next fault (subst (λ (r : Fields). GoodRow items limits rows r) o.1 row) shows

later : (bytes : List ℕ) (items : List SchemaItem) (limits : Limits) (one other : TableFault) (h : HasFaultyRow bytes items limits one) (k : HasFaultyRow bytes items limits other) → length h.rows < length k.rows → ⊥
later bytes items limits one other h k lt =
    passed items limits h.rows k.rows h.next one
    (λ i d at below.
    rows_agree bytes (item_names items) (h.rows ++ h.next ∷ []) (k.rows ++ k.next ∷ []) h.begins k.begins i d at (omega (arith, below, length-append k.rows (k.next ∷ [])))
    ∙ get_or_append_left k.rows (k.next ∷ []) d i below)
    lt (record { full = k.full; good = k.good }) h.shows

one_row : (bytes : List ℕ) (items : List SchemaItem) (limits : Limits) (one other : TableFault) → HasFaultyRow bytes items limits one → HasFaultyRow bytes items limits other → one ≡ other
one_row bytes items limits one other h k =
    elim (order (length h.rows) (length k.rows)) [
      | inl lt ↦ absurd (later bytes items limits one other h k lt)
      | inr rest ↦ elim rest [
        | inl same ↦
            let both = rows_agree bytes (item_names items) (h.rows ++ h.next ∷ []) (k.rows ++ k.next ∷ []) h.begins k.begins in
            let long = length-append h.rows (h.next ∷ []) in
            let wide = length-append k.rows (k.next ∷ []) in
            let rows : h.rows ≡ k.rows = same_lists h.rows k.rows same (λ i d lt.
            sym (get_or_append_left h.rows (h.next ∷ []) d i lt) ∙ both i d (omega (arith, lt, long)) (omega (arith, lt, same, wide)) ∙ get_or_append_left k.rows (k.next ∷ []) d i (omega (arith, lt, same))) in
            let next : h.next ≡ k.next = sym (get_or-append_seam h.rows h.next [] []) ∙ both (length h.rows) [] (omega (arith, long)) (omega (arith, same, wide))
            ∙ ap (λ (n : ℕ). get_or (k.rows ++ k.next ∷ []) n []) same ∙ get_or-append_seam k.rows k.next [] [] in
            one_shown items limits k.rows k.next one other (subst (λ (r : Fields). ShowsFault items limits k.rows r one) next (subst (λ (xs : List Fields). ShowsFault items limits xs h.next one) rows h.shows)) k.shows
        | inr gt ↦ absurd (later bytes items limits other one k h gt)
      ]
    ]

no_header : (bytes : List ℕ) (header : Fields) (rows : List Fields) → AreRecordsOf bytes [] → Begins bytes (header ∷ rows) → ⊥
no_header bytes header rows none b =
    let few = ended default_config st.StartRecord (without_marks bytes) [] (header ∷ rows) none.0 b.state none.1 b.rest none.2 none.3 b.reached in
    apart 0 (suc (length rows)) (omega arith) few

same_header : (bytes : List ℕ) (a b : Fields) (us vs : List Fields) → Begins bytes (a ∷ us) → Begins bytes (b ∷ vs) → a ≡ b
same_header bytes a b us vs h g = agree default_config st.StartRecord (without_marks bytes) (a ∷ us) (b ∷ vs) h.state g.state h.rest g.rest h.reached g.reached 0 a (omega arith) (omega arith)

not_names : (bytes : List ℕ) (items : List SchemaItem) (place : ℕ) (rows : List Fields) → HasOtherHeader bytes items place → Begins bytes (item_names items ∷ rows) → ⊥
not_names bytes items place rows h b =
    h.place.differ (ap (λ (xs : Fields). slice_get xs place) (same_header bytes h.header (item_names items) [] rows h.begins b))

slice_get-take : (n : ℕ) (xs : List (List ℕ)) (i : ℕ) → i < n → slice_get (take n xs) i ≡ slice_get xs i
slice_get-take zero xs i lt = absurd (omega (arith, lt))
slice_get-take (suc n) [] i lt = refl
slice_get-take (suc n) (x ∷ xs) zero lt = refl
slice_get-take (suc n) (x ∷ xs) (suc i) lt = slice_get-take n xs i (omega (arith, lt))

same_below : (xs ys : List (List ℕ)) (n i : ℕ) → take n xs ≡ take n ys → i < n → slice_get xs i ≡ slice_get ys i
same_below xs ys n i e lt = sym (slice_get-take n xs i lt) ∙ ap (λ (zs : List (List ℕ)). slice_get zs i) e ∙ slice_get-take n ys i lt

one_header : (bytes : List ℕ) (items : List SchemaItem) (p q : ℕ) → HasOtherHeader bytes items p → HasOtherHeader bytes items q → p ≡ q
one_header bytes items p q h k =
    let same = same_header bytes h.header k.header [] [] h.begins k.begins in
    let other = subst (λ (xs : Fields). IsFirstDifference xs (item_names items) p) same h.place in
    elim (order p q) [
      | inl lt ↦ absurd (other.differ (same_below k.header (item_names items) q p k.place.same lt))
      | inr rest ↦ elim rest [ inl eq ↦ eq | inr gt ↦ absurd (k.place.differ (same_below k.header (item_names items) p q other.same gt)) ]
    ]

-- a fault but want of memory is that of no record, of the header, or of a row
abbrev Told : List ℕ → List SchemaItem → Limits → TableFault → Type 0
Told bytes items limits fault =
    ((fault ≡ NoHeader) × AreRecordsOf bytes []) ⊎ (((place : ℕ) × (fault ≡ HeaderDiffers place) × HasOtherHeader bytes items place) ⊎ HasFaultyRow bytes items limits fault)

told : (bytes : List ℕ) (items : List SchemaItem) (limits : Limits) (fault : TableFault) → fault ≢ NoMemory → Refuses bytes items limits fault → Told bytes items limits fault
told bytes items limits NoHeader some h = inl (refl, h)
told bytes items limits (HeaderDiffers place) some h = inr (inl (place, refl, h))
told bytes items limits (TooManyRows limit) some h = inr (inr h)
told bytes items limits (TooManyCells count) some h = inr (inr h)
told bytes items limits (UnequalLength entry got want) some h = inr (inr h)
told bytes items limits (BadCell entry place) some h = inr (inr h)
told bytes items limits (TooManyNames place) some h = inr (inr h)
told bytes items limits NoMemory some h = absurd (some refl)

one_told : (bytes : List ℕ) (items : List SchemaItem) (limits : Limits) (one other : TableFault) → Told bytes items limits one → Told bytes items limits other → one ≡ other
one_told bytes items limits one other (inl h) (inl k) = h.0 ∙ sym k.0
one_told bytes items limits one other (inl h) (inr (inl k)) = absurd (no_header bytes k.2.header [] h.1 k.2.begins)
one_told bytes items limits one other (inl h) (inr (inr k)) = absurd (no_header bytes (item_names items) (k.rows ++ k.next ∷ []) h.1 k.begins)
one_told bytes items limits one other (inr (inl h)) (inl k) = absurd (no_header bytes h.2.header [] k.1 h.2.begins)
one_told bytes items limits one other (inr (inl h)) (inr (inl k)) = h.1 ∙ ap HeaderDiffers (one_header bytes items h.0 k.0 h.2 k.2) ∙ sym k.1
one_told bytes items limits one other (inr (inl h)) (inr (inr k)) = absurd (not_names bytes items h.0 (k.rows ++ k.next ∷ []) h.2 k.begins)
one_told bytes items limits one other (inr (inr h)) (inl k) = absurd (no_header bytes (item_names items) (h.rows ++ h.next ∷ []) k.1 h.begins)
one_told bytes items limits one other (inr (inr h)) (inr (inl k)) = absurd (not_names bytes items k.0 (h.rows ++ h.next ∷ []) k.2 h.begins)
one_told bytes items limits one other (inr (inr h)) (inr (inr k)) = one_row bytes items limits one other h k

pub one_fault : HasOneFault
one_fault bytes items limits one other some known h k = one_told bytes items limits one other (told bytes items limits one some h) (told bytes items limits other known k)

-- where a row shows a fault, the rows are not all
fault_within : (bytes : List ℕ) (items : List SchemaItem) (limits : Limits) (fault : TableFault) (table : Contents) → IsTableOf bytes items limits table → HasFaultyRow bytes items limits fault → ⊥
fault_within bytes items limits fault table t h =
    let all : Begins bytes (item_names items ∷ t.rows) = record { state = t.records.0; rest = t.records.1; reached = t.records.2 } in
    let many = ended default_config st.StartRecord (without_marks bytes) (item_names items ∷ t.rows) (item_names items ∷ (h.rows ++ h.next ∷ [])) t.records.0 h.begins.state t.records.1 h.begins.rest t.records.2 t.records.3 h.begins.reached in
    passed items limits h.rows t.rows h.next fault (rows_agree bytes (item_names items) (h.rows ++ h.next ∷ []) t.rows h.begins all) (omega (arith, many, length-append h.rows (h.next ∷ []))) (record { full = t.full; good = t.good }) h.shows

faultless_told : (bytes : List ℕ) (items : List SchemaItem) (limits : Limits) (fault : TableFault) (table : Contents) → IsTableOf bytes items limits table → Told bytes items limits fault → ⊥
faultless_told bytes items limits fault table t (inl h) = no_header bytes (item_names items) t.rows h.1 (record { state = t.records.0; rest = t.records.1; reached = t.records.2 })
faultless_told bytes items limits fault table t (inr (inl h)) = not_names bytes items h.0 t.rows h.2 (record { state = t.records.0; rest = t.records.1; reached = t.records.2 })
faultless_told bytes items limits fault table t (inr (inr h)) = fault_within bytes items limits fault table t h

pub faultless : IsFaultless
faultless bytes items limits fault table some t h = faultless_told bytes items limits fault table t (told bytes items limits fault some h)
