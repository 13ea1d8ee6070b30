-- What holds as the columns of a table are read, and where that stops.
use Rattle.std.proofs.Common.{◌≡◌, ℕ, zero, suc, ◌+◌, ◌-◌, ◌*◌, ◌<◌, ◌≤◌, Bool, List, [], ◌∷◌, ◌++◌, length, take, drop, get_or, refl, sym, ap, subst, ◌∙◌, arith, inl, inr, IfSome, length-append}
use Rattle.std.specs.declared.option.Option.{Option}
use Rattle.std.specs.List.{flat_map, range_with_len}
use Rattle.std.proofs.Math.Nat.{mul-add, mul-le-mul}
use Rattle.std.proofs.Math.Seq.{get_or-append_seam}
use Rattle.std.proofs.lemmas.Bool.{cases_lt}
use Rattle.std.proofs.lemmas.List.Sums.{sum_by-take-le}
use Rattle.std.proofs.lemmas.List.{drop-drop, get_or_append_left, length-drop, take-append-drop, take_all}
use Rattle.outer_world.proofs.Steps.{handed_none, take_both, told, told_always}
use Rattle.outer_world.specs.Device.{StoreState}
use Rattle.outer_world.specs.Whole.{HandsOver, HoldsSame, places_from}
use Rattle.daq_table.proofs.TableCells.{column_there}
use Rattle.daq_table.specs.Tables.{Cell, Cells, IsTable, cells_from, column_from, ends_at, ends_of, frame_of, planes}
use Rattle.daq_table.specs.declared.table_head.Head.{Head}
use Rattle.plane_kernels.specs.Bytes.{bytes_of_rows}
use Rattle.query_model.specs.Knowledge.{plane_of}
use Rattle.plane_file.specs.ColumnReading.{AreCells, MakeCells, MakeColumns, ReachesIllegal, ReachesPadded, ReadsCells, ReadsFirst, StopsInColumn, StopsInColumns}
use Rattle.plane_file.specs.Format.{IsFileOf, column_planes, file_size, head_bytes, plane_count, plane_size, planes_at, planes_bytes}
use Rattle.plane_file.specs.Opening.{IsFileHead}
use Rattle.plane_file.specs.Places.{plane_at}
use Rattle.plane_file.specs.TableReading.{HaveColumns, HavePlanes, IsFirstIllegal, IsFirstPadded, IsIllegalPlane}
use Rattle.plane_file.specs.declared.plane_fault.PlaneFault.TheVariants.{Fault, PadBits, WentShort}
use Rattle.plane_file.specs.declared.table_fault.TableReadFault.{TableReadFault}
use Rattle.plane_file.specs.declared.table_fault.TableReadFault.TheVariants.{File, Plane, OverTop, NoMemory}
use Rattle.plane_file.proofs.AllColumns.{agrees, filled, last_there}
use Rattle.plane_file.proofs.Parts.{pieces_more}
use Rattle.plane_file.proofs.Handed.{handed_on}
use Rattle.plane_file.proofs.PlanePlaces.{column_within, next_count, place_in_column, place_of_column, place_of_next}

-- ---- one column more

earlier_there : {X : Type 0} (lists : List (List X)) (list : List X) (c : ℕ) → c < length lists → get_or (lists ++ list ∷ []) c [] ≡ get_or lists c []
earlier_there lists list c lt = get_or_append_left lists (list ∷ []) [] c lt

last_list : {X : Type 0} (lists : List (List X)) (list : List X) (c : ℕ) → length lists ≡ c → get_or (lists ++ list ∷ []) c [] ≡ list
last_list lists list c e = ap (λ n. get_or (lists ++ list ∷ []) n []) (sym e) ∙ get_or-append_seam lists list [] []

-- what holds of each list by its place holds with one more
pub each_more : {X : Type 0} (P : ℕ → List X → Type 0) (lists : List (List X)) (list : List X) (count : ℕ) → length lists ≡ count → ((c : ℕ) → c < count → P c (get_or lists c [])) → P count list →
    (c : ℕ) → c < count + 1 → P c (get_or (lists ++ list ∷ []) c [])
each_more P lists list count many each last c lt = elim (cases_lt c count) [
  | inl less ↦ subst (P c) (sym (earlier_there lists list c (omega (arith, less, many)))) (each c less)
  | inr past ↦ (let here : count ≡ c = omega (arith, past, lt) in subst (P c) (sym (last_list lists list c (many ∙ here))) (subst (λ k. P k list) here last))
]

module _ (head : Head) (count : ℕ) (numbers : List (List ℕ)) (marks : List (List Bool)) (us : List ℕ) (ms : List Bool) (make : MakeColumns head count numbers marks) where
  columns_push : MakeCells head count us ms → MakeColumns head (count + 1) (numbers ++ us ∷ []) (marks ++ ms ∷ [])
  columns_push next = record {
    many = length-append numbers (us ∷ []) ∙ omega (arith, make.many);
    marked = length-append marks (ms ∷ []) ∙ omega (arith, make.marked);
    each = λ c lt. elim (cases_lt c count) [
      | inl less ↦ subst (λ (xs : List ℕ). MakeCells head c xs (get_or (marks ++ ms ∷ []) c [])) (sym (earlier_there numbers us c (omega (arith, less, make.many))))
          (subst (MakeCells head c (get_or numbers c [])) (sym (earlier_there marks ms c (omega (arith, less, make.marked)))) (make.each c less))
      | inr past ↦
          (let last : count ≡ c = omega (arith, past, lt) in
          subst (λ (xs : List ℕ). MakeCells head c xs (get_or (marks ++ ms ∷ []) c [])) (sym (last_list numbers us c (make.many ∙ last)))
          (subst (MakeCells head c us) (sym (last_list marks ms c (make.marked ∙ last))) (subst (λ k. MakeCells head k us ms) last next)))
    ];
  }

  have_push : (bytes : List ℕ) → HaveColumns head bytes count (cells_from numbers marks) → HavePlanes head bytes count (planes (ends_at (frame_of head) count)) (column_from us ms) →
      HaveColumns head bytes (count + 1) (cells_from (numbers ++ us ∷ []) (marks ++ ms ∷ []))
  have_push bytes have next c lt =
      let there = column_there (numbers ++ us ∷ []) (marks ++ ms ∷ []) c in
      elim (cases_lt c count) [
        | inl less ↦ subst (HavePlanes head bytes c (planes (ends_at (frame_of head) c)))
            (column_there numbers marks c ∙ ap (λ (xs : List ℕ). column_from xs (get_or marks c [])) (sym (earlier_there numbers us c (omega (arith, less, make.many))))
            ∙ ap (column_from (get_or (numbers ++ us ∷ []) c [])) (sym (earlier_there marks ms c (omega (arith, less, make.marked)))) ∙ sym there) (have c less)
        | inr past ↦
            (let last : count ≡ c = omega (arith, past, lt) in
            subst (HavePlanes head bytes c (planes (ends_at (frame_of head) c)))
            (ap (λ (xs : List ℕ). column_from xs ms) (sym (last_list numbers us c (make.many ∙ last))) ∙ ap (column_from (get_or (numbers ++ us ∷ []) c [])) (sym (last_list marks ms c (make.marked ∙ last))) ∙ sym there)
            (subst (λ k. HavePlanes head bytes k (planes (ends_at (frame_of head) k)) (column_from us ms)) last next))
      ]

pub column_read : (head : Head) (column : ℕ) (old mid new : StoreState) (numbers : List (List ℕ)) (marks : List (List Bool)) (us : List ℕ) (ms : List Bool) → column < length head.columns → HoldsSame old mid →
    ReadsFirst head column old mid numbers marks → ReadsCells head column mid new us ms → ReadsFirst head (column + 1) old new (numbers ++ us ∷ []) (marks ++ ms ∷ [])
column_read head column old mid new numbers marks us ms inside same done next =
    let size = plane_size head.rows in
    let before = plane_count (take column head.columns) in
    let some = planes (ends_at (frame_of head) column) in
    let all : size * before + size * some ≡ size * plane_count (take (column + 1) head.columns) = sym (mul-add size before some) ∙ ap (λ n. size * n) (sym (next_count head column inside)) in
    record {
      make = columns_push head column numbers marks us ms done.make next.make;
      have = told old.held _ _ (λ bytes. HaveColumns head bytes (column + 1) (cells_from (numbers ++ us ∷ []) (marks ++ ms ∷ [])))
          (λ bytes was here. have_push head column numbers marks us ms done.make bytes was here) done.have
          (subst (λ (o : Option (List ℕ)). IfSome o (λ bytes. HavePlanes head bytes column some (column_from us ms))) same.held next.have);
      handed = subst (λ n. HandsOver old.pieces new.pieces (places_from (planes_at head) n)) all
          (handed_on (planes_at head) (size * before) (size * some) _ _ _ done.handed
          (subst (λ place. HandsOver mid.pieces new.pieces (places_from place (size * some))) (place_of_column head column) next.handed));
    }

pub none_read : (head : Head) (store : StoreState) → ReadsFirst head 0 store store [] []
none_read head store = record {
  make = record { many = refl; marked = refl; each = λ c lt. absurd (omega (arith, lt)) };
  have = told_always store.held _ (λ bytes c lt. absurd (omega (arith, lt)));
  handed = let none : 0 ≡ plane_size head.rows * plane_count (take 0 head.columns) = omega arith in
      subst (λ n. HandsOver store.pieces store.pieces (places_from (planes_at head) n)) none (handed_none store.pieces (planes_at head));
}

-- ---- where reading stops

-- memory ran out behind so many columns
pub columns_starve : (head : Head) (count : ℕ) (old new : StoreState) (numbers : List (List ℕ)) (marks : List (List Bool)) → count ≤ length head.columns → ReadsFirst head count old new numbers marks →
    StopsInColumns head old new NoMemory
columns_starve head count old new numbers marks few done =
    record { cause = tt; count = plane_size head.rows * plane_count (take count head.columns); handed = done.handed; few = start_within head count }
  where
    start_within : (head : Head) (count : ℕ) → planes_at head + plane_size head.rows * plane_count (take count head.columns) ≤ file_size head
    start_within head count =
        let size = plane_size head.rows in
        let below : size * plane_count (take count head.columns) ≤ size * plane_count head.columns = mul-le-mul (omega arith) (sum_by-take-le (λ k. planes (ends_of k)) head.columns count) in
        omega (arith, below)

module _ (head : Head) (column : ℕ) (old mid new : StoreState) (numbers : List (List ℕ)) (marks : List (List Bool)) (inside : column < length head.columns) (same : HoldsSame old mid)
    (done : ReadsFirst head column old mid numbers marks) where
  abbrev size : ℕ
  size = plane_size head.rows

  abbrev before : ℕ
  before = size * plane_count (take column head.columns)

  cells_done : (c : ℕ) → c < column → AreCells head c (get_or (cells_from numbers marks) c [])
  cells_done c lt = subst (AreCells head c) (sym (column_there numbers marks c)) (done.make.each c lt).are_cells

  behind : (count : ℕ) → HandsOver mid.pieces new.pieces (places_from (plane_at head column 0) count) → HandsOver old.pieces new.pieces (places_from (planes_at head) (before + count))
  behind count next = handed_on (planes_at head) before count _ _ _ done.handed (subst (λ place. HandsOver mid.pieces new.pieces (places_from place count)) (place_of_column head column) next)

  within : (count : ℕ) → count ≤ size * planes (ends_at (frame_of head) column) → planes_at head + (before + count) ≤ file_size head
  within count few = omega (arith, few, place_of_column head column, column_within head column inside)

  up_to_plane : (c plane : ℕ) → c ≡ column → planes_at head + (before + size * (plane + 1)) ≡ plane_at head c plane + size
  up_to_plane c plane e =
      let there = ap (λ k. plane_at head k plane) e in
      omega (arith, there, place_in_column head column plane, place_of_column head column, mul-add size plane 1)

  padded : (bytes : List ℕ) (plane : ℕ) → HaveColumns head bytes column (cells_from numbers marks) → ReachesPadded head bytes column plane → IsFirstPadded head bytes column plane
  padded bytes plane have r = record {
    is_plane = r.reached.is_plane;
    cells = filled head column (cells_from numbers marks) r.cells inside cells_done r.reached.are_cells;
    agrees = agrees head column (cells_from numbers marks) r.cells inside cells_done r.reached.are_cells bytes plane have r.reached.have;
    padded = r.padded;
  }

  illegal : (bytes : List ℕ) (plane row : ℕ) → HaveColumns head bytes column (cells_from numbers marks) → ReachesIllegal head bytes column plane row → IsFirstIllegal head bytes column plane row
  illegal bytes plane row have r = record {
    is_plane = r.reached.is_plane;
    cells = filled head column (cells_from numbers marks) r.cells inside cells_done r.reached.are_cells;
    agrees = agrees head column (cells_from numbers marks) r.cells inside cells_done r.reached.are_cells bytes plane have r.reached.have;
    illegal = subst (λ (cells : List Cell). IsIllegalPlane head bytes column plane row cells) (sym (last_there head column (cells_from numbers marks) r.cells inside cells_done r.reached.are_cells)) r.illegal;
  }

  pub column_stops : (fault : TableReadFault) → StopsInColumn head column mid new fault → StopsInColumns head old new fault
  column_stops (File why) s = absurd s.cause
  column_stops (Plane Fault) s = record { cause = omega (arith, s.cause, same.faults); count = before + s.count; handed = behind s.count s.handed; few = within s.count s.few }
  column_stops (Plane (PadBits c plane)) s = record {
    cause = subst (λ k. IfSome old.held (λ bytes. IsFirstPadded head bytes k plane)) (sym s.cause.0)
        (told old.held _ _ (λ bytes. IsFirstPadded head bytes column plane) (λ bytes have r. padded bytes plane have r) done.have
        (subst (λ (o : Option (List ℕ)). IfSome o (λ bytes. ReachesPadded head bytes column plane)) same.held s.cause.1));
    count = before + s.count;
    handed = behind s.count s.handed;
    few = ap (λ n. planes_at head + (before + n)) s.few ∙ up_to_plane c plane s.cause.0;
  }
  column_stops (Plane WentShort) s = record {
    cause = (omega (arith, s.cause.0, same.ends), subst (λ (o : Option (List ℕ)). IfSome o (λ bytes. ⊥)) same.held s.cause.1);
    count = before + s.count;
    handed = behind s.count s.handed;
    few = within s.count s.few;
  }
  column_stops (OverTop c plane row) s = record {
    cause = subst (λ k. IfSome old.held (λ bytes. IsFirstIllegal head bytes k plane row)) (sym s.cause.0)
        (told old.held _ _ (λ bytes. IsFirstIllegal head bytes column plane row) (λ bytes have r. illegal bytes plane row have r) done.have
        (subst (λ (o : Option (List ℕ)). IfSome o (λ bytes. ReachesIllegal head bytes column plane row)) same.held s.cause.1));
    count = before + s.count;
    handed = behind s.count s.handed;
    few = ap (λ n. planes_at head + (before + n)) s.few ∙ up_to_plane c plane s.cause.0;
  }
  column_stops NoMemory s = record { cause = tt; count = before + s.count; handed = behind s.count s.handed; few = within s.count s.few }

-- ---- the file of the table

-- pieces that stand one behind the other, each up to the next one's place
rising : (place : ℕ → ℕ) (n : ℕ) → ((c : ℕ) → c < n → place c ≤ place (c + 1)) → place 0 ≤ place n
rising place zero h = omega arith
rising place (suc n) h =
    let more : n + 1 ≡ suc n = omega arith in
    omega (arith, rising place n (λ c lt. h c (omega (arith, lt))), h n (omega arith), ap place more)

pieces_at : (f : ℕ → List ℕ) (place : ℕ → ℕ) (bytes : List ℕ) (n : ℕ) → ((c : ℕ) → c < n → place c ≤ place (c + 1)) → place n ≤ length bytes →
    ((c : ℕ) → c < n → f c ≡ take (place (c + 1) - place c) (drop (place c) bytes)) → flat_map f (range_with_len 0 n) ≡ take (place n - place 0) (drop (place 0) bytes)
pieces_at f place bytes zero up few each = let none : 0 ≡ place 0 - place 0 = omega arith in ap (λ k. take k (drop (place 0) bytes)) none
pieces_at f place bytes (suc n) up few each =
    let more : n + 1 ≡ suc n = omega arith in
    let next = ap place more in
    let low = rising place n (λ c lt. up c (omega (arith, lt))) in
    let step = up n (omega arith) in
    let here : place 0 + (place n - place 0) ≡ place n = omega (arith, low) in
    let all : (place n - place 0) + (place (n + 1) - place n) ≡ place (suc n) - place 0 = omega (arith, low, step, next) in
    let before = pieces_at f place bytes n (λ c lt. up c (omega (arith, lt))) (omega (arith, few, next, step)) (λ c lt. each c (omega (arith, lt))) in
    ap (λ k. flat_map f (range_with_len 0 k)) (sym more) ∙ pieces_more f n ∙ ap (λ l. l ++ f n) before
    ∙ ap (λ l. take (place n - place 0) (drop (place 0) bytes) ++ l) (each n (omega arith) ∙ ap (take (place (n + 1) - place n)) (ap (λ k. drop k bytes) (sym here) ∙ sym (drop-drop (place n - place 0) (place 0) bytes)))
    ∙ sym (take_both (place n - place 0) (place (n + 1) - place n) (drop (place 0) bytes) (omega (arith, length-drop (place 0) bytes, few, next, step, low)))
    ∙ ap (λ k. take k (drop (place 0) bytes)) all

module _ (bytes : List ℕ) (head : Head) (cells : Cells) (long : length bytes ≡ file_size head) (have : HaveColumns head bytes (length head.columns) cells) where
  column_there' : (c : ℕ) → c < length head.columns → column_planes (frame_of head) cells c ≡ take (plane_at head (c + 1) 0 - plane_at head c 0) (drop (plane_at head c 0) bytes)
  column_there' c lt =
      let size = plane_size head.rows in
      let n = planes (ends_at (frame_of head) c) in
      let one = λ (j : ℕ). mul-add size j 1 in
      let end : plane_at head c n ≡ plane_at head (c + 1) 0 = place_in_column head c n ∙ sym (place_of_next head c lt) in
      let next = λ (j : ℕ). place_in_column head c (j + 1) in
      pieces_at (λ j. bytes_of_rows (plane_of (frame_of head) cells c j)) (plane_at head c) bytes n
      (λ j h. omega (arith, place_in_column head c j, next j, one j))
      (omega (arith, end, long, column_within head c lt, place_of_next head c lt))
      (λ j h. have c lt j h ∙ (let gap : size ≡ plane_at head c (j + 1) - plane_at head c j = omega (arith, place_in_column head c j, next j, one j) in ap (λ k. take k (drop (plane_at head c j) bytes)) gap))
      ∙ ap (λ k. take (k - plane_at head c 0) (drop (plane_at head c 0) bytes)) end

  planes_there : drop (planes_at head) bytes ≡ planes_bytes (record { head = head; cells = cells })
  planes_there =
      let n = length head.columns in
      let start : plane_at head 0 0 ≡ planes_at head = place_of_column head 0 ∙ omega arith in
      let whole : plane_count (take n head.columns) ≡ plane_count head.columns = ap plane_count (take_all n head.columns (omega arith)) in
      let end : plane_at head n 0 ≡ file_size head = place_of_column head n ∙ ap (λ k. planes_at head + plane_size head.rows * k) whole in
      let up = λ (c : ℕ) (lt : c < n). place_of_next head c lt in
      let rest : length (drop (planes_at head) bytes) ≤ file_size head - planes_at head = omega (arith, length-drop (planes_at head) bytes, long) in
      sym (pieces_at (column_planes (frame_of head) cells) (λ c. plane_at head c 0) bytes n (λ c lt. omega (arith, up c lt)) (omega (arith, end, long)) column_there'
      ∙ ap (λ k. take (k - plane_at head 0 0) (drop (plane_at head 0 0) bytes)) end ∙ ap (λ k. take (file_size head - k) (drop k bytes)) start ∙ take_all (file_size head - planes_at head) (drop (planes_at head) bytes) rest)

  pub file_is : (version : ℕ) → IsFileHead bytes version head → IsTable (frame_of head) cells → IsFileOf bytes version (record { head = head; cells = cells })
  file_is version begins is = record {
    is_table = is;
    spelled = begins.opened.spelled;
    known = begins.opened.known;
    same = sym (take-append-drop (planes_at head) bytes) ∙ ap (λ l. l ++ drop (planes_at head) bytes) begins.same ∙ ap (λ l. head_bytes version head ++ l) planes_there;
  }
