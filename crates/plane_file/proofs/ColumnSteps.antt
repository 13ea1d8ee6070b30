-- What holds as the planes of a column are read, and where that stops.
use Rattle.std.proofs.Common.{◌≡◌, ℕ, ◌+◌, ◌*◌, ◌<◌, ◌≤◌, Bool, cond, List, All, length, map, replicate, refl, sym, ap, subst, ◌∙◌, arith, IfSome, Some}
use Rattle.std.specs.declared.option.Option.{Option}
use Rattle.std.proofs.Math.Nat.{mul-add, mul-le-mul}
use Rattle.std.proofs.lemmas.List.{get_or-replicate, get_or_default, length-replicate}
use Rattle.outer_world.proofs.Steps.{handed_none, told, told_always}
use Rattle.outer_world.specs.Device.{StoreState}
use Rattle.outer_world.specs.Whole.{HandsOver, HoldsSame, places_from}
use Rattle.daq_table.specs.Tables.{Cell, column_from, ends_at, frame_of, planes}
use Rattle.daq_table.specs.declared.head.Ends.{Ends}
use Rattle.daq_table.specs.declared.table_head.Head.{Head}
use Rattle.plane_kernels.specs.Bytes.{HasPadBits, bytes_of_rows}
use Rattle.query_model.specs.Knowledge.{IsLegal, longer}
use Rattle.query_model.proofs.Blocks.{none_read, prefix_legal}
use Rattle.known_column.specs.Columns.{IsFirstOver, KnownColumn, StaysLegal, number_of, read_further, rows_of_column, unread_column}
use Rattle.known_column.proofs.Growing.{length-longer}
use Rattle.plane_file.specs.ColumnReading.{AreCells, IsReadInto, ReachesIllegal, ReachesPadded, ReachesPlane, ReadsCells, ReadsPlanes, StopsAtNext, StopsInColumn, TakesPlane, TellsPlanes}
use Rattle.plane_file.specs.Format.{plane_size}
use Rattle.plane_file.specs.Places.{plane_at, plane_in}
use Rattle.plane_file.specs.TableReading.{HavePlanes, IsIllegalPlane, IsPlane}
use Rattle.plane_file.specs.declared.plane_fault.PlaneFault.TheVariants.{Fault, PadBits, WentShort}
use Rattle.plane_file.specs.declared.table_fault.TableReadFault.{TableReadFault}
use Rattle.plane_file.specs.declared.table_fault.TableReadFault.TheVariants.{File, Plane, OverTop, NoMemory}
use Rattle.plane_file.proofs.ColumnCells.{AreFull, HavePrefixes, are_full, have_planes, marks_by, planes_more, some_cells}
use Rattle.plane_file.proofs.Handed.{handed_on}
use Rattle.plane_file.proofs.PlanePlaces.{place_in_column}

pub same_store : (store : StoreState) → HoldsSame store store
same_store store = record { held = refl; faults = omega arith; ends = omega arith }

pub same_on : (old mid new : StoreState) → HoldsSame old mid → HoldsSame mid new → HoldsSame old new
same_on old mid new first next = record { held = next.held ∙ first.held; faults = omega (arith, first.faults, next.faults); ends = omega (arith, first.ends, next.ends) }

-- before any plane is read each prefix is 0, and legal
none_legal : (ends : Ends) (rows : ℕ) → All (IsLegal ends 0) (replicate rows 0)
none_legal ends rows row d lt =
    let zero : IsLegal ends 0 0 = subst (IsLegal ends 0) (none_read ends (Some 0) (omega arith)) (prefix_legal ends 0 (Some 0) (omega arith)) in
    subst (IsLegal ends 0) (sym (get_or-replicate rows row 0 d (omega (arith, lt, length-replicate {A = ℕ} rows 0)))) zero

module _ (head : Head) (column : ℕ) where
  abbrev size : ℕ
  size = plane_size head.rows

  abbrev known_of : ℕ → List ℕ → KnownColumn
  known_of count ps = record { ends = ends_at (frame_of head) column; known = record { read = count; prefixes = ps } }

  pub known_is : (count : ℕ) (known : KnownColumn) → IsReadInto head column count known → known ≡ known_of count known.known.prefixes
  known_is count known r = λ i. record { ends = r.ends i; known = record { read = r.read i; prefixes = known.known.prefixes } }

  one_more : (plane : ℕ) → size * plane + size ≡ size * (plane + 1)
  one_more plane = omega (arith, mul-add size plane 1)

  -- ---- one plane more

  -- nothing is read at first
  pub unread_into : IsReadInto head column 0 (unread_column (ends_at (frame_of head) column) head.rows)
  unread_into = record { ends = refl; read = refl; rows = length-replicate head.rows 0; legal = none_legal (ends_at (frame_of head) column) head.rows }

  pub unread : (old : StoreState) (known : KnownColumn) (ends : Ends) (rows : ℕ) → known ≡ unread_column ends rows → ends_at (frame_of head) column ≡ ends → rows ≡ head.rows → ReadsPlanes head column 0 old old known
  unread old known ends rows e same many =
      let none : 0 ≡ size * 0 = omega arith in
      let is : known ≡ unread_column (ends_at (frame_of head) column) head.rows = e ∙ ap (λ (n : Ends). unread_column n rows) (sym same) ∙ ap (unread_column (ends_at (frame_of head) column)) many in
      subst (ReadsPlanes head column 0 old old) (sym is) (record {
        is_read = unread_into;
        told = told_always old.held _ (λ bytes plane lt. absurd (omega (arith, lt)));
        handed = subst (λ n. HandsOver old.pieces old.pieces (places_from (plane_at head column 0) n)) none (handed_none old.pieces (plane_at head column 0));
      })

  -- the plane that was taken
  pub taken_read : (plane : ℕ) (before after : KnownColumn) (bits : List Bool) → IsReadInto head column plane before → after ≡ read_further before bits → length bits ≡ head.rows →
      ((row : ℕ) → row < rows_of_column before → StaysLegal before bits row) → IsReadInto head column (plane + 1) after
  taken_read plane before after bits r e long legal =
      let ps = before.known.prefixes in
      let same : length bits ≡ length ps = long ∙ sym r.rows in
      let grown : length (longer ps bits) ≡ length ps = length-longer ps bits same in
      subst (IsReadInto head column (plane + 1)) (sym e) (record {
        ends = r.ends;
        read = ap (λ n. n + 1) r.read;
        rows = grown ∙ r.rows;
        legal = λ row d lt. subst (IsLegal before.ends (before.known.read + 1)) (get_or_default (longer ps bits) row 0 d lt) (legal row (omega (arith, lt, grown)));
      })

  pub next_read : (plane : ℕ) (old mid new : StoreState) (before after : KnownColumn) → HoldsSame old mid → ReadsPlanes head column plane old mid before → TakesPlane head column plane mid new before after →
      ReadsPlanes head column (plane + 1) old new after
  next_read plane old mid new before after same done next = record {
    is_read = next.is_read;
    told = told old.held (λ bytes. TellsPlanes head bytes column before) (λ bytes. bytes_of_rows next.bits ≡ plane_in head column plane bytes) (λ bytes. TellsPlanes head bytes column after)
        (λ bytes was here. subst (TellsPlanes head bytes column) (sym next.after_is)
        (planes_more head bytes column before next.bits (next.rows ∙ sym done.is_read.rows) (here ∙ ap (λ k. plane_in head column k bytes) (sym done.is_read.read)) was))
        done.told (subst (λ (o : Option (List ℕ)). IfSome o (λ bytes. bytes_of_rows next.bits ≡ plane_in head column plane bytes)) same.held next.read.bits_are);
    handed = subst (λ n. HandsOver old.pieces new.pieces (places_from (plane_at head column 0) n)) (one_more plane)
        (handed_on (plane_at head column 0) (size * plane) size _ _ _ done.handed
        (subst (λ place. HandsOver mid.pieces new.pieces (places_from place size)) (place_in_column head column plane) next.read.handed));
  }

  -- ---- where reading stops

  pub cells_before : (count : ℕ) (known : KnownColumn) → IsReadInto head column count known → (cells : List Cell) × HavePrefixes (ends_at (frame_of head) column) count known.known.prefixes cells
  cells_before count known r =
      some_cells (ends_at (frame_of head) column) count known.known.prefixes (subst (λ (k : KnownColumn). All (IsLegal k.ends k.known.read) k.known.prefixes) (known_is count known r) r.legal)

  pub are_cells : (count : ℕ) (known : KnownColumn) (cells : List Cell) → IsReadInto head column count known → HavePrefixes (ends_at (frame_of head) column) count known.known.prefixes cells → AreCells head column cells
  are_cells count known cells r have = record { rows = have.long ∙ r.rows; within = λ row lt. have.within row (omega (arith, lt, r.rows)) }

  pub reached : (bytes : List ℕ) (plane : ℕ) (known : KnownColumn) (cells : List Cell) → IsPlane head column plane → IsReadInto head column plane known →
      HavePrefixes (ends_at (frame_of head) column) plane known.known.prefixes cells → TellsPlanes head bytes column known → ReachesPlane head bytes column plane cells
  reached bytes plane known cells is r have tells = record {
    is_plane = is;
    are_cells = are_cells plane known cells r have;
    have = have_planes head bytes column plane known.known.prefixes cells (omega (arith, is.is_plane)) have (subst (TellsPlanes head bytes column) (known_is plane known r) tells);
  }

  -- a plane that gives a row the code of no cell, of what the planes before it tell
  pub illegal_with : (bytes : List ℕ) (plane row : ℕ) (known : KnownColumn) (cells : List Cell) (bits : List Bool) → IsReadInto head column plane known →
      HavePrefixes (ends_at (frame_of head) column) plane known.known.prefixes cells → length bits ≡ head.rows → bytes_of_rows bits ≡ plane_in head column plane bytes →
      IsFirstOver known bits row → IsIllegalPlane head bytes column plane row cells
  illegal_with bytes plane row known cells bits r have rows here over =
      record { bits = bits; rows = rows; bits_are = here; over = subst (λ (k : KnownColumn). IsFirstOver k bits row) (known_is plane known r ∙ ap (known_of plane) (sym have.same)) over }

  module _ (plane : ℕ) (old mid new : StoreState) (known : KnownColumn) (is : IsPlane head column plane) (same : HoldsSame old mid) (done : ReadsPlanes head column plane old mid known) where
    behind : (count : ℕ) → HandsOver mid.pieces new.pieces (places_from (plane_at head column plane) count) → HandsOver old.pieces new.pieces (places_from (plane_at head column 0) (size * plane + count))
    behind count next =
        handed_on (plane_at head column 0) (size * plane) count _ _ _ done.handed (subst (λ place. HandsOver mid.pieces new.pieces (places_from place count)) (place_in_column head column plane) next)

    within : (count : ℕ) → count ≤ size → size * plane + count ≤ size * planes (ends_at (frame_of head) column)
    within count few =
        let below : size * (plane + 1) ≤ size * planes (ends_at (frame_of head) column) = mul-le-mul (omega arith) (omega (arith, is.is_plane)) in
        omega (arith, few, below, one_more plane)

    pub next_stops : (fault : TableReadFault) → StopsAtNext head column plane mid new known fault → StopsInColumn head column old new fault
    next_stops (File why) s = absurd s
    next_stops (Plane Fault) s = record {
      cause = omega (arith, s.rose, same.faults);
      count = size * plane + s.part.count;
      handed = behind s.part.count s.part.handed;
      few = within s.part.count s.part.few;
    }
    next_stops (Plane (PadBits c j)) s =
        let have = cells_before plane known done.is_read in
        record {
          cause = (
            s.is_column,
            subst (λ k. IfSome old.held (λ bytes. ReachesPadded head bytes column k)) (sym s.is_plane)
                (told old.held (λ bytes. TellsPlanes head bytes column known) (λ bytes. (word : ℕ) × HasPadBits head.rows 0 (plane_in head column plane bytes) word) (λ bytes. ReachesPadded head bytes column plane)
                (λ bytes tells pad. record { cells = have.0; reached = reached bytes plane known have.0 is done.is_read have.1 tells; padded = pad })
                done.told (subst (λ (o : Option (List ℕ)). IfSome o (λ bytes. (word : ℕ) × HasPadBits head.rows 0 (plane_in head column plane bytes) word)) same.held s.bits)),
          );
          count = size * plane + size;
          handed = behind size s.handed;
          few = one_more plane ∙ ap (λ k. size * (k + 1)) (sym s.is_plane);
        }
    next_stops (Plane WentShort) s = record {
      cause = (omega (arith, s.rose, same.ends), subst (λ (o : Option (List ℕ)). IfSome o (λ bytes. ⊥)) same.held s.untold);
      count = size * plane + s.part.count;
      handed = behind s.part.count s.part.handed;
      few = within s.part.count s.part.few;
    }
    next_stops (OverTop c j row) s =
        let have = cells_before plane known done.is_read in
        record {
          cause = (
            s.is_column,
            subst (λ k. IfSome old.held (λ bytes. ReachesIllegal head bytes column k row)) (sym s.is_plane)
                (told old.held (λ bytes. TellsPlanes head bytes column known) (λ bytes. bytes_of_rows s.bits ≡ plane_in head column plane bytes) (λ bytes. ReachesIllegal head bytes column plane row)
                (λ bytes tells here. record {
                  cells = have.0;
                  reached = reached bytes plane known have.0 is done.is_read have.1 tells;
                  illegal = illegal_with bytes plane row known have.0 s.bits done.is_read have.1 s.rows here s.over;
                })
                done.told (subst (λ (o : Option (List ℕ)). IfSome o (λ bytes. bytes_of_rows s.bits ≡ plane_in head column plane bytes)) same.held s.read.bits_are)),
          );
          count = size * plane + size;
          handed = behind size s.read.handed;
          few = one_more plane ∙ ap (λ k. size * (k + 1)) (sym s.is_plane);
        }
    next_stops NoMemory s = absurd s

  -- memory ran out before the first plane
  pub column_starves_first : (store : StoreState) → StopsInColumn head column store store NoMemory
  column_starves_first store = record { cause = tt; count = 0; handed = handed_none store.pieces (plane_at head column 0); few = omega arith }

  -- ---- the cells

  pub cells_read : (old new : StoreState) (known : KnownColumn) (numbers : List ℕ) (marks : List Bool) → ReadsPlanes head column (planes (ends_at (frame_of head) column)) old new known →
      numbers ≡ map (number_of known.ends known.known.read) known.known.prefixes → marks ≡ marks_by known.ends known.known.read known.known.prefixes →
      ReadsCells head column old new numbers marks
  cells_read old new known numbers marks done us ms =
      let ends = ends_at (frame_of head) column in
      let count = planes ends in
      let ps = known.known.prefixes in
      let is = known_is count known done.is_read in
      let legal : All (IsLegal ends count) ps = subst (λ (k : KnownColumn). All (IsLegal k.ends k.known.read) k.known.prefixes) is done.is_read.legal in
      let us' : numbers ≡ map (number_of ends count) ps = us ∙ ap (λ (k : KnownColumn). map (number_of k.ends k.known.read) k.known.prefixes) is in
      let ms' : marks ≡ marks_by ends count ps = ms ∙ ap (λ (k : KnownColumn). marks_by k.ends k.known.read k.known.prefixes) is in
      let full : AreFull ends ps numbers marks = subst (λ (ns : List ℕ). AreFull ends ps ns marks) (sym us') (subst (AreFull ends ps (map (number_of ends count) ps)) (sym ms') (are_full ends ps legal)) in
      record {
        make = record {
          are_cells = are_cells count known (column_from numbers marks) done.is_read full.have;
          marked = full.marked ∙ ap (λ n. cond ends.nullable n 0) done.is_read.rows;
          zero = full.zero;
        };
        have = told old.held (λ bytes. TellsPlanes head bytes column known) (λ bytes. TellsPlanes head bytes column known) (λ bytes. HavePlanes head bytes column count (column_from numbers marks))
            (λ bytes tells _. have_planes head bytes column count ps (column_from numbers marks) (omega arith) full.have (subst (TellsPlanes head bytes column) is tells)) done.told done.told;
        handed = done.handed;
      }
