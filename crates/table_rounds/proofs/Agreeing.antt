-- Tables that have the planes read.
use Rattle.std.proofs.Common.{◌≡◌, ℕ, ◌<◌, ◌≤◌, List, [], length, map, get_or, Some, sym, ap, ◌∙◌, subst, arith}
use Rattle.std.proofs.lemmas.List.{get_or-map, get_or_default, length-map, same_lists}
use Rattle.std.proofs.lemmas.List.FromFn.{length-map-range_with_len}
use Rattle.daq_table.specs.Tables.{Cells, Frame, IsCell, IsTable, ends_at, planes}
use Rattle.query_model.proofs.Planes as of_cells
use Rattle.query_model.specs.Knowledge.{AreCounts, ColumnKnowledge, bit_at, known_at, plane_of, prefix_of}
use Rattle.query_model.specs.Laws.{PlanesAreTaken, TablesExist}
use Rattle.query_model.specs.Projection.{projected}
use Rattle.query_model.specs.Worlds.{AgreesWith, NamesColumns}
use Rattle.query_model.specs.declared.query.TypedQuery.{TypedQuery}
use Rattle.table_rounds.specs.Headline.{LegalPlanesHaveTables, PlanesTellStages, TablesTellStages}
use Rattle.table_rounds.specs.Rounds.{HaveRows, HaveSame, Planes, prefixes_by, stage_by, stage_with}
use Rattle.table_rounds.proofs.Digits.{cells_have, cells_write, length-prefixes, same_prefixes}
use Rattle.table_rounds.proofs.Listing.{all_at}
use Rattle.table_rounds.proofs.Reached.{columns_of_part, ends_there, is_part, known_there, part_of}

-- ---- planes that are the same

-- what is known of columns, given of each
same_known : (query : TypedQuery) (a b : List ColumnKnowledge) → length a ≡ length query.columns → length b ≡ length query.columns →
    ((c : ℕ) → c < length query.columns → known_at a c ≡ known_at b c) → a ≡ b
same_known query a b long other same =
    let nothing : ColumnKnowledge = record { read = 0; prefixes = [] } in
    same_lists a b (long ∙ sym other) (λ c d h.
    let inside : c < length query.columns = subst (λ n. c < n) long h in
    get_or_default a c d nothing h ∙ same c inside ∙ get_or_default b c nothing d (subst (λ n. c < n) (sym other) inside))

pub planes_tell_stages : PlanesTellStages
planes_tell_stages query frame a b counts same =
    ap (λ known. record { query = query; frame = part_of query frame; known = known })
    (same_known query (stage_by query frame a counts).known (stage_by query frame b counts).known (length-map-range_with_len _ 0 (length query.columns)) (length-map-range_with_len _ 0 (length query.columns))
    (λ c h. known_there query frame a counts c h
    ∙ ap (λ ps. record { read = get_or counts c 0; prefixes = ps }) (same_prefixes frame.rows (a (get_or query.columns c 0)) (b (get_or query.columns c 0)) (get_or counts c 0) (λ j lt. same c j h lt))
    ∙ sym (known_there query frame b counts c h)))

-- ---- the planes of a table

module _ (taking : PlanesAreTaken) (query : TypedQuery) (frame : Frame) (cells : Cells) (named : NamesColumns query frame) (table : IsTable frame cells) where
  place : (c : ℕ) → c < length query.columns → get_or query.columns c 0 < length frame.columns
  place c h = all_at (λ i. i < length frame.columns) query.columns c named.in_range h

  cells_there : (c : ℕ) → c < length query.columns → get_or (projected query cells) c [] ≡ get_or cells (get_or query.columns c 0) []
  cells_there c h = get_or-map (λ i. get_or cells i []) query.columns c 0 [] h

  -- each cell of the column is one that it may have
  within_there : (c : ℕ) → c < length query.columns → (r : ℕ) → r < length (get_or cells (get_or query.columns c 0) []) →
      IsCell (ends_at frame (get_or query.columns c 0)) (get_or (get_or cells (get_or query.columns c 0) []) r (Some 0))
  within_there c h r lt = table.within (get_or query.columns c 0) r (place c h) (subst (λ n. r < n) (table.rows (get_or query.columns c 0) (place c h)) lt)

  prefixes_there : (c k : ℕ) → c < length query.columns → k ≤ planes (ends_at frame (get_or query.columns c 0)) →
      prefixes_by frame.rows (plane_of frame cells (get_or query.columns c 0)) k ≡ map (prefix_of (ends_at (part_of query frame) c) k) (get_or (projected query cells) c [])
  prefixes_there c k h few =
      let column = get_or cells (get_or query.columns c 0) [] in
      let ends = ends_at frame (get_or query.columns c 0) in
      ap (λ n. prefixes_by n (λ j. map (bit_at ends j) column) k) (sym (table.rows (get_or query.columns c 0) (place c h)))
      ∙ cells_write taking ends column (within_there c h) k few
      ∙ ap (λ e. map (prefix_of e k) column) (ends_there query frame c h) ∙ ap (map (prefix_of (ends_at (part_of query frame) c) k)) (sym (cells_there c h))

  few_there : (counts : List ℕ) → AreCounts (part_of query frame) counts → (c : ℕ) → c < length query.columns → get_or counts c 0 ≤ planes (ends_at frame (get_or query.columns c 0))
  few_there counts are c h =
      subst (λ e. get_or counts c 0 ≤ planes e) (sym (ends_there query frame c h)) (are.few c (subst (λ n. c < n) (sym (columns_of_part query frame)) h))

  pub table_tells : (counts : List ℕ) → AreCounts (part_of query frame) counts → stage_by query frame (plane_of frame cells) counts ≡ stage_with query frame cells counts
  table_tells counts are =
      ap (λ known. record { query = query; frame = part_of query frame; known = known })
      (same_known query (stage_by query frame (plane_of frame cells) counts).known (stage_with query frame cells counts).known
      (length-map-range_with_len _ 0 (length query.columns)) (length-map-range_with_len _ 0 (length (part_of query frame).columns) ∙ columns_of_part query frame)
      (λ c h. known_there query frame (plane_of frame cells) counts c h
      ∙ ap (λ ps. record { read = get_or counts c 0; prefixes = ps }) (prefixes_there c (get_or counts c 0) h (few_there counts are c h))
      ∙ sym (of_cells.known_there (part_of query frame) (projected query cells) counts c (subst (λ n. c < n) (sym (columns_of_part query frame)) h))))

  -- a table that agrees with what planes tell has them
  pub table_has : (bits : Planes) (counts : List ℕ) → HaveRows frame bits → AreCounts (part_of query frame) counts → AgreesWith query frame (stage_by query frame bits counts).known cells →
      HaveSame query counts (plane_of frame cells) bits
  table_has bits counts long are agrees c j h lt =
      let col = get_or query.columns c 0 in
      let column = get_or cells col [] in
      let ends = ends_at frame col in
      let k = get_or counts c 0 in
      let part_in : c < length (part_of query frame).columns = subst (λ n. c < n) (sym (columns_of_part query frame)) h in
      let known = known_there query frame bits counts c h in
      let all : length column ≡ frame.rows = table.rows col (place c h) in
      let few = few_there counts are c h in
      let whole : length (prefixes_by frame.rows (bits col) k) ≡ frame.rows = length-prefixes frame.rows (bits col) k (λ i i_lt. long col i (place c h) (omega (arith, i_lt, few))) in
      let same : map (prefix_of ends k) column ≡ prefixes_by frame.rows (bits col) k =
      same_lists (map (prefix_of ends k) column) (prefixes_by frame.rows (bits col) k) (length-map column (prefix_of ends k) ∙ all ∙ sym whole) (λ r d r_lt.
      let r_in : r < frame.rows = subst (λ n. r < n) (length-map column (prefix_of ends k) ∙ all) r_lt in
      let here = agrees.part.agrees c r part_in r_in in
      get_or-map (prefix_of ends k) column r (Some 0) d (subst (λ n. r < n) (sym all) r_in)
      ∙ ap (λ e. prefix_of e k (get_or column r (Some 0))) (ends_there query frame c h)
      ∙ ap (λ cs. prefix_of (ends_at (part_of query frame) c) k (get_or cs r (Some 0))) (sym (cells_there c h))
      ∙ subst (λ w. prefix_of (ends_at (part_of query frame) c) w.read (get_or (get_or (projected query cells) c []) r (Some 0)) ≡ get_or w.prefixes r 0) known here
      ∙ get_or_default (prefixes_by frame.rows (bits col) k) r 0 d (subst (λ n. r < n) (sym whole) r_in)) in
      cells_have taking ends column (within_there c h) frame.rows (bits col) all k few (λ i i_lt. long col i (place c h) (omega (arith, i_lt, few))) same j lt

pub tables_tell_stages : PlanesAreTaken → TablesTellStages
tables_tell_stages taking query frame cells counts named table are = table_tells taking query frame cells named table counts are

pub legal_planes_have_tables : PlanesAreTaken → TablesExist → LegalPlanesHaveTables
legal_planes_have_tables taking exist query frame bits counts named long are legal =
    let (cells, agrees) = exist query frame (part_of query frame) (stage_by query frame bits counts).known (is_part query frame named) legal in
    (cells, record { table = agrees.table; same = table_has taking query frame cells named agrees.table bits counts long are agrees })
