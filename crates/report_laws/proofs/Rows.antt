-- That reports show first rows as their lines are read back.
use Rattle.std.proofs.Common.{◌≡◌, ℕ, ◌+◌, ◌<◌, ◌^◌, Bool, true, false, List, [], ◌∷◌, ◌++◌, codes, count_by, decimal, length, map, IsTrue, refl, sym, ap, subst, ◌∙◌, arith, append_assoc, None}
use Rattle.std.proofs.lemmas.List.{length-map}
use Rattle.std.proofs.lemmas.List.FromFn.{length-range_with_len}
use Rattle.std.proofs.lemmas.List.Sums.{count_by-le-length}
use Rattle.daq_table.specs.Tables.{Frame, rows_of}
use Rattle.daq_table.specs.declared.table_head.Head.{Head}
use Rattle.query_model.specs.Knowledge.{prefix_at, ranges_of}
use Rattle.row_groups.specs.Partition.{are_legal, part_under}
use Rattle.round_engine.specs.Stages.{Stage}
use Rattle.round_engine.proofs.DeclaredKeys.{parts_declared}
use Rattle.topk_bounds.specs.Standings.{is_certain, is_possible}
use Rattle.daq_report.specs.Intervals.{column_of}
use Rattle.daq_report.specs.Rankings as report
use Rattle.daq_report.specs.Rankings.{standing_at}
use Rattle.daq_report.proofs.Parts.{key_shows}
use Rattle.report_text.specs.Intervals.{key_interval}
use Rattle.report_text.specs.Rows.{IsRowName, skip_line}
use Rattle.report_laws.specs.Groups.{HasPlainPart, span_of}
use Rattle.report_laws.specs.Rows.{FirstRowsAreShown, IsInOrder, IsRowShown, IsTopShown}
use Rattle.report_laws.proofs.Cells.{are_plain, parts_ordered}
use Rattle.report_laws.proofs.Keys.{IsPartShown, part_shown}

-- ---- where the sort key of a row lies

module _ (head : Head) (stage : Stage) (key r : ℕ) (is : IsInOrder head stage key) (row : r < stage.frame.rows) where
  column_there : key < length stage.frame.columns
  column_there =
      let columns : length stage.frame.columns ≡ length stage.query.columns = ap (λ (f : Frame). length f.columns) (sym is.fits.same) ∙ length-map stage.query.columns _ in
      subst (λ (n : ℕ). key < n) (sym columns) is.there

  legal : IsTrue (are_legal (map (part_under stage.frame stage.known) (key ∷ [])) (prefix_at stage.known key r ∷ []))
  legal = rw (is.knowledge.legal key r column_there row) refl

  plain_key : HasPlainPart (column_of head stage.query key) (ranges_of stage.frame stage.known r key).numbers
  plain_key =
      let prefixes = prefix_at stage.known key r ∷ [] in
      let declared = parts_declared stage.frame stage.known (key ∷ []) prefixes legal in
      let shows = key_shows head stage.query stage.frame (key ∷ []) (ranges_of stage.frame stage.known r key ∷ []) is.fits (λ i column at. (is.plain i column at).texts) (is.there, tt) refl declared in
      (are_plain head stage.query (key ∷ []) (ranges_of stage.frame stage.known r key ∷ []) is.plain shows (parts_ordered stage.frame stage.known (key ∷ []) prefixes legal)).0

  pub key_shown : IsPartShown (column_of head stage.query key) (ranges_of stage.frame stage.known r key)
  key_shown = part_shown (column_of head stage.query key) (ranges_of stage.frame stage.known r key) plain_key

  name : IsRowName (record { tag = None; number = r + 1 })
  name = let few = is.few in record { tag = tt; number = omega (arith, few, row) }

-- ---- lines

certain_joined : (number lies : List ℕ) → (codes "row " ++ (number ++ codes " certain ")) ++ (lies ++ codes "\n")
    ≡ (codes "row " ++ (number ++ (codes " " ++ (codes "certain " ++ lies)))) ++ codes "\n"
certain_joined number lies =
    ap (λ (rest : List ℕ). codes "row " ++ rest) (append_assoc number (codes " certain ") (lies ++ codes "\n") ∙ sym (append_assoc number (codes " certain " ++ lies) (codes "\n")))

possible_joined : (number lies : List ℕ) → (codes "row " ++ (number ++ codes " possible ")) ++ (lies ++ codes "\n")
    ≡ (codes "row " ++ (number ++ (codes " " ++ (codes "possible " ++ lies)))) ++ codes "\n"
possible_joined number lies =
    ap (λ (rest : List ℕ). codes "row " ++ rest) (append_assoc number (codes " possible ") (lies ++ codes "\n") ∙ sym (append_assoc number (codes " possible " ++ lies) (codes "\n")))

certain_shown : (head : Head) (stage : Stage) (key r : ℕ) → IsInOrder head stage key → r < stage.frame.rows → IsRowShown head stage key true (codes " certain ") r
certain_shown head stage key r is row =
    let shown = key_shown head stage key r is row in
    record {
      text = ap (λ (lies : List ℕ). report.row_start (codes " certain ") r ++ (lies ++ codes "\n")) shown.interval
          ∙ certain_joined (decimal (r + 1)) (key_interval (span_of (column_of head stage.query key) (ranges_of stage.frame stage.known r key)));
      is_shown = record { name = name head stage key r is row; key = shown.is_shown };
    }

possible_shown : (head : Head) (stage : Stage) (key r : ℕ) → IsInOrder head stage key → r < stage.frame.rows → IsRowShown head stage key false (codes " possible ") r
possible_shown head stage key r is row =
    let shown = key_shown head stage key r is row in
    record {
      text = ap (λ (lies : List ℕ). report.row_start (codes " possible ") r ++ (lies ++ codes "\n")) shown.interval
          ∙ possible_joined (decimal (r + 1)) (key_interval (span_of (column_of head stage.query key) (ranges_of stage.frame stage.known r key)));
      is_shown = record { name = name head stage key r is row; key = shown.is_shown };
    }

-- ---- numbers of rows

counts_joined : (limit certain possible : List ℕ) →
    codes "top " ++ (limit ++ (codes " certain " ++ (certain ++ (codes " possible " ++ (possible ++ codes "\n")))))
    ≡ (codes "top " ++ (limit ++ (codes " certain " ++ (certain ++ (codes " possible " ++ possible))))) ++ codes "\n"
counts_joined limit certain possible =
    ap (λ (rest : List ℕ). codes "top " ++ (limit ++ (codes " certain " ++ rest))) (sym (append_assoc certain (codes " possible " ++ possible) (codes "\n")))
    ∙ ap (λ (rest : List ℕ). codes "top " ++ rest) (sym (append_assoc limit (codes " certain " ++ (certain ++ (codes " possible " ++ possible))) (codes "\n")))

top_shown : (head : Head) (stage : Stage) (key limit : ℕ) → IsInOrder head stage key → limit < 2 ^ 64 → IsTopShown stage limit
top_shown head stage key limit is few = record {
  text = counts_joined (decimal limit) (decimal (count_by (λ r. is_certain (standing_at stage r)) (rows_of stage.frame)))
      (decimal (count_by (λ r. is_possible (standing_at stage r)) (rows_of stage.frame)));
  is_top = record {
    limit = few;
    certain = no_more (λ r. is_certain (standing_at stage r)) stage.frame is.few;
    possible = no_more (λ r. is_possible (standing_at stage r)) stage.frame is.few;
  };
}
  where
    no_more : (test : ℕ → Bool) (frame : Frame) → frame.rows < 2 ^ 64 → count_by test (rows_of frame) < 2 ^ 64
    no_more test frame few = omega (arith, few, count_by-le-length test (rows_of frame), length-range_with_len 0 frame.rows)

untold_shown : (limit : ℕ) → report.untold_line limit ≡ skip_line limit ++ codes "\n"
untold_shown limit = ap (λ (rest : List ℕ). codes "top " ++ rest) (sym (append_assoc (decimal limit) (codes " certain 0") (codes "\n")))

pub first_rows_shown : FirstRowsAreShown
first_rows_shown = record { top = top_shown; certain = certain_shown; possible = possible_shown; untold = untold_shown }
