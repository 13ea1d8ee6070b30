-- What the lines of the block over all parts tell for certain.
use Rattle.std.proofs.Common.{◌≡◌, ◌≢◌, not, List, refl, sym, ap, ◌∙◌, subst, IsTrue}
use Rattle.std.proofs.lemmas.Bool.{false≢true}
use Rattle.query_model.specs.declared.bounds.Standing.{Standing}
use Rattle.query_model.specs.declared.bounds.Standing.TheVariants.{Certain, Possible, Excluded}
use Rattle.query_model.specs.Ranking.{StandingKept}
use Rattle.report_text.specs.declared.rows.RowLine.{RowLine}
use Rattle.query_kinds.specs.declared.rows.FirstRows.{FirstRows}
use Rattle.part_rows.specs.declared.row.PartRow.{PartRow}
use Rattle.part_rows.specs.declared.row.RowName.{RowName}
use Rattle.part_rows.specs.Combined.{Listing, line_of, row_of, rows_of, standing_in}
use Rattle.part_rows.specs.Standings.{standing}
use Rattle.part_rows.specs.Tables.{is_certain, is_excluded}
use Rattle.part_rows.specs.Told.{HasLine, LinesAreRight, LinesBecomeExact, LinesNest}
use Rattle.part_rows.specs.Worlds.{IsIn}
use Rattle.part_rows.proofs.Exact.{standings_become_exact}
use Rattle.part_rows.proofs.Later.{standings_nest}
use Rattle.part_rows.proofs.Lists.{in_map}
use Rattle.part_rows.proofs.Reports.{choose, chosen, is_listed_by, means_certain}
use Rattle.part_rows.proofs.Right.{first_of_part, standings_are_right}
use Rattle.part_rows.proofs.Standing.{certain≢excluded}
use Rattle.part_rows.proofs.Trees.{out_of_map}

-- a row that the parts list, and that is not excluded, has a line
line_by_row : (asked : FirstRows) (listed : List Listing) (row : PartRow) (name : RowName) → IsIn row (rows_of listed) → row.name ≡ name →
    standing asked (rows_of listed) row ≢ Excluded → HasLine asked listed name
line_by_row asked listed row name i e n =
    let rows = rows_of listed in
    let from = out_of_map row_of listed row i in
    let stands = is_listed_by (standing asked rows row) n in
    let own = subst (λ r. IsTrue (not (is_excluded (standing asked rows r)))) from.same stands in
    record {
      row = from.element;
      is = from.is;
      named = ap (λ (r : PartRow). r.name) (sym from.same) ∙ e;
      stands = own;
      told = choose (line_of asked rows) (λ r. not (is_excluded (standing_in asked rows r))) from.element listed from.is own;
    }

pub lines_are_right : LinesAreRight
lines_are_right asked listed world n w =
    let rows = rows_of listed in
    let right = standings_are_right asked rows world n w in
    record {
      certain = λ row i t. right.certain (row_of row) (in_map row_of row listed i) (means_certain (standing_in asked rows row) t);
      all = λ mark j f.
          let told = w.listed mark j (first_of_part asked world mark f) in
          line_by_row asked listed told.row mark.name told.is told.named (λ e. right.excluded told.row mark told.is j (sym told.named) e f);
    }

pub not_both : (o : Standing) → IsTrue (not (is_excluded o)) → o ≢ Excluded
not_both o t e = false≢true (ap (λ s. not (is_excluded s)) (sym e) ∙ t)

pub lines_nest : LinesNest
lines_nest asked olds listed n m later =
    let rows = rows_of listed in
    let nest = standings_nest asked (rows_of olds) rows n m later in
    record {
      certain = λ old i t.
          let stays = nest.certain (row_of old) (in_map row_of old olds i) (means_certain (standing_in asked (rows_of olds) old) t) in
          let from = out_of_map row_of listed stays.row stays.is in
          let certain = subst (λ r. standing asked rows r ≡ Certain) from.same stays.certain in
          let stands = is_listed_by (standing_in asked rows from.element) (λ e. certain≢excluded (sym certain ∙ e)) in
          record {
            line = record {
              row = from.element;
              is = from.is;
              named = ap (λ (r : PartRow). r.name) (sym from.same) ∙ stays.named;
              stands = stands;
              told = choose (line_of asked rows) (λ r. not (is_excluded (standing_in asked rows r))) from.element listed from.is stands;
            };
            certain = ap is_certain certain;
          };
      lines = λ row i t.
          let was = later.listed (row_of row) (in_map row_of row listed i) in
          line_by_row asked olds was.old (row_of row).name was.is (sym was.narrower.named) (λ e.
          not_both (standing_in asked rows row) t (subst (λ s. StandingKept s (standing_in asked rows row)) e
          (nest.kept was.old (row_of row) was.is (in_map row_of row listed i) was.narrower.named)));
    }

told_certain : (o : Standing) → IsTrue (not (is_excluded o)) → o ≢ Possible → IsTrue (is_certain o)
told_certain Certain t n = refl
told_certain Possible t n = absurd (n refl)
told_certain Excluded t n = absurd (false≢true t)

pub lines_become_exact : LinesBecomeExact
lines_become_exact asked listed exact line i =
    let rows = rows_of listed in
    let from = chosen (line_of asked rows) (λ r. not (is_excluded (standing_in asked rows r))) listed line i in
    let closed = (standings_become_exact asked rows exact).closed (row_of from.element) (in_map row_of from.element listed from.is) in
    ap (λ (l : RowLine). l.certain) from.same ∙ told_certain (standing_in asked rows from.element) from.passes closed
