-- With later reports of the parts what is told of them is a later report.
use Rattle.std.proofs.Common.{◌≡◌, Bool, not, List, sym, ap, ◌∙◌, subst, IsTrue}
use Rattle.query_model.specs.declared.bounds.Standing.TheVariants.{Certain}
use Rattle.query_model.specs.Ranking.{StandingKept}
use Rattle.query_kinds.specs.declared.rows.FirstRows.{FirstRows}
use Rattle.part_rows.specs.declared.row.PartRow.{PartRow}
use Rattle.part_rows.specs.declared.row.RowName.{RowName}
use Rattle.part_rows.specs.Laws.{AreLater, AreNested, WasListed}
use Rattle.part_rows.specs.Standings.{standing}
use Rattle.part_rows.specs.Tables.{is_certain, is_excluded}
use Rattle.part_rows.specs.Trees.{ToldRowsNest, told_row, told_rows}
use Rattle.part_rows.specs.Worlds.{IsIn, IsListed}
use Rattle.part_rows.proofs.Later.{standings_nest}
use Rattle.part_rows.proofs.Reports.{choose, chosen, is_listed_by, means_certain}
use Rattle.part_rows.proofs.Standing.{certain≢excluded}
use Rattle.part_rows.proofs.Told.{not_both}

abbrev is_told : FirstRows → List PartRow → PartRow → Bool
is_told asked rows row = not (is_excluded (standing asked rows row))

-- what is told of a row was told of it before
was_told : (rename : RowName → RowName) (asked : FirstRows) (olds rows : List PartRow) → AreLater asked.down olds rows → AreNested asked olds rows →
    (row : PartRow) → IsIn row rows → IsTrue (is_told asked rows row) → WasListed asked.down (told_rows rename asked olds) (told_row rename asked rows row)
was_told rename asked olds rows later nest row i t =
    let was = later.listed row i in
    let kept = nest.kept was.old row was.is i was.narrower.named in
    let before = is_listed_by (standing asked olds was.old) (λ e.
    not_both (standing asked rows row) t (subst (λ s. StandingKept s (standing asked rows row)) e kept)) in
    record {
      old = told_row rename asked olds was.old;
      is = choose (told_row rename asked olds) (is_told asked olds) was.old olds was.is before;
      narrower = record {
        named = ap rename was.narrower.named;
        ends = was.narrower.ends;
        within = was.narrower.within;
        certain = λ c. ap is_certain
            (subst (λ s. StandingKept s (standing asked rows row)) (means_certain (standing asked olds was.old) c) kept);
      };
    }

-- a row that was certain is still told
still_told : (rename : RowName → RowName) (asked : FirstRows) (olds rows : List PartRow) → AreNested asked olds rows → (old : PartRow) →
    IsIn old olds → standing asked olds old ≡ Certain → IsListed (told_rows rename asked rows) (rename old.name)
still_told rename asked olds rows nest old i e =
    let stays = nest.certain old i e in
    let so = is_listed_by (standing asked rows stays.row) (λ out. certain≢excluded (sym stays.certain ∙ out)) in
    record {
      row = told_row rename asked rows stays.row;
      is = choose (told_row rename asked rows) (is_told asked rows) stays.row rows stays.is so;
      named = ap rename stays.named;
    }

pub told_rows_nest : ToldRowsNest
told_rows_nest rename asked olds rows n m later =
    let nest = standings_nest asked olds rows n m later in
    record {
      listed = λ row i.
          let from = chosen (told_row rename asked rows) (is_told asked rows) rows row i in
          subst (WasListed asked.down (told_rows rename asked olds)) (sym from.same)
          (was_told rename asked olds rows later nest from.element from.is from.passes);
      kept = λ old i c.
          let from = chosen (told_row rename asked olds) (is_told asked olds) olds old i in
          let so = means_certain (standing asked olds from.element) (ap (λ (z : PartRow). z.certain) (sym from.same) ∙ c) in
          subst (λ (z : PartRow). IsListed (told_rows rename asked rows) z.name) (sym from.same)
          (still_told rename asked olds rows nest from.element from.is so);
    }
