-- Where each row is certain and has one key, none is left open; and the order of the rows makes no difference.
use Rattle.std.proofs.Common.{◌≡◌, ◌≢◌, ◌-◌, ◌≤◌, nat_le, nat_lt, Bool, ◌&&◌, cond, List, refl, sym, ap, ◌∙◌, subst, arith, IsTrue, inl, inr}
use Rattle.std.proofs.lemmas.Bool.{and_from, cases_lt}
use Rattle.query_model.specs.declared.bounds.Standing.{Standing}
use Rattle.query_model.specs.declared.bounds.Standing.TheVariants.{Certain, Possible, Excluded}
use Rattle.part_rows.specs.declared.row.End.TheVariants.{First, Last}
use Rattle.query_kinds.specs.declared.rows.FirstRows.{FirstRows}
use Rattle.part_rows.specs.declared.row.PartRow.{PartRow}
use Rattle.part_rows.specs.Laws.{IsExact, IsTold, OrderIsFree, StandingsBecomeExact}
use Rattle.part_rows.specs.Marks.{Mark, comes_before, mark_at}
use Rattle.part_rows.specs.Standings.{leaders, may_precede, must_precede, rivals, standing}
use Rattle.part_rows.specs.Worlds.{AreNamedOnce, IsFirst, IsIn, IsListed, IsWorld, World, names_of}
use Rattle.part_rows.proofs.Counts.{count_more}
use Rattle.part_rows.proofs.Lists.{count_without}
use Rattle.part_rows.proofs.Ranking.{count_alike}
use Rattle.part_rows.proofs.Right.{first_of_part, standings_are_right}
use Rattle.part_rows.proofs.Standing.{certain≢possible, excluded≢possible, is_certain_by, is_excluded_by, rivals_are}

abbrev AreAllExact : Bool → List PartRow → Type 0
AreAllExact down rows = (row : PartRow) → IsIn row rows → IsExact down row

-- those that may come before a row must
must : (down : Bool) (rows : List PartRow) (row : PartRow) → AreAllExact down rows → IsIn row rows → (z : PartRow) → IsIn z rows →
    IsTrue (may_precede down z row) → IsTrue (must_precede down z row)
must down rows row exact i z k t =
    let first = subst (λ m. IsTrue (comes_before down m (mark_at down Last row))) (exact z k).one_key t in
    and_from z.certain (comes_before down (mark_at down Last z) (mark_at down First row)) (exact z k).certain
    (subst (λ m. IsTrue (comes_before down (mark_at down Last z) m)) (sym (exact row i).one_key) first)

few_rivals : (down : Bool) (rows : List PartRow) (row : PartRow) → AreAllExact down rows → IsIn row rows →
    rivals down rows row ≤ leaders down rows row
few_rivals down rows row exact i =
    omega (
      arith,
      rivals_are down rows row i,
      count_without (λ z. may_precede down z row) row rows i,
      count_more (λ z. may_precede down z row) (λ z. must_precede down z row) rows (must down rows row exact i),
    )

closed : (asked : FirstRows) (rows : List PartRow) → AreAllExact asked.down rows → (row : PartRow) → IsIn row rows →
    standing asked rows row ≢ Possible
closed asked rows exact row i e =
    let few = few_rivals asked.down rows row exact i in
    elim (cases_lt (leaders asked.down rows row) asked.limit) [
      | inl less ↦ certain≢possible (sym (is_certain_by asked rows row less (exact row i).certain (omega (arith, less, few))) ∙ e)
      | inr many ↦ excluded≢possible (sym (is_excluded_by asked rows row many) ∙ e)
    ]

told_by : (asked : FirstRows) (rows : List PartRow) (world : World) (mark : Mark) → AreAllExact asked.down rows → AreNamedOnce (names_of rows) →
    IsWorld asked rows world → IsIn mark world → IsFirst asked world mark → (listed : IsListed rows mark.name) (o : Standing) →
    standing asked rows listed.row ≡ o → IsTold asked rows mark
told_by asked rows world mark exact n w j f listed Certain e =
    record { row = listed.row; is = listed.is; named = listed.named; certain = e }
told_by asked rows world mark exact n w j f listed Possible e = absurd (closed asked rows exact listed.row listed.is e)
told_by asked rows world mark exact n w j f listed Excluded e =
    absurd ((standings_are_right asked rows world n w).excluded listed.row mark listed.is j (sym listed.named) e f)

pub standings_become_exact : StandingsBecomeExact
standings_become_exact asked rows exact =
    record {
      closed = closed asked rows exact;
      told = λ world mark n w j f.
          let listed = w.listed mark j (first_of_part asked world mark f) in
          told_by asked rows world mark exact n w j f listed (standing asked rows listed.row) refl;
    }

-- ---- the order of the rows

pub order_is_free : OrderIsFree
order_is_free asked rows others row p =
    ap (λ n. cond (nat_le asked.limit n) Excluded (cond (row.certain && nat_lt (rivals asked.down rows row) asked.limit) Certain Possible))
    (count_alike (λ z. must_precede asked.down z row) rows others p)
    ∙ ap (λ n. cond (nat_le asked.limit (leaders asked.down others row)) Excluded
    (cond (row.certain && nat_lt (n - cond (may_precede asked.down row row) 1 0) asked.limit) Certain Possible))
    (count_alike (λ z. may_precede asked.down z row) rows others p)
