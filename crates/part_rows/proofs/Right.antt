-- Certain rows are among the first of all parts, and excluded rows and those that no report lists are not.
use Rattle.std.proofs.Common.{◌≡◌, nat_eq, nat_lt, ◌&&◌, List, sym, ap, ◌∙◌, subst, arith, IsTrue, inl, inr}
use Rattle.std.proofs.lemmas.Bool.{and_parts, both_ways, cases_lt, ltb-true}
use Rattle.query_model.specs.declared.bounds.Standing.TheVariants.{Certain, Excluded}
use Rattle.part_rows.specs.declared.row.End.TheVariants.{First, Last}
use Rattle.query_kinds.specs.declared.rows.FirstRows.{FirstRows}
use Rattle.part_rows.specs.declared.row.PartRow.{PartRow}
use Rattle.part_rows.specs.Laws.{HasFirst, StandingsAreRight}
use Rattle.part_rows.specs.Marks.{Mark, comes_before, mark_at}
use Rattle.part_rows.specs.Standings.{may_precede, must_precede, standing}
use Rattle.part_rows.specs.Worlds.{AreNamedOnce, IsFirst, IsFirstOfPart, IsIn, IsWorld, World, names_of}
use Rattle.part_rows.proofs.Counts.{count_more}
use Rattle.part_rows.proofs.Ends.{first_up_to, up_to_last}
use Rattle.part_rows.proofs.Lists.{same_named, still_in, without}
use Rattle.part_rows.proofs.Orders.{before_up_to, is_order, up_to_before}
use Rattle.part_rows.proofs.Ranks.{Partner, enough, leads, partners, rank}
use Rattle.part_rows.proofs.Standing.{rivals_are, when_certain, when_excluded}

-- what is among the first of all is among the first of its part
pub first_of_part : (asked : FirstRows) (world : World) (y : Mark) → IsFirst asked world y → IsFirstOfPart asked world y
first_of_part asked world y f =
    let fewer = count_more (λ z. nat_eq z.name.part y.name.part && comes_before asked.down z y) (λ z. comes_before asked.down z y) world
    (λ z i t. (and_parts (nat_eq z.name.part y.name.part) (comes_before asked.down z y) t).1) in
    omega (arith, fewer, f)

-- ---- certain

-- a row of the world that is among the first, and comes before that of a listed row, is listed, and may come before it
rival : (asked : FirstRows) (rows : List PartRow) (world : World) (row : PartRow) (i : IsIn row rows) (x y : Mark) → IsWorld asked rows world →
    IsIn x world → x.name ≡ row.name → IsIn y world → IsTrue (leads (comes_before asked.down) world asked.limit x y) →
    Partner y.name (λ (z : PartRow). z.name) (λ z. may_precede asked.down z row) (without row rows i)
rival asked rows world row i x y w j e k t =
    let down = asked.down in
    let parts = and_parts (comes_before down y x) (nat_lt (rank (comes_before down) world y) asked.limit) t in
    let told = w.listed y k (first_of_part asked world y (ltb-true (rank (comes_before down) world y) asked.limit parts.1)) in
    let early = up_to_before down (mark_at down First told.row) y x
    (first_up_to down told.row y (sym told.named) (w.keys told.row y told.is k (sym told.named))) parts.0 in
    record {
      element = told.row;
      is = still_in row rows i told.row told.is (λ f.
          let same = same_named (λ (m : Mark). m.name) y x world w.named k j (sym told.named ∙ ap (λ z. z.name) f ∙ sym e) in
          both_ways (comes_before down x x) ((is_order down).irreflexive x) (subst (λ m. IsTrue (comes_before down m x)) same parts.0));
      named = told.named;
      passes = before_up_to down (mark_at down First told.row) x (mark_at down Last row) early (up_to_last down row x e (w.keys row x i j e));
    }

certain_right : (asked : FirstRows) (rows : List PartRow) (world : World) → IsWorld asked rows world →
    (row : PartRow) → IsIn row rows → standing asked rows row ≡ Certain → HasFirst asked world row
certain_right asked rows world w row i e =
    let means = when_certain asked rows row e in
    let has = w.certain row i means.certain in
    let down = asked.down in
    record {
      mark = has.mark;
      is = has.is;
      named = has.named;
      first = elim (cases_lt (rank (comes_before down) world has.mark) asked.limit) [
        | inl less ↦ less
        | inr many ↦
            let first = enough (comes_before down) (is_order down) world asked.limit has.mark many in
            let more = partners (λ (m : Mark). m.name) (λ (z : PartRow). z.name) (leads (comes_before down) world asked.limit has.mark)
            (λ z. may_precede down z row) world (without row rows i) w.named
            (λ y k t. rival asked rows world row i has.mark y w has.is has.named k t) in
            absurd (omega (arith, first, more, rivals_are down rows row i, means.few))
      ];
    }

-- ---- excluded

-- a certain row that must come before a listed one does so in the world
leader : (asked : FirstRows) (rows : List PartRow) (world : World) (row : PartRow) (x : Mark) → IsWorld asked rows world →
    IsIn row rows → IsIn x world → x.name ≡ row.name → (z : PartRow) → IsIn z rows → IsTrue (must_precede asked.down z row) →
    Partner z.name (λ (m : Mark). m.name) (λ y. comes_before asked.down y x) world
leader asked rows world row x w i j e z k t =
    let down = asked.down in
    let parts = and_parts z.certain (comes_before down (mark_at down Last z) (mark_at down First row)) t in
    let has = w.certain z k parts.0 in
    let early = up_to_before down has.mark (mark_at down Last z) (mark_at down First row)
    (up_to_last down z has.mark has.named (w.keys z has.mark k has.is has.named)) parts.1 in
    record {
      element = has.mark;
      is = has.is;
      named = has.named;
      passes = before_up_to down has.mark (mark_at down First row) x early (first_up_to down row x e (w.keys row x i j e));
    }

excluded_right : (asked : FirstRows) (rows : List PartRow) (world : World) → AreNamedOnce (names_of rows) → IsWorld asked rows world →
    (row : PartRow) (mark : Mark) → IsIn row rows → IsIn mark world → mark.name ≡ row.name → standing asked rows row ≡ Excluded →
    ¬ IsFirst asked world mark
excluded_right asked rows world n w row x i j e s f =
    let down = asked.down in
    let more = partners (λ (z : PartRow). z.name) (λ (m : Mark). m.name) (λ z. must_precede down z row) (λ y. comes_before down y x)
    rows world n (λ z k t. leader asked rows world row x w i j e z k t) in
    absurd (omega (arith, more, when_excluded asked rows row s, f))

pub standings_are_right : StandingsAreRight
standings_are_right asked rows world n w =
    record {
      certain = certain_right asked rows world w;
      excluded = excluded_right asked rows world n w;
      unlisted = λ x j not_listed f. not_listed (w.listed x j (first_of_part asked world x f));
    }
