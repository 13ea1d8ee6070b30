-- What a standing says of the rows that come before.
use Rattle.std.proofs.Common.{◌≡◌, ◌≢◌, ◌<◌, ◌≤◌, nat_le, nat_lt, Bool, true, false, ◌&&◌, cond, List, refl, sym, ap, arith, IsTrue, IsFalse}
use Rattle.std.specs.List.{count_by}
use Rattle.std.proofs.lemmas.Bool.{and_from, and_parts, false≢true, le-leb, leb-true, lt-leb, lt-ltb, ltb-true, true≢false}
use Rattle.query_model.specs.declared.bounds.Standing.TheVariants.{Certain, Possible, Excluded}
use Rattle.query_kinds.specs.declared.rows.FirstRows.{FirstRows}
use Rattle.part_rows.specs.declared.row.PartRow.{PartRow}
use Rattle.part_rows.specs.Standings.{leaders, may_precede, rivals, standing}
use Rattle.part_rows.specs.Tables.{is_certain, is_excluded}
use Rattle.part_rows.specs.Worlds.{IsIn}
use Rattle.part_rows.proofs.Lists.{count_without, without}

pub certain≢excluded : Certain ≢ Excluded
certain≢excluded e = true≢false (ap is_certain e)

pub certain≢possible : Certain ≢ Possible
certain≢possible e = true≢false (ap is_certain e)

pub excluded≢possible : Excluded ≢ Possible
excluded≢possible e = true≢false (ap is_excluded e)

certain_parts : (out in_first : Bool) → cond out Excluded (cond in_first Certain Possible) ≡ Certain → (IsFalse out) × (IsTrue in_first)
certain_parts true b e = absurd (certain≢excluded (sym e))
certain_parts false true e = (refl, refl)
certain_parts false false e = absurd (certain≢possible (sym e))

excluded_part : (out in_first : Bool) → cond out Excluded (cond in_first Certain Possible) ≡ Excluded → IsTrue out
excluded_part true b e = refl
excluded_part false true e = absurd (certain≢excluded e)
excluded_part false false e = absurd (excluded≢possible (sym e))

certain_by : (out in_first : Bool) → IsFalse out → IsTrue in_first → cond out Excluded (cond in_first Certain Possible) ≡ Certain
certain_by true b f t = absurd (true≢false f)
certain_by false true f t = refl
certain_by false false f t = absurd (false≢true t)

excluded_by : (out in_first : Bool) → IsTrue out → cond out Excluded (cond in_first Certain Possible) ≡ Excluded
excluded_by true b t = refl
excluded_by false b t = absurd (false≢true t)

-- the other rows that may come before
pub rivals_are : (down : Bool) (rows : List PartRow) (row : PartRow) (i : IsIn row rows) →
    rivals down rows row ≡ count_by (λ other. may_precede down other row) (without row rows i)
rivals_are down rows row i = omega (arith, count_without (λ other. may_precede down other row) row rows i)

pub record MeansCertain (asked : FirstRows) (rows : List PartRow) (row : PartRow) : Type 0 where
  pub certain : IsTrue row.certain
  pub few : rivals asked.down rows row < asked.limit

pub when_certain : (asked : FirstRows) (rows : List PartRow) (row : PartRow) → standing asked rows row ≡ Certain → MeansCertain asked rows row
when_certain asked rows row e =
    let parts = certain_parts (nat_le asked.limit (leaders asked.down rows row)) (row.certain && nat_lt (rivals asked.down rows row) asked.limit) e in
    let both = and_parts row.certain (nat_lt (rivals asked.down rows row) asked.limit) parts.1 in
    record { certain = both.0; few = ltb-true (rivals asked.down rows row) asked.limit both.1 }

pub when_excluded : (asked : FirstRows) (rows : List PartRow) (row : PartRow) → standing asked rows row ≡ Excluded →
    asked.limit ≤ leaders asked.down rows row
when_excluded asked rows row e =
    leb-true asked.limit (leaders asked.down rows row)
    (excluded_part (nat_le asked.limit (leaders asked.down rows row)) (row.certain && nat_lt (rivals asked.down rows row) asked.limit) e)

pub is_certain_by : (asked : FirstRows) (rows : List PartRow) (row : PartRow) → leaders asked.down rows row < asked.limit →
    IsTrue row.certain → rivals asked.down rows row < asked.limit → standing asked rows row ≡ Certain
is_certain_by asked rows row l t r =
    certain_by (nat_le asked.limit (leaders asked.down rows row)) (row.certain && nat_lt (rivals asked.down rows row) asked.limit)
    (lt-leb asked.limit (leaders asked.down rows row) l)
    (and_from row.certain (nat_lt (rivals asked.down rows row) asked.limit) t (lt-ltb (rivals asked.down rows row) asked.limit r))

pub is_excluded_by : (asked : FirstRows) (rows : List PartRow) (row : PartRow) → asked.limit ≤ leaders asked.down rows row →
    standing asked rows row ≡ Excluded
is_excluded_by asked rows row l =
    excluded_by (nat_le asked.limit (leaders asked.down rows row)) (row.certain && nat_lt (rivals asked.down rows row) asked.limit)
    (le-leb asked.limit (leaders asked.down rows row) l)
