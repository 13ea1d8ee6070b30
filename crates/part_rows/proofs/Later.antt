-- With later reports certain rows stay certain, and excluded rows stay excluded.
use Rattle.std.proofs.Common.{◌≡◌, ◌≤◌, Bool, List, refl, sym, ap, ◌∙◌, subst, arith, IsTrue}
use Rattle.std.proofs.lemmas.Bool.{and_from, and_parts, both_ways}
use Rattle.query_model.specs.declared.bounds.Standing.{Standing}
use Rattle.query_model.specs.declared.bounds.Standing.TheVariants.{Certain, Possible, Excluded}
use Rattle.query_model.specs.Ranking.{StandingKept}
use Rattle.part_rows.specs.declared.row.End.TheVariants.{First, Last}
use Rattle.query_kinds.specs.declared.rows.FirstRows.{FirstRows}
use Rattle.part_rows.specs.declared.row.PartRow.{PartRow}
use Rattle.part_rows.specs.Laws.{AreLater, IsNarrower, StandingsNest}
use Rattle.part_rows.specs.Marks.{comes_before, mark_at}
use Rattle.part_rows.specs.Standings.{leaders, may_precede, must_precede, rivals, standing}
use Rattle.part_rows.specs.Worlds.{AreNamedOnce, IsIn, names_of}
use Rattle.part_rows.proofs.Ends.{first_narrower, first_to_last, last_narrower}
use Rattle.part_rows.proofs.Lists.{in_without, once_without, other_name, same_named, still_in, without}
use Rattle.part_rows.proofs.Orders.{before_up_to, is_order, up_to_before}
use Rattle.part_rows.proofs.Ranks.{Partner, partners}
use Rattle.part_rows.proofs.Standing.{is_certain_by, is_excluded_by, rivals_are, when_certain, when_excluded}

narrower : (down : Bool) (olds rows : List PartRow) (old row : PartRow) → AreNamedOnce (names_of olds) → AreLater down olds rows → IsIn old olds → IsIn row rows →
    row.name ≡ old.name → IsNarrower down old row
narrower down olds rows old row n later i j e =
    let was = later.listed row j in
    let same = same_named (λ (z : PartRow). z.name) was.old old olds n was.is i (sym was.narrower.named ∙ e) in
    subst (λ o. IsNarrower down o row) same was.narrower

-- ---- rivals

old_rival : (down : Bool) (olds rows : List PartRow) (old row : PartRow) (i : IsIn old olds) (j : IsIn row rows) → AreNamedOnce (names_of rows) →
    AreLater down olds rows → row.name ≡ old.name → IsNarrower down old row → (z : PartRow) → IsIn z (without row rows j) → IsTrue (may_precede down z row) →
    Partner z.name (λ (o : PartRow). o.name) (λ o. may_precede down o old) (without old olds i)
old_rival down olds rows old row i j n later e narrow z k t =
    let was = later.listed z (in_without row rows j z k) in
    let early = up_to_before down (mark_at down First was.old) (mark_at down First z) (mark_at down Last row)
    (first_narrower down was.old z was.narrower) t in
    record {
      element = was.old;
      is = still_in old olds i was.old was.is
          (λ f. other_name (λ (o : PartRow). o.name) row rows j z n k (was.narrower.named ∙ ap (λ o. o.name) f ∙ sym e));
      named = sym was.narrower.named;
      passes = before_up_to down (mark_at down First was.old) (mark_at down Last row) (mark_at down Last old) early (last_narrower down old row narrow);
    }

fewer_rivals : (down : Bool) (olds rows : List PartRow) (old row : PartRow) → IsIn old olds → IsIn row rows → AreNamedOnce (names_of rows) →
    AreLater down olds rows → row.name ≡ old.name → IsNarrower down old row → rivals down rows row ≤ rivals down olds old
fewer_rivals down olds rows old row i j n later e narrow =
    let less = partners (λ (z : PartRow). z.name) (λ (o : PartRow). o.name) (λ z. may_precede down z row) (λ o. may_precede down o old)
    (without row rows j) (without old olds i) (once_without (λ (z : PartRow). z.name) row rows j n)
    (old_rival down olds rows old row i j n later e narrow) in
    omega (arith, less, rivals_are down rows row j, rivals_are down olds old i)

-- ---- leaders

-- a row that must come before another is one of those that may, where each allows a key
leaders_are_rivals : (down : Bool) (rows : List PartRow) (row : PartRow) → IsIn row rows → AreNamedOnce (names_of rows) →
    ((z : PartRow) → IsIn z rows → (old : PartRow) × IsNarrower down old z) → leaders down rows row ≤ rivals down rows row
leaders_are_rivals down rows row j n allow =
    let here = first_to_last down row (allow row j).0 (allow row j).1 in
    let less = partners (λ (z : PartRow). z.name) (λ (o : PartRow). o.name) (λ z. must_precede down z row) (λ z. may_precede down z row)
    rows (without row rows j) n
    (λ z k t.
    let parts = and_parts z.certain (comes_before down (mark_at down Last z) (mark_at down First row)) t in
    let early = up_to_before down (mark_at down First z) (mark_at down Last z) (mark_at down First row)
    (first_to_last down z (allow z k).0 (allow z k).1) parts.1 in
    record {
      element = z;
      is = still_in row rows j z k (λ f.
          both_ways (comes_before down (mark_at down First row) (mark_at down First row)) ((is_order down).irreflexive (mark_at down First row))
          (subst (λ o. IsTrue (comes_before down (mark_at down First o) (mark_at down First row))) f early));
      named = refl;
      passes = before_up_to down (mark_at down First z) (mark_at down First row) (mark_at down Last row) early here;
    }) in
    omega (arith, less, rivals_are down rows row j)

later_leader : (down : Bool) (olds rows : List PartRow) (old row : PartRow) → AreNamedOnce (names_of olds) → AreLater down olds rows →
    IsNarrower down old row → (z : PartRow) → IsIn z olds → IsTrue (must_precede down z old) →
    Partner z.name (λ (o : PartRow). o.name) (λ o. must_precede down o row) rows
later_leader down olds rows old row n later narrow z k t =
    let parts = and_parts z.certain (comes_before down (mark_at down Last z) (mark_at down First old)) t in
    let kept = later.kept z k parts.0 in
    let same = narrower down olds rows z kept.row n later k kept.is kept.named in
    let early = up_to_before down (mark_at down Last kept.row) (mark_at down Last z) (mark_at down First old)
    (last_narrower down z kept.row same) parts.1 in
    record {
      element = kept.row;
      is = kept.is;
      named = kept.named;
      passes = and_from kept.row.certain (comes_before down (mark_at down Last kept.row) (mark_at down First row)) (same.certain parts.0)
          (before_up_to down (mark_at down Last kept.row) (mark_at down First old) (mark_at down First row) early (first_narrower down old row narrow));
    }

-- ---- standings

stays_certain : (asked : FirstRows) (olds rows : List PartRow) (old row : PartRow) → AreNamedOnce (names_of olds) → AreNamedOnce (names_of rows) →
    AreLater asked.down olds rows → IsIn old olds → IsIn row rows → row.name ≡ old.name → standing asked olds old ≡ Certain → standing asked rows row ≡ Certain
stays_certain asked olds rows old row n m later i j e s =
    let means = when_certain asked olds old s in
    let narrow = narrower asked.down olds rows old row n later i j e in
    let few = fewer_rivals asked.down olds rows old row i j m later e narrow in
    let lead = leaders_are_rivals asked.down rows row j m (λ z k. let was = later.listed z k in (was.old, was.narrower)) in
    is_certain_by asked rows row (omega (arith, means.few, few, lead)) (narrow.certain means.certain) (omega (arith, means.few, few))

stays_excluded : (asked : FirstRows) (olds rows : List PartRow) (old row : PartRow) → AreNamedOnce (names_of olds) →
    AreLater asked.down olds rows → IsIn old olds → IsIn row rows → row.name ≡ old.name → standing asked olds old ≡ Excluded → standing asked rows row ≡ Excluded
stays_excluded asked olds rows old row n later i j e s =
    let narrow = narrower asked.down olds rows old row n later i j e in
    let more = partners (λ (z : PartRow). z.name) (λ (o : PartRow). o.name) (λ z. must_precede asked.down z old) (λ z. must_precede asked.down z row)
    olds rows n (later_leader asked.down olds rows old row n later narrow) in
    is_excluded_by asked rows row (omega (arith, more, when_excluded asked olds old s))

kept_by : (asked : FirstRows) (olds rows : List PartRow) (old row : PartRow) → AreNamedOnce (names_of olds) → AreNamedOnce (names_of rows) →
    AreLater asked.down olds rows → IsIn old olds → IsIn row rows → row.name ≡ old.name → (o : Standing) → standing asked olds old ≡ o →
    StandingKept o (standing asked rows row)
kept_by asked olds rows old row n m later i j e Certain s = stays_certain asked olds rows old row n m later i j e s
kept_by asked olds rows old row n m later i j e Possible s = tt
kept_by asked olds rows old row n m later i j e Excluded s = stays_excluded asked olds rows old row n later i j e s

pub standings_nest : StandingsNest
standings_nest asked olds rows n m later =
    record {
      certain = λ old i s.
          let kept = later.kept old i (when_certain asked olds old s).certain in
          record {
            row = kept.row;
            is = kept.is;
            named = kept.named;
            certain = stays_certain asked olds rows old kept.row n m later i kept.is kept.named s;
          };
      kept = λ old row i j e. kept_by asked olds rows old row n m later i j e (standing asked olds old) refl;
    }
