use Rattle.std.proofs.Common.{false, refl, subst, ◌∙◌}
use Rattle.std.proofs.lemmas.Option.{get_or_from_slice_get}
use Rattle.aggregates.specs.ExtremeRows.{IsExtremeRow}
use Rattle.aggregates.proofs.KeptExtremes.{keeps_extreme, none_some, some_of_all}
use Rattle.aggregates.proofs.kept_extreme.KeptExtreme.rows.Goals as goal
use Rattle.aggregates.proofs.kept_extreme.KeptExtreme.rows.Goals.{in-Some, in-Some-2, in-None}

pub returns-clause-some : goal.returns-clause-some
returns-clause-some c =
    let extreme = c.args.extreme in
    let column = c.args.known.now in
    let may = c.args.may.now in
    let must = c.args.must.now in
    elim c.match-all.branch [
      | in-Some w ↦
          (let has = get_or_from_slice_get must w.in-Some.row w.get.result false w.get.ensures ∙ w.if-get.true in
          rw w.some-is (some_of_all extreme column may must w.in-Some.row c.requires.some has (subst (IsExtremeRow extreme column may) w.in-Some.is c.search-all.ensures.row)))
      | in-Some-2 w ↦ rw w.some-is w.search_some-some.ensures.row
      | in-None w ↦ rw w.some-is (none_some extreme column may must c.requires.some (subst (IsExtremeRow extreme column may) w.in-None.is c.search-all.ensures.row))
    ]

pub returns-clause-kept : goal.returns-clause-kept
returns-clause-kept c =
    keeps_extreme c.args.extreme c.args.known.now c.args.may.now c.args.must.now c.search-all.new.self (record { blocks = c.search-all.new.self.blocks; row = c.match-all.some }) c.search-all.ensures.kept refl (returns-clause-some c)
