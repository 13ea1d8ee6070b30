use Rattle.std.proofs.Common.{◌≡◌, ◌-◌, [], false, pos, map, count_by, to_z, of_z, refl, sym, ◌∙◌, ap, arith}
use Rattle.std.specs.Int.{w128}
use Rattle.std.proofs.lemmas.Bool.{not-true}
use Rattle.std.proofs.lemmas.Int.{ints}
use Rattle.query_model.specs.declared.query.ItemKind.TheVariants.{Avg, Count}
use Rattle.kleene_filter.specs.Filters.{is_certain, is_possible}
use Rattle.query_model.specs.Bounds.{pairs}
use Rattle.query_model.specs.Truths.{may_be_null, null_of}
use Rattle.query_model.specs.Validity.{declared_ranges}
use Rattle.round_engine.proofs.Declared.{never_null}
use Rattle.round_engine.proofs.Masked.{count_bound, count_kind, count_parted, count_tested, counted_by_filter}
use Rattle.round_engine.proofs.counts.bound_of_counts.Goals as goal

pub overflow_sub-all : goal.overflow_sub-all
overflow_sub-all c = (let truths = c.args.filter.now.truths in omega (arith, c.possible-all.ensures, c.unknown.ensures, count_parted truths))

pub returns : goal.returns
returns c =
    let item = c.args.item.now in
    let frame = c.args.columns.now.frame in
    let known = c.args.columns.now.known in
    let counted = count_kind item.kind _ c.requires.counted in
    let null : may_be_null (null_of item.arg (declared_ranges frame)) ≡ false = not-true _ counted.1 in
    let truths = c.args.filter.now.truths in
    let told = counted_by_filter c.args.query.now item c.args.columns.now c.requires.plain truths (map is_certain truths) (map is_possible truths) c.requires.judged refl refl (λ r. never_null item.arg frame known r null) in
    let certain : c.possible-all.result - c.unknown.result ≡ count_by (λ b. b) (map is_certain truths) =
    omega (arith, c.possible-all.ensures, c.unknown.ensures, count_parted truths, count_tested is_certain truths) in
    let low : to_z w128 (of_z w128 c.from.result) ≡ c.from.result = omega (arith, ints) in
    let high : to_z w128 (of_z w128 c.from-2.result) ≡ c.from-2.result = omega (arith, ints) in (
      λ average. let apart : Count ≡ Avg = sym counted.0 ∙ average in cc,
      count_bound item.kind (pairs c.args.query.now item [] frame known) _ _ counted.0
          (low ∙ c.from.ensures ∙ ap pos (certain ∙ told.0)) (high ∙ c.from-2.ensures ∙ ap pos (c.possible-all.ensures ∙ count_tested is_possible truths ∙ told.1)),
    )
