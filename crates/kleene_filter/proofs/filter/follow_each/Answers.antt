use Rattle.std.proofs.Common.{◌≡◌, ◌≢◌, ◌<◌, ◌++◌, List, length, take, drop, length-set, set, get_or, slice_get, inl, inr, ap, sym, subst, ◌∙◌, arith, zero-add}
use Rattle.std.proofs.lemmas.Bool.{cases_lt}
use Rattle.std.proofs.lemmas.List.{take_at}
use Rattle.std.proofs.lemmas.Option.{slice_get-get_or, slice_get_within}
use Rattle.kleene_filter.specs.declared.masks.AtomMasks.{AtomMasks}
use Rattle.kleene_filter.specs.Masks.{AreMasksOf, Follows}
use Rattle.kleene_filter.proofs.Tracking.{element, not_written, same_some, was_followed, written}
use Rattle.kleene_filter.proofs.filter.follow_each.Goals as goal

pub follow-requires : goal.follow-requires
follow-requires c =
    let all = c.loop-own.own-items in
    let i = c.loop-own.own-index in
    let atoms = c.requires.0 in
    let were = c.requires.1 in
    let inside : i < length atoms = omega (arith, were.count, c.loop-own.invariant.count) in
    let atom = element atoms i inside in
    let mine = sym (c.loop-own.invariant.left i (omega arith)) ∙ slice_get-get_or all i c.own-item.result (omega arith) in
    (atom.0, was_followed c.args.masks.now.items atoms c.args.columns.now c.args.column c.args.plane.now were i (get_or all i c.own-item.result) atom.0 mine atom.1)

pub loop-own-preserved : goal.loop-own-preserved
loop-own-preserved c =
    let all = c.loop-own.own-items in
    let i = c.loop-own.own-index in
    let new = c.follow.new.self in
    let done = c.loop-own.invariant in
    let mine = sym (done.left i (omega arith)) ∙ slice_get-get_or all i c.own-item.result (omega arith) in
    record {
      count = length-set all i new ∙ done.count;
      left = λ k above. (let other : k ≢ i = omega arith in not_written all i k new other ∙ done.left k (omega arith));
      done = λ atoms were k own atom below own_is is. elim (cases_lt k i) [
        | inl low ↦ (let other : k ≢ i = omega arith in done.done atoms were k own atom low (sym (not_written all i k new other) ∙ own_is) is)
        | inr high ↦ (let same : k ≡ i = omega arith in
            let is_new : new ≡ own = same_some new own (sym (written all i new (omega arith)) ∙ ap (slice_get (set all i new)) (sym same) ∙ own_is) in
            subst (λ (m : AtomMasks). Follows m atom c.args.columns.now) is_new
            (c.follow.ensures atom (was_followed c.args.masks.now.items atoms c.args.columns.now c.args.column c.args.plane.now were i (get_or all i c.own-item.result) atom mine (ap (slice_get atoms) (sym same) ∙ is))))
      ];
    }

pub returns-clause-follow : goal.returns-clause-follow
returns-clause-follow c = λ atoms were.
    let done = c.loop-own.invariant in
    let all = c.loop-own.own-items in
    let old = c.args.masks.now in
    let whole : take old.len (all ++ drop (length all) old.items) ≡ all = take_at all (drop (length all) old.items) old.len (omega (arith, done.count, old.ok.0)) in
    subst (λ (l : List AtomMasks). AreMasksOf l 0 atoms c.args.columns.now) (sym whole) (record {
      room = omega (arith, were.count, done.count);
      each = λ k own atom mine is.
          (let inside : k < length atoms = slice_get_within atoms k atom is in
          done.done atoms were k own atom (omega (arith, were.count, done.count)) (sym (ap (slice_get all) (zero-add k)) ∙ mine) is);
    })
