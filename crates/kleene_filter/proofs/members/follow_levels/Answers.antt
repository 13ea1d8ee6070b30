use Rattle.std.proofs.Common.{◌≡◌, ◌≢◌, ◌++◌, List, length, length-set, set, get_or, get_or-set_other, get_or-set_same, take, drop, inl, inr, ap, sym, subst, ◌∙◌, arith}
use Rattle.std.proofs.lemmas.Bool.{cases_lt}
use Rattle.std.proofs.lemmas.List.{take_at}
use Rattle.known_column.specs.Columns.{KnownColumn}
use Rattle.kleene_filter.specs.declared.members.Level.{Level}
use Rattle.kleene_filter.specs.Members.{HasLevels, IsLevel}
use Rattle.kleene_filter.specs.Parted.{IsBetweenEnds}
use Rattle.kleene_filter.proofs.MemberTruths.{same_level}
use Rattle.kleene_filter.proofs.members.follow_levels.Goals as goal

pub follow-requires : goal.follow-requires
follow-requires c =
    let before = c.requires.before in
    let values = c.args.values.now in
    let all = c.loop-level.level-items in
    let i = c.loop-level.level-index in
    let own = c.level-item.result in
    record {
      before = before;
      had = subst (IsLevel before values) (sym (c.loop-level.invariant.left i own (omega arith))) (c.requires.had.each i own (omega (arith, c.loop-level.invariant.count)));
      further = c.requires.further;
    }

pub loop-level-preserved : goal.loop-level-preserved
loop-level-preserved c =
    let all = c.loop-level.level-items in
    let i = c.loop-level.level-index in
    let new = c.follow.new.self in
    let stood = c.loop-level.invariant in
    record {
      count = length-set all i new ∙ stood.count;
      done = λ k d below. elim (cases_lt k i) [
        | inl low ↦ (let other : k ≢ i = omega arith in subst (IsLevel c.args.column.now c.args.values.now) (sym (get_or-set_other all i k new d other)) (stood.done k d low))
        | inr high ↦ (let same : k ≡ i = omega arith in
            subst (IsLevel c.args.column.now c.args.values.now) (sym (ap (λ n. get_or (set all i new) n d) same ∙ get_or-set_same all i new d (omega arith))) c.follow.ensures.level)
      ];
      left = λ k d above. (let other : k ≢ i = omega arith in get_or-set_other all i k new d other ∙ stood.left k d (omega arith));
      numbers = λ number. same_level all i new c.level-item.result number c.follow.ensures.number (omega arith) ∙ stood.numbers number;
    }

pub returns : goal.returns
returns c =
    let stood = c.loop-level.invariant in
    let all = c.loop-level.level-items in
    let old = c.args.levels.now in
    let values = c.args.values.now in
    let before = c.requires.before in
    let whole : take old.len (all ++ drop (length all) old.items) ≡ all = take_at all (drop (length all) old.items) old.len (omega (arith, stood.count, old.ok.0)) in
    subst (λ (l : List Level). HasLevels c.args.column.now values l) (sym whole) (record {
      each = λ k d below. stood.done k d (omega arith);
      has = λ number listed between. stood.numbers number ∙ c.requires.had.has number listed (subst (λ (k : KnownColumn). IsBetweenEnds k.ends number) c.requires.further.is between);
    })
