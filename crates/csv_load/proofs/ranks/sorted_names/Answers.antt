use Rattle.std.proofs.Common.{◌≡◌, ◌∙◌, ℕ, map, Vec, Global, sym, ap, rules}
use Rattle.std.proofs.lemmas.Map.Iter.{iter_end}
use Rattle.std.proofs.lemmas.Simd.{map-map}
use Rattle.std.specs.Map.Iter.{deref}
use Rattle.csv_load.proofs.RankFacts.{sorted_viewed}
use Rattle.csv_load.proofs.ranks.sorted_names.Goals as goal

pub returns-clause-same : goal.returns-clause-same
returns-clause-same c =
    let all : map deref c.loop-name.yielded ≡ c.args.names.now.keys = search (rules, iter_end) in
    c.new-2.ensures ∙ c.loop-name.invariant ∙ sym (map-map (λ (k : Vec ℕ Global). k.items) (deref {X = Vec ℕ Global}) c.loop-name.yielded) ∙ ap (map (λ (k : Vec ℕ Global). k.items)) all

pub returns-clause-sorted : goal.returns-clause-sorted
returns-clause-sorted c =
    let all : map deref c.loop-name.yielded ≡ c.args.names.now.keys = search (rules, iter_end) in
    let same = c.new-2.ensures ∙ c.loop-name.invariant ∙ sym (map-map (λ (k : Vec ℕ Global). k.items) (deref {X = Vec ℕ Global}) c.loop-name.yielded) ∙ ap (map (λ (k : Vec ℕ Global). k.items)) all in
    rw same (sorted_viewed (λ (k : Vec ℕ Global). k.items) c.args.names.now.keys c.iter-name-items.ensures.ordered)
