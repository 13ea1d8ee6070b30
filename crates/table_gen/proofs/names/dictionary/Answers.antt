use Rattle.std.proofs.Common.{◌≡◌, ◌∙◌, ℕ, map, Vec, Global, sym, ap, rules}
use Rattle.std.proofs.lemmas.Map.Iter.{iter_end}
use Rattle.std.proofs.lemmas.Simd.{map-map}
use Rattle.std.specs.Map.Iter.{deref}
use Rattle.daq_table.proofs.Dictionaries.{distinct_sorted}
use Rattle.table_gen.specs.Draws.{text_of}
use Rattle.table_gen.proofs.names.dictionary.Goals as goal

pub returns-clause-same : goal.returns-clause-same
returns-clause-same c =
    let all : map deref c.loop-name.yielded ≡ c.in_ok-distinct.distinct.keys = search (rules, iter_end) in
    c.new-2.ensures ∙ c.loop-name.invariant ∙ sym (map-map (λ (k : Vec ℕ Global). k.items) (deref {X = Vec ℕ Global}) c.loop-name.yielded) ∙ ap (map (λ (k : Vec ℕ Global). k.items)) all
    ∙ c.in_ok-distinct.ensures

pub returns-clause-sorted : goal.returns-clause-sorted
returns-clause-sorted c =
    let all : map deref c.loop-name.yielded ≡ c.in_ok-distinct.distinct.keys = search (rules, iter_end) in
    let same = c.new-2.ensures ∙ c.loop-name.invariant ∙ sym (map-map (λ (k : Vec ℕ Global). k.items) (deref {X = Vec ℕ Global}) c.loop-name.yielded) ∙ ap (map (λ (k : Vec ℕ Global). k.items)) all ∙ c.in_ok-distinct.ensures in
    rw same (distinct_sorted (map text_of c.args.codes.now))
