use Rattle.std.proofs.Common.{◌≡◌, ◌<◌, ◌∙◌, ℕ, List, ℤ, Vec, Global, All, IsTrue, map, pos, get_or, length, drop, ap, subst, sym, arith}
use Rattle.std.proofs.lemmas.List.{take_at}
use Rattle.std.specs.List.{list_any}
use Rattle.std.specs.Str.{bytes_eq}
use Rattle.daq_table.specs.Dictionaries.{distinct, rank_of}
use Rattle.daq_table.specs.Raised.{lowered}
use Rattle.csv_load.proofs.NumberFacts.{all_known, ranks_at}
use Rattle.csv_load.proofs.RaisedFacts.{lowered_at, same_length}
use Rattle.csv_load.proofs.texts.Texts.into_ranks.Goals as goal

pub ranks_of-requires-clause-known : goal.ranks_of-requires-clause-known
ranks_of-requires-clause-known c =
    let view = λ (k : Vec ℕ Global). k.items in
    let known = all_known (map view c.self.inside.kept.keys) c.args.names.now c.self.inside.numbers.items c.self.invariant (c.requires.names ∙ ap distinct (sym c.self.view_is)) in
    subst (λ (ks : List (Vec ℕ Global)). All (λ text. IsTrue (list_any (bytes_eq text) c.args.names.now)) (map view ks)) (sym c.as_slice.ensures.keys) known

pub become_ranks-requires : goal.become_ranks-requires
become_ranks-requires c =
    let view = λ (k : Vec ℕ Global). k.items in
    let rank = λ (text : List ℕ). pos (rank_of c.args.names.now text) in
    let kept = c.in_ok-ranks.ensures ∙ ap (λ (ks : List (Vec ℕ Global)). map rank (map view ks)) c.as_slice.ensures.keys in
    let many : length (map view c.self.inside.kept.keys) ≡ length c.deref.result.now = sym (ap length c.deref.ensures.value ∙ same_length lowered rank c.in_ok-ranks.ranks.items (map view c.self.inside.kept.keys) kept) in
    subst (λ (ns : List ℕ). All (λ n. n < length c.deref.result.now) ns) (sym c.deref_mut.ensures.value)
    (subst (λ (k : ℕ). All (λ n. n < k) c.self.inside.numbers.items) many c.self.invariant.within)

pub returns : goal.returns
returns c =
    let view = λ (k : Vec ℕ Global). k.items in
    let rank = λ (text : List ℕ). pos (rank_of c.args.names.now text) in
    let numbers = c.self.inside.numbers.items in
    let ranks = c.deref.result.now in
    let kept = ap (map lowered) c.deref.ensures.value ∙ c.in_ok-ranks.ensures ∙ ap (λ (ks : List (Vec ℕ Global)). map rank (map view ks)) c.as_slice.ensures.keys in
    let whole = take_at c.become_ranks.new.numbers (drop (length c.become_ranks.new.numbers) numbers) c.self.inside.numbers.len (omega (arith, c.become_ranks.auto.numbers, c.deref_mut.ensures.len)) in
    let many : length (map view c.self.inside.kept.keys) ≡ length ranks = sym (same_length lowered rank ranks (map view c.self.inside.kept.keys) kept) in
    let within : All (λ n. n < length ranks) c.deref_mut.result.now = subst (λ (ns : List ℕ). All (λ n. n < length ranks) ns) (sym c.deref_mut.ensures.value) (subst (λ (k : ℕ). All (λ n. n < k) numbers) many c.self.invariant.within) in
    let written = c.become_ranks.ensures in
    ap (map lowered) whole ∙ ap (map lowered) written ∙ lowered_at ranks c.deref_mut.result.now within
    ∙ ap (λ (ns : List ℕ). map (λ (n : ℕ). get_or (map lowered ranks) n (pos 0)) ns) c.deref_mut.ensures.value
    ∙ ap (λ (rs : List ℤ). map (λ (n : ℕ). get_or rs n (pos 0)) numbers) kept
    ∙ ranks_at rank (map view c.self.inside.kept.keys) numbers c.self.invariant.within ∙ ap (map rank) c.self.view_is
