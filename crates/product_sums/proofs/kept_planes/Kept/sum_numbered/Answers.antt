use Rattle.std.proofs.Common.{◌≡◌, ◌≤◌, ◌<◌, ◌-◌, ◌+◌, ◌&&◌, ℕ, ℤ, min, cond, length, get_or, set, to_z, of_z, refl, ap, sym, subst, ◌∙◌, arith}
use Rattle.std.specs.Int.{w128}
use Rattle.std.specs.Simd.Lanes.{zip2}
use Rattle.std.proofs.lemmas.Int.{ints}
use Rattle.std.proofs.lemmas.List.{get_or-set_other, get_or_default, length-set}
use Rattle.std.proofs.lemmas.Simd.{length-zip2}
use Rattle.daq_table.specs.Tables.{ends_at}
use Rattle.aggregates.proofs.NumberRows.{first_plane}
use Rattle.known_column.specs.Columns.{KnownColumn}
use Rattle.known_column.specs.KnownTables.{column_at}
use Rattle.query_model.specs.Knowledge.{known_at}
use Rattle.product_sums.specs.declared.kept_pair.KeptPair.{KeptPair}
use Rattle.product_sums.specs.declared.pair_sums.PairSums.{PairSums}
use Rattle.product_sums.specs.Fetched.{first_digit, ones_of}
use Rattle.product_sums.specs.KeptProducts.{ArePairSums, CanFollowPair, first_sum, inner_end, no_sums, rows_with}
use Rattle.product_sums.proofs.KeptProducts.{kept_first, kept_next, length-ones}
use Rattle.product_sums.proofs.PairSums.{nothing}
use Rattle.product_sums.specs.Products.{sum_over}
use Rattle.product_sums.proofs.Residues.{wrapped}
use Rattle.product_sums.proofs.Thirds.{follow_among, set_done, set_left}
use Rattle.product_sums.proofs.kept_planes.Kept.sum_numbered.Goals as goal

pub loop-j-init : goal.loop-j-init
loop-j-init c =
    let table = c.args.columns.now in
    let third = c.args.third in
    let are = c.requires.planes in
    let is : c.column-known.result.now ≡ column_at table third = c.column-known.ensures.column ∙ ap (column_at table) c.from.ensures in
    let from : c.number_planes-from.result.0 ≡ first_plane (ends_at table.frame third) (known_at table.known third).read =
    c.number_planes-from.ensures.from ∙ ap (λ (k : KnownColumn). min (cond k.ends.nullable 1 0) k.known.read) is in
    let f : ℕ → ℤ = inner_end table c.args.inner.pair.first c.args.inner.parts in
    record {
      whole = refl;
      top = refl;
      size = are.size;
      done = λ i first below. absurd (omega (arith, first, below, from));
      left = λ i past below. are.read i (omega (arith, past, from)) below;
      unread = are.unread;
      sum = nothing ∙ ap wrapped (sym (kept_first table c.rows-rows.ensures.known c.args.mask.now c.requires.follow.follow.rows third are.there f c.number_planes-from.result.0 (omega (arith, from))));
    }

pub with-kept-requires : goal.with-kept-requires
with-kept-requires c =
    let table = c.args.columns.now in
    let third = c.args.third in
    let is : c.column-known.result.now ≡ column_at table third = c.column-known.ensures.column ∙ ap (column_at table) c.from.ensures in
    let ones : c.plane-plane.result.now ≡ ones_of (column_at table third) c.loop-j.j = c.plane-plane.ensures ∙ ap (λ (k : KnownColumn). ones_of k c.loop-j.j) is in
    ap length ones ∙ length-ones table c.rows-rows.ensures.known third c.requires.planes.there c.loop-j.j ∙ sym (ap (λ (w : KeptPair). length w.mask) c.loop-j.invariant.whole ∙ c.requires.whole)

pub with-rows-requires : goal.with-rows-requires
with-rows-requires c =
    let table = c.args.columns.now in
    let third = c.args.third in
    let is : c.column-known.result.now ≡ column_at table third = c.column-known.ensures.column ∙ ap (column_at table) c.from.ensures in
    let ones : c.plane-plane.result.now ≡ ones_of (column_at table third) c.loop-j.j = c.plane-plane.ensures ∙ ap (λ (k : KnownColumn). ones_of k c.loop-j.j) is in
    ap length ones ∙ length-ones table c.rows-rows.ensures.known third c.requires.planes.there c.loop-j.j ∙ sym c.requires.follow.follow.rows

pub follow_sums-sums-requires-clause-sums : goal.follow_sums-sums-requires-clause-sums
follow_sums-sums-requires-clause-sums c =
    let table = c.args.columns.now in
    let third = c.args.third in
    let pair = c.args.inner.pair in
    let j = c.loop-j.j in
    let is : c.column-known.result.now ≡ column_at table third = c.column-known.ensures.column ∙ ap (column_at table) c.from.ensures in
    let to : c.number_planes-from.result.1 ≡ (known_at table.known third).read = c.number_planes-from.ensures.to ∙ ap (λ (k : KnownColumn). k.known.read) is in
    let ones : c.plane-plane.result.now ≡ ones_of (column_at table third) j = c.plane-plane.ensures ∙ ap (λ (k : KnownColumn). ones_of k j) is in
    let before = c.loop-j.invariant.left j (omega arith) (omega (arith, to, c.loop-j-test.true)) in
    let mask = c.with-kept.ensures ∙ ap (λ l. zip2 (λ a b. a && b) c.loop-j.self.whole.mask l) ones ∙ ap (λ (w : KeptPair). rows_with table w.mask third j) c.loop-j.invariant.whole in
    let there : c.from-at.result < length c.loop-j.self.planes.items = omega (arith, c.from-at.ensures, c.loop-j.invariant.size, to, c.loop-j-test.true, c.rows-rows.ensures.known.knowledge.read third c.requires.planes.there) in
    let sums = c.index.ensures ∙ get_or_default c.loop-j.self.planes.items c.from-at.result c.index.result.now no_sums there ∙ ap (λ n. get_or c.loop-j.self.planes.items n no_sums) c.from-at.ensures in
    subst (λ m. ArePairSums table m pair c.index.result.now) (sym mask) (subst (ArePairSums table (rows_with table c.args.self.now.whole.mask third j) pair) (sym sums) before)

pub follow_sums-sums-requires-clause-rows : goal.follow_sums-sums-requires-clause-rows
follow_sums-sums-requires-clause-rows c =
    let table = c.args.columns.now in
    let third = c.args.third in
    let mask = c.args.mask.now in
    let plane = c.plane-plane.result.now in
    let is : c.column-known.result.now ≡ column_at table third = c.column-known.ensures.column ∙ ap (column_at table) c.from.ensures in
    let ones : plane ≡ ones_of (column_at table third) c.loop-j.j = c.plane-plane.ensures ∙ ap (λ (k : KnownColumn). ones_of k c.loop-j.j) is in
    let long : length plane ≡ length mask = ap length ones ∙ length-ones table c.rows-rows.ensures.known third c.requires.planes.there c.loop-j.j ∙ sym c.requires.follow.follow.rows in
    ap length c.with-rows.ensures ∙ length-zip2 (λ a b. a && b) mask plane (sym long) ∙ c.requires.follow.follow.rows

pub follow_sums-sums-requires-clause-stay : goal.follow_sums-sums-requires-clause-stay
follow_sums-sums-requires-clause-stay c stay =
    c.with-kept.ensures ∙ ap (λ (w : KeptPair). zip2 (λ a b. a && b) w.mask c.plane-plane.result.now) c.loop-j.invariant.whole
    ∙ ap (λ m. zip2 (λ a b. a && b) m c.plane-plane.result.now) (c.requires.stay stay) ∙ sym c.with-rows.ensures

pub sum-requires-clause-follow : goal.sum-requires-clause-follow
sum-requires-clause-follow c =
    let table = c.args.columns.now in
    let third = c.args.third in
    let mask = c.args.mask.now in
    let plane = c.plane-plane.result.now in
    let is : c.column-known.result.now ≡ column_at table third = c.column-known.ensures.column ∙ ap (column_at table) c.from.ensures in
    let ones : plane ≡ ones_of (column_at table third) c.loop-j.j = c.plane-plane.ensures ∙ ap (λ (k : KnownColumn). ones_of k c.loop-j.j) is in
    let long : length plane ≡ length mask = ap length ones ∙ length-ones table c.rows-rows.ensures.known third c.requires.planes.there c.loop-j.j ∙ sym c.requires.follow.follow.rows in
    subst (λ m. CanFollowPair table m c.args.inner.pair c.args.inner.parts) (sym c.with-rows.ensures) (follow_among table mask plane c.args.inner.pair c.args.inner.parts long c.requires.follow)

pub loop-j-preserved : goal.loop-j-preserved
loop-j-preserved c =
    let table = c.args.columns.now in
    let known = c.rows-rows.ensures.known in
    let third = c.args.third in
    let pair = c.args.inner.pair in
    let mask = c.args.mask.now in
    let f : ℕ → ℤ = inner_end table pair.first c.args.inner.parts in
    let j = c.loop-j.j in
    let old = c.loop-j.invariant in
    let long = c.requires.follow.follow.rows in
    let reads : ℕ = (known_at table.known third).read in
    let is : c.column-known.result.now ≡ column_at table third = c.column-known.ensures.column ∙ ap (column_at table) c.from.ensures in
    let from : c.number_planes-from.result.0 ≡ first_plane (ends_at table.frame third) reads = c.number_planes-from.ensures.from ∙ ap (λ (k : KnownColumn). min (cond k.ends.nullable 1 0) k.known.read) is in
    let to : c.number_planes-from.result.1 ≡ reads = c.number_planes-from.ensures.to ∙ ap (λ (k : KnownColumn). k.known.read) is in
    let ones : c.plane-plane.result.now ≡ ones_of (column_at table third) j = c.plane-plane.ensures ∙ ap (λ (k : KnownColumn). ones_of k j) is in
    let rows = c.with-rows.ensures ∙ ap (zip2 (λ a b. a && b) mask) ones in
    let given : ArePairSums table (rows_with table mask third j) pair c.follow_sums-sums.result = subst (λ m. ArePairSums table m pair c.follow_sums-sums.result) rows c.follow_sums-sums.ensures.sums_are in
    let at : c.from-at.result ≡ j = c.from-at.ensures in
    let there : j < length c.loop-j.self.planes.items = omega (arith, old.size, to, c.loop-j-test.true, known.knowledge.read third c.requires.planes.there) in
    let sums = c.loop-j.self.planes.items in
    let now = c.follow_sums-sums.result in
    let Followed : ℕ → PairSums → Type 0 = λ i s. ArePairSums table (rows_with table mask third i) pair s in
    let Before : ℕ → PairSums → Type 0 = λ i s. ArePairSums table (rows_with table c.args.self.now.whole.mask third i) pair s in
    let whole : to_z w128 (of_z w128 c.doubled-sum.result) ≡ c.doubled-sum.result = omega (arith, ints) in
    let more : to_z w128 (of_z w128 c.sum.result) ≡ c.sum.result = omega (arith, ints) in
    record {
      whole = old.whole;
      top = old.top;
      size = length-set sums c.from-at.result now ∙ old.size;
      done = subst (λ n. (i : ℕ) → first_digit (column_at table third) ≤ i → i < j + 1 → Followed i (get_or (set sums n now) i no_sums)) (sym at) (set_done Followed sums (first_digit (column_at table third)) j now there old.done given);
      left = subst (λ n. (i : ℕ) → j + 1 ≤ i → i < reads → Before i (get_or (set sums n now) i no_sums)) (sym at) (set_left Before sums j reads now old.left);
      unread = λ i past below. get_or-set_other sums c.from-at.result i now no_sums (λ same. omega (arith, same, at, past, to, c.loop-j-test.true)) ∙ old.unread i past (omega (arith, below, length-set sums c.from-at.result now));
      sum = whole ∙ c.doubled-sum.ensures (first_sum table mask third f (reads - j)) (sum_over (rows_with table mask third j) f) old.sum (more ∙ c.sum.ensures ∙ ap (λ m. wrapped (sum_over m f)) rows)
          ∙ ap wrapped (sym (kept_next table known mask long third c.requires.planes.there f j (omega (arith, from, c.loop-j.auto)) (omega (arith, to, c.loop-j-test.true))));
    }

pub returns-clause-planes : goal.returns-clause-planes
returns-clause-planes c =
    let table = c.args.columns.now in
    let third = c.args.third in
    let is : c.column-known.result.now ≡ column_at table third = c.column-known.ensures.column ∙ ap (column_at table) c.from.ensures in
    let to : c.number_planes-from.result.1 ≡ (known_at table.known third).read = c.number_planes-from.ensures.to ∙ ap (λ (k : KnownColumn). k.known.read) is in
    record {
      there = c.requires.planes.there;
      size = c.loop-j.invariant.size;
      read = λ j from below. c.loop-j.invariant.done j from (omega (arith, below, to, c.loop-j-test.false));
      unread = c.loop-j.invariant.unread;
    }

pub returns-clause-sum : goal.returns-clause-sum
returns-clause-sum c =
    let table = c.args.columns.now in
    let third = c.args.third in
    let f : ℕ → ℤ = inner_end table c.args.inner.pair.first c.args.inner.parts in
    let reads : ℕ = (known_at table.known third).read in
    let is : c.column-known.result.now ≡ column_at table third = c.column-known.ensures.column ∙ ap (column_at table) c.from.ensures in
    let to : c.number_planes-from.result.1 ≡ reads = c.number_planes-from.ensures.to ∙ ap (λ (k : KnownColumn). k.known.read) is in
    let all : reads - c.loop-j.j ≡ reads - reads = omega (arith, to, c.loop-j-test.false, c.loop-j.auto) in
    c.loop-j.invariant.sum ∙ ap (λ k. wrapped (first_sum table c.args.mask.now third f k)) all
