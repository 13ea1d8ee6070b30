use Rattle.std.proofs.Common.{◌≡◌, ◌+◌, ◌-◌, ◌*◌, ◌/◌, ◌^◌, ◌<◌, ◌≤◌, nat_abs, ◌-ℤ◌, ℕ, Some, ap, subst, sym, ◌∙◌, arith, to_z, of_z, div-mul-le_self}
use Rattle.std.proofs.lemmas.Int.{ints}
use Rattle.std.specs.Int.{w128}
use Rattle.daq_table.specs.Tables.{first_code, planes, spread}
use Rattle.query_model.specs.Knowledge.{prefix_of}
use Rattle.query_model.proofs.Groups.{prefix_small}
use Rattle.clip_bounds.proofs.level.prefix_of.Goals as goal
use Rattle.clip_bounds.proofs.level.prefix_of.Goals.{After-planes_unread}

-- how far the number lies above the base
is_distance : (c : After-planes_unread) → c.distance.result ≡ nat_abs (c.args.number -ℤ c.args.known.now.ends.base)
is_distance c =
    let again : to_z w128 (of_z w128 c.args.number) ≡ c.args.number = omega (arith, ints) in
    c.distance.ensures.distance ∙ ap (λ z. nat_abs (z -ℤ c.args.known.now.ends.base)) again

is_prefix : (c : After-planes_unread) →
    (c.least_code.result + c.distance.result) / 2 ^ c.planes_unread.result ≡ prefix_of c.args.known.now.ends c.args.known.now.known.read (Some (nat_abs (c.args.number -ℤ c.args.known.now.ends.base)))
is_prefix c =
    let ends = c.args.known.now.ends in
    ap (λ n. (n + c.distance.result) / 2 ^ c.planes_unread.result) c.least_code.ensures.code ∙ ap (λ n. (first_code ends + n) / 2 ^ c.planes_unread.result) (is_distance c)
    ∙ ap (λ k. (first_code ends + nat_abs (c.args.number -ℤ ends.base)) / 2 ^ k) c.planes_unread.ensures.unread

pub returns-clause-prefix : goal.returns-clause-prefix
returns-clause-prefix c = is_prefix c

pub returns-clause-few : goal.returns-clause-few
returns-clause-few c =
    let ends = c.args.known.now.ends in
    let read = c.args.known.now.known.read in
    let within = subst (λ n. n ≤ spread ends) (is_distance c) c.distance.ensures.few in
    subst (λ n. n < 2 ^ read) (sym (is_prefix c)) (prefix_small ends read (Some (nat_abs (c.args.number -ℤ ends.base))) c.rows-rows.ensures.known.some_read within)

pub returns-clause-legal : goal.returns-clause-legal
returns-clause-legal c =
    let ends = c.args.known.now.ends in
    let k = 2 ^ (planes ends - c.args.known.now.known.read) in
    let u = nat_abs (c.args.number -ℤ ends.base) in
    let within = subst (λ n. n ≤ spread ends) (is_distance c) c.distance.ensures.few in
    let part = div-mul-le_self (first_code ends + u) k in
    subst (λ p. p * k ≤ first_code ends + spread ends) (sym (is_prefix c)) (less (prefix_of ends c.args.known.now.known.read (Some u) * k) (first_code ends) u (spread ends) part within)
  where
    less : (p f u s : ℕ) → p ≤ f + u → u ≤ s → p ≤ f + s
    less p f u s h g = omega arith
