-- The sums and the numbers of shards, one shard on.
use Rattle.std.proofs.Common.{◌≡◌, ℕ, ◌+◌, ◌<◌, ℤ, ◌+ℤ◌, true, false, List, length, get_or, drop, map, refl, arith, ap, ◌∙◌}
use Rattle.std.specs.List.{cons_option}
use Rattle.std.proofs.lemmas.Bool.{true≢false, false≢true}
use Rattle.std.proofs.lemmas.Int.{ints}
use Rattle.std.proofs.lemmas.List.{drop_more}
use Rattle.interval_calc.specs.Intervals.{Fraction}
use Rattle.query_model.specs.declared.bounds.AverageBound as code
use Rattle.query_model.specs.declared.bounds.Nullity.{Nullity}
use Rattle.query_model.specs.declared.bounds.Nullity.TheVariants.{Never, Possibly, Always}
use Rattle.query_model.specs.Bounds.{fractions_of}
use Rattle.shard_bounds.specs.Averages.{added_up, fraction_by, has_rows, fraction_of, sums_of}

with_rows : (w : Nullity) (f : Fraction) (fs : List Fraction) → has_rows w ≡ true → added_up (cons_option (fraction_by w f) fs) ≡ record { num = f.num +ℤ (added_up fs).num; den = f.den + (added_up fs).den }
with_rows Never f fs h = refl
with_rows Possibly f fs h = refl
with_rows Always f fs h = absurd (false≢true h)

without_rows : (w : Nullity) (f : Fraction) (fs : List Fraction) → has_rows w ≡ false → added_up (cons_option (fraction_by w f) fs) ≡ added_up fs
without_rows Never f fs h = absurd (true≢false h)
without_rows Possibly f fs h = absurd (true≢false h)
without_rows Always f fs h = refl

-- what is added from a place on
abbrev pub left : List code.AverageBound → ℕ → Fraction
left shards i = added_up (sums_of (map fractions_of (drop i shards)))

pub left_with : (shards : List code.AverageBound) (i : ℕ) (d : code.AverageBound) → i < length shards → has_rows (get_or shards i d).null ≡ true →
    (left shards i).num ≡ (get_or shards i d).lo.num +ℤ (left shards (i + 1)).num
left_with shards i d h n =
    ap (λ ps. (added_up (sums_of (map fractions_of ps))).num) (drop_more shards i d h)
    ∙ ap (λ f. f.num) (with_rows (get_or shards i d).null (fraction_of (get_or shards i d).lo) (sums_of (map fractions_of (drop (i + 1) shards))) n)

pub left_without : (shards : List code.AverageBound) (i : ℕ) (d : code.AverageBound) → i < length shards → has_rows (get_or shards i d).null ≡ false →
    (left shards i).num ≡ (left shards (i + 1)).num
left_without shards i d h e =
    ap (λ ps. (added_up (sums_of (map fractions_of ps))).num) (drop_more shards i d h)
    ∙ ap (λ f. f.num) (without_rows (get_or shards i d).null (fraction_of (get_or shards i d).lo) (sums_of (map fractions_of (drop (i + 1) shards))) e)

-- a sum so far and what is left, one shard on
pub num_with : (shards : List code.AverageBound) (i : ℕ) (d : code.AverageBound) (before after whole n : ℤ) → i < length shards → has_rows (get_or shards i d).null ≡ true →
    n ≡ (get_or shards i d).lo.num → before +ℤ (left shards i).num ≡ whole → after ≡ before +ℤ n → after +ℤ (left shards (i + 1)).num ≡ whole
num_with shards i d before after whole n h r e inv next = (let step = left_with shards i d h r in omega (arith, ints))

pub num_without : (shards : List code.AverageBound) (i : ℕ) (d : code.AverageBound) (before whole : ℤ) → i < length shards → has_rows (get_or shards i d).null ≡ false →
    before +ℤ (left shards i).num ≡ whole → before +ℤ (left shards (i + 1)).num ≡ whole
num_without shards i d before whole h r inv = (let step = left_without shards i d h r in omega (arith, ints))
