-- The order of values.
use Rattle.std.proofs.Common.{◌≡◌, int_le, false, refl, arith, sym, ap, ◌∙◌, IsTrue, IsFalse}
use Rattle.std.specs.Cmp.Lexicographic.{slice_cmp}
use Rattle.std.specs.Ordering.{is_gt, is_le, nat_cmp, ordering_reverse}
use Rattle.std.specs.declared.cmp.Ordering.{Ordering}
use Rattle.std.specs.declared.cmp.Ordering.TheVariants.{Less, Equal, Greater}
use Rattle.std.proofs.lemmas.Bool.{false≢true, true_from_ne_false}
use Rattle.std.proofs.lemmas.Cmp.{nat_list_cmp_total, tied_itself, upto}
use Rattle.std.proofs.lemmas.Int.{ints}
use Rattle.shard_groups.specs.declared.keys.KeyValue.{KeyValue}
use Rattle.shard_groups.specs.declared.keys.KeyValue.TheVariants.{Number, Text}
use Rattle.shard_groups.specs.Keys.{at_most}

not_gt : (o : Ordering) → IsTrue (is_le o) → is_gt o ≡ false
not_gt Less t = refl
not_gt Equal t = refl
not_gt Greater t = absurd (false≢true t)

le : (o : Ordering) → is_gt o ≡ false → IsTrue (is_le o)
le Less f = refl
le Equal f = refl
le Greater f = absurd (false≢true (sym f))

reversed : (o p : Ordering) → o ≡ ordering_reverse p → is_le o ≡ false → IsTrue (is_le p)
reversed o Less e f = refl
reversed o Equal e f = refl
reversed o Greater e f = absurd (false≢true (sym f ∙ ap is_le e))

pub itself : (a : KeyValue) → IsTrue (at_most a a)
itself (Number x) = true_from_ne_false (int_le x x) (λ f. omega (arith, ints))
itself (Text s) = ap is_le (tied_itself nat_list_cmp_total s)

pub either : (a b : KeyValue) → IsFalse (at_most a b) → IsTrue (at_most b a)
either (Number x) (Number y) f = true_from_ne_false (int_le y x) (λ g. omega (arith, ints))
either (Number x) (Text t) f = absurd (false≢true (sym f))
either (Text s) (Number y) f = refl
either (Text s) (Text t) f =
    reversed (slice_cmp nat_cmp s t) (slice_cmp nat_cmp t s) (nat_list_cmp_total.antisymm s t) f

pub follows : (a b c : KeyValue) → IsTrue (at_most a b) → IsTrue (at_most b c) → IsTrue (at_most a c)
follows (Number x) (Number y) (Number z) p q = true_from_ne_false (int_le x z) (λ f. omega (arith, ints))
follows (Number x) (Number y) (Text u) p q = refl
follows (Number x) (Text t) (Number z) p q = absurd (false≢true q)
follows (Number x) (Text t) (Text u) p q = refl
follows (Text s) (Number y) c p q = absurd (false≢true p)
follows (Text s) (Text t) (Number z) p q = absurd (false≢true q)
follows (Text s) (Text t) (Text u) p q =
    le (slice_cmp nat_cmp s u) (upto nat_list_cmp_total s t u (not_gt (slice_cmp nat_cmp s t) p) (not_gt (slice_cmp nat_cmp t u) q))
