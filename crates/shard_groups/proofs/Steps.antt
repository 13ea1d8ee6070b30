-- Lines that come one behind the other do not meet.
use Rattle.std.proofs.Common.{Bool, true, false, not, ◌&&◌, ◌||◌, List, [], ◌∷◌, refl, inl, inr, IsTrue, IsFalse, Option, Some, None}
use Rattle.std.proofs.lemmas.Bool.{and_from, and_left, and_parts, and_right, both_ways, false≢true, false_from_ne_true, not-true, not_from_false, or_cases}
use Rattle.shard_groups.specs.declared.keys.Ends.{Ends}
use Rattle.shard_groups.specs.declared.keys.KeyValue.{KeyValue}
use Rattle.shard_groups.specs.declared.keys.Relation.TheVariants.{Meet, Within}
use Rattle.shard_groups.specs.declared.keys.Span.{Span}
use Rattle.shard_groups.specs.Keys.{at_most, comes_before, ends_meet, ends_within, first_of, meets, part_before, related_spans}
use Rattle.shard_groups.specs.Lines.{AreApart, IsApart, IsAscending}
use Rattle.shard_groups.specs.Steps.{in_steps, is_before, is_step, last_of, same_span, span_before}
use Rattle.shard_groups.proofs.Spans.{left_null, right_null, span_chain}
use Rattle.shard_groups.proofs.ValueOrder.{either, follows}

-- ---- one column

-- what is behind a value is behind those up to it
not_after : (f d e : KeyValue) → IsTrue (not (at_most f e)) → IsTrue (at_most d e) → IsTrue (not (at_most f d))
not_after f d e t p =
    not_from_false (at_most f d) (false_from_ne_true (at_most f d) (λ q. both_ways (at_most f e) (not-true (at_most f e) t) (follows f d e q p)))

-- and what is up to something behind a value is behind the value
after_both : (f e d : KeyValue) → IsTrue (not (at_most e d)) → IsTrue (at_most e f) → IsTrue (not (at_most f d))
after_both f e d t p =
    not_from_false (at_most f d) (false_from_ne_true (at_most f d) (λ q. both_ways (at_most e d) (not-true (at_most e d) t) (follows e f d p q)))

apart_by : (n m : Bool) (a b : Option Ends) → IsTrue (part_before (last_of a) (first_of m b)) → IsFalse ((n && m) || ends_meet a b)
apart_by n true None b t = absurd (false≢true t)
apart_by n true (Some a) b t = absurd (false≢true t)
apart_by n false None None t = absurd (false≢true t)
apart_by n false (Some a) None t = absurd (false≢true t)
apart_by true false None (Some b) t = refl
apart_by false false None (Some b) t = refl
apart_by true false (Some a) (Some b) t = false_from_ne_true (at_most a.low b.high && at_most b.low a.high)
    (λ q. both_ways (at_most b.low a.high) (not-true (at_most b.low a.high) t) (and_parts (at_most a.low b.high) (at_most b.low a.high) q).1)
apart_by false false (Some a) (Some b) t = false_from_ne_true (at_most a.low b.high && at_most b.low a.high)
    (λ q. both_ways (at_most b.low a.high) (not-true (at_most b.low a.high) t) (and_parts (at_most a.low b.high) (at_most b.low a.high) q).1)

-- first before something, which is before the next
chain_by : (m k : Bool) (a b c : Option Ends) → IsTrue (part_before (last_of a) (first_of m b)) → IsTrue ((m && m) || ends_meet b b) →
    IsTrue (part_before (last_of b) (first_of k c)) → IsTrue (part_before (last_of a) (first_of k c))
chain_by true k None b c p o q = absurd (false≢true p)
chain_by true k (Some a) b c p o q = absurd (false≢true p)
chain_by false k None None c p o q = absurd (false≢true p)
chain_by false k (Some a) None c p o q = absurd (false≢true p)
chain_by false true a (Some b) c p o q = absurd (false≢true q)
chain_by false false a (Some b) None p o q = absurd (false≢true q)
chain_by false false None (Some b) (Some c) p o q = refl
chain_by false false (Some a) (Some b) (Some c) p o q =
    let e = and_parts (at_most b.low b.high) (at_most b.low b.high) o in
    not_after c.low a.high b.high q (follows a.high b.low b.high (either b.low a.high (not-true (at_most b.low a.high) p)) e.0)

-- before something that allows the same as the next
front_by : (m k : Bool) (a b c : Option Ends) → IsTrue (part_before (last_of a) (first_of m b)) → IsTrue (not k || m) →
    IsTrue (ends_within b c) → IsTrue (ends_within c b) → IsTrue (part_before (last_of a) (first_of k c))
front_by true k None b c p n w v = absurd (false≢true p)
front_by true k (Some a) b c p n w v = absurd (false≢true p)
front_by false k None None c p n w v = absurd (false≢true p)
front_by false k (Some a) None c p n w v = absurd (false≢true p)
front_by false true a (Some b) c p n w v = absurd (false≢true n)
front_by false false a (Some b) None p n w v = absurd (false≢true w)
front_by false false None (Some b) (Some c) p n w v = refl
front_by false false (Some a) (Some b) (Some c) p n w v =
    after_both c.low b.low a.high p (and_parts (at_most b.low c.low) (at_most c.high b.high) v).0

-- within something that is before the next
back_by : (k : Bool) (a b c : Option Ends) → IsTrue (ends_within a b) → IsTrue (part_before (last_of b) (first_of k c)) →
    IsTrue (part_before (last_of a) (first_of k c))
back_by true a None c w q = absurd (false≢true q)
back_by true a (Some b) c w q = absurd (false≢true q)
back_by false a None None w q = absurd (false≢true q)
back_by false a (Some b) None w q = absurd (false≢true q)
back_by false None b (Some c) w q = refl
back_by false (Some a) None (Some c) w q = absurd (false≢true w)
back_by false (Some a) (Some b) (Some c) w q = not_after c.low a.high b.high q (and_parts (at_most b.low a.low) (at_most a.high b.high) w).1

span_apart : (x y : Span) → IsTrue (span_before x y) → IsFalse (related_spans Meet x y)
span_apart x y t = apart_by x.null y.null x.ends y.ends t

span_behind : (x y z : Span) → IsTrue (span_before x y) → IsTrue (related_spans Meet y y) → IsTrue (span_before y z) → IsTrue (span_before x z)
span_behind x y z p o q = chain_by y.null z.null x.ends y.ends z.ends p o q

span_front : (x y z : Span) → IsTrue (span_before x y) → IsTrue (same_span y z) → IsTrue (span_before x z)
span_front x y z p s =
    let both = and_parts (related_spans Within y z) (related_spans Within z y) s in
    let to = and_parts (not y.null || z.null) (ends_within y.ends z.ends) both.0 in
    let from = and_parts (not z.null || y.null) (ends_within z.ends y.ends) both.1 in
    front_by y.null z.null x.ends y.ends z.ends p from.0 to.1 from.1

span_back : (x y z : Span) → IsTrue (same_span x y) → IsTrue (span_before y z) → IsTrue (span_before x z)
span_back x y z s q =
    let both = and_parts (related_spans Within x y) (related_spans Within y x) s in
    let to = and_parts (not x.null || y.null) (ends_within x.ends y.ends) both.0 in
    back_by z.null x.ends y.ends z.ends to.1 q

span_same : (x y z : Span) → IsTrue (same_span x y) → IsTrue (same_span y z) → IsTrue (same_span x z)
span_same x y z s r =
    let p = and_parts (related_spans Within x y) (related_spans Within y x) s in
    let q = and_parts (related_spans Within y z) (related_spans Within z y) r in
    and_from (related_spans Within x z) (related_spans Within z x) (span_chain y x z p.0 q.0) (span_chain y z x q.1 p.1)

-- ---- all columns

pub before_apart : (a b : List Span) → IsTrue (is_before a b) → IsFalse (meets a b)
before_apart [] b t = absurd (false≢true t)
before_apart (x ∷ a) [] t = absurd (false≢true t)
before_apart (x ∷ a) (y ∷ b) t =
    elim (or_cases (span_before x y) (same_span x y && is_before a b) t) [
      | inl h ↦ and_left (related_spans Meet x y) (meets a b) (span_apart x y h)
      | inr h ↦ and_right (related_spans Meet x y) (meets a b) (before_apart a b (and_parts (same_span x y) (is_before a b) h).1)
    ]

pub before_chain : (a b c : List Span) → IsTrue (is_before a b) → IsTrue (meets b b) → IsTrue (is_before b c) → IsTrue (is_before a c)
before_chain [] b c p o q = absurd (false≢true p)
before_chain (x ∷ a) [] c p o q = absurd (false≢true p)
before_chain (x ∷ a) (y ∷ b) [] p o q = absurd (false≢true q)
before_chain (x ∷ a) (y ∷ b) (z ∷ c) p o q =
    let own = and_parts (related_spans Meet y y) (meets b b) o in
    let rest = same_span x z && is_before a c in
    elim (or_cases (span_before x y) (same_span x y && is_before a b) p) [
      | inl h ↦ elim (or_cases (span_before y z) (same_span y z && is_before b c) q) [
        | inl k ↦ left_null (span_before x z) rest (span_behind x y z h own.0 k)
        | inr k ↦ left_null (span_before x z) rest (span_front x y z h (and_parts (same_span y z) (is_before b c) k).0)
      ]
      | inr h ↦
          (let s = and_parts (same_span x y) (is_before a b) h in
          elim (or_cases (span_before y z) (same_span y z && is_before b c) q) [
            | inl k ↦ left_null (span_before x z) rest (span_back x y z s.0 k)
            | inr k ↦
                (let r = and_parts (same_span y z) (is_before b c) k in
                right_null (span_before x z) rest (and_from (same_span x z) (is_before a c) (span_same x y z s.0 r.0) (before_chain a b c s.1 own.1 r.1)))
          ])
    ]

-- ---- lines

record Step (line next : List Span) : Type 0 where
  pub some : IsTrue (meets next next)
  pub before : IsTrue (is_before line next)
  pub behind : IsFalse (comes_before next line)

step_from : (line next : List Span) → IsTrue (is_step line next) → Step line next
step_from line next t =
    let a = and_parts (meets next next && is_before line next) (not (comes_before next line)) t in
    let b = and_parts (meets next next) (is_before line next) a.0 in
    record { some = b.0; before = b.1; behind = not-true (comes_before next line) a.1 }

all_behind : (line next : List Span) (lines : List (List Span)) → IsTrue (is_before line next) → IsTrue (meets next next) →
    IsTrue (in_steps (next ∷ lines)) → IsApart line (next ∷ lines)
all_behind line next [] h some t = (before_apart line next h, tt)
all_behind line next (more ∷ lines) h some t =
    let e = and_parts (is_step next more) (in_steps (more ∷ lines)) t in
    let s = step_from next more e.0 in
    (before_apart line next h, all_behind line more lines (before_chain line next more h some s.before) s.some e.1)

pub steps_apart : (lines : List (List Span)) → IsTrue (in_steps lines) → AreApart lines
steps_apart [] t = tt
steps_apart (line ∷ []) t = (tt, tt)
steps_apart (line ∷ next ∷ lines) t =
    let e = and_parts (is_step line next) (in_steps (next ∷ lines)) t in
    let s = step_from line next e.0 in
    (all_behind line next lines s.before s.some e.1, steps_apart (next ∷ lines) e.1)

pub steps_ascend : (lines : List (List Span)) → IsTrue (in_steps lines) → IsAscending lines
steps_ascend [] t = tt
steps_ascend (line ∷ []) t = tt
steps_ascend (line ∷ next ∷ lines) t =
    let e = and_parts (is_step line next) (in_steps (next ∷ lines)) t in
    ((step_from line next e.0).behind, steps_ascend (next ∷ lines) e.1)
