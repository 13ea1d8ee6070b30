-- Sets of keys that meet, that lie within others, and their hulls.
use Rattle.std.proofs.Common.{Bool, true, false, not, ◌&&◌, ◌||◌, List, [], ◌∷◌, refl, IsTrue, Option, Some, None}
use Rattle.std.proofs.lemmas.Bool.{false≢true, and_from, and_parts, cond_both}
use Rattle.shard_groups.specs.declared.keys.Ends.{Ends}
use Rattle.shard_groups.specs.declared.keys.KeyValue.{KeyValue}
use Rattle.shard_groups.specs.declared.keys.Relation.TheVariants.{Meet, Within}
use Rattle.shard_groups.specs.declared.keys.Span.{Span}
use Rattle.shard_groups.specs.Keys.{Key, allows, at_most, each_pair, ends_hull, ends_meet, ends_within, greater, holds, hull, is_between, is_within, lesser, meets, related_spans, span_hull}
use Rattle.shard_groups.proofs.ValueOrder.{either, follows, itself}
use Rattle.shard_groups.proofs.Pairs.{each_flip, each_itself, each_join}

-- ---- ranges

both : (a b : Bool) → IsTrue (a && b) → (IsTrue a) × (IsTrue b)
both a b t = and_parts a b t

join : (a b : Bool) → IsTrue a → IsTrue b → IsTrue (a && b)
join a b p q = and_from a b p q

ends_itself : (a : Option Ends) → IsTrue (ends_within a a)
ends_itself None = refl
ends_itself (Some a) = join (at_most a.low a.low) (at_most a.high a.high) (itself a.low) (itself a.high)

ends_chain : (a b c : Option Ends) → IsTrue (ends_within a b) → IsTrue (ends_within b c) → IsTrue (ends_within a c)
ends_chain None b c p q = refl
ends_chain (Some a) None c p q = absurd (false≢true p)
ends_chain (Some a) (Some b) None p q = absurd (false≢true q)
ends_chain (Some a) (Some b) (Some c) p q =
    let e = both (at_most b.low a.low) (at_most a.high b.high) p in
    let f = both (at_most c.low b.low) (at_most b.high c.high) q in
    join (at_most c.low a.low) (at_most a.high c.high) (follows c.low b.low a.low f.0 e.0) (follows a.high b.high c.high e.1 f.1)

between_more : (a b : Option Ends) (v : KeyValue) → IsTrue (ends_within a b) → IsTrue (is_between a v) → IsTrue (is_between b v)
between_more None b v p q = absurd (false≢true q)
between_more (Some a) None v p q = absurd (false≢true p)
between_more (Some a) (Some b) v p q =
    let e = both (at_most b.low a.low) (at_most a.high b.high) p in
    let f = both (at_most a.low v) (at_most v a.high) q in
    join (at_most b.low v) (at_most v b.high) (follows b.low a.low v e.0 f.0) (follows v a.high b.high f.1 e.1)

between_both : (a b : Option Ends) (v : KeyValue) → IsTrue (is_between a v) → IsTrue (is_between b v) → IsTrue (ends_meet a b)
between_both None b v p q = absurd (false≢true p)
between_both (Some a) None v p q = absurd (false≢true q)
between_both (Some a) (Some b) v p q =
    let e = both (at_most a.low v) (at_most v a.high) p in
    let f = both (at_most b.low v) (at_most v b.high) q in
    join (at_most a.low b.high) (at_most b.low a.high) (follows a.low v b.high e.0 f.1) (follows b.low v a.high f.0 e.1)

meet_more : (a b c : Option Ends) → IsTrue (ends_within a b) → IsTrue (ends_meet a c) → IsTrue (ends_meet b c)
meet_more None b c p q = absurd (false≢true q)
meet_more (Some a) None c p q = absurd (false≢true p)
meet_more (Some a) (Some b) None p q = absurd (false≢true q)
meet_more (Some a) (Some b) (Some c) p q =
    let e = both (at_most b.low a.low) (at_most a.high b.high) p in
    let f = both (at_most a.low c.high) (at_most c.low a.high) q in
    join (at_most b.low c.high) (at_most c.low b.high) (follows b.low a.low c.high e.0 f.0) (follows c.low a.high b.high f.1 e.1)

meet_back : (a b : Option Ends) → IsTrue (ends_meet a b) → IsTrue (ends_meet b a)
meet_back None b p = absurd (false≢true p)
meet_back (Some a) None p = absurd (false≢true p)
meet_back (Some a) (Some b) p =
    let e = both (at_most a.low b.high) (at_most b.low a.high) p in
    join (at_most b.low a.high) (at_most a.low b.high) e.1 e.0

lesser_left : (a b : KeyValue) → IsTrue (at_most (lesser a b) a)
lesser_left a b = cond_both (at_most a b) a b (λ v. IsTrue (at_most v a)) (λ t. itself a) (λ f. either a b f)

lesser_right : (a b : KeyValue) → IsTrue (at_most (lesser a b) b)
lesser_right a b = cond_both (at_most a b) a b (λ v. IsTrue (at_most v b)) (λ t. t) (λ f. itself b)

greater_left : (a b : KeyValue) → IsTrue (at_most a (greater a b))
greater_left a b = cond_both (at_most a b) b a (λ v. IsTrue (at_most a v)) (λ t. t) (λ f. itself a)

greater_right : (a b : KeyValue) → IsTrue (at_most b (greater a b))
greater_right a b = cond_both (at_most a b) b a (λ v. IsTrue (at_most b v)) (λ t. itself b) (λ f. either a b f)

hull_left : (a b : Option Ends) → IsTrue (ends_within a (ends_hull a b))
hull_left None b = refl
hull_left (Some a) None = ends_itself (Some a)
hull_left (Some a) (Some b) =
    join (at_most (lesser a.low b.low) a.low) (at_most a.high (greater a.high b.high)) (lesser_left a.low b.low) (greater_left a.high b.high)

hull_right : (a b : Option Ends) → IsTrue (ends_within b (ends_hull a b))
hull_right None b = ends_itself b
hull_right (Some a) None = refl
hull_right (Some a) (Some b) =
    join (at_most (lesser a.low b.low) b.low) (at_most b.high (greater a.high b.high)) (lesser_right a.low b.low) (greater_right a.high b.high)

hull_least : (a b c : Option Ends) → IsTrue (ends_within a c) → IsTrue (ends_within b c) → IsTrue (ends_within (ends_hull a b) c)
hull_least None b c p q = q
hull_least (Some a) None c p q = p
hull_least (Some a) (Some b) None p q = absurd (false≢true p)
hull_least (Some a) (Some b) (Some c) p q =
    let e = both (at_most c.low a.low) (at_most a.high c.high) p in
    let f = both (at_most c.low b.low) (at_most b.high c.high) q in
    join (at_most c.low (lesser a.low b.low)) (at_most (greater a.high b.high) c.high)
    (cond_both (at_most a.low b.low) a.low b.low (λ v. IsTrue (at_most c.low v)) (λ t. e.0) (λ t. f.0))
    (cond_both (at_most a.high b.high) b.high a.high (λ v. IsTrue (at_most v c.high)) (λ t. f.1) (λ t. e.1))

-- ---- nulls

-- null is allowed by the one only where it is by the other
null_itself : (a : Bool) → IsTrue (not a || a)
null_itself true = refl
null_itself false = refl

null_more : (a b : Bool) → IsTrue (not a || b) → IsTrue a → IsTrue b
null_more true b p q = p
null_more false b p q = absurd (false≢true q)

null_by : (a b : Bool) → (IsTrue a → IsTrue b) → IsTrue (not a || b)
null_by true b h = h refl
null_by false b h = refl

pub left_null : (a b : Bool) → IsTrue a → IsTrue (a || b)
left_null true b p = refl
left_null false b p = absurd (false≢true p)

pub right_null : (a b : Bool) → IsTrue b → IsTrue (a || b)
right_null true b p = refl
right_null false b p = p

either_null : (a b c : Bool) → (IsTrue a → IsTrue c) → (IsTrue b → IsTrue c) → IsTrue (a || b) → IsTrue c
either_null true b c f g p = f refl
either_null false b c f g p = g p

-- ---- spans

within_parts : (a b : Span) → IsTrue (related_spans Within a b) → IsTrue (not a.null || b.null) × IsTrue (ends_within a.ends b.ends)
within_parts a b t = both (not a.null || b.null) (ends_within a.ends b.ends) t

within_from : (a b : Span) → IsTrue (not a.null || b.null) → IsTrue (ends_within a.ends b.ends) → IsTrue (related_spans Within a b)
within_from a b p q = join (not a.null || b.null) (ends_within a.ends b.ends) p q

meet_by_null : (a b : Span) → IsTrue a.null → IsTrue b.null → IsTrue (related_spans Meet a b)
meet_by_null a b p q = left_null (a.null && b.null) (ends_meet a.ends b.ends) (join a.null b.null p q)

meet_by_ends : (a b : Span) → IsTrue (ends_meet a.ends b.ends) → IsTrue (related_spans Meet a b)
meet_by_ends a b p = right_null (a.null && b.null) (ends_meet a.ends b.ends) p

span_itself : (a : Span) → IsTrue (related_spans Within a a)
span_itself a = within_from a a (null_itself a.null) (ends_itself a.ends)

-- a is within b and b within c
pub span_chain : (b a c : Span) → IsTrue (related_spans Within a b) → IsTrue (related_spans Within b c) → IsTrue (related_spans Within a c)
span_chain b a c p q =
    let e = within_parts a b p in
    let f = within_parts b c q in
    within_from a c (null_by a.null c.null (λ t. null_more b.null c.null f.0 (null_more a.null b.null e.0 t)))
    (ends_chain a.ends b.ends c.ends e.1 f.1)

span_allows : (a b : Span) (k : Option KeyValue) → IsTrue (related_spans Within a b) → IsTrue (allows a k) → IsTrue (allows b k)
span_allows a b None p q = null_more a.null b.null (within_parts a b p).0 q
span_allows a b (Some v) p q = between_more a.ends b.ends v (within_parts a b p).1 q

span_both : (k : Option KeyValue) (a b : Span) → IsTrue (allows a k) → IsTrue (allows b k) → IsTrue (related_spans Meet a b)
span_both None a b p q = meet_by_null a b p q
span_both (Some v) a b p q = meet_by_ends a b (between_both a.ends b.ends v p q)

span_meets : (a b c : Span) → IsTrue (related_spans Within a b) → IsTrue (related_spans Meet a c) → IsTrue (related_spans Meet b c)
span_meets a b c p q =
    let e = within_parts a b p in
    either_null (a.null && c.null) (ends_meet a.ends c.ends) (related_spans Meet b c)
    (λ t. let n = both a.null c.null t in meet_by_null b c (null_more a.null b.null e.0 n.0) n.1)
    (λ t. meet_by_ends b c (meet_more a.ends b.ends c.ends e.1 t)) q

span_meets_back : (a b : Span) → IsTrue (related_spans Meet a b) → IsTrue (related_spans Meet b a)
span_meets_back a b p =
    either_null (a.null && b.null) (ends_meet a.ends b.ends) (related_spans Meet b a)
    (λ t. let n = both a.null b.null t in meet_by_null b a n.1 n.0)
    (λ t. meet_by_ends b a (meet_back a.ends b.ends t)) p

pub span_hull_left : (a b : Span) → IsTrue (related_spans Within a (span_hull a b))
span_hull_left a b = within_from a (span_hull a b) (null_by a.null (a.null || b.null) (λ t. left_null a.null b.null t)) (hull_left a.ends b.ends)

pub span_hull_right : (a b : Span) → IsTrue (related_spans Within b (span_hull a b))
span_hull_right a b = within_from b (span_hull a b) (null_by b.null (a.null || b.null) (λ t. right_null a.null b.null t)) (hull_right a.ends b.ends)

span_hull_least : (a b c : Span) → IsTrue (related_spans Within a c) → IsTrue (related_spans Within b c) → IsTrue (related_spans Within (span_hull a b) c)
span_hull_least a b c p q =
    let e = within_parts a c p in
    let f = within_parts b c q in
    within_from (span_hull a b) c
    (null_by (a.null || b.null) c.null (either_null a.null b.null c.null (null_more a.null c.null e.0) (null_more b.null c.null f.0)))
    (hull_least a.ends b.ends c.ends e.1 f.1)

-- ---- sets of keys

pub within_itself : (a : List Span) → IsTrue (is_within a a)
within_itself a = each_itself (related_spans Within) span_itself a

back : (a b : List Span) → IsTrue (is_within a b) → IsTrue (each_pair (λ y x. related_spans Within x y) b a)
back a b p = each_flip (related_spans Within) (λ y x. related_spans Within x y) (λ x y t. t) a b p

pub within_chain : (a b c : List Span) → IsTrue (is_within a b) → IsTrue (is_within b c) → IsTrue (is_within a c)
within_chain a b c p q =
    each_join (λ y x. related_spans Within x y) (related_spans Within) (related_spans Within) span_chain b a c (back a b p) q

pub holds_more : (a b : List Span) (key : Key) → IsTrue (is_within a b) → IsTrue (holds a key) → IsTrue (holds b key)
holds_more a b key p q = each_join (related_spans Within) allows allows span_allows a b key p q

pub holds_both : (a b : List Span) (key : Key) → IsTrue (holds a key) → IsTrue (holds b key) → IsTrue (meets a b)
holds_both a b key p q =
    each_join (λ k x. allows x k) (λ k x. allows x k) (related_spans Meet) span_both key a b
    (each_flip allows (λ k x. allows x k) (λ x k t. t) a key p) (each_flip allows (λ k x. allows x k) (λ x k t. t) b key q)

pub meets_back : (a b : List Span) → IsTrue (meets a b) → IsTrue (meets b a)
meets_back a b p = each_flip (related_spans Meet) (related_spans Meet) span_meets_back a b p

pub meets_more : (a b c : List Span) → IsTrue (is_within a b) → IsTrue (meets a c) → IsTrue (meets b c)
meets_more a b c p q = each_join (related_spans Within) (related_spans Meet) (related_spans Meet) span_meets a b c p q

-- what lies within sets that do not meet does not meet
pub meets_both : (a b c d : List Span) → IsTrue (is_within a c) → IsTrue (is_within b d) → IsTrue (meets a b) → IsTrue (meets c d)
meets_both a b c d p q m = meets_back d c (meets_more b d c q (meets_back c b (meets_more a c b p m)))

pub left_within : (a b : List Span) → IsTrue (meets a b) → IsTrue (is_within a (hull a b))
left_within [] [] p = refl
left_within [] (y ∷ b) p = absurd (false≢true p)
left_within (x ∷ a) [] p = absurd (false≢true p)
left_within (x ∷ a) (y ∷ b) p =
    join (related_spans Within x (span_hull x y)) (is_within a (hull a b)) (span_hull_left x y)
    (left_within a b (both (related_spans Meet x y) (meets a b) p).1)

pub right_within : (a b : List Span) → IsTrue (meets a b) → IsTrue (is_within b (hull a b))
right_within [] [] p = refl
right_within [] (y ∷ b) p = absurd (false≢true p)
right_within (x ∷ a) [] p = absurd (false≢true p)
right_within (x ∷ a) (y ∷ b) p =
    join (related_spans Within y (span_hull x y)) (is_within b (hull a b)) (span_hull_right x y)
    (right_within a b (both (related_spans Meet x y) (meets a b) p).1)

pub hull_within : (a b c : List Span) → IsTrue (is_within a c) → IsTrue (is_within b c) → IsTrue (is_within (hull a b) c)
hull_within [] b c p q = p
hull_within (x ∷ a) [] [] p q = refl
hull_within (x ∷ a) [] (z ∷ c) p q = absurd (false≢true q)
hull_within (x ∷ a) (y ∷ b) [] p q = absurd (false≢true p)
hull_within (x ∷ a) (y ∷ b) (z ∷ c) p q =
    let e = both (related_spans Within x z) (is_within a c) p in
    let f = both (related_spans Within y z) (is_within b c) q in
    join (related_spans Within (span_hull x y) z) (is_within (hull a b) c) (span_hull_least x y z e.0 f.0) (hull_within a b c e.1 f.1)
