-- Shards, each under a knowledge of its own.
use Rattle.std.proofs.Common.{◌≡◌, ◌≢◌, ℕ, Bool, true, false, ◌||◌, List, [], ◌∷◌, map, Option, Some, None, inl, inr, refl, sym, ap, subst, ◌∙◌, append-nil}
use Rattle.std.specs.Option.{option_map}
use Rattle.std.proofs.lemmas.Bool.{cond_both, or_parts}
use Rattle.daq_table.specs.Tables.{Cells}
use Rattle.query_model.specs.declared.bounds.Bound.{Bound}
use Rattle.query_model.specs.declared.query.ItemKind.{ItemKind}
use Rattle.query_model.specs.declared.query.ItemKind.TheVariants.{Avg}
use Rattle.query_model.specs.Answers.{answer}
use Rattle.query_model.specs.Bounds as numbers
use Rattle.query_model.specs.Bounds.{Occurs, bound_of}
use Rattle.query_model.specs.Knowledge.{IsKnowledge}
use Rattle.query_model.proofs.Nesting.{taken_is_knowledge}
use Rattle.query_model.proofs.Queries.{completions_exist, pairs_ordered}
use Rattle.shard_bounds.specs.Combined.{IsBoundOf}
use Rattle.shard_bounds.specs.Laws as numbers_laws
use Rattle.shard_bounds.specs.Shards as shards
use Rattle.shard_bounds.specs.Shards.{AreAllRead, AreCompletions, AreKnown, IsReadOn, ReadOnce, Shard, pairs_at, reported, values_at}
use Rattle.shard_bounds.proofs.Shards as known
use Rattle.shard_bounds.proofs.Single.{one_shard_is_all}
use Rattle.shard_bounds.proofs.Unions.{lists_give_bounds}
use Rattle.text_extremes.proofs.Joining.{answers_join}
use Rattle.text_extremes.proofs.ManyParts.{combinations_contain, combinations_nest, combinations_tell}
use Rattle.text_extremes.proofs.Dictionaries.{names_rise}
use Rattle.text_extremes.proofs.Naming.{IsRising, named_admits, named_answer, named_extremes, named_nests, named_tells}
use Rattle.text_extremes.specs.Bounds.{Admits, IsAttained, IsExtremes, IsNested, Tells, TextBound, bound_with, far_by, far_end, joined, near_end}
use Rattle.text_extremes.specs.Laws.{OfEach}
use Rattle.text_extremes.specs.Shards.{AreAscending, IsPartReadOn, ShardsAreExtremes, ShardsBecomeExact, ShardsContain, ShardsNest, TextShard, answer_in, bound_over, kind_of, name_in, name_of, named, shards_of, texts_in, told}
use Rattle.text_extremes.specs.Texts.{comes_first, extreme_of, first_of, of_all, of_both}
use Rattle.text_extremes.specs.declared.extreme.Extreme.{Extreme}
use Rattle.text_extremes.specs.declared.extreme.Extreme.TheVariants.{Least, Greatest}

-- ---- one shard

no_average : (e : Extreme) → kind_of e ≢ Avg
no_average Least = λ f. cc
no_average Greatest = λ f. cc

-- what is known of a shard alone
abbrev IsKnown : ItemKind → Shard → Type 0
IsKnown kind shard = (shard.item.kind ≡ kind) × IsKnowledge shard.frame shard.known

-- over one shard the bound is its own
alone : (e : Extreme) (shard : Shard) → IsKnown (kind_of e) shard → shards.bound_over (kind_of e) (shard ∷ []) ≡ reported shard
alone e shard h =
    one_shard_is_all (kind_of e) (reported shard) (no_average e)
    (subst (λ (n : ItemKind). IsBoundOf (kind_of e) (bound_of n (pairs_at shard))) (sym h.0)
    (lists_give_bounds (kind_of e) (pairs_at shard) (no_average e) (pairs_ordered shard.query shard.item shard.key shard.frame shard.known h.1)))

answer_alone : (e : Extreme) (shard : Shard) (cells : Cells) → shards.answer_in (kind_of e) (shard ∷ []) (cells ∷ []) ≡ answer (kind_of e) (values_at shard cells)
answer_alone e shard cells = ap (answer (kind_of e)) (append-nil (values_at shard cells))

-- the answer of a shard, as a text
abbrev text_at : Extreme → TextShard → Cells → Option (List ℕ)
text_at e part cells = extreme_of e (map (name_of part) (values_at part.shard cells))

named_at : (e : Extreme) (part : TextShard) (cells : Cells) → IsRising (name_of part) →
    text_at e part cells ≡ option_map (name_of part) (shards.answer_in (kind_of e) (part.shard ∷ []) (cells ∷ []))
named_at e part cells rise =
    named_answer (name_of part) rise e (values_at part.shard cells) ∙ ap (option_map (name_of part)) (sym (answer_alone e part.shard cells))

-- ---- contains

part_admits : (e : Extreme) (part : TextShard) (cells : Cells) → IsRising (name_of part) → IsKnown (kind_of e) part.shard →
    AreCompletions (part.shard ∷ []) (cells ∷ []) → Admits (told part) (text_at e part cells)
part_admits e part cells rise h c =
    let admits = known.shards_contain (kind_of e) (part.shard ∷ []) (cells ∷ []) (no_average e) (h.0, h.1, tt) c in
    subst (Admits (told part)) (sym (named_at e part cells rise))
    (named_admits (name_of part) rise (reported part.shard) (shards.answer_in (kind_of e) (part.shard ∷ []) (cells ∷ []))
    (subst (λ (b : Bound). numbers.Admits b (shards.answer_in (kind_of e) (part.shard ∷ []) (cells ∷ []))) (alone e part.shard h) admits))

parts_admit : (e : Extreme) (parts : List TextShard) (tables : List Cells) → AreAscending parts → AreKnown (kind_of e) (shards_of parts) →
    AreCompletions (shards_of parts) tables → OfEach (λ bound texts. Admits bound (extreme_of e texts)) (map told parts) (texts_in parts tables)
parts_admit e [] [] r h c = tt
parts_admit e [] (cells ∷ more) r h c = absurd c
parts_admit e (part ∷ parts) [] r h c = absurd c
parts_admit e (part ∷ parts) (cells ∷ more) r h c =
    (part_admits e part cells (names_rise part.names r.0) (h.0, h.1) (c.0, tt), parts_admit e parts more r.1 h.2 c.1)

pub shards_contain : ShardsContain
shards_contain e parts tables r h c = combinations_contain e (map told parts) (texts_in parts tables) (parts_admit e parts tables r h c)

-- ---- nested

part_known : (kind : ItemKind) (old new : Shard) → IsKnown kind old → IsReadOn old new → IsKnown kind new
part_known kind old new h (inl same) = subst (IsKnown kind) (sym same) h
part_known kind old new h (inr (c, bits, can, is)) =
    subst (IsKnown kind) (sym is) (h.0, taken_is_knowledge old.frame old.known c bits h.1 can)

part_nests : (e : Extreme) (old new : TextShard) → IsRising (name_of old) → IsKnown (kind_of e) old.shard → IsPartReadOn old new → IsNested (told old) (told new)
part_nests e old new rise h r =
    let nests = known.shards_nest (kind_of e) (old.shard ∷ []) (new.shard ∷ []) (no_average e) (h.0, h.1, tt) (r.shard, tt) in
    let from : numbers.IsNested (reported old.shard) (shards.bound_over (kind_of e) (new.shard ∷ [])) =
    subst (λ (b : Bound). numbers.IsNested b (shards.bound_over (kind_of e) (new.shard ∷ []))) (alone e old.shard h) nests in
    let both : numbers.IsNested (reported old.shard) (reported new.shard) =
    subst (numbers.IsNested (reported old.shard)) (alone e new.shard (part_known (kind_of e) old.shard new.shard h r.shard)) from in
    subst (λ (names : List (List ℕ)). IsNested (told old) (named (name_in names) (reported new.shard))) (sym r.names)
    (named_nests (name_of old) rise (reported old.shard) (reported new.shard) both)

parts_nest : (e : Extreme) (olds news : List TextShard) → AreAscending olds → AreKnown (kind_of e) (shards_of olds) → OfEach IsPartReadOn olds news →
    OfEach IsNested (map told olds) (map told news)
parts_nest e [] [] r h on = tt
parts_nest e [] (new ∷ news) r h on = absurd on
parts_nest e (old ∷ olds) [] r h on = absurd on
parts_nest e (old ∷ olds) (new ∷ news) r h on = (part_nests e old new (names_rise old.names r.0) (h.0, h.1) on.0, parts_nest e olds news r.1 h.2 on.1)

pub shards_nest : ShardsNest
shards_nest e olds news r h on = combinations_nest e (map told olds) (map told news) (parts_nest e olds news r h on)

-- ---- exact

part_tells : (e : Extreme) (part : TextShard) (cells : Cells) → IsRising (name_of part) → IsKnown (kind_of e) part.shard →
    AreAllRead (part.shard ∷ []) → AreCompletions (part.shard ∷ []) (cells ∷ []) → Tells (told part) (text_at e part cells)
part_tells e part cells rise h all c =
    let tells = known.shards_become_exact (kind_of e) (part.shard ∷ []) (cells ∷ []) (no_average e) (h.0, h.1, tt) all c in
    subst (Tells (told part)) (sym (named_at e part cells rise))
    (named_tells (name_of part) rise (reported part.shard) (shards.answer_in (kind_of e) (part.shard ∷ []) (cells ∷ []))
    (subst (λ (b : Bound). numbers_laws.Tells b (shards.answer_in (kind_of e) (part.shard ∷ []) (cells ∷ []))) (alone e part.shard h) tells))

parts_tell : (e : Extreme) (parts : List TextShard) (tables : List Cells) → AreAscending parts → AreKnown (kind_of e) (shards_of parts) →
    AreAllRead (shards_of parts) → AreCompletions (shards_of parts) tables → OfEach (λ bound texts. Tells bound (extreme_of e texts)) (map told parts) (texts_in parts tables)
parts_tell e [] [] r h all c = tt
parts_tell e [] (cells ∷ more) r h all c = absurd c
parts_tell e (part ∷ parts) [] r h all c = absurd c
parts_tell e (part ∷ parts) (cells ∷ more) r h all c =
    (part_tells e part cells (names_rise part.names r.0) (h.0, h.1) (all.0, tt) (c.0, tt), parts_tell e parts more r.1 h.2 all.1 c.1)

pub shards_become_exact : ShardsBecomeExact
shards_become_exact e parts tables r h all c = combinations_tell e (map told parts) (texts_in parts tables) (parts_tell e parts tables r h all c)

-- ---- extremes of two

no_text : (t : Option (List ℕ)) → Admits None t → t ≡ None
no_text None h = refl
no_text (Some t) h = absurd h

attained_with : {W : Type 0} (IsWorld : W → Type 0) (f : W → Option (List ℕ)) (e : Extreme) (c : Bool) (near far : List ℕ) →
    (c ≡ false → Occurs IsWorld f None) → Occurs IsWorld f (Some near) → Occurs IsWorld f (Some far) → IsAttained IsWorld f (Some (bound_with e c near far))
attained_with {W} IsWorld f Least c near far none p q = (none, p, q)
attained_with {W} IsWorld f Greatest c near far none p q = (none, q, p)

near_occurs : {W : Type 0} (IsWorld : W → Type 0) (f : W → Option (List ℕ)) (e : Extreme) (a : TextBound) → IsAttained IsWorld f (Some a) →
    Occurs IsWorld f (Some (near_end e a))
near_occurs {W} IsWorld f Least a h = h.1
near_occurs {W} IsWorld f Greatest a h = h.2

far_occurs : {W : Type 0} (IsWorld : W → Type 0) (f : W → Option (List ℕ)) (e : Extreme) (a : TextBound) → IsAttained IsWorld f (Some a) →
    Occurs IsWorld f (Some (far_end e a))
far_occurs {W} IsWorld f Least a h = h.2
far_occurs {W} IsWorld f Greatest a h = h.1

module _ (e : Extreme) {V W X : Type 0} (IsV : V → Type 0) (IsW : W → Type 0) (IsX : X → Type 0)
    (f : V → Option (List ℕ)) (g : W → Option (List ℕ)) (h : X → Option (List ℕ))
    (pair : (s t : Option (List ℕ)) → Occurs IsV f s → Occurs IsW g t → Occurs IsX h (of_both (first_of e) s t)) where
  far_joined : (p q : Bool) (s t : List ℕ) → (p ≡ false → Occurs IsV f None) → (q ≡ false → Occurs IsW g None) →
      Occurs IsV f (Some s) → Occurs IsW g (Some t) → Occurs IsX h (Some (far_by e p q s t))
  far_joined true true s t x y k l = pair (Some s) (Some t) k l
  far_joined true false s t x y k l = pair (Some s) None k (y refl)
  far_joined false true s t x y k l = pair None (Some t) (x refl) l
  far_joined false false s t x y k l =
      cond_both (comes_first e s t) t s (λ u. Occurs IsX h (Some u)) (λ is. pair None (Some t) (x refl) l) (λ is. pair (Some s) None k (y refl))

  joined_attained : (v : V) → IsV v → (w : W) → IsW w → (a b : Option TextBound) → IsExtremes IsV f a → IsExtremes IsW g b →
      IsAttained IsX h (of_both (joined e) a b)
  joined_attained v is_v w is_w None None x y = tt
  joined_attained v is_v w is_w None (Some b) x y =
      let none : Occurs IsV f None = (v, is_v, no_text (f v) (x.admits v is_v)) in
      let here = y.attained in
      (λ c. pair None None none (here.0 c), pair None (Some b.low) none here.1, pair None (Some b.high) none here.2)
  joined_attained v is_v w is_w (Some a) None x y =
      let none : Occurs IsW g None = (w, is_w, no_text (g w) (y.admits w is_w)) in
      let here = x.attained in
      (λ c. pair None None (here.0 c) none, pair (Some a.low) None here.1 none, pair (Some a.high) None here.2 none)
  joined_attained v is_v w is_w (Some a) (Some b) x y =
      attained_with IsX h e (a.certain || b.certain) (first_of e (near_end e a) (near_end e b))
      (far_by e a.certain b.certain (far_end e a) (far_end e b))
      (λ c. (let parts = or_parts a.certain b.certain c in pair None None (x.attained.0 parts.0) (y.attained.0 parts.1)))
      (pair (Some (near_end e a)) (Some (near_end e b)) (near_occurs IsV f e a x.attained) (near_occurs IsW g e b y.attained))
      (far_joined a.certain b.certain (far_end e a) (far_end e b) x.attained.0 y.attained.0 (far_occurs IsV f e a x.attained) (far_occurs IsW g e b y.attained))

-- ---- extremes of all

-- the answers of the shards, joined
abbrev joined_in : Extreme → List TextShard → List Cells → Option (List ℕ)
joined_in e parts tables = of_all (first_of e) (map (extreme_of e) (texts_in parts tables))

part_is_extremes : (e : Extreme) (part : TextShard) → IsRising (name_of part) → IsKnown (kind_of e) part.shard → ReadOnce (part.shard ∷ []) →
    numbers.IsExtremes (AreCompletions (part.shard ∷ [])) (shards.answer_in (kind_of e) (part.shard ∷ [])) (reported part.shard)
part_is_extremes e part rise h once =
    subst (numbers.IsExtremes (AreCompletions (part.shard ∷ [])) (shards.answer_in (kind_of e) (part.shard ∷ []))) (alone e part.shard h)
    (known.shards_are_extremes (kind_of e) (part.shard ∷ []) (no_average e) (h.0, h.1, tt) once)

some_tables : (kind : ItemKind) (list : List Shard) → AreKnown kind list → (tables : List Cells) × AreCompletions list tables
some_tables kind [] h = ([], tt)
some_tables kind (shard ∷ list) h =
    let cells = completions_exist shard.frame shard.known h.1 in
    let more = some_tables kind list h.2 in
    (cells.0 ∷ more.0, (cells.1, more.1))

admits_in : (e : Extreme) (parts : List TextShard) (tables : List Cells) → AreAscending parts → AreKnown (kind_of e) (shards_of parts) →
    AreCompletions (shards_of parts) tables → Admits (bound_over e parts) (joined_in e parts tables)
admits_in e parts tables r h c = subst (Admits (bound_over e parts)) (answers_join e (texts_in parts tables)) (shards_contain e parts tables r h c)

-- a world of the first shard alone, and one of the others
abbrev named_in : Extreme → TextShard → List Cells → Option (List ℕ)
named_in e part tables = option_map (name_of part) (shards.answer_in (kind_of e) (part.shard ∷ []) tables)

pair_at : (e : Extreme) (part : TextShard) (parts : List TextShard) → IsRising (name_of part) → (s t : Option (List ℕ)) →
    Occurs (AreCompletions (part.shard ∷ [])) (named_in e part) s → Occurs (AreCompletions (shards_of parts)) (joined_in e parts) t →
    Occurs (AreCompletions (shards_of (part ∷ parts))) (joined_in e (part ∷ parts)) (of_both (first_of e) s t)
pair_at e part parts rise s t ([], is, gives) found = absurd is
pair_at e part parts rise s t (cells ∷ other ∷ more, is, gives) found = absurd is.1
pair_at e part parts rise s t (cells ∷ [], is, gives) found = (
  cells ∷ found.0,
  (is.0, found.1),
  ap (λ (x : Option (List ℕ)). of_both (first_of e) x (joined_in e parts found.0)) (named_at e part cells rise ∙ gives) ∙ ap (of_both (first_of e) s) found.2,
)

all_attained : (e : Extreme) (parts : List TextShard) → AreAscending parts → AreKnown (kind_of e) (shards_of parts) → ReadOnce (shards_of parts) →
    IsAttained (AreCompletions (shards_of parts)) (joined_in e parts) (bound_over e parts)
all_attained e [] r h once = tt
all_attained e (part ∷ parts) r h once =
    let first = some_tables (kind_of e) (part.shard ∷ []) (h.0, h.1, tt) in
    let rest = some_tables (kind_of e) (shards_of parts) h.2 in
    joined_attained e (AreCompletions (part.shard ∷ [])) (AreCompletions (shards_of parts)) (AreCompletions (shards_of (part ∷ parts)))
    (named_in e part) (joined_in e parts) (joined_in e (part ∷ parts)) (pair_at e part parts (names_rise part.names r.0)) first.0 first.1 rest.0 rest.1
    (told part) (bound_over e parts)
    (named_extremes (name_of part) (names_rise part.names r.0) (AreCompletions (part.shard ∷ [])) (shards.answer_in (kind_of e) (part.shard ∷ [])) (reported part.shard)
    (part_is_extremes e part (names_rise part.names r.0) (h.0, h.1) (once.0, tt)))
    (record { admits = λ tables c. admits_in e parts tables r.1 h.2 c; attained = all_attained e parts r.1 h.2 once.1 })

same_occurs : {W A : Type 0} (IsWorld : W → Type 0) (f g : W → Option A) → ((w : W) → f w ≡ g w) → (a : Option A) → Occurs IsWorld f a → Occurs IsWorld g a
same_occurs {W} {A} IsWorld f g same a found = (found.0, found.1, sym (same found.0) ∙ found.2)

same_attained : {W : Type 0} (IsWorld : W → Type 0) (f g : W → Option (List ℕ)) → ((w : W) → f w ≡ g w) → (b : Option TextBound) →
    IsAttained IsWorld f b → IsAttained IsWorld g b
same_attained {W} IsWorld f g same None h = tt
same_attained {W} IsWorld f g same (Some bound) h =
    (λ c. same_occurs IsWorld f g same None (h.0 c), same_occurs IsWorld f g same (Some bound.low) h.1, same_occurs IsWorld f g same (Some bound.high) h.2)

pub shards_are_extremes : ShardsAreExtremes
shards_are_extremes e parts r h once = record {
  admits = λ tables c. shards_contain e parts tables r h c;
  attained = same_attained (AreCompletions (shards_of parts)) (joined_in e parts) (answer_in e parts) (λ tables. sym (answers_join e (texts_in parts tables)))
      (bound_over e parts) (all_attained e parts r h once);
}
