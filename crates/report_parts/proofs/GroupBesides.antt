-- What stays of groups whose averages are narrowed: their keys, what they say of other items, and their places.
use Rattle.std.proofs.Common.{◌≡◌, ℕ, zero, suc, ◌+◌, Bool, true, false, IsTrue, List, [], ◌∷◌, ◌++◌, get_or, is_some, slice_get, Option, Some, None, refl, sym, ap, ◌∙◌, subst, inl, inr, arith}
use Rattle.std.proofs.lemmas.Option.{slice_get-map}
use Rattle.std.specs.List.{list_any}
use Rattle.std.specs.Option.{option_map}
use Rattle.query_kinds.specs.declared.beside.Beside.{Beside}
use Rattle.query_model.specs.Bounds.{AverageBound, IsNested, IsNestedAverage}
use Rattle.query_model.specs.declared.bounds.Bound.{Bound}
use Rattle.report_text.specs.declared.answers.Answer.{Answer}
use Rattle.report_text.specs.declared.answers.Answer.TheVariants.{Average, Value}
use Rattle.report_text.specs.declared.averages.ShownAverage.{ShownAverage}
use Rattle.shard_groups.specs.Keys.{Key, holds}
use Rattle.part_groups.specs.Cells.{said_by}
use Rattle.part_groups.specs.Laws.{AreKeysShown, IsGroupOf, IsNestedAverageGroup, IsNestedGroup, average_by, average_in, bound_by, bound_in, keys_by}
use Rattle.part_groups.specs.TextLaws.{IsNestedTextGroup}
use Rattle.part_groups.specs.declared.group.Group.{Group}
use Rattle.report_parts.specs.Beside.{answer_beside, answer_by, answers_by, group_beside, groups_beside, narrowed}
use Rattle.report_parts.specs.Combined.{are_alike}

-- ---- nothing stands beside

none_at : (besides : List (Option Beside)) (item : ℕ) → list_any is_some besides ≡ false → get_or besides item None ≡ None
none_at [] item none = refl
none_at (None ∷ besides) zero none = refl
none_at (None ∷ besides) (suc item) none = none_at besides item none
none_at (Some beside ∷ besides) item none = absurd (cc)

answers_stay : (answers : List Answer) (besides : List (Option Beside)) (item : ℕ) (others : List Answer) → list_any is_some besides ≡ false →
    answers_by answers besides item others ≡ others
answers_stay answers besides item [] none = refl
answers_stay answers besides item (answer ∷ others) none =
    ap (λ (o : Option Beside). answer_by answers o answer ∷ answers_by answers besides (item + 1) others) (none_at besides item none)
    ∙ ap (λ (rest : List Answer). answer ∷ rest) (answers_stay answers besides (item + 1) others none)

group_stays : (besides : List (Option Beside)) (group : Group) → list_any is_some besides ≡ false → group_beside besides group ≡ group
group_stays besides group none =
    ap (λ (answers : List Answer). record { line = group.line; answers = answers; texts = group.texts }) (answers_stay group.answers besides 0 group.answers none)

pub none_beside : (besides : List (Option Beside)) (groups : List Group) → list_any is_some besides ≡ false → groups ≡ groups_beside besides groups
none_beside besides [] none = refl
none_beside besides (group ∷ groups) none =
    ap (λ (first : Group). first ∷ groups) (sym (group_stays besides group none))
    ∙ ap (λ (rest : List Group). group_beside besides group ∷ rest) (none_beside besides groups none)

pub one_more : (besides : List (Option Beside)) (groups : List Group) (group : Group) →
    groups_beside besides (groups ++ group ∷ []) ≡ groups_beside besides groups ++ group_beside besides group ∷ []
one_more besides [] group = refl
one_more besides (first ∷ groups) group = ap (λ (rest : List Group). group_beside besides first ∷ rest) (one_more besides groups group)

-- ---- what a group says

answered : (answers : List Answer) (besides : List (Option Beside)) (from item : ℕ) (others : List Answer) →
    slice_get (answers_by answers besides from others) item ≡ option_map (answer_by answers (get_or besides (from + item) None)) (slice_get others item)
answered answers besides from item [] = refl
answered answers besides from zero (answer ∷ others) =
    let here : from ≡ from + 0 = omega arith in
    ap (λ (n : ℕ). Some (answer_by answers (get_or besides n None) answer)) here
answered answers besides from (suc item) (answer ∷ others) =
    let next : from + 1 + item ≡ from + suc item = omega arith in
    answered answers besides (from + 1) item others
    ∙ ap (λ (n : ℕ). option_map (answer_by answers (get_or besides n None)) (slice_get others item)) next

-- of each item it says what it said alone, by what stands beside it
pub says : (besides : List (Option Beside)) (group : Group) (item : ℕ) →
    slice_get (group_beside besides group).answers item ≡ option_map (answer_by group.answers (get_or besides item None)) (slice_get group.answers item)
says besides group item =
    let here : 0 + item ≡ item = omega arith in
    answered group.answers besides 0 item group.answers
    ∙ ap (λ (n : ℕ). option_map (answer_by group.answers (get_or besides n None)) (slice_get group.answers item)) here

narrowed_bound : (alike : Bool) (sum count : Bound) (shown : ShownAverage) →
    bound_by (Some (said_by (narrowed alike sum count shown))) ≡ bound_by (Some (said_by (Average shown)))
narrowed_bound true sum count shown = refl
narrowed_bound false sum count shown = refl

bound_same : (sum count answer : Answer) → bound_by (Some (said_by (answer_beside sum count answer))) ≡ bound_by (Some (said_by answer))
bound_same (Value sum) (Value count) (Average shown) = narrowed_bound (are_alike (Average shown ∷ Value sum ∷ [])) sum.bound count.bound shown
bound_same (Value sum) (Value count) (Value shown) = refl
bound_same (Value sum) (Average count) answer = refl
bound_same (Average sum) count answer = refl

bound_beside : (answers : List Answer) (beside : Option Beside) (answer : Option Answer) →
    bound_by (option_map said_by (option_map (answer_by answers beside) answer)) ≡ bound_by (option_map said_by answer)
bound_beside answers beside None = refl
bound_beside answers None (Some answer) = refl
bound_beside answers (Some beside) (Some answer) = bound_same _ _ answer

pub bound_stays : (besides : List (Option Beside)) (group : Group) (item : ℕ) → bound_in item (group_beside besides group) ≡ bound_in item group
bound_stays besides group item =
    ap bound_by (slice_get-map said_by (group_beside besides group).answers item)
    ∙ ap (λ (answer : Option Answer). bound_by (option_map said_by answer)) (says besides group item)
    ∙ bound_beside group.answers (get_or besides item None) (slice_get group.answers item)
    ∙ sym (ap bound_by (slice_get-map said_by group.answers item))

average_alone : (answers : List Answer) (answer : Option Answer) →
    average_by (option_map said_by (option_map (answer_by answers None) answer)) ≡ average_by (option_map said_by answer)
average_alone answers None = refl
average_alone answers (Some answer) = refl

-- nothing stands beside the average
pub average_stays : (besides : List (Option Beside)) (group : Group) (item : ℕ) → get_or besides item None ≡ None →
    average_in item (group_beside besides group) ≡ average_in item group
average_stays besides group item none =
    ap average_by (slice_get-map said_by (group_beside besides group).answers item)
    ∙ ap (λ (answer : Option Answer). average_by (option_map said_by answer)) (says besides group item)
    ∙ ap (λ (beside : Option Beside). average_by (option_map said_by (option_map (answer_by group.answers beside) (slice_get group.answers item)))) none
    ∙ average_alone group.answers (slice_get group.answers item)
    ∙ sym (ap average_by (slice_get-map said_by group.answers item))

-- ---- its place

pub record IsNarrowed (besides : List (Option Beside)) (groups : List Group) (group : Group) : Type 0 where
  pub alone : Group
  pub is : IsGroupOf alone groups
  pub same : group ≡ group_beside besides alone

pub alone_of : (besides : List (Option Beside)) (groups : List Group) (group : Group) → IsGroupOf group (groups_beside besides groups) →
    IsNarrowed besides groups group
alone_of besides [] group is = absurd is
alone_of besides (first ∷ groups) group (inl same) = record { alone = first; is = inl refl; same = same }
alone_of besides (first ∷ groups) group (inr is) =
    let rest = alone_of besides groups group is in record { alone = rest.alone; is = inr rest.is; same = rest.same }

beside_of : (besides : List (Option Beside)) (groups : List Group) (group : Group) → IsGroupOf group groups →
    IsGroupOf (group_beside besides group) (groups_beside besides groups)
beside_of besides [] group is = absurd is
beside_of besides (first ∷ groups) group (inl same) = inl (ap (group_beside besides) same)
beside_of besides (first ∷ groups) group (inr is) = inr (beside_of besides groups group is)

pub has_alone : (besides : List (Option Beside)) (group alone : Group) (key : Key) → group ≡ group_beside besides alone → IsTrue (holds (keys_by group) key) →
    IsTrue (holds (keys_by alone) key)
has_alone besides group alone key same has = subst (λ (g : Group). IsTrue (holds (keys_by g) key)) same has

-- ---- what is shown

pub keys_shown : (besides : List (Option Beside)) (key : Key) (counts : List ℕ) (groups : List Group) → AreKeysShown key counts groups →
    AreKeysShown key counts (groups_beside besides groups)
keys_shown besides key counts groups h = record {
  found = λ some.
      let own = h.found some in
      record { group = group_beside besides own.group; is = beside_of besides groups own.group own.is; has = own.has };
  alone = λ group other is and_other has and_has.
      let a = alone_of besides groups group is in
      let b = alone_of besides groups other and_other in
      let same = h.alone a.alone b.alone a.is b.is (has_alone besides group a.alone key a.same has) (has_alone besides other b.alone key b.same and_has) in
      a.same ∙ ap (group_beside besides) same ∙ sym b.same;
  present = λ group is has present.
      let a = alone_of besides groups group is in
      h.present a.alone a.is (has_alone besides group a.alone key a.same has) (subst (λ (g : Group). IsTrue g.line.present) a.same present);
}

pub nested : (besides : List (Option Beside)) (item : ℕ) (old group : Group) → IsNestedGroup item old group →
    IsNestedGroup item (group_beside besides old) (group_beside besides group)
nested besides item old group h = record {
  keys = h.keys;
  bound = subst (λ (b : Bound). IsNested b (bound_in item (group_beside besides group))) (sym (bound_stays besides old item))
      (subst (λ (b : Bound). IsNested (bound_in item old) b) (sym (bound_stays besides group item)) h.bound);
}

pub nested_average : (besides : List (Option Beside)) (item : ℕ) (old group : Group) → get_or besides item None ≡ None → IsNestedAverageGroup item old group →
    IsNestedAverageGroup item (group_beside besides old) (group_beside besides group)
nested_average besides item old group none h = record {
  keys = h.keys;
  average = subst (λ (b : AverageBound). IsNestedAverage b (average_in item (group_beside besides group))) (sym (average_stays besides old item none))
      (subst (λ (b : AverageBound). IsNestedAverage (average_in item old) b) (sym (average_stays besides group item none)) h.average);
}

pub nested_text : (besides : List (Option Beside)) (item : ℕ) (old group : Group) → IsNestedTextGroup item old group →
    IsNestedTextGroup item (group_beside besides old) (group_beside besides group)
nested_text besides item old group h = record { keys = h.keys; text = h.text }
