-- That an average of a group is certain, where the sum and the number of its values stand beside it there.
use Rattle.std.proofs.Common.{◌≡◌, ◌⊎◌, ℕ, zero, suc, ◌+◌, ℤ, Bool, true, false, cond, IsTrue, IsFalse, List, [], ◌∷◌, get_or, map, slice_get, Option, Some, None, refl, sym, ap, ◌∙◌, subst, inl, inr, if◌then◌else◌, arith}
use Rattle.std.proofs.lemmas.Bool.{cases_Bool}
use Rattle.std.proofs.lemmas.Option.{get_or_from_slice_get, none-some, slice_get-map}
use Rattle.std.specs.Option.{option_map}
use Rattle.narrow_averages.specs.Beside.{AdmitValues, BesidesStand, apart_if_fit, average_beside, beside_from, can_double, is_counted}
use Rattle.query_kinds.specs.declared.beside.Beside.{Beside}
use Rattle.query_model.specs.Answers.{average}
use Rattle.query_model.specs.Bounds.{Admits, AdmitsAverage, AverageBound, IsNested, IsNestedAverage}
use Rattle.query_model.specs.declared.bounds.Bound.{Bound}
use Rattle.query_model.specs.declared.query.ItemKind.{ItemKind}
use Rattle.query_model.specs.declared.query.ItemKind.TheVariants.{Avg, Count, Sum}
use Rattle.report_text.specs.declared.answers.Answer.{Answer}
use Rattle.report_text.specs.declared.answers.Answer.TheVariants.{Average, Value}
use Rattle.report_text.specs.declared.averages.ShownAverage.{ShownAverage}
use Rattle.report_text.specs.declared.bounds.ShownBound.{ShownBound}
use Rattle.shard_bounds.specs.Averages.{IsDivisible, ReportsAverage, TellsAverage, apart, average_from, is_exact, meet_of_two}
use Rattle.shard_bounds.specs.Combined as shards
use Rattle.shard_bounds.specs.Combined.{together}
use Rattle.shard_bounds.specs.Laws.{Tells}
use Rattle.shard_bounds.proofs.EqualEnds.{nested-refl}
use Rattle.shard_groups.specs.declared.cells.Cell.{Cell}
use Rattle.report_text.specs.declared.text_answers.TextAnswer.{TextAnswer}
use Rattle.shard_groups.specs.declared.keys.Span.{Span}
use Rattle.shard_groups.specs.Found.{line_over, lines_over}
use Rattle.shard_groups.specs.Groups.{all_keys, average_over, bound_over, said_from, said_over}
use Rattle.part_groups.specs.Cells.{said_by}
use Rattle.part_groups.specs.Forms.{form_at}
use Rattle.part_groups.specs.Laws.{IsGroupOf, average_by, average_in, bound_by, bound_in}
use Rattle.part_groups.specs.Shown as groups
use Rattle.part_groups.specs.Shown.{answer_in, answers_from, form_for, group_in}
use Rattle.part_groups.specs.Texts.{texts_over}
use Rattle.part_groups.specs.Whole.{cells_by, groups_over, told_line}
use Rattle.part_groups.specs.declared.forms.EndsForm.{EndsForm}
use Rattle.part_groups.specs.declared.group.Group.{Group}
use Rattle.report_parts.proofs.BesideHeadline.{admit_values, narrowed_is}
use Rattle.report_parts.proofs.Certain.{divisible}
use Rattle.report_parts.proofs.GroupBesides.{says}
use Rattle.report_parts.proofs.Headlines.{value_stays}
use Rattle.report_parts.specs.Beside.{answer_beside, answer_by, group_beside, narrowed, told_at}
use Rattle.report_parts.specs.Combined.{AreAlike, are_alike, average_of}
use Rattle.report_parts.specs.Entries.{no_answer}
use Rattle.report_parts.specs.GroupHeadline.{HasRoom, IsSumAlike}

-- ---- what is said over all parts of the three items

-- the sum and the number of the values are bounds, and the average is one
pub record IsSaidBeside (item : ℕ) (beside : Beside) (group : Group) : Type 0 where
  pub sum : ShownBound
  pub count : ShownBound
  pub shown : ShownAverage
  pub of_sum : slice_get group.answers beside.sum ≡ Some (Value sum)
  pub of_count : slice_get group.answers beside.count ≡ Some (Value count)
  pub of_average : slice_get group.answers item ≡ Some (Average shown)

pub answered : (from n item : ℕ) (forms : List (Option EndsForm)) (kinds : List ItemKind) (kind : ItemKind) (line : List Span) (shards : List (List Cell)) →
    item ≡ from + n → slice_get kinds n ≡ Some kind →
    slice_get (answers_from from forms (said_from from kinds line shards)) n ≡ Some (answer_in (form_at item forms) (said_over kind item line shards))
answered from n item forms [] kind line shards e g = absurd (none-some kind g)
answered from zero item forms (k ∷ kinds) kind line shards e g =
    let same : from ≡ item = omega (arith, e) in
    ap (λ (m : ℕ). Some (answer_in (form_at m forms) (said_over k m line shards))) same
    ∙ ap (option_map (λ (q : ItemKind). answer_in (form_at item forms) (said_over q item line shards))) g
answered from (suc n) item forms (k ∷ kinds) kind line shards e g =
    let next : item ≡ from + 1 + n = omega (arith, e) in answered (from + 1) n item forms kinds kind line shards next g

module _ (item : ℕ) (beside : Beside) (kinds : List ItemKind) (is_average : slice_get kinds item ≡ Some Avg) (is_sum : slice_get kinds beside.sum ≡ Some Sum)
    (is_count : slice_get kinds beside.count ≡ Some Count) (columns items : List (Option EndsForm)) (texts : List Span → List (Option TextAnswer))
    (shards : List (List Cell)) where
  said_line : (keys : List Span) → IsSaidBeside item beside (group_in columns items texts (told_line (line_over kinds shards keys)))
  said_line keys =
      let sum = bound_over Sum beside.sum keys shards in
      let count = bound_over Count beside.count keys shards in
      let mean = average_over item keys shards in
      record {
        sum = record { form = form_for sum.null (form_at beside.sum items); bound = sum };
        count = record { form = form_for count.null (form_at beside.count items); bound = count };
        shown = groups.average_in (groups.decimals_in (form_for mean.null (form_at item items))) mean;
        of_sum = answered 0 beside.sum beside.sum items kinds Sum keys shards (omega arith) is_sum;
        of_count = answered 0 beside.count beside.count items kinds Count keys shards (omega arith) is_count;
        of_average = answered 0 item item items kinds Avg keys shards (omega arith) is_average;
      }

  said_lines : (lines : List (List Span)) (group : Group) →
      IsGroupOf group (map (λ line. group_in columns items texts (told_line line)) (map (line_over kinds shards) lines)) → IsSaidBeside item beside group
  said_lines [] group is = absurd is
  said_lines (keys ∷ lines) group (inl same) = subst (IsSaidBeside item beside) (sym same) (said_line keys)
  said_lines (keys ∷ lines) group (inr is) = said_lines lines group is

-- so it is of each group over all parts
pub said_beside : (item : ℕ) (beside : Beside) (columns : ℕ) (kinds : List ItemKind) (parts : List (List Group)) (group : Group) →
    slice_get kinds item ≡ Some Avg → slice_get kinds beside.sum ≡ Some Sum → slice_get kinds beside.count ≡ Some Count →
    IsGroupOf group (groups_over columns kinds parts) → IsSaidBeside item beside group
said_beside item beside columns kinds parts group is_average is_sum is_count is =
    said_lines item beside kinds is_average is_sum is_count _ _ (texts_over kinds parts) (cells_by parts) (lines_over (all_keys (cells_by parts))) group is

-- ---- what an answer says

average_read : (answer : Answer) → average_by (Some (said_by answer)) ≡ average_of answer
average_read (Value shown) = refl
average_read (Average shown) = refl

reads_average : (group : Group) (item : ℕ) (answer : Answer) → slice_get group.answers item ≡ Some answer → average_in item group ≡ average_of answer
reads_average group item answer e = ap average_by (slice_get-map said_by group.answers item ∙ ap (option_map said_by) e) ∙ average_read answer

reads_bound : (group : Group) (item : ℕ) (shown : ShownBound) → slice_get group.answers item ≡ Some (Value shown) → bound_in item group ≡ shown.bound
reads_bound group item shown e = ap bound_by (slice_get-map said_by group.answers item ∙ ap (option_map said_by) e)

pub value_by : (answers : List Answer) (beside : Option Beside) (shown : ShownBound) → answer_by answers beside (Value shown) ≡ Value shown
value_by answers None shown = refl
value_by answers (Some beside) shown = value_stays _ _ shown

-- ---- an average that is narrowed, or not

-- the high end written otherwise has room only where the end itself has
meet_room : (exact : Bool) (meet : AverageBound) → IsTrue (can_double (if exact then meet else apart_if_fit meet).hi) → IsTrue (can_double meet.hi)
meet_room true meet room = room
meet_room false meet room = either (cases_Bool (can_double meet.hi))
  where
    either : IsTrue (can_double meet.hi) ⊎ IsFalse (can_double meet.hi) → IsTrue (can_double meet.hi)
    either (inl fits) = fits
    either (inr none) =
        let is : apart_if_fit meet ≡ meet = ap (λ c. cond c (apart meet) meet) none in
        subst (λ (b : AverageBound). IsTrue (can_double b.hi)) is room

beside_reports : BesidesStand → (sum count : Bound) (other : AverageBound) (values : List ℤ) → IsDivisible other → AdmitValues sum count other values →
    ReportsAverage other (average values) → IsTrue (can_double (average_beside sum count other).hi) → ReportsAverage (average_beside sum count other) (average values)
beside_reports stand sum count other values d h own room = either (cases_Bool (is_counted count))
  where
    either : IsTrue (is_counted count) ⊎ IsFalse (is_counted count) → ReportsAverage (average_beside sum count other) (average values)
    either (inl some) =
        let from = average_from sum count in
        let is : average_beside sum count other ≡ beside_from from other = ap (λ c. cond c (beside_from from other) other) some in
        stand.report sum count other values d h own
        (meet_room (is_exact from) (meet_of_two from other) (subst (λ (b : AverageBound). IsTrue (can_double b.hi)) is room))
    either (inr few) =
        let is : average_beside sum count other ≡ other = ap (λ c. cond c (beside_from (average_from sum count) other) other) few in
        subst (λ (b : AverageBound). ReportsAverage b (average values)) (sym is) own

was_alike : (alike : Bool) (sum count : ShownBound) (shown : ShownAverage) → are_alike (Average shown ∷ Value sum ∷ []) ≡ alike →
    AreAlike (narrowed alike sum.bound count.bound shown ∷ Value sum ∷ []) → alike ≡ true
was_alike true sum count shown e h = refl
was_alike false sum count shown e h = sym e ∙ h

module _ (stand : BesidesStand) (sum count : Bound) (shown : ShownAverage) (tables : List (List ℤ))
    (k : AdmitValues sum count (average_of (Average shown)) (together tables)) where
  abbrev other : AverageBound
  other = average_of (Average shown)

  abbrev over : Option (ℤ × ℕ)
  over = shards.average_over tables

  abbrev said : Bool → AverageBound
  said alike = average_of (narrowed alike sum count shown)

  d : IsDivisible other
  d = divisible (Average shown)

  is : said true ≡ average_beside sum count other
  is = narrowed_is true sum count shown refl d

  contains_by : (alike : Bool) → AdmitsAverage (said alike) over
  contains_by true = subst (λ (b : AverageBound). AdmitsAverage b over) (sym is) (stand.contain sum count other (together tables) d k)
  contains_by false = k.other_admits

  reports_by : (alike : Bool) → ReportsAverage other over → IsTrue (can_double (said alike).hi) → ReportsAverage (said alike) over
  reports_by true own room =
      subst (λ (b : AverageBound). ReportsAverage b over) (sym is)
      (beside_reports stand sum count other (together tables) d k own (subst (λ (b : AverageBound). IsTrue (can_double b.hi)) is room))
  reports_by false own room = own

  narrow_by : (alike : Bool) → IsNestedAverage other (said alike)
  narrow_by true = subst (λ (b : AverageBound). IsNestedAverage other b) (sym is) (stand.narrow sum count other (together tables) d k)
  narrow_by false = nested-refl other

  tells_by : IsTrue (is_counted count) → Tells sum (shards.answer_over Sum tables) → Tells count (shards.answer_over Count tables) → TellsAverage (said true) over
  tells_by few p q = subst (λ (b : AverageBound). TellsAverage b over) (sym is) (stand.tell sum count other (together tables) few p q k.other_admits)

nests_by : BesidesStand → (sum count new_sum new_count : Bound) (shown new : ShownAverage) (tables : List (List ℤ)) →
    AdmitValues new_sum new_count (average_of (Average new)) (together tables) → IsNested sum new_sum → IsNested count new_count →
    IsNestedAverage (average_of (Average shown)) (average_of (Average new)) →
    IsNestedAverage (average_of (narrowed true sum count shown)) (average_of (narrowed true new_sum new_count new))
nests_by stand sum count new_sum new_count shown new tables k p q r =
    let d = divisible (Average shown) in
    let e = divisible (Average new) in
    subst (λ (b : AverageBound). IsNestedAverage b (average_of (narrowed true new_sum new_count new))) (sym (narrowed_is true sum count shown refl d))
    (subst (λ (b : AverageBound). IsNestedAverage (average_beside sum count (average_of (Average shown))) b) (sym (narrowed_is true new_sum new_count new refl e))
    (stand.nest sum count new_sum new_count (average_of (Average shown)) (average_of (Average new)) (together tables) (d, (e, tt)) p q r k))

-- ---- the group that is printed

module _ (besides : List (Option Beside)) (item : ℕ) (beside : Beside) (stands : get_or besides item None ≡ Some beside) (group : Group)
    (said : IsSaidBeside item beside group) where
  abbrev alike : Bool
  alike = are_alike (Average said.shown ∷ Value said.sum ∷ [])

  -- its average
  printed : slice_get (group_beside besides group).answers item ≡ Some (narrowed alike said.sum.bound said.count.bound said.shown)
  printed =
      says besides group item
      ∙ ap (option_map (answer_by group.answers (get_or besides item None))) said.of_average
      ∙ ap (λ (o : Option Beside). Some (answer_by group.answers o (Average said.shown))) stands
      ∙ ap (λ (sum : Answer). Some (answer_beside sum (told_at beside.count group.answers) (Average said.shown)))
      (get_or_from_slice_get group.answers beside.sum (Value said.sum) no_answer said.of_sum)
      ∙ ap (λ (count : Answer). Some (answer_beside (Value said.sum) count (Average said.shown)))
      (get_or_from_slice_get group.answers beside.count (Value said.count) no_answer said.of_count)

  pub printed_is : average_in item (group_beside besides group) ≡ average_of (narrowed alike said.sum.bound said.count.bound said.shown)
  printed_is = reads_average (group_beside besides group) item (narrowed alike said.sum.bound said.count.bound said.shown) printed

  -- and its sum
  printed_sum : slice_get (group_beside besides group).answers beside.sum ≡ Some (Value said.sum)
  printed_sum =
      says besides group beside.sum
      ∙ ap (option_map (answer_by group.answers (get_or besides beside.sum None))) said.of_sum
      ∙ ap (λ (answer : Answer). Some answer) (value_by group.answers (get_or besides beside.sum None) said.sum)

  pub are_alike_alone : IsSumAlike item beside (group_beside besides group) → alike ≡ true
  are_alike_alone h =
      let answers = (group_beside besides group).answers in
      let answer = narrowed alike said.sum.bound said.count.bound said.shown in
      was_alike alike said.sum said.count said.shown refl
      (subst (λ (sum : Answer). AreAlike (answer ∷ sum ∷ [])) (get_or_from_slice_get answers beside.sum (Value said.sum) no_answer printed_sum)
      (subst (λ (mean : Answer). AreAlike (mean ∷ told_at beside.sum answers ∷ [])) (get_or_from_slice_get answers item answer no_answer printed) h))

  sum_is : bound_in beside.sum group ≡ said.sum.bound
  sum_is = reads_bound group beside.sum said.sum said.of_sum

  count_is : bound_in beside.count group ≡ said.count.bound
  count_is = reads_bound group beside.count said.count said.of_count

  other_is : average_in item group ≡ average_of (Average said.shown)
  other_is = reads_average group item (Average said.shown) said.of_average

  admitted : (tables : List (List ℤ)) → Admits (bound_in beside.sum group) (shards.answer_over Sum tables) →
      Admits (bound_in beside.count group) (shards.answer_over Count tables) → AdmitsAverage (average_in item group) (shards.average_over tables) →
      AdmitValues said.sum.bound said.count.bound (average_of (Average said.shown)) (together tables)
  admitted tables p q r =
      admit_values said.sum.bound said.count.bound (average_of (Average said.shown)) tables
      (subst (λ (b : Bound). Admits b (shards.answer_over Sum tables)) sum_is p)
      (subst (λ (b : Bound). Admits b (shards.answer_over Count tables)) count_is q)
      (subst (λ (b : AverageBound). AdmitsAverage b (shards.average_over tables)) other_is r)

  module _ (stand : BesidesStand) (tables : List (List ℤ)) (p : Admits (bound_in beside.sum group) (shards.answer_over Sum tables))
      (q : Admits (bound_in beside.count group) (shards.answer_over Count tables)) (r : ReportsAverage (average_in item group) (shards.average_over tables)) where
    pub group_contains : AdmitsAverage (average_in item (group_beside besides group)) (shards.average_over tables)
    group_contains =
        subst (λ (b : AverageBound). AdmitsAverage b (shards.average_over tables)) (sym printed_is)
        (contains_by stand said.sum.bound said.count.bound said.shown tables (admitted tables p q r.admits) alike)

    pub group_reports : HasRoom item (group_beside besides group) → ReportsAverage (average_in item (group_beside besides group)) (shards.average_over tables)
    group_reports room =
        subst (λ (b : AverageBound). ReportsAverage b (shards.average_over tables)) (sym printed_is)
        (reports_by stand said.sum.bound said.count.bound said.shown tables (admitted tables p q r.admits) alike
        (subst (λ (b : AverageBound). ReportsAverage b (shards.average_over tables)) other_is r)
        (subst (λ (b : AverageBound). IsTrue (can_double b.hi)) printed_is room))

    pub group_narrows : IsNestedAverage (average_in item group) (average_in item (group_beside besides group))
    group_narrows =
        subst (λ (b : AverageBound). IsNestedAverage (average_in item group) b) (sym printed_is)
        (subst (λ (b : AverageBound). IsNestedAverage b (average_of (narrowed alike said.sum.bound said.count.bound said.shown))) (sym other_is)
        (narrow_by stand said.sum.bound said.count.bound said.shown tables (admitted tables p q r.admits) alike))

    pub group_tells : Tells (bound_in beside.sum group) (shards.answer_over Sum tables) → Tells (bound_in beside.count group) (shards.answer_over Count tables) →
        IsSumAlike item beside (group_beside besides group) → IsTrue (is_counted (bound_in beside.count group)) →
        TellsAverage (average_in item (group_beside besides group)) (shards.average_over tables)
    group_tells s n same few =
        let is = printed_is ∙ ap (λ (a : Bool). average_of (narrowed a said.sum.bound said.count.bound said.shown)) (are_alike_alone same) in
        subst (λ (b : AverageBound). TellsAverage b (shards.average_over tables)) (sym is)
        (tells_by stand said.sum.bound said.count.bound said.shown tables (admitted tables p q r.admits)
        (subst (λ (b : Bound). IsTrue (is_counted b)) count_is few)
        (subst (λ (b : Bound). Tells b (shards.answer_over Sum tables)) sum_is s)
        (subst (λ (b : Bound). Tells b (shards.answer_over Count tables)) count_is n))

-- ---- the next round

module _ (stand : BesidesStand) (besides : List (Option Beside)) (item : ℕ) (beside : Beside) (stands : get_or besides item None ≡ Some beside) (group next : Group)
    (said : IsSaidBeside item beside group) (new : IsSaidBeside item beside next) (tables : List (List ℤ)) where
  pub group_nests : IsSumAlike item beside (group_beside besides group) → IsSumAlike item beside (group_beside besides next) →
      Admits (bound_in beside.sum next) (shards.answer_over Sum tables) → Admits (bound_in beside.count next) (shards.answer_over Count tables) →
      AdmitsAverage (average_in item next) (shards.average_over tables) → IsNested (bound_in beside.sum group) (bound_in beside.sum next) →
      IsNested (bound_in beside.count group) (bound_in beside.count next) → IsNestedAverage (average_in item group) (average_in item next) →
      IsNestedAverage (average_in item (group_beside besides group)) (average_in item (group_beside besides next))
  group_nests same and_same p q r s n m =
      let is = printed_is besides item beside stands group said
      ∙ ap (λ (a : Bool). average_of (narrowed a said.sum.bound said.count.bound said.shown)) (are_alike_alone besides item beside stands group said same) in
      let is_next = printed_is besides item beside stands next new
      ∙ ap (λ (a : Bool). average_of (narrowed a new.sum.bound new.count.bound new.shown)) (are_alike_alone besides item beside stands next new and_same) in
      subst (λ (b : AverageBound). IsNestedAverage b (average_in item (group_beside besides next))) (sym is)
      (subst (λ (b : AverageBound). IsNestedAverage (average_of (narrowed true said.sum.bound said.count.bound said.shown)) b) (sym is_next)
      (nests_by stand said.sum.bound said.count.bound new.sum.bound new.count.bound said.shown new.shown tables
      (admitted besides item beside stands next new tables p q r)
      (subst (λ (b : Bound). IsNested said.sum.bound b) (reads_bound next beside.sum new.sum new.of_sum)
      (subst (λ (b : Bound). IsNested b (bound_in beside.sum next)) (reads_bound group beside.sum said.sum said.of_sum) s))
      (subst (λ (b : Bound). IsNested said.count.bound b) (reads_bound next beside.count new.count new.of_count)
      (subst (λ (b : Bound). IsNested b (bound_in beside.count next)) (reads_bound group beside.count said.count said.of_count) n))
      (subst (λ (b : AverageBound). IsNestedAverage (average_of (Average said.shown)) b) (reads_average next item (Average new.shown) new.of_average)
      (subst (λ (b : AverageBound). IsNestedAverage b (average_in item next)) (reads_average group item (Average said.shown) said.of_average) m))))
