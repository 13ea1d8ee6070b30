-- That a combined report by groups is certain of all rows together, where what the parts say is of their own.
use Rattle.std.proofs.Common.{◌≡◌, ◌≢◌, ◌⊎◌, ℕ, ◌+◌, ◌-◌, ◌<◌, min, ℤ, IsTrue, List, [], ◌∷◌, get_or, length, slice_get, Option, None, Some, refl, sym, ap, ◌∙◌, subst, inl, inr, arith, All}
use Rattle.std.proofs.lemmas.List.Elements.{All-head, All-nil, All-tail}
use Rattle.narrow_averages.specs.Beside.{BesidesStand, is_counted}
use Rattle.query_kinds.specs.declared.beside.Beside.{Beside}
use Rattle.query_model.specs.Bounds.{Admits, AdmitsAverage, AverageBound, IsNestedAverage}
use Rattle.query_model.specs.declared.bounds.Bound.{Bound}
use Rattle.query_model.specs.declared.query.ItemKind.{ItemKind}
use Rattle.query_model.specs.declared.query.ItemKind.TheVariants.{Avg, Count, Sum}
use Rattle.shard_bounds.specs.Averages.{ReportsAverage, TellsAverage}
use Rattle.shard_bounds.specs.Combined as shards
use Rattle.shard_bounds.specs.Laws.{Tells}
use Rattle.shard_groups.specs.Keys.{Key, holds}
use Rattle.shard_groups.specs.Laws.{AreLater, AreLaterAverages, IsLater, IsLaterAverage}
use Rattle.part_groups.proofs.Overall.{alike_or_other}
use Rattle.part_groups.specs.Combined.{IsCombinedReport}
use Rattle.part_groups.specs.Laws.{AreAllOf, AreAllToldIn, AreAveragesCertainIn, AreCertainIn, AreKeysShown, AreOf, IsGroupOf, IsNestedAverageGroup, IsNestedGroup}
use Rattle.part_groups.specs.Laws.{GroupsContain, GroupsReportAverages, GroupsNest, GroupsNestAverages, GroupsTell, GroupsTellAverages, GroupsTellKeys, average_in, bound_in, keys_by}
use Rattle.part_groups.specs.TextLaws.{AreLaterTexts, GroupsContainTexts, GroupsNestTexts, GroupsTellTexts, IsLaterText, IsNestedTextGroup, text_in}
use Rattle.part_groups.specs.Texts.{extreme_of}
use Rattle.part_groups.specs.Whole.{AreKeyed, IsKeyed, WholeIsCombined, cells_by}
use Rattle.part_groups.specs.declared.group.Group.{Group}
use Rattle.report_parts.proofs.BesideHeadline.{no_average_count, no_average_sum}
use Rattle.report_parts.proofs.BesideGroups.{IsSaidBeside, group_contains, group_narrows, group_nests, group_reports, group_tells, said_beside}
use Rattle.report_parts.proofs.GroupBesides.{alone_of, average_stays, bound_stays, has_alone, keys_shown, nested, nested_average, nested_text}
use Rattle.report_parts.proofs.GroupsOver.{by_groups, fault_by_groups}
use Rattle.report_parts.proofs.Keyed.{keyed_here, tagged_keyed}
use Rattle.report_parts.proofs.OnlyTexts.{no_other}
use Rattle.report_parts.specs.Beside.{group_beside, groups_beside}
use Rattle.report_parts.specs.Blocks.{groups_of}
use Rattle.report_parts.specs.Course.{Task, Tell}
use Rattle.report_parts.specs.GroupHeadline.{AreAlikeIn, AreCertainBesideIn, CombinedGroupsAreCertain, DoAllNest, DoGroupsNest, HasFaultIn, HasNoOther, HasRoom, IsCertainOfBeside, IsCertainOfAverage, IsCertainOfKey, IsCertainOfText}
use Rattle.report_parts.specs.GroupHeadline.{IsCounted, IsGroupIn, IsSumAlike, groups_alone, printed_groups}
use Rattle.report_parts.specs.Keyed.{AreKeyedFrom, IsKeyedFrom}
use Rattle.report_parts.specs.Reports.{block_beside}
use Rattle.report_parts.specs.Rounds.{all_groups_in}
use Rattle.report_parts.specs.Told.{Told}
use Rattle.report_parts.specs.declared.block.Block.{Block}
use Rattle.report_parts.specs.declared.fault.BlockFault.TheVariants.{OtherColumn, OtherItem}
use Rattle.report_parts.specs.declared.shape.Shape.{Shape}
use Rattle.text_extremes.specs.Bounds as bounds
use Rattle.text_extremes.specs.Laws.{answer_over}
use Rattle.text_extremes.specs.declared.extreme.Extreme.{Extreme}

-- ---- each line of a group has keys

tell_keyed : (task : Task) (round : ℕ) (parts : List Told) (lines : List (List ℕ)) (last : List Told) → Tell task parts lines last →
    AreKeyedFrom task.shape.columns round parts → AreKeyedFrom task.shape.columns round last
tell_keyed task round parts [] last same h = subst (λ (ps : List Told). AreKeyedFrom task.shape.columns round ps) (sym same) h
tell_keyed task round parts (line ∷ lines) last (next, takes, rest) h =
    tell_keyed task round next lines last rest (tagged_keyed task.query task.shape round parts line next takes.taken h)

of_groups : (count : ℕ) (groups : List Group) → All (IsKeyed count) groups → AreOf count groups
of_groups count [] h = tt
of_groups count (group ∷ groups) h =
    let own = All-head (IsKeyed count) group groups h in
    (record { shown = own.shown; columns = own.columns }, of_groups count groups (All-tail (IsKeyed count) group groups h))

of_parts : (count : ℕ) (parts : List (List Group)) → AreKeyed count parts → AreAllOf count parts
of_parts count [] h = tt
of_parts count (groups ∷ parts) h =
    (of_groups count groups (All-head (λ gs. All (IsKeyed count) gs) groups parts h), of_parts count parts (All-tail (λ gs. All (IsKeyed count) gs) groups parts h))

are_of : (task : Task) (lines : List (List ℕ)) (parts : List Told) → Tell task [] lines parts → (round : ℕ) →
    AreAllOf task.shape.columns (all_groups_in round parts)
are_of task lines parts told round =
    let columns = task.shape.columns in
    of_parts columns (all_groups_in round parts)
    (keyed_here columns round parts (tell_keyed task round [] lines parts told (All-nil (IsKeyedFrom columns round))))

-- ---- what is printed

combined : WholeIsCombined → (shape : Shape) (parts : List Told) (round : ℕ) → AreAlikeIn round shape parts →
    IsCombinedReport shape.columns shape.kinds (all_groups_in round parts) (groups_alone round shape parts)
combined law shape parts round alike = law shape.columns shape.kinds (all_groups_in round parts) alike

printed_are : (shape : Shape) (parts : List Told) → 0 < shape.columns → (round : ℕ) →
    printed_groups round shape parts ≡ groups_beside shape.besides (groups_alone round shape parts)
printed_are shape parts some round =
    ap (λ (b : Block). groups_of (block_beside shape.besides b)) (by_groups shape.columns shape.rows round shape.kinds parts some)

-- a group that is printed is one of those by what the parts say of each item alone, with its averages narrowed
record IsPrinted (round : ℕ) (shape : Shape) (parts : List Told) (key : Key) (group : Group) : Type 0 where
  pub alone : Group
  pub is : IsGroupOf alone (groups_alone round shape parts)
  pub has : IsTrue (holds (keys_by alone) key)
  pub same : group ≡ group_beside shape.besides alone
  pub alike : AreAlikeIn round shape parts

printed : (shape : Shape) (parts : List Told) → 0 < shape.columns → (round : ℕ) (key : Key) (group : Group) → IsGroupIn round shape parts key group →
    IsPrinted round shape parts key group
printed shape parts some round key group is =
    let a = alone_of shape.besides (groups_alone round shape parts) group (subst (IsGroupOf group) (printed_are shape parts some round) is.printed) in
    record { alone = a.alone; is = a.is; has = has_alone shape.besides group a.alone key a.same is.has; same = a.same; alike = is.alike }

-- ---- the forms

forms : (shape : Shape) (parts : List Told) → 0 < shape.columns → (round : ℕ) → AreAlikeIn round shape parts ⊎ HasFaultIn round shape parts
forms shape parts some round = elim (alike_or_other shape.columns shape.kinds (all_groups_in round parts)) [
  | inl alike ↦ inl alike
  | inr (inl (column, fault)) ↦ inr (OtherColumn column, λ e. cc, fault_by_groups shape.columns shape.rows (OtherColumn column) round shape.kinds parts some fault)
  | inr (inr (item, fault)) ↦ inr (OtherItem item, λ e. cc, fault_by_groups shape.columns shape.rows (OtherItem item) round shape.kinds parts some fault)
]

-- ---- the next round

later : (kind : ItemKind) (item round : ℕ) (parts : List Told) → DoAllNest (IsLater kind item) parts →
    AreLater kind item (cells_by (all_groups_in round parts)) (cells_by (all_groups_in (round + 1) parts))
later kind item round [] h = tt
later kind item round (part ∷ parts) h = (
  h.0.nests (min round (length part.blocks - 1)) (min (round + 1) (length part.blocks - 1)) (omega arith) (omega (arith, h.0.some)),
  later kind item round parts h.1,
)

later_averages : (item round : ℕ) (parts : List Told) → DoAllNest (IsLaterAverage item) parts →
    AreLaterAverages item (cells_by (all_groups_in round parts)) (cells_by (all_groups_in (round + 1) parts))
later_averages item round [] h = tt
later_averages item round (part ∷ parts) h = (
  h.0.nests (min round (length part.blocks - 1)) (min (round + 1) (length part.blocks - 1)) (omega arith) (omega (arith, h.0.some)),
  later_averages item round parts h.1,
)

later_texts : (item round : ℕ) (parts : List Told) → DoGroupsNest (IsLaterText item) parts →
    AreLaterTexts item (all_groups_in round parts) (all_groups_in (round + 1) parts)
later_texts item round [] h = tt
later_texts item round (part ∷ parts) h = (
  h.0.nests (min round (length part.blocks - 1)) (min (round + 1) (length part.blocks - 1)) (omega arith) (omega (arith, h.0.some)),
  later_texts item round parts h.1,
)

-- ---- a key

module _ (whole : WholeIsCombined) (task : Task) (lines : List (List ℕ)) (parts : List Told) (told : Tell task [] lines parts) (some : 0 < task.shape.columns) where
  abbrev shape : Shape
  shape = task.shape

  abbrev columns : ℕ
  columns = task.shape.columns

  abbrev kinds : List ItemKind
  kinds = task.shape.kinds

  abbrev besides : List (Option Beside)
  besides = task.shape.besides

  abbrev now : ℕ → List (List Group)
  now round = all_groups_in round parts

  abbrev alone : ℕ → List Group
  alone round = groups_alone round task.shape parts

  -- of each group that is printed, its bound is what the parts say of the item alone
  module _ (contains : GroupsContain) (nests : GroupsNest) (tells : GroupsTell) (item : ℕ) (kind : ItemKind) (key : Key) (tables : List (List ℤ)) (round : ℕ)
      (other : kind ≢ Avg) (there : slice_get kinds item ≡ Some kind) where
    contains_alone : AreCertainIn kind item key (now round) tables → (group : Group) (p : IsPrinted round shape parts key group) →
        Admits (bound_in item p.alone) (shards.answer_over kind tables)
    contains_alone sure group p = contains columns kinds (now round) (alone round) kind item key tables p.alone (are_of task lines parts told round)
        (combined whole shape parts round p.alike) there other sure p.is p.has

    nests_alone : DoAllNest (IsLater kind item) parts → (group next : Group) (p : IsPrinted round shape parts key group)
        (q : IsPrinted (round + 1) shape parts key next) → IsNestedGroup item p.alone q.alone
    nests_alone all group next p q = nests columns kinds (now round) (now (round + 1)) (alone round) (alone (round + 1)) kind item key p.alone q.alone
        (are_of task lines parts told round) (are_of task lines parts told (round + 1)) (combined whole shape parts round p.alike)
        (combined whole shape parts (round + 1) q.alike) there other (later kind item round parts all) p.is q.is p.has q.has

    tells_alone : AreAllToldIn kind item key (now round) tables → (group : Group) (p : IsPrinted round shape parts key group) →
        Tells (bound_in item p.alone) (shards.answer_over kind tables)
    tells_alone said group p = tells columns kinds (now round) (alone round) kind item key tables p.alone (are_of task lines parts told round)
        (combined whole shape parts round p.alike) there other said p.is p.has

    bound_is : (group : Group) (p : IsPrinted round shape parts key group) → bound_in item group ≡ bound_in item p.alone
    bound_is group p = ap (bound_in item) p.same ∙ bound_stays besides p.alone item

    certain : IsCertainOfKey round item kind key shape parts tables
    certain = record {
      contains = λ sure group is.
          let p = printed shape parts some round key group is in
          subst (λ (b : Bound). Admits b (shards.answer_over kind tables)) (sym (bound_is group p)) (contains_alone sure group p);
      nests = λ all group next is behind.
          let p = printed shape parts some round key group is in
          let q = printed shape parts some (round + 1) key next behind in
          subst (λ (g : Group). IsNestedGroup item g next) (sym p.same)
          (subst (λ (g : Group). IsNestedGroup item (group_beside besides p.alone) g) (sym q.same)
          (nested besides item p.alone q.alone (nests_alone all group next p q)));
      exact = λ said group is.
          let p = printed shape parts some round key group is in
          subst (λ (b : Bound). Tells b (shards.answer_over kind tables)) (sym (bound_is group p)) (tells_alone said group p);
    }

  -- of the least or the greatest text
  module _ (contains : GroupsContainTexts) (nests : GroupsNestTexts) (tells : GroupsTellTexts) (item : ℕ) (kind : ItemKind) (extreme : Extreme) (key : Key)
      (tables : List (List (List ℕ))) (round : ℕ) (there : slice_get kinds item ≡ Some kind) (asked : extreme_of kind ≡ Some extreme) where
    certain_text : IsCertainOfText round item extreme key shape parts tables
    certain_text = record {
      contains = λ sure group is.
          let p = printed shape parts some round key group is in
          subst (λ (g : Group). bounds.Admits (text_in item g) (answer_over extreme tables)) (sym p.same)
          (contains columns kinds (now round) (alone round) kind extreme item key tables p.alone (are_of task lines parts told round)
          (combined whole shape parts round p.alike) there asked sure p.is p.has);
      no_other = λ none group is.
          let p = printed shape parts some round key group is in
          subst (HasNoOther item) (sym p.same) (no_other besides columns kinds (now round) kind extreme item p.alone there asked none p.is);
      nests = λ all group next is behind.
          let p = printed shape parts some round key group is in
          let q = printed shape parts some (round + 1) key next behind in
          subst (λ (g : Group). IsNestedTextGroup item g next) (sym p.same)
          (subst (λ (g : Group). IsNestedTextGroup item (group_beside besides p.alone) g) (sym q.same)
          (nested_text besides item p.alone q.alone
          (nests columns kinds (now round) (now (round + 1)) (alone round) (alone (round + 1)) kind extreme item key p.alone q.alone
          (are_of task lines parts told round) (are_of task lines parts told (round + 1)) (combined whole shape parts round p.alike)
          (combined whole shape parts (round + 1) q.alike) there asked (later_texts item round parts all) p.is q.is p.has q.has)));
      exact = λ said group is.
          let p = printed shape parts some round key group is in
          subst (λ (g : Group). bounds.Tells (text_in item g) (answer_over extreme tables)) (sym p.same)
          (tells columns kinds (now round) (alone round) kind extreme item key tables p.alone (are_of task lines parts told round)
          (combined whole shape parts round p.alike) there asked said p.is p.has);
    }

  -- and so it is of its average
  module _ (reports : GroupsReportAverages) (nests : GroupsNestAverages) (item : ℕ) (key : Key) (tables : List (List ℤ)) (round : ℕ)
      (there : slice_get kinds item ≡ Some Avg) where
    reports_alone : AreAveragesCertainIn item key (now round) tables → (group : Group) (p : IsPrinted round shape parts key group) →
        ReportsAverage (average_in item p.alone) (shards.average_over tables)
    reports_alone sure group p = reports columns kinds (now round) (alone round) item key tables p.alone (are_of task lines parts told round)
        (combined whole shape parts round p.alike) there sure p.is p.has

    average_nests : DoAllNest (IsLaterAverage item) parts → (group next : Group) (p : IsPrinted round shape parts key group)
        (q : IsPrinted (round + 1) shape parts key next) → IsNestedAverageGroup item p.alone q.alone
    average_nests all group next p q = nests columns kinds (now round) (now (round + 1)) (alone round) (alone (round + 1)) item key p.alone q.alone
        (are_of task lines parts told round) (are_of task lines parts told (round + 1)) (combined whole shape parts round p.alike)
        (combined whole shape parts (round + 1) q.alike) there (later_averages item round parts all) p.is q.is p.has q.has

    -- where nothing stands beside it
    average : GroupsTellAverages → get_or besides item None ≡ None → IsCertainOfAverage round item key shape parts tables
    average tells none = record {
      reports = λ sure group is.
          let p = printed shape parts some round key group is in
          subst (λ (g : Group). ReportsAverage (average_in item g) (shards.average_over tables)) (sym p.same)
          (subst (λ (b : AverageBound). ReportsAverage b (shards.average_over tables)) (sym (average_stays besides p.alone item none)) (reports_alone sure group p));
      nests = λ all group next is behind.
          let p = printed shape parts some round key group is in
          let q = printed shape parts some (round + 1) key next behind in
          subst (λ (g : Group). IsNestedAverageGroup item g next) (sym p.same)
          (subst (λ (g : Group). IsNestedAverageGroup item (group_beside besides p.alone) g) (sym q.same)
          (nested_average besides item p.alone q.alone none (average_nests all group next p q)));
      exact = λ said group is.
          let p = printed shape parts some round key group is in
          subst (λ (g : Group). TellsAverage (average_in item g) (shards.average_over tables)) (sym p.same)
          (subst (λ (b : AverageBound). TellsAverage b (shards.average_over tables)) (sym (average_stays besides p.alone item none))
          (tells columns kinds (now round) (alone round) item key tables p.alone (are_of task lines parts told round)
          (combined whole shape parts round p.alike) there said p.is p.has));
    }

  -- ---- an average beside which the sum and the number of its values are asked

  module _ (contains : GroupsContain) (nests : GroupsNest) (tells : GroupsTell) (reports : GroupsReportAverages) (nests_averages : GroupsNestAverages)
      (stand : BesidesStand) (item : ℕ) (beside : Beside) (key : Key) (tables : List (List ℤ)) (there : slice_get kinds item ≡ Some Avg)
      (stands : get_or besides item None ≡ Some beside) (is_sum : slice_get kinds beside.sum ≡ Some Sum) (is_count : slice_get kinds beside.count ≡ Some Count) where
    of_three : (round : ℕ) (group : Group) (p : IsPrinted round shape parts key group) → IsSaidBeside item beside p.alone
    of_three round group p = said_beside item beside columns kinds (now round) p.alone there is_sum is_count p.is

    sum_admits : (round : ℕ) → AreCertainBesideIn round item beside key parts tables → (group : Group) (p : IsPrinted round shape parts key group) →
        Admits (bound_in beside.sum p.alone) (shards.answer_over Sum tables)
    sum_admits round sure group p = contains_alone contains nests tells beside.sum Sum key tables round no_average_sum is_sum sure.sums group p

    count_admits : (round : ℕ) → AreCertainBesideIn round item beside key parts tables → (group : Group) (p : IsPrinted round shape parts key group) →
        Admits (bound_in beside.count p.alone) (shards.answer_over Count tables)
    count_admits round sure group p = contains_alone contains nests tells beside.count Count key tables round no_average_count is_count sure.counts group p

    own : (round : ℕ) → AreCertainBesideIn round item beside key parts tables → (group : Group) (p : IsPrinted round shape parts key group) →
        ReportsAverage (average_in item p.alone) (shards.average_over tables)
    own round sure group p = reports_alone reports nests_averages item key tables round there sure.averages group p

    narrow : (round : ℕ) → AreCertainBesideIn round item beside key parts tables → (group : Group) (p : IsPrinted round shape parts key group) →
        IsNestedAverage (average_in item p.alone) (average_in item (group_beside besides p.alone))
    narrow round sure group p = group_narrows besides item beside stands p.alone (of_three round group p) stand tables (sum_admits round sure group p)
        (count_admits round sure group p) (own round sure group p)

    tell_both : (round : ℕ) → AreCertainBesideIn round item beside key parts tables → AreAllToldIn Sum beside.sum key (now round) tables →
        AreAllToldIn Count beside.count key (now round) tables → (group : Group) (p : IsPrinted round shape parts key group) →
        IsSumAlike item beside (group_beside besides p.alone) → IsCounted beside p.alone →
        TellsAverage (average_in item (group_beside besides p.alone)) (shards.average_over tables)
    tell_both round sure sums counts group p same few =
        let s = tells_alone contains nests tells beside.sum Sum key tables round no_average_sum is_sum sums group p in
        let n = tells_alone contains nests tells beside.count Count key tables round no_average_count is_count counts group p in
        group_tells besides item beside stands p.alone (of_three round group p) stand tables (sum_admits round sure group p)
        (count_admits round sure group p) (own round sure group p) s n same few

    average_beside : (round : ℕ) → IsCertainOfBeside round item beside key shape parts tables
    average_beside round = record {
      contains = λ sure group is.
          let p = printed shape parts some round key group is in
          subst (λ (g : Group). AdmitsAverage (average_in item g) (shards.average_over tables)) (sym p.same)
          (group_contains besides item beside stands p.alone (of_three round group p) stand tables (sum_admits round sure group p)
          (count_admits round sure group p) (own round sure group p));
      reports = λ sure group is room.
          let p = printed shape parts some round key group is in
          subst (λ (g : Group). ReportsAverage (average_in item g) (shards.average_over tables)) (sym p.same)
          (group_reports besides item beside stands p.alone (of_three round group p) stand tables (sum_admits round sure group p)
          (count_admits round sure group p) (own round sure group p) (subst (HasRoom item) p.same room));
      nests = λ all sure group next is behind same and_same.
          let p = printed shape parts some round key group is in
          let q = printed shape parts some (round + 1) key next behind in
          let s = nests_alone contains nests tells beside.sum Sum key tables round no_average_sum is_sum all.sums group next p q in
          let n = nests_alone contains nests tells beside.count Count key tables round no_average_count is_count all.counts group next p q in
          let m = average_nests reports nests_averages item key tables round there all.averages group next p q in
          let inside = group_nests stand besides item beside stands p.alone q.alone (of_three round group p) (of_three (round + 1) next q) tables
          (subst (IsSumAlike item beside) p.same same) (subst (IsSumAlike item beside) q.same and_same) (sum_admits (round + 1) sure next q)
          (count_admits (round + 1) sure next q) (own (round + 1) sure next q).admits s.bound n.bound m.average in
          subst (λ (g : Group). IsNestedAverageGroup item g next) (sym p.same)
          (subst (λ (g : Group). IsNestedAverageGroup item (group_beside besides p.alone) g) (sym q.same) (record { keys = m.keys; average = inside }));
      narrow = λ sure alike one is has.
          narrow round sure (group_beside besides one) (record { alone = one; is = is; has = has; same = refl; alike = alike });
      exact = λ sure sums counts group is same few.
          let p = printed shape parts some round key group is in
          subst (λ (g : Group). TellsAverage (average_in item g) (shards.average_over tables)) (sym p.same)
          (tell_both round sure sums counts group p (subst (IsSumAlike item beside) p.same same)
          (subst (λ (b : Bound). IsTrue (is_counted b)) (ap (bound_in beside.count) p.same ∙ bound_stays besides p.alone beside.count) few));
    }

pub groups_certain : WholeIsCombined → GroupsTellKeys → GroupsContain → GroupsNest → GroupsTell → GroupsReportAverages → GroupsNestAverages → GroupsTellAverages →
    GroupsContainTexts → GroupsNestTexts → GroupsTellTexts → BesidesStand → CombinedGroupsAreCertain
groups_certain whole keys contains nests tells reports_averages nests_averages tells_averages contain_texts nest_texts tell_texts stand task lines parts told some = record {
  forms = forms task.shape parts some;
  keys = λ key counts round alike counted.
      subst (AreKeysShown key counts) (sym (printed_are task.shape parts some round))
      (keys_shown task.shape.besides key counts (groups_alone round task.shape parts)
      (keys task.shape.columns task.shape.kinds (all_groups_in round parts) (groups_alone round task.shape parts) key counts (are_of task lines parts told round)
      (combined whole task.shape parts round alike) counted));
  items = λ item kind key tables round other there. certain whole task lines parts told some contains nests tells item kind key tables round other there;
  texts = λ item kind extreme key tables round there asked.
      certain_text whole task lines parts told some contain_texts nest_texts tell_texts item kind extreme key tables round there asked;
  averages = λ item key tables round there none.
      average whole task lines parts told some reports_averages nests_averages item key tables round there tells_averages none;
  besides = λ item beside key tables round there stands is_sum is_count.
      average_beside whole task lines parts told some contains nests tells reports_averages nests_averages stand item beside key tables there stands is_sum is_count round;
}
