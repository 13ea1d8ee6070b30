-- What holds of the least and the greatest texts of groups over all parts, as statements. A public function, which only names the laws on
-- which it rests, has each as its contract.
use Rattle.std.specs.Prelude.{◌≡◌, ◌⊎◌, ℕ, List, [], ◌∷◌, IsTrue, IsFalse, map, slice_get}
use Rattle.std.specs.declared.option.Option.{Option}
use Rattle.std.specs.declared.option.Option.TheVariants.{None, Some}
use Rattle.query_model.specs.declared.query.ItemKind.{ItemKind}
use Rattle.shard_groups.specs.Keys.{Key, holds, is_within, meets}
use Rattle.shard_groups.specs.Laws.{AreOneKeys}
use Rattle.text_extremes.specs.Answers.{bound_told}
use Rattle.text_extremes.specs.Bounds.{Admits, IsNested, Tells, TextBound}
use Rattle.text_extremes.specs.Laws.{OfEach, answer_over}
use Rattle.text_extremes.specs.Texts as texts
use Rattle.text_extremes.specs.declared.extreme.Extreme.{Extreme}
use Rattle.part_groups.specs.Combined.{IsCombinedReport}
use Rattle.part_groups.specs.Laws.{AreAllOf, IsGroupOf, has_key, keys_by}
use Rattle.part_groups.specs.Texts.{extreme_of, text_at}
use Rattle.part_groups.specs.declared.group.Group.{Group}

-- where a group says that the text of an item lies: where it tells none it says that there is none
abbrev pub text_in : ℕ → Group → Option TextBound
text_in item group = bound_told (text_at item group.texts)

-- ---- contains

-- each group that has the key admits the least or the greatest of these texts
abbrev pub AreTextsAdmitted : Extreme → ℕ → Key → List Group → List (List ℕ) → Type 0
AreTextsAdmitted extreme item key [] given = Unit {0}
AreTextsAdmitted extreme item key (group ∷ groups) given =
    (IsTrue (holds (keys_by group) key) → Admits (text_in item group) (texts.extreme_of extreme given))
    × AreTextsAdmitted extreme item key groups given

-- the report of a part is certain of the key, to which the part's rows give these texts: a key without a group has none
pub record IsTextCertainIn (extreme : Extreme) (item : ℕ) (key : Key) (groups : List Group) (given : List (List ℕ)) : Type 0 where
  pub admits : AreTextsAdmitted extreme item key groups given
  pub missing : IsFalse (has_key key groups) → given ≡ []

abbrev pub AreTextsCertainIn : Extreme → ℕ → Key → List (List Group) → List (List (List ℕ)) → Type 0
AreTextsCertainIn extreme item key parts tables = OfEach (IsTextCertainIn extreme item key) parts tables

-- a group of the combined report that has the key contains the text of the rows of all parts
abbrev pub GroupsContainTexts : Type 0
GroupsContainTexts =
    (count : ℕ) (kinds : List ItemKind) (parts : List (List Group)) (groups : List Group) (kind : ItemKind) (extreme : Extreme) (item : ℕ)
    (key : Key) (tables : List (List (List ℕ))) (group : Group) →
    AreAllOf count parts → IsCombinedReport count kinds parts groups → slice_get kinds item ≡ Some kind → extreme_of kind ≡ Some extreme →
    AreTextsCertainIn extreme item key parts tables → IsGroupOf group groups → IsTrue (holds (keys_by group) key) →
    Admits (text_in item group) (answer_over extreme tables)

-- ---- exact

-- each group that has the key says the least or the greatest of these texts
abbrev pub AreTextsTold : Extreme → ℕ → Key → List Group → List (List ℕ) → Type 0
AreTextsTold extreme item key [] given = Unit {0}
AreTextsTold extreme item key (group ∷ groups) given =
    (IsTrue (holds (keys_by group) key) → Tells (text_in item group) (texts.extreme_of extreme given))
    × AreTextsTold extreme item key groups given

-- the report of a part is exact at the key: each group has one key, and that of the key says the text
pub record IsTextToldIn (extreme : Extreme) (item : ℕ) (key : Key) (groups : List Group) (given : List (List ℕ)) : Type 0 where
  pub one_keys : AreOneKeys (map keys_by groups)
  pub told : AreTextsTold extreme item key groups given
  pub missing : IsFalse (has_key key groups) → given ≡ []

abbrev pub AreAllTextsToldIn : Extreme → ℕ → Key → List (List Group) → List (List (List ℕ)) → Type 0
AreAllTextsToldIn extreme item key parts tables = OfEach (IsTextToldIn extreme item key) parts tables

-- where each part's report is exact, a group of the combined report that has the key says the text of the rows of all parts
abbrev pub GroupsTellTexts : Type 0
GroupsTellTexts =
    (count : ℕ) (kinds : List ItemKind) (parts : List (List Group)) (groups : List Group) (kind : ItemKind) (extreme : Extreme) (item : ℕ)
    (key : Key) (tables : List (List (List ℕ))) (group : Group) →
    AreAllOf count parts → IsCombinedReport count kinds parts groups → slice_get kinds item ≡ Some kind → extreme_of kind ≡ Some extreme →
    AreAllTextsToldIn extreme item key parts tables → IsGroupOf group groups → IsTrue (holds (keys_by group) key) →
    Tells (text_in item group) (answer_over extreme tables)

-- ---- nested

-- each has a key
abbrev pub HaveSome : List Group → Type 0
HaveSome [] = Unit {0}
HaveSome (group ∷ groups) = IsTrue (meets (keys_by group) (keys_by group)) × HaveSome groups

-- the group lies within one of these, and so does its text
abbrev pub IsTextFrom : ℕ → Group → List Group → Type 0
IsTextFrom item group [] = ⊥
IsTextFrom item group (old ∷ olds) =
    (IsTrue (is_within (keys_by group) (keys_by old)) × IsNested (text_in item old) (text_in item group)) ⊎ IsTextFrom item group olds

abbrev pub AreTextsFrom : ℕ → List Group → List Group → Type 0
AreTextsFrom item olds [] = Unit {0}
AreTextsFrom item olds (group ∷ groups) = IsTextFrom item group olds × AreTextsFrom item olds groups

-- one of these has all keys of the group, and a text within the group's
abbrev pub HasTextAgain : ℕ → Group → List Group → Type 0
HasTextAgain item old [] = ⊥
HasTextAgain item old (group ∷ groups) =
    (IsTrue (is_within (keys_by old) (keys_by group)) × IsNested (text_in item old) (text_in item group)) ⊎ HasTextAgain item old groups

-- a group that is certain of a text is there again
abbrev pub AreTextsKept : ℕ → List Group → List Group → Type 0
AreTextsKept item [] groups = Unit {0}
AreTextsKept item (old ∷ olds) groups = (IsNested (text_in item old) None ⊎ HasTextAgain item old groups) × AreTextsKept item olds groups

-- a later report of a part: its groups and texts lie within those before, and a group that was certain of a text is there again
pub record IsLaterText (item : ℕ) (olds groups : List Group) : Type 0 where
  pub some : HaveSome groups
  pub from : AreTextsFrom item olds groups
  pub kept : AreTextsKept item olds groups

abbrev pub AreLaterTexts : ℕ → List (List Group) → List (List Group) → Type 0
AreLaterTexts item before parts = OfEach (IsLaterText item) before parts

-- the keys of a group, and its text, lie within those of another
pub record IsNestedTextGroup (item : ℕ) (old group : Group) : Type 0 where
  pub keys : (key : Key) → IsTrue (holds (keys_by group) key) → IsTrue (holds (keys_by old) key)
  pub text : IsNested (text_in item old) (text_in item group)

-- with later reports of the parts the group of a key and its text lie within those before
abbrev pub GroupsNestTexts : Type 0
GroupsNestTexts =
    (count : ℕ) (kinds : List ItemKind) (before parts : List (List Group)) (olds groups : List Group) (kind : ItemKind) (extreme : Extreme)
    (item : ℕ) (key : Key) (old group : Group) →
    AreAllOf count before → AreAllOf count parts → IsCombinedReport count kinds before olds → IsCombinedReport count kinds parts groups →
    slice_get kinds item ≡ Some kind → extreme_of kind ≡ Some extreme → AreLaterTexts item before parts → IsGroupOf old olds →
    IsGroupOf group groups → IsTrue (holds (keys_by old) key) → IsTrue (holds (keys_by group) key) → IsNestedTextGroup item old group
