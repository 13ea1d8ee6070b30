-- Of which parts a block can be written, and that there is one reason why one is not.
use Rattle.std.proofs.Common.{Option, None, ◌≡◌, ◌≢◌, ◌⊎◌, ℕ, zero, suc, ◌+◌, ◌<◌, ◌≤◌, Some, slice_get, List, length, refl, sym, ap, ◌∙◌, subst, inl, inr, arith}
use Rattle.std.proofs.lemmas.Option.{slice_get_within}
use Rattle.query_model.specs.declared.query.ItemKind.{ItemKind}
use Rattle.part_groups.proofs.Once.{faults_are_one}
use Rattle.part_groups.specs.Whole.{CanBeCombined, IsFaultOver}
use Rattle.part_groups.specs.declared.fault.CombineFault.{CombineFault as GroupsFault}
use Rattle.part_groups.specs.declared.fault.CombineFault.TheVariants as groups_fault
use Rattle.part_groups.specs.declared.group.Group.{Group as GroupTold}
use Rattle.part_rows.specs.Combined.{PartListing}
use Rattle.part_rows.specs.Faults.{AreAlike as AreRowsAlike, AreClear, first_unclear}
use Rattle.query_kinds.specs.declared.rows.FirstRows.{FirstRows}
use Rattle.report_parts.specs.Faults.{CanBeSaid, CanSay, CanSayBefore, CanSayBy, IsBlockFault, IsFaultBy, IsFirstFault, IsGroupsFault, IsItemFault, IsListFault, IsTotalsFault, of_groups}
use Rattle.report_parts.specs.Rounds.{all_groups_in, all_listed_in, entries_in}
use Rattle.report_parts.specs.Told.{Told}
use Rattle.report_parts.specs.declared.entry.Entry.{Entry}
use Rattle.report_parts.specs.declared.fault.BlockFault.{BlockFault}
use Rattle.report_parts.specs.declared.fault.BlockFault.TheVariants.{NoMemory, OtherColumn, OtherItem, OtherForm, TooWide, UnclearTag}
use Rattle.report_parts.specs.declared.shape.Shape.{Shape}

-- ---- parts that tell the same

module _ (round : ℕ) (kinds : List ItemKind) (parts laters : List Told) (same : (item : ℕ) → entries_in round item laters ≡ entries_in round item parts)
    (groups : all_groups_in round laters ≡ all_groups_in round parts) (listed : all_listed_in round laters ≡ all_listed_in round parts) where
  before_as : (place : ℕ) → CanSayBefore place round kinds parts → CanSayBefore place round kinds laters
  before_as place h item kind less there = subst (λ (entries : List Entry). CanBeSaid kind entries) (sym (same item)) (h item kind less there)

  pub said_as : (columns : ℕ) (asked : Option FirstRows) → CanSayBy columns asked round kinds parts → CanSayBy columns asked round kinds laters
  said_as zero None h = before_as (length kinds) h
  said_as zero (Some asked) h = subst (λ (all : List PartListing). AreClear all × AreRowsAlike all) (sym listed) h
  said_as (suc columns) asked h = subst (λ (all : List (List GroupTold)). CanBeCombined (suc columns) kinds all) (sym groups) h

  first_as : (why : BlockFault) → IsFirstFault why round kinds parts → IsFirstFault why round kinds laters
  first_as why h = record {
    item = h.item;
    kind = h.kind;
    there = h.there;
    before = before_as h.item h.before;
    fault = subst (λ (entries : List Entry). IsItemFault why h.item h.kind entries) (sym (same h.item)) h.fault;
  }

  totals_as : (why : BlockFault) → IsTotalsFault why round kinds parts → IsTotalsFault why round kinds laters
  totals_as (OtherColumn column) h = first_as (OtherColumn column) h
  totals_as (OtherItem item) h = first_as (OtherItem item) h
  totals_as (TooWide item) h = first_as (TooWide item) h
  totals_as (UnclearTag part) h = first_as (UnclearTag part) h
  totals_as OtherForm h = first_as OtherForm h
  totals_as NoMemory h = tt

  pub fault_as : (columns : ℕ) (asked : Option FirstRows) (why : BlockFault) → IsFaultBy columns asked why round kinds parts →
      IsFaultBy columns asked why round kinds laters
  fault_as zero None why h = totals_as why h
  fault_as zero (Some asked) why h = subst (λ (all : List PartListing). IsListFault why all) (sym listed) h
  fault_as (suc columns) asked why h = subst (λ (all : List (List GroupTold)). IsGroupsFault why (suc columns) kinds all) (sym groups) h

-- ---- an item more

pub none_said : (round : ℕ) (kinds : List ItemKind) (parts : List Told) → CanSayBefore 0 round kinds parts
none_said round kinds parts item kind less there = absurd (omega (arith, less))

below_or_at : (item place : ℕ) → item < place + 1 → (item < place) ⊎ (item ≡ place)
below_or_at item place less = grind (arith, less)

some_kind : {a b : ItemKind} → Some a ≡ Some b → a ≡ b
some_kind e = cc

-- the item at that place can be said too
pub said_more : (round item place : ℕ) (kinds : List ItemKind) (parts : List Told) (kind : ItemKind) → item ≡ place → slice_get kinds place ≡ Some kind →
    CanBeSaid kind (entries_in round item parts) → CanSayBefore place round kinds parts → CanSayBefore (place + 1) round kinds parts
said_more round item place kinds parts kind is at one before own other less there = elim (below_or_at own place less) [
  | inl below ↦ before own other below there
  | inr here ↦
      let same : kind ≡ other = some_kind (sym at ∙ ap (λ (n : ℕ). slice_get kinds n) (sym here) ∙ there) in
      subst (λ (k : ItemKind). CanBeSaid k (entries_in round own parts)) same
      (subst (λ (n : ℕ). CanBeSaid kind (entries_in round n parts)) (is ∙ sym here) one)
]

pub all_said : (round place : ℕ) (kinds : List ItemKind) (parts : List Told) → length kinds ≤ place → CanSayBefore place round kinds parts →
    CanSayBefore (length kinds) round kinds parts
all_said round place kinds parts all h item kind less there = h item kind (omega (arith, less, all)) there

-- the fault of an item behind others that can be said
pub first_fault : (why : BlockFault) (round item place : ℕ) (kinds : List ItemKind) (parts : List Told) (kind : ItemKind) → item ≡ place →
    slice_get kinds place ≡ Some kind → CanSayBefore place round kinds parts → IsItemFault why item kind (entries_in round item parts) →
    IsTotalsFault why round kinds parts
first_fault why round item place kinds parts kind is at before fault =
    by_case why (subst (λ (n : ℕ). IsItemFault why n kind (entries_in round n parts)) is fault)
  where
    by_case : (why : BlockFault) → IsItemFault why place kind (entries_in round place parts) → IsTotalsFault why round kinds parts
    by_case (OtherColumn column) own = absurd own
    by_case (OtherItem number) own = record { item = place; kind = kind; there = at; before = before; fault = own }
    by_case (TooWide number) own = record { item = place; kind = kind; there = at; before = before; fault = own }
    by_case (UnclearTag part) own = absurd own
    by_case OtherForm own = absurd own
    by_case NoMemory own = tt

-- ---- an item that cannot be said

unsaid : (why : BlockFault) (item : ℕ) (kind : ItemKind) (entries : List Entry) → why ≢ NoMemory → IsItemFault why item kind entries → CanBeSaid kind entries → ⊥
unsaid (OtherColumn column) item kind entries some h said = h
unsaid (OtherItem place) item kind entries some h said = h.1 said.alike
unsaid (TooWide place) item kind entries some h said = h.2 said.fit
unsaid (UnclearTag part) item kind entries some h said = h
unsaid OtherForm item kind entries some h said = h
unsaid NoMemory item kind entries some h said = some refl

item_once : (a b : BlockFault) (item : ℕ) (kind other : ItemKind) (entries : List Entry) → a ≢ NoMemory → b ≢ NoMemory → IsItemFault a item kind entries →
    IsItemFault b item other entries → a ≡ b
item_once (OtherColumn column) b item kind other entries one two h k = absurd h
item_once (OtherItem place) (OtherColumn column) item kind other entries one two h k = absurd k
item_once (OtherItem place) (OtherItem again) item kind other entries one two h k = ap (λ (n : ℕ). OtherItem n) (h.0 ∙ sym k.0)
item_once (OtherItem place) (TooWide again) item kind other entries one two h k = absurd (h.1 k.1)
item_once (OtherItem place) (UnclearTag part) item kind other entries one two h k = absurd k
item_once (OtherItem place) OtherForm item kind other entries one two h k = absurd k
item_once (OtherItem place) NoMemory item kind other entries one two h k = absurd (two refl)
item_once (TooWide place) (OtherColumn column) item kind other entries one two h k = absurd k
item_once (TooWide place) (OtherItem again) item kind other entries one two h k = absurd (k.1 h.1)
item_once (TooWide place) (TooWide again) item kind other entries one two h k = ap (λ (n : ℕ). TooWide n) (h.0 ∙ sym k.0)
item_once (TooWide place) (UnclearTag part) item kind other entries one two h k = absurd k
item_once (TooWide place) OtherForm item kind other entries one two h k = absurd k
item_once (TooWide place) NoMemory item kind other entries one two h k = absurd (two refl)
item_once (UnclearTag part) b item kind other entries one two h k = absurd h
item_once OtherForm b item kind other entries one two h k = absurd h
item_once NoMemory b item kind other entries one two h k = absurd (one refl)

pub which : (a b : ℕ) → (a < b) ⊎ ((a ≡ b) ⊎ (b < a))
which a b = grind arith

first_once : (a b : BlockFault) (round : ℕ) (kinds : List ItemKind) (parts : List Told) → a ≢ NoMemory → b ≢ NoMemory → IsFirstFault a round kinds parts →
    IsFirstFault b round kinds parts → a ≡ b
first_once a b round kinds parts one two h k = elim (which h.item k.item) [
  | inl less ↦ absurd (unsaid a h.item h.kind (entries_in round h.item parts) one h.fault (k.before h.item h.kind less h.there))
  | inr (inl same) ↦
      item_once a b h.item h.kind k.kind (entries_in round h.item parts) one two h.fault
      (subst (λ (n : ℕ). IsItemFault b n k.kind (entries_in round n parts)) (sym same) k.fault)
  | inr (inr more) ↦ absurd (unsaid b k.item k.kind (entries_in round k.item parts) two k.fault (h.before k.item k.kind more k.there))
]

first_unsaid : (why : BlockFault) (round : ℕ) (kinds : List ItemKind) (parts : List Told) → why ≢ NoMemory → IsFirstFault why round kinds parts →
    CanSayBefore (length kinds) round kinds parts → ⊥
first_unsaid why round kinds parts some h all =
    unsaid why h.item h.kind (entries_in round h.item parts) some h.fault (all h.item h.kind (slice_get_within kinds h.item h.kind h.there) h.there)

-- ---- totals

as_first : (why : BlockFault) (round : ℕ) (kinds : List ItemKind) (parts : List Told) → why ≢ NoMemory → IsTotalsFault why round kinds parts →
    IsFirstFault why round kinds parts
as_first (OtherColumn column) round kinds parts some h = h
as_first (OtherItem item) round kinds parts some h = h
as_first (TooWide item) round kinds parts some h = h
as_first (UnclearTag part) round kinds parts some h = h
as_first OtherForm round kinds parts some h = h
as_first NoMemory round kinds parts some h = absurd (some refl)

-- ---- groups

-- a fault of the block that is one of groups
record IsOwn (why : BlockFault) (columns : ℕ) (kinds : List ItemKind) (all : List (List GroupTold)) : Type 0 where
  own : GroupsFault
  same : of_groups own ≡ why
  fault : IsFaultOver own columns kinds all

own_fault : (why : BlockFault) (columns : ℕ) (kinds : List ItemKind) (all : List (List GroupTold)) → why ≢ NoMemory →
    IsGroupsFault why columns kinds all → IsOwn why columns kinds all
own_fault (OtherColumn column) columns kinds all some h = record { own = groups_fault.OtherColumn column; same = refl; fault = h }
own_fault (OtherItem item) columns kinds all some h = record { own = groups_fault.OtherItem item; same = refl; fault = h }
own_fault (TooWide item) columns kinds all some h = record { own = groups_fault.TooWide item; same = refl; fault = h }
own_fault (UnclearTag part) columns kinds all some h = absurd h
own_fault OtherForm columns kinds all some h = absurd h
own_fault NoMemory columns kinds all some h = absurd (some refl)

some_own : (why : BlockFault) (own : GroupsFault) → of_groups own ≡ why → why ≢ NoMemory → own ≢ groups_fault.NoMemory
some_own why own same some e = some (sym same ∙ ap of_groups e)

groups_once : (a b : BlockFault) (columns : ℕ) (kinds : List ItemKind) (all : List (List GroupTold)) → a ≢ NoMemory → b ≢ NoMemory →
    IsGroupsFault a columns kinds all → IsGroupsFault b columns kinds all → a ≡ b
groups_once a b columns kinds all one two h k =
    let x = own_fault a columns kinds all one h in
    let y = own_fault b columns kinds all two k in
    sym x.same
    ∙ ap of_groups (faults_are_one.alone x.own y.own columns kinds all (some_own a x.own x.same one) (some_own b y.own y.same two) x.fault y.fault)
    ∙ y.same

groups_unsaid : (why : BlockFault) (columns : ℕ) (kinds : List ItemKind) (all : List (List GroupTold)) → why ≢ NoMemory →
    IsGroupsFault why columns kinds all → CanBeCombined columns kinds all → ⊥
groups_unsaid why columns kinds all some h can =
    let x = own_fault why columns kinds all some h in
    faults_are_one.none x.own columns kinds all (some_own why x.own x.same some) x.fault can

-- ---- first rows

lists_once : (a b : BlockFault) (all : List PartListing) → a ≢ NoMemory → b ≢ NoMemory → IsListFault a all → IsListFault b all → a ≡ b
lists_once (OtherColumn column) b all one two h k = absurd h
lists_once (OtherItem item) b all one two h k = absurd h
lists_once (TooWide item) b all one two h k = absurd h
lists_once (UnclearTag part) (OtherColumn column) all one two h k = absurd k
lists_once (UnclearTag part) (OtherItem item) all one two h k = absurd k
lists_once (UnclearTag part) (TooWide item) all one two h k = absurd k
lists_once (UnclearTag part) (UnclearTag again) all one two h k = ap (λ (n : ℕ). UnclearTag n) (h.0 ∙ sym k.0)
lists_once (UnclearTag part) OtherForm all one two h k = let clear : first_unclear all ≡ length all = k.0 in absurd (omega (arith, h.0, h.1, clear))
lists_once (UnclearTag part) NoMemory all one two h k = absurd (two refl)
lists_once OtherForm (OtherColumn column) all one two h k = absurd k
lists_once OtherForm (OtherItem item) all one two h k = absurd k
lists_once OtherForm (TooWide item) all one two h k = absurd k
lists_once OtherForm (UnclearTag part) all one two h k = let clear : first_unclear all ≡ length all = h.0 in absurd (omega (arith, k.0, k.1, clear))
lists_once OtherForm OtherForm all one two h k = refl
lists_once OtherForm NoMemory all one two h k = absurd (two refl)
lists_once NoMemory b all one two h k = absurd (one refl)

lists_unsaid : (why : BlockFault) (all : List PartListing) → why ≢ NoMemory → IsListFault why all → AreClear all × AreRowsAlike all → ⊥
lists_unsaid (OtherColumn column) all some h said = h
lists_unsaid (OtherItem item) all some h said = h
lists_unsaid (TooWide item) all some h said = h
lists_unsaid (UnclearTag part) all some h said = let clear : first_unclear all ≡ length all = said.0 in omega (arith, h.0, h.1, clear)
lists_unsaid OtherForm all some h said = h.1 said.1
lists_unsaid NoMemory all some h said = some refl

-- ---- all three

once_by : (columns : ℕ) (asked : Option FirstRows) (a b : BlockFault) (round : ℕ) (kinds : List ItemKind) (parts : List Told) → a ≢ NoMemory → b ≢ NoMemory →
    IsFaultBy columns asked a round kinds parts → IsFaultBy columns asked b round kinds parts → a ≡ b
once_by zero (Some asked) a b round kinds parts one two h k = lists_once a b (all_listed_in round parts) one two h k
once_by zero None a b round kinds parts one two h k =
    first_once a b round kinds parts one two (as_first a round kinds parts one h) (as_first b round kinds parts two k)
once_by (suc columns) asked a b round kinds parts one two h k = groups_once a b (suc columns) kinds (all_groups_in round parts) one two h k

-- there is one fault
pub fault_once : (a b : BlockFault) (round : ℕ) (shape : Shape) (parts : List Told) → a ≢ NoMemory → b ≢ NoMemory →
    IsBlockFault a round shape parts → IsBlockFault b round shape parts → a ≡ b
fault_once a b round shape parts one two h k = once_by shape.columns shape.rows a b round shape.kinds parts one two h k

unsaid_by : (columns : ℕ) (asked : Option FirstRows) (why : BlockFault) (round : ℕ) (kinds : List ItemKind) (parts : List Told) → why ≢ NoMemory →
    IsFaultBy columns asked why round kinds parts → CanSayBy columns asked round kinds parts → ⊥
unsaid_by zero (Some asked) why round kinds parts some h said = lists_unsaid why (all_listed_in round parts) some h said
unsaid_by zero None why round kinds parts some h said = first_unsaid why round kinds parts some (as_first why round kinds parts some h) said
unsaid_by (suc columns) asked why round kinds parts some h said = groups_unsaid why (suc columns) kinds (all_groups_in round parts) some h said

-- and such a block cannot be written
pub fault_unsaid : (why : BlockFault) (round : ℕ) (shape : Shape) (parts : List Told) → why ≢ NoMemory → IsBlockFault why round shape parts →
    CanSay round shape parts → ⊥
fault_unsaid why round shape parts some h said = unsaid_by shape.columns shape.rows why round shape.kinds parts some h said

-- where there are no group columns, it is the items that are said
pub said_totals : (round : ℕ) (shape : Shape) (parts : List Told) (kinds : List ItemKind) → shape.columns ≡ 0 → shape.rows ≡ None → kinds ≡ shape.kinds →
    CanSayBefore (length kinds) round kinds parts → CanSay round shape parts
said_totals round shape parts kinds none rows same said =
    subst (λ (columns : ℕ). CanSayBy columns shape.rows round shape.kinds parts) (sym none)
    (subst (λ (asked : Option FirstRows). CanSayBy 0 asked round shape.kinds parts) (sym rows)
    (subst (λ (ks : List ItemKind). CanSayBefore (length ks) round ks parts) same said))
