-- What the functions end with.
use Rattle.std.proofs.Common.{◌≡◌, ℕ, ◌+◌, ◌<◌, ◌≤◌, true, List, [], ◌∷◌, ◌++◌, drop, length, get_or, refl, arith, sym, ap, ◌∙◌, subst, IfSome, Option, Some, None, take, map, All}
use Rattle.std.specs.Option.{is_some}
use Rattle.std.proofs.lemmas.Bool.{false≢true}
use Rattle.std.proofs.lemmas.List.{drop_more, length-map, take_all, take_more}
use Rattle.std.proofs.lemmas.List.Elements.{All-nil}
use Rattle.query_model.specs.declared.query.ItemKind.{ItemKind}
use Rattle.shard_groups.specs.declared.cells.Cell.{Cell}
use Rattle.shard_groups.specs.declared.cells.ItemBound.{ItemBound}
use Rattle.shard_groups.specs.declared.fault.GroupFault.{GroupFault}
use Rattle.shard_groups.specs.declared.fault.GroupFault.TheVariants.{NoMemory, TooWide}
use Rattle.shard_groups.specs.declared.keys.Span.{Span}
use Rattle.shard_groups.specs.Firsts.{IsFirstNot}
use Rattle.shard_groups.specs.Groups.{AllFit, AreLinesOver, AreSaid, FitsSaid, IsCombined, IsFirstWithin, IsGroupFault, IsItemFault, IsLineFault, IsLineOver}
use Rattle.shard_groups.specs.Groups.{Said, all_keys, cells_within, keys_in, only, said_from, said_of, said_over}
use Rattle.shard_groups.specs.Lines.{AreLines, IsAscending}
use Rattle.shard_groups.proofs.Firsts.{all_more, first_behind, first_in_at}

-- ---- the only cell

two_by : (line : List Span) (cells rest : List Cell) (at : ℕ) (o : Option ℕ) (any : Cell) → IsFirstWithin line cells at → rest ≡ drop (at + 1) cells →
    IfSome o (IsFirstWithin line rest) → is_some o ≡ true → only line (cells_within line cells) ≡ None
two_by line cells rest at None any first e more some = absurd (false≢true some)
two_by line cells rest at (Some next) any first e more some =
    let two = first.first any ∙ ap (λ (cs : List Cell). get_or cells at any ∷ cells_within line cs) (sym e) ∙ ap (λ (cs : List Cell). get_or cells at any ∷ cs) (more.first any) in
    ap (only line) two

pub two_cells : (line : List Span) (cells rest : List Cell) (at : ℕ) (o : Option ℕ) → IsFirstWithin line cells at → rest ≡ drop (at + 1) cells →
    IfSome o (IsFirstWithin line rest) → is_some o ≡ true → only line (cells_within line cells) ≡ None
two_cells line [] rest at o first e more some = absurd (let none : at < 0 = first.there in omega arith)
two_cells line (cell ∷ cells) rest at o first e more some = two_by line (cell ∷ cells) rest at o cell first e more some

-- ---- the combined report

over_push : (kinds : List ItemKind) (shards : List (List Cell)) (cells : List Cell) (cell : Cell) → AreLinesOver kinds shards cells →
    IsLineOver kinds shards cell → AreLinesOver kinds shards (cells ++ cell ∷ [])
over_push kinds shards [] cell h one = (one, tt)
over_push kinds shards (c ∷ cells) cell h one = (h.0, over_push kinds shards cells cell h.1 one)

keys_push : (cells : List Cell) (cell : Cell) → keys_in (cells ++ cell ∷ []) ≡ keys_in cells ++ cell.keys ∷ []
keys_push [] cell = refl
keys_push (c ∷ cells) cell = ap (λ (ks : List (List Span)). c.keys ∷ ks) (keys_push cells cell)

-- what is said of the items for a line
abbrev pub said_for : List ItemKind → List (List Cell) → List Span → List Said
said_for kinds shards line = said_from 0 kinds line shards

-- the first lines are done
pub record AreDone (kinds : List ItemKind) (shards : List (List Cell)) (lines : List (List Span)) (cells : List Cell) (i : ℕ) : Type 0 where
  pub keys : keys_in cells ≡ take i lines
  pub each : AreLinesOver kinds shards cells
  pub fit : All (All FitsSaid) (map (said_for kinds shards) (take i lines))

pub done_none : (kinds : List ItemKind) (shards : List (List Cell)) (lines : List (List Span)) → AreDone kinds shards lines [] 0
done_none kinds shards lines = record { keys = refl; each = tt; fit = All-nil (All FitsSaid) }

pub done_more : (kinds : List ItemKind) (shards : List (List Cell)) (lines : List (List Span)) (cells next : List Cell) (cell : Cell) (i : ℕ)
    (line : List Span) → i < length lines → line ≡ get_or lines i line → cell.keys ≡ line → IsLineOver kinds shards cell →
    All FitsSaid (said_from 0 kinds line shards) → next ≡ cells ++ cell ∷ [] → AreDone kinds shards lines cells i → AreDone kinds shards lines next (i + 1)
done_more kinds shards lines cells next cell i line h is keys one fit e done =
    let new : keys_in (cells ++ cell ∷ []) ≡ take (i + 1) lines =
    keys_push cells cell ∙ ap (λ (ks : List (List Span)). ks ++ cell.keys ∷ []) done.keys
    ∙ ap (λ (l : List Span). take i lines ++ l ∷ []) (keys ∙ is) ∙ sym (take_more lines i line h) in
    subst (λ (cs : List Cell). AreDone kinds shards lines cs (i + 1)) (sym e) (record {
      keys = new;
      each = over_push kinds shards cells cell done.each one;
      fit = all_more FitsSaid (said_for kinds shards) lines i line h done.fit (subst (λ (l : List Span). All FitsSaid (said_for kinds shards l)) is fit);
    })

pub combined_at : (kinds : List ItemKind) (shards : List (List Cell)) (lines : List (List Span)) (cells : List Cell) (i : ℕ) → length lines ≤ i →
    AreDone kinds shards lines cells i → AreLines (all_keys shards) lines → IsAscending lines → IsCombined kinds shards cells
combined_at kinds shards lines cells i end done are up =
    let keys = done.keys ∙ take_all i lines end in
    record {
      lines = subst (AreLines (all_keys shards)) (sym keys) are;
      ascending = subst IsAscending (sym keys) up;
      each = done.each;
    }

said_of_lines : (kinds : List ItemKind) (shards : List (List Cell)) (lines : List (List Span)) → AreLines (all_keys shards) lines → IsAscending lines →
    AreSaid kinds shards (map (said_for kinds shards) lines)
said_of_lines kinds shards lines are up = record { lines = lines; are_lines = are; ascending = up; is = refl }

pub all_fit : (kinds : List ItemKind) (shards : List (List Cell)) (lines : List (List Span)) (cells : List Cell) (i : ℕ) → length lines ≤ i →
    AreDone kinds shards lines cells i → AreLines (all_keys shards) lines → IsAscending lines → AllFit kinds shards
all_fit kinds shards lines cells i end done are up = (
  map (said_for kinds shards) lines,
  said_of_lines kinds shards lines are up,
  subst (λ (ls : List (List Span)). All (All FitsSaid) (map (said_for kinds shards) ls)) (take_all i lines end) done.fit,
)

-- ---- why there is none

-- of a line, whose items in front fit
pub line_fault : (why : GroupFault) (item : ℕ) (line : List Span) (any : ItemKind) (kinds : List ItemKind) (shards : List (List Cell)) (bounds : List ItemBound) →
    map said_of bounds ++ said_from item (drop item kinds) line shards ≡ said_from 0 kinds line shards → All FitsSaid (map said_of bounds) →
    length bounds ≡ item → item < length kinds → IsItemFault why item (said_over (get_or kinds item any) item line shards) →
    IsLineFault why kinds line shards
line_fault NoMemory item line any kinds shards bounds split fit count below fault = tt
line_fault (TooWide place) item line any kinds shards bounds split fit count below fault =
    let front = map said_of bounds in
    let own = said_over (get_or kinds item any) item line shards in
    let rest = said_from (item + 1) (drop (item + 1) kinds) line shards in
    let all : front ++ own ∷ rest ≡ said_from 0 kinds line shards =
    ap (λ (ks : List ItemKind). front ++ said_from item ks line shards) (sym (drop_more kinds item any below)) ∙ split in
    subst (λ (said : List Said). IsFirstNot FitsSaid said place) all
    (subst (IsFirstNot FitsSaid (front ++ own ∷ rest)) (length-map bounds said_of ∙ count ∙ sym fault.0)
    (first_behind FitsSaid front own rest fit fault.1))

-- of all, where the lines in front are done
pub group_fault : (why : GroupFault) (kinds : List ItemKind) (shards : List (List Cell)) (lines : List (List Span)) (cells : List Cell) (i : ℕ)
    (line : List Span) → i < length lines → line ≡ get_or lines i line → AreDone kinds shards lines cells i → AreLines (all_keys shards) lines →
    IsAscending lines → IsLineFault why kinds line shards → IsGroupFault why kinds shards
group_fault NoMemory kinds shards lines cells i line below is done are up fault = tt
group_fault (TooWide item) kinds shards lines cells i line below is done are up fault = (
  map (said_for kinds shards) lines,
  said_of_lines kinds shards lines are up,
  first_in_at FitsSaid (said_for kinds shards) lines i line item below done.fit
      (subst (λ (l : List Span). IsFirstNot FitsSaid (said_for kinds shards l) item) is fault),
)
