-- The laws of bounds of texts over parts, as statements. A public function with an empty body has each as its contract.
-- A part is told by the texts that it gives to an item: those of the column at its rows that count, but for nulls.
use Rattle.std.specs.Prelude.{◌≡◌, ℕ, List, [], ◌∷◌, map}
use Rattle.std.specs.declared.option.Option.{Option}
use Rattle.shard_bounds.specs.Combined.{Reordered}
use Rattle.shard_bounds.specs.Laws.{flattened}
use Rattle.text_extremes.specs.Bounds.{Admits, IsNested, Tells, TextBound, combined}
use Rattle.text_extremes.specs.Texts.{extreme_of}
use Rattle.text_extremes.specs.declared.extreme.Extreme.{Extreme}

-- the answer over the rows of all parts
abbrev pub answer_over : Extreme → List (List (List ℕ)) → Option (List ℕ)
answer_over extreme parts = extreme_of extreme (flattened parts)

-- so it is of each of the ones and of the others, in order, and there are as many
abbrev pub OfEach : {A B : Type 0} → (A → B → Type 0) → List A → List B → Type 0
OfEach {A} {B} Is [] [] = Unit {0}
OfEach {A} {B} Is [] (b ∷ others) = ⊥
OfEach {A} {B} Is (a ∷ ones) [] = ⊥
OfEach {A} {B} Is (a ∷ ones) (b ∷ others) = Is a b × OfEach Is ones others

-- where the bound of each part admits the part's answer, the bound over all parts admits the answer over all
abbrev pub CombinationsContain : Type 0
CombinationsContain =
    (extreme : Extreme) (bounds : List (Option TextBound)) (parts : List (List (List ℕ))) →
    OfEach (λ bound texts. Admits bound (extreme_of extreme texts)) bounds parts →
    Admits (combined extreme bounds) (answer_over extreme parts)

-- where it says the part's answer, the bound over all says the answer over all
abbrev pub CombinationsTell : Type 0
CombinationsTell =
    (extreme : Extreme) (bounds : List (Option TextBound)) (parts : List (List (List ℕ))) →
    OfEach (λ bound texts. Tells bound (extreme_of extreme texts)) bounds parts →
    Tells (combined extreme bounds) (answer_over extreme parts)

-- where the new bound of each part lies within its old one, so does the bound over all
abbrev pub CombinationsNest : Type 0
CombinationsNest =
    (extreme : Extreme) (olds news : List (Option TextBound)) →
    OfEach IsNested olds news → IsNested (combined extreme olds) (combined extreme news)

-- the bound over one part is that part's
abbrev pub OnePartIsAll : Type 0
OnePartIsAll = (extreme : Extreme) (bound : Option TextBound) → combined extreme (bound ∷ []) ≡ bound

-- the order of the parts makes no difference
abbrev pub OrderIsFree : Type 0
OrderIsFree =
    (extreme : Extreme) (bounds others : List (Option TextBound)) →
    Reordered bounds others → combined extreme bounds ≡ combined extreme others

-- parts may be combined group by group, and then the groups
abbrev pub GroupsCombine : Type 0
GroupsCombine =
    (extreme : Extreme) (groups : List (List (Option TextBound))) →
    combined extreme (map (combined extreme) groups) ≡ combined extreme (flattened groups)
