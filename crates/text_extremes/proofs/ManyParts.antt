-- What the bound over all parts says of their answers together.
use Rattle.std.proofs.Common.{ℕ, List, [], ◌∷◌, map, Option, sym, subst}
use Rattle.text_extremes.proofs.Joining.{answers_join}
use Rattle.text_extremes.proofs.TwoParts.{joined_admits, joined_nests, joined_tells}
use Rattle.text_extremes.specs.Bounds.{Admits, Tells, TextBound, combined}
use Rattle.text_extremes.specs.Laws.{CombinationsContain, CombinationsNest, CombinationsTell, OfEach}
use Rattle.text_extremes.specs.Texts.{extreme_of, first_of, of_all}
use Rattle.text_extremes.specs.declared.extreme.Extreme.{Extreme}

all_admit : (e : Extreme) (bounds : List (Option TextBound)) (parts : List (List (List ℕ))) →
    OfEach (λ bound texts. Admits bound (extreme_of e texts)) bounds parts → Admits (combined e bounds) (of_all (first_of e) (map (extreme_of e) parts))
all_admit e [] [] h = tt
all_admit e [] (texts ∷ parts) h = absurd h
all_admit e (bound ∷ bounds) [] h = absurd h
all_admit e (bound ∷ bounds) (texts ∷ parts) h =
    joined_admits e bound (combined e bounds) (extreme_of e texts) (of_all (first_of e) (map (extreme_of e) parts)) h.0 (all_admit e bounds parts h.1)

pub combinations_contain : CombinationsContain
combinations_contain e bounds parts h = subst (Admits (combined e bounds)) (sym (answers_join e parts)) (all_admit e bounds parts h)

all_tell : (e : Extreme) (bounds : List (Option TextBound)) (parts : List (List (List ℕ))) →
    OfEach (λ bound texts. Tells bound (extreme_of e texts)) bounds parts → Tells (combined e bounds) (of_all (first_of e) (map (extreme_of e) parts))
all_tell e [] [] h = tt
all_tell e [] (texts ∷ parts) h = absurd h
all_tell e (bound ∷ bounds) [] h = absurd h
all_tell e (bound ∷ bounds) (texts ∷ parts) h =
    joined_tells e bound (combined e bounds) (extreme_of e texts) (of_all (first_of e) (map (extreme_of e) parts)) h.0 (all_tell e bounds parts h.1)

pub combinations_tell : CombinationsTell
combinations_tell e bounds parts h = subst (Tells (combined e bounds)) (sym (answers_join e parts)) (all_tell e bounds parts h)

pub combinations_nest : CombinationsNest
combinations_nest e [] [] h = tt
combinations_nest e [] (new ∷ news) h = absurd h
combinations_nest e (old ∷ olds) [] h = absurd h
combinations_nest e (old ∷ olds) (new ∷ news) h = joined_nests e old (combined e olds) new (combined e news) h.0 (combinations_nest e olds news h.1)
