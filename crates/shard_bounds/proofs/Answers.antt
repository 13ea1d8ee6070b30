-- The answer over all shards is the answer over the shards' answers.
use Rattle.std.proofs.Common.{◌≡◌, ◌+◌, ℤ, ◌+ℤ◌, List, [], ◌∷◌, ◌++◌, refl, arith, length, sym, ap, ◌∙◌, Option, Some, None, filter_map}
use Rattle.std.specs.Int.{int_min, int_max}
use Rattle.std.specs.List.{cons_option}
use Rattle.std.proofs.lemmas.Int.{ints, clamps}
use Rattle.query_model.specs.declared.query.ItemKind.{ItemKind}
use Rattle.query_model.specs.declared.query.ItemKind.TheVariants.{Sum, Min, Max}
use Rattle.query_model.specs.Answers.{answer}
use Rattle.shard_bounds.specs.Combined.{together, answer_over}

-- the answers of the shards that have one
abbrev pub answers : ItemKind → List (List ℤ) → List ℤ
answers kind shards = filter_map (answer kind) shards

-- two answers made one
abbrev pub join : (ℤ → ℤ → ℤ) → Option ℤ → Option ℤ → Option ℤ
join f None b = b
join f (Some x) None = Some x
join f (Some x) (Some y) = Some (f x y)

-- an aggregate that goes value by value
pub record GoesBy (kind : ItemKind) (f : ℤ → ℤ → ℤ) : Type 0 where
  pub nothing : answer kind [] ≡ None
  pub one_more : (x : ℤ) (xs : List ℤ) → answer kind (x ∷ xs) ≡ join f (Some x) (answer kind xs)
  pub associative : (x y z : ℤ) → f x (f y z) ≡ f (f x y) z

join-assoc : (f : ℤ → ℤ → ℤ) → ((x y z : ℤ) → f x (f y z) ≡ f (f x y) z) → (a b c : Option ℤ) → join f a (join f b c) ≡ join f (join f a b) c
join-assoc f h None b c = refl
join-assoc f h (Some x) None c = refl
join-assoc f h (Some x) (Some y) None = refl
join-assoc f h (Some x) (Some y) (Some z) = ap (λ w. Some w) (h x y z)

answer-append : (kind : ItemKind) (f : ℤ → ℤ → ℤ) → GoesBy kind f → (xs ys : List ℤ) → answer kind (xs ++ ys) ≡ join f (answer kind xs) (answer kind ys)
answer-append kind f g [] ys = sym (ap (λ a. join f a (answer kind ys)) g.nothing)
answer-append kind f g (x ∷ xs) ys =
    g.one_more x (xs ++ ys)
    ∙ ap (join f (Some x)) (answer-append kind f g xs ys)
    ∙ join-assoc f g.associative (Some x) (answer kind xs) (answer kind ys)
    ∙ ap (λ a. join f a (answer kind ys)) (sym (g.one_more x xs))

answer-cons_option : (kind : ItemKind) (f : ℤ → ℤ → ℤ) → GoesBy kind f → (o : Option ℤ) (xs : List ℤ) → answer kind (cons_option o xs) ≡ join f o (answer kind xs)
answer-cons_option kind f g None xs = refl
answer-cons_option kind f g (Some x) xs = g.one_more x xs

answer-shards : (kind : ItemKind) (f : ℤ → ℤ → ℤ) → GoesBy kind f → (shards : List (List ℤ)) → answer kind (answers kind shards) ≡ answer_over kind shards
answer-shards kind f g [] = refl
answer-shards kind f g (values ∷ shards) =
    answer-cons_option kind f g (answer kind values) (answers kind shards)
    ∙ ap (join f (answer kind values)) (answer-shards kind f g shards)
    ∙ sym (answer-append kind f g values (together shards))

sum_more : (x : ℤ) (xs : List ℤ) → answer Sum (x ∷ xs) ≡ join (λ x y. x +ℤ y) (Some x) (answer Sum xs)
sum_more x [] = ap (λ w. Some w) (omega (arith, ints))
sum_more x (y ∷ ys) = refl

min_more : (x : ℤ) (xs : List ℤ) → answer Min (x ∷ xs) ≡ join int_min (Some x) (answer Min xs)
min_more x [] = refl
min_more x (y ∷ ys) = refl

max_more : (x : ℤ) (xs : List ℤ) → answer Max (x ∷ xs) ≡ join int_max (Some x) (answer Max xs)
max_more x [] = refl
max_more x (y ∷ ys) = refl

pub sums_go : GoesBy Sum (λ x y. x +ℤ y)
sums_go = record { nothing = refl; one_more = sum_more; associative = λ x y z. omega (arith, ints) }

pub mins_go : GoesBy Min int_min
mins_go = record { nothing = refl; one_more = min_more; associative = λ x y z. omega (arith, ints, clamps) }

pub maxs_go : GoesBy Max int_max
maxs_go = record { nothing = refl; one_more = max_more; associative = λ x y z. omega (arith, ints, clamps) }

pub sum_over : (shards : List (List ℤ)) → answer Sum (answers Sum shards) ≡ answer_over Sum shards
sum_over = answer-shards Sum (λ x y. x +ℤ y) sums_go

pub min_over : (shards : List (List ℤ)) → answer Min (answers Min shards) ≡ answer_over Min shards
min_over = answer-shards Min int_min mins_go

pub max_over : (shards : List (List ℤ)) → answer Max (answers Max shards) ≡ answer_over Max shards
max_over = answer-shards Max int_max maxs_go

pub length-append : (xs ys : List ℤ) → length (xs ++ ys) ≡ length xs + length ys
length-append [] ys = omega arith
length-append (x ∷ xs) ys = let e = length-append xs ys in omega arith
