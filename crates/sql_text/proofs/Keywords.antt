-- Keywords and signs, told apart by their numbers.
use Rattle.std.proofs.Common.{◌≡◌, ℕ, [], ◌∷◌, true, get_or, refl, sym, ap, ◌∙◌}
use Rattle.std.proofs.lemmas.Bool.{eqb-true}
use denote.Enum.Declared.{tag_of}
use denote.Enum.Bare.{sameb}
use Rattle.sql_tokens.specs.contracts.token.Fixed.{the_type}
use Rattle.sql_tokens.specs.declared.token.Fixed.{Fixed}
use Rattle.sql_tokens.specs.declared.token.Fixed.TheVariants as fixed
use Rattle.sql_text.specs.Number.{index_of, same}

tag_is : (f : Fixed) → tag_of the_type f ≡ index_of f
tag_is fixed.Select = refl
tag_is fixed.From = refl
tag_is fixed.Where = refl
tag_is fixed.Group = refl
tag_is fixed.By = refl
tag_is fixed.Order = refl
tag_is fixed.Asc = refl
tag_is fixed.Desc = refl
tag_is fixed.Limit = refl
tag_is fixed.And = refl
tag_is fixed.Or = refl
tag_is fixed.Not = refl
tag_is fixed.Between = refl
tag_is fixed.In = refl
tag_is fixed.Date = refl
tag_is fixed.Count = refl
tag_is fixed.Sum = refl
tag_is fixed.Avg = refl
tag_is fixed.Min = refl
tag_is fixed.Max = refl
tag_is fixed.Is = refl
tag_is fixed.Null = refl
tag_is fixed.Open = refl
tag_is fixed.Close = refl
tag_is fixed.Comma = refl
tag_is fixed.Star = refl
tag_is fixed.Plus = refl
tag_is fixed.Minus = refl
tag_is fixed.Semicolon = refl
tag_is fixed.Equal = refl
tag_is fixed.NotEqual = refl
tag_is fixed.Less = refl
tag_is fixed.LessEqual = refl
tag_is fixed.Greater = refl
tag_is fixed.GreaterEqual = refl

pub same_as : (f k : Fixed) → sameb the_type f k ≡ same f k
same_as f k = rw (tag_is f, tag_is k) refl

fixed_of : ℕ → Fixed
fixed_of n = get_or (fixed.Select ∷ fixed.From ∷ fixed.Where ∷ fixed.Group ∷ fixed.By ∷ fixed.Order ∷ fixed.Asc ∷ fixed.Desc ∷ fixed.Limit ∷ fixed.And ∷ fixed.Or ∷ fixed.Not ∷ fixed.Between ∷ fixed.In ∷ fixed.Date ∷ fixed.Count ∷ fixed.Sum ∷ fixed.Avg ∷ fixed.Min ∷ fixed.Max ∷ fixed.Is ∷ fixed.Null ∷ fixed.Open ∷ fixed.Close ∷ fixed.Comma ∷ fixed.Star ∷ fixed.Plus ∷ fixed.Minus ∷ fixed.Semicolon ∷ fixed.Equal ∷ fixed.NotEqual ∷ fixed.Less ∷ fixed.LessEqual ∷ fixed.Greater ∷ fixed.GreaterEqual ∷ []) n fixed.Select

fixed_of-index_of : (f : Fixed) → fixed_of (index_of f) ≡ f
unfolding fixed_of
fixed_of-index_of fixed.Select = refl
fixed_of-index_of fixed.From = refl
fixed_of-index_of fixed.Where = refl
fixed_of-index_of fixed.Group = refl
fixed_of-index_of fixed.By = refl
fixed_of-index_of fixed.Order = refl
fixed_of-index_of fixed.Asc = refl
fixed_of-index_of fixed.Desc = refl
fixed_of-index_of fixed.Limit = refl
fixed_of-index_of fixed.And = refl
fixed_of-index_of fixed.Or = refl
fixed_of-index_of fixed.Not = refl
fixed_of-index_of fixed.Between = refl
fixed_of-index_of fixed.In = refl
fixed_of-index_of fixed.Date = refl
fixed_of-index_of fixed.Count = refl
fixed_of-index_of fixed.Sum = refl
fixed_of-index_of fixed.Avg = refl
fixed_of-index_of fixed.Min = refl
fixed_of-index_of fixed.Max = refl
fixed_of-index_of fixed.Is = refl
fixed_of-index_of fixed.Null = refl
fixed_of-index_of fixed.Open = refl
fixed_of-index_of fixed.Close = refl
fixed_of-index_of fixed.Comma = refl
fixed_of-index_of fixed.Star = refl
fixed_of-index_of fixed.Plus = refl
fixed_of-index_of fixed.Minus = refl
fixed_of-index_of fixed.Semicolon = refl
fixed_of-index_of fixed.Equal = refl
fixed_of-index_of fixed.NotEqual = refl
fixed_of-index_of fixed.Less = refl
fixed_of-index_of fixed.LessEqual = refl
fixed_of-index_of fixed.Greater = refl
fixed_of-index_of fixed.GreaterEqual = refl

pub same_is : (f k : Fixed) → same f k ≡ true → f ≡ k
same_is f k h = sym (fixed_of-index_of f) ∙ ap fixed_of (eqb-true (index_of f) (index_of k) h) ∙ fixed_of-index_of k
