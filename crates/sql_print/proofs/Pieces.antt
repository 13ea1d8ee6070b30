-- The texts between names and values, and what they are cut into.
use Rattle.std.proofs.Common.{◌≡◌, ℕ, List, [], ◌∷◌, eqb, refl, sym, ap, ◌∙◌}
use Rattle.std.specs.Prelude.{codes}
use Rattle.std.proofs.lemmas.Bool.{eqb-true}
use Rattle.sql_tokens.specs.declared.token.Fixed.TheVariants as fixed
use Rattle.sql_tokens.specs.Lexeme.{FIXED}
use Rattle.sql_tokens.specs.Byte.{class_of}
use Rattle.sql_tokens.specs.Spelling.{word_of, one_sign, two_sign}
use Rattle.sql_print.proofs.Spelled.{Follow, no_letter, Any, Cuts, cuts_append, cuts_blank, cuts_word, cuts_sign, cuts_two}

Blanked : List ℕ → Type 0
Blanked w = Follow (λ c. eqb c 32) w

blanked : (b : ℕ) (w : List ℕ) → Blanked w → (c : ℕ) (v : List ℕ) → w ≡ c ∷ v → two_sign b c ≡ two_sign b 32
unfolding Blanked
blanked b [] s c v e = absurd cc
blanked b (d ∷ w) s c v e =
    let i : d ≡ c = cc in
    let k : d ≡ 32 = eqb-true d 32 s in
    ap (two_sign b) (sym i ∙ k)

pub plus_cut : Cuts Any (codes " + ") (FIXED fixed.Plus ∷ [])
unfolding class_of word_of one_sign two_sign Blanked
plus_cut = cuts_append Any Any (32 ∷ []) (43 ∷ 32 ∷ []) ([]) (FIXED fixed.Plus ∷ []) (λ w h. tt) cuts_blank (cuts_append Any Any (43 ∷ []) (32 ∷ []) (FIXED fixed.Plus ∷ []) ([]) (λ w h. tt) (cuts_sign Any 43 fixed.Plus refl refl (λ w s c v e. refl)) cuts_blank)

pub minus_cut : Cuts Any (codes " - ") (FIXED fixed.Minus ∷ [])
unfolding class_of word_of one_sign two_sign Blanked
minus_cut = cuts_append Any Any (32 ∷ []) (45 ∷ 32 ∷ []) ([]) (FIXED fixed.Minus ∷ []) (λ w h. tt) cuts_blank (cuts_append Any Any (45 ∷ []) (32 ∷ []) (FIXED fixed.Minus ∷ []) ([]) (λ w h. tt) (cuts_sign Any 45 fixed.Minus refl refl (λ w s c v e. refl)) cuts_blank)

pub times_cut : Cuts Any (codes " * ") (FIXED fixed.Star ∷ [])
unfolding class_of word_of one_sign two_sign Blanked
times_cut = cuts_append Any Any (32 ∷ []) (42 ∷ 32 ∷ []) ([]) (FIXED fixed.Star ∷ []) (λ w h. tt) cuts_blank (cuts_append Any Any (42 ∷ []) (32 ∷ []) (FIXED fixed.Star ∷ []) ([]) (λ w h. tt) (cuts_sign Any 42 fixed.Star refl refl (λ w s c v e. refl)) cuts_blank)

pub and_cut : Cuts Any (codes " AND ") (FIXED fixed.And ∷ [])
unfolding class_of word_of one_sign two_sign Blanked
and_cut = cuts_append Any Any (32 ∷ []) (65 ∷ 78 ∷ 68 ∷ 32 ∷ []) ([]) (FIXED fixed.And ∷ []) (λ w h. tt) cuts_blank (cuts_append (Follow no_letter) Any (65 ∷ 78 ∷ 68 ∷ []) (32 ∷ []) (FIXED fixed.And ∷ []) ([]) (λ w h. refl) (cuts_word 65 (78 ∷ 68 ∷ []) (FIXED fixed.And) refl (refl, (refl, (refl, tt))) refl) cuts_blank)

pub or_cut : Cuts Any (codes " OR ") (FIXED fixed.Or ∷ [])
unfolding class_of word_of one_sign two_sign Blanked
or_cut = cuts_append Any Any (32 ∷ []) (79 ∷ 82 ∷ 32 ∷ []) ([]) (FIXED fixed.Or ∷ []) (λ w h. tt) cuts_blank (cuts_append (Follow no_letter) Any (79 ∷ 82 ∷ []) (32 ∷ []) (FIXED fixed.Or ∷ []) ([]) (λ w h. refl) (cuts_word 79 (82 ∷ []) (FIXED fixed.Or) refl (refl, (refl, tt)) refl) cuts_blank)

pub not_cut : Cuts Any (codes "NOT ") (FIXED fixed.Not ∷ [])
unfolding class_of word_of one_sign two_sign Blanked
not_cut = cuts_append (Follow no_letter) Any (78 ∷ 79 ∷ 84 ∷ []) (32 ∷ []) (FIXED fixed.Not ∷ []) ([]) (λ w h. refl) (cuts_word 78 (79 ∷ 84 ∷ []) (FIXED fixed.Not) refl (refl, (refl, (refl, tt))) refl) cuts_blank

pub date_cut : Cuts Any (codes "DATE ") (FIXED fixed.Date ∷ [])
unfolding class_of word_of one_sign two_sign Blanked
date_cut = cuts_append (Follow no_letter) Any (68 ∷ 65 ∷ 84 ∷ 69 ∷ []) (32 ∷ []) (FIXED fixed.Date ∷ []) ([]) (λ w h. refl) (cuts_word 68 (65 ∷ 84 ∷ 69 ∷ []) (FIXED fixed.Date) refl (refl, (refl, (refl, (refl, tt)))) refl) cuts_blank

pub comma_cut : Cuts Any (codes ", ") (FIXED fixed.Comma ∷ [])
unfolding class_of word_of one_sign two_sign Blanked
comma_cut = cuts_append Any Any (44 ∷ []) (32 ∷ []) (FIXED fixed.Comma ∷ []) ([]) (λ w h. tt) (cuts_sign Any 44 fixed.Comma refl refl (λ w s c v e. refl)) cuts_blank

pub open_cut : Cuts Any (codes "(") (FIXED fixed.Open ∷ [])
unfolding class_of word_of one_sign two_sign Blanked
open_cut = cuts_sign Any 40 fixed.Open refl refl (λ w s c v e. refl)

pub close_cut : Cuts Any (codes ")") (FIXED fixed.Close ∷ [])
unfolding class_of word_of one_sign two_sign Blanked
close_cut = cuts_sign Any 41 fixed.Close refl refl (λ w s c v e. refl)

pub where_cut : Cuts Any (codes " WHERE ") (FIXED fixed.Where ∷ [])
unfolding class_of word_of one_sign two_sign Blanked
where_cut = cuts_append Any Any (32 ∷ []) (87 ∷ 72 ∷ 69 ∷ 82 ∷ 69 ∷ 32 ∷ []) ([]) (FIXED fixed.Where ∷ []) (λ w h. tt) cuts_blank (cuts_append (Follow no_letter) Any (87 ∷ 72 ∷ 69 ∷ 82 ∷ 69 ∷ []) (32 ∷ []) (FIXED fixed.Where ∷ []) ([]) (λ w h. refl) (cuts_word 87 (72 ∷ 69 ∷ 82 ∷ 69 ∷ []) (FIXED fixed.Where) refl (refl, (refl, (refl, (refl, (refl, tt))))) refl) cuts_blank)

pub from_cut : Cuts Any (codes " FROM ") (FIXED fixed.From ∷ [])
unfolding class_of word_of one_sign two_sign Blanked
from_cut = cuts_append Any Any (32 ∷ []) (70 ∷ 82 ∷ 79 ∷ 77 ∷ 32 ∷ []) ([]) (FIXED fixed.From ∷ []) (λ w h. tt) cuts_blank (cuts_append (Follow no_letter) Any (70 ∷ 82 ∷ 79 ∷ 77 ∷ []) (32 ∷ []) (FIXED fixed.From ∷ []) ([]) (λ w h. refl) (cuts_word 70 (82 ∷ 79 ∷ 77 ∷ []) (FIXED fixed.From) refl (refl, (refl, (refl, (refl, tt)))) refl) cuts_blank)

pub select_cut : Cuts Any (codes "SELECT ") (FIXED fixed.Select ∷ [])
unfolding class_of word_of one_sign two_sign Blanked
select_cut = cuts_append (Follow no_letter) Any (83 ∷ 69 ∷ 76 ∷ 69 ∷ 67 ∷ 84 ∷ []) (32 ∷ []) (FIXED fixed.Select ∷ []) ([]) (λ w h. refl) (cuts_word 83 (69 ∷ 76 ∷ 69 ∷ 67 ∷ 84 ∷ []) (FIXED fixed.Select) refl (refl, (refl, (refl, (refl, (refl, (refl, tt)))))) refl) cuts_blank

pub count_of_cut : Cuts Any (codes "COUNT(") (FIXED fixed.Count ∷ FIXED fixed.Open ∷ [])
unfolding class_of word_of one_sign two_sign Blanked
count_of_cut = cuts_append (Follow no_letter) Any (67 ∷ 79 ∷ 85 ∷ 78 ∷ 84 ∷ []) (40 ∷ []) (FIXED fixed.Count ∷ []) (FIXED fixed.Open ∷ []) (λ w h. refl) (cuts_word 67 (79 ∷ 85 ∷ 78 ∷ 84 ∷ []) (FIXED fixed.Count) refl (refl, (refl, (refl, (refl, (refl, tt))))) refl) (cuts_sign Any 40 fixed.Open refl refl (λ w s c v e. refl))

pub count_cut : Cuts Any (codes "COUNT(*)") (FIXED fixed.Count ∷ FIXED fixed.Open ∷ FIXED fixed.Star ∷ FIXED fixed.Close ∷ [])
unfolding class_of word_of one_sign two_sign Blanked
count_cut = cuts_append (Follow no_letter) Any (67 ∷ 79 ∷ 85 ∷ 78 ∷ 84 ∷ []) (40 ∷ 42 ∷ 41 ∷ []) (FIXED fixed.Count ∷ []) (FIXED fixed.Open ∷ FIXED fixed.Star ∷ FIXED fixed.Close ∷ []) (λ w h. refl) (cuts_word 67 (79 ∷ 85 ∷ 78 ∷ 84 ∷ []) (FIXED fixed.Count) refl (refl, (refl, (refl, (refl, (refl, tt))))) refl) (cuts_append Any Any (40 ∷ []) (42 ∷ 41 ∷ []) (FIXED fixed.Open ∷ []) (FIXED fixed.Star ∷ FIXED fixed.Close ∷ []) (λ w h. tt) (cuts_sign Any 40 fixed.Open refl refl (λ w s c v e. refl)) (cuts_append Any Any (42 ∷ []) (41 ∷ []) (FIXED fixed.Star ∷ []) (FIXED fixed.Close ∷ []) (λ w h. tt) (cuts_sign Any 42 fixed.Star refl refl (λ w s c v e. refl)) (cuts_sign Any 41 fixed.Close refl refl (λ w s c v e. refl))))

pub star_cut : Cuts Any (codes "*") (FIXED fixed.Star ∷ [])
unfolding class_of word_of one_sign two_sign Blanked
star_cut = cuts_sign Any 42 fixed.Star refl refl (λ w s c v e. refl)

pub sum_cut : Cuts Any (codes "SUM(") (FIXED fixed.Sum ∷ FIXED fixed.Open ∷ [])
unfolding class_of word_of one_sign two_sign Blanked
sum_cut = cuts_append (Follow no_letter) Any (83 ∷ 85 ∷ 77 ∷ []) (40 ∷ []) (FIXED fixed.Sum ∷ []) (FIXED fixed.Open ∷ []) (λ w h. refl) (cuts_word 83 (85 ∷ 77 ∷ []) (FIXED fixed.Sum) refl (refl, (refl, (refl, tt))) refl) (cuts_sign Any 40 fixed.Open refl refl (λ w s c v e. refl))

pub avg_cut : Cuts Any (codes "AVG(") (FIXED fixed.Avg ∷ FIXED fixed.Open ∷ [])
unfolding class_of word_of one_sign two_sign Blanked
avg_cut = cuts_append (Follow no_letter) Any (65 ∷ 86 ∷ 71 ∷ []) (40 ∷ []) (FIXED fixed.Avg ∷ []) (FIXED fixed.Open ∷ []) (λ w h. refl) (cuts_word 65 (86 ∷ 71 ∷ []) (FIXED fixed.Avg) refl (refl, (refl, (refl, tt))) refl) (cuts_sign Any 40 fixed.Open refl refl (λ w s c v e. refl))

pub min_cut : Cuts Any (codes "MIN(") (FIXED fixed.Min ∷ FIXED fixed.Open ∷ [])
unfolding class_of word_of one_sign two_sign Blanked
min_cut = cuts_append (Follow no_letter) Any (77 ∷ 73 ∷ 78 ∷ []) (40 ∷ []) (FIXED fixed.Min ∷ []) (FIXED fixed.Open ∷ []) (λ w h. refl) (cuts_word 77 (73 ∷ 78 ∷ []) (FIXED fixed.Min) refl (refl, (refl, (refl, tt))) refl) (cuts_sign Any 40 fixed.Open refl refl (λ w s c v e. refl))

pub max_cut : Cuts Any (codes "MAX(") (FIXED fixed.Max ∷ FIXED fixed.Open ∷ [])
unfolding class_of word_of one_sign two_sign Blanked
max_cut = cuts_append (Follow no_letter) Any (77 ∷ 65 ∷ 88 ∷ []) (40 ∷ []) (FIXED fixed.Max ∷ []) (FIXED fixed.Open ∷ []) (λ w h. refl) (cuts_word 77 (65 ∷ 88 ∷ []) (FIXED fixed.Max) refl (refl, (refl, (refl, tt))) refl) (cuts_sign Any 40 fixed.Open refl refl (λ w s c v e. refl))

pub between_cut : Cuts Any (codes " BETWEEN ") (FIXED fixed.Between ∷ [])
unfolding class_of word_of one_sign two_sign Blanked
between_cut = cuts_append Any Any (32 ∷ []) (66 ∷ 69 ∷ 84 ∷ 87 ∷ 69 ∷ 69 ∷ 78 ∷ 32 ∷ []) ([]) (FIXED fixed.Between ∷ []) (λ w h. tt) cuts_blank (cuts_append (Follow no_letter) Any (66 ∷ 69 ∷ 84 ∷ 87 ∷ 69 ∷ 69 ∷ 78 ∷ []) (32 ∷ []) (FIXED fixed.Between ∷ []) ([]) (λ w h. refl) (cuts_word 66 (69 ∷ 84 ∷ 87 ∷ 69 ∷ 69 ∷ 78 ∷ []) (FIXED fixed.Between) refl (refl, (refl, (refl, (refl, (refl, (refl, (refl, tt))))))) refl) cuts_blank)

pub not_between_cut : Cuts Any (codes " NOT BETWEEN ") (FIXED fixed.Not ∷ FIXED fixed.Between ∷ [])
unfolding class_of word_of one_sign two_sign Blanked
not_between_cut = cuts_append Any Any (32 ∷ []) (78 ∷ 79 ∷ 84 ∷ 32 ∷ 66 ∷ 69 ∷ 84 ∷ 87 ∷ 69 ∷ 69 ∷ 78 ∷ 32 ∷ []) ([]) (FIXED fixed.Not ∷ FIXED fixed.Between ∷ []) (λ w h. tt) cuts_blank (cuts_append (Follow no_letter) Any (78 ∷ 79 ∷ 84 ∷ []) (32 ∷ 66 ∷ 69 ∷ 84 ∷ 87 ∷ 69 ∷ 69 ∷ 78 ∷ 32 ∷ []) (FIXED fixed.Not ∷ []) (FIXED fixed.Between ∷ []) (λ w h. refl) (cuts_word 78 (79 ∷ 84 ∷ []) (FIXED fixed.Not) refl (refl, (refl, (refl, tt))) refl) (cuts_append Any Any (32 ∷ []) (66 ∷ 69 ∷ 84 ∷ 87 ∷ 69 ∷ 69 ∷ 78 ∷ 32 ∷ []) ([]) (FIXED fixed.Between ∷ []) (λ w h. tt) cuts_blank (cuts_append (Follow no_letter) Any (66 ∷ 69 ∷ 84 ∷ 87 ∷ 69 ∷ 69 ∷ 78 ∷ []) (32 ∷ []) (FIXED fixed.Between ∷ []) ([]) (λ w h. refl) (cuts_word 66 (69 ∷ 84 ∷ 87 ∷ 69 ∷ 69 ∷ 78 ∷ []) (FIXED fixed.Between) refl (refl, (refl, (refl, (refl, (refl, (refl, (refl, tt))))))) refl) cuts_blank)))

pub in_list_cut : Cuts Any (codes " IN (") (FIXED fixed.In ∷ FIXED fixed.Open ∷ [])
unfolding class_of word_of one_sign two_sign Blanked
in_list_cut = cuts_append Any Any (32 ∷ []) (73 ∷ 78 ∷ 32 ∷ 40 ∷ []) ([]) (FIXED fixed.In ∷ FIXED fixed.Open ∷ []) (λ w h. tt) cuts_blank (cuts_append (Follow no_letter) Any (73 ∷ 78 ∷ []) (32 ∷ 40 ∷ []) (FIXED fixed.In ∷ []) (FIXED fixed.Open ∷ []) (λ w h. refl) (cuts_word 73 (78 ∷ []) (FIXED fixed.In) refl (refl, (refl, tt)) refl) (cuts_append Any Any (32 ∷ []) (40 ∷ []) ([]) (FIXED fixed.Open ∷ []) (λ w h. tt) cuts_blank (cuts_sign Any 40 fixed.Open refl refl (λ w s c v e. refl))))

pub not_in_list_cut : Cuts Any (codes " NOT IN (") (FIXED fixed.Not ∷ FIXED fixed.In ∷ FIXED fixed.Open ∷ [])
unfolding class_of word_of one_sign two_sign Blanked
not_in_list_cut = cuts_append Any Any (32 ∷ []) (78 ∷ 79 ∷ 84 ∷ 32 ∷ 73 ∷ 78 ∷ 32 ∷ 40 ∷ []) ([]) (FIXED fixed.Not ∷ FIXED fixed.In ∷ FIXED fixed.Open ∷ []) (λ w h. tt) cuts_blank (cuts_append (Follow no_letter) Any (78 ∷ 79 ∷ 84 ∷ []) (32 ∷ 73 ∷ 78 ∷ 32 ∷ 40 ∷ []) (FIXED fixed.Not ∷ []) (FIXED fixed.In ∷ FIXED fixed.Open ∷ []) (λ w h. refl) (cuts_word 78 (79 ∷ 84 ∷ []) (FIXED fixed.Not) refl (refl, (refl, (refl, tt))) refl) (cuts_append Any Any (32 ∷ []) (73 ∷ 78 ∷ 32 ∷ 40 ∷ []) ([]) (FIXED fixed.In ∷ FIXED fixed.Open ∷ []) (λ w h. tt) cuts_blank (cuts_append (Follow no_letter) Any (73 ∷ 78 ∷ []) (32 ∷ 40 ∷ []) (FIXED fixed.In ∷ []) (FIXED fixed.Open ∷ []) (λ w h. refl) (cuts_word 73 (78 ∷ []) (FIXED fixed.In) refl (refl, (refl, tt)) refl) (cuts_append Any Any (32 ∷ []) (40 ∷ []) ([]) (FIXED fixed.Open ∷ []) (λ w h. tt) cuts_blank (cuts_sign Any 40 fixed.Open refl refl (λ w s c v e. refl))))))

pub null_cut : Cuts (Follow no_letter) (codes " IS NULL") (FIXED fixed.Is ∷ FIXED fixed.Null ∷ [])
unfolding class_of word_of one_sign two_sign Blanked
null_cut = cuts_append Any (Follow no_letter) (32 ∷ []) (73 ∷ 83 ∷ 32 ∷ 78 ∷ 85 ∷ 76 ∷ 76 ∷ []) ([]) (FIXED fixed.Is ∷ FIXED fixed.Null ∷ []) (λ w h. tt) cuts_blank (cuts_append (Follow no_letter) (Follow no_letter) (73 ∷ 83 ∷ []) (32 ∷ 78 ∷ 85 ∷ 76 ∷ 76 ∷ []) (FIXED fixed.Is ∷ []) (FIXED fixed.Null ∷ []) (λ w h. refl) (cuts_word 73 (83 ∷ []) (FIXED fixed.Is) refl (refl, (refl, tt)) refl) (cuts_append Any (Follow no_letter) (32 ∷ []) (78 ∷ 85 ∷ 76 ∷ 76 ∷ []) ([]) (FIXED fixed.Null ∷ []) (λ w h. tt) cuts_blank (cuts_word 78 (85 ∷ 76 ∷ 76 ∷ []) (FIXED fixed.Null) refl (refl, (refl, (refl, (refl, tt)))) refl)))

pub not_null_cut : Cuts (Follow no_letter) (codes " IS NOT NULL") (FIXED fixed.Is ∷ FIXED fixed.Not ∷ FIXED fixed.Null ∷ [])
unfolding class_of word_of one_sign two_sign Blanked
not_null_cut = cuts_append Any (Follow no_letter) (32 ∷ []) (73 ∷ 83 ∷ 32 ∷ 78 ∷ 79 ∷ 84 ∷ 32 ∷ 78 ∷ 85 ∷ 76 ∷ 76 ∷ []) ([]) (FIXED fixed.Is ∷ FIXED fixed.Not ∷ FIXED fixed.Null ∷ []) (λ w h. tt) cuts_blank (cuts_append (Follow no_letter) (Follow no_letter) (73 ∷ 83 ∷ []) (32 ∷ 78 ∷ 79 ∷ 84 ∷ 32 ∷ 78 ∷ 85 ∷ 76 ∷ 76 ∷ []) (FIXED fixed.Is ∷ []) (FIXED fixed.Not ∷ FIXED fixed.Null ∷ []) (λ w h. refl) (cuts_word 73 (83 ∷ []) (FIXED fixed.Is) refl (refl, (refl, tt)) refl) (cuts_append Any (Follow no_letter) (32 ∷ []) (78 ∷ 79 ∷ 84 ∷ 32 ∷ 78 ∷ 85 ∷ 76 ∷ 76 ∷ []) ([]) (FIXED fixed.Not ∷ FIXED fixed.Null ∷ []) (λ w h. tt) cuts_blank (cuts_append (Follow no_letter) (Follow no_letter) (78 ∷ 79 ∷ 84 ∷ []) (32 ∷ 78 ∷ 85 ∷ 76 ∷ 76 ∷ []) (FIXED fixed.Not ∷ []) (FIXED fixed.Null ∷ []) (λ w h. refl) (cuts_word 78 (79 ∷ 84 ∷ []) (FIXED fixed.Not) refl (refl, (refl, (refl, tt))) refl) (cuts_append Any (Follow no_letter) (32 ∷ []) (78 ∷ 85 ∷ 76 ∷ 76 ∷ []) ([]) (FIXED fixed.Null ∷ []) (λ w h. tt) cuts_blank (cuts_word 78 (85 ∷ 76 ∷ 76 ∷ []) (FIXED fixed.Null) refl (refl, (refl, (refl, (refl, tt)))) refl)))))

pub group_by_cut : Cuts Any (codes " GROUP BY ") (FIXED fixed.Group ∷ FIXED fixed.By ∷ [])
unfolding class_of word_of one_sign two_sign Blanked
group_by_cut = cuts_append Any Any (32 ∷ []) (71 ∷ 82 ∷ 79 ∷ 85 ∷ 80 ∷ 32 ∷ 66 ∷ 89 ∷ 32 ∷ []) ([]) (FIXED fixed.Group ∷ FIXED fixed.By ∷ []) (λ w h. tt) cuts_blank (cuts_append (Follow no_letter) Any (71 ∷ 82 ∷ 79 ∷ 85 ∷ 80 ∷ []) (32 ∷ 66 ∷ 89 ∷ 32 ∷ []) (FIXED fixed.Group ∷ []) (FIXED fixed.By ∷ []) (λ w h. refl) (cuts_word 71 (82 ∷ 79 ∷ 85 ∷ 80 ∷ []) (FIXED fixed.Group) refl (refl, (refl, (refl, (refl, (refl, tt))))) refl) (cuts_append Any Any (32 ∷ []) (66 ∷ 89 ∷ 32 ∷ []) ([]) (FIXED fixed.By ∷ []) (λ w h. tt) cuts_blank (cuts_append (Follow no_letter) Any (66 ∷ 89 ∷ []) (32 ∷ []) (FIXED fixed.By ∷ []) ([]) (λ w h. refl) (cuts_word 66 (89 ∷ []) (FIXED fixed.By) refl (refl, (refl, tt)) refl) cuts_blank)))

pub order_by_cut : Cuts Any (codes " ORDER BY ") (FIXED fixed.Order ∷ FIXED fixed.By ∷ [])
unfolding class_of word_of one_sign two_sign Blanked
order_by_cut = cuts_append Any Any (32 ∷ []) (79 ∷ 82 ∷ 68 ∷ 69 ∷ 82 ∷ 32 ∷ 66 ∷ 89 ∷ 32 ∷ []) ([]) (FIXED fixed.Order ∷ FIXED fixed.By ∷ []) (λ w h. tt) cuts_blank (cuts_append (Follow no_letter) Any (79 ∷ 82 ∷ 68 ∷ 69 ∷ 82 ∷ []) (32 ∷ 66 ∷ 89 ∷ 32 ∷ []) (FIXED fixed.Order ∷ []) (FIXED fixed.By ∷ []) (λ w h. refl) (cuts_word 79 (82 ∷ 68 ∷ 69 ∷ 82 ∷ []) (FIXED fixed.Order) refl (refl, (refl, (refl, (refl, (refl, tt))))) refl) (cuts_append Any Any (32 ∷ []) (66 ∷ 89 ∷ 32 ∷ []) ([]) (FIXED fixed.By ∷ []) (λ w h. tt) cuts_blank (cuts_append (Follow no_letter) Any (66 ∷ 89 ∷ []) (32 ∷ []) (FIXED fixed.By ∷ []) ([]) (λ w h. refl) (cuts_word 66 (89 ∷ []) (FIXED fixed.By) refl (refl, (refl, tt)) refl) cuts_blank)))

pub desc_cut : Cuts Any (codes " DESC LIMIT ") (FIXED fixed.Desc ∷ FIXED fixed.Limit ∷ [])
unfolding class_of word_of one_sign two_sign Blanked
desc_cut = cuts_append Any Any (32 ∷ []) (68 ∷ 69 ∷ 83 ∷ 67 ∷ 32 ∷ 76 ∷ 73 ∷ 77 ∷ 73 ∷ 84 ∷ 32 ∷ []) ([]) (FIXED fixed.Desc ∷ FIXED fixed.Limit ∷ []) (λ w h. tt) cuts_blank (cuts_append (Follow no_letter) Any (68 ∷ 69 ∷ 83 ∷ 67 ∷ []) (32 ∷ 76 ∷ 73 ∷ 77 ∷ 73 ∷ 84 ∷ 32 ∷ []) (FIXED fixed.Desc ∷ []) (FIXED fixed.Limit ∷ []) (λ w h. refl) (cuts_word 68 (69 ∷ 83 ∷ 67 ∷ []) (FIXED fixed.Desc) refl (refl, (refl, (refl, (refl, tt)))) refl) (cuts_append Any Any (32 ∷ []) (76 ∷ 73 ∷ 77 ∷ 73 ∷ 84 ∷ 32 ∷ []) ([]) (FIXED fixed.Limit ∷ []) (λ w h. tt) cuts_blank (cuts_append (Follow no_letter) Any (76 ∷ 73 ∷ 77 ∷ 73 ∷ 84 ∷ []) (32 ∷ []) (FIXED fixed.Limit ∷ []) ([]) (λ w h. refl) (cuts_word 76 (73 ∷ 77 ∷ 73 ∷ 84 ∷ []) (FIXED fixed.Limit) refl (refl, (refl, (refl, (refl, (refl, tt))))) refl) cuts_blank)))

pub limit_cut : Cuts Any (codes " LIMIT ") (FIXED fixed.Limit ∷ [])
unfolding class_of word_of one_sign two_sign Blanked
limit_cut = cuts_append Any Any (32 ∷ []) (76 ∷ 73 ∷ 77 ∷ 73 ∷ 84 ∷ 32 ∷ []) ([]) (FIXED fixed.Limit ∷ []) (λ w h. tt) cuts_blank (cuts_append (Follow no_letter) Any (76 ∷ 73 ∷ 77 ∷ 73 ∷ 84 ∷ []) (32 ∷ []) (FIXED fixed.Limit ∷ []) ([]) (λ w h. refl) (cuts_word 76 (73 ∷ 77 ∷ 73 ∷ 84 ∷ []) (FIXED fixed.Limit) refl (refl, (refl, (refl, (refl, (refl, tt))))) refl) cuts_blank)

pub eq_cut : Cuts Any (codes " = ") (FIXED fixed.Equal ∷ [])
unfolding class_of word_of one_sign two_sign Blanked
eq_cut = cuts_append Any Any (32 ∷ []) (61 ∷ 32 ∷ []) ([]) (FIXED fixed.Equal ∷ []) (λ w h. tt) cuts_blank (cuts_append Any Any (61 ∷ []) (32 ∷ []) (FIXED fixed.Equal ∷ []) ([]) (λ w h. tt) (cuts_sign Any 61 fixed.Equal refl refl (λ w s c v e. refl)) cuts_blank)

pub ne_cut : Cuts Any (codes " <> ") (FIXED fixed.NotEqual ∷ [])
unfolding class_of word_of one_sign two_sign Blanked
ne_cut = cuts_append Any Any (32 ∷ []) (60 ∷ 62 ∷ 32 ∷ []) ([]) (FIXED fixed.NotEqual ∷ []) (λ w h. tt) cuts_blank (cuts_append Any Any (60 ∷ 62 ∷ []) (32 ∷ []) (FIXED fixed.NotEqual ∷ []) ([]) (λ w h. tt) (cuts_two 60 62 fixed.NotEqual refl refl) cuts_blank)

pub lt_cut : Cuts Any (codes " < ") (FIXED fixed.Less ∷ [])
unfolding class_of word_of one_sign two_sign Blanked
lt_cut = cuts_append Any Any (32 ∷ []) (60 ∷ 32 ∷ []) ([]) (FIXED fixed.Less ∷ []) (λ w h. tt) cuts_blank (cuts_append Blanked Any (60 ∷ []) (32 ∷ []) (FIXED fixed.Less ∷ []) ([]) (λ w h. refl) (cuts_sign Blanked 60 fixed.Less refl refl (λ w s c v e. blanked 60 w s c v e)) cuts_blank)

pub le_cut : Cuts Any (codes " <= ") (FIXED fixed.LessEqual ∷ [])
unfolding class_of word_of one_sign two_sign Blanked
le_cut = cuts_append Any Any (32 ∷ []) (60 ∷ 61 ∷ 32 ∷ []) ([]) (FIXED fixed.LessEqual ∷ []) (λ w h. tt) cuts_blank (cuts_append Any Any (60 ∷ 61 ∷ []) (32 ∷ []) (FIXED fixed.LessEqual ∷ []) ([]) (λ w h. tt) (cuts_two 60 61 fixed.LessEqual refl refl) cuts_blank)

pub gt_cut : Cuts Any (codes " > ") (FIXED fixed.Greater ∷ [])
unfolding class_of word_of one_sign two_sign Blanked
gt_cut = cuts_append Any Any (32 ∷ []) (62 ∷ 32 ∷ []) ([]) (FIXED fixed.Greater ∷ []) (λ w h. tt) cuts_blank (cuts_append Blanked Any (62 ∷ []) (32 ∷ []) (FIXED fixed.Greater ∷ []) ([]) (λ w h. refl) (cuts_sign Blanked 62 fixed.Greater refl refl (λ w s c v e. blanked 62 w s c v e)) cuts_blank)

pub ge_cut : Cuts Any (codes " >= ") (FIXED fixed.GreaterEqual ∷ [])
unfolding class_of word_of one_sign two_sign Blanked
ge_cut = cuts_append Any Any (32 ∷ []) (62 ∷ 61 ∷ 32 ∷ []) ([]) (FIXED fixed.GreaterEqual ∷ []) (λ w h. tt) cuts_blank (cuts_append Any Any (62 ∷ 61 ∷ []) (32 ∷ []) (FIXED fixed.GreaterEqual ∷ []) ([]) (λ w h. tt) (cuts_two 62 61 fixed.GreaterEqual refl refl) cuts_blank)
