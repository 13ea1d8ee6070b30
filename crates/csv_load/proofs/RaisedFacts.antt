-- Raised numbers: those of a column's values, and how far they lie from a base.
use Rattle.std.proofs.Common.{◌≡◌, ℕ, ◌<◌, pos, All, if◌then◌else◌, List, [], ◌∷◌, length, map, get_or, refl, ap, ◌∙◌, arith}
use Rattle.std.proofs.lemmas.List.{get_or-map, length-map}
use Rattle.std.proofs.lemmas.List.Elements.{All-tail}
use Rattle.daq_table.specs.declared.head.Kind.{Kind}
use Rattle.daq_table.specs.declared.head.Kind.TheVariants.{Int, Dec, Date, Text}
use Rattle.daq_table.specs.Dictionaries.{distinct, rank_of}
use Rattle.daq_table.specs.ColumnFacts.{is_text}
use Rattle.daq_table.specs.Raised.{lowered}
use Rattle.csv_load.specs.States.{numbers_in}

-- what stands at places of a list, lowered
pub lowered_at : (ranks numbers : List ℕ) → All (λ n. n < length ranks) numbers → map lowered (map (λ n. get_or ranks n 0) numbers) ≡ map (λ n. get_or (map lowered ranks) n (pos 0)) numbers
lowered_at ranks [] all = refl
lowered_at ranks (n ∷ numbers) all =
    rw (get_or-map lowered ranks n 0 (pos 0) (all 0 n (omega arith)), lowered_at ranks numbers (All-tail (λ (m : ℕ). m < length ranks) n numbers all)) refl

-- lists with the same length before and after two functions
pub same_length : {A B C : Type 0} (f : A → C) (g : B → C) (xs : List A) (ys : List B) → map f xs ≡ map g ys → length xs ≡ length ys
same_length f g xs ys e = omega (arith, length-map xs f, length-map ys g, ap length e)

-- the numbers of a column's values
pub chosen : (kind : Kind) (numbers ranks cells : List ℕ) (texts names : List (List ℕ)) → cells ≡ (if is_text kind then ranks else numbers) → names ≡ distinct texts
    → map lowered ranks ≡ map (λ text. pos (rank_of names text)) texts
    → map lowered cells ≡ numbers_in (record { kind = kind; numbers = map lowered numbers; texts = texts; names = distinct texts })
chosen Int numbers ranks cells texts names e n r = ap (map lowered) e
chosen (Dec scale) numbers ranks cells texts names e n r = ap (map lowered) e
chosen Date numbers ranks cells texts names e n r = ap (map lowered) e
chosen Text numbers ranks cells texts names e n r = ap (map lowered) e ∙ r ∙ ap (λ (ns : List (List ℕ)). map (λ text. pos (rank_of ns text)) texts) n
