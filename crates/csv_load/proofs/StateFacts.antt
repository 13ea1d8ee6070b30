-- How the values that are kept of a column grow.
use Rattle.std.proofs.Common.{◌≡◌, ℕ, ℤ, true, List, [], ◌∷◌, ◌++◌, ap, sym, ◌∙◌}
use Rattle.daq_table.specs.declared.head.Kind.{Kind}
use Rattle.daq_table.specs.declared.head.Kind.TheVariants.{Int, Dec, Date, Text}
use Rattle.daq_table.specs.Dictionaries.{distinct}
use Rattle.daq_table.specs.ColumnFacts.{is_text}
use Rattle.csv_load.specs.Columns.{IsShortText, IsValue}
use Rattle.csv_load.specs.States.{Kept, kept_with, names_with}
use Rattle.csv_load.proofs.RowFacts.{distinct_more}

pub text_is_value : (kind : Kind) (text : List ℕ) → is_text kind ≡ true → IsShortText text → IsValue kind text
text_is_value Int text h s = absurd cc
text_is_value (Dec scale) text h s = absurd cc
text_is_value Date text h s = absurd cc
text_is_value Text text h s = s

-- the names and the values with one more text
pub names_taken : (kind : Kind) (texts later : List (List ℕ)) (text : List ℕ) → is_text kind ≡ true → later ≡ texts ++ text ∷ [] → names_with kind (distinct texts) text ≡ distinct later
names_taken kind texts later text h e = rw h (distinct_more texts text ∙ ap distinct (sym e))

pub text_taken : (kind : Kind) (numbers : List ℤ) (texts later : List (List ℕ)) (text : List ℕ) → is_text kind ≡ true → later ≡ texts ++ text ∷ []
    → ◌≡◌ {A = Kept} (record { kind = kind; numbers = numbers; texts = later; names = distinct later }) (kept_with (record { kind = kind; numbers = numbers; texts = texts; names = distinct texts }) text)
text_taken kind numbers texts later text h e = rw (h, e) (ap (λ (ns : List (List ℕ)). record { kind = kind; numbers = numbers; texts = texts ++ text ∷ []; names = ns }) (sym (distinct_more texts text)))
