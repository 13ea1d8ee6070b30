-- How the machine reads a field a byte at a time.
use Rattle.std.proofs.Common.{◌≡◌, ℕ, ◌+◌, ◌<◌, List, [], ◌∷◌, ◌++◌, drop, length, get_or, refl, ◌∙◌}
use Rattle.std.proofs.lemmas.List.{drop_more}
use Rattle.csv.specs.Machine.{next_record, step}
use Rattle.csv.specs.Reading.{default_config}
use Rattle.csv.specs.declared.parser.State.TheVariants as st
use Rattle.csv.specs.declared.parser.Action.TheVariants as act
use Rattle.csv_load.specs.Lines.{state_within}
use Rattle.csv_load.specs.Records.{Fields}
use Rattle.csv_load.specs.declared.odd_field.Within.{Within}
use Rattle.csv_load.specs.declared.odd_field.Within.TheVariants.{Start}

-- the field that begins at a place is the one that is read on at another place
abbrev pub ReadsOn : List ℕ → ℕ → Within → List ℕ → ℕ → Type 0
ReadsOn text start place field at =
    (fields : Fields) → next_record default_config st.StartField fields [] (drop start text) ≡ next_record default_config (state_within place) fields field (drop at text)

pub begun : (text : List ℕ) (start : ℕ) → ReadsOn text start Start [] start
begun text start fields = refl

module _ (text : List ℕ) (start at : ℕ) (place : Within) (field : List ℕ) (lt : at < length text) (reads : ReadsOn text start place field at) where
  pub passed : (next : Within) → step default_config (state_within place) (get_or text at 0) ≡ (state_within next, act.Skip) → ReadsOn text start next field (at + 1)
  unfolding next_record
  passed next e fields = reads fields ∙ rw (drop_more text at 0 lt, e) refl

  pub joined : (next : Within) → step default_config (state_within place) (get_or text at 0) ≡ (state_within next, act.Copy) → ReadsOn text start next (field ++ get_or text at 0 ∷ []) (at + 1)
  unfolding next_record
  joined next e fields = reads fields ∙ rw (drop_more text at 0 lt, e) refl
