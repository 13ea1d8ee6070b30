-- Columns that are lent, one by one.
use Rattle.std.proofs.Common.{◌≡◌, ℕ, ◌<◌, ◌≤◌, List, [], length, get_or, refl, ap, sym, subst, ◌∙◌, arith, Some, None}
use Rattle.std.specs.declared.option.Option.{Option}
use Rattle.std.proofs.lemmas.List.{get_or-map, length-map}
use Rattle.std.proofs.lemmas.List.Elements.{All-get_or}
use Rattle.daq_table.specs.Tables.{ends_at, no_ends, planes}
use Rattle.query_model.specs.Knowledge.{IsLegal, known_at}
use Rattle.known_column.specs.Columns.{KnownColumn, rows_of_column}
use Rattle.known_column.specs.KnownTables.{AreNumbers, IsKnownTable, KnownTable, column_at, lent_of, number_of}

module _ (table : KnownTable) where
  pub lent_there : (numbers : Option (List ℕ)) (c : ℕ) → AreNumbers table numbers → c < length (lent_of table numbers).frame.columns → number_of numbers c < length table.frame.columns
  lent_there None c are h = h
  lent_there (Some numbers) c are h = All-get_or (λ n. n < length table.frame.columns) numbers c 0 (omega (arith, h, length-map numbers (ends_at table.frame))) are

  pub lent_column : (numbers : Option (List ℕ)) (c : ℕ) → c < length (lent_of table numbers).frame.columns → column_at (lent_of table numbers) c ≡ column_at table (number_of numbers c)
  lent_column None c h = refl
  lent_column (Some numbers) c h =
      let below : c < length numbers = omega (arith, h, length-map numbers (ends_at table.frame)) in
      same (get_or-map (ends_at table.frame) numbers c 0 no_ends below) (get_or-map (known_at table.known) numbers c 0 (record { read = 0; prefixes = [] }) below)
    where
      same : {e f : _} {k l : _} → e ≡ f → k ≡ l → (let column : KnownColumn = record { ends = e; known = k } in column) ≡ record { ends = f; known = l }
      same p q = cc

  pub lent_kept : (numbers : Option (List ℕ)) → AreNumbers table numbers → IsKnownTable table → IsKnownTable (lent_of table numbers)
  lent_kept None are kept = kept
  lent_kept (Some numbers) are kept =
      let all = Some numbers in
      record {
        few_rows = kept.few_rows;
        knowledge = record {
          columns = length-map numbers (known_at table.known) ∙ sym (length-map numbers (ends_at table.frame));
          read = λ c h. subst (λ (k : KnownColumn). k.known.read ≤ planes k.ends) (sym (lent_column all c h)) (kept.knowledge.read (number_of all c) (lent_there all c are h));
          rows = λ c h. ap rows_of_column (lent_column all c h) ∙ kept.knowledge.rows (number_of all c) (lent_there all c are h);
          legal = λ c r h below.
              subst (λ (k : KnownColumn). IsLegal k.ends k.known.read (get_or k.known.prefixes r 0)) (sym (lent_column all c h)) (kept.knowledge.legal (number_of all c) r (lent_there all c are h) below);
        };
      }
