-- The numbers of a query's columns are of 64 bits where those of the table are.
use Rattle.std.proofs.Common.{◌≡◌, ℕ, ◌<◌, ◌≤◌, ◌≤ℤ◌, ◌⊎◌, length, map, get_or, sym, subst, arith, inl, inr}
use Rattle.std.proofs.lemmas.Bool.{cases_lt}
use Rattle.std.proofs.lemmas.Int.{ints}
use Rattle.std.proofs.lemmas.List.{get_or_past}
use Rattle.daq_table.specs.Tables.{Frame, ends_at, no_ends}
use Rattle.query_model.specs.Worlds.{NamesColumns}
use Rattle.query_model.specs.declared.query.TypedQuery.{TypedQuery}
use Rattle.clip_bounds.specs.ClipLaws.{IsOfLongs}
use Rattle.clip_bounds.specs.Clips.{greatest_number, least_number}
use Rattle.table_rounds.specs.Headline.{AreOfLongs}
use Rattle.table_rounds.proofs.Listing.{all_at}
use Rattle.table_rounds.proofs.Reached.{columns_of_part, ends_there, part_of}

-- a column that is not there has the number 0 alone
none_there : (query : TypedQuery) (frame : Frame) (c : ℕ) → length query.columns ≤ c → no_ends ≡ ends_at (part_of query frame) c
none_there query frame c h = sym (get_or_past (map (ends_at frame) query.columns) c no_ends (subst (λ n. n ≤ c) (sym (columns_of_part query frame)) h))

pub long_part : (query : TypedQuery) (frame : Frame) → NamesColumns query frame → AreOfLongs frame → (c : ℕ) → IsOfLongs (part_of query frame) c
long_part query frame named longs c = by (cases_lt c (length query.columns))
  where
    by : (c < length query.columns) ⊎ (length query.columns ≤ c) → IsOfLongs (part_of query frame) c
    by (inl h) =
        let there = longs (get_or query.columns c 0) (all_at (λ i. i < length frame.columns) query.columns c named.in_range h) in
        let same = ends_there query frame c h in
        record { base = subst (λ e. least_number ≤ℤ e.base) same there.base; top = subst (λ e. e.top ≤ℤ greatest_number) same there.top }
    by (inr h) =
        let same = none_there query frame c h in
        record { base = subst (λ e. least_number ≤ℤ e.base) same (omega (arith, ints)); top = subst (λ e. e.top ≤ℤ greatest_number) same (omega (arith, ints)) }
