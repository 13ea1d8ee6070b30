use Rattle.std.proofs.Common.{◌<◌, ◌∙◌, List, ℕ, length, get_or, sym, ap, subst, arith}
use Rattle.std.proofs.lemmas.List.{get_or_default}
use Rattle.daq_table.proofs.Kept.{places_count}
use Rattle.csv_load.proofs.KeptRows.{place_within}
use Rattle.csv_load.proofs.record.place_at.Goals as goal

pub bounds-places-column : goal.bounds-places-column
bounds-places-column c =
    let schema = c.args.schema.now in
    omega (arith, c.requires, ap length (c.as_slice-places.ensures ∙ schema.placed), places_count 0 schema.items, ap length schema.kept)

pub returns-clause-place : goal.returns-clause-place
returns-clause-place c =
    let schema = c.args.schema.now in
    let places = c.as_slice-places.ensures ∙ schema.placed in
    let lt : c.args.column < length c.as_slice-places.result.now = omega (arith, c.requires, ap length places, places_count 0 schema.items, ap length schema.kept) in
    get_or_default c.as_slice-places.result.now c.args.column _ 0 lt ∙ ap (λ (ps : List ℕ). get_or ps c.args.column 0) places

pub returns-clause-within : goal.returns-clause-within
returns-clause-within c =
    let schema = c.args.schema.now in
    let places = c.as_slice-places.ensures ∙ schema.placed in
    let lt : c.args.column < length c.as_slice-places.result.now = omega (arith, c.requires, ap length places, places_count 0 schema.items, ap length schema.kept) in
    subst (λ (p : ℕ). p < length schema.items) (sym (get_or_default c.as_slice-places.result.now c.args.column _ 0 lt ∙ ap (λ (ps : List ℕ). get_or ps c.args.column 0) places))
    (place_within schema.items c.args.column (omega (arith, c.requires, ap length schema.kept)))
