use Rattle.std.proofs.Common.{◌≡◌, ℕ, ◌*◌, ◌+◌, Bool, false, List, get_or, length, map, replicate, sym, ap, subst, ◌∙◌, arith, Result, Ok, Err, IfOk}
use Rattle.std.proofs.lemmas.List.{get_or-replicate, length-replicate}
use Rattle.std.proofs.lemmas.List.FromFn.{fill_by_all}
use Rattle.std.proofs.lemmas.Simd.{map-map}
use Rattle.daq_table.specs.Tables.{rows_of}
use Rattle.query_model.specs.declared.bounds.Truth.{Truth}
use Rattle.query_model.specs.Queries.{Condition, condition_of}
use Rattle.query_model.specs.Truths.{truth_among}
use Rattle.known_column.specs.KnownTables.{IsKnownTable, KnownTable}
use Rattle.kleene_filter.specs.Filters.{AreUnread, is_certain, is_possible, truth_at, truths_at, truths_under}
use Rattle.kleene_filter.specs.declared.truth_masks.KeptTruths.{KeptTruths}
use Rattle.kleene_filter.specs.declared.truth_masks.TruthMasks.{TruthMasks}
use Rattle.kleene_filter.specs.Masks.{AreRowsOf}
use Rattle.kleene_filter.proofs.Tracking.{in_table}
use Rattle.kleene_filter.proofs.Unread.{as_at_first, may_hold_is_possible}
use Rattle.kleene_filter.proofs.filter.truths_of_unread.Goals as goal

-- so many rows of one bit, where a test of the first row tells it
all_rows : (test : Truth → Bool) (pred : Condition) (table : KnownTable) (rows : ℕ) (bit : Bool) (mask : List Bool) → IsKnownTable table → AreUnread table → rows ≡ table.frame.rows →
    mask ≡ replicate rows bit → bit ≡ test (truth_at pred table 0) → mask ≡ map test (truths_under pred table)
all_rows test pred table rows bit mask known none count is first =
    fill_by_all (λ row. test (truth_at pred table row)) mask table.frame.rows false (ap length is ∙ length-replicate rows bit ∙ count)
    (λ k below. ap (λ l. get_or l k false) is ∙ get_or-replicate rows k bit false (omega (arith, count, below)) ∙ first ∙ ap (λ t. test (truth_among t)) (sym (as_at_first pred table known none k below)))
    ∙ sym (map-map test (truth_at pred table) (rows_of table.frame))

ok_as : {A E : Type 0} (r : Result A E) (P Q : A → Type 0) → ((a : A) → P a → Q a) → IfOk r P → IfOk r Q
ok_as (Ok a) P Q f h = f a h
ok_as (Err e) P Q f h = h

pub pred_truths-requires-clause-rows : goal.pred_truths-requires-clause-rows
pred_truths-requires-clause-rows c =
    subst (λ (t : KnownTable). AreRowsOf c.args.columns.now (record { block = 0; word = 0; to = 1; first = 0 }) t) (sym c.again-rows.ensures)
    (in_table c.args.columns.now 0 1 (omega (arith, c.requires.some)) (omega arith) c.rows-count.ensures.known.few_rows)

pub returns-clause-must : goal.returns-clause-must
returns-clause-must c =
    let pred = condition_of c.args.pred.now in
    let table = c.args.columns.now in
    ok_as c.of.result (λ (t : KeptTruths). t.masks ≡ record { must = c.in_ok-must.must; may = c.in_ok-may.may }) (λ (t : KeptTruths). t.masks.must ≡ map is_certain (truths_under pred table))
    (λ t is. ap (λ (m : TruthMasks). m.must) is
    ∙ all_rows is_certain pred table c.rows-count.result c.has_first-certain.result c.in_ok-must.must c.rows-count.ensures.known c.requires.unread c.rows-count.ensures.rows c.in_ok-must.ensures
    (c.has_first-certain.ensures ∙ c.must_hold.ensures 0 _ (omega arith) (c.pred_truths.ensures.truths 0 (omega arith) (omega arith))))
    c.of.ensures.masks

pub returns-clause-may : goal.returns-clause-may
returns-clause-may c =
    let pred = condition_of c.args.pred.now in
    let table = c.args.columns.now in
    ok_as c.of.result (λ (t : KeptTruths). t.masks ≡ record { must = c.in_ok-must.must; may = c.in_ok-may.may }) (λ (t : KeptTruths). t.masks.may ≡ map is_possible (truths_under pred table))
    (λ t is. ap (λ (m : TruthMasks). m.may) is
    ∙ all_rows is_possible pred table c.rows-count.result c.has_first-possible.result c.in_ok-may.may c.rows-count.ensures.known c.requires.unread c.rows-count.ensures.rows c.in_ok-may.ensures
    (c.has_first-possible.ensures ∙ (c.pred_truths.ensures.truths 0 (omega arith) (omega arith)).hold ∙ may_hold_is_possible (truths_at pred table (512 * 0 + 0))))
    c.of.ensures.masks
