-- From the query's columns to whole tables.
use Rattle.std.proofs.Common.{◌≡◌, ◌≢◌, ℕ, ℤ, [], Option, Some, subst, ap, ◌∙◌, refl}
use Rattle.daq_table.specs.declared.table_head.Head.{Head}
use Rattle.daq_table.specs.Tables.{Cells, Frame, frame_of, row_of}
use Rattle.query_model.specs.declared.bounds.Nullity.TheVariants.{Always}
use Rattle.query_model.specs.Queries.{Aggregate, Query}
use Rattle.query_model.specs.Answers.{average_of, outcome_of, values_of}
use Rattle.query_model.specs.Bounds.{IsExtremesAverage, Pair, pairs}
use Rattle.query_model.specs.Knowledge.{IsKnowledge, Knowledge}
use Rattle.query_model.specs.Projection.{projected, projected_frame}
use Rattle.query_model.specs.Attaining.{AttainsEnds}
use Rattle.query_model.specs.Validity.{FitsHead, declared_ranges}
use Rattle.query_model.specs.Worlds.{AgreesWith, NamesColumns, average_on}
use Rattle.query_model.proofs.Exact.{words_become_exact}
use Rattle.query_model.proofs.Queries.{pairs_ordered}
use Rattle.query_model.proofs.WholeTables.{bounds_are_extremes_on_tables, completions_have_tables, fitting_heads_have_parts}
use Rattle.round_engine.specs.Stages.{Stage}
use Rattle.avg_exact.specs.ExactAverages.{ends_of, exact_under}
use Rattle.avg_exact.specs.Laws.{ExactAveragesAreCertain}
use Rattle.avg_exact.specs.Promises.{Gives, IsAttained, IsCertainExact, exact_at, high_given, low_given}
use Rattle.avg_exact.proofs.ListEnds.{exact_averages_lie_within, word_of_sum}
use Rattle.avg_exact.proofs.Worlds.{EndHolds, as_sum, exact_average_is, exact_averages_contain, high_holds, low_holds, sum_attains}

-- what is known of the query's columns in a table
abbrev stage_in : Query → Frame → Knowledge → Stage
stage_in query frame known = record { query = query; frame = projected_frame query frame; known = known }

-- a completion by which an end holds is the part of a whole table
abbrev EndHoldsOn : Query → Aggregate → Frame → Knowledge → (Option Pair → Option ℤ) → ℤ → ℕ → Type 0
EndHoldsOn query item frame known given s n =
    (world : Cells) × Gives (stage_in query frame known) item frame given world × (average_on query item [] frame world ≡ Some (s, n))

holds_on_table : (query : Query) (item : Aggregate) (frame : Frame) (known : Knowledge) (given : Option Pair → Option ℤ) (s : ℤ) (n : ℕ) →
    NamesColumns query frame → EndHolds query item (projected_frame query frame) known given s n → EndHoldsOn query item frame known given s n
holds_on_table query item frame known given s n names (cells, gives, is) =
    let part = projected_frame query frame in
    let whole = completions_have_tables query frame part known cells (record { columns = names; same = refl }) gives.completes in (
      whole.0,
      record {
        agrees = whole.1;
        rows = λ r r_in. ap (λ c. outcome_of query item [] (row_of part c r)) whole.2 ∙ gives.rows r r_in;
      },
      ap (average_of query item [] part) whole.2 ∙ is,
    )

attained : (query : Query) (item : Aggregate) (frame : Frame) (known : Knowledge) → NamesColumns query frame → IsKnowledge (projected_frame query frame) known →
    AttainsEnds query item (declared_ranges (projected_frame query frame)) → (exact_at (stage_in query frame known) item).null ≢ Always → IsAttained (stage_in query frame known) item frame
attained query item frame known names k attains w =
    let part = projected_frame query frame in
    let exact = exact_under query item part known in
    record {
      low = holds_on_table query item frame known (low_given exact.low_cut) exact.lo.num exact.lo.den names (low_holds query item part known attains k w);
      high = holds_on_table query item frame known (high_given exact.high_cut) exact.hi.num exact.hi.den names (high_holds query item part known attains k w);
    }

tight : (query : Query) (item : Aggregate) (frame : Frame) (known : Knowledge) → NamesColumns query frame → IsKnowledge (projected_frame query frame) known →
    AttainsEnds query item (declared_ranges (projected_frame query frame)) →
    IsExtremesAverage (AgreesWith query frame known) (average_on query item [] frame) (ends_of (exact_at (stage_in query frame known) item))
tight query item frame known names k attains =
    let part = projected_frame query frame in
    let sums = bounds_are_extremes_on_tables query (as_sum item) [] frame part known (λ e. cc) (sum_attains query item (declared_ranges part) attains) (record { columns = names; same = refl }) k in
    let reached = attained query item frame known names k attains in
    record {
      admits = λ cells h. exact_averages_contain query item part known (projected query cells) k h.part;
      null = word_of_sum (AgreesWith query frame known) (λ cells. values_of query item [] part (projected query cells)) (exact_under query item part known).null sums.null;
      lo = λ w. (let found = (reached w).low in (found.0, found.1.agrees, found.2));
      hi = λ w. (let found = (reached w).high in (found.0, found.1.agrees, found.2));
    }

certain_there : (query : Query) (item : Aggregate) (frame : Frame) (known : Knowledge) → NamesColumns query frame → IsKnowledge (projected_frame query frame) known →
    IsCertainExact (stage_in query frame known) item frame
certain_there query item frame known names k =
    let part = projected_frame query frame in
    record {
      contains = λ cells h. exact_averages_contain query item part known (projected query cells) k h.part;
      within = exact_averages_lie_within (pairs query item [] part known) (pairs_ordered query item [] part known k);
      tight = λ attains. tight query item frame known names k attains;
      attained = λ attains w. attained query item frame known names k attains w;
      exact = λ all w cells h. exact_average_is query item part known (projected query cells) k all h.part w;
      told = λ all. words_become_exact query item [] part known k all;
    }

-- for each frame of which the query reads a part
pub exact_averages_are_certain : ExactAveragesAreCertain
exact_averages_are_certain stage item frame part k =
    subst (λ (w : Frame). IsKnowledge w stage.known → IsCertainExact (record { query = stage.query; frame = w; known = stage.known }) item frame) part.same
    (λ k. certain_there stage.query item frame stage.known part.columns k)
    k

-- and so for each head that the query fits
pub exact_is_certain : (stage : Stage) (item : Aggregate) (head : Head) → IsKnowledge stage.frame stage.known → FitsHead stage.query stage.frame head →
    IsCertainExact stage item (frame_of head)
exact_is_certain stage item head k fits =
    exact_averages_are_certain stage item (frame_of head) (fitting_heads_have_parts stage.query stage.frame head fits) k
