-- The lines behind that of an item over all rows: its clipped bound, or the exact ends of its average with the rows that they take.
use Rattle.std.specs.Prelude.{ℕ, ℤ, Bool, true, false, List, [], ◌++◌, codes, decimal, if◌then◌else◌}
use Rattle.std.specs.declared.option.Option.{Option}
use Rattle.std.specs.declared.option.Option.TheVariants.{Some, None}
use Rattle.std.specs.Option.{option_map}
use Rattle.avg_exact.specs.ExactAverages.{ExactAverage, ends_of}
use Rattle.avg_exact.specs.Promises.{exact_at}
use Rattle.clip_bounds.specs.Clipped.{clipped_in}
use Rattle.clip_bounds.specs.Clips.{clip_of}
use Rattle.daq_table.specs.declared.table_head.Head.{Head}
use Rattle.plane_schedule.specs.declared.policy.Extras.{Extras}
use Rattle.query_model.specs.Bounds.{AverageBound}
use Rattle.query_model.specs.declared.bounds.Bound.{Bound}
use Rattle.query_model.specs.declared.bounds.Nullity.{Nullity}
use Rattle.query_model.specs.declared.bounds.Nullity.TheVariants.{Never, Possibly, Always}
use Rattle.query_model.specs.declared.query.Face.{Face}
use Rattle.query_model.specs.declared.query.Item.{Item}
use Rattle.query_model.specs.declared.query.ItemKind.{ItemKind}
use Rattle.query_model.specs.declared.query.ItemKind.TheVariants.{Count, Sum, Min, Max, Avg}
use Rattle.query_model.specs.declared.query.TypedQuery.{TypedQuery}
use Rattle.round_engine.specs.Stages.{Stage}
use Rattle.daq_report.specs.declared.extras.TakenRows.{TakenRows}
use Rattle.daq_report.specs.Intervals.{average_text, bound_text, face_text}

-- an item's number, and what is told of it
abbrev pub front_text : ℕ → List ℕ → List ℕ
front_text number word = decimal number ++ word

-- ---- the clipped bound

abbrev pub clip_line : Head → TypedQuery → ℕ → Face → Option Bound → List ℕ
clip_line head query number face None = []
clip_line head query number face (Some bound) = front_text number (codes " clip ") ++ (bound_text head query face bound ++ codes "\n")

-- the bound of an item whose column its condition clips
abbrev pub clip_at : Stage → Item → Option Bound
clip_at stage item = option_map (clipped_in stage item) (clip_of stage.query item)

-- ---- the exact average

abbrev pub exact_line : Head → TypedQuery → ℕ → Face → AverageBound → List ℕ
exact_line head query number face ends = front_text number (codes " exact ") ++ (average_text head query face ends ++ codes "\n")

-- so many of the uncertain rows
abbrev pub count_text : ℕ → ℕ → List ℕ
count_text taken unknown = decimal taken ++ (codes " of " ++ decimal unknown)

-- from where on rows are taken, if any is
abbrev pub cut_text : Head → TypedQuery → Face → List ℕ → Option ℤ → List ℕ
cut_text head query face limit None = codes "\n"
cut_text head query face limit (Some cut) = limit ++ (face_text head query face cut ++ codes "\n")

-- how many of the uncertain rows an end takes, and from where on
abbrev pub taken_line : Head → TypedQuery → ℕ → Face → List ℕ → List ℕ → TakenRows → List ℕ
taken_line head query number face end limit rows =
    front_text number end ++ (count_text rows.taken rows.unknown ++ cut_text head query face limit rows.cut)

abbrev pub low_rows : ExactAverage → TakenRows
low_rows exact = record { taken = exact.low_taken; unknown = exact.unknown; cut = exact.low_cut }

abbrev pub high_rows : ExactAverage → TakenRows
high_rows exact = record { taken = exact.high_taken; unknown = exact.unknown; cut = exact.high_cut }

abbrev pub taken_lines : Head → TypedQuery → ℕ → Face → ExactAverage → List ℕ
taken_lines head query number face exact =
    taken_line head query number face (codes " low takes ") (codes " at most ") (low_rows exact)
    ++ taken_line head query number face (codes " high takes ") (codes " at least ") (high_rows exact)

-- where there may be an answer
abbrev pub unless_always : Nullity → List ℕ → List ℕ
unless_always Never text = text
unless_always Possibly text = text
unless_always Always text = []

abbrev pub exact_lines : Head → TypedQuery → ℕ → Face → ExactAverage → List ℕ
exact_lines head query number face exact =
    exact_line head query number face (ends_of exact) ++ unless_always exact.null (taken_lines head query number face exact)

-- ---- the lines that are wanted

abbrev pub is_average : ItemKind → Bool
is_average Count = false
is_average Sum = false
is_average Min = false
is_average Max = false
is_average Avg = true

-- behind the line of an average its exact ends, behind any other its clipped bound, if it has one
abbrev pub extra_lines : Head → Stage → Extras → ℕ → Item → List ℕ
extra_lines head stage extras number item =
    if is_average item.kind
    then (if extras.exact then exact_lines head stage.query number item.face (exact_at stage item) else [])
    else (if extras.clip then clip_line head stage.query number item.face (clip_at stage item) else [])
