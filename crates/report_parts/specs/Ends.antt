-- How a combined report ends.
use Rattle.std.specs.Prelude.{◌≡◌, ◌≢◌, ℕ, Bool, true, false, not, List, length, position, if◌then◌else◌}
use Rattle.std.specs.declared.option.Option.{Option}
use Rattle.std.specs.declared.option.Option.TheVariants.{Some, None}
use Rattle.std.specs.List.{list_all}
use Rattle.report_text.specs.declared.lines.ReportEnd.{ReportEnd}
use Rattle.report_text.specs.declared.lines.ReportEnd.TheVariants.{Narrow, Reads, Rounds}
use Rattle.report_parts.specs.Rounds.{is_ended, is_over}
use Rattle.report_parts.specs.Told.{Told}
use Rattle.report_parts.specs.declared.fault.EndFault.{EndFault}
use Rattle.report_parts.specs.declared.fault.EndFault.TheVariants.{EndsEarly, OtherCount}
use Rattle.report_parts.specs.declared.part.Place.{Place}
use Rattle.report_parts.specs.declared.part.Place.TheVariants.{Query, Opened, Round, Group, Items, Row, Ended}

abbrev pub is_narrow_end : ReportEnd → Bool
is_narrow_end Narrow = true
is_narrow_end Rounds = false
is_narrow_end Reads = false

-- the report has ended narrow
abbrev pub ends_narrow : Place → Bool
ends_narrow Query = false
ends_narrow Opened = false
ends_narrow Round = false
ends_narrow Group = false
ends_narrow Items = false
ends_narrow Row = false
ends_narrow (Ended end) = is_narrow_end end

-- where no part goes on
abbrev pub end_of_all : List Told → ReportEnd
end_of_all parts = if list_all (λ part. ends_narrow part.place) parts then Narrow else Rounds

-- behind a block that is narrow, or the last that is wanted, or behind which no part goes on
abbrev pub end_behind : Bool → Bool → ℕ → List Told → Option ReportEnd
end_behind narrow last round parts =
    if narrow then Some Narrow
    else if last then Some Rounds
    else if list_all (is_over round) parts then Some (end_of_all parts)
    else None

-- ---- where the input ends

-- the first part whose report has not ended
abbrev pub first_open : List Told → Option ℕ
first_open parts = position (λ part. not (is_ended part.place)) parts

abbrev pub IsEndFault : EndFault → ℕ → List Told → Type 0
IsEndFault (EndsEarly place) wanted parts = first_open parts ≡ Some place
IsEndFault (OtherCount count) wanted parts = (first_open parts ≡ None) × (length parts ≡ count) × (count ≢ wanted)
