-- That lines tell one thing, and that a report which has ended stays as it is.
use Rattle.std.specs.Prelude.{◌≡◌, ℕ, List, ◌++◌}
use Rattle.std.specs.declared.option.Option.{Option}
use Rattle.std.specs.declared.option.Option.TheVariants.{Some}
use Rattle.report_text.specs.declared.lines.ReportEnd.{ReportEnd}
use Rattle.report_parts.specs.Course.{Combines, Task, Tell}
use Rattle.report_parts.specs.Told.{Told}

-- behind the same lines all parts have told the same
abbrev pub TellingIsOne : Type 0
TellingIsOne =
    (task : Task) (parts : List Told) (lines : List (List ℕ)) (last other : List Told) → Tell task parts lines last →
    Tell task parts lines other → other ≡ last

-- where the combined report of lines has ended, whatever lines come behind change nothing
abbrev pub EndedStays : Type 0
EndedStays =
    (task : Task) (lines more : List (List ℕ)) (text longer : List ℕ) (end : ReportEnd) (later : Option ReportEnd) →
    Combines task lines text (Some end) → Combines task (lines ++ more) longer later → (longer ≡ text) × (later ≡ Some end)
