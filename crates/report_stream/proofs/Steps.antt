-- Why a first line is refused.
use Rattle.std.proofs.Common.{◌≡◌, ℕ, None, List, [], refl, subst, arith}
use Rattle.query_kinds.specs.Kinds.{IsNoQuery}
use Rattle.query_kinds.specs.Rows.{IsRowsFault}
use Rattle.query_kinds.specs.declared.fault.KindsFault.{KindsFault}
use Rattle.query_kinds.specs.declared.fault.KindsFault.TheVariants as k
use Rattle.report_parts.specs.Tags.{CannotTake, IsRefused, IsTagged, behind_tag, tag_of}
use Rattle.report_parts.specs.Told.{Told, at_place, nothing_told}
use Rattle.report_parts.specs.declared.fault.InputFault.{InputFault}
use Rattle.report_parts.specs.declared.fault.InputFault.TheVariants as i
use Rattle.report_parts.specs.declared.fault.LineFault.TheVariants as l
use Rattle.report_parts.specs.declared.part.Place.TheVariants.{Opened}
use Rattle.report_parts.specs.declared.shape.Shape.{Shape}
use Rattle.report_stream.specs.Faults.{of_input, of_kinds}
use Rattle.report_stream.specs.Steps.{IsFirstFault, IsShapeFault}
use Rattle.report_stream.specs.Streams.{AsksNothing}

abbrev none_asked : Shape
none_asked = record { kinds = []; columns = 0; besides = []; rows = None }

-- the line of the query opens the report of a part
opens : (first : List ℕ) → CannotTake (behind_tag first) none_asked (nothing_told (tag_of first)) (behind_tag first) → ⊥
opens first cannot = cannot (at_place (nothing_told (tag_of first)) Opened) (record { is_query = refl; opened = refl })

pub first_refused : (first : List ℕ) (why : InputFault) →
    ((query : List ℕ) (shape : Shape) (most : ℕ) (parts : List Told) → IsRefused why query shape most parts first) →
    IsFirstFault first (of_input 1 why)
first_refused first i.NoTab h = (refl, h [] none_asked 0 [])
first_refused first i.NoTag h = (refl, h [] none_asked 0 [])
first_refused first i.OtherPart h = let few = (h [] none_asked 1 []).1.0 in absurd (omega (arith, few))
first_refused first (i.Line l.OtherQuery) h = absurd (opens first (h (behind_tag first) none_asked 1 []).2.1)
first_refused first (i.Line l.Unlisted) h = absurd (opens first (h (behind_tag first) none_asked 1 []).2.1)
first_refused first (i.Line l.OtherLine) h = absurd (opens first (h (behind_tag first) none_asked 1 []).2.2)
first_refused first (i.Line l.NoMemory) h = tt

pub rows_refused : (line : List ℕ) (why : KindsFault) → IsRowsFault line why → IsShapeFault line why
rows_refused line k.NoQuery h = h
rows_refused line k.NoTotals h = absurd h
rows_refused line k.NoMemory h = tt

pub kinds_refused : (first line : List ℕ) (why : KindsFault) → IsTagged first → line ≡ behind_tag first → IsShapeFault line why →
    IsFirstFault first (of_kinds why)
kinds_refused first line k.NoQuery is e h = (refl, (is, subst IsNoQuery e h))
kinds_refused first line k.NoTotals is e h = (refl, (is, subst AsksNothing e h))
kinds_refused first line k.NoMemory is e h = tt
