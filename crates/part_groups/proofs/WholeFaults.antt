-- Whether the reports of parts can be combined, as a function of what they tell.
use Rattle.std.proofs.Common.{◌≡◌, ◌∙◌, ℕ, List, [], ◌∷◌, All, map, refl, sym, ap, subst, inl, inr}
use Rattle.query_model.specs.declared.query.ItemKind.{ItemKind}
use Rattle.report_text.specs.Answers.{CanBeWritten}
use Rattle.shard_groups.specs.Firsts.{IsFirstNotIn}
use Rattle.shard_groups.specs.Found.{LinesAreFound, line_over, lines_over}
use Rattle.shard_groups.specs.Groups.{AreSaid, FitsSaid, Said, all_keys, said_from}
use Rattle.shard_groups.specs.declared.cells.Cell.{Cell}
use Rattle.shard_groups.specs.declared.keys.Span.{Span}
use Rattle.part_groups.specs.Combined.{AreSaidOf, answers_in}
use Rattle.part_groups.specs.Whole.{AreKeyed, CombinedCanBe, CombinedIsWhole, FaultsAreWhole, cells_by, said_over}
use Rattle.part_groups.specs.declared.fault.CombineFault.TheVariants.{NoMemory, OtherColumn, OtherItem, TooWide}
use Rattle.part_groups.specs.declared.group.Group.{Group}
use Rattle.part_groups.proofs.Textless.{written_in}
use Rattle.part_groups.proofs.Whole.{have_keys, same_shards}

said_lines : (kinds : List ItemKind) (shards : List (List Cell)) (lines : List (List Span)) →
    map (λ line. line.said) (map (line_over kinds shards) lines) ≡ map (λ line. said_from 0 kinds line shards) lines
said_lines kinds shards [] = refl
said_lines kinds shards (line ∷ lines) = ap (λ (said : List (List Said)). said_from 0 kinds line shards ∷ said) (said_lines kinds shards lines)

said_is_over : LinesAreFound → (count : ℕ) (kinds : List ItemKind) (parts : List (List Group)) (said : List (List Said)) → AreKeyed count parts →
    AreSaidOf kinds parts said → said ≡ said_over kinds parts
said_is_over are_found count kinds parts said keyed s =
    let shards = cells_by parts in
    let keys = all_keys shards in
    let own : AreSaid kinds shards said = subst (λ (ss : List (List Cell)). AreSaid kinds ss said) (same_shards s.cells parts s.tell) s.lines in
    let found = are_found count keys in
    let lines : own.lines ≡ lines_over keys = found.alone (have_keys count parts keyed) own.lines own.are_lines own.ascending in
    own.is
    ∙ ap (λ (ls : List (List Span)). map (λ line. said_from 0 kinds line shards) ls) lines
    ∙ sym (said_lines kinds shards (lines_over keys))

pub combined_can_be : LinesAreFound → CombinedIsWhole → CombinedCanBe
combined_can_be are_found whole count kinds parts groups keyed report fit shown = record {
  alike = record { columns = report.forms.columns_shared.alike; items = report.forms.items_shared.alike };
  fit = subst (All (All FitsSaid)) (said_is_over are_found count kinds parts fit.0 keyed fit.1) fit.2;
  written = subst (λ (gs : List Group). All (All CanBeWritten) (answers_in gs)) (whole count kinds parts groups keyed report) (written_in groups shown);
}

pub faults_are_whole : LinesAreFound → CombinedIsWhole → FaultsAreWhole
faults_are_whole are_found whole NoMemory count kinds parts keyed fault = tt
faults_are_whole are_found whole (OtherColumn column) count kinds parts keyed fault = fault
faults_are_whole are_found whole (OtherItem item) count kinds parts keyed fault = fault
faults_are_whole are_found whole (TooWide item) count kinds parts keyed fault = (
  fault.0,
  elim fault.1 [
    | inl wide ↦ inl (subst (λ (said : List (List Said)). IsFirstNotIn FitsSaid said item) (said_is_over are_found count kinds parts wide.0 keyed wide.1) wide.2)
    | inr (fit, text) ↦ inr (
      subst (All (All FitsSaid)) (said_is_over are_found count kinds parts fit.0 keyed fit.1) fit.2,
      subst (λ (gs : List Group). IsFirstNotIn CanBeWritten (answers_in gs) item) (whole count kinds parts text.0 keyed text.1) text.2,
    )
  ],
)
