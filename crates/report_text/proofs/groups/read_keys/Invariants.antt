use Rattle.std.proofs.Common.{◌≡◌, List, length}
use Rattle.std.specs.List.{All}
use Rattle.report_text.specs.Groups.{AreShownKeys}
use Rattle.report_text.specs.Keys.{IsShownSpan, keys_text}
use Rattle.report_text.specs.Reading.{IsReadTo}
use Rattle.report_text.specs.declared.keys.ShownSpan.{ShownSpan}
use Rattle.report_text.proofs.groups.read_keys.Given as goal

abbrev pub invariant-loop-part : goal.invariant-loop-part
invariant-loop-part l = record {
  shown : All IsShownSpan l.spans.items;
  read : (keys : List ShownSpan) → AreShownKeys keys → keys_text keys ≡ l.text → IsReadTo keys l.spans.items l.rest;
}

abbrev pub decreases-loop-part : goal.decreases-loop-part
decreases-loop-part l = length l.rest
