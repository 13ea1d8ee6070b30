use Rattle.std.proofs.Common.{List, sym, subst}
use Rattle.report_parts.proofs.Ordered.{none_in_order}
use Rattle.report_parts.specs.Tags.{AreInOrder}
use Rattle.report_parts.specs.Told.{Told}
use Rattle.report_parts.proofs.parts.Parts.new.Goals as goal

pub invariant_of-result : goal.invariant_of-result
invariant_of-result c = subst (λ (parts : List Told). AreInOrder parts) (sym c.new.ensures.items) none_in_order
