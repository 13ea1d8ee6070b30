use Rattle.std.proofs.Common.{sym, subst}
use Rattle.known_column.specs.KnownTables.{column_at}
use Rattle.kleene_filter.specs.Members.{HasLevels}
use Rattle.kleene_filter.specs.Parted.{ReadFurther}
use Rattle.kleene_filter.proofs.Tracking.{same_column}
use Rattle.kleene_filter.proofs.members.Membership.follow.Goals as goal

pub follow_levels-requires : goal.follow_levels-requires
follow_levels-requires c =
    let own = c.args.self.now in
    let was = c.requires.levels in
    let before = column_at was.before c.args.column in
    let stood : HasLevels before own.values own.levels.items = subst (λ k. HasLevels (column_at was.before k) own.values own.levels.items) c.if-self-column.false was.was in
    record {
      before = before;
      had = subst (λ l. HasLevels before l own.levels.items) (sym c.as_slice.ensures) stood;
      further = subst (ReadFurther before c.args.plane.now) (sym c.column-known.ensures.column) (same_column was.before c.args.columns.now c.args.column c.args.plane.now was.read);
    }
