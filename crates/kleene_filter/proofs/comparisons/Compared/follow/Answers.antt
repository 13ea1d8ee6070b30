use Rattle.std.proofs.Common.{◌≡◌, sym, subst, rules, to_z, of_z}
use Rattle.std.proofs.lemmas.Int.{to_z-of_z}
use Rattle.std.specs.Int.{w128}
use Rattle.known_column.specs.KnownTables.{column_at}
use Rattle.kleene_filter.specs.Parted.{Had, HasSides, ReadFurther}
use Rattle.kleene_filter.proofs.Tracking.{same_column}
use Rattle.kleene_filter.proofs.comparisons.Compared.follow.Goals as goal

pub follow-requires : goal.follow-requires
follow-requires c =
    let own = c.args.self.now in
    let was = c.requires.compared in
    let fits : to_z w128 (of_z w128 own.value) ≡ own.value = to_z-of_z w128 own.value (search rules) in
    let had : Had (λ before. HasSides before own.op own.value own.sides) c.column-known.result.now c.args.plane.now = record {
      before = column_at was.before c.args.column;
      had = subst (λ k. HasSides (column_at was.before k) own.op own.value own.sides) c.if-self-column.false was.was;
      further = subst (ReadFurther (column_at was.before c.args.column) c.args.plane.now) (sym c.column-known.ensures.column) (same_column was.before c.args.columns.now c.args.column c.args.plane.now was.read);
    } in
    subst (λ n. Had (λ before. HasSides before own.op n own.sides) c.column-known.result.now c.args.plane.now) (sym fits) had
