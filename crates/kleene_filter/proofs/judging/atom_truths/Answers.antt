use Rattle.std.proofs.Common.{◌*◌, ◌+◌, sym, subst, arith}
use Rattle.query_model.specs.declared.query.Atom.{Atom}
use Rattle.query_model.specs.Knowledge.{ranges_of}
use Rattle.query_model.specs.Truths.{truths_of_atom, truths_of_null}
use Rattle.known_column.specs.Columns.{KnownColumn, range_at}
use Rattle.kleene_filter.specs.declared.masks.AtomMasks.{AtomMasks}
use Rattle.kleene_filter.specs.Blocks.{HasTruths}
use Rattle.kleene_filter.specs.Masks.{Follows}
use Rattle.kleene_filter.proofs.judging.atom_truths.Goals as goal

pub returns-in-ByRows : goal.returns-in-ByRows
returns-in-ByRows g c = λ row from below.
    subst (λ ranges. HasTruths row (truths_of_atom c.args.atom.now ranges) c.truths_by_rows.result) (c.requires.rows.ranges row from below) (c.truths_by_rows.ensures row from below)

pub returns-in-Null : goal.returns-in-Null
returns-in-Null g c = λ row from below.
    let table = c.args.columns.now in
    let at = 512 * c.args.place.block + row in
    let here = c.requires.rows.here in
    let few = c.requires.rows.few in
    let follows = subst (λ (m : AtomMasks). Follows m c.args.atom.now table) c.in-Null.is c.requires.follows in
    subst (λ (a : Atom). HasTruths row (truths_of_atom a (ranges_of table.frame table.known at)) c.null_truths.result) (sym follows)
    (subst (λ (k : KnownColumn). HasTruths row (truths_of_null (range_at k at)) c.null_truths.result) c.column.ensures.column
    (c.null_truths.ensures row (omega arith) (omega (arith, here, few, below, c.column.ensures.rows))))

pub returns-in-Compared : goal.returns-in-Compared
returns-in-Compared g c = λ row from below.
    let table = c.args.columns.now in
    let here = c.requires.rows.here in
    let few = c.requires.rows.few in
    let follows = subst (λ (m : AtomMasks). Follows m c.args.atom.now table) c.in-Compared.is c.requires.follows in
    subst (λ (a : Atom). HasTruths row (truths_of_atom a (ranges_of table.frame table.known (512 * c.args.place.block + row))) c.truths.result) (sym follows.0) (c.truths.ensures row (omega arith) (omega (arith, here, few, below)))

pub returns-in-Ranged : goal.returns-in-Ranged
returns-in-Ranged g c = λ row from below.
    let table = c.args.columns.now in
    let here = c.requires.rows.here in
    let few = c.requires.rows.few in
    let follows = subst (λ (m : AtomMasks). Follows m c.args.atom.now table) c.in-Ranged.is c.requires.follows in
    subst (λ (a : Atom). HasTruths row (truths_of_atom a (ranges_of table.frame table.known (512 * c.args.place.block + row))) c.truths-in-Ranged.result) (sym follows.0) (c.truths-in-Ranged.ensures row (omega arith) (omega (arith, here, few, below)))

pub returns-in-Member : goal.returns-in-Member
returns-in-Member g c = λ row from below.
    let table = c.args.columns.now in
    let here = c.requires.rows.here in
    let few = c.requires.rows.few in
    let follows = subst (λ (m : AtomMasks). Follows m c.args.atom.now table) c.in-Member.is c.requires.follows in
    subst (λ (a : Atom). HasTruths row (truths_of_atom a (ranges_of table.frame table.known (512 * c.args.place.block + row))) c.truths-in-Member.result) (sym follows.0) (c.truths-in-Member.ensures row (omega arith) (omega (arith, here, few, below)))
