use Rattle.std.proofs.Common.{◌≡◌, ◌||◌, false, List, Bool, length, get_or, inl, inr, refl, rules, sym, ap, subst, ◌∙◌, arith}
use Rattle.std.proofs.lemmas.Simd.{length-zip2}
use Rattle.kleene_filter.specs.declared.parted.Sides.{Sides}
use Rattle.kleene_filter.specs.declared.parted.Sides.TheVariants as sides
use Rattle.kleene_filter.specs.Parted.{is_level, HasSides}
use Rattle.kleene_filter.specs.Unions.{MayFail}
use Rattle.kleene_filter.proofs.Parting.{beyond_ends, length_where}
use Rattle.kleene_filter.proofs.AddedRows.{adds_equal, in_either, or_none}
use Rattle.kleene_filter.proofs.parted.Sides.add_rows.Goals as goal

pub returns-in-Parted : goal.returns-in-Parted
returns-in-Parted c =
    let column = c.args.column.now in
    let op = c.args.op in
    let value = c.args.value in
    let old = c.args.rows.now in
    let own = sides.Parted c.in-Parted.parted in
    let has = subst (λ (s : Sides). HasSides column op value s) c.in-Parted.is c.requires.sides in
    let may = subst (λ (s : Sides). MayFail column op s) c.in-Parted.is c.requires.adds in
    let long : length c.mask.result.now ≡ length old = ap length c.mask.ensures ∙ length_where (is_level value) column c.in-Parted.parted.equal has.equal ∙ sym c.requires.rows in
    adds_equal column op value own old c.or_into.new.self has c.requires.known may
    (ap length c.or_into.ensures ∙ length-zip2 (λ a b. a || b) old c.mask.result.now (sym long))
    (λ row below. ap (λ (l : List Bool). get_or l row false) c.or_into.ensures ∙ in_either old c.mask.result.now row long (omega (arith, below, c.requires.rows))
    ∙ ap (λ (l : List Bool). get_or old row false || get_or l row false) c.mask.ensures)

pub returns : goal.returns
returns c =
    let old = c.args.rows.now in
    adds_equal c.args.column.now c.args.op c.args.value c.args.self.now old old c.requires.sides c.requires.known c.requires.adds refl
    (λ row below. or_none _ ∙ ap (λ b. get_or old row false || b) (sym (beyond_ends c.args.self.now row (inl (search rules))).0))

pub returns-2 : goal.returns-2
returns-2 c =
    let old = c.args.rows.now in
    adds_equal c.args.column.now c.args.op c.args.value c.args.self.now old old c.requires.sides c.requires.known c.requires.adds refl
    (λ row below. or_none _ ∙ ap (λ b. get_or old row false || b) (sym (beyond_ends c.args.self.now row (inr (search rules))).0))
