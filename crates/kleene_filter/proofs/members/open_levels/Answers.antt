use Rattle.std.proofs.Common.{◌≡◌, ◌+◌, ◌++◌, ◌∷◌, [], false, List, Vec, Global, pos, get_or, ap, sym, subst, ◌∙◌, rules, to_z, of_z}
use Rattle.std.specs.List.{All}
use Rattle.std.specs.Int.{w128}
use Rattle.std.proofs.lemmas.Bool.{false≢true}
use Rattle.std.proofs.lemmas.Int.{to_z-of_z}
use Rattle.std.proofs.lemmas.List.{take_all}
use Rattle.std.proofs.lemmas.List.Elements.{All-nil, All-push}
use Rattle.query_model.specs.Meaning.{among, between}
use Rattle.kleene_filter.specs.declared.members.Level.{Level}
use Rattle.kleene_filter.specs.Members.{IsLevel}
use Rattle.kleene_filter.proofs.MemberTruths.{level_added, level_passed, HasUpTo}
use Rattle.kleene_filter.proofs.members.open_levels.Goals.{then-lies_within+in_ok-open+in_ok-push, else-lies_within}
use Rattle.kleene_filter.proofs.members.open_levels.Goals as goal

pub loop-number-init : goal.loop-number-init
loop-number-init c = record {
  each = subst (λ (l : List Level). All (IsLevel c.args.column.now c.args.values.now) l) (sym c.new-levels.ensures.items) (All-nil (IsLevel c.args.column.now c.args.values.now));
  has = λ number listed inside. absurd (false≢true listed);
}

pub loop-number-preserved : goal.loop-number-preserved
loop-number-preserved c =
    let column = c.args.column.now in
    let values = c.args.values.now in
    let old = c.loop-number.levels.items in
    let new = c.if-lies_within.levels.items in
    let i = c.loop-number.number-index in
    let number = get_or values i (pos 0) in
    let fits : to_z w128 (of_z w128 number) ≡ number = to_z-of_z w128 number (search rules) in
    elim c.if-lies_within.branch [
      | then-lies_within+in_ok-open+in_ok-push w ↦
          (let level = w.in_ok-open.field-0 in
          let added : new ≡ old ++ level ∷ [] = ap (λ (v : Vec Level Global). v.items) w.levels-is ∙ w.in_ok-push.ensures.items in
          record {
            each = subst (λ (l : List Level). All (IsLevel column values) l) (sym added) (All-push (IsLevel column values) old level c.loop-number.invariant.each w.in_ok-open.ensures.level);
            has = subst (λ (l : List Level). HasUpTo column values (i + 1) l) (sym added)
                (level_added column values i old level (pos 0) c.loop-number-test.true (w.in_ok-open.ensures.number ∙ fits) c.loop-number.invariant.has);
          })
      | else-lies_within w ↦
          (let same : new ≡ old = ap (λ (v : Vec Level Global). v.items) w.levels-is in
          let past : between column.ends.base column.ends.top number ≡ false = ap (between column.ends.base column.ends.top) (sym fits) ∙ sym c.lies_within.ensures ∙ w.if-lies_within.false in
          record {
            each = subst (λ (l : List Level). All (IsLevel column values) l) (sym same) c.loop-number.invariant.each;
            has = subst (λ (l : List Level). HasUpTo column values (i + 1) l) (sym same) (level_passed column values i old (pos 0) c.loop-number-test.true past c.loop-number.invariant.has);
          })
    ]

pub returns : goal.returns
returns c = record {
  each = c.loop-number.invariant.each;
  has = λ number listed inside. c.loop-number.invariant.has number (ap (λ l. among l number) (take_all c.loop-number.number-index c.args.values.now c.loop-number-test.false) ∙ listed) inside;
}
