use Rattle.std.proofs.Common.{◌∙◌, ◌++◌, ◌∷◌, [], ℕ, List, Vec, Global, map, ap, subst, sym}
use Rattle.csv_load.specs.Numbered.{AreNumbered, Numbers, texts_at}
use Rattle.csv_load.proofs.NumberFacts.{numbered_more}
use Rattle.csv_load.proofs.texts.Texts.push.Goals as goal

pub invariant_of-self-2 : goal.invariant_of-self-2
invariant_of-self-2 c =
    let view = λ (k : Vec ℕ Global). k.items in
    let old = map view c.self.inside.kept.keys in
    let new = map view c.number_of.new.kept.keys in
    let has = subst (Numbers old new c.args.text.now) c.in-Some.is c.in_ok-number.ensures.ok in
    let more = numbered_more old new c.self.inside.numbers.items c.in-Some.number c.args.text.now c.self.invariant has in
    let pushed = c.push_reserved.ensures.items ∙ ap (λ (ns : List ℕ). ns ++ c.in-Some.number ∷ []) c.reserve.ensures.items in
    subst (λ (ns : List ℕ). AreNumbered new ns) (sym pushed) more.0

pub returns-clause-added : goal.returns-clause-added
returns-clause-added c =
    let view = λ (k : Vec ℕ Global). k.items in
    let old = map view c.self.inside.kept.keys in
    let new = map view c.number_of.new.kept.keys in
    let has = subst (Numbers old new c.args.text.now) c.in-Some.is c.in_ok-number.ensures.ok in
    let more = numbered_more old new c.self.inside.numbers.items c.in-Some.number c.args.text.now c.self.invariant has in
    let pushed = c.push_reserved.ensures.items ∙ ap (λ (ns : List ℕ). ns ++ c.in-Some.number ∷ []) c.reserve.ensures.items in
    λ _. ap (texts_at new) pushed ∙ more.1 ∙ ap (λ (ts : List (List ℕ)). ts ++ c.args.text.now ∷ []) c.self.view_is
