use Rattle.std.proofs.Common.{◌≡◌, ◌∙◌, ℕ, ◌+◌, ◌<◌, IsUtf8, List, [], ◌∷◌, ◌++◌, ap, get_or, length, map, subst, sym, take}
use Rattle.std.proofs.lemmas.List.{map-append, take_more}
use Rattle.std.specs.Prelude.{string_bytes}
use Rattle.sql_print.specs.Printed.{printed}
use Rattle.sql_text.specs.Tree.{query_of}
use Rattle.daq_cli.specs.ScriptValues.{scripted_of}
use Rattle.daq_cli.specs.Scripts as spec
use Rattle.daq_cli.specs.commands.Session.{printed_forms}
use Rattle.daq_cli.specs.declared.scripts.Scripted.{Scripted}
use Rattle.daq_cli.proofs.together.print_each.Goals as goal

-- the forms of one more
forms_more : {X Y Z : Type 0} (text : Y → List ℕ) (of : X → Z) (form : Z → List ℕ) (xs : List X) (ys : List Y) (i : ℕ) (x : X) (y : Y) → i < length xs → get_or xs i x ≡ x →
    map text ys ≡ map form (map of (take i xs)) → text y ≡ form (of x) → map text (ys ++ y ∷ []) ≡ map form (map of (take (i + 1) xs))
forms_more text of form xs ys i x y there is before same =
    map-append text ys (y ∷ []) ∙ ap (λ l. l ++ text y ∷ []) before ∙ ap (λ t. map form (map of (take i xs)) ++ t ∷ []) same ∙ sym (map-append form (map of (take i xs)) (of x ∷ []))
    ∙ sym (ap (map form) (map-append of (take i xs) (x ∷ []))) ∙ sym (ap (λ l. map form (map of l)) (take_more xs i x there ∙ ap (λ z. take i xs ++ z ∷ []) is))

pub loop-one-preserved : goal.loop-one-preserved
loop-one-preserved c =
    let queries = c.args.queries.now in
    let i = c.loop-one.one-index in
    let one = c.one-item.result in
    let text = c.requires.printable i one c.loop-one-test.true in
    let utf8 = subst (λ (o : Scripted). IsUtf8 (printed (query_of o.tree))) (sym c.one-item.is) text in
    subst (λ l. map string_bytes l ≡ printed_forms (map scripted_of (take (i + 1) queries))) (sym c.in_ok-push.ensures.items)
    (forms_more string_bytes scripted_of (λ (o : spec.Scripted). printed o.query) queries c.loop-one.sqls.items i one c.in_ok-print.field-0 c.loop-one-test.true (sym c.one-item.is)
    c.loop-one.invariant (c.in_ok-print.ensures.text utf8))
