use Rattle.std.proofs.Common.{◌≡◌, ◌∙◌, ◌+◌, ◌++◌, ◌∷◌, [], List, ℕ, ap, length, arith}
use Rattle.csv_load.proofs.PartFacts.{parts_more}
use Rattle.csv_load.proofs.fields.RecordFields.push_apart.Goals as goal

pub returns : goal.returns
returns c =
    let copies = c.self.inside.copies.items in
    let field = c.args.field.now in
    let from : c.len-from.result ≡ length copies = omega (arith, c.len-from.ensures, c.self.inside.copies.ok.0) in
    let end : c.len.result ≡ length copies + length field = omega (arith, c.len.ensures, c.in_ok-extend_from_slice.ensures.len, c.self.inside.copies.ok.0) in
    rw (c.push_reserved.ensures.items, c.in_ok-extend_from_slice.ensures.items, c.in_ok-reserve.ensures.items)
    (parts_more copies field c.len-from.result c.len.result c.self.inside.parts.items from end c.self.invariant ∙ ap (λ (fields : List (List ℕ)). fields ++ field ∷ []) c.self.view_is)
