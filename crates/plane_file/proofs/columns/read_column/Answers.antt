use Rattle.std.proofs.Common.{◌≡◌, ◌+◌, ℤ, sym, ap, ◌∙◌, arith}
use Rattle.std.specs.Int.{w64, cast_signed, cast_unsigned}
use Rattle.plane_file.proofs.FrontBytes.{signed_back}
use Rattle.plane_file.specs.Bytes.{AreBytes}
use Rattle.plane_file.proofs.ColumnFacts.{is_column}
use Rattle.plane_file.proofs.FieldFacts.{has_fields, name_is}
use Rattle.plane_file.specs.Checks.{count_at, dictionary_at, part_at, title_at, titles_of}
use Rattle.plane_file.specs.Fronts.{AreNames}
use Rattle.plane_file.proofs.columns.read_column.Goals as goal

pub read_names-requires-clause-place : goal.read_names-requires-clause-place
read_names-requires-clause-place c =
    let fields = has_fields c.args.bytes.now (titles_of c.args.columns.now) c.args.at (sym c.in_default.ensures) in
    omega (arith, fields.within, c.byte_at-length.ensures)

pub new-requires : goal.new-requires
new-requires c =
    let bytes = c.args.bytes.now in
    let at = c.args.at in
    let fields = has_fields bytes (titles_of c.args.columns.now) at (sym c.in_default.ensures) in
    let title : c.in_ok-title.title.items ≡ title_at bytes at = c.in_ok-title.ensures.items ∙ c.part_at.ensures ∙ ap (part_at bytes (at + 24)) c.byte_at-length.ensures in
    rw title (name_is (title_at bytes at) fields.title)

pub invariant_of-column : goal.invariant_of-column
invariant_of-column c =
    let bytes = c.args.bytes.now in
    let at = c.args.at in
    let fields = has_fields bytes (titles_of c.args.columns.now) at (sym c.in_default.ensures) in
    let title : c.new.result ≡ title_at bytes at = c.new.ensures ∙ c.in_ok-title.ensures.items ∙ c.part_at.ensures ∙ ap (part_at bytes (at + 24)) c.byte_at-length.ensures in
    let read : AreNames (count_at bytes at) bytes (dictionary_at bytes at) c.in_ok-names.names c.in_ok-names.end = rw (← c.number32_at-count.ensures, ← c.byte_at-length.ensures) c.in_ok-names.ensures.ok in
    let fits : AreBytes bytes = λ i. omega (arith, c.type_inv.bytes i) in
    let base = ap (λ (z : ℤ). cast_signed w64 (cast_unsigned w64 z)) c.signed_at.ensures ∙ signed_back bytes (at + 4) fits in
    let top = ap (λ (z : ℤ). cast_signed w64 (cast_unsigned w64 z)) c.signed_at-2.ensures ∙ signed_back bytes (at + 12) fits in
    record { is_column = is_column bytes (titles_of c.args.columns.now) at _ _ _ _ _ fields read.passed title c.kind_at.ensures base top read.names_are }
