-- Four bytes, the ends and the number of texts, one behind the other.
use Rattle.std.proofs.Common.{◌≡◌, ◌++◌, OnOk, length, ap, ◌∙◌, subst}
use Rattle.std.specs.Int.{w32, to_le_bytes}
use Rattle.daq_table.specs.declared.head.Ends.{Ends}
use Rattle.plane_file.specs.Format.{first_bytes, signed_bytes}
use Rattle.plane_file.proofs.Appended.{three_appended}
use Rattle.plane_file.proofs.heads.push_numbers.Goals as goal

pub returns : goal.returns
returns c =
    let column = c.args.column.now in
    let old = c.args.bytes.now.items in
    let first : c.extend_from_slice.new.self.items ≡ old ++ first_bytes column =
    c.in_ok-extend_from_slice.ensures.items ∙ ap (λ b. old ++ b) c.first_bytes.ensures in
    let next : c.push_ends.new.bytes.items ≡ c.extend_from_slice.new.self.items ++ (signed_bytes column.base ++ signed_bytes column.top) =
    c.in_ok-push_ends.ensures ∙ ap (λ (e : Ends). c.extend_from_slice.new.self.items ++ (signed_bytes e.base ++ signed_bytes e.top)) c.ends.ensures.all in
    let last : OnOk c.push_count.result (c.push_count.new.bytes.items ≡ c.push_ends.new.bytes.items ++ to_le_bytes w32 (length column.names)) =
    subst (λ n. OnOk c.push_count.result (c.push_count.new.bytes.items ≡ c.push_ends.new.bytes.items ++ to_le_bytes w32 n)) (ap length c.as_slice.ensures) c.push_count.ensures in
    three_appended c.push_count.result _ _ _ _ (first_bytes column) (signed_bytes column.base) (signed_bytes column.top) _ first next last
