use Rattle.std.proofs.Common.{◌≡◌, ◌+◌, ◌-◌, ◌*◌, ◌≤◌, ◌∙◌, ◌++◌, length, take, drop, length-drop, sym, ap, arith}
use Rattle.std.proofs.Math.Seq.{take-add}
use Rattle.std.proofs.lemmas.List.{length-take-le, take_all}
use Rattle.std.proofs.lemmas.Simd.{take_more_put_chunk}
use Rattle.plane_kernels.specs.Bytes.{bytes_of_rows}
use Rattle.plane_kernels.proofs.BytesLemmas.{length-bytes_of_rows}
use Rattle.tests_columns.proofs.kernel_bytes.load_pieces.Goals as goal

pub loop-first-preserved : goal.loop-first-preserved
loop-first-preserved c =
    let bytes = c.args.bytes.now in
    let old = bytes_of_rows c.loop-first.plane in
    let at = 8 * c.loop-first.first in
    let size = 8 * c.min-end.result - at in
    let piece = take size (drop at bytes) in
    let long = length-bytes_of_rows c.loop-first.plane in
    let within : at + size ≤ length bytes = omega arith in
    let few : length piece ≡ size = length-take-le size (drop at bytes) (omega (arith, length-drop at bytes, within)) in
    let end : at + size ≡ 8 * c.min-end.result = omega arith in
    let put = take_more_put_chunk at old piece (8 * c.min-end.result) (omega (arith, few, end)) (omega (arith, long, c.loop-first.invariant.rows, c.requires)) in
    record {
      within = omega arith;
      rows = c.in_ok-load_words.ensures.rows ∙ c.loop-first.invariant.rows;
      read = ap (take (8 * c.min-end.result)) c.in_ok-load_words.ensures.ok ∙ put ∙ ap (λ l. l ++ piece) c.loop-first.invariant.read
          ∙ sym (take-add at size bytes) ∙ ap (λ k. take k bytes) end;
    }

pub returns : goal.returns
returns c =
    let bytes = c.args.bytes.now in
    let all = bytes_of_rows c.loop-first.plane in
    let long = length-bytes_of_rows c.loop-first.plane in
    let end = 8 * c.loop-first.first in
    sym (take_all end all (omega (arith, long, c.loop-first.invariant.rows, c.requires))) ∙ c.loop-first.invariant.read ∙ take_all end bytes (omega arith)
