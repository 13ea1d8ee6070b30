use Rattle.std.proofs.Common.{◌≡◌, suc, ◌+◌, ◌-◌, ◌*◌, ◌≤◌, Bool, true, false, cond, refl, subst, sym, ap, ◌∙◌, arith}
use Rattle.std.proofs.lemmas.Bool.{false≢true}
use Rattle.aggregates.specs.ExtremeRows.{is_ahead, AreBlockRows}
use Rattle.aggregates.proofs.BlockWords.{AreLeading, block_behind, block_is, empty_block, leading_first, leading_further, leading_last, not_ahead_first}
use Rattle.aggregates.proofs.EndSums.{Counts}
use Rattle.aggregates.proofs.NumberRows.{first_plane}
use Rattle.aggregates.proofs.extreme_rows.extreme_in_block.Goals as goal
use mir.Val.{bool_byte}

as_number : (b : Bool) → bool_byte b ≡ cond b 1 0
as_number true = refl
as_number false = refl

pub returns-then-is_empty-clause-behind : goal.returns-then-is_empty-clause-behind
returns-then-is_empty-clause-behind c = λ none r from below has.
    let mask = c.args.mask.now in
    let words = c.block-candidates.result in
    let rows : AreBlockRows mask c.args.block words = block_is mask c.args.block words c.block-candidates.ensures.rows c.block-candidates.ensures.padded (omega arith) (omega (arith, c.requires.rows, c.requires.block)) in
    absurd (false≢true (sym (empty_block mask c.args.block words rows (c.is_empty.ensures.0 c.if-is_empty.true) r from below) ∙ has))

pub loop-j-init : goal.loop-j-init
loop-j-init c =
    let column = c.args.known.now in
    let mask = c.args.mask.now in
    let words = c.block-candidates.result in
    let k = column.known.read - c.number_planes-from.result.0 in
    let counts : Counts column mask = record { sound = c.number_planes-from.ensures.sound; rows = c.requires.rows; values = c.requires.values } in
    let rows : AreBlockRows mask c.args.block words = block_is mask c.args.block words c.block-candidates.ensures.rows c.block-candidates.ensures.padded (omega arith) (omega (arith, c.requires.rows, c.requires.block)) in
    let first : k ≡ column.known.read - first_plane column.ends column.known.read = omega (arith, c.number_planes-from.ensures.from) in (
      leading_first c.args.extreme column mask c.args.block k words counts first rows (λ none. false≢true (sym c.if-is_empty.false ∙ c.is_empty.ensures.1 none)) (c.number_planes-from.result.0 - first_plane column.ends column.known.read),
      not_ahead_first c.args.extreme column mask c.requires.best.0 k c.args.best counts first c.requires.best.1,
    )

pub loop-j-preserved : goal.loop-j-preserved
loop-j-preserved c =
    let column = c.args.known.now in
    let mask = c.args.mask.now in
    let read = column.known.read in
    let j = c.loop-j.j in
    let digit = c.narrow-digit.result.1 in
    let first = first_plane column.ends read in
    let counts : Counts column mask = record { sound = c.number_planes-from.ensures.sound; rows = c.requires.rows; values = c.requires.values } in
    let from : first_plane column.ends column.known.read ≤ j = omega (arith, c.loop-j.auto.j, c.number_planes-from.ensures.from) in
    let more : j + 1 - first ≡ suc (j - first) = omega (arith, from) in
    let left : c.number_planes-from.result.1 - j - 1 ≡ read - (j + 1) = omega (arith, c.number_planes-from.ensures.to) in
    let lead = leading_further c.args.extreme column mask c.plane.result.now c.args.block j c.block-digits.result c.loop-j.candidates c.narrow-digit.result.0 c.loop-j.number (j - first) digit counts from
    (omega (arith, c.loop-j-test.true, c.number_planes-from.ensures.to)) c.plane.ensures c.block-digits.ensures.rows (omega arith) c.loop-j.invariant.0 c.narrow-digit.ensures in (
      subst (λ n. AreLeading c.args.extreme column mask c.args.block (read - (j + 1)) (j + 1 - first) c.narrow-digit.result.0 (2 * c.loop-j.number + n)) (sym (c.from.ensures ∙ as_number digit))
          (subst (λ digits. AreLeading c.args.extreme column mask c.args.block (read - (j + 1)) digits c.narrow-digit.result.0 (2 * c.loop-j.number + cond digit 1 0)) (sym more) lead),
      subst (λ k. is_ahead c.args.extreme c.args.best (2 * c.loop-j.number + c.from.result) k ≡ false) left (sym c.is_ahead.ensures ∙ c.if-is_ahead.false),
    )

pub returns-then-is_ahead-clause-behind : goal.returns-then-is_ahead-clause-behind
returns-then-is_ahead-clause-behind c = λ none.
    let column = c.args.known.now in
    let mask = c.args.mask.now in
    let read = column.known.read in
    let j = c.loop-j.j in
    let digit = c.narrow-digit.result.1 in
    let first = first_plane column.ends read in
    let counts : Counts column mask = record { sound = c.number_planes-from.ensures.sound; rows = c.requires.rows; values = c.requires.values } in
    let from : first_plane column.ends column.known.read ≤ j = omega (arith, c.loop-j.auto.j, c.number_planes-from.ensures.from) in
    let left : c.number_planes-from.result.1 - j - 1 ≡ read - (j + 1) = omega (arith, c.number_planes-from.ensures.to) in
    let lead = leading_further c.args.extreme column mask c.plane.result.now c.args.block j c.block-digits.result c.loop-j.candidates c.narrow-digit.result.0 c.loop-j.number (j - first) digit counts from
    (omega (arith, c.loop-j-test.true, c.number_planes-from.ensures.to)) c.plane.ensures c.block-digits.ensures.rows (omega arith) c.loop-j.invariant.0 c.narrow-digit.ensures in
    let same : 2 * c.loop-j.number + c.from.result ≡ 2 * c.loop-j.number + cond digit 1 0 = ap (λ n. 2 * c.loop-j.number + n) (c.from.ensures ∙ as_number digit) in
    let ahead : is_ahead c.args.extreme c.args.best (2 * c.loop-j.number + c.from.result) (read - (j + 1)) ≡ true =
    subst (λ k. is_ahead c.args.extreme c.args.best (2 * c.loop-j.number + c.from.result) k ≡ true) left (sym c.is_ahead.ensures ∙ c.if-is_ahead.true) in
    block_behind c.args.extreme column mask c.args.block (read - (j + 1)) (suc (j - first)) c.narrow-digit.result.0 (2 * c.loop-j.number + cond digit 1 0) c.args.best lead
    (subst (λ n. is_ahead c.args.extreme c.args.best n (read - (j + 1)) ≡ true) same ahead)

pub returns-clause-found : goal.returns-clause-found
returns-clause-found c =
    let column = c.args.known.now in
    leading_last c.args.extreme column c.args.mask.now c.args.block (column.known.read - c.loop-j.j) (c.loop-j.j - first_plane column.ends column.known.read) c.loop-j.candidates c.loop-j.number c.first_place.result
    (omega (arith, c.loop-j.auto, c.loop-j-test.false, c.number_planes-from.ensures.to)) c.loop-j.invariant.0 c.first_place.ensures.within c.first_place.ensures.set
