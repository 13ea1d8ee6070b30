use Rattle.std.proofs.Common.{◌≡◌, ℕ, zero, suc, ◌&&◌, Bool, true, List, [], ◌∷◌, length, sym, ap, ◌∙◌}
use Rattle.std.specs.Simd.Lanes.{zip2}
use Rattle.std.proofs.lemmas.Bool.{and_parts, false≢true}
use Rattle.std.proofs.lemmas.Simd.{length-zip2}
use Rattle.std.proofs.lemmas.List.FromFn.{length-map-range_with_len}
use Rattle.known_column.specs.Columns.{rows_of_column}
use Rattle.topk_bounds.specs.Standings.{Judged, is_in, standing_by}
use Rattle.tests_columns.proofs.firsts.judge.Goals as goal

within_both : (xs ys : List Bool) (r : ℕ) → is_in (zip2 (λ a b. a && b) xs ys) r ≡ true → is_in ys r ≡ true
within_both [] ys r t = absurd (false≢true t)
within_both (x ∷ xs) [] r t = absurd (false≢true t)
within_both (x ∷ xs) (y ∷ ys) zero t = (and_parts x y t).1
within_both (x ∷ xs) (y ∷ ys) (suc r) t = within_both xs ys r t

pub judge-requires-clause-must : goal.judge-requires-clause-must
judge-requires-clause-must c = ap length c.and_into.ensures ∙ length-zip2 (λ a b. a && b) c.args.must.now c.args.may.now (c.requires.must ∙ sym c.requires.may) ∙ c.requires.must

pub judge-requires-clause-within : goal.judge-requires-clause-within
judge-requires-clause-within c r t = within_both c.args.must.now c.args.may.now r (ap (λ l. is_in l r) (sym c.and_into.ensures) ∙ t)

pub returns : goal.returns
returns c =
    let new = c.judge.new.self in
    let judged : Judged = record { limit = new.limit; down = new.down; must = c.and_into.new.self; may = c.args.may.now; key = c.args.key.now } in
    ap length c.judge.ensures.judged.standings ∙ length-map-range_with_len (standing_by judged) 0 (rows_of_column c.args.key.now) ∙ c.requires.key
