use Rattle.std.proofs.Common.{◌≡◌, length, sym, ap, subst, ◌∙◌, arith}
use Rattle.known_column.specs.Columns.{rows_of_column}
use Rattle.topk_bounds.specs.Searches.{IsKept}
use Rattle.topk_bounds.specs.Standings.{Kept}
use Rattle.topk_bounds.proofs.Judging.{stands_length}
use Rattle.topk_bounds.proofs.top.TopK.judge.Goals as goal

pub begin-requires-clause-kept : goal.begin-requires-clause-kept
begin-requires-clause-kept c =
    let rows : length c.self.inside.certain ≡ rows_of_column c.args.key.now =
    sym (c.requires.key ∙ ap (λ (k : Kept). length k.standings) (sym c.self.view_is) ∙ stands_length c.self.inside.certain c.self.inside.possible c.self.invariant.3) in
    subst (λ n. IsKept n c.self.inside.must) (rows ∙ c.requires.key ∙ sym c.requires.may) c.self.invariant.1

pub begin-requires-2-clause-kept : goal.begin-requires-2-clause-kept
begin-requires-2-clause-kept c =
    let rows : length c.self.inside.certain ≡ rows_of_column c.args.key.now =
    sym (c.requires.key ∙ ap (λ (k : Kept). length k.standings) (sym c.self.view_is) ∙ stands_length c.self.inside.certain c.self.inside.possible c.self.invariant.3) in
    subst (λ n. IsKept n c.self.inside.may) (rows ∙ c.requires.key ∙ sym c.requires.must) c.self.invariant.2

pub invariant_of-self : goal.invariant_of-self
invariant_of-self c =
    let rows : length c.self.inside.certain ≡ rows_of_column c.args.key.now =
    sym (c.requires.key ∙ ap (λ (k : Kept). length k.standings) (sym c.self.view_is) ∙ stands_length c.self.inside.certain c.self.inside.possible c.self.invariant.3) in (
      c.self.invariant.0,
      subst (λ n. IsKept n c.begin.new.self) (c.requires.may ∙ sym c.requires.key ∙ sym rows) c.begin.ensures.kept,
      subst (λ n. IsKept n c.begin-2.new.self) (c.requires.must ∙ sym c.requires.key ∙ sym rows) c.begin-2.ensures.kept,
      c.self.invariant.3,
    )

pub follow-requires-clause-searching : goal.follow-requires-clause-searching
follow-requires-clause-searching c =
    record {
      must = c.args.must.now;
      may = c.args.may.now;
      must_rows = c.requires.must ∙ sym c.requires.key;
      may_rows = c.requires.may ∙ sym c.requires.key;
      within = c.requires.within;
      must_read = omega (arith, c.begin.ensures.read);
      may_read = omega (arith, c.begin-2.ensures.read);
      must_searches = c.begin.ensures.searches c.self.inside.down c.args.key.now;
      may_searches = c.begin-2.ensures.searches c.self.inside.down c.args.key.now;
    }

pub returns-clause-judged : goal.returns-clause-judged
returns-clause-judged c = c.follow.ensures.judged (
    record {
      must = c.args.must.now;
      may = c.args.may.now;
      must_rows = c.requires.must ∙ sym c.requires.key;
      may_rows = c.requires.may ∙ sym c.requires.key;
      within = c.requires.within;
      must_read = omega (arith, c.begin.ensures.read);
      may_read = omega (arith, c.begin-2.ensures.read);
      must_searches = c.begin.ensures.searches c.self.inside.down c.args.key.now;
      may_searches = c.begin-2.ensures.searches c.self.inside.down c.args.key.now;
    })
