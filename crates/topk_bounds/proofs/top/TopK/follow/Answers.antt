use Rattle.std.proofs.Common.{◌≡◌, List, Bool, length, sym, ap, subst, ◌∙◌}
use Rattle.known_column.specs.Columns.{rows_of_column}
use Rattle.topk_bounds.specs.Searches.{IsKept, IsSearch}
use Rattle.topk_bounds.specs.Standings.{AreApart, Kept}
use Rattle.topk_bounds.proofs.Judging.{apart_length, apart_rest, stands_length}
use Rattle.topk_bounds.proofs.Searching.{standings_told, sure_rows}
use Rattle.topk_bounds.proofs.top.TopK.follow.Goals as goal

pub find-requires-clause-room : goal.find-requires-clause-room
find-requires-clause-room c =
    let rows : length c.self.inside.certain ≡ rows_of_column c.args.key.now =
    sym (c.requires.key ∙ ap (λ (k : Kept). length k.standings) (sym c.self.view_is) ∙ stands_length c.self.inside.certain c.self.inside.possible c.self.invariant.3) in
    apart_length c.self.inside.certain c.self.inside.possible c.self.invariant.3 ∙ rows

pub find-requires-clause-searched : goal.find-requires-clause-searched
find-requires-clause-searched c =
    let are = c.requires.searching in
    let must = c.follow.ensures.searched are.must are.may c.self.inside.limit are.may_rows
    (subst (λ (k : Kept). IsSearch k.down c.args.key.now are.must are.may k.limit k.must) (sym c.self.view_is) are.must_searches) in
    record { down = c.self.inside.down; counted = are.must; among = are.may; limit = c.self.inside.limit; rows = are.may_rows; searched = must }

pub find-requires-2-clause-searched : goal.find-requires-2-clause-searched
find-requires-2-clause-searched c =
    let are = c.requires.searching in
    let may = c.follow-2.ensures.searched are.may are.must c.self.inside.limit are.must_rows
    (subst (λ (k : Kept). IsSearch k.down c.args.key.now are.may are.must k.limit k.may) (sym c.self.view_is) are.may_searches) in
    record { down = c.self.inside.down; counted = are.may; among = are.must; limit = c.self.inside.limit; rows = are.must_rows; searched = may }

pub and_not_into-requires : goal.and_not_into-requires
and_not_into-requires c =
    sure_rows c.find.new.found c.find-2.new.found c.and_into.new.self (rows_of_column c.args.key.now) c.find.ensures.rows c.find-2.ensures.rows c.and_into.ensures ∙ sym c.find.ensures.rows

pub invariant_of-self : goal.invariant_of-self
invariant_of-self c =
    let sure : length c.and_into.new.self ≡ rows_of_column c.args.key.now = sure_rows c.find.new.found c.find-2.new.found c.and_into.new.self (rows_of_column c.args.key.now) c.find.ensures.rows c.find-2.ensures.rows c.and_into.ensures in (
      c.self.invariant.0,
      subst (λ n. IsKept n c.follow.new.self) (sym sure) c.follow.ensures.kept,
      subst (λ n. IsKept n c.follow-2.new.self) (sym sure) c.follow-2.ensures.kept,
      subst (λ (l : List Bool). AreApart c.and_into.new.self l) (sym c.and_not_into.ensures) (apart_rest c.and_into.new.self c.find.new.found (sure ∙ sym c.find.ensures.rows)),
    )

pub returns-clause-judged : goal.returns-clause-judged
returns-clause-judged c are =
    let inside = c.self.inside in
    let must = c.follow.ensures.searched are.must are.may c.self.inside.limit are.may_rows
    (subst (λ (k : Kept). IsSearch k.down c.args.key.now are.must are.may k.limit k.must) (sym c.self.view_is) are.must_searches) in
    let may = c.follow-2.ensures.searched are.may are.must c.self.inside.limit are.must_rows
    (subst (λ (k : Kept). IsSearch k.down c.args.key.now are.may are.must k.limit k.may) (sym c.self.view_is) are.may_searches) in
    record {
      standings = standings_told c.args.key.now are.must are.may inside.down inside.limit c.find.new.found c.find-2.new.found c.and_into.new.self c.and_not_into.new.self c.find.ensures.rows c.find-2.ensures.rows
          c.and_into.ensures c.and_not_into.ensures
          (c.find.ensures.found inside.down are.must are.may inside.limit are.may_rows are.must_rows must tt)
          (c.find-2.ensures.found inside.down are.may are.must inside.limit are.must_rows are.may_rows may are.within);
      must_searched = must;
      may_searched = may;
    }
