-- The plane is one of a column of the member's own, if it awaits it.
use Rattle.std.proofs.Common.{◌+◌, refl, sym, ap, ◌∙◌, subst, arith, slice_index}
use Rattle.std.proofs.lemmas.List.{get_or_read}
use Rattle.std.specs.Vec.{with_item}
use Rattle.known_column.specs.KnownTables.{lent_table}
use Rattle.multi_session.specs.declared.member.Member.{Member}
use Rattle.multi_session.specs.Members.{WasHanded}
use Rattle.multi_session.proofs.Following.{few_counted, is_abreast, is_handed, is_passed, may_refresh}
use Rattle.multi_session.proofs.member.Member.follow.Goals as goal

pub returns-in_default : goal.returns-in_default
returns-in_default c =
    let places = c.args.columns.now.places.items in
    let there = get_or_read places c.args.column c.index.result.now c.requires.column c.index.ensures 0 in
    is_passed c.args.near c.args.step c.args.column places c.args.plane.now c.args.columns.now.known c.args.self.now c.requires.behind c.index.result.now there
    c.awaited.result c.awaited.ensures c.in_default.is

pub refresh-requires : goal.refresh-requires
refresh-requires c =
    let places = c.args.columns.now.places.items in
    let table = c.args.columns.now.known in
    let there = get_or_read places c.args.column c.index.result.now c.requires.column c.index.ensures 0 in
    record {
      before = may_refresh c.args.near c.args.step c.args.column places c.args.plane.now table c.args.self.now c.requires.behind c.index.result.now there
          c.awaited.result c.awaited.ensures c.in-Some.own c.in-Some.is c.lend_some.result (c.lend_some.ensures ∙ ap (lent_table table) c.deref.ensures.value);
    }

pub overflow_add-index_mut : goal.overflow_add-index_mut
overflow_add-index_mut c =
    let places = c.args.columns.now.places.items in
    let there = get_or_read places c.args.column c.index.result.now c.requires.column c.index.ensures 0 in
    let few = few_counted c.args.near c.args.step c.args.column places c.args.plane.now c.args.columns.now.known c.args.self.now c.requires.behind c.index.result.now there
    c.awaited.result c.awaited.ensures c.in-Some.own c.in-Some.is c.index_mut.result.now c.index_mut.ensures.value in
    omega (arith, few)

pub judge-requires-clause-abreast : goal.judge-requires-clause-abreast
judge-requires-clause-abreast c =
    let places = c.args.columns.now.places.items in
    let table = c.args.columns.now.known in
    let there = get_or_read places c.args.column c.index.result.now c.requires.column c.index.ensures 0 in
    let next : Member = record {
      follower = c.refresh.new.self;
      numbers = c.args.self.now.numbers;
      counts = with_item c.args.self.now.counts c.in-Some.own (c.index_mut.result.now + 1);
      finished = c.args.self.now.finished;
      moved = c.args.step;
    } in
    is_abreast c.args.near c.args.step c.args.column places c.args.plane.now table c.args.self.now c.requires.behind c.index.result.now there
    c.awaited.result c.awaited.ensures c.in-Some.own c.in-Some.is next c.index_mut.result.now refl c.index_mut.ensures.value refl c.refresh.ensures.query
    c.lend_some.result (c.lend_some.ensures ∙ ap (lent_table table) c.deref.ensures.value) c.refresh.ensures.follows

pub returns : goal.returns
returns c =
    let places = c.args.columns.now.places.items in
    let table = c.args.columns.now.known in
    let there = get_or_read places c.args.column c.index.result.now c.requires.column c.index.ensures 0 in
    let next : Member = record {
      follower = c.refresh.new.self;
      numbers = c.args.self.now.numbers;
      counts = with_item c.args.self.now.counts c.in-Some.own (c.index_mut.result.now + 1);
      finished = c.args.self.now.finished;
      moved = c.args.step;
    } in
    subst (WasHanded c.args.near c.args.step (slice_index places c.args.column) places c.args.plane.now table c.args.self.now) (sym c.judge.ensures.judged)
    (is_handed c.args.near c.args.step c.args.column places c.args.plane.now table c.args.self.now c.requires.behind c.index.result.now there
    c.awaited.result c.awaited.ensures c.in-Some.own c.in-Some.is next c.index_mut.result.now refl c.index_mut.ensures.value refl c.refresh.ensures.query
    c.lend_some.result (c.lend_some.ensures ∙ ap (lent_table table) c.deref.ensures.value) c.refresh.ensures.follows refl c.judge.ensures.open_stage)
