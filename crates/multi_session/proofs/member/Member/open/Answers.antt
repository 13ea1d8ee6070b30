-- Nothing is read of the columns of the query, so it took all that was read.
use Rattle.std.proofs.Common.{rules, ◌≡◌, false, length, replicate, refl, sym, ap, ◌∙◌, subst}
use Rattle.std.specs.List.{All}
use Rattle.known_column.specs.KnownTables.{lent_table}
use Rattle.query_model.specs.Queries.{Query}
use Rattle.round_engine.specs.Followers.{AreUnreadFor, Follows}
use Rattle.round_engine.specs.Progresses.{IsProgress}
use Rattle.multi_session.specs.declared.member.Member.{Member}
use Rattle.multi_session.specs.Members.{IsOpened, Stands}
use Rattle.multi_session.proofs.Opening.{opened_abreast, opened_is, unread_for}
use Rattle.multi_session.proofs.member.Member.open.Goals as goal

pub numbers-requires : goal.numbers-requires
numbers-requires c =
    let columns : c.as_slice.result.now ≡ c.args.query.columns = c.as_slice.ensures ∙ ap (λ (q : Query). q.columns) c.query.view_is in
    subst (All (Stands c.args.columns.now.places.items)) (sym columns) c.requires.ready.named

pub open-requires : goal.open-requires
open-requires c =
    let places = c.args.columns.now.places.items in
    let table = c.args.columns.now.known in
    let numbers = c.in_ok-numbers.numbers.items in
    let ready = c.requires.ready in
    let columns : c.as_slice.result.now ≡ c.args.query.columns = c.as_slice.ensures ∙ ap (λ (q : Query). q.columns) c.query.view_is in
    let lent : c.lend_some.result ≡ lent_table table numbers = c.lend_some.ensures ∙ ap (lent_table table) c.deref.ensures.value in
    record {
      unread = subst (AreUnreadFor c.args.query) (sym lent)
          (unread_for ready.head places table c.args.query numbers ready.unread ready.valid c.in_ok-numbers.ensures.inside (sym columns ∙ c.in_ok-numbers.ensures.named));
    }

pub view-requires : goal.view-requires
view-requires c =
    let places = c.args.columns.now.places.items in
    let table = c.args.columns.now.known in
    let numbers = c.in_ok-numbers.numbers.items in
    let ready = c.requires.ready in
    let lent : c.lend_some.result ≡ lent_table table numbers = c.lend_some.ensures ∙ ap (lent_table table) c.deref.ensures.value in
    let count : c.len.result ≡ length numbers = search rules in
    let counts = c.in_ok-counts.ensures ∙ ap (λ n. replicate n 0) count in
    let m : Member = record { follower = c.in_ok-follower.follower; numbers = c.in_ok-numbers.numbers; counts = c.in_ok-counts.counts; finished = false; moved = 0 } in
    opened_abreast ready.head places table m ready.unread c.requires.known c.in_ok-numbers.ensures.inside counts
    (subst (λ t. Follows t c.in_ok-follower.follower) lent c.in_ok-follower.ensures.follows)

pub judge-requires-clause-abreast : goal.judge-requires-clause-abreast
judge-requires-clause-abreast c =
    let places = c.args.columns.now.places.items in
    let table = c.args.columns.now.known in
    let numbers = c.in_ok-numbers.numbers.items in
    let ready = c.requires.ready in
    let lent : c.lend_some.result ≡ lent_table table numbers = c.lend_some.ensures ∙ ap (lent_table table) c.deref.ensures.value in
    let count : c.len.result ≡ length numbers = search rules in
    let counts = c.in_ok-counts.ensures ∙ ap (λ n. replicate n 0) count in
    let m : Member = record { follower = c.in_ok-follower.follower; numbers = c.in_ok-numbers.numbers; counts = c.in_ok-counts.counts; finished = false; moved = 0 } in
    opened_abreast ready.head places table m ready.unread c.requires.known c.in_ok-numbers.ensures.inside counts
    (subst (λ t. Follows t c.in_ok-follower.follower) lent c.in_ok-follower.ensures.follows)

pub returns : goal.returns
returns c = λ head valid none.
    let places = c.args.columns.now.places.items in
    let table = c.args.columns.now.known in
    let numbers = c.in_ok-numbers.numbers.items in
    let columns : c.as_slice.result.now ≡ c.args.query.columns = c.as_slice.ensures ∙ ap (λ (q : Query). q.columns) c.query.view_is in
    let lent : c.lend_some.result ≡ lent_table table numbers = c.lend_some.ensures ∙ ap (lent_table table) c.deref.ensures.value in
    let count : c.len.result ≡ length numbers = search rules in
    let counts = c.in_ok-counts.ensures ∙ ap (λ n. replicate n 0) count in
    let m : Member = record { follower = c.in_ok-follower.follower; numbers = c.in_ok-numbers.numbers; counts = c.in_ok-counts.counts; finished = false; moved = 0 } in
    let abreast = opened_abreast head places table m none c.requires.known c.in_ok-numbers.ensures.inside counts
    (subst (λ t. Follows t c.in_ok-follower.follower) lent c.in_ok-follower.ensures.follows) in
    subst (IsOpened c.args.query head c.args.near places table) (sym c.judge.ensures.judged)
    (opened_is head places c.args.near table c.args.query c.progress-progress.result m valid none abreast c.in_ok-numbers.ensures.inside
    (sym columns ∙ c.in_ok-numbers.ensures.named) c.in_ok-follower.ensures.query refl
    (subst (λ s. IsProgress s c.progress-progress.result) c.view.ensures c.progress-progress.ensures) c.judge.ensures.open_stage)
