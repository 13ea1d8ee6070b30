use Rattle.std.proofs.Common.{◌≡◌, ◌<◌, ◌≤◌, [], length, sym, ap, ◌∙◌, subst}
use Rattle.std.specs.declared.option.Option.TheVariants.{None}
use Rattle.std.specs.List.{All}
use Rattle.query_model.specs.Validity.{IsValid}
use Rattle.multi_session.specs.Alone.{StandsFor}
use Rattle.multi_session.specs.Limits.{limit_passed}
use Rattle.multi_session.specs.Members.{AreUnread}
use Rattle.multi_session.specs.Sessions.{columns_named}
use Rattle.multi_session.proofs.Opening.{all_ready, columns_are, each_of, named_inside, session_is, session_opens, stands_at_first}
use Rattle.multi_session.proofs.Within.{few_named, few_queries}
use Rattle.multi_session.proofs.session.Session.open.Goals as goal

pub open-requires : goal.open-requires
open-requires c =
    let queries = c.args.queries.items in
    let head = c.args.head.now in
    let named : c.in_ok-places.places.items ≡ columns_named queries = c.in_ok-places.ensures.columns ∙ ap columns_named c.deref.ensures.value in
    record { inside = subst (All (λ place. place < length head.columns)) (sym named) (named_inside queries head (each_of (IsValid head) queries c.requires.valid)) }

pub open_each-requires-clause-known : goal.open_each-requires-clause-known
open_each-requires-clause-known c =
    let queries = c.args.queries.items in
    let head = c.args.head.now in
    let columns = c.in_ok-columns.columns in
    let named : columns.places.items ≡ columns_named queries = c.in_ok-columns.ensures.places ∙ c.in_ok-places.ensures.columns ∙ ap columns_named c.deref.ensures.value in
    let unread = subst (λ places. AreUnread head places columns.known) (sym c.in_ok-columns.ensures.places) c.in_ok-columns.ensures.unread in
    columns_are queries head columns.places.items columns.known named unread c.in_ok-columns.ensures.known

pub open_each-requires-clause-ready : goal.open_each-requires-clause-ready
open_each-requires-clause-ready c =
    let queries = c.args.queries.items in
    let head = c.args.head.now in
    let columns = c.in_ok-columns.columns in
    let named : columns.places.items ≡ columns_named queries = c.in_ok-columns.ensures.places ∙ c.in_ok-places.ensures.columns ∙ ap columns_named c.deref.ensures.value in
    let unread = subst (λ places. AreUnread head places columns.known) (sym c.in_ok-columns.ensures.places) c.in_ok-columns.ensures.unread in
    all_ready queries head columns.places.items columns.known named (each_of (IsValid head) queries c.requires.valid) unread

pub invariant_of-result : goal.invariant_of-result
invariant_of-result c =
    let queries = c.args.queries.items in
    let head = c.args.head.now in
    let columns = c.in_ok-columns.columns in
    let within : limit_passed head.rows queries ≡ None = subst (λ qs. limit_passed head.rows qs ≡ None) c.deref.ensures.value c.in_ok-places.ensures.within in
    let named : columns.places.items ≡ columns_named queries = c.in_ok-columns.ensures.places ∙ c.in_ok-places.ensures.columns ∙ ap columns_named c.deref.ensures.value in
    let unread = subst (λ places. AreUnread head places columns.known) (sym c.in_ok-columns.ensures.places) c.in_ok-columns.ensures.unread in
    session_opens queries head c.args.near columns.places.items columns.known c.in_ok-members.members.items
    (c.in_ok-members.ensures head (each_of (IsValid head) queries c.requires.valid) unread) c.requires.near
    (columns_are queries head columns.places.items columns.known named unread c.in_ok-columns.ensures.known)
    (subst (λ places. length places ≤ 16) (sym named) (few_named head.rows queries within)) (few_queries head.rows queries within)

pub returns-clause-opened : goal.returns-clause-opened
returns-clause-opened c =
    let queries = c.args.queries.items in
    let head = c.args.head.now in
    let columns = c.in_ok-columns.columns in
    let named : columns.places.items ≡ columns_named queries = c.in_ok-columns.ensures.places ∙ c.in_ok-places.ensures.columns ∙ ap columns_named c.deref.ensures.value in
    let unread = subst (λ places. AreUnread head places columns.known) (sym c.in_ok-columns.ensures.places) c.in_ok-columns.ensures.unread in
    session_is queries head c.args.near columns.places.items columns.known c.in_ok-members.members.items
    (c.in_ok-members.ensures head (each_of (IsValid head) queries c.requires.valid) unread) named unread

pub returns-clause-stands : goal.returns-clause-stands
returns-clause-stands c =
    subst (StandsFor c.args.queries.items c.args.head.now []) (sym (returns-clause-opened c)) (stands_at_first c.args.queries.items c.args.head.now c.args.near)
