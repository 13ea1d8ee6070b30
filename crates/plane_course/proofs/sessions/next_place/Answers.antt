-- The place is one of the head, and the first query that awaits the plane tells its number.
use Rattle.std.proofs.Common.{◌≡◌, ◌<◌, length, sym, subst, arith, slice_index, slice_index_or}
use Rattle.table_rounds.proofs.Fitting.{place_inside, place_is}
use Rattle.plane_course.proofs.sessions.next_place.Goals as goal

pub bounds-as_slice-place : goal.bounds-as_slice-place
bounds-as_slice-place c =
    subst (λ columns. c.column-place.result < length columns) (sym c.as_slice.ensures)
    (place_inside c.args.session.now c.args.head.now c.args.column c.column-place.result (slice_index c.progress.result.unread c.args.column) c.requires.fits c.requires.unread
    (c.progress.ensures.progress.unread c.args.column c.requires.unread.column) c.column-place.ensures)

pub offset_bounds-as_slice-place : goal.offset_bounds-as_slice-place
offset_bounds-as_slice-place c =
    let below : c.column-place.result < length c.as_slice.result.now =
    subst (λ columns. c.column-place.result < length columns) (sym c.as_slice.ensures)
    (place_inside c.args.session.now c.args.head.now c.args.column c.column-place.result (slice_index c.progress.result.unread c.args.column) c.requires.fits c.requires.unread
    (c.progress.ensures.progress.unread c.args.column c.requires.unread.column) c.column-place.ensures) in
    let fits = c.as_slice.type_inv in
    omega (arith, below, fits)

pub overflow_sub-result : goal.overflow_sub-result
overflow_sub-result c =
    (place_is c.args.session.now c.args.head.now c.args.column c.column-place.result (slice_index c.progress.result.unread c.args.column) c.requires.fits c.requires.unread
    (c.progress.ensures.progress.unread c.args.column c.requires.unread.column) c.column-place.ensures c.planes.result c.index-as_slice-place.result
    (subst (λ columns. c.index-as_slice-place.result ≡ slice_index_or columns c.column-place.result c.index-as_slice-place.result) c.as_slice.ensures c.index-as_slice-place.is)
    c.planes.ensures.all).few

pub returns-clause-inside : goal.returns-clause-inside
returns-clause-inside c =
    place_inside c.args.session.now c.args.head.now c.args.column c.column-place.result (slice_index c.progress.result.unread c.args.column) c.requires.fits c.requires.unread
    (c.progress.ensures.progress.unread c.args.column c.requires.unread.column) c.column-place.ensures

pub returns-clause-plane : goal.returns-clause-plane
returns-clause-plane c =
    (place_is c.args.session.now c.args.head.now c.args.column c.column-place.result (slice_index c.progress.result.unread c.args.column) c.requires.fits c.requires.unread
    (c.progress.ensures.progress.unread c.args.column c.requires.unread.column) c.column-place.ensures c.planes.result c.index-as_slice-place.result
    (subst (λ columns. c.index-as_slice-place.result ≡ slice_index_or columns c.column-place.result c.index-as_slice-place.result) c.as_slice.ensures c.index-as_slice-place.is)
    c.planes.ensures.all).next

pub returns-clause-unread : goal.returns-clause-unread
returns-clause-unread c =
    (place_is c.args.session.now c.args.head.now c.args.column c.column-place.result (slice_index c.progress.result.unread c.args.column) c.requires.fits c.requires.unread
    (c.progress.ensures.progress.unread c.args.column c.requires.unread.column) c.column-place.ensures c.planes.result c.index-as_slice-place.result
    (subst (λ columns. c.index-as_slice-place.result ≡ slice_index_or columns c.column-place.result c.index-as_slice-place.result) c.as_slice.ensures c.index-as_slice-place.is)
    c.planes.ensures.all).there
