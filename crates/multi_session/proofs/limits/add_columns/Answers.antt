use Rattle.std.proofs.Common.{◌≡◌, ◌==◌, get_or, sym, ap, ◌∙◌}
use Rattle.std.proofs.lemmas.List.Sums.{fold_more}
use Rattle.std.specs.List.{list_any}
use Rattle.kleene_filter.specs.Filters.{stands_in}
use Rattle.multi_session.specs.Sessions.{with_column}
use Rattle.multi_session.proofs.Within.{with_new, with_old}
use Rattle.multi_session.proofs.limits.add_columns.Goals as goal
use Rattle.multi_session.proofs.limits.add_columns.Goals.{then-not-contains+in_ok-push, else-not-contains}

pub loop-place-preserved : goal.loop-place-preserved
loop-place-preserved c =
    let more = c.args.more.now in
    let i = c.loop-place.place-index in
    let place = get_or more i 0 in
    let columns = c.loop-place.columns.items in
    let next = fold_more with_column c.args.columns.now.items more i 0 c.loop-place-test.true in
    let after = ap (λ cs. with_column cs place) c.loop-place.invariant in
    let stands : c.contains.result ≡ stands_in columns place = c.contains.ensures.value ∙ ap (list_any (λ m. m == place)) c.deref.ensures.value in
    elim c.if-not-contains.branch [
      | then-not-contains+in_ok-push w ↦
          ap (λ v. v.items) w.columns-is ∙ w.in_ok-push.ensures.items ∙ sym (with_new columns place (sym stands ∙ w.if-not-contains.true)) ∙ after ∙ sym next
      | else-not-contains w ↦ ap (λ v. v.items) w.columns-is ∙ sym (with_old columns place (sym stands ∙ w.if-not-contains.false)) ∙ after ∙ sym next
    ]
