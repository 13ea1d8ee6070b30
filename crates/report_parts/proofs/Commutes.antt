-- That lines of different tags may change places.
use Rattle.std.proofs.Common.{◌≡◌, ◌≢◌, ℕ, ◌+◌, Option, Some, List, [], ◌∷◌, ◌++◌, length, refl, sym, ap, subst, ◌∙◌, inl, inr, arith}
use Rattle.std.proofs.lemmas.Bool.{false≢true}
use Rattle.std.proofs.lemmas.Cmp.{nat_list_cmp_total}
use Rattle.std.proofs.lemmas.Option.{none-some}
use Rattle.std.specs.Cmp.Lexicographic.{slice_cmp}
use Rattle.std.specs.Ordering.{nat_cmp, ordering_reverse}
use Rattle.std.specs.declared.cmp.Ordering.{Ordering}
use Rattle.std.specs.declared.cmp.Ordering.TheVariants.{Less, Equal, Greater}
use Rattle.report_parts.specs.declared.shape.Shape.{Shape}
use Rattle.report_text.specs.declared.lines.ReportEnd.{ReportEnd}
use Rattle.report_parts.proofs.Courses.{by_each, longer, tag_of_told, tag_stays}
use Rattle.report_parts.proofs.FromRounds.{cases_lt}
use Rattle.report_parts.proofs.Kept.{some_same}
use Rattle.report_parts.proofs.Ordered.{equal_is}
use Rattle.report_parts.specs.Course.{Interleaved, OrderIsFree, Task, Tell, TextIsOne, wanted_of}
use Rattle.report_parts.specs.Course.Interleaved.{farther, swapped, twice, unmoved}
use Rattle.report_parts.specs.Reports.{block_text}
use Rattle.report_parts.specs.Tags.{TakesTagged, against, behind_tag, by_order, tag_of, told_of, with_part}
use Rattle.report_parts.specs.Told.{Takes, Told, nothing_told}
use Rattle.report_parts.specs.Written.{Wanted, Writes, end_text}
use Rattle.report_parts.specs.Written.Writes.{ends, goes, waits}

-- ---- the order of tags

turned : (a b : List ℕ) → slice_cmp nat_cmp a b ≡ Greater → slice_cmp nat_cmp b a ≡ Less
turned a b e = nat_list_cmp_total.antisymm b a ∙ ap ordering_reverse e

turned_back : (a b : List ℕ) → slice_cmp nat_cmp a b ≡ Less → slice_cmp nat_cmp b a ≡ Greater
turned_back a b e = nat_list_cmp_total.antisymm b a ∙ ap ordering_reverse e

by_apart : {P : Type 0} (a b : List ℕ) → a ≢ b → (slice_cmp nat_cmp a b ≡ Less → P) → (slice_cmp nat_cmp a b ≡ Greater → P) → P
by_apart {P} a b ne f g = by_each (λ (o : Ordering). P) (slice_cmp nat_cmp a b) f (λ e. absurd (ne (equal_is a b e))) g

same_below : (p a b : List ℕ) → slice_cmp nat_cmp p b ≡ Equal → slice_cmp nat_cmp p a ≡ Less → slice_cmp nat_cmp b a ≡ Less
same_below p a b e less = subst (λ (t : List ℕ). slice_cmp nat_cmp t a ≡ Less) (equal_is p b e) less

same_above : (p a b : List ℕ) → slice_cmp nat_cmp p a ≡ Equal → slice_cmp nat_cmp p b ≡ Greater → slice_cmp nat_cmp a b ≡ Greater
same_above p a b e more = subst (λ (t : List ℕ). slice_cmp nat_cmp t b ≡ Greater) (equal_is p a e) more

-- ---- two parts are put in either order

put_both : (a b : Told) (parts : List Told) → with_part a parts ≡ a ∷ parts → with_part b parts ≡ b ∷ parts →
    slice_cmp nat_cmp a.tag b.tag ≡ Less → with_part b (a ∷ parts) ≡ with_part a (b ∷ parts)
put_both a b parts front_a front_b less =
    rw (less, turned_back a.tag b.tag less) (ap (λ (ps : List Told). a ∷ ps) front_b)

in_front : (told part : Told) (parts : List Told) → against told.tag part ≡ Greater → with_part told (part ∷ parts) ≡ told ∷ part ∷ parts
in_front told part parts e = rw e refl

below_same : (a b part : Told) (parts : List Told) → against a.tag part ≡ Less → against b.tag part ≡ Equal →
    with_part b (with_part a (part ∷ parts)) ≡ with_part a (with_part b (part ∷ parts))
below_same a b part parts ea eb = rw (ea, eb, same_below part.tag a.tag b.tag eb ea) refl

below_above : (a b part : Told) (parts : List Told) → against a.tag part ≡ Less → against b.tag part ≡ Greater →
    with_part b (with_part a (part ∷ parts)) ≡ with_part a (with_part b (part ∷ parts))
below_above a b part parts ea eb =
    rw (ea, eb, nat_list_cmp_total.trans b.tag part.tag a.tag (turned part.tag b.tag eb) ea) (rw ea refl)

same_first : (a b part : Told) (parts : List Told) → against a.tag part ≡ Equal → against b.tag part ≡ Greater →
    with_part b (with_part a (part ∷ parts)) ≡ with_part a (with_part b (part ∷ parts))
same_first a b part parts ea eb =
    let above = same_above part.tag a.tag b.tag ea eb in
    rw (ea, eb, above, turned a.tag b.tag above) (rw ea refl)

above_both : (a b part : Told) (parts : List Told) → a.tag ≢ b.tag → against a.tag part ≡ Greater → against b.tag part ≡ Greater →
    with_part b (with_part a (part ∷ parts)) ≡ with_part a (with_part b (part ∷ parts))
above_both a b part parts ne ea eb =
    let front_a = in_front a part parts ea in
    let front_b = in_front b part parts eb in
    ap (λ (ps : List Told). with_part b ps) front_a
    ∙ by_apart a.tag b.tag ne (λ less. put_both a b (part ∷ parts) front_a front_b less)
    (λ more. sym (put_both b a (part ∷ parts) front_b front_a (turned a.tag b.tag more)))
    ∙ sym (ap (λ (ps : List Told). with_part a ps) front_b)

put_either : (a b : Told) (parts : List Told) → a.tag ≢ b.tag → with_part b (with_part a parts) ≡ with_part a (with_part b parts)
put_either a b [] ne =
    by_apart a.tag b.tag ne (λ less. put_both a b [] refl refl less) (λ more. sym (put_both b a [] refl refl (turned a.tag b.tag more)))
put_either a b (part ∷ parts) ne =
    let rest = put_either a b parts ne in
    let whole = with_part b (with_part a (part ∷ parts)) ≡ with_part a (with_part b (part ∷ parts)) in
    by_each (λ (o : Ordering). whole) (against a.tag part)
    (λ ea. by_each (λ (o : Ordering). whole) (against b.tag part)
    (λ eb. rw (ea, eb) (rw ea (ap (λ (ps : List Told). part ∷ ps) rest)))
    (λ eb. below_same a b part parts ea eb)
    (λ eb. below_above a b part parts ea eb))
    (λ ea. by_each (λ (o : Ordering). whole) (against b.tag part)
    (λ eb. sym (below_same b a part parts eb ea))
    (λ eb. absurd (ne (sym (equal_is part.tag a.tag ea) ∙ equal_is part.tag b.tag eb)))
    (λ eb. same_first a b part parts ea eb))
    (λ ea. by_each (λ (o : Ordering). whole) (against b.tag part)
    (λ eb. sym (below_above b a part parts eb ea))
    (λ eb. sym (same_first b a part parts eb ea))
    (λ eb. above_both a b part parts ne ea eb))

-- what is told of another part stays
other_stays : (told : Told) (tag : List ℕ) (parts : List Told) → told.tag ≢ tag → told_of tag (with_part told parts) ≡ told_of tag parts
other_stays told tag [] ne =
    by_apart told.tag tag ne (λ less. rw less refl) (λ more. rw more refl)
other_stays told tag (part ∷ parts) ne =
    let rest = other_stays told tag parts ne in
    let whole = told_of tag (with_part told (part ∷ parts)) ≡ told_of tag (part ∷ parts) in
    by_each (λ (o : Ordering). whole) (against told.tag part)
    (λ e. rw e (by_each (λ (o : Ordering). by_order o (told_of tag (with_part told parts)) part (nothing_told tag) ≡ by_order o (told_of tag parts) part (nothing_told tag))
    (against tag part) (λ f. rest) (λ f. refl) (λ f. refl)))
    (λ e. rw e (by_apart told.tag tag ne
    (λ less. rw (less, subst (λ (t : List ℕ). slice_cmp nat_cmp t tag ≡ Less) (sym (equal_is part.tag told.tag e)) less) refl)
    (λ more. rw (more, subst (λ (t : List ℕ). slice_cmp nat_cmp t tag ≡ Greater) (sym (equal_is part.tag told.tag e)) more) refl)))
    (λ e. rw e (by_apart told.tag tag ne
    (λ less. rw less refl)
    (λ more. rw (more, turned_back tag part.tag (nat_list_cmp_total.trans tag told.tag part.tag (turned told.tag tag more) (turned part.tag told.tag e))) refl)))

-- ---- two lines

line_tag : (query : List ℕ) (shape : Shape) (parts : List Told) (line : List ℕ) (next : List Told) (h : TakesTagged query shape parts line next) →
    h.told.tag ≡ tag_of line
line_tag query shape parts line next h =
    tag_stays query shape (told_of (tag_of line) parts) (behind_tag line) h.told h.taken ∙ tag_of_told (tag_of line) parts

-- the second line first
pub record TakesFirst (query : List ℕ) (shape : Shape) (parts : List Told) (first second : List ℕ) (last : List Told) : Type 0 where
  pub mid : List Told
  pub before : TakesTagged query shape parts second mid
  pub behind : TakesTagged query shape mid first last

swaps : (query : List ℕ) (shape : Shape) (parts : List Told) (first second : List ℕ) (mid last : List Told) → tag_of first ≢ tag_of second →
    TakesTagged query shape parts first mid → TakesTagged query shape mid second last → TakesFirst query shape parts first second last
swaps query shape parts first second mid last ne h k =
    let a = line_tag query shape parts first mid h in
    let b = line_tag query shape mid second last k in
    let apart : h.told.tag ≢ k.told.tag = λ e. ne (sym a ∙ e ∙ b) in
    let others : told_of (tag_of second) mid ≡ told_of (tag_of second) parts =
    ap (λ (ps : List Told). told_of (tag_of second) ps) h.put ∙ other_stays h.told (tag_of second) parts (λ e. ne (sym a ∙ e)) in
    let own : told_of (tag_of first) (with_part k.told parts) ≡ told_of (tag_of first) parts =
    other_stays k.told (tag_of first) parts (λ e. ne (sym e ∙ b)) in
    record {
      mid = with_part k.told parts;
      before = record {
        told = k.told;
        is_tag = k.is_tag;
        taken = subst (λ (t : Told). Takes query shape t (behind_tag second) k.told) others k.taken;
        put = refl;
      };
      behind = record {
        told = h.told;
        is_tag = h.is_tag;
        taken = subst (λ (t : Told). Takes query shape t (behind_tag first) h.told) (sym own) h.taken;
        put = k.put ∙ ap (λ (ps : List Told). with_part k.told ps) h.put ∙ put_either h.told k.told parts apart;
      };
    }

tell_swapped : (task : Task) (parts : List Told) (first second : List ℕ) (lines : List (List ℕ)) (last : List Told) → tag_of first ≢ tag_of second →
    Tell task parts (first ∷ second ∷ lines) last → Tell task parts (second ∷ first ∷ lines) last
tell_swapped task parts first second lines last ne h =
    let done = swaps task.query task.shape parts first second h.0 h.2.0 ne h.1.taken h.2.1.taken in
    let fewer = longer task.query task.shape done.mid first h.2.0 done.behind in (
      done.mid,
      record { taken = done.before; few = omega (arith, fewer, h.2.1.few) },
      (h.2.0, record { taken = done.behind; few = h.2.1.few }, h.2.2),
    )

tell_other : (task : Task) (parts : List Told) (lines others : List (List ℕ)) (last : List Told) → Interleaved lines others →
    Tell task parts lines last → Tell task parts others last
tell_other task parts lines others last (unmoved same) h = h
tell_other task parts lines others last (swapped first second rest ne) h = tell_swapped task parts first second rest last ne h
tell_other task parts lines others last (farther line rest more i) h = (h.0, h.1, tell_other task h.0 rest more last i h.2)
tell_other task parts lines others last (twice some between more i j) h =
    tell_other task parts between more last j (tell_other task parts some between last i h)

pub order_free : OrderIsFree
order_free task lines others text end i h = record { parts = h.parts; told = tell_other task [] lines others h.parts i h.told; is_text = h.is_text }

-- ---- the text is one

writes_one : (wanted : Wanted) (parts : List Told) (round : ℕ) (a b : List ℕ) (e f : Option ReportEnd) → Writes wanted parts round a e →
    Writes wanted parts round b f → (b ≡ a) × (f ≡ e)
writes_one wanted parts round a b e f (waits r h) (waits s k) = (refl, refl)
writes_one wanted parts round a b e f (waits r h) (ends s end has said last) = absurd (false≢true (sym h ∙ has))
writes_one wanted parts round a b e f (waits r h) (goes s rest end has said none k) = absurd (false≢true (sym h ∙ has))
writes_one wanted parts round a b e f (ends r end has said last) (waits s k) = absurd (false≢true (sym k ∙ has))
writes_one wanted parts round a b e f (ends r end has said last) (ends s other here said_now later) =
    let same : other ≡ end = some_same other end (sym later ∙ last) in
    (ap (λ (x : ReportEnd). block_text round wanted.shape parts ++ end_text x) same, ap (λ (x : ReportEnd). Some x) same)
writes_one wanted parts round a b e f (ends r end has said last) (goes s rest other here said_now none k) = absurd (none-some end (sym none ∙ last))
writes_one wanted parts round a b e f (goes r rest end has said none h) (waits s k) = absurd (false≢true (sym k ∙ has))
writes_one wanted parts round a b e f (goes r rest end has said none h) (ends s other here said_now last) = absurd (none-some other (sym none ∙ last))
writes_one wanted parts round a b e f (goes r rest end has said none h) (goes s more other here said_now off k) =
    let behind = writes_one wanted parts (round + 1) rest more end other h k in
    (ap (λ (x : List ℕ). block_text round wanted.shape parts ++ x) behind.0, behind.1)

pub text_one : TextIsOne
text_one task parts text other end later few h k = elim (cases_lt (length parts) task.count) [
  | inl less ↦
      let a = h.early less in
      let b = k.early less in
      (b.0 ∙ sym a.0, b.1 ∙ sym a.1)
  | inr all ↦
      let whole : length parts ≡ task.count = omega (arith, few, all) in
      writes_one (wanted_of task) parts 0 text other end later (h.whole whole) (k.whole whole)
]
