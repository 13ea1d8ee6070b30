-- With one more plane the report of a table is a later one, and with all planes it is exact.
use Rattle.std.proofs.Common.{◌≡◌, ◌≢◌, ℕ, ◌<◌, ℤ, ◌≤ℤ◌, Bool, true, false, not, ◌&&◌, cond, refl, sym, ap, ◌∙◌, subst, arith, IsTrue, inl, inr, Option, Some, None}
use Rattle.std.specs.Ordering.{int_eq}
use Rattle.std.proofs.lemmas.Bool.{and_from, and_parts, both_ways, false≢true}
use Rattle.std.proofs.lemmas.Bool.Decides.{Decides-int_eq}
use Rattle.std.proofs.lemmas.Int.{ints}
use Rattle.daq_table.specs.Tables.{ends_at, rows_of}
use Rattle.query_model.specs.declared.bounds.Nullity.{Nullity}
use Rattle.query_model.specs.declared.bounds.Nullity.TheVariants.{Never, Possibly, Always}
use Rattle.query_model.specs.declared.bounds.Standing.{Standing}
use Rattle.query_model.specs.declared.bounds.Standing.TheVariants.{Certain, Possible, Excluded}
use Rattle.query_model.specs.Groups.{is_one_value}
use Rattle.query_model.specs.Knowledge.{IsAllRead, IsKnowledge, IsLegal, Knowledge, known_at, prefix_at, range_of, ranges_of, taken}
use Rattle.query_model.specs.Laws.{RangesBecomeExact, RangesNest, StandingsBecomeExact, StandingsNest, TakenIsKnowledge}
use Rattle.query_model.specs.Ranking.{StandingKept}
use Rattle.query_model.specs.Truths.{IsNarrower as IsNarrowerRange, Range, may_be_null, may_be_number}
use Rattle.query_model.proofs.Blocks.{range_ordered}
use Rattle.shard_groups.specs.declared.keys.KeyValue.{KeyValue}
use Rattle.shard_groups.specs.declared.keys.Span.{Span}
use Rattle.shard_groups.specs.Keys.{allows, at_most}
use Rattle.shard_groups.proofs.ValueOrder.{follows, itself}
use Rattle.part_rows.specs.declared.row.End.{End}
use Rattle.part_rows.specs.declared.row.End.TheVariants.{First, Last}
use Rattle.part_rows.specs.declared.row.PartRow.{PartRow}
use Rattle.part_rows.specs.Laws.{AreLater, IsExact, IsNarrower}
use Rattle.part_rows.specs.Marks.{key_at}
use Rattle.part_rows.specs.Tables.{IsKeyed, LaterReportsJoin, Part, ReportsBecomeExact, ReportsNest, is_certain, is_excluded, listed, report, span_of, standing_in}
use Rattle.part_rows.proofs.Joins.{in_either, in_left, in_right}
use Rattle.part_rows.proofs.KeyNumbers.{AreOfColumn}
use Rattle.part_rows.proofs.Reports.{choose, chosen, is_told, key_ends, key_range, of_table, value_in_order}

-- ---- the keys of a range

-- the values from one to another, and null as that word says
abbrev span_by : Nullity → KeyValue → KeyValue → Span
span_by null low high = record { null = may_be_null null; ends = cond (may_be_number null) (Some (record { low = low; high = high })) None }

low_between : (low high : KeyValue) → IsTrue (at_most low high) → IsTrue (at_most low low && at_most low high)
low_between low high t = and_from (at_most low low) (at_most low high) (itself low) t

high_between : (low high : KeyValue) → IsTrue (at_most low high) → IsTrue (at_most low high && at_most high high)
high_between low high t = and_from (at_most low high) (at_most high high) t (itself high)

-- both ends of a span are among its keys
ends_allowed : (null : Nullity) (low high : KeyValue) → IsTrue (at_most low high) → (down : Bool) (end : End) →
    IsTrue (allows (span_by null low high) (key_at down end (span_by null low high)))
ends_allowed Never low high t true First = high_between low high t
ends_allowed Never low high t false First = low_between low high t
ends_allowed Never low high t true Last = low_between low high t
ends_allowed Never low high t false Last = high_between low high t
ends_allowed Possibly low high t true First = high_between low high t
ends_allowed Possibly low high t false First = low_between low high t
ends_allowed Possibly low high t down Last = refl
ends_allowed Always low high t down First = refl
ends_allowed Always low high t down Last = refl

-- what a value of a span has
record LiesIn (null : Nullity) (low high value : KeyValue) : Type 0 where
  pub number : IsTrue (may_be_number null)
  pub above : IsTrue (at_most low value)
  pub below : IsTrue (at_most value high)

lies_in : (null : Nullity) (low high value : KeyValue) → IsTrue (allows (span_by null low high) (Some value)) → LiesIn null low high value
lies_in Never low high value t =
    let parts = and_parts (at_most low value) (at_most value high) t in record { number = refl; above = parts.0; below = parts.1 }
lies_in Possibly low high value t =
    let parts = and_parts (at_most low value) (at_most value high) t in record { number = refl; above = parts.0; below = parts.1 }
lies_in Always low high value t = absurd (false≢true t)

lies_by : (null : Nullity) (low high value : KeyValue) → LiesIn null low high value → IsTrue (allows (span_by null low high) (Some value))
lies_by Never low high value h = and_from (at_most low value) (at_most value high) h.above h.below
lies_by Possibly low high value h = and_from (at_most low value) (at_most value high) h.above h.below
lies_by Always low high value h = absurd (false≢true h.number)

same_number : (x : ℤ) → x ≤ℤ x
same_number x = omega (arith, ints)

within : (part : Part) → IsKeyed part → (inner outer : Range) → AreOfColumn (key_ends part) inner → AreOfColumn (key_ends part) outer →
    inner.numbers.low ≤ℤ inner.numbers.high → IsNarrowerRange inner outer →
    (key : Option KeyValue) → IsTrue (allows (span_of part.value inner) key) → IsTrue (allows (span_of part.value outer) key)
within part keyed inner outer of_inner of_outer ordered h None t = h.values None t
within part keyed inner outer of_inner of_outer ordered h (Some v) t =
    let low = part.value inner.numbers.low in
    let high = part.value inner.numbers.high in
    let is = lies_in inner.null low high v t in
    let some = h.values (Some inner.numbers.low) (is.number, record { above = same_number inner.numbers.low; below = ordered }) in
    lies_by outer.null (part.value outer.numbers.low) (part.value outer.numbers.high) v
    (record {
      number = some.0;
      above = follows (part.value outer.numbers.low) low v (value_in_order part keyed outer.numbers.low inner.numbers.low of_outer.low of_inner.low h.numbers.low) is.above;
      below = follows v high (part.value outer.numbers.high) is.below (value_in_order part keyed inner.numbers.high outer.numbers.high of_inner.high of_outer.high h.numbers.high);
    })

-- ---- a row later

certain_stays : (o n : Standing) → StandingKept o n → IsTrue (is_certain o) → IsTrue (is_certain n)
certain_stays Certain n k t = ap is_certain k
certain_stays Possible n k t = absurd (false≢true t)
certain_stays Excluded n k t = absurd (false≢true t)

told_before : (o n : Standing) → StandingKept o n → IsTrue (not (is_excluded n)) → IsTrue (not (is_excluded o))
told_before Certain n k t = refl
told_before Possible n k t = refl
told_before Excluded n k t = absurd (both_ways (not (is_excluded n)) (ap (λ s. not (is_excluded s)) k) t)

certain_told : (o : Standing) → IsTrue (is_certain o) → IsTrue (not (is_excluded o))
certain_told Certain t = refl
certain_told Possible t = absurd (false≢true t)
certain_told Excluded t = absurd (false≢true t)

kept_itself : (o : Standing) → StandingKept o o
kept_itself Certain = refl
kept_itself Possible = tt
kept_itself Excluded = refl

-- what is known later of the rows of a table
record IsLaterKnown (part : Part) (known later : Knowledge) : Type 0 where
  pub kept : (r : ℕ) → r < part.frame.rows → StandingKept (standing_in part known r) (standing_in part later r)
  pub narrower : (r : ℕ) → r < part.frame.rows →
      IsNarrowerRange (ranges_of part.frame later r part.order.key) (ranges_of part.frame known r part.order.key)
  pub knows : IsKnowledge part.frame later

ordered : (part : Part) (known : Knowledge) → IsKeyed part → IsKnowledge part.frame known → (r : ℕ) → r < part.frame.rows →
    (ranges_of part.frame known r part.order.key).numbers.low ≤ℤ (ranges_of part.frame known r part.order.key).numbers.high
ordered part known keyed knows r r_in =
    range_ordered (ends_at part.frame part.order.key) (known_at known part.order.key).read (prefix_at known part.order.key r)
    (knows.legal part.order.key r keyed.column r_in)

narrower_row : (part : Part) (known later : Knowledge) → IsKeyed part → IsKnowledge part.frame known → IsLaterKnown part known later → (r : ℕ) → r < part.frame.rows →
    IsNarrower part.order.down (listed part known r) (listed part later r)
narrower_row part known later keyed knows h r r_in =
    let range = ranges_of part.frame later r part.order.key in
    let of = key_range part later keyed h.knows r r_in in
    let up = ordered part later keyed h.knows r r_in in
    record {
      named = refl;
      ends = λ end. ends_allowed range.null (part.value range.numbers.low) (part.value range.numbers.high)
          (value_in_order part keyed range.numbers.low range.numbers.high of.low of.high up) part.order.down end;
      within = within part keyed range (ranges_of part.frame known r part.order.key) of (key_range part known keyed knows r r_in) up (h.narrower r r_in);
      certain = certain_stays (standing_in part known r) (standing_in part later r) (h.kept r r_in);
    }

later_by : (part : Part) (known later : Knowledge) → IsKeyed part → IsKnowledge part.frame known → IsLaterKnown part known later →
    AreLater part.order.down (report part known) (report part later)
later_by part known later keyed knows h =
    record {
      listed = λ row i.
          let from = chosen (listed part later) (is_told part later) (rows_of part.frame) row i in
          let r = from.element in
          let r_in = of_table part.frame r from.is in
          record {
            old = listed part known r;
            is = choose (listed part known) (is_told part known) r (rows_of part.frame) from.is
                (told_before (standing_in part known r) (standing_in part later r) (h.kept r r_in) from.passes);
            narrower = subst (λ z. IsNarrower part.order.down (listed part known r) z) (sym from.same) (narrower_row part known later keyed knows h r r_in);
          };
      kept = λ old i t.
          let from = chosen (listed part known) (is_told part known) (rows_of part.frame) old i in
          let r = from.element in
          let stays = certain_stays (standing_in part known r) (standing_in part later r) (h.kept r (of_table part.frame r from.is))
          (ap (λ (z : PartRow). z.certain) (sym from.same) ∙ t) in
          record {
            row = listed part later r;
            is = choose (listed part later) (is_told part later) r (rows_of part.frame) from.is (certain_told (standing_in part later r) stays);
            named = ap (λ (z : PartRow). z.name) (sym from.same);
          };
    }

pub reports_nest : StandingsNest → RangesNest → TakenIsKnowledge → ReportsNest
reports_nest stand narrow take part known keyed knows =
    record {
      stays = later_by part known known keyed knows
          (record {
            kept = λ r r_in. kept_itself (standing_in part known r);
            narrower = λ r r_in. record {
              values = λ v t. t;
              numbers = record {
                low = same_number (ranges_of part.frame known r part.order.key).numbers.low;
                high = same_number (ranges_of part.frame known r part.order.key).numbers.high;
              };
            };
            knows = knows;
          });
      plane = λ c bits can. later_by part known (taken known c bits) keyed knows
          (record {
            kept = λ r r_in. stand part.pred part.order part.frame known c bits r knows can r_in;
            narrower = λ r r_in. narrow part.frame known c bits r part.order.key knows can r_in;
            knows = take part.frame known c bits knows can;
          });
    }

-- ---- several parts

pub later_reports_join : LaterReportsJoin
later_reports_join down olds rows other_olds others h k =
    record {
      listed = λ row i. elim (in_either row rows others i) [
        | inl j ↦ let was = h.listed row j in record { old = was.old; is = in_left was.old olds other_olds was.is; narrower = was.narrower }
        | inr j ↦ let was = k.listed row j in record { old = was.old; is = in_right was.old olds other_olds was.is; narrower = was.narrower }
      ];
      kept = λ old i t. elim (in_either old olds other_olds i) [
        | inl j ↦ let still = h.kept old j t in record { row = still.row; is = in_left still.row rows others still.is; named = still.named }
        | inr j ↦ let still = k.kept old j t in record { row = still.row; is = in_right still.row rows others still.is; named = still.named }
      ];
    }

-- ---- exact

equal : (a b : ℤ) → IsTrue (int_eq a b) → a ≡ b
equal a b t = (Decides-int_eq a b).0 t

-- a span of one key starts where it ends
one_key : (value : ℤ → KeyValue) (null : Nullity) (low high : ℤ) →
    IsTrue (cond (may_be_null null) (not (may_be_number null)) (int_eq low high)) → (down : Bool) →
    key_at down First (span_by null (value low) (value high)) ≡ key_at down Last (span_by null (value low) (value high))
one_key value Never low high t true = ap (λ x. Some (value x)) (sym (equal low high t))
one_key value Never low high t false = ap (λ x. Some (value x)) (equal low high t)
one_key value Possibly low high t down = absurd (false≢true t)
one_key value Always low high t down = refl

only_certain : (o : Standing) → o ≢ Possible → IsTrue (not (is_excluded o)) → IsTrue (is_certain o)
only_certain Certain n t = refl
only_certain Possible n t = absurd (n refl)
only_certain Excluded n t = absurd (false≢true t)

exact_row : StandingsBecomeExact → RangesBecomeExact → (part : Part) (known : Knowledge) → IsKeyed part → IsKnowledge part.frame known →
    IsAllRead part.frame known → (r : ℕ) → r < part.frame.rows → IsTrue (is_told part known r) → IsExact part.order.down (listed part known r)
exact_row closed one part known keyed knows all r r_in told =
    let key = part.order.key in
    let range = ranges_of part.frame known r key in
    let legal = knows.legal key r keyed.column r_in in
    let ends = ends_at part.frame key in
    let prefix = prefix_at known key r in
    let single = one ends prefix (subst (λ n. IsLegal ends n prefix) (all key keyed.column) legal) in
    record {
      certain = only_certain (standing_in part known r) (closed part.pred part.order part.frame known r knows all r_in) told;
      one_key = ap (λ k. record { key = k; name = (listed part known r).name })
          (one_key part.value range.null range.numbers.low range.numbers.high
          (subst (λ n. IsTrue (is_one_value (range_of ends n prefix))) (sym (all key keyed.column)) single) part.order.down);
    }

pub reports_become_exact : StandingsBecomeExact → RangesBecomeExact → ReportsBecomeExact
reports_become_exact closed one part known keyed knows all row i =
    let from = chosen (listed part known) (is_told part known) (rows_of part.frame) row i in
    subst (λ z. IsExact part.order.down z) (sym from.same)
    (exact_row closed one part known keyed knows all from.element (of_table part.frame from.element from.is) from.passes)
