use Rattle.std.proofs.Common.{◌∙◌, ◌<◌, arith, inl, length, refl}
use Rattle.csv.specs.declared.parser.State.TheVariants as st
use Rattle.csv_load.proofs.LineFacts.{comma_field, field_begins, last_field, line_field, none_at_end}
use Rattle.csv_load.proofs.lines.read_line.Goals as goal

pub returns-then-at-text : goal.returns-then-at-text
returns-then-at-text c = c.line_start-at.ensures.passed ∙ none_at_end c.args.text.now c.line_start-at.result (omega (arith, c.if-at-text.true))

pub fields-init : goal.fields-init
fields-init c =
    let text = c.args.text.now in
    let at = c.line_start-at.result in
    let lt : at < length text = omega (arith, c.if-at-text.false, c.line_start-at.ensures.within) in
    record {
      within = c.line_start-at.ensures.within;
      read = rw c.clear.ensures (c.line_start-at.ensures.passed ∙ field_begins text at lt (c.line_start-at.ensures.no_return lt) (c.line_start-at.ensures.no_feed lt));
    }

pub returns-then-end-text : goal.returns-then-end-text
returns-then-end-text c =
    let text = c.args.text.now in
    let adds = c.in_ok-end.ensures in
    rw adds.added (record {
      within = adds.reads.within;
      state = st.StartRecord;
      between = inl refl;
      read = c.fields.invariant.read ∙ last_field text c.fields.fields c.fields.at adds.bytes c.in_ok-end.end adds.reads c.if-end-text.true;
    })

pub returns-then-text-end-ne44 : goal.returns-then-text-end-ne44
returns-then-text-end-ne44 c =
    let text = c.args.text.now in
    let adds = c.in_ok-end.ensures in
    let lt : c.in_ok-end.end < length text = omega (arith, c.if-end-text.false, adds.reads.within) in
    rw adds.added (line_field text c.fields.fields c.args.from c.fields.at adds.bytes c.in_ok-end.end adds.reads lt c.if-text-end-ne44.true c.fields.invariant.read)

pub fields-preserved : goal.fields-preserved
fields-preserved c =
    let text = c.args.text.now in
    let adds = c.in_ok-end.ensures in
    let lt : c.in_ok-end.end < length text = omega (arith, c.if-end-text.false, adds.reads.within) in
    record {
      within = omega (arith, lt);
      read = rw adds.added (c.fields.invariant.read ∙ comma_field text c.fields.fields c.fields.at adds.bytes c.in_ok-end.end adds.reads lt c.if-text-end-ne44.false);
    }
