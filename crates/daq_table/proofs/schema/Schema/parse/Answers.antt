use Rattle.std.proofs.Common.{ℕ, List, length, sym, ap, subst, ◌∙◌, arith}
use Rattle.daq_table.proofs.Items.{length-declared, scales_fit}
use Rattle.daq_table.proofs.Kept.{columns_declared, names_differ}
use Rattle.daq_table.specs.Schemas.{AreItemsOf, IsFirstRepeat, columns_in, item_names, items_of, kept_places}
use Rattle.daq_table.specs.declared.schema_item.SchemaItem.{SchemaItem}
use Rattle.daq_table.proofs.schema.Schema.parse.Goals as goal

pub returns-then-len-gt64-clause-err : goal.returns-then-len-gt64-clause-err
returns-then-len-gt64-clause-err c =
    let read = subst (λ (t : List ℕ). AreItemsOf t c.in_ok-items.items.items) c.as_bytes.ensures.value c.in_ok-items.ensures.ok in
    let kept = c.in_ok-columns.ensures.columns ∙ ap columns_in (c.deref.ensures.value ∙ read.items_are) in
    record {
      good = read.good;
      count_is = omega (arith, c.len-then-len-gt64.ensures, c.in_ok-columns.columns.ok.0, ap length kept);
      many = omega (arith, c.len-then-len-gt64.ensures, c.len.ensures, c.if-len-gt64.true);
    }

pub returns-then-len-gt1024-clause-err : goal.returns-then-len-gt1024-clause-err
returns-then-len-gt1024-clause-err c =
    let items = c.in_ok-items.items in
    let read = subst (λ (t : List ℕ). AreItemsOf t items.items) c.as_bytes.ensures.value c.in_ok-items.ensures.ok in
    let kept = c.in_ok-columns.ensures.columns ∙ ap columns_in (c.deref.ensures.value ∙ read.items_are) in
    record {
      good = read.good;
      few = omega (arith, c.len.ensures, c.if-len-gt64.false, c.in_ok-columns.columns.ok.0, ap length kept);
      count_is = omega (arith, c.len-then-len-gt1024.ensures, items.ok.0, ap length read.items_are, length-declared 0 (items_of c.args.text.now) read.good);
      many = omega (arith, c.len-then-len-gt1024.ensures, c.len-2.ensures, c.if-len-gt1024.true);
    }

pub returns-then-len-eq0-clause-err : goal.returns-then-len-eq0-clause-err
returns-then-len-eq0-clause-err c =
    let items = c.in_ok-items.items in
    let read = subst (λ (t : List ℕ). AreItemsOf t items.items) c.as_bytes.ensures.value c.in_ok-items.ensures.ok in
    let kept = c.in_ok-columns.ensures.columns ∙ ap columns_in (c.deref.ensures.value ∙ read.items_are) in
    record {
      good = read.good;
      wide = omega (arith, c.len-2.ensures, c.if-len-gt1024.false, items.ok.0, ap length read.items_are, length-declared 0 (items_of c.args.text.now) read.good);
      none = omega (arith, c.len-3.ensures, c.if-len-eq0.true, c.in_ok-columns.columns.ok.0, ap length kept);
    }

pub returns-in-Some-clause-err : goal.returns-in-Some-clause-err
returns-in-Some-clause-err c =
    let items = c.in_ok-items.items in
    let read = subst (λ (t : List ℕ). AreItemsOf t items.items) c.as_bytes.ensures.value c.in_ok-items.ensures.ok in
    let kept = c.in_ok-columns.ensures.columns ∙ ap columns_in (c.deref.ensures.value ∙ read.items_are) in
    record {
      good = read.good;
      few = omega (arith, c.len.ensures, c.if-len-gt64.false, c.in_ok-columns.columns.ok.0, ap length kept);
      wide = omega (arith, c.len-2.ensures, c.if-len-gt1024.false, items.ok.0, ap length read.items_are, length-declared 0 (items_of c.args.text.now) read.good);
      some = omega (arith, c.len-3.ensures, c.if-len-eq0.false, c.in_ok-columns.columns.ok.0, ap length kept);
      repeat = subst (λ (xs : List SchemaItem). IsFirstRepeat (item_names xs) c.in-Some.first c.in-Some.second) (c.deref-2.ensures.value ∙ read.items_are) c.in-Some.ensures;
    }

pub invariant_of-result : goal.invariant_of-result
invariant_of-result c =
    let items = c.in_ok-items.items in
    let read = subst (λ (t : List ℕ). AreItemsOf t items.items) c.as_bytes.ensures.value c.in_ok-items.ensures.ok in
    let kept = c.in_ok-columns.ensures.columns ∙ ap columns_in c.deref.ensures.value in
    record {
      few = rw c.new.ensures (omega (arith, c.len.ensures, c.if-len-gt64.false, c.in_ok-columns.columns.ok.0));
      differ = rw (c.new.ensures, kept) (names_differ items.items (rw c.deref-2.ensures.value at c.in-None.ensures));
      scales = rw (c.new.ensures, kept, read.items_are, columns_declared (items_of c.args.text.now)) (scales_fit (items_of c.args.text.now));
      kept = c.new.ensures ∙ kept ∙ sym (ap columns_in c.new-in-None.ensures);
      placed = c.new-in-None-2.ensures ∙ c.in_ok-columns.ensures.places ∙ ap kept_places (c.deref.ensures.value ∙ sym c.new-in-None.ensures);
      wide = rw c.new-in-None.ensures (omega (arith, c.len-2.ensures, c.if-len-gt1024.false, items.ok.0));
    }
