use Rattle.std.proofs.Common.{◌∙◌, ℕ, Vec, Global}
use Rattle.csv_load.proofs.NumberFacts.{sorted_more}
use Rattle.csv_load.proofs.texts.Texts.dictionary.Goals as goal

pub loop-text-preserved : goal.loop-text-preserved
loop-text-preserved c = sorted_more (λ (k : Vec ℕ Global). k.items) c.loop-text.sorted.keys c.insert.new.self.keys c.as_slice-text-items.result.now c.loop-text.text-index c.text-item.result c.in_ok-from_slice.field-0
    c.loop-text.invariant c.loop-text-test.true c.text-item.is c.in_ok-insert.ensures.keys (c.in_ok-from_slice.ensures.items ∙ c.deref.ensures.value)
