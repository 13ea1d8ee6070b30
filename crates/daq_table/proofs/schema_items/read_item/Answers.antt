use Rattle.daq_table.proofs.schema_items.read_item.Goals as goal

pub returns : goal.returns
returns c = let e = rw (c.around_first.ensures.before, c.around_first.ensures.after) at c.read_worded.ensures in e
