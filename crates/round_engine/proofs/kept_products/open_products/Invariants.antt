use Rattle.std.proofs.Common.{take}
use Rattle.round_engine.specs.KeptProducts.{AreKeptProducts}
use Rattle.round_engine.proofs.kept_products.open_products.Given as goal

abbrev pub invariant-loop-i : goal.invariant-loop-i
invariant-loop-i l = AreKeptProducts l.columns (take l.i l.query.items) l.kept.items
