-- Sums of products that are kept of the items of a query without groups and order.
use Rattle.std.specs.Prelude.{List, IfSome}
use Rattle.std.specs.declared.option.Option.{Option}
use Rattle.known_column.specs.KnownTables.{KnownTable}
use Rattle.product_sums.specs.declared.kept_product.KeptProduct.{KeptProduct}
use Rattle.product_sums.specs.KeptProducts.{IsKeptProduct}
use Rattle.query_model.specs.Queries.{Aggregate}
use Rattle.round_engine.specs.Totals.{AreEach}

-- what is kept of the ends of an item's argument, if anything is, is that of these columns
abbrev pub AreKeptProducts : KnownTable → List Aggregate → List (Option KeptProduct) → Type 0
AreKeptProducts columns items kept = AreEach (λ i item product. IfSome product (IsKeptProduct columns item.arg)) items kept
