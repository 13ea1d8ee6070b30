-- Each head can be spelled, and goes behind those before it.
use Rattle.std.proofs.Common.{◌≡◌, ◌<◌, ◌+◌, ◌++◌, ◌∷◌, [], ℕ, List, Some, length, take, get_or, sym, ap, ◌∙◌, subst}
use Rattle.std.specs.Prelude.{slice_get}
use Rattle.std.proofs.lemmas.List.{flat_map_more, take_more}
use Rattle.std.proofs.lemmas.Option.{slice_get-get_or}
use Rattle.daq_table.specs.declared.head.ColumnHead.{ColumnHead}
use Rattle.plane_file.specs.Format.{column_bytes, heads_bytes}
use Rattle.plane_file.proofs.heads.spelled_heads.Goals as goal

-- the column at a place of the same list
column_there : (columns held : List ColumnHead) (place : ℕ) (column : ColumnHead) → held ≡ columns → place < length held → column ≡ get_or held place column →
    slice_get columns place ≡ Some column
column_there columns held place column same lt is = subst (λ l. slice_get l place ≡ Some column) same (slice_get-get_or held place column lt ∙ ap Some (sym is))

-- one head more
head_after : (columns : List ColumnHead) (place : ℕ) (column : ColumnHead) → place < length columns → column ≡ get_or columns place column →
    heads_bytes (take place columns) ++ column_bytes column ≡ heads_bytes (take (place + 1) columns)
head_after columns place column lt is =
    flat_map_more column_bytes [] (take place columns) column ∙ ap (λ c. heads_bytes (take place columns ++ c ∷ [])) is ∙ sym (ap heads_bytes (take_more columns place column lt))

pub push_column-requires : goal.push_column-requires
push_column-requires c = record {
  spelled = c.requires.spelled.each c.loop-column.column-index c.column-item.result (column_there _ _ _ _ c.as_slice-column-items.ensures c.loop-column-test.true c.column-item.is);
}

pub loop-column-preserved : goal.loop-column-preserved
loop-column-preserved c =
    c.in_ok-push_column.ensures ∙ ap (λ b. b ++ column_bytes c.column-item.result) c.loop-column.invariant
    ∙ head_after c.as_slice-column-items.result.now c.loop-column.column-index c.column-item.result c.loop-column-test.true c.column-item.is
