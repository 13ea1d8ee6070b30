-- The keys and rows of a run are told.
use Rattle.std.proofs.Common.{◌≡◌, ℕ, suc, ◌≤◌, ◌<◌, Bool, List, [], ◌∷◌, length, refl, sym, ap, subst, ◌∙◌, IsTrue, IsFalse}
use Rattle.daq_table.specs.Tables.{Frame, frame_of}
use Rattle.plane_schedule.specs.declared.policy.Plan.{Plan}
use Rattle.query_model.specs.Answers.{Key, groups_of}
use Rattle.query_model.specs.Groups.{IsKey}
use Rattle.query_model.specs.Queries.{Query}
use Rattle.query_model.specs.Validity.{IsTop}
use Rattle.query_model.specs.Worlds.{IsInResultOn}
use Rattle.sql_text.specs.declared.tree.Num.{Num}
use Rattle.sql_text.specs.Tree as tree
use Rattle.sql_typing.specs.Typing.{columns_of, typed_ending}
use Rattle.sql_meaning.proofs.Ordered.{orders_mean}
use Rattle.sql_meaning.proofs.Resulted.{results_mean}
use Rattle.table_rounds.specs.Headline.{IsKeyOn}
use Rattle.round_engine.specs.Cells.{absence_in_cell}
use Rattle.sql_headline.specs.Lines.{IsCellOf}
use Rattle.sql_headline.specs.Results.{KeysAreTold, RowsAreTold, TellsKeys, TellsRow}
use Rattle.sql_headline.specs.Worlds.{Run, stage_at}
use Rattle.sql_headline.proofs.Begun.{IsSure, Laws, agrees, certain, own_cell, sure}
use Rattle.table_rounds.proofs.Reached.{part_of}
use Rattle.query_model.specs.Bounds.{absence_of}

pub as_long : (frame : Frame) (cs : List ℕ) (key : Key) → IsKey frame cs key → length key ≡ length cs
as_long frame [] [] is = refl
as_long frame [] (k ∷ ks) is = absurd is
as_long frame (c ∷ cs) [] is = absurd is
as_long frame (c ∷ cs) (k ∷ ks) is = ap suc (as_long frame cs ks is.1)

module _ (law : Laws) (run : Run) (plan : Plan) (is : IsSure run plan) where
  -- what is told of a cell is told of its key
  pub absence_is : (key : Key) → IsKeyOn run.query (frame_of run.head) key → (round cell : ℕ) → round ≤ length run.reads → IsCellOf (stage_at run round) key cell
      → absence_in_cell (stage_at run round) cell ≡ absence_of run.query key (stage_at run round).frame (stage_at run round).known
  absence_is key on round cell h own =
      let has = (certain law run plan is).in_cells round h key on in
      ap (absence_in_cell (stage_at run round)) (own_cell (stage_at run round) key cell has own) ∙ has.speaks.absence

  pub tells_keys : (key : Key) → IsKeyOn run.query (frame_of run.head) key → TellsKeys run key
  tells_keys key on = record {
    present = λ round cell h own word world is_world.
        let told = (certain law run plan is).results round h key on in
        let result = told.told.there (sym (absence_is key on round cell h own) ∙ word) world (agrees law run plan is round h world is_world) in
        let groups = results_mean run.text run.head run.query world is.typed is_world.has_values in
        let at = groups.of_key key (as_long (part_of run.query (frame_of run.head)) (groups_of run.query.shape) key on) result in
        record { row = at.0; within = at.1; counts = at.2; same = at.3 };
    missing = λ round cell h own word world is_world found.
        let told = (certain law run plan is).results round h key on in
        let groups = results_mean run.text run.head run.query world is.typed is_world.has_values in
        told.told.absent (sym (absence_is key on round cell h own) ∙ word) world (agrees law run plan is round h world is_world)
        (subst (λ (k : Key). IsInResultOn run.query k (frame_of run.head) world) (sym found.same) (groups.of_row found.row found.within found.counts));
    exact = λ round cell h own done word.
        ((certain law run plan is).results round h key on).exact done (sym (absence_is key on round cell h own) ∙ word);
  }

  module _ (key : tree.Name) (down : Bool) (limit : Num) (row : ℕ) (ordered : run.text.ending ≡ tree.Ordered key down limit) (within : row < run.head.rows) where
    top : IsTop run.query.shape
    top = subst (λ (w : Query). IsTop w.shape) (sym is.typed.same) (subst (λ e. IsTop (typed_ending run.head.columns (columns_of run.head.columns run.text) e)) (sym ordered) tt)

    pub tells_row : TellsRow run key down limit row
    tells_row = record {
      certain = λ round h word world is_world.
          subst IsTrue (orders_mean run.text run.head run.query world key down limit row is.typed is_world.has_values within ordered)
          (((certain law run plan is).standings top round h row within).right.certain word world (agrees law run plan is round h world is_world));
      excluded = λ round h word world is_world.
          subst IsFalse (orders_mean run.text run.head run.query world key down limit row is.typed is_world.has_values within ordered)
          (((certain law run plan is).standings top round h row within).right.excluded word world (agrees law run plan is round h world is_world));
      exact = λ round h done. ((certain law run plan is).standings top round h row within).exact done;
    }

pub keys_told : Laws → KeysAreTold
keys_told law run plan key is on = tells_keys law run plan (sure law run plan is) key on

pub rows_told : Laws → RowsAreTold
rows_told law run plan key down limit row is ordered within = tells_row law run plan (sure law run plan is) key down limit row ordered within
