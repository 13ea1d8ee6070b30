-- An item that has a clip, and its own bound.
use Rattle.std.specs.Prelude.{◌≡◌, ◌≢◌, [], Bool, true, false}
use Rattle.std.specs.declared.option.Option.TheVariants.{Some}
use Rattle.query_model.specs.declared.bounds.Bound.{Bound}
use Rattle.query_model.specs.declared.bounds.Nullity.{Nullity}
use Rattle.query_model.specs.declared.bounds.Nullity.TheVariants.{Never, Possibly, Always}
use Rattle.query_model.specs.declared.query.ItemKind.{ItemKind}
use Rattle.query_model.specs.declared.query.ItemKind.TheVariants.{Count, Sum, Min, Max, Avg}
use Rattle.query_model.specs.Bounds.{bound_under}
use Rattle.query_model.specs.Knowledge.{IsKnowledge}
use Rattle.query_model.specs.Queries.{Aggregate}
use Rattle.round_engine.specs.Stages.{Stage}
use Rattle.clip_bounds.specs.declared.clip.Clip.{Clip}
use Rattle.clip_bounds.specs.ClipLaws.{IsOfLongs}
use Rattle.clip_bounds.specs.Clips.{clip_of}

-- the item has this clip, over a column of numbers of 64 bits, and its own bound is this one
pub record IsItemWithClip (stage : Stage) (item : Aggregate) (clip : Clip) (plain : Bound) : Type 0 where
  pub has_clip : clip_of stage.query item ≡ Some clip
  pub longs : IsOfLongs stage.frame clip.column
  pub knowledge : IsKnowledge stage.frame stage.known
  pub bound : plain ≡ bound_under stage.query item [] stage.frame stage.known

-- it is a sum, and some row may give a value
pub record IsSumWithClip (stage : Stage) (item : Aggregate) (clip : Clip) (plain : Bound) : Type 0 where
  pub clipped : IsItemWithClip stage item clip plain
  pub kind : item.kind ≡ Sum
  pub some : plain.null ≢ Always

abbrev pub is_sum : ItemKind → Bool
is_sum Count = false
is_sum Sum = true
is_sum Min = false
is_sum Max = false
is_sum Avg = false

-- no row is certain
abbrev pub is_uncertain : Nullity → Bool
is_uncertain Never = false
is_uncertain Possibly = true
is_uncertain Always = true

-- no row may give a value
abbrev pub is_always : Nullity → Bool
is_always Never = false
is_always Possibly = false
is_always Always = true
