-- Ends that some shards report.
use Rattle.std.specs.Prelude.{ℤ, pos, int_le, Bool, true, false, List}
use Rattle.std.specs.declared.option.Option.{Option}
use Rattle.std.specs.declared.option.Option.TheVariants.{Some, None}
use Rattle.std.specs.Int.{int_min, int_max}
use Rattle.std.specs.List.{filter_map}
use Rattle.query_model.specs.declared.bounds.Bound.{Bound}
use Rattle.query_model.specs.declared.bounds.Nullity.{Nullity}
use Rattle.query_model.specs.declared.bounds.Nullity.TheVariants.{Never, Possibly, Always}
use Rattle.shard_bounds.specs.declared.ends.End.{End}
use Rattle.shard_bounds.specs.declared.ends.Test.{Test}
use Rattle.shard_bounds.specs.declared.ends.Test.TheVariants.{IsCertain, KeepsLow, KeepsHigh}
use Rattle.shard_bounds.specs.declared.ends.End.TheVariants.{RowsLow, RowsHigh, Low, High, CertainLow, CertainHigh, LowShare, HighShare}

-- one of three by the word on NULL
abbrev pub by_word : Nullity → Option ℤ → Option ℤ → Option ℤ
by_word Never certain possible = certain
by_word Possibly certain possible = possible
by_word Always certain possible = None

-- an end of a shard, if the shard has it
abbrev pub end_of : End → Bound → Option ℤ
end_of RowsLow bound = Some bound.lo
end_of RowsHigh bound = Some bound.hi
end_of Low bound = by_word bound.null (Some bound.lo) (Some bound.lo)
end_of High bound = by_word bound.null (Some bound.hi) (Some bound.hi)
end_of CertainLow bound = by_word bound.null (Some bound.lo) None
end_of CertainHigh bound = by_word bound.null (Some bound.hi) None
end_of LowShare bound = by_word bound.null (Some bound.lo) (Some (int_min bound.lo (pos 0)))
end_of HighShare bound = by_word bound.null (Some bound.hi) (Some (int_max bound.hi (pos 0)))

abbrev pub ends_of : End → List Bound → List ℤ
ends_of end bounds = filter_map (end_of end) bounds

-- by the word on NULL, whether something holds of a shard
abbrev pub keeps_by : Nullity → Bool → Bool
keeps_by Never possible = true
keeps_by Possibly possible = possible
keeps_by Always possible = false

abbrev pub holds_of : Test → Bound → Bool
holds_of IsCertain bound = keeps_by bound.null false
holds_of KeepsLow bound = keeps_by bound.null (int_le bound.lo (pos 0))
holds_of KeepsHigh bound = keeps_by bound.null (int_le (pos 0) bound.hi)
