-- Places that are handed over one after the other.
use Rattle.std.proofs.Common.{ℕ, ◌+◌, List, sym, subst}
use Rattle.std.specs.declared.option.Option.{Option}
use Rattle.std.proofs.KnownBytes.{Appends-trans}
use Rattle.outer_world.proofs.Steps.{places_from-add}
use Rattle.outer_world.specs.Whole.{HandsOver, places_from}

pub handed_on : (place m n : ℕ) (old mid new : Option (List (ℕ × ℕ))) → HandsOver old mid (places_from place m) → HandsOver mid new (places_from (place + m) n) → HandsOver old new (places_from place (m + n))
handed_on place m n old mid new done next = subst (HandsOver old new) (sym (places_from-add place m n)) (Appends-trans _ _ _ _ _ done next)
