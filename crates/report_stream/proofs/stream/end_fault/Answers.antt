use Rattle.std.proofs.Common.{length, ◌≤◌, ℕ, List, sym, subst}
use Rattle.report_stream.proofs.Parts.{short_tag, still_open}
use Rattle.report_stream.proofs.stream.end_fault.Goals as goal

pub unreachable-requires : goal.unreachable-requires
unreachable-requires c =
    still_open c.args.combination.now c.requires.lines c.requires.text c.requires.stands c.requires.goes_on c.in-Ok.ensures.ended.0
    c.in-Ok.ensures.ended.1

pub ends_early-requires : goal.ends_early-requires
ends_early-requires c =
    subst (λ (t : List ℕ). length t ≤ 255) (sym c.tag_at.ensures)
    (short_tag c.args.combination.now c.requires.lines c.requires.text c.requires.stands c.requires.goes_on c.in-Err-EndsEarly.place)
