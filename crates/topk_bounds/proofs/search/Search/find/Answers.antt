use Rattle.std.proofs.Common.{arith}
use Rattle.topk_bounds.proofs.Searching.{counted_one_range, cut_found, whole_finds}
use Rattle.topk_bounds.proofs.search.Search.find.Goals as goal

pub returns-then-self-clause-found : goal.returns-then-self-clause-found
returns-then-self-clause-found c down counted among limit rows same has nested =
    whole_finds down c.args.key.now counted among limit c.args.self.now c.args.rivals c.copy_from.new.self c.read_planes-planes.ensures.known rows same has (omega (arith, c.if-self.true)) c.copy_from.ensures

pub settle-requires-clause-one_range : goal.settle-requires-clause-one_range
settle-requires-clause-one_range c = counted_one_range c.args.key.now c.args.self.now c.requires.searched (omega (arith, c.if-self.false)) c.args.rivals c.read_planes-planes.ensures.known

pub returns-clause-found : goal.returns-clause-found
returns-clause-found c down counted among limit rows same has nested =
    cut_found down c.args.key.now counted among limit c.args.self.now c.args.rivals c.settle.new.found c.read_planes-planes.ensures.known rows has (omega (arith, c.if-self.false)) c.settle.ensures.settles nested
