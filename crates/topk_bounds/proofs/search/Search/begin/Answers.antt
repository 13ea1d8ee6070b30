use Rattle.topk_bounds.proofs.Searching.{search_begun}
use Rattle.topk_bounds.proofs.search.Search.begin.Goals as goal

pub returns-clause-searches : goal.returns-clause-searches
returns-clause-searches c down key = search_begun down key c.args.counted.now c.args.among.now c.args.limit c.begin-there.result c.begin-there.new.self c.requires.counted c.requires.some c.begin-there.ensures
