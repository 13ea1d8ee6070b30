use Rattle.table_rounds.proofs.Narrow.{full_stages_are_narrow}
use Rattle.table_rounds.proofs.laws.full_stages_are_narrow.Goals as goal

pub returns : goal.returns
returns c = full_stages_are_narrow
    (record {
      words = c.words_become_exact.ensures;
      ends = c.ends_meet.ensures;
      averages = c.average_ends_meet.ensures;
      words_of_cells = c.words_of_cells_become_exact.ensures;
      ends_of_cells = c.ends_of_cells_meet.ensures;
      averages_of_cells = c.average_ends_of_cells_meet.ensures;
      standings = c.standings_become_exact.ensures;
      keys = c.keys_become_exact.ensures;
    })
