use Rattle.table_rounds.proofs.Certain.{rounds_are_certain}
use Rattle.table_rounds.proofs.laws.rounds_are_certain.Goals as goal

pub returns : goal.returns
returns c = rounds_are_certain
    (record {
      values = c.completions_are_selections.ensures;
      cells = record {
        have = c.keys_have_cells.ensures;
        legal = c.legal_cells_have_keys.ensures;
        empty = c.illegal_cells_are_empty.ensures;
        ranges = c.keys_have_ranges.ensures;
        pairs = c.pairs_go_by_cells.ensures;
        tell = c.cells_tell_keys.ensures;
      };
      results = c.results_are_told_on_tables.ensures;
      words = c.words_become_exact.ensures;
      standings = c.standings_are_right_on_tables.ensures;
      settled = c.standings_become_exact.ensures;
      keep = c.standings_nest.ensures;
      agree = c.tables_agree.ensures;
      taking = c.planes_are_taken.ensures;
      contain = c.bounds_contain_on_tables.ensures;
      extremes = c.bounds_are_extremes_on_tables.ensures;
      exact = c.bounds_become_exact_on_tables.ensures;
      nest_ranges = c.ranges_nest.ensures;
      nest = c.bounds_nest.ensures;
      contain_averages = c.average_bounds_contain_on_tables.ensures;
      exact_averages = c.average_bounds_become_exact_on_tables.ensures;
      nest_averages = c.average_bounds_nest.ensures;
      clips = c.clips_are_certain.ensures;
      nest_clips = c.clips_nest.ensures;
      exact_ends = c.exact_averages_are_certain.ensures;
      nest_exact_ends = c.exact_averages_nest.ensures;
    })
