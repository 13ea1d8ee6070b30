use Rattle.std.proofs.Common.{sym, refl, ◌∙◌}
use Rattle.std.proofs.lemmas.Result.{err_from_is_err_and}
use Rattle.std.specs.List.{list_all}
use Rattle.report_parts.proofs.Courses.{left_less, moves_none, round_stands, rounds_move, rounds_rest, rounds_stop, still_goes, wrote_over}
use Rattle.report_parts.specs.Rounds.{has_block}
use Rattle.report_parts.proofs.combination.Combination.write.Goals as goal

pub returns-then-is_over_before-clause-written : goal.returns-then-is_over_before-clause-written
returns-then-is_over_before-clause-written c =
    wrote_over c.args.self.now c.finish.new.self c.last_end-end.result c.finish.result c.args.text.now.items c.finish.new.text.items c.finish.ensures.task
    c.last_end-end.ensures (sym c.if-is_over_before.ensures) c.finish.ensures.ended c.finish.ensures.put

pub rounds-init : goal.rounds-init
rounds-init c = record {
  task = refl;
  moves = λ wholes before ahead. moves_none c.args.self.now wholes before c.args.text.now.items c.requires ahead (sym c.if-is_over_before.ensures);
  goes = λ e. sym c.if-is_over_before.ensures;
}

pub rounds-smaller : goal.rounds-smaller
rounds-smaller c =
    let stands = round_stands c.rounds.self.end (list_all (has_block c.rounds.self.round) c.rounds.self.parts) (sym c.rounds-test.ensures) in
    left_less c.rounds.self c.write_round.new.self stands.0 (c.rounds.invariant.goes stands.0) stands.1 c.in_ok-write_round.ensures.goes

pub rounds-preserved : goal.rounds-preserved
rounds-preserved c =
    let stands = round_stands c.rounds.self.end (list_all (has_block c.rounds.self.round) c.rounds.self.parts) (sym c.rounds-test.ensures) in
    record {
      task = c.write_round.ensures.task ∙ c.rounds.invariant.task;
      moves = rounds_move c.args.self.now c.rounds.self c.write_round.new.self c.args.text.now.items c.rounds.text.items c.write_round.new.text.items stands.0
          c.rounds.invariant.moves c.in_ok-write_round.ensures.written;
      goes = λ e. still_goes c.rounds.self c.write_round.new.self (c.in_ok-write_round.ensures.goes e);
    }

pub returns-in_err-write_round-clause-fault : goal.returns-in_err-write_round-clause-fault
returns-in_err-write_round-clause-fault c =
    let stands = round_stands c.rounds.self.end (list_all (has_block c.rounds.self.round) c.rounds.self.parts) (sym c.rounds-test.ensures) in
    let p = err_from_is_err_and c.from_residual.result c.from_residual.ensures.1 in
    rw (p.1, p.2)
    (rounds_stop c.in_err-write_round.field-0.0 c.args.self.now c.rounds.self c.args.text.now.items c.rounds.text.items c.write_round.new.text.items
    c.rounds.invariant.task stands.0 c.rounds.invariant.moves c.in_err-write_round.ensures.fault)

pub returns-clause-written : goal.returns-clause-written
returns-clause-written c =
    rounds_rest c.args.self.now c.rounds.self c.args.text.now.items c.rounds.text.items (sym c.rounds-test.ensures) c.rounds.invariant.moves
