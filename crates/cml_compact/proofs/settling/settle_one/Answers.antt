use Rattle.cml_compact.proofs.StagesLemmas.{half_sent, source_within}
use Rattle.cml_compact.proofs.settling.settle_one.Goals as goal

pub pass_over-requires-clause-sends : goal.pass_over-requires-clause-sends
pass_over-requires-clause-sends g c =
    half_sent _ c.args.board.now.history c.args.new.now c.args.name.0 _ c.requires.half
    (source_within c.args.board.now.history c.args.name.0 c.requires.lawful c.requires.within)
