use Rattle.cml_compact.proofs.StagesLemmas.{all_by_none}
use Rattle.cml_compact.proofs.SettlingLemmas.{compacts_told}
use Rattle.cml_compact.proofs.compacting.compact.Goals as goal

pub returns-clause-ok : goal.returns-clause-ok
returns-clause-ok g c =
    compacts_told c.args.board.now c.send_all.new.new.limit c.settle_all.new.new c.facts.ensures.sound.lawful
    c.in_ok-settle_all.ensures.ok

pub returns-clause-whose : goal.returns-clause-whose
returns-clause-whose g c =
    c.settle_all.ensures.whose
    (c.send_all.ensures.whose (c.make_all.ensures.whose (all_by_none c.args.who c.in-Ok-with_capacity.new.history c.in-Ok-with_capacity.ensures.history)))
