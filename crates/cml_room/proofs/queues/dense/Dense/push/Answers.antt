use Rattle.cml_room.proofs.RowsLemmas.{linked}
use Rattle.cml_room.proofs.ShownLemmas.{append_last, pushes, here_is, others_are}
use Rattle.cml_room.proofs.queues.dense.Dense.push.Goals as goal

pub append-requires-clause-last : goal.append-requires-clause-last
append-requires-clause-last c =
    append_last _ _ _ c.self.view_is c.self.invariant _ c.args.number _ _ c.deref_mut.ensures.value c.index_mut.ensures.value c.requires.row

pub invariant_of-self : goal.invariant_of-self
invariant_of-self c =
    let pushed =
    pushes _ _ _ c.self.view_is c.self.invariant _ _ _ _ c.deref_mut.ensures.value c.index_mut.ensures.value _ _ _ c.self.inside.links.ok.0
    c.append.ensures.links c.append.ensures.ends c.requires.row c.requires.within c.requires.nowhere in
    linked _ _ _ pushed

pub returns-clause-here : goal.returns-clause-here
returns-clause-here c =
    let pushed =
    pushes _ _ _ c.self.view_is c.self.invariant _ _ _ _ c.deref_mut.ensures.value c.index_mut.ensures.value _ _ _ c.self.inside.links.ok.0
    c.append.ensures.links c.append.ensures.ends c.requires.row c.requires.within c.requires.nowhere in
    here_is _ _ _ _ _ pushed c.requires.row

pub returns-clause-others : goal.returns-clause-others
returns-clause-others c =
    let pushed =
    pushes _ _ _ c.self.view_is c.self.invariant _ _ _ _ c.deref_mut.ensures.value c.index_mut.ensures.value _ _ _ c.self.inside.links.ok.0
    c.append.ensures.links c.append.ensures.ends c.requires.row c.requires.within c.requires.nowhere in
    others_are _ _ _ _ _ pushed
