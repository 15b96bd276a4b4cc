use Rattle.std.proofs.Common.{◌∙◌}
use Rattle.cml_room.proofs.RaisedLemmas.{in_raised, in_now, from_now, removed_now, other_now, kept_now}
use Rattle.cml_room.proofs.queues.Queues.remove.Goals as goal

pub overflow_sub-number : goal.overflow_sub-number
overflow_sub-number c =
    from_now c.self.inside.first c.self.inside.dense c.args.self.now c.self.view_is c.args.row c.args.number c.requires

pub remove-requires : goal.remove-requires
remove-requires c =
    let from = from_now c.self.inside.first c.self.inside.dense c.args.self.now c.self.view_is c.args.row c.args.number c.requires in
    in_now c.self.inside.first c.self.inside.dense c.args.self.now c.self.view_is c.args.row c.args.number from ∙ c.requires

pub returns-clause-here : goal.returns-clause-here
returns-clause-here c =
    removed_now c.self.inside.first c.self.inside.dense c.args.self.now c.self.view_is c.remove.new.self c.args.row c.args.number
    c.remove.ensures.here

pub returns-clause-gone : goal.returns-clause-gone
returns-clause-gone c =
    let from = from_now c.self.inside.first c.self.inside.dense c.args.self.now c.self.view_is c.args.row c.args.number c.requires in
    in_raised c.self.inside.first c.remove.new.self c.args.row c.args.number from ∙ c.remove.ensures.gone

pub returns-clause-nowhere : goal.returns-clause-nowhere
returns-clause-nowhere c row =
    let from = from_now c.self.inside.first c.self.inside.dense c.args.self.now c.self.view_is c.args.row c.args.number c.requires in
    in_raised c.self.inside.first c.remove.new.self row c.args.number from ∙ c.remove.ensures.nowhere row

pub returns-clause-kept : goal.returns-clause-kept
returns-clause-kept c =
    let from = from_now c.self.inside.first c.self.inside.dense c.args.self.now c.self.view_is c.args.row c.args.number c.requires in
    kept_now c.self.inside.first c.self.inside.dense c.args.self.now c.self.view_is c.remove.new.self c.args.row c.args.number
    c.remove.ensures.kept from

pub returns-clause-others : goal.returns-clause-others
returns-clause-others c other apart =
    other_now c.self.inside.first c.self.inside.dense c.args.self.now c.self.view_is c.remove.new.self other
    (c.remove.ensures.others other apart)
