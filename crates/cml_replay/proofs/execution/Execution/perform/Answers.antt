use Rattle.std.proofs.Common.{ℕ, ◌+◌, ◌-◌, List, length, get_or, slice_set, refl, sym, ap, subst, ◌∙◌, arith}
use Rattle.std.proofs.lemmas.Option.{slice_get_within}
use Rattle.cml_board.specs.{Call, Reply, Entry}
use Rattle.cml_report.specs.{Binding, bound_by, with_binding}
use Rattle.cml_replay.specs.{Executed, Stands}
use Rattle.cml_board.specs.declared.entry.Who.TheVariants.{Seat}
use Rattle.cml_report.proofs.WholeLemmas.{whole_below}
use Rattle.cml_replay.proofs.StandLemmas.{new_play, is_performed, performs, stands_performed, count_fits}
use Rattle.cml_report.proofs.KeptLemmas.{bind_within}
use Rattle.cml_report.proofs.GivingLemmas.{next_is}
use Rattle.cml_replay.proofs.execution.Execution.perform.Goals as goal

pub overflow_add-index_mut : goal.overflow_add-index_mut
overflow_add-index_mut c =
    let steps = rw c.script.ensures at c.steps.ensures in
    let performed = is_performed _ c.args.self.now c.steps.result.now c.args.i c.index-steps-i.result c.in_ok-call.call c.self.view_is
    steps.lines steps.asked steps.threads c.requires.ready c.requires.declared c.in_ok-call.ensures.call in
    let small = count_fits _ _ _ _ c.index_mut.result.now c.self.invariant.0 performed.low performed.high c.index_mut.ensures.value
    (whole_below c.self.inside.board c.self.invariant.1 c.in-Answered.ensures.1) in
    omega (arith, small)

pub invariant_of-self : goal.invariant_of-self
invariant_of-self c =
    let steps = rw c.script.ensures at c.steps.ensures in
    let performed = is_performed _ c.args.self.now c.steps.result.now c.args.i c.index-steps-i.result c.in_ok-call.call c.self.view_is
    steps.lines steps.asked steps.threads c.requires.ready c.requires.declared c.in_ok-call.ensures.call in
    let answer = c.in-Answered.answer in
    let adds = c.in-Answered.ensures.5 in
    let entry : Entry (List ℕ) = record {
      who = Seat (get_or c.steps.result.now c.args.i c.index-steps-i.result).seat;
      call = c.in_ok-call.call;
      reply = answer.reply;
    } in
    let room = whole_below c.self.inside.board c.self.invariant.1 c.in-Answered.ensures.1 in (
      subst (λ (bs : List Binding).
          Stands (record { script = c.self.inside.plan; history = c.apply.new.self.history; limit = c.apply.new.self.limit })
          (slice_set c.self.inside.counts.items
          ((get_or c.steps.result.now c.args.i c.index-steps-i.result).seat - 1) (c.index_mut.result.now + 1)) bs)
          (sym (c.bind.ensures ∙ ap (λ (asked : Call (List ℕ)). with_binding c.self.inside.bindings.items c.given-given.result
          (bound_by asked c.reply.result.now)) (c.call-in-Answered.ensures ∙ c.in-Answered.ensures.3) ∙ ap (λ (r : Reply (List ℕ)).
          with_binding c.self.inside.bindings.items c.given-given.result (bound_by c.in_ok-call.call r)) c.reply.ensures))
          (stands_performed _ _ _ _ entry c.args.i _ c.index_mut.result.now c.given-given.result c.self.invariant.0
          (new_play c.self.inside.plan c.self.inside.board.history _ c.self.inside.board.limit _ entry adds.history adds.limit)
          c.in-Answered.ensures.0 room c.in-Answered.ensures.2 performed.declared
          (performed.step answer.reply) refl performed.low performed.high c.index_mut.ensures.value c.given-given.ensures),
      adds.past ∙ c.self.invariant.1,
    )

pub returns-in-Answered-clause-performed : goal.returns-in-Answered-clause-performed
returns-in-Answered-clause-performed c =
    let steps = rw c.script.ensures at c.steps.ensures in
    performs _ c.args.self.now _ c.args.i _ c.in_ok-call.call c.in-Answered.answer.reply c.self.view_is
    (new_play c.self.inside.plan c.self.inside.board.history _ c.self.inside.board.limit _ _
    c.in-Answered.ensures.5.history c.in-Answered.ensures.5.limit)
    (is_performed _ c.args.self.now c.steps.result.now c.args.i c.index-steps-i.result c.in_ok-call.call c.self.view_is
    steps.lines steps.asked steps.threads c.requires.ready c.requires.declared c.in_ok-call.ensures.call)

pub call-requires-clause-next : goal.call-requires-clause-next
call-requires-clause-next c =
    let ready = c.requires.ready in
    (ready.seat, next_is c.args.self.now.script c.args.self.now.history ready.seat c.args.i ready.asked ready.ready)

pub given-given-requires : goal.given-given-requires
given-given-requires c =
    let ready = c.requires.ready.ready in
    let within = slice_get_within c.args.self.now.script.steps c.args.i ready.line ready.found in
    omega (arith, within, ap (λ (p : Executed). length p.script.steps) c.self.view_is)

pub bind-requires : goal.bind-requires
bind-requires c =
    bind_within c.self.inside.plan _ _ c.args.i c.given-given.result c.self.invariant.0.known c.self.invariant.0.bound c.given-given.ensures
