use Rattle.std.proofs.Common.{◌≡◌, ◌+◌, ◌-◌, unwrap_or, ap, subst, ◌∙◌, arith}
use Rattle.std.proofs.lemmas.List.{length-drop}
use Rattle.std.proofs.lemmas.Option.{slice_get_within}
use Rattle.cml_board.specs.{made, port}
use Rattle.cml_compact.specs.{stock}
use Rattle.cml_compact.specs.Stages.{begins_at}
use Rattle.cml_compact.specs.Stepping.{Changes}
use Rattle.cml_compact.proofs.StockLemmas.{open_begins, port_stock}
use Rattle.cml_compact.proofs.PassingLemmas.{passing, passes_of, counts_told, passing_answered, passing_next, passing_end}
use Rattle.cml_compact.proofs.settling.pass_over.Goals as goal

pub tell-requires-clause-answered : goal.tell-requires-clause-answered
tell-requires-clause-answered g c =
    let old = c.args.board.now.history in
    let own = passes_of old c.args.new.now c.args.name.0 c.requires.port c.requires.opened c.requires.sends in
    let counts = counts_told old c.args.new.now c.args.name.0 own.0 own.1 c.unwrap_or-more.result c.unwrap_or-left.result c.requires.lawful
    c.requires.kept own.2 c.requires.stocked (c.unwrap_or-more.ensures ∙ ap (λ n. unwrap_or n 0) c.owed_count.ensures)
    (c.unwrap_or-left.ensures ∙ ap (λ n. unwrap_or n 0) c.owed_count-2.ensures) in
    passing_answered old c.args.new.now c.loop-at.new c.args.name own.0 own.1 (c.loop-at._at - c.unwrap_or-left.result) c.requires.lawful
    own.2
    (omega (arith, counts.0, c.loop-at-test.true)) c.loop-at.invariant.changes

pub loop-at-preserved : goal.loop-at-preserved
loop-at-preserved g c =
    let old = c.args.board.now.history in
    let own = passes_of old c.args.new.now c.args.name.0 c.requires.port c.requires.opened c.requires.sends in
    let counts = counts_told old c.args.new.now c.args.name.0 own.0 own.1 c.unwrap_or-more.result c.unwrap_or-left.result c.requires.lawful
    c.requires.kept own.2 c.requires.stocked (c.unwrap_or-more.ensures ∙ ap (λ n. unwrap_or n 0) c.owed_count.ensures)
    (c.unwrap_or-left.ensures ∙ ap (λ n. unwrap_or n 0) c.owed_count-2.ensures) in
    let next : c.loop-at._at - c.unwrap_or-left.result + 1 ≡ c.loop-at._at + 1 - c.unwrap_or-left.result =
    omega (arith, c.loop-at.auto._at) in
    record {
      changes =
          subst (λ n. Changes c.args.new.now c.tell.new.new c.args.name.0 (passing old c.args.name.0 n)) next
          (passing_next old c.args.new.now c.loop-at.new c.tell.new.new c.args.who c.args.name own.0 own.1
          (c.loop-at._at - c.unwrap_or-left.result) c.requires.lawful own.2 (omega (arith, counts.0, c.loop-at-test.true))
          c.loop-at.invariant.changes
          c.in_ok-tell.ensures.ok);
      whose = λ before. c.in_ok-tell.ensures.whose (c.loop-at.invariant.whose before);
    }

pub returns-clause-ok : goal.returns-clause-ok
returns-clause-ok g c =
    let old = c.args.board.now.history in
    let own = passes_of old c.args.new.now c.args.name.0 c.requires.port c.requires.opened c.requires.sends in
    let counts = counts_told old c.args.new.now c.args.name.0 own.0 own.1 c.unwrap_or-more.result c.unwrap_or-left.result c.requires.lawful
    c.requires.kept own.2 c.requires.stocked (c.unwrap_or-more.ensures ∙ ap (λ n. unwrap_or n 0) c.owed_count.ensures)
    (c.unwrap_or-left.ensures ∙ ap (λ n. unwrap_or n 0) c.owed_count-2.ensures) in
    let fewer = (port_stock old c.args.name.0 own.0 own.1 c.requires.lawful own.2.begun c.requires.opened).0 in
    let stream = stock old own.0 in
    let begins = begins_at old own.0 c.args.name.0 in
    let within = slice_get_within (made old) c.args.name.0 (port own.0 own.1) own.2.begun in
    let less = open_begins old c.args.name.0 own.0 own.1 c.requires.lawful own.2.begun c.requires.opened within in
    passing_end old c.args.new.now c.loop-at.new c.args.name.0 own.0 own.1 (c.loop-at._at - c.unwrap_or-left.result) own.2 c.requires.port
    (omega (arith, fewer, less, length-drop begins stream, counts.0, counts.1, c.loop-at-test.false, c.loop-at.auto._at-end)) c.loop-at.invariant.changes
