use Rattle.std.proofs.Common.{rules, arith, ◌<◌, length, ◌++◌, [], ℕ, List, sym, subst, append-nil}
use Rattle.std.proofs.lemmas.Result.{err_from_is_err_and}
use Rattle.std.proofs.KnownBytes.{Consumes-nil, Consumes-trans}
use Rattle.cml_journal.specs.{IsSoFar}
use Rattle.cml.specs.{ending_of}
use Rattle.cml.proofs.EndingsLemmas.{concludes_in_front, concludes_without, concludes_short, concludes_early, concludes_at_end, so_on}
use Rattle.cml.proofs.check.checking.check_all.Goals as goal

pub returns-in_err-check : goal.returns-in_err-check
returns-in_err-check g c =
    let p = err_from_is_err_and c.from_residual.result c.from_residual.ensures.1 in
    rw (p.1, p.2) (concludes_without g.M.Written.VERSION g.M.Written.meaning g.M.Written.text c.args.wanted c.args.front.now
    (g.R.Read.remaining c.args.input.now) c.requires)

pub returns-then-front-lt-FRONT : goal.returns-then-front-lt-FRONT
returns-then-front-lt-FRONT g c =
    let few : length c.args.front.now < 15 = search rules in
    concludes_short g.M.Written.VERSION g.M.Written.meaning g.M.Written.text c.args.wanted c.in_ok-check.check c.go_on.new.check
    c.args.front.now (g.R.Read.remaining c.args.input.now)
    (ending_of c.end_of.result) c.requires few c.in_ok-check.ensures c.in_ok-go_on.ensures.taken c.end_of.ensures

pub returns-in_err-go_on : goal.returns-in_err-go_on
returns-in_err-go_on g c =
    let p = err_from_is_err_and c.from_residual-in_err-go_on.result c.from_residual-in_err-go_on.ensures.1 in
    rw (p.1, p.2)
    (concludes_in_front g.M.Written.VERSION g.M.Written.meaning g.M.Written.text c.args.wanted c.in_ok-check.check c.args.front.now
    (g.R.Read.remaining c.args.input.now) c.in_err-go_on.field-0.0 c.requires c.in_ok-check.ensures c.in_err-go_on.ensures.ended)

pub loop-init : goal.loop-init
loop-init g c = record {
  can = search rules;
  ends = search rules;
  room = search rules;
  long = omega (arith, c.requires.most);
  bytes = [];
  given = Consumes-nil (g.R.Read.remaining c.args.input.now);
  so = subst (λ (b : List ℕ). IsSoFar g.M.Written.VERSION g.M.Written.meaning b c.go_on.new.check) (sym (append-nil c.args.front.now))
      (c.in_ok-go_on.ensures.taken [] c.in_ok-check.ensures);
}

pub returns-in_err-take_some : goal.returns-in_err-take_some
returns-in_err-take_some g c =
    let p = err_from_is_err_and c.from_residual-in_err-take_some.result c.from_residual-in_err-take_some.ensures.1 in
    let (more, given, ends) = c.in_err-take_some.ensures.ended in
    rw (p.1, p.2) (concludes_early g.M.Written.VERSION g.M.Written.meaning g.M.Written.text c.args.wanted c.loop.check
    c.args.front.now c.loop.invariant.bytes more
    (g.R.Read.remaining c.args.input.now) (g.R.Read.remaining c.loop.input)
    (g.R.Read.remaining c.take_some.new.input) c.in_err-take_some.field-0.0
    c.loop.invariant.long c.loop.invariant.given given c.loop.invariant.so ends)

pub returns-then-branch : goal.returns-then-branch
returns-then-branch g c =
    let (more, given, goes) = c.in_ok-take_some.ensures.taken in
    concludes_at_end g.M.Written.VERSION g.M.Written.meaning g.M.Written.text c.args.wanted c.loop.check c.take_some.new.check
    c.args.front.now c.loop.invariant.bytes more
    (g.R.Read.remaining c.args.input.now) (g.R.Read.remaining c.loop.input) (g.R.Read.remaining c.take_some.new.input)
    (ending_of c.end_of-then-branch.result)
    c.loop.invariant.long c.loop.invariant.given given c.loop.invariant.so goes
    (c.in_ok-take_some.ensures.end c.if-branch.true) c.end_of-then-branch.ensures

pub loop-preserved : goal.loop-preserved
loop-preserved g c =
    let (more, given, goes) = c.in_ok-take_some.ensures.taken in record {
      can = search rules;
      ends = search rules;
      room = search rules;
      long = c.loop.invariant.long;
      bytes = c.loop.invariant.bytes ++ more;
      given = Consumes-trans (g.R.Read.remaining c.args.input.now) (g.R.Read.remaining c.loop.input)
          (g.R.Read.remaining c.take_some.new.input) c.loop.invariant.bytes more c.loop.invariant.given given;
      so = so_on g.M.Written.VERSION g.M.Written.meaning g.M.Written.text c.loop.check c.take_some.new.check c.args.front.now
          c.loop.invariant.bytes more c.loop.invariant.so goes;
    }
