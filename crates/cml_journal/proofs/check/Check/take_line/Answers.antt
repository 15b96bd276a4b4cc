use Rattle.std.proofs.Common.{◌≡◌, ℕ, ◌+◌, ◌%◌, ◌^◌, [], Option, OnSome, slice_get, ap, subst, ◌∙◌, refl}
use Rattle.cml_board.specs.{Entry}
use Rattle.std.proofs.lemmas.Result.{err_from_is_err_and}
use Rattle.cml_journal.specs.{Progress}
use Rattle.cml_journal.proofs.CheckLemmas.{goes_past_line, goes_past_entry_to, halts_at_fault, halts_at_entry, lists_found}
use Rattle.cml_journal.proofs.check.Check.take_line.Goals.{After-next}
use Rattle.cml_journal.proofs.check.Check.take_line.Goals as goal

-- the check before this line
abbrev was : (g : _) (c : After-next g) → Progress g.row.M.Denot
was g c = record {
  state = c.self.inside.reader;
  checker = c.self.inside.checker.value;
  halt = c.self.inside.halt;
  last = slice_get c.self.inside.entry.items 0;
}

pub returns-in-Err-clause-halted : goal.returns-in-Err-clause-halted
returns-in-Err-clause-halted g c =
    let old = was g (goal.at.returns-in-Err-clause-halted g c).After-next in
    rw (← c.self.view_is) (halts_at_fault g.M.Written.VERSION g.M.Written.meaning _ old (record old { state = c.next.new.self })
    c.args.bytes.now c.in-Err.unread c.of_unread.result c.of_unread.ensures c.in-Err.ensures.fault refl
    (ap (λ (n : ℕ). (n + 1) % 2 ^ 64) c.lines-line.ensures))

pub returns-in_err-feed-clause-halted : goal.returns-in_err-feed-clause-halted
returns-in_err-feed-clause-halted g c =
    let old = was g (goal.at.returns-in_err-feed-clause-halted g c).After-next in
    let p = err_from_is_err_and c.from_residual.result c.from_residual.ensures.1 in
    let (taken, cut, read) = c.in-Ok.ensures.taken in
    let ended =
    subst (λ (found : Option (Entry g.row.M.Denot)). OnSome found (c.next.new.self.line ≡ [])) c.in-Some.is c.in-Ok.ensures.ended in
    rw (p.1, p.2, ← c.self.view_is) (halts_at_entry g.M.Written.VERSION g.M.Written.meaning old c.feed.new.self c.next.new.self
    c.args.bytes.now taken c.in-Ok.read.1.now c.in-Some.entry c.in_err-feed.field-0.0
    cut (read ∙ lists_found c.next.new.self c.in-Some.is) ended c.feed.ensures.state c.in_err-feed.ensures.halted)

pub returns-in_default-clause-taken : goal.returns-in_default-clause-taken
returns-in_default-clause-taken g c =
    let old = was g (goal.at.returns-in_default-clause-taken g c).After-next in
    let (taken, cut, read) = c.in-Ok.ensures.taken in
    rw (← c.self.view_is) (
      taken,
      cut,
      goes_past_line g.M.Written.VERSION g.M.Written.meaning old (record old { state = c.next.new.self }) taken
          (read ∙ lists_found c.next.new.self c.in_default.is) refl refl,
    )

pub returns-clause-taken : goal.returns-clause-taken
returns-clause-taken g c =
    let old = was g (goal.at.returns-clause-taken g c).After-next in
    let (taken, cut, read) = c.in-Ok.ensures.taken in
    rw (← c.self.view_is) (
      taken,
      cut,
      goes_past_entry_to g.M.Written.VERSION g.M.Written.meaning old c.next.new.self c.feed.new.self taken c.in-Some.entry
          (read ∙ lists_found c.next.new.self c.in-Some.is) c.feed.ensures.state c.in_ok-feed.ensures.fed c.in_ok-feed.ensures.halt,
    )
