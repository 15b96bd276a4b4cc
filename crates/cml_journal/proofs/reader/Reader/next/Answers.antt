use Rattle.std.proofs.Common.{rules, true, ℕ, ◌∷◌, ◌++◌, [], List, ap, sym, subst, ◌∙◌, append_assoc}
use Rattle.std.proofs.lemmas.Result.{err_from_is_err_and}
use Rattle.cml_journal.specs.{Meets, State, reading}
use Rattle.cml_journal.proofs.FeedLemmas.{reading-held, reading-over, alone, fault_held, fault_front, fault_turned, taken_line, taken_zero}
use Rattle.cml_journal.proofs.LineEndsLemmas.{line_end_is, nothing_left}
use Rattle.cml_journal.proofs.reader.Reader.next.Goals as goal

pub returns-then-self-clause-taken : goal.returns-then-self-clause-taken
returns-then-self-clause-taken g c =
    let bytes = c.args.bytes.now in
    (bytes, sym (nothing_left bytes), reading-over g.M.Written.VERSION g.M.Written.meaning c.args.self.now bytes (search rules))

pub returns-then-cut-eq0-clause-taken : goal.returns-then-cut-eq0-clause-taken
returns-then-cut-eq0-clause-taken g c =
    let bytes = c.args.bytes.now in
    let cut = c.in-Some.cut in (
      bytes,
      sym (nothing_left bytes),
      ap (reading g.M.Written.VERSION g.M.Written.meaning c.args.self.now) (c.in-Some.ensures.0
          ∙ ap (λ (b : ℕ). cut.front.now ++ b ∷ cut.rest.now) c.if-cut-eq0.true)
          ∙ taken_zero g.M.Written.VERSION g.M.Written.meaning c.args.self.now c.hold-2.new.self _ cut.front.now cut.rest.now
          (search rules) c.hold-2.ensures.short c.in-Some.ensures.1 c.in_ok-hold-2.ensures.held (search rules)
          (ap (λ (s : State). record s { over = true }) c.self-2.view_is),
    )

pub returns-in_err-hold-clause-fault : goal.returns-in_err-hold-clause-fault
returns-in_err-hold-clause-fault g c =
    let p = err_from_is_err_and c.from_residual.result c.from_residual.ensures.1 in
    rw (p.1, p.2) (fault_held g.M.Written.VERSION g.M.Written.meaning c.args.self.now c.hold.new.self c.args.bytes.now
    c.in_err-hold.field-0.0 (search rules) c.hold.ensures.short c.in_default.ensures c.in_err-hold.ensures.held c.in_err-hold.ensures.leaves)

pub returns-in_default-clause-taken : goal.returns-in_default-clause-taken
returns-in_default-clause-taken g c =
    let bytes = c.args.bytes.now in (
      bytes,
      sym (nothing_left bytes),
      reading-held g.M.Written.VERSION g.M.Written.meaning c.args.self.now bytes (search rules) c.hold.ensures.short c.in_default.ensures
          ∙ ap alone c.in_ok-hold.ensures.held,
    )

pub returns-in_err-hold-2-clause-fault : goal.returns-in_err-hold-2-clause-fault
returns-in_err-hold-2-clause-fault g c =
    let p = err_from_is_err_and c.from_residual-in_err-hold-2.result c.from_residual-in_err-hold-2.ensures.1 in
    let cut = c.in-Some.cut in
    let fault = fault_front g.M.Written.VERSION g.M.Written.meaning c.args.self.now c.hold-2.new.self cut.front.now (cut.end ∷ cut.rest.now)
    c.in_err-hold-2.field-0.0 (search rules) c.hold-2.ensures.short c.in-Some.ensures.1 c.in_err-hold-2.ensures.held
    c.in_err-hold-2.ensures.leaves in
    rw (p.1, p.2) (subst (λ (bytes : List ℕ). Meets g.M.Written.VERSION g.M.Written.meaning c.args.self.now bytes c.hold-2.new.self
    c.in_err-hold-2.field-0.0)
    (sym c.in-Some.ensures.0) fault)

pub returns-in_err-entry-clause-fault : goal.returns-in_err-entry-clause-fault
returns-in_err-entry-clause-fault g c =
    let p = err_from_is_err_and c.from_residual-in_err-entry.result c.from_residual-in_err-entry.ensures.1 in
    let cut = c.in-Some.cut in
    let ended = line_end_is cut.end c.in-Some.ensures.2 c.if-cut-eq0.false in
    let fault = fault_turned g.M.Written.VERSION g.M.Written.meaning c.args.self.now c.hold-2.new.self c.turn.new.self
    cut.front.now cut.rest.now c.in_err-entry.field-0.0 (search rules) c.hold-2.ensures.short c.in-Some.ensures.1
    c.in_ok-hold-2.ensures.held c.hold-2.ensures.line c.in_err-entry.ensures.turned c.in_err-entry.ensures.stays in
    rw (p.1, p.2) (subst (λ (bytes : List ℕ). Meets g.M.Written.VERSION g.M.Written.meaning c.args.self.now bytes c.turn.new.self
    c.in_err-entry.field-0.0)
    (sym (c.in-Some.ensures.0 ∙ ap (λ (b : ℕ). cut.front.now ++ b ∷ cut.rest.now) ended)) fault)

pub returns-clause-taken : goal.returns-clause-taken
returns-clause-taken g c =
    let cut = c.in-Some.cut in
    let front = cut.front.now in
    let ended = line_end_is cut.end c.in-Some.ensures.2 c.if-cut-eq0.false in (
      front ++ 10 ∷ [],
      c.in-Some.ensures.0 ∙ ap (λ (b : ℕ). front ++ b ∷ cut.rest.now) ended ∙ sym (append_assoc front (10 ∷ []) cut.rest.now),
      taken_line g.M.Written.VERSION g.M.Written.meaning c.args.self.now c.hold-2.new.self c.turn.new.self c.in_ok-entry.entry front
          (search rules) c.hold-2.ensures.short c.in-Some.ensures.1 c.in_ok-hold-2.ensures.held c.in_ok-entry.ensures.turned,
    )
