use Rattle.std.proofs.Common.{◌≡◌, ◌+◌, ◌<◌, ◌≤◌, Some, length, sym, ap, subst, ◌∙◌, arith}
use Rattle.cml_log.specs.Log.{Log}
use Rattle.cml_log.specs.{IsOpen, owed_items, place_of, trimmed, with_place, end_of, chunk_of, log_of}
use Rattle.cml_log.proofs.LogLemmas.{place_of-owed}
use Rattle.cml_log.proofs.AheadLemmas.{IsAhead-moved}
use Rattle.cml_log.proofs.CursorsLemmas.{IsTidy-shown, place_shown}
use Rattle.cml_log.proofs.chunk_log.ChunkLogMessageLog.advance.Goals.{After-get-cursor}
use Rattle.cml_log.proofs.chunk_log.ChunkLogMessageLog.advance.Goals as goal

-- what the fields showed before the call
abbrev was : (g : _) (c : After-get-cursor g) → Log g.row.T.Denot
was g c = log_of g.row.N c.self.inside.chain c.self.inside.cursors

-- the key's cursor is at its place
stands : (g : _) (c : After-get-cursor g) → place_of (was g c) c.k.inside.0 ≡ c.get-cursor.result.place
stands g c =
    place_shown g.row.N c.self.inside.chain c.self.inside.cursors c.k.inside.0 c.get-cursor.result c.get-cursor.ensures

-- which isn't the end
below : (g : _) (c : After-get-cursor g) → c.get-cursor.result.place + 1 ≤ end_of g.row.N c.self.inside.chain
below g c =
    let trim = c.self.invariant.is_trim in
    let tidy = IsTidy-shown g.row.N c.self.inside.chain c.self.inside.cursors trim.is_held trim.trim in
    let opened = subst (λ m. IsOpen m.log c.args.k) (sym c.self.view_is) c.requires.opened in
    let owed = subst (λ m. 0 < length (owed_items m.log c.args.k)) (sym c.self.view_is) c.requires.owed in
    omega (arith, ap (place_of (was g c)) (sym c.k.view_is) ∙ stands g c, place_of-owed g.row.N (was g c) c.args.k tidy opened owed)

-- the place after it is the one that the contract names
goes_on : (g : _) (c : After-get-cursor g)
    → trimmed (chunk_of g.row.N) (with_place (was g c) c.k.inside.0 (Some (c.get-cursor.result.place + 1)))
    ≡ trimmed (chunk_of g.row.N) (with_place c.args.self.now.log c.args.k (Some (place_of c.args.self.now.log c.args.k + 1)))
goes_on g c =
    ap (λ p. trimmed (chunk_of g.row.N) (with_place (was g c) c.k.inside.0 (Some (p + 1)))) (sym (stands g c))
    ∙ ap (λ k. trimmed (chunk_of g.row.N) (with_place (was g c) k (Some (place_of (was g c) k + 1)))) c.k.view_is
    ∙ ap (λ m. trimmed (chunk_of g.row.N) (with_place m.log c.args.k (Some (place_of m.log c.args.k + 1)))) c.self.view_is

pub step-requires : goal.step-requires
step-requires g c =
    let at = goal.at.step-requires g c in (
      omega arith,
      (
        c.self.invariant.is_trim,
        (
          c.get-cursor.ensures,
          (
            below g at.After-get-cursor,
            IsAhead-moved g.row.N c.self.inside.chain c.self.inside.cursors c.k.inside.0 c.get-cursor.result
                (record { at = c.get-cursor.result.at; place = c.get-cursor.result.place + 1 }) c.self.invariant.is_ahead
                c.get-cursor.ensures (omega arith),
          ),
        ),
      ),
    )

pub returns-clause-log : goal.returns-clause-log
returns-clause-log g c = c.step.ensures.log ∙ goes_on g (goal.at.returns-clause-log g c).After-get-cursor
