use Rattle.std.proofs.Common.{◌≡◌, ◌+◌, ◌-◌, ◌*◌, ◌<◌, ◌≤◌, Some, set, drop, length, count_by, is_some, refl, sym, ap, subst, ◌∙◌, arith}
use Rattle.std.specs.List.{slice_get}
use Rattle.std.proofs.Math.Nat.{mod-lt}
use Rattle.std.proofs.lemmas.Bool.{false≢true}
use Rattle.cml_log.specs.Log.{Log}
use Rattle.cml_log.specs.{IsOpen, owed_items, cursor_count, place_of, trimmed, with_place, end_of, IsAhead, IsTrim, chunk_of, log_of}
use Rattle.cml_log.proofs.LogLemmas.{place_of-owed}
use Rattle.cml_log.proofs.StandingLemmas.{count_places}
use Rattle.cml_log.proofs.AheadLemmas.{IsAhead-taken, IsTrim-taken, sole_head, sole_left, sole_written}
use Rattle.cml_log.proofs.CursorsLemmas.{IsTidy-shown, peeked, place_shown}
use Rattle.cml_log.proofs.chunk_log.ChunkLogMessageLog.take.Goals.{After-len, After-get-cursor}
use Rattle.cml_log.proofs.chunk_log.ChunkLogMessageLog.take.Goals as goal

-- what the fields showed before the call
abbrev was : (g : _) (c : After-get-cursor g) → Log g.row.T.Denot
was g c = log_of g.row.N c.self.inside.chain c.self.inside.cursors

-- the key's cursor is at its place
stands : (g : _) (c : After-get-cursor g) → place_of (was g c) c.k.inside.0 ≡ c.get-cursor.result.place
stands g c =
    place_shown g.row.N c.self.inside.chain c.self.inside.cursors c.k.inside.0 c.get-cursor.result c.get-cursor.ensures

-- which isn't the end
below : (g : _) (c : After-get-cursor g) → c.get-cursor.result.place + 1 ≤ end_of g.row.N c.self.inside.chain
below g c =
    let trim = c.self.invariant.is_trim in
    let tidy = IsTidy-shown g.row.N c.self.inside.chain c.self.inside.cursors trim.is_held trim.trim in
    let opened = subst (λ m. IsOpen m.log c.args.k) (sym c.self.view_is) c.requires.opened in
    let owed = subst (λ m. 0 < length (owed_items m.log c.args.k)) (sym c.self.view_is) c.requires.owed in
    omega (arith, ap (place_of (was g c)) (sym c.k.view_is) ∙ stands g c, place_of-owed g.row.N (was g c) c.args.k tidy opened owed)

-- the place after it is the one that the contract names
goes_on : (g : _) (c : After-get-cursor g)
    → trimmed (chunk_of g.row.N) (with_place (was g c) c.k.inside.0 (Some (c.get-cursor.result.place + 1)))
    ≡ trimmed (chunk_of g.row.N) (with_place c.args.self.now.log c.args.k (Some (place_of c.args.self.now.log c.args.k + 1)))
goes_on g c =
    ap (λ p. trimmed (chunk_of g.row.N) (with_place (was g c) c.k.inside.0 (Some (p + 1)))) (sym (stands g c))
    ∙ ap (λ k. trimmed (chunk_of g.row.N) (with_place (was g c) k (Some (place_of (was g c) k + 1)))) c.k.view_is
    ∙ ap (λ m. trimmed (chunk_of g.row.N) (with_place m.log c.args.k (Some (place_of m.log c.args.k + 1)))) c.self.view_is

-- it is the only one
sole : (g : _) (c : After-get-cursor g) → count_by is_some c.self.inside.cursors ≡ 1
sole g c = sym c.len.ensures ∙ c.if-len-ne1.false

counts : (g : _) (c : After-len g) → cursor_count c.args.self.now.log ≡ c.len.result
counts g c =
    sym (ap (λ m. cursor_count m.log) c.self.view_is) ∙ count_places c.self.inside.cursors ∙ sym c.len.ensures

pub returns-then-len-ne1-clause-sole : goal.returns-then-len-ne1-clause-sole
returns-then-len-ne1-clause-sole g c =
    let same = counts g (goal.at.returns-then-len-ne1-clause-sole g c).After-len in
    (λ some. absurd (false≢true some), λ one. absurd (c.if-len-ne1.true (sym same ∙ one)))

pub returns-clause-sole : goal.returns-clause-sole
returns-clause-sole g c =
    let same = counts g (goal.at.returns-clause-sole g c).After-len in
    (λ some. same ∙ c.if-len-ne1.false, λ one. refl)

pub take-item-requires : goal.take-item-requires
take-item-requires g c =
    let at = goal.at.take-item-requires g c in
    let trim = c.self.invariant.is_trim in
    let held = trim.is_held.held c.k.inside.0 c.get-cursor.result c.get-cursor.ensures in (
      omega arith,
      (
        held.lies,
        (
          sole_head g.row.N c.self.inside.chain c.self.inside.cursors trim c.k.inside.0 c.get-cursor.result
              c.get-cursor.ensures (sole g at.After-get-cursor),
          (
            mod-lt c.get-cursor.result.place trim.is_held.holds_one,
            (
              sole_left g.row.N c.self.inside.chain c.self.inside.cursors trim c.k.inside.0 c.get-cursor.result
                  c.get-cursor.ensures (sole g at.After-get-cursor) c.self.invariant.is_ahead,
              sole_written g.row.N c.self.inside.chain c.self.inside.cursors trim c.k.inside.0 c.get-cursor.result
                  c.get-cursor.ensures (sole g at.After-get-cursor) (below g at.After-get-cursor),
            ),
          ),
        ),
      ),
    )

pub step-requires : goal.step-requires
step-requires g c =
    let at = goal.at.step-requires g c in
    let trim = c.self.invariant.is_trim in (
      omega arith,
      (
        subst (λ m. IsTrim g.row.N m c.self.inside.cursors) (sym c.take-item.ensures.taken)
            (IsTrim-taken g.row.N c.self.inside.chain c.self.inside.cursors trim _),
        (
          c.get-cursor.ensures,
          (
            subst (λ m. c.get-cursor.result.place + 1 ≤ end_of g.row.N m) (sym c.take-item.ensures.taken)
                (below g at.After-get-cursor),
            subst (λ m. IsAhead g.row.N m (set c.self.inside.cursors c.k.inside.0
                (Some (record { at = c.get-cursor.result.at; place = c.get-cursor.result.place + 1 }))))
                (sym c.take-item.ensures.taken)
                (IsAhead-taken g.row.N c.self.inside.chain c.self.inside.cursors trim c.k.inside.0 c.get-cursor.result
                c.get-cursor.ensures (sole g at.After-get-cursor) (below g at.After-get-cursor)),
          ),
        ),
      ),
    )

pub returns-clause-moved : goal.returns-clause-moved
returns-clause-moved g c =
    let at = goal.at.returns-clause-moved g c in
    let held = c.self.invariant.is_trim.is_held.held c.k.inside.0 c.get-cursor.result c.get-cursor.ensures in
    let place : c.get-cursor.result.place ≡ place_of (was g at.After-get-cursor) c.args.k =
    sym (stands g at.After-get-cursor) ∙ ap (place_of (was g at.After-get-cursor)) c.k.view_is in (
      sym (peeked g.row.N c.self.inside.chain c.get-cursor.result held
          ∙ ap (λ p. slice_get (drop (p - g.row.N * c.self.inside.chain.given) c.self.inside.chain.items) 0) place
          ∙ ap (λ m. slice_get (owed_items m.log c.args.k) 0) c.self.view_is) ∙ c.take-item.ensures.item,
      c.step.ensures.log
          ∙ ap (λ m. trimmed (chunk_of g.row.N) (with_place (log_of g.row.N m c.self.inside.cursors) c.k.inside.0
          (Some (c.get-cursor.result.place + 1)))) c.take-item.ensures.taken
          ∙ goes_on g at.After-get-cursor,
    )
