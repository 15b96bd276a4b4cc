use Rattle.std.proofs.Common.{◌≡◌, ◌-◌, ◌*◌, drop, sym, ap, ◌∙◌, arith}
use Rattle.std.proofs.Math.Nat.{mod-lt}
use Rattle.std.specs.List.{slice_get}
use Rattle.cml_log.specs.{owed_items, place_of, log_of}
use Rattle.cml_log.proofs.CursorsLemmas.{place_shown, peeked}
use Rattle.cml_log.proofs.AheadLemmas.{left_at}
use Rattle.cml_log.proofs.chunk_log.ChunkLogMessageLog.peek.Goals as goal

pub returns : goal.returns
returns g c =
    let held = c.self.invariant.is_trim.is_held.held c.k.inside.0 c.get-cursor.result c.get-cursor.ensures in
    let place : c.get-cursor.result.place ≡ place_of (log_of g.row.N c.self.inside.chain c.self.inside.cursors) c.args.k =
    sym (place_shown g.row.N c.self.inside.chain c.self.inside.cursors c.k.inside.0 c.get-cursor.result c.get-cursor.ensures)
    ∙ ap (λ k. place_of (log_of g.row.N c.self.inside.chain c.self.inside.cursors) k) c.k.view_is in
    c.item.ensures
    ∙ peeked g.row.N c.self.inside.chain c.get-cursor.result held
    ∙ ap (λ p. slice_get (drop (p - g.row.N * c.self.inside.chain.given) c.self.inside.chain.items) 0) place
    ∙ ap (λ m. slice_get (owed_items m.log c.args.k) 0) c.self.view_is

pub item-requires : goal.item-requires
item-requires g c =
    let held = c.self.invariant.is_trim.is_held.held c.k.inside.0 c.get-cursor.result c.get-cursor.ensures in (
      omega arith,
      (
        held.lies,
        (
          mod-lt c.get-cursor.result.place c.self.invariant.is_trim.is_held.holds_one,
          left_at g.row.N c.self.inside.chain c.self.inside.cursors c.self.invariant.is_trim c.k.inside.0
              c.get-cursor.result c.get-cursor.ensures c.self.invariant.is_ahead,
        ),
      ),
    )
