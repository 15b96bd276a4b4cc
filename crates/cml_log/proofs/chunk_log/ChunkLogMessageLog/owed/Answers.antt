use Rattle.std.proofs.Common.{◌≡◌, ◌-◌, length, sym, ap, subst, ◌∙◌, arith}
use Rattle.cml_log.specs.{IsOpen, owed_items, place_of, log_of}
use Rattle.cml_log.proofs.LogLemmas.{length-owed_items}
use Rattle.cml_log.proofs.CursorsLemmas.{IsTidy-shown, place_shown}
use Rattle.cml_log.proofs.chunk_log.ChunkLogMessageLog.owed.Goals as goal

pub returns : goal.returns
returns g c =
    let place : place_of (log_of g.row.N c.self.inside.chain c.self.inside.cursors) c.args.k ≡ c.get.result.place =
    ap (λ k. place_of (log_of g.row.N c.self.inside.chain c.self.inside.cursors) k) (sym c.k.view_is)
    ∙ place_shown g.row.N c.self.inside.chain c.self.inside.cursors c.k.inside.0 c.get.result c.get.ensures in
    let opened = subst (λ m. IsOpen m.log c.args.k) (sym c.self.view_is) c.requires in
    let tidy = IsTidy-shown g.row.N c.self.inside.chain c.self.inside.cursors c.self.invariant.is_trim.is_held
    c.self.invariant.is_trim.trim in
    let owed = length-owed_items g.row.N (log_of g.row.N c.self.inside.chain c.self.inside.cursors) c.args.k tidy opened in
    let same : c.next.result - c.get.result.place ≡ length
    (owed_items (log_of g.row.N c.self.inside.chain c.self.inside.cursors) c.args.k) = omega (arith, owed, place, c.next.ensures) in
    same ∙ ap (λ m. length (owed_items m.log c.args.k)) c.self.view_is
