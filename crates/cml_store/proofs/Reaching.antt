-- What holds at the end of every schedule that begins with a new file.
use Rattle.std.proofs.Common.{◌≡◌, ℕ, ◌≤◌, Bool, true, false, List, [], length, arith}
use Rattle.cml_store.specs.declared.stage.Stage.{Stage}
use Rattle.cml_store.specs.declared.stage.Stage.TheVariants.{Dirty, Trimming, Trimmed, Rewriting, Settling, Unnamed, Naming, Open, Lost}
use Rattle.cml_store.specs.Machine.{is_open}
use Rattle.cml_store.specs.World.{World, Event, fresh, run, MayRun}
use Rattle.cml_store.proofs.Holds.{clash, Closed, HoldsAt, Holds, closed_at}
use Rattle.cml_store.proofs.Openings.{begins_well}
use Rattle.cml_store.proofs.Runs.{all_through}

-- an open store tells the marks
pub told : (limit : ℕ) (whole : List ℕ → Bool) (stage : Stage) (w : World) → HoldsAt limit whole stage w → is_open stage ≡ true
    → (w.synced ≡ w.store.synced) × (w.disk.failing ≡ false → w.stored ≡ w.store.stored)
told limit whole Open w h e = (h.synced, h.stored)
told limit whole Dirty w h e = absurd (clash e)
told limit whole Trimming w h e = absurd (clash e)
told limit whole Trimmed w h e = absurd (clash e)
told limit whole Rewriting w h e = absurd (clash e)
told limit whole Settling w h e = absurd (clash e)
told limit whole Unnamed w h e = absurd (clash e)
told limit whole Naming w h e = absurd (clash e)
told limit whole Lost w h e = absurd (clash e)

module _ (whole front : List ℕ → Bool) (limit growth : ℕ) (events : List Event) (none : whole [] ≡ true)
    (may : MayRun whole front limit growth (fresh whole front limit growth) events) where
  abbrev pub End : World
  End = run whole front limit growth (fresh whole front limit growth) events

  pub held : Holds limit whole End
  held =
      all_through limit whole front growth none (fresh whole front limit growth) events
      (begins_well limit whole front growth none) may

  pub closed : Closed limit whole End.store.stage End
  closed = closed_at limit whole End.store.stage End held

  pub synced_within : End.synced ≤ length End.text
  synced_within = omega (arith, closed.marks.order, closed.marks.within)
