-- What a cut does to a floor.
use Rattle.std.specs.Prelude.{◌≡◌, ◌<◌, ◌⊎◌, Result, Ok, Err, ⊤, count_by, is_some}
use Rattle.cml_board.specs.{Refusal, Cuts}
use Rattle.cml_board.specs.declared.outcome.Refusal.TheVariants.{Busy}
use Rattle.cml_lanes.specs.Floor.{FloorShown}

module _ {M : Type 0} where
  -- a lane or a feed is open
  abbrev pub IsBusy : FloorShown M → Type 0
  IsBusy floor = (0 < count_by is_some floor.lanes) ⊎ (0 < count_by is_some floor.feeds)

  -- the whole journal was cut away while no lane and no feed was open, and the lanes and feeds are unchanged. How much memory
  -- is reserved then is left open
  pub record CutsFloor (old new : FloorShown M) : Type 0 where
    pub no_lane : count_by is_some old.lanes ≡ 0
    pub no_feed : count_by is_some old.feeds ≡ 0
    pub board : Cuts old.board new.board
    pub lanes : new.lanes ≡ old.lanes
    pub feeds : new.feeds ≡ old.feeds

  -- the whole journal was cut away, and the lanes and feeds are unchanged, whether or not any is open. How much memory is reserved
  -- then is left open
  pub record CutsOpenFloor (old new : FloorShown M) : Type 0 where
    pub board : Cuts old.board new.board
    pub lanes : new.lanes ≡ old.lanes
    pub feeds : new.feeds ≡ old.feeds

  -- a cut fails exactly if a lane or a feed is open, and then nothing is changed
  abbrev pub NotCut : FloorShown M → FloorShown M → Refusal → Type 0
  NotCut old new refusal = (refusal ≡ Busy) × IsBusy old × (new ≡ old)

  -- what becomes of a cut
  abbrev pub CutsAFloor : FloorShown M → FloorShown M → Result ⊤ Refusal → Type 0
  CutsAFloor old new (Ok done) = CutsFloor old new
  CutsAFloor old new (Err refusal) = NotCut old new refusal
