-- What a floor and the other ends of its rings show of themselves.
use Rattle.std.specs.Prelude.{ℕ, ◌≡◌, ◌+◌, Bool, true, false, List, ◌∷◌, length, filter}
use Rattle.cml_board.specs.{Name, Call, Who, Reply, Entry}
use Rattle.cml_board.specs.declared.call.Call.TheVariants.{NewPort}
use Rattle.cml_board.specs.declared.entry.Who.TheVariants.{Seat, Feed}
use Rattle.cml_board.specs.declared.entry.Reply.TheVariants.{Made}
use Rattle.cml_lanes.specs.{FloorShown}
use Rattle.cml_script.specs.{History}

-- a seat's call, or the opening of a feed, and not what a lane or a feed moved
abbrev pub is_asked_by : Who → Call (List ℕ) → Bool
is_asked_by (Seat seat) call = true
is_asked_by (Feed feed) (NewPort channel) = true
is_asked_by who call = false

abbrev pub is_asked : Entry (List ℕ) → Bool
is_asked entry = is_asked_by entry.who entry.call

-- the entries of a journal without those that lanes and feeds moved
abbrev pub asked : History → History
asked history = filter is_asked history

-- that of the floor's journal, how many lanes are open, and how many feeds were opened
pub record RingsShown : Type 0 where
  pub asked : History
  pub lanes : ℕ
  pub feeds : ℕ

-- with a call that a seat was answered
abbrev pub with_call : ℕ → Call (List ℕ) → Reply (List ℕ) → RingsShown → RingsShown
with_call seat call reply rings = record rings { asked = (record { who = Seat seat; call = call; reply = reply }) ∷ rings.asked }

-- with a feed and its port: its number is how many were opened before
abbrev pub with_feed : Name → Name → RingsShown → RingsShown
with_feed channel port rings =
    record rings {
      asked = (record { who = Feed rings.feeds; call = NewPort channel; reply = Made port }) ∷ rings.asked;
      feeds = rings.feeds + 1;
    }

-- at most lanes and feeds moved something, and no feed was opened
pub record IsUnasked (old new : FloorShown (List ℕ)) : Type 0 where
  pub asked : asked new.board.history ≡ asked old.board.history
  pub feeds : length new.feeds ≡ length old.feeds
