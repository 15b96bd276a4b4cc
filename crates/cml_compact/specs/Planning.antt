-- What a compaction plans before it makes a board: where each port begins, and what is multicast again.
use Rattle.std.specs.Prelude.{ℕ, zero, suc, ◌≡◌, ◌-◌, ◌<◌, ◌≤◌, List, [], ◌++◌, length, slice_get, Some, if◌then◌else◌}
use Rattle.cml_calls.specs.{is_channel}
use Rattle.cml_calls.specs.declared.kind.Kind.TheVariants.{Channel}
use Rattle.cml_board.specs.{Entry, port, made, origin_of, kind_of, is_a}
use Rattle.cml_compact.specs.Stages.{stock, fewest_passed, begins_at}

module _ {M : Type 0} where
  -- what is multicast again on a channel
  abbrev pub stream : List (Entry M) → ℕ → List M
  stream history name = if is_a is_channel history name then stock history name else []

  -- what is multicast again on the channels among the first n objects, channel after channel
  abbrev pub streams : List (Entry M) → ℕ → List M
  streams history zero = []
  streams history (suc n) = streams history n ++ stream history n

  -- for each channel, the fewest that an object from n on has passed; and for each port from n on, where it begins
  pub record AreFewest (history : List (Entry M)) (n : ℕ) (found : List ℕ) : Type 0 where
    pub all : length found ≡ length (made history)
    pub channels : (source : ℕ) → kind_of history source ≡ Some Channel
        → slice_get found source ≡ Some (fewest_passed history source n (length (made history) - n))
    pub ports : (name source start : ℕ) → n ≤ name → origin_of history name ≡ Some (port source start)
        → slice_get found name ≡ Some (begins_at history source name)

  -- for each port, by its name, where it begins
  pub record AreBeginnings (history : List (Entry M)) (found : List ℕ) : Type 0 where
    pub all : length found ≡ length (made history)
    pub each : (name source start : ℕ) → origin_of history name ≡ Some (port source start)
        → slice_get found name ≡ Some (begins_at history source name)

  -- for each of the first n objects, by its name, how many of these messages come before its own
  pub record AreFronts (history : List (Entry M)) (n : ℕ) (fronts : List ℕ) : Type 0 where
    pub all : length fronts ≡ n
    pub each : (name : ℕ) → name < n → slice_get fronts name ≡ Some (length (streams history name))

  -- where ports begin, and the messages that are multicast again, with their places
  pub record IsPlan (history : List (Entry M)) (begins fronts : List ℕ) (messages : List M) : Type 0 where
    pub ports : AreBeginnings history begins
    pub places : AreFronts history (length (made history)) fronts
    pub whole : messages ≡ streams history (length (made history))
