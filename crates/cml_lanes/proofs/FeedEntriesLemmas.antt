-- How entries of a feed, and entries of others, change what the journal has of each feed, each lane and each port.
use Rattle.std.proofs.Common.{◌≡◌, ◌≢◌, ◌↔◌, ℕ, Bool, false, cond, List, [], ◌∷◌, ◌++◌, Some, None, IsSome, IfSome, IsTrue}
use Rattle.std.proofs.Common.{subst, refl, sym, ap, ◌∙◌}
use Rattle.std.proofs.lemmas.Bool.{eq-eqb, ne_eqb, false≢true}
use Rattle.std.proofs.lemmas.List.{append-nil}
use Rattle.cml_board.specs.{Name, Entry, takes, message_in, kind_of, is_open, got, answer, Fits}
use Rattle.cml_calls.specs.{Kind}
use Rattle.cml_calls.specs.declared.kind.Kind.TheVariants.{Port}
use Rattle.cml_board.specs.declared.call.Call.TheVariants.{Recv}
use Rattle.cml_board.proofs.ClosingLemmas.{kind_kept}
use Rattle.cml_board.proofs.TellingLemmas.{stays_open, none_got}
use Rattle.cml_lanes.specs.{Way, LaneSide, FeedSide, way_kind, laned, lane_entry, with_lane, is_feed, fed, feed_entry, with_feed, KeepsLane}
use Rattle.cml_lanes.specs.{KeepsFeed}
use Rattle.cml_lanes.specs.declared.way.Way.TheVariants.{Send, Cast}
use Rattle.cml_lanes.proofs.EnteredLemmas.{unchanged, appended, lasting}
use Rattle.cml_lanes.proofs.LaningLemmas.{laned_other, kind_more}

module _ {M : Type 0} where
  -- an entry of another adds none
  pub fed_other : (entry : Entry M) (history : List (Entry M)) (number : ℕ) → is_feed entry.who number ≡ false
      → fed (entry ∷ history) number ≡ fed history number
  fed_other entry history number other =
      ap (λ b. fed history number ++ cond b (message_in entry.reply) []) other ∙ append-nil (fed history number)

  fed_one : (number : ℕ) (port : Name) (message : M) (history : List (Entry M))
      → fed (feed_entry number port message ∷ history) number ≡ fed history number ++ message ∷ []
  fed_one number port message history = ap (λ b. fed history number ++ cond b (message ∷ []) []) (eq-eqb number number refl)

  got_one : (number : ℕ) (port : Name) (message : M) (history : List (Entry M))
      → got (feed_entry number port message ∷ history) port.0 ≡ got history port.0 ++ message ∷ []
  got_one number port message history = ap (λ b. got history port.0 ++ cond b (message ∷ []) []) (eq-eqb port.0 port.0 refl)

  got_other : (number : ℕ) (port : Name) (message : M) (history : List (Entry M)) (object : ℕ) → object ≢ port.0
      → got (feed_entry number port message ∷ history) object ≡ got history object
  got_other number port message history object apart =
      ap (λ b. got history object ++ cond b (message ∷ []) []) (ne_eqb port.0 object (λ e. apart (sym e))) ∙ append-nil (got history object)

  -- the entries of a feed's messages add them to what it has, and leave the other feeds
  pub fed_more : (number : ℕ) (port : Name) (messages : List M) (history : List (Entry M))
      → fed (with_feed number port messages history) number ≡ fed history number ++ messages
  fed_more number port = appended (feed_entry number port) (λ h. fed h number) (fed_one number port)

  pub fed_apart : (number : ℕ) (port : Name) (messages : List M) (history : List (Entry M)) (other : ℕ) → other ≢ number
      → fed (with_feed number port messages history) other ≡ fed history other
  fed_apart number port messages history other apart =
      unchanged (feed_entry number port) (λ h. fed h other)
      (λ message h. fed_other (feed_entry number port message) h other (ne_eqb number other (λ e. apart (sym e)))) messages history

  -- they add them to what its port received, and leave every other object
  pub got_more : (number : ℕ) (port : Name) (messages : List M) (history : List (Entry M))
      → got (with_feed number port messages history) port.0 ≡ got history port.0 ++ messages
  got_more number port = appended (feed_entry number port) (λ h. got h port.0) (got_one number port)

  pub got_apart : (number : ℕ) (port : Name) (messages : List M) (history : List (Entry M)) (object : ℕ) → object ≢ port.0
      → got (with_feed number port messages history) object ≡ got history object
  got_apart number port messages history object apart =
      unchanged (feed_entry number port) (λ h. got h object) (λ message h. got_other number port message h object apart) messages history

  -- no lane has more, no object changes its kind, and no port is closed
  pub laned_fed : (number : ℕ) (port : Name) (messages : List M) (history : List (Entry M)) (lane : ℕ)
      → laned (with_feed number port messages history) lane ≡ laned history lane
  laned_fed number port messages history lane =
      unchanged (feed_entry number port) (λ h. laned h lane) (λ message h. laned_other (feed_entry number port message) h lane refl)
      messages history

  pub kind_fed : (number : ℕ) (port : Name) (messages : List M) (history : List (Entry M)) (object : ℕ) (kind : Kind)
      → kind_of history object ≡ Some kind → kind_of (with_feed number port messages history) object ≡ Some kind
  kind_fed number port messages history object kind =
      lasting (feed_entry number port) (λ h. kind_of h object ≡ Some kind)
      (λ message h. kind_kept (feed_entry number port message) h object kind) messages history

  pub open_fed : (number : ℕ) (port : Name) (messages : List M) (history : List (Entry M)) (object : ℕ)
      → is_open (with_feed number port messages history) object ≡ is_open history object
  open_fed number port messages history object =
      unchanged (feed_entry number port) (λ h. is_open h object) (λ message h. stays_open h (feed_entry number port message) object refl)
      messages history

  -- the entries of a lane's messages add nothing to a feed, no port receives by them, and none is closed
  got_by_lane : (number : ℕ) (way : Way) (target : Name) (message : M) (history : List (Entry M)) (object : ℕ)
      → got (lane_entry number way target message ∷ history) object ≡ got history object
  got_by_lane number Send target message history object = none_got history (lane_entry number Send target message) object refl
  got_by_lane number Cast target message history object = none_got history (lane_entry number Cast target message) object refl

  open_by_lane : (number : ℕ) (way : Way) (target : Name) (message : M) (history : List (Entry M)) (object : ℕ)
      → is_open (lane_entry number way target message ∷ history) object ≡ is_open history object
  open_by_lane number Send target message history object = stays_open history (lane_entry number Send target message) object refl
  open_by_lane number Cast target message history object = stays_open history (lane_entry number Cast target message) object refl

  pub fed_laned : (number : ℕ) (way : Way) (target : Name) (messages : List M) (history : List (Entry M)) (feed : ℕ)
      → fed (with_lane number way target messages history) feed ≡ fed history feed
  fed_laned number way target messages history feed =
      unchanged (lane_entry number way target) (λ h. fed h feed) (λ message h. fed_other (lane_entry number way target message) h feed refl)
      messages history

  pub got_laned : (number : ℕ) (way : Way) (target : Name) (messages : List M) (history : List (Entry M)) (object : ℕ)
      → got (with_lane number way target messages history) object ≡ got history object
  got_laned number way target messages history object =
      unchanged (lane_entry number way target) (λ h. got h object) (λ message h. got_by_lane number way target message h object)
      messages history

  pub open_laned : (number : ℕ) (way : Way) (target : Name) (messages : List M) (history : List (Entry M)) (object : ℕ)
      → is_open (with_lane number way target messages history) object ≡ is_open history object
  open_laned number way target messages history object =
      unchanged (lane_entry number way target) (λ h. is_open h object) (λ message h. open_by_lane number way target message h object)
      messages history

  -- so a feed is kept by the entries of any lane, and of a feed of another port; and a lane by those of any feed
  pub keeps_laned : (number : ℕ) (way : Way) (target : Name) (messages : List M) (history : List (Entry M)) (feed : ℕ) (side : FeedSide M)
      → KeepsFeed history feed side → KeepsFeed (with_lane number way target messages history) feed side
  keeps_laned number way target messages history feed side keeps = record {
    fed = fed_laned number way target messages history feed ∙ keeps.fed;
    got = got_laned number way target messages history side.port.0 ∙ keeps.got;
    kind = kind_more number way target messages history side.port.0 Port keeps.kind;
    opened = open_laned number way target messages history side.port.0 ∙ keeps.opened;
  }

  pub keeps_fed : (number : ℕ) (port : Name) (messages : List M) (history : List (Entry M)) (feed : ℕ) (side : FeedSide M)
      → feed ≢ number → side.port.0 ≢ port.0 → KeepsFeed history feed side → KeepsFeed (with_feed number port messages history) feed side
  keeps_fed number port messages history feed side apart away keeps = record {
    fed = fed_apart number port messages history feed apart ∙ keeps.fed;
    got = got_apart number port messages history side.port.0 away ∙ keeps.got;
    kind = kind_fed number port messages history side.port.0 Port keeps.kind;
    opened = open_fed number port messages history side.port.0 ∙ keeps.opened;
  }

  pub keeps_lane_fed : (number : ℕ) (port : Name) (messages : List M) (history : List (Entry M)) (lane : ℕ) (side : LaneSide M)
      → KeepsLane history lane side → KeepsLane (with_feed number port messages history) lane side
  keeps_lane_fed number port messages history lane side keeps = record {
    laned = laned_fed number port messages history lane ∙ keeps.laned;
    kind = kind_fed number port messages history side.target.0 (way_kind side.way) keeps.kind;
  }

  -- a feed's call fits its port
  pub fits_recv : (history : List (Entry M)) (port : Name) → kind_of history port.0 ≡ Some Port → Fits history (Recv port)
  fits_recv history port is =
      (subst (λ k. IsSome k) (sym is) refl, subst (λ k. IfSome k (λ kind. IsTrue (takes {M = M} kind (Recv port)))) (sym is) refl)

  -- the receive does not wait if the board says that it would not
  pub still_owed : (history : List (Entry M)) (port name : Name) (waits : Bool) → kind_of history port.0 ≡ Some Port → name ≡ port
      → IsTrue waits ↔ (Fits history (Recv name) × (answer history (Recv name) ≡ None)) → waits ≡ false → answer history (Recv port) ≢ None
  still_owed history port name waits kind same tells never none =
      let fits : Fits history (Recv name) = subst (λ (p : Name). Fits history (Recv p)) (sym same) (fits_recv history port kind) in
      let here : answer history (Recv name) ≡ None = ap (λ (p : Name). answer history (Recv p)) same ∙ none in
      false≢true (sym never ∙ tells.1 (fits, here))
