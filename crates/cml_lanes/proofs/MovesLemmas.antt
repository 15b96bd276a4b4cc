-- Moves of messages, one after another.
use Rattle.std.proofs.Common.{◌≡◌, ℕ, ◌+◌, ◌<◌, Bool, false, List, [], ◌∷◌, ◌++◌, length, slice_get, Option, Some, None, IfNone, is_some}
use Rattle.std.proofs.Common.{subst, refl, sym, ap, ◌∙◌, arith, append_assoc}
use Rattle.std.proofs.lemmas.Option.{same_Some, none-some}
use Rattle.std.proofs.lemmas.List.{append-nil}
use Rattle.std.proofs.lemmas.Bool.{true≢false}
use Rattle.cml_board.specs.{Call, Reply, Refusal, entries_in, kind_of, answer, Fits, full_at, IsAsBefore, AddsEntry, Refuses, HasRoom}
use Rattle.cml_board.specs.Shown.{Shown}
use Rattle.cml_board.specs.declared.entry.Who.TheVariants.{Lane}
use Rattle.cml_board.specs.declared.entry.Reply.TheVariants.{Done}
use Rattle.cml_board.specs.declared.outcome.Refusal.TheVariants.{Gone, Busy, NoSuch, WrongKind, JournalFull, Stalled, NoMemory, Unseen}
use Rattle.cml_board.proofs.SparingLemmas.{call_takes}
use Rattle.cml_lanes.specs.{LaneSide, way_call, way_kind, laned, lane_entry, Enters, IsLimit, KeepsLane, MovesOut, Stops, DrainsRing}
use Rattle.cml_lanes.specs.{DrainsUntil}
use Rattle.cml_lanes.proofs.EnteredLemmas.{none_entered, enters_more, enters_before}
use Rattle.cml_lanes.proofs.LaningLemmas.{laned_more, kind_more, fits_way, answer_way, way_has_message}

-- what holds where there is no value holds where none is
pub on_none : {X P : Type 0} (o : Option X) → is_some o ≡ false → IfNone o P → P
on_none None e p = p
on_none (Some x) e p = absurd (true≢false e)

some_first : {X : Type 0} (xs : List X) → 0 < length xs → (x : X) × (slice_get xs 0 ≡ Some x)
some_first [] some = absurd (omega (arith, some))
some_first (x ∷ xs) some = (x, refl)

first_is : {X : Type 0} {xs ys : List X} {x y : X} → xs ≡ x ∷ ys → slice_get xs 0 ≡ Some y → y ≡ x
first_is {X} {xs} {ys} {x} {y} all first = same_Some y x (sym first ∙ ap (λ zs. slice_get zs 0) all)

module _ {M : Type 0} where
  pub unchanged : (board : Shown M) → IsAsBefore board board
  unchanged board = record { history = refl; past = refl; limit = refl; objects = refl; reserved = omega arith }

  -- none were moved
  pub none_move : (number : ℕ) (board : Shown M) (side : LaneSide M) → MovesOut number 0 board board side side
  none_move number board side = record {
    moved = [];
    entered = none_entered (lane_entry number side.way side.target) board;
    side = ap (λ received. record side { received = received }) (sym (append-nil side.received));
    seen = refl;
  }

  -- one was moved
  pub one_moves : (number : ℕ) (old new : Shown M) (from to : LaneSide M) (call : Call M) (reply : Reply M) (message taken : M)
      → AddsEntry old new (Lane number) call reply → answer old.history call ≡ Some reply
      → call ≡ way_call from.way from.target message → slice_get from.seen 0 ≡ Some message
      → to ≡ record from { received = from.received ++ taken ∷ []; seen = to.seen } → from.seen ≡ taken ∷ to.seen
      → MovesOut number 1 old new from to
  one_moves number old new from to call reply message taken adds answers call_is next side seen =
      let same : message ≡ taken = first_is seen next in
      let replied : reply ≡ Done =
      same_Some _ _ (sym answers ∙ ap (answer old.history) call_is ∙ answer_way old.history from.way from.target message) in
      record {
        moved = taken ∷ [];
        entered = record {
          as_many = refl;
          history = adds.history ∙ ap (λ c. record { who = Lane number; call = c; reply = reply } ∷ old.history) call_is
              ∙ ap (λ r. record { who = Lane number; call = way_call from.way from.target message; reply = r } ∷ old.history) replied
              ∙ ap (λ m. lane_entry number from.way from.target m ∷ old.history) same;
          past = adds.past;
          limit = adds.limit;
          reserved = adds.reserved;
        };
        side = side;
        seen = seen;
      }

  -- some were moved, and then more
  pub moves_more : (number count more total : ℕ) (old mid new : Shown M) (from via to : LaneSide M) → count + more ≡ total
      → MovesOut number count old mid from via → MovesOut number more mid new via to → MovesOut number total old new from to
  moves_more number count more total old mid new from via to sum a b = record {
    moved = a.moved ++ b.moved;
    entered = enters_more (lane_entry number from.way from.target) sum a.entered
        (subst (λ (side : LaneSide M). Enters (lane_entry number side.way side.target) b.moved more mid new) a.side b.entered);
    side = b.side
        ∙ ap (λ (side : LaneSide M). record side { received = side.received ++ b.moved; seen = to.seen }) a.side
        ∙ ap (λ received. record from { received = received; seen = to.seen }) (append_assoc from.received a.moved b.moved);
    seen = a.seen ∙ ap (λ rest. a.moved ++ rest) b.seen ∙ sym (append_assoc a.moved b.moved to.seen);
  }

  -- the lane is kept
  pub keeps_moved : (number count : ℕ) (old new : Shown M) (from to : LaneSide M) → KeepsLane old.history number from
      → MovesOut number count old new from to → KeepsLane new.history number to
  keeps_moved number count old new from to keeps m = record {
    laned = ap (λ h. laned h number) m.history ∙ laned_more number from.way from.target m.moved old.history
        ∙ ap (λ received. received ++ m.moved) keeps.laned ∙ sym (ap (λ (side : LaneSide M). side.received) m.side);
    kind = ap (λ (side : LaneSide M). kind_of new.history side.target.0) m.side
        ∙ ap (λ h. kind_of h from.target.0) m.history
        ∙ kind_more number from.way from.target m.moved old.history from.target.0 (way_kind from.way) keeps.kind
        ∙ sym (ap (λ (side : LaneSide M). Some (way_kind side.way)) m.side);
  }

  -- the first call was refused
  pub stops_first : (chunk : ℕ) (sure : Bool) (number : ℕ) (old new : Shown M) (side : LaneSide M) (refusal : Refusal) (message : M)
      → IsAsBefore old new → slice_get side.seen 0 ≡ Some message → IsLimit refusal
      → Refuses chunk sure old (way_call side.way side.target message) refusal → Stops chunk sure number 0 old new side side refusal
  stops_first chunk sure number old new side refusal message after next limit refuses =
      record {
        at = old;
        moves = none_move number old side;
        after = after;
        message = message;
        next = next;
        limit = limit;
        refused = refuses;
      }

  -- the journal is full
  pub stops_full : (chunk : ℕ) (sure : Bool) (number : ℕ) (board : Shown M) (side : LaneSide M) → KeepsLane board.history number side
      → 0 < length side.seen → entries_in board.history ≡ full_at board → Stops chunk sure number 0 board board side side JournalFull
  stops_full chunk sure number board side keeps some full =
      let first = some_first side.seen some in
      stops_first chunk sure number board board side JournalFull first.0 (unchanged board) first.1 tt
      (fits_way board.history side.way side.target first.0 keeps.kind, full)

  -- the message can't be shared
  pub stops_unshared : (chunk : ℕ) (sure : Bool) (number : ℕ) (board : Shown M) (side : LaneSide M) → KeepsLane board.history number side
      → 0 < length side.seen → HasRoom board → sure ≡ false → Stops chunk sure number 0 board board side side NoMemory
  stops_unshared chunk sure number board side keeps some room unsure =
      let first = some_first side.seen some in
      let call : Call M = way_call side.way side.target first.0 in
      stops_first chunk sure number board board side NoMemory first.0 (unchanged board) first.1 tt (
        fits_way board.history side.way side.target first.0 keeps.kind,
        room,
        (λ never. none-some Done (sym never ∙ answer_way board.history side.way side.target first.0)),
        call_takes board call (way_has_message side.way side.target first.0) unsure,
      )

  -- a call that fits is refused by a limit alone
  limit_refuses : (chunk : ℕ) (sure : Bool) (board : Shown M) (call : Call M) (refusal : Refusal) → Fits board.history call
      → Refuses chunk sure board call refusal → IsLimit refusal
  limit_refuses chunk sure board call NoSuch fits refuses = absurd (refuses fits.0)
  limit_refuses chunk sure board call WrongKind fits refuses = absurd (refuses.1 fits.1)
  limit_refuses chunk sure board call JournalFull fits refuses = tt
  limit_refuses chunk sure board call NoMemory fits refuses = tt
  limit_refuses chunk sure board call Gone fits refuses = refuses
  limit_refuses chunk sure board call Busy fits refuses = refuses
  limit_refuses chunk sure board call Stalled fits refuses = refuses
  limit_refuses chunk sure board call Unseen fits refuses = refuses

  -- the call was refused by the board
  pub stops_refused : (chunk : ℕ) (sure : Bool) (number : ℕ) (old new : Shown M) (side : LaneSide M)
      (refusal : Refusal) (call : Call M) (message : M)
      → kind_of old.history side.target.0 ≡ Some (way_kind side.way) → IsAsBefore old new → slice_get side.seen 0 ≡ Some message
      → call ≡ way_call side.way side.target message → Refuses chunk sure old call refusal
      → Stops chunk sure number 0 old new side side refusal
  stops_refused chunk sure number old new side refusal call message kind after next is refuses =
      let refused = subst (λ c. Refuses chunk sure old c refusal) is refuses in
      stops_first chunk sure number old new side refusal message after next
      (limit_refuses chunk sure old (way_call side.way side.target message) refusal
      (fits_way old.history side.way side.target message kind) refused) refused

  -- until one was refused or not, nothing else was done
  pub until_drains : (chunk : ℕ) (sure : Bool) (number count : ℕ) (stopped : Option Refusal) (old new : Shown M) (from to : LaneSide M)
      → DrainsUntil chunk sure number count stopped old new from to → DrainsRing number count old new from to
  until_drains chunk sure number count None old new from to until = until.drains
  until_drains chunk sure number count (Some refusal) old new from to until =
      let m = until.stops.moves in
      let moves : MovesOut number count old new until.looked to =
      record { moved = m.moved; entered = enters_before _ m.entered until.stops.after; side = m.side; seen = m.seen } in
      record { looked = until.looked; looks = until.looks; moves = moves; most = omega (arith, until.fewer) }
