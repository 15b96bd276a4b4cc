-- Messages that are pumped, one after another.
use Rattle.std.proofs.Common.{◌≡◌, ℕ, ◌+◌, [], ◌++◌, Bool, Option, Some, None, subst, sym, ap, ◌∙◌, arith, append_assoc}
use Rattle.std.proofs.lemmas.List.{append-nil}
use Rattle.cml_calls.specs.declared.kind.Kind.TheVariants.{Port}
use Rattle.cml_board.specs.{Refusal, kind_of, is_open, got}
use Rattle.cml_board.specs.Shown.{Shown}
use Rattle.cml_lanes.specs.{feed_entry, FeedSide, fed, Enters, KeepsFeed, PumpsIn, PumpsRing, PumpsUntil}
use Rattle.cml_lanes.proofs.EnteredLemmas.{none_entered, enters_more, enters_before}
use Rattle.cml_lanes.proofs.FeedEntriesLemmas.{fed_more, got_more, kind_fed, open_fed}

module _ {M : Type 0} where
  pub none_pumped : (number : ℕ) (board : Shown M) (side : FeedSide M) → PumpsIn number 0 board board side side
  none_pumped number board side = record {
    pumped = [];
    entered = none_entered (feed_entry number side.port) board;
    side = ap (λ pushed. record side { pushed = pushed; free = side.free }) (sym (append-nil side.pushed));
    free = omega arith;
  }

  -- some were pumped, and then more
  pub pumps_more : (number count more total : ℕ) (old mid new : Shown M) (from via to : FeedSide M) → count + more ≡ total
      → PumpsIn number count old mid from via → PumpsIn number more mid new via to → PumpsIn number total old new from to
  pumps_more number count more total old mid new from via to sum a b = record {
    pumped = a.pumped ++ b.pumped;
    entered = enters_more (feed_entry number from.port) sum a.entered
        (subst (λ (side : FeedSide M). Enters (feed_entry number side.port) b.pumped more mid new) a.side b.entered);
    side = b.side
        ∙ ap (λ (side : FeedSide M). record side { pushed = side.pushed ++ b.pumped; free = to.free }) a.side
        ∙ ap (λ pushed. record from { pushed = pushed; free = to.free }) (append_assoc from.pushed a.pumped b.pumped);
    free = omega (arith, a.free, b.free, sum);
  }

  -- the feed is kept
  pub keeps_pumped : (number count : ℕ) (old new : Shown M) (from to : FeedSide M) → KeepsFeed old.history number from
      → PumpsIn number count old new from to → KeepsFeed new.history number to
  keeps_pumped number count old new from to keeps p =
      let port : to.port ≡ from.port = ap (λ (side : FeedSide M). side.port) p.side in
      let pushed : from.pushed ++ p.pumped ≡ to.pushed = sym (ap (λ (side : FeedSide M). side.pushed) p.side) in
      record {
        fed = ap (λ h. fed h number) p.history ∙ fed_more number from.port p.pumped old.history
            ∙ ap (λ messages. messages ++ p.pumped) keeps.fed ∙ pushed;
        got = ap (λ name. got new.history name.0) port ∙ ap (λ h. got h from.port.0) p.history
            ∙ got_more number from.port p.pumped old.history ∙ ap (λ messages. messages ++ p.pumped) keeps.got ∙ pushed;
        kind = ap (λ name. kind_of new.history name.0) port ∙ ap (λ h. kind_of h from.port.0) p.history
            ∙ kind_fed number from.port p.pumped old.history from.port.0 Port keeps.kind;
        opened = ap (λ name. is_open new.history name.0) port ∙ ap (λ h. is_open h from.port.0) p.history
            ∙ open_fed number from.port p.pumped old.history from.port.0 ∙ keeps.opened;
      }

  -- until one was refused or not, nothing else was done
  pub until_pumps : (chunk : ℕ) (sure : Bool) (number count : ℕ) (stopped : Option Refusal) (old new : Shown M) (from to : FeedSide M)
      → PumpsUntil chunk sure number count stopped old new from to → PumpsRing number count old new from to
  until_pumps chunk sure number count None old new from to until =
      record { looked = until.looked; looks = until.looks; pumps = until.pumps }
  until_pumps chunk sure number count (Some refusal) old new from to until =
      let p = until.balks.pumps in
      record {
        looked = until.looked;
        looks = until.looks;
        pumps = record { pumped = p.pumped; entered = enters_before _ p.entered until.balks.after; side = p.side; free = p.free };
      }
