-- The news of what a lane or a feed added, and who waits where it did.
use Rattle.std.proofs.Common.{◌≡◌, ℕ, ◌<◌, ◌≤◌, List, [], ◌∷◌, length, Option, Some, None, IsTrue, IsSome, IfSome, Result}
use Rattle.std.proofs.Common.{Ok, Err, refl, sym, ap, subst, ◌∙◌, Bool, arith}
use Rattle.std.specs.Option.{option_map}
use Rattle.std.specs.Prelude.{⊤}
use Rattle.cml_board.specs.{Name, Call, Entry, Refusal, Want, kind_by, source_by, takes, Fits, entries_in, kind_of, origin_of, wanting}
use Rattle.cml_board.specs.Shown.{Shown}
use Rattle.cml_board.specs.declared.call.Call.TheVariants as call
use Rattle.cml_board.specs.declared.entry.Reply.TheVariants.{Made}
use Rattle.cml_board.specs.declared.entry.Who.TheVariants.{Feed}
use Rattle.cml_board.specs.declared.want.Want.TheVariants as want
use Rattle.cml_lanes.specs.{with_entries, Way, LaneSide, way_call, way_kind, lane_entry, with_lane, feed_entry, with_feed, Looks}
use Rattle.cml_lanes.specs.{FloorShown, KeepsLanes, FindsNoLane, Abandons, Deed, as_it_was, lane_drained, lane_gone, lane_opened}
use Rattle.cml_lanes.specs.{feed_pumped, feed_gone, feed_opened}
use Rattle.cml_lanes.specs.declared.way.Way.TheVariants.{Send, Cast}
use Rattle.cml_lanes.proofs.EnteredLemmas.{newest}
use Rattle.cml_lanes.proofs.LaningLemmas.{kind_more}
use Rattle.cml_room.specs.declared.news.News.{News}
use Rattle.cml_room.specs.{Place, object_of, news_in, IsOf, AreAt, Follows, HasEntries, IsWatched, WasWatched, WasWatchedAt}
use Rattle.cml_room.proofs.RingNewsLemmas.{Leads, way_news, lanes_lead, feeds_lead, one_leads, follows, same_follows}
use Rattle.cml_room.proofs.UnmovedLemmas.{by_reason}

module _ {M : Type 0} where
  -- the news are those of the last entry, if there is one more than before
  pub record Tells (old new : Shown M) (news : Option News) : Type 0 where
    pub past : entries_in old.past ≤ entries_in old.history
    pub none : entries_in new.history ≤ entries_in old.history → news ≡ None
    pub latest : (entry : Entry M) (rest : List (Entry M)) → new.history ≡ entry ∷ rest → entries_in new.past < entries_in new.history
        → entries_in old.history < entries_in new.history → news ≡ news_in entry.call

  -- what is new came by calls that brought these news, which are of an object that takes them
  pub record Brings (news : Option News) (old new : Shown M) : Type 0 where
    pub follows : Follows news old new
    pub of : IfSome news (IsOf new.history)

  nothing_brings : (old new : Shown M) (news : Option News) → new.history ≡ old.history → Tells old new news → Brings news old new
  nothing_brings old new news same told = record {
    follows = same_follows news old new same;
    of = subst (λ n. IfSome n (IsOf new.history)) (sym (told.none (omega (arith, ap entries_in same)))) tt;
  }

  -- entries were added, of which the last brings what all of them bring
  added_brings : (some : Option News) (last : Entry M) (rest : List (Entry M)) (old new : Shown M) (news : Option News)
      → new.history ≡ last ∷ rest → new.past ≡ old.past → entries_in old.history ≤ length rest → news_in last.call ≡ some
      → Leads some old.history (last ∷ rest) → IfSome some (IsOf (last ∷ rest)) → Tells old new news → Brings news old new
  added_brings some last rest old new news history past more call leads of told =
      let grown : entries_in old.history < entries_in new.history = omega (arith, ap entries_in history, more) in
      let is : news ≡ some = told.latest last rest history (omega (arith, grown, told.past, ap entries_in past)) grown ∙ call in
      subst (λ n. Brings n old new) (sym is) (record {
        follows = follows some old new (last ∷ rest) history leads;
        of = subst (λ h. IfSome some (IsOf h)) (sym history) of;
      })

  -- so do the entries of messages, each of which brings the same
  entries_bring : (some : Option News) (entry : M → Entry M) (messages : List M) (old new : Shown M) (news : Option News)
      → new.history ≡ with_entries entry messages old.history → new.past ≡ old.past → ((message : M) → news_in (entry message).call ≡ some)
      → Leads some old.history (with_entries entry messages old.history) → IfSome some (IsOf (with_entries entry messages old.history))
      → Tells old new news → Brings news old new
  entries_bring some entry [] old new news history past call leads of told = nothing_brings old new news history told
  entries_bring some entry (message ∷ messages) old new news history past call leads of told =
      let last = newest entry message messages old.history in
      added_brings some (entry last.0) last.1 old new news (history ∙ last.2) past last.3 (call last.0)
      (subst (Leads some old.history) last.2 leads) (subst (λ h. IfSome some (IsOf h)) last.2 of) told

  news_of_way : (way : Way) (target : Name) (message : M) → news_in (way_call way target message) ≡ Some (way_news way target)
  news_of_way Send target message = refl
  news_of_way Cast target message = refl

  way_is_of : (way : Way) (target : Name) (history : List (Entry M)) → kind_of history target.0 ≡ Some (way_kind way)
      → IsOf history (way_news way target)
  way_is_of Send target history kind = kind
  way_is_of Cast target history kind = kind

  lane_brings : (number : ℕ) (way : Way) (target : Name) (messages : List M) (old new : Shown M) (news : Option News)
      → new.history ≡ with_lane number way target messages old.history → new.past ≡ old.past
      → kind_of old.history target.0 ≡ Some (way_kind way) → Tells old new news → Brings news old new
  lane_brings number way target messages old new news history past kind =
      entries_bring (Some (way_news way target)) (lane_entry number way target) messages old new news history past (news_of_way way target)
      (lanes_lead number way target messages old.history)
      (way_is_of way target (with_lane number way target messages old.history)
      (kind_more number way target messages old.history target.0 (way_kind way) kind))

  feed_brings : (number : ℕ) (port : Name) (messages : List M) (old new : Shown M) (news : Option News)
      → new.history ≡ with_feed number port messages old.history → new.past ≡ old.past → Tells old new news → Brings news old new
  feed_brings number port messages old new news history past =
      entries_bring None (feed_entry number port) messages old new news history past (λ message. refl)
      (feeds_lead number port messages old.history) tt

  looked_kind : (history : List (Entry M)) (from looked : LaneSide M) → Looks from looked
      → kind_of history from.target.0 ≡ Some (way_kind from.way)
      → kind_of history looked.target.0 ≡ Some (way_kind looked.way)
  looked_kind history from looked looks kind =
      subst (λ (s : LaneSide M). kind_of history s.target.0 ≡ Some (way_kind s.way)) (sym looks.side) kind

  -- whatever was done on a lane or a feed
  deed_brings : (old new : FloorShown M) (news : Option News) → KeepsLanes old.board.history old.lanes → Tells old.board new.board news
      → Deed old new → Brings news old.board new.board
  deed_brings old new news keeps told (as_it_was after lanes feeds) = nothing_brings old.board new.board news after.history told
  deed_brings old new news keeps told (lane_drained left number count on) =
      let drains = on.place.does in
      lane_brings number drains.looked.way drains.looked.target drains.moves.moved old.board new.board news
      drains.moves.history drains.moves.past
      (looked_kind old.board.history on.place.from drains.looked drains.looks (keeps.lane number on.place.from on.place.opened).kind) told
  deed_brings old new news keeps told (lane_gone number same) =
      nothing_brings old.board new.board news (ap (λ (f : FloorShown M). f.board.history) same) told
  deed_brings old new news keeps told (lane_opened side board lanes feeds) =
      nothing_brings old.board new.board news (ap (λ (b : Shown M). b.history) board) told
  deed_brings old new news keeps told (feed_pumped number count on) =
      let pumps = on.place.does.pumps in
      feed_brings number on.place.does.looked.port pumps.pumped old.board new.board news pumps.history pumps.past told
  deed_brings old new news keeps told (feed_gone number same) =
      nothing_brings old.board new.board news (ap (λ (f : FloorShown M). f.board.history) same) told
  deed_brings old new news keeps told (feed_opened number channel port side makes lanes feeds) =
      let entry : Entry M = record { who = Feed number; call = call.NewPort channel; reply = Made port } in
      added_brings None entry old.board.history old.board new.board news makes.entry.history makes.entry.past (omega arith) refl
      (one_leads entry old.board.history makes.made) tt told

  pub since_brings : (entries : ℕ) (old new : FloorShown M) (looked : Shown M) (news : Option News) → HasEntries entries old → Deed old new
      → looked ≡ new.board → (entries_in looked.history ≤ entries → news ≡ None)
      → ((entry : Entry M) (rest : List (Entry M)) → looked.history ≡ entry ∷ rest → entries_in looked.past < entries_in looked.history
      → entries < entries_in looked.history → news ≡ news_in entry.call)
      → Brings news old.board new.board
  since_brings entries old new looked news had deed is none latest =
      let first : Tells old.board looked news = record {
        past = omega (arith, had.count, had.past);
        none = λ few. none (omega (arith, had.count, few));
        latest = λ entry rest all cut more. latest entry rest all cut (omega (arith, had.count, more));
      } in
      deed_brings old new news had.lanes (subst (λ b. Tells old.board b news) is first) deed

  pub abandoned_follows : (number : ℕ) (old new : FloorShown M) (result : Result ⊤ Refusal) (news : Option News)
      → Abandons number old new result → Follows news old.board new.board
  abandoned_follows number old new (Ok done) news gone =
      same_follows news old.board new.board (ap (λ (f : FloorShown M). f.board.history) gone.1)
  abandoned_follows number old new (Err refusal) news why =
      by_reason (FindsNoLane number old new) (λ other. ⊥) refusal
      (λ none. same_follows news old.board new.board (ap (λ (f : FloorShown M). f.board.history) none.1)) (λ never. absurd never) why

  -- each seat that waits does so at the same object, from the same source
  fits_same : (old new : List (Entry M)) (object : ℕ) (made_call : Call M)
      → kind_of new object ≡ kind_of old object → IsSome (kind_of old object)
      → IfSome (kind_of old object) (λ kind. IsTrue (takes kind made_call))
      → IsSome (kind_of new object) × IfSome (kind_of new object) (λ kind. IsTrue (takes kind made_call))
  fits_same old new object made_call same is_made is_taken =
      (subst (λ k. IsSome k) (sym same) is_made, subst (λ k. IfSome k (λ kind. IsTrue (takes kind made_call))) (sym same) is_taken)

  made_by : (history : List (Entry M)) (on : Want) → Fits history (wanting on) → IsSome (kind_of history (object_of on))
  made_by history (want.Recv name) fits = fits.0
  made_by history (want.Get name) fits = fits.0
  made_by history (want.Take name) fits = fits.0
  made_by history (want.Swap name) fits = fits.0

  fits_on : (old new : List (Entry M)) (on : Want) → kind_of new (object_of on) ≡ kind_of old (object_of on)
      → Fits old (wanting on) → Fits new (wanting on)
  fits_on old new (want.Recv name) same fits = fits_same old new name.0 (call.Recv name) same fits.0 fits.1
  fits_on old new (want.Get name) same fits = fits_same old new name.0 (call.Get name) same fits.0 fits.1
  fits_on old new (want.Take name) same fits = fits_same old new name.0 (call.Take name) same fits.0 fits.1
  fits_on old new (want.Swap name) same fits = fits_same old new name.0 (call.Take name) same fits.0 fits.1

  pub placed_on : (old new : FloorShown M) (places : List Place) (all_due : Bool) (news : Option News) → IsWatched old places all_due
      → Follows news old.board new.board
      → AreAt new.board.history places
  placed_on old new places all_due news was next = λ number waiter here.
      let before = was.placed number waiter here in
      let same : origin_of new.board.history (object_of waiter.want) ≡ origin_of old.board.history (object_of waiter.want) =
      next.made (object_of waiter.want) (made_by old.board.history waiter.want before.0) in (
        fits_on old.board.history new.board.history waiter.want (ap (option_map kind_by) same) before.0,
        before.1 ∙ ap (source_by (object_of waiter.want)) (sym same),
      )

  -- who waits does so rightly still
  pub was_placed : (news : Option News) (floor : FloorShown M) (places : List Place) (all_due : Bool) → WasWatched news floor places all_due
      → AreAt floor.board.history places
  was_placed news floor places all_due was = placed_on was.before floor places all_due news was.watched was.follows

  -- what a call on a lane or a feed leaves to be told
  pub was_watched_at : {entries : ℕ} {floor : FloorShown M} {places : List Place} {all_due : Bool} (before : FloorShown M)
      → HasEntries entries before
      → IsWatched before places all_due → Deed before floor → WasWatchedAt entries floor places all_due
  was_watched_at before had watched deed = record { before = before; had = had; watched = watched; deed = deed }
