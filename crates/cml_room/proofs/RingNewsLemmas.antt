-- What lanes and feeds add to a history brings no news but their own.
use Rattle.std.proofs.Common.{◌≡◌, ℕ, eqb, List, [], ◌∷◌, Option, Some, None, IsSome, refl, sym, ap, subst, ◌∙◌}
use Rattle.std.specs.Option.{option_map}
use Rattle.cml_board.specs.{Name, Entry, Want, kind_by, source_by, made, if_made, begun_by, origin_of, kind_of, answer, Waits}
use Rattle.cml_board.specs.Shown.{Shown}
use Rattle.cml_board.specs.declared.call.Call.TheVariants as call
use Rattle.cml_board.specs.declared.want.Want.TheVariants as want
use Rattle.cml_board.proofs.ReceivedLemmas.{slice_get-append_within}
use Rattle.cml_lanes.specs.{with_entries, Way, lane_entry, with_lane, feed_entry, with_feed}
use Rattle.cml_lanes.specs.declared.way.Way.TheVariants.{Send, Cast}
use Rattle.cml_room.specs.declared.news.News.{News}
use Rattle.cml_room.specs.{object_of, news_in, source_of, NoNews, Follows}
use Rattle.cml_room.specs.declared.news.News.TheVariants.{Message, Multicast}
use Rattle.cml_room.proofs.RestingLemmas.{within_made, fits_kept, recv_waits, still_waits}

-- the news of a message that goes this way
abbrev pub way_news : Way → Name → News
way_news Send target = Message target
way_news Cast target = Multicast target

module _ {M : Type 0} where
  -- one history follows the other by calls that brought these news alone
  pub record Leads (news : Option News) (old new : List (Entry M)) : Type 0 where
    pub made : (object : ℕ) → IsSome (kind_of old object) → origin_of new object ≡ origin_of old object
    pub waits : (on : Want) → Waits old on → NoNews new news on → Waits new on

  pub want_made : (history : List (Entry M)) (on : Want) → Waits history on → IsSome (kind_of history (object_of on))
  want_made history (want.Recv name) waits = waits.0.0
  want_made history (want.Get name) waits = waits.0.0
  want_made history (want.Take name) waits = waits.0.0
  want_made history (want.Swap name) waits = waits.0.0

  -- the news are the same for who waits, where the source of what it waits at is
  same_news : (old new : List (Entry M)) (news : Option News) (on : Want) → source_of new (object_of on) ≡ source_of old (object_of on)
      → NoNews new news on → NoNews old news on
  same_news old new None on source none = tt
  same_news old new (Some (Message name)) (want.Recv at) source none = ap (eqb name.0) (sym source) ∙ none
  same_news old new (Some (Multicast name)) (want.Recv at) source none = ap (eqb name.0) (sym source) ∙ none
  same_news old new (Some news) on source none = none

  source_by_origin : (old new : List (Entry M)) (object : ℕ) → origin_of new object ≡ origin_of old object
      → source_of new object ≡ source_of old object
  source_by_origin old new object same = ap (source_by object) same

  none_before : (old new : List (Entry M)) (news : Option News) (on : Want)
      → ((object : ℕ) → IsSome (kind_of old object) → origin_of new object ≡ origin_of old object)
      → Waits old on → NoNews new news on → NoNews old news on
  none_before old new news on same waits none =
      same_news old new news on (source_by_origin old new (object_of on) (same (object_of on) (want_made old on waits))) none

  -- no news where nothing is added
  pub leads_here : (news : Option News) (history : List (Entry M)) → Leads news history history
  leads_here news history = record { made = λ object some. refl; waits = λ on waits none. waits }

  kind_stays : (old new : List (Entry M)) (object : ℕ) → origin_of new object ≡ origin_of old object
      → kind_of new object ≡ kind_of old object
  kind_stays old new object same = ap (option_map kind_by) same

  pub leads_on : (news : Option News) (one two three : List (Entry M)) → Leads news one two → Leads news two three → Leads news one three
  leads_on news one two three first second = record {
    made = λ object some.
        let same = first.made object some in
        second.made object (subst (λ k. IsSome k) (sym (kind_stays one two object same)) some) ∙ same;
    waits = λ on waits none.
        let same = λ (object : ℕ) (some : IsSome (kind_of two object)). second.made object some in
        let later : (object : ℕ) → IsSome (kind_of one object) → origin_of three object ≡ origin_of one object = λ object some.
        second.made object (subst (λ k. IsSome k) (sym (kind_stays one two object (first.made object some))) some)
        ∙ first.made object some in
        let source : source_of three (object_of on) ≡ source_of two (object_of on) =
        source_by_origin one three (object_of on) (later (object_of on) (want_made one on waits))
        ∙ sym (source_by_origin one two (object_of on) (first.made (object_of on) (want_made one on waits))) in
        second.waits on (first.waits on waits (same_news two three news on source none)) none;
  }

  entry_made : (entry : Entry M) (before : List (Entry M)) (object : ℕ) → IsSome (kind_of before object)
      → origin_of (entry ∷ before) object ≡ origin_of before object
  entry_made entry before object some =
      slice_get-append_within (made before) (if_made entry.reply (begun_by (made before) before entry.call)) object
      (within_made before object some)

  -- an answered entry brings its own news
  pub one_leads : (entry : Entry M) (before : List (Entry M)) → answer before entry.call ≡ Some entry.reply
      → Leads (news_in entry.call) before (entry ∷ before)
  one_leads entry before answered = record {
    made = entry_made entry before;
    waits = λ on waits none. still_waits entry before on answered
        (none_before before (entry ∷ before) (news_in entry.call) on (entry_made entry before) waits none) waits;
  }

  lane_leads : (number : ℕ) (way : Way) (target : Name) (message : M) (before : List (Entry M))
      → Leads (Some (way_news way target)) before (lane_entry number way target message ∷ before)
  lane_leads number Send target message before = one_leads (lane_entry number Send target message) before refl
  lane_leads number Cast target message before = one_leads (lane_entry number Cast target message) before refl

  -- so do all entries of which each brings these news
  all_lead : (news : Option News) (entry : M → Entry M)
      → ((message : M) (before : List (Entry M)) → Leads news before (entry message ∷ before))
      → (messages : List M) (before : List (Entry M)) → Leads news before (with_entries entry messages before)
  all_lead news entry leads [] before = leads_here news before
  all_lead news entry leads (message ∷ messages) before =
      leads_on news before (entry message ∷ before) (with_entries entry (message ∷ messages) before)
      (leads message before) (all_lead news entry leads messages (entry message ∷ before))

  -- those of a lane
  pub lanes_lead : (number : ℕ) (way : Way) (target : Name) (messages : List M) (before : List (Entry M))
      → Leads (Some (way_news way target)) before (with_lane number way target messages before)
  lanes_lead number way target = all_lead (Some (way_news way target)) (lane_entry number way target) (lane_leads number way target)

  -- and one of a feed brings none
  feed_waits : (number : ℕ) (port : Name) (message : M) (before : List (Entry M)) (on : Want) → Waits before on
      → Waits (feed_entry number port message ∷ before) on
  feed_waits number port message before (want.Recv name) waits = (
    fits_kept (feed_entry number port message) before name.0 (call.Recv name) waits.0.0 waits.0.1,
    recv_waits (feed_entry number port message) before name waits.0 waits.1 tt,
  )
  feed_waits number port message before (want.Get name) waits =
      (fits_kept (feed_entry number port message) before name.0 (call.Get name) waits.0.0 waits.0.1, waits.1)
  feed_waits number port message before (want.Take name) waits =
      (fits_kept (feed_entry number port message) before name.0 (call.Take name) waits.0.0 waits.0.1, waits.1)
  feed_waits number port message before (want.Swap name) waits =
      (fits_kept (feed_entry number port message) before name.0 (call.Take name) waits.0.0 waits.0.1, waits.1)

  feed_leads : (number : ℕ) (port : Name) (message : M) (before : List (Entry M))
      → Leads None before (feed_entry number port message ∷ before)
  feed_leads number port message before = record {
    made = entry_made (feed_entry number port message) before;
    waits = λ on waits none. feed_waits number port message before on waits;
  }

  pub feeds_lead : (number : ℕ) (port : Name) (messages : List M) (before : List (Entry M))
      → Leads None before (with_feed number port messages before)
  feeds_lead number port = all_lead None (feed_entry number port) (feed_leads number port)

  -- a board follows another where its history does
  pub follows : (news : Option News) (old new : Shown M) (history : List (Entry M)) → new.history ≡ history
      → Leads news old.history history → Follows news old new
  follows news old new history is leads = record {
    made = λ object some. subst (λ h. origin_of h object ≡ origin_of old.history object) (sym is) (leads.made object some);
    waits = λ on waits none. subst (λ h. Waits h on) (sym is) (leads.waits on waits (subst (λ h. NoNews h news on) is none));
  }

  pub same_follows : (news : Option News) (old new : Shown M) → new.history ≡ old.history → Follows news old new
  same_follows news old new same = follows news old new old.history same (leads_here news old.history)
