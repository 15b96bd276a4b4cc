-- Who is reached by news has them.
use Rattle.std.proofs.Common.{◌≡◌, ℕ, ◌⊎◌, inl, inr, Bool, true, false, List, Option, Some, None, IsTrue, IfSome, refl, sym, ap, subst, ◌∙◌}
use Rattle.std.specs.Prelude.{◌==◌, ◌&&◌, ◌||◌}
use Rattle.std.specs.Option.{option_map}
use Rattle.std.proofs.lemmas.Option.{none-some, same_Some}
use Rattle.std.proofs.lemmas.Bool.{false≢true, eqb-true, eq-eqb}
use Rattle.cml_board.specs.{Name, Entry, Want, Origin, mailbox, channel, port, ivar, mvar, kind_by, source_by, Fits, origin_of, kind_of}
use Rattle.cml_board.specs.{wanting}
use Rattle.cml_calls.specs.{Kind, is_receiver, is_variable, is_mvar}
use Rattle.cml_calls.specs.declared.kind.Kind.TheVariants as kind
use Rattle.cml_board.specs.declared.want.Want.TheVariants.{Recv, Get, Take, Swap}
use Rattle.cml_room.specs.declared.news.News.TheVariants.{Message, Multicast, Value, Closed}
use Rattle.cml_room.specs.{Waiter, object_of, source_of, helps, reaches}
use Rattle.cml_room.proofs.HearingLemmas.{SourcesAreChannels, source_cases, variable_source}

and_both : (a b : Bool) → (a && b) ≡ true → (a ≡ true) × (b ≡ true)
and_both true b is = (refl, is)
and_both false b is = absurd (false≢true is)

or_either : (a b : Bool) → (a || b) ≡ true → (a ≡ true) ⊎ (b ≡ true)
or_either true b is = inl refl
or_either false b is = inr is

mvar_varies : (k : Kind) → is_mvar k ≡ true → is_variable k ≡ true
mvar_varies kind.MVar is = refl
mvar_varies kind.IVar is = refl
mvar_varies kind.Mailbox is = absurd (false≢true is)
mvar_varies kind.Channel is = absurd (false≢true is)
mvar_varies kind.Port is = absurd (false≢true is)

some_varies : (k : Option Kind) → IfSome k (λ kind. IsTrue (is_mvar kind)) → IfSome k (λ kind. is_variable kind ≡ true)
some_varies None is = tt
some_varies (Some kind) is = mvar_varies kind is

-- a variable is no object of another kind
not_variable : (k : Option Kind) (other : Kind) → IfSome k (λ kind. is_variable kind ≡ true) → k ≡ Some other → is_variable other ≡ true
not_variable None other is same = absurd (none-some other same)
not_variable (Some kind) other is same = subst (λ (k : Kind). is_variable k ≡ true) (same_Some kind other same) is

not_receiver : (k : Option Kind) (other : Kind) → IfSome k (λ kind. IsTrue (is_receiver kind)) → k ≡ Some other → is_receiver other ≡ true
not_receiver None other is same = absurd (none-some other same)
not_receiver (Some kind) other is same = subst (λ (k : Kind). is_receiver k ≡ true) (same_Some kind other same) is

receives_varies : (k : Option Kind) → IfSome k (λ kind. IsTrue (is_receiver kind)) → IfSome k (λ kind. is_variable kind ≡ true) → k ≡ None
receives_varies None is of = refl
receives_varies (Some kind.Mailbox) is of = absurd (false≢true of)
receives_varies (Some kind.Port) is of = absurd (false≢true of)
receives_varies (Some kind.Channel) is of = absurd (false≢true is)
receives_varies (Some kind.IVar) is of = absurd (false≢true is)
receives_varies (Some kind.MVar) is of = absurd (false≢true is)

reached_source : (object source : ℕ) (waiter : Waiter) → reaches object source waiter ≡ true → waiter.source ≡ source
reached_source object source waiter is = eqb-true waiter.source source (and_both (waiter.source == source) _ is).0

module _ {M : Type 0} where
  -- a mailbox's messages are sent to itself
  mailbox_source : (history : List (Entry M)) (object : ℕ) (o : Option Origin) → origin_of history object ≡ o
      → option_map kind_by o ≡ Some kind.Mailbox
      → source_of history object ≡ object
  mailbox_source history object None is of = ap (source_by object) is
  mailbox_source history object (Some mailbox) is of = ap (source_by object) is
  mailbox_source history object (Some channel) is of = ap (source_by object) is
  mailbox_source history object (Some ivar) is of = ap (source_by object) is
  mailbox_source history object (Some mvar) is of = ap (source_by object) is
  mailbox_source history object (Some (port source start)) is of = absurd (let clash : kind.Port ≡ kind.Mailbox = same_Some _ _ of in cc)

  -- who waits at something else than a variable receives
  varies : (history : List (Entry M)) (on : Want) → Fits history (wanting on)
      → ((at : Name) × (on ≡ Recv at) × IfSome (kind_of history at.0) (λ k. IsTrue (is_receiver k)))
      ⊎ IfSome (kind_of history (object_of on)) (λ k. is_variable k ≡ true)
  varies history (Recv at) fits = inl (at, refl, fits.1)
  varies history (Get at) fits = inr fits.1
  varies history (Take at) fits = inr (some_varies (kind_of history at.0) fits.1)
  varies history (Swap at) fits = inr (some_varies (kind_of history at.0) fits.1)

  -- who waits for a message of this mailbox
  pub message_helps : (history : List (Entry M)) (name : Name) (on : Want) → kind_of history name.0 ≡ Some kind.Mailbox → on ≡ Recv name
      → helps history (Message name) on ≡ true
  message_helps history name on of is =
      ap (helps history (Message name)) is
      ∙ eq-eqb name.0 (source_of history name.0) (sym (mailbox_source history name.0 (origin_of history name.0) refl of))

  -- who waits at a port of this channel
  pub multicast_helps : (history : List (Entry M)) (name : Name) (waiter : Waiter) → kind_of history name.0 ≡ Some kind.Channel
      → Fits history (wanting waiter.want) × (waiter.source ≡ source_of history (object_of waiter.want))
      → reaches name.0 name.0 waiter ≡ true
      → helps history (Multicast name) waiter.want ≡ true
  multicast_helps history name waiter of at reached =
      let here : source_of history (object_of waiter.want) ≡ name.0 = sym at.1 ∙ reached_source name.0 name.0 waiter reached in
      elim (varies history waiter.want at.0) [
        | inl receives ↦
            ap (helps history (Multicast name)) receives.1
            ∙ eq-eqb name.0 (source_of history receives.0.0) (sym here ∙ ap (λ w. source_of history (object_of w)) receives.1)
        | inr variable ↦
            let itself = variable_source history (object_of waiter.want) (origin_of history (object_of waiter.want)) refl variable in
            absurd (false≢true (not_variable (kind_of history (object_of waiter.want)) kind.Channel variable
            (ap (kind_of history) (sym itself ∙ here) ∙ of)))
      ]

  -- who waits at this port
  pub closed_helps : (history : List (Entry M)) (name : Name) (source : ℕ) (waiter : Waiter) → SourcesAreChannels history
      → source ≡ source_of history name.0
      → kind_of history name.0 ≡ Some kind.Port → Fits history (wanting waiter.want)
      × (waiter.source ≡ source_of history (object_of waiter.want))
      → reaches name.0 source waiter ≡ true → helps history (Closed name) waiter.want ≡ true
  closed_helps history name source waiter channels source_is of at reached =
      elim (or_either (name.0 == source) (name.0 == object_of waiter.want) (and_both (waiter.source == source) _ reached).1) [
        | inl itself ↦ absurd (not_itself (origin_of history name.0) refl (sym source_is ∙ sym (eqb-true name.0 source itself)))
        | inr there ↦
            let is : name.0 ≡ object_of waiter.want = eqb-true name.0 (object_of waiter.want) there in
            elim (varies history waiter.want at.0) [
              | inl receives ↦ ap (helps history (Closed name)) receives.1 ∙ eq-eqb name.0 receives.0.0 (is ∙ ap object_of receives.1)
              | inr variable ↦
                  absurd (false≢true (not_variable (kind_of history (object_of waiter.want)) kind.Port variable
                  (ap (kind_of history) (sym is) ∙ of)))
            ]
      ]
    where
      not_itself : (o : Option Origin) → origin_of history name.0 ≡ o → source_of history name.0 ≡ name.0 → ⊥
      not_itself (Some (port from start)) is same =
          let from_is : from ≡ name.0 = sym (ap (source_by name.0) is) ∙ same in
          let channel_is : kind_of history name.0 ≡ Some kind.Channel = ap (kind_of history) (sym from_is)
          ∙ channels name.0 from start is in
          absurd (let clash : kind.Port ≡ kind.Channel = same_Some _ _ (sym of ∙ channel_is) in cc)
      not_itself None is same = absurd (none-some kind.Port (sym (ap (option_map kind_by) is) ∙ of))
      not_itself (Some mailbox) is same =
          absurd (let clash : kind.Mailbox ≡ kind.Port = same_Some _ _ (sym (ap (option_map kind_by) is) ∙ of) in cc)
      not_itself (Some channel) is same =
          absurd (let clash : kind.Channel ≡ kind.Port = same_Some _ _ (sym (ap (option_map kind_by) is) ∙ of) in cc)
      not_itself (Some ivar) is same =
          absurd (let clash : kind.IVar ≡ kind.Port = same_Some _ _ (sym (ap (option_map kind_by) is) ∙ of) in cc)
      not_itself (Some mvar) is same =
          absurd (let clash : kind.MVar ≡ kind.Port = same_Some _ _ (sym (ap (option_map kind_by) is) ∙ of) in cc)

  -- who waits at this variable
  pub value_helps : (history : List (Entry M)) (name : Name) (waiter : Waiter) → SourcesAreChannels history
      → (k : Kind) → kind_of history name.0 ≡ Some k → is_variable k ≡ true
      → Fits history (wanting waiter.want) × (waiter.source ≡ source_of history (object_of waiter.want))
      → reaches name.0 name.0 waiter ≡ true
      → helps history (Value name) waiter.want ≡ true
  value_helps history name waiter channels k is of at reached =
      let here : source_of history (object_of waiter.want) ≡ name.0 = sym at.1 ∙ reached_source name.0 name.0 waiter reached in
      by_want waiter.want at.0 here
    where
      -- who receives isn't at a variable
      received : (object : ℕ) → IfSome (kind_of history object) (λ kind. IsTrue (is_receiver kind)) → source_of history object ≡ name.0 → ⊥
      received object receives here = elim (source_cases history object (origin_of history object) channels refl) [
        | inl itself ↦
            let same : kind_of history object ≡ Some k = ap (kind_of history) (sym itself ∙ here) ∙ is in
            let none =
            receives_varies (Some k) (subst (λ (o : Option Kind). IfSome o (λ kind. IsTrue (is_receiver kind))) same receives) of in
            absurd (none-some k (sym none))
        | inr of_channel ↦
            let same : k ≡ kind.Channel = same_Some _ _ (sym is ∙ (ap (kind_of history) (sym here) ∙ of_channel)) in
            absurd (false≢true (sym (ap is_variable same) ∙ of))
      ]

      itself : (on : Want) → IfSome (kind_of history (object_of on)) (λ kind. is_variable kind ≡ true)
          → source_of history (object_of on) ≡ name.0 → name.0 ≡ object_of on
      itself on variable here = sym here ∙ variable_source history (object_of on) (origin_of history (object_of on)) refl variable

      by_want : (on : Want) → Fits history (wanting on) → source_of history (object_of on) ≡ name.0 → helps history (Value name) on ≡ true
      by_want (Recv at) fits here = absurd (received at.0 fits.1 here)
      by_want (Get at) fits here = eq-eqb name.0 at.0 (itself (Get at) fits.1 here)
      by_want (Take at) fits here = eq-eqb name.0 at.0 (itself (Take at) (some_varies (kind_of history at.0) fits.1) here)
      by_want (Swap at) fits here = eq-eqb name.0 at.0 (itself (Swap at) (some_varies (kind_of history at.0) fits.1) here)

  pub want_helps : (history : List (Entry M)) (name : Name) (on : Want) → (on ≡ Get name) ⊎ ((on ≡ Take name) ⊎ (on ≡ Swap name))
      → helps history (Value name) on ≡ true
  want_helps history name on (inl get) = ap (helps history (Value name)) get ∙ eq-eqb name.0 name.0 refl
  want_helps history name on (inr (inl take)) = ap (helps history (Value name)) take ∙ eq-eqb name.0 name.0 refl
  want_helps history name on (inr (inr swap)) = ap (helps history (Value name)) swap ∙ eq-eqb name.0 name.0 refl
