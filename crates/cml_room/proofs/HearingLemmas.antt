-- Who is reached by news, by the kinds of objects.
use Rattle.std.proofs.Common.{◌≡◌, ℕ, zero, suc, ◌+◌, ◌≤◌, ◌⊎◌, inl, inr, Bool, true, false, List, [], ◌∷◌, ◌++◌, length, slice_get}
use Rattle.std.proofs.Common.{Option, Some, None, IsTrue, IsSome, IfSome, refl, sym, ap, subst, ◌∙◌, arith}
use Rattle.std.specs.Prelude.{◌==◌, ◌&&◌, ◌||◌}
use Rattle.std.specs.Option.{option_map}
use Rattle.std.proofs.lemmas.Option.{none-some, same_Some}
use Rattle.std.proofs.lemmas.Bool.{true≢false, false≢true, eqb-true, eq-eqb, cases_lt}
use Rattle.cml_board.specs.{Name, Call, Reply, Entry, Want, Origin, mailbox, channel, port, ivar, mvar, kind_by, source_by, copy_of, takes}
use Rattle.cml_board.specs.{Lawful, Fits, made, if_made, begun_by, origin_of, kind_of, sent, got}
use Rattle.cml_calls.specs.{Kind, is_channel, is_variable}
use Rattle.cml_calls.specs.declared.kind.Kind.TheVariants as kind
use Rattle.cml_board.specs.declared.call.Call.TheVariants as call
use Rattle.cml_board.specs.declared.entry.Reply.TheVariants.{Made}
use Rattle.cml_board.specs.declared.want.Want.TheVariants.{Recv, Get, Take, Swap}
use Rattle.cml_board.proofs.ClosingLemmas.{kind_kept}
use Rattle.cml_board.proofs.ReceivedLemmas.{slice_get-append_within}
use Rattle.cml_room.specs.declared.news.News.{News}
use Rattle.cml_room.specs.{Place, Waiter, object_of, source_of, helps, NoNews, IsOf, AreRoused, IsMate, IsQuiet, reaches, AreAt}
use Rattle.cml_room.specs.declared.news.News.TheVariants.{Message, Multicast, Value, Closed}
use Rattle.cml_room.proofs.RousingLemmas.{mate_on, quiet_before}

-- an item after the first list is in the second
behind : {X : Type 0} (xs ys : List X) (k : ℕ) (x : X) → length xs ≤ k → slice_get (xs ++ ys) k ≡ Some x
    → (i : ℕ) × (slice_get ys i ≡ Some x)
behind [] ys k x past found = (k, found)
behind (y ∷ xs) ys zero x past found = absurd (omega (arith, past))
behind (y ∷ xs) ys (suc k) x past found = behind xs ys k x (omega (arith, past)) found

only_one : {X : Type 0} (y x : X) (i : ℕ) → slice_get (y ∷ []) i ≡ Some x → y ≡ x
only_one y x zero found = same_Some y x found
only_one y x (suc i) found = absurd (none-some x found)

eqb_same : (n : ℕ) → (n == n) ≡ true
eqb_same n = eq-eqb n n refl

or_right_true : (a b : Bool) → b ≡ true → (a || b) ≡ true
or_right_true true b is = refl
or_right_true false b is = is

channel_kind : (k : Kind) → is_channel k ≡ true → k ≡ kind.Channel
channel_kind kind.Channel is = refl
channel_kind kind.Mailbox is = absurd (false≢true is)
channel_kind kind.Port is = absurd (false≢true is)
channel_kind kind.IVar is = absurd (false≢true is)
channel_kind kind.MVar is = absurd (false≢true is)

module _ {M : Type 0} where
  kind_taken : (history : List (Entry M)) (name : ℕ) (made_call : Call M) (k : Option Kind) → kind_of history name ≡ k → IsSome k
      → IfSome k (λ kind. IsTrue (takes kind made_call))
      → (kind : Kind) × (kind_of history name ≡ Some kind) × (takes kind made_call ≡ true)
  kind_taken history name made_call None is some taken = absurd (false≢true some)
  kind_taken history name made_call (Some kind) is some taken = (kind, is, taken)

  abbrev pub SourcesAreChannels : List (Entry M) → Type 0
  SourcesAreChannels history = (object source start : ℕ) → origin_of history object ≡ Some (port source start)
      → kind_of history source ≡ Some kind.Channel

  copied : (before : List (Entry M)) (name n : ℕ) (o : Option Origin) (i source start : ℕ)
      → SourcesAreChannels before → origin_of before name ≡ o
      → slice_get (copy_of o n) i ≡ Some (port source start) → kind_of before source ≡ Some kind.Channel
  copied before name n (Some (port from at)) i source start earlier is found =
      let same : port from (at + n) ≡ port source start = only_one (port from (at + n)) (port source start) i found in
      let from_is : from ≡ source = cc in
      ap (kind_of before) (sym from_is) ∙ earlier name from at is
  copied before name n None i source start earlier is found = absurd (none-some (port source start) found)
  copied before name n (Some mailbox) i source start earlier is found = absurd (none-some (port source start) found)
  copied before name n (Some channel) i source start earlier is found = absurd (none-some (port source start) found)
  copied before name n (Some ivar) i source start earlier is found = absurd (none-some (port source start) found)
  copied before name n (Some mvar) i source start earlier is found = absurd (none-some (port source start) found)

  begun : (before : List (Entry M)) (made_call : Call M) (i source start : ℕ) → SourcesAreChannels before → Fits before made_call
      → slice_get (begun_by (made before) before made_call) i ≡ Some (port source start) → kind_of before source ≡ Some kind.Channel
  begun before call.NewMailbox i source start earlier fits found =
      absurd (let clash : mailbox ≡ port source start = only_one mailbox (port source start) i found in cc)
  begun before call.NewChannel i source start earlier fits found =
      absurd (let clash : channel ≡ port source start = only_one channel (port source start) i found in cc)
  begun before call.NewIVar i source start earlier fits found =
      absurd (let clash : ivar ≡ port source start = only_one ivar (port source start) i found in cc)
  begun before call.NewMVar i source start earlier fits found =
      absurd (let clash : mvar ≡ port source start = only_one mvar (port source start) i found in cc)
  begun before (call.MVarInit message) i source start earlier fits found =
      absurd (let clash : mvar ≡ port source start = only_one mvar (port source start) i found in cc)
  begun before (call.NewPort name) i source start earlier fits found =
      let same : port name.0 (length (sent before name.0)) ≡ port source start =
      only_one (port name.0 (length (sent before name.0))) (port source start) i found in
      let from_is : name.0 ≡ source = cc in
      let taken = kind_taken before name.0 (call.NewPort name) (kind_of before name.0) refl fits.0 fits.1 in
      ap (kind_of before) (sym from_is) ∙ (taken.1 ∙ ap Some (channel_kind taken.0 taken.2))
  begun before (call.CopyPort name) i source start earlier fits found =
      copied before name.0 (length (got before name.0)) (origin_of before name.0) i source start earlier refl found
  begun before made_call i source start earlier fits found = absurd (none-some (port source start) found)

  made_by : (before : List (Entry M)) (made_call : Call M) (reply : Reply M) (i source start : ℕ)
      → SourcesAreChannels before → Fits before made_call
      → slice_get (if_made reply (begun_by (made before) before made_call)) i ≡ Some (port source start)
      → kind_of before source ≡ Some kind.Channel
  made_by before made_call (Made name) i source start earlier fits found = begun before made_call i source start earlier fits found
  made_by before made_call reply i source start earlier fits found = absurd (none-some (port source start) found)

  -- a port is of a channel
  pub ports_are_of_channels : (history : List (Entry M)) → Lawful history → SourcesAreChannels history
  ports_are_of_channels [] lawful object source start is = absurd (none-some (port source start) is)
  ports_are_of_channels (entry ∷ before) lawful object source start is =
      let earlier = ports_are_of_channels before lawful.2 in
      let begins = if_made entry.reply (begun_by (made before) before entry.call) in
      kind_kept entry before source kind.Channel (elim (cases_lt object (length (made before))) [
        | inl within ↦ earlier object source start (sym (slice_get-append_within (made before) begins object within) ∙ is)
        | inr past ↦
            let later = behind (made before) begins object (port source start) past is in
            made_by before entry.call entry.reply later.0 source start earlier lawful.0 later.1
      ])

  -- the source of an object's messages: a channel, if the object is a port
  pub source_cases : (history : List (Entry M)) (object : ℕ) (o : Option Origin) → SourcesAreChannels history → origin_of history object ≡ o
      → (source_of history object ≡ object) ⊎ (kind_of history (source_of history object) ≡ Some kind.Channel)
  source_cases history object (Some (port source start)) channels is =
      let source_is : source_of history object ≡ source = ap (source_by object) is in
      inr (ap (kind_of history) source_is ∙ channels object source start is)
  source_cases history object None channels is = inl (ap (source_by object) is)
  source_cases history object (Some mailbox) channels is = inl (ap (source_by object) is)
  source_cases history object (Some channel) channels is = inl (ap (source_by object) is)
  source_cases history object (Some ivar) channels is = inl (ap (source_by object) is)
  source_cases history object (Some mvar) channels is = inl (ap (source_by object) is)

  -- a variable's values are put into itself
  pub variable_source : (history : List (Entry M)) (object : ℕ) (o : Option Origin) → origin_of history object ≡ o
      → IfSome (option_map kind_by o) (λ k. is_variable k ≡ true)
      → source_of history object ≡ object
  variable_source history object None is of = ap (source_by object) is
  variable_source history object (Some ivar) is of = ap (source_by object) is
  variable_source history object (Some mvar) is of = ap (source_by object) is
  variable_source history object (Some mailbox) is of = ap (source_by object) is
  variable_source history object (Some channel) is of = ap (source_by object) is
  variable_source history object (Some (port source start)) is of = absurd (false≢true of)

  told_or : (history : List (Entry M)) (news : News) (on : Want) (P : Type 0) → (helps history news on ≡ true → P)
      → (helps history news on ≡ false) ⊎ P
  told_or history news on P helped = by_test (helps history news on) refl
    where
      by_test : (t : Bool) → helps history news on ≡ t → (helps history news on ≡ false) ⊎ P
      by_test false is = inl is
      by_test true is = inr (helped is)

  -- what `tell` promises, of these news
  abbrev pub AreTold : List (Entry M) → News → List Place → Type 0
  AreTold history news places = (number : ℕ) (waiter : Waiter) → IsQuiet places number waiter
      → (helps history news waiter.want ≡ false) ⊎ IsMate places waiter.want

  -- who waits for a message of this mailbox waits at it
  at_mailbox : (history : List (Entry M)) (name : Name) (on : Want) → SourcesAreChannels history
      → kind_of history name.0 ≡ Some kind.Mailbox
      → helps history (Message name) on ≡ true → (on ≡ Recv name) × (source_of history (object_of on) ≡ name.0)
  at_mailbox history name (Recv at) channels of is =
      let from : name.0 ≡ source_of history at.0 = eqb-true name.0 (source_of history at.0) is in
      elim (source_cases history at.0 (origin_of history at.0) channels refl) [
        | inl itself ↦
            let same : name.0 ≡ at.0 = from ∙ itself in
            (ap (λ n. Recv (record { 0 = n })) (sym same), sym from)
        | inr of_channel ↦
            absurd (let clash : kind.Mailbox ≡ kind.Channel = same_Some _ _ (sym of ∙ (ap (kind_of history) from ∙ of_channel)) in cc)
      ]
  at_mailbox history name (Get at) channels of is = absurd (false≢true is)
  at_mailbox history name (Take at) channels of is = absurd (false≢true is)
  at_mailbox history name (Swap at) channels of is = absurd (false≢true is)

  pub message_told : (history : List (Entry M)) (name : Name) (places : List Place) → Lawful history
      → kind_of history name.0 ≡ Some kind.Mailbox → AreAt history places
      → ((number : ℕ) (waiter : Waiter) → IsQuiet places number waiter → waiter.want ≡ Recv name
      → waiter.source ≡ name.0 → IsMate places (Recv name))
      → AreTold history (Message name) places
  message_told history name places lawful of at first = λ number waiter quiet.
      told_or history (Message name) waiter.want (IsMate places waiter.want) (λ is.
      let where_is = at_mailbox history name waiter.want (ports_are_of_channels history lawful) of is in
      subst (IsMate places) (sym where_is.0) (first number waiter quiet where_is.0 ((at number waiter quiet.here).1 ∙ where_is.1)))

  pub multicast_told : (history : List (Entry M)) (name : Name) (places : List Place) → AreAt history places
      → ((number : ℕ) (waiter : Waiter) → IsQuiet places number waiter → reaches name.0 name.0 waiter ≡ false)
      → AreTold history (Multicast name) places
  multicast_told history name places at each = λ number waiter quiet.
      told_or history (Multicast name) waiter.want (IsMate places waiter.want) (λ is.
      absurd (true≢false (sym (from_there waiter (at number waiter quiet.here).1 is) ∙ each number waiter quiet)))
    where
      by_want : (on : Want) → helps history (Multicast name) on ≡ true → source_of history (object_of on) ≡ name.0
      by_want (Recv at) is = sym (eqb-true name.0 (source_of history at.0) is)
      by_want (Get at) is = absurd (false≢true is)
      by_want (Take at) is = absurd (false≢true is)
      by_want (Swap at) is = absurd (false≢true is)

      from_there : (waiter : Waiter) → waiter.source ≡ source_of history (object_of waiter.want)
          → helps history (Multicast name) waiter.want ≡ true → reaches name.0 name.0 waiter ≡ true
      from_there waiter source is =
          ap (λ b. b && ((name.0 == name.0) || (name.0 == object_of waiter.want)))
          (eq-eqb waiter.source name.0 (source ∙ by_want waiter.want is))
          ∙ ap (λ b. b || (name.0 == object_of waiter.want)) (eqb_same name.0)

  reached_at : (history : List (Entry M)) (object source : ℕ) (waiter : Waiter)
      → source_of history object ≡ source → object_of waiter.want ≡ object
      → waiter.source ≡ source_of history (object_of waiter.want) → reaches object source waiter ≡ true
  reached_at history object source waiter source_is there from =
      ap (λ b. b && ((object == source) || (object == object_of waiter.want)))
      (eq-eqb waiter.source source (from ∙ (ap (source_of history) there ∙ source_is)))
      ∙ or_right_true (object == source) (object == object_of waiter.want) (eq-eqb object (object_of waiter.want) (sym there))

  pub closed_told : (history : List (Entry M)) (name : Name) (source : ℕ) (places : List Place)
      → source ≡ source_of history name.0 → AreAt history places
      → ((number : ℕ) (waiter : Waiter) → IsQuiet places number waiter → reaches name.0 source waiter ≡ false)
      → AreTold history (Closed name) places
  closed_told history name source places source_is at each = λ number waiter quiet.
      told_or history (Closed name) waiter.want (IsMate places waiter.want) (λ is.
      absurd
      (true≢false (sym (reached_at history name.0 source waiter (sym source_is) (by_want waiter.want is) (at number waiter quiet.here).1)
      ∙ each number waiter quiet)))
    where
      by_want : (on : Want) → helps history (Closed name) on ≡ true → object_of on ≡ name.0
      by_want (Recv at) is = sym (eqb-true name.0 at.0 is)
      by_want (Get at) is = absurd (false≢true is)
      by_want (Take at) is = absurd (false≢true is)
      by_want (Swap at) is = absurd (false≢true is)

  at_variable : (history : List (Entry M)) (name : Name) (on : Want) → helps history (Value name) on ≡ true → object_of on ≡ name.0
  at_variable history name (Recv at) is = absurd (false≢true is)
  at_variable history name (Get at) is = sym (eqb-true name.0 at.0 is)
  at_variable history name (Take at) is = sym (eqb-true name.0 at.0 is)
  at_variable history name (Swap at) is = sym (eqb-true name.0 at.0 is)

  -- all that wait at the variable are due
  pub value_told : (history : List (Entry M)) (name : Name) (places : List Place)
      → IfSome (kind_of history name.0) (λ k. is_variable k ≡ true) → AreAt history places
      → ((number : ℕ) (waiter : Waiter) → IsQuiet places number waiter → reaches name.0 name.0 waiter ≡ false)
      → AreTold history (Value name) places
  value_told history name places of at each = λ number waiter quiet.
      told_or history (Value name) waiter.want (IsMate places waiter.want) (λ is.
      absurd (true≢false (sym (reached_at history name.0 name.0 waiter (variable_source history name.0 (origin_of history name.0) refl of)
      (at_variable history name waiter.want is) (at number waiter quiet.here).1) ∙ each number waiter quiet)))

  -- one that waits in each way is due
  pub values_told : (So To : Waiter → Type 0) (history : List (Entry M)) (name : Name) (one two three : List Place)
      → IfSome (kind_of history name.0) (λ k. is_variable k ≡ true)
      → AreAt history three → AreRoused So one two → AreRoused To two three
      → ((number : ℕ) (waiter : Waiter) → IsQuiet one number waiter → waiter.want ≡ Get name
      → waiter.source ≡ name.0 → IsMate one (Get name))
      → ((number : ℕ) (waiter : Waiter) → IsQuiet two number waiter → waiter.want ≡ Take name
      → waiter.source ≡ name.0 → IsMate two (Take name))
      → ((number : ℕ) (waiter : Waiter) → IsQuiet three number waiter → waiter.want ≡ Swap name
      → waiter.source ≡ name.0 → IsMate three (Swap name))
      → AreTold history (Value name) three
  values_told So To history name one two three of at first second get take swap = λ number waiter quiet.
      told_or history (Value name) waiter.want (IsMate three waiter.want) (λ is.
      let there = at_variable history name waiter.want is in
      let source : waiter.source ≡ name.0 =
      (at number waiter quiet.here).1
      ∙ (ap (source_of history) there ∙ variable_source history name.0 (origin_of history name.0) refl of) in
      by_want number waiter quiet source waiter.want refl is there)
    where
      by_want : (number : ℕ) (waiter : Waiter) → IsQuiet three number waiter → waiter.source ≡ name.0 → (on : Want) → waiter.want ≡ on
          → helps history (Value name) waiter.want ≡ true
          → object_of waiter.want ≡ name.0 → IsMate three waiter.want
      by_want number waiter quiet source (Recv at) want is there = absurd (false≢true (sym (ap (helps history (Value name)) want) ∙ is))
      by_want number waiter quiet source (Get at) want is there =
          let same : waiter.want ≡ Get name = want ∙ ap (λ n. Get (record { 0 = n })) (sym (ap object_of want) ∙ there) in
          let mid = quiet_before To two three number waiter second quiet in
          subst (IsMate three) (sym same) (mate_on To two three (Get name) second (mate_on So one two (Get name) first
          (get number waiter (quiet_before So one two number waiter first mid) same source)))
      by_want number waiter quiet source (Take at) want is there =
          let same : waiter.want ≡ Take name = want ∙ ap (λ n. Take (record { 0 = n })) (sym (ap object_of want) ∙ there) in
          subst (IsMate three) (sym same)
          (mate_on To two three (Take name) second (take number waiter (quiet_before To two three number waiter second quiet) same source))
      by_want number waiter quiet source (Swap at) want is there =
          let same : waiter.want ≡ Swap name = want ∙ ap (λ n. Swap (record { 0 = n })) (sym (ap object_of want) ∙ there) in
          subst (IsMate three) (sym same) (swap number waiter quiet same source)

  -- the same of the news that were given
  pub told_news : (history : List (Entry M)) (given : Option News) (news : News) (places : List Place)
      → given ≡ Some news → AreTold history news places
      → (number : ℕ) (waiter : Waiter) → IsQuiet places number waiter → NoNews history given waiter.want ⊎ IsMate places waiter.want
  told_news history given news places is told = λ number waiter quiet.
      subst (λ (n : Option News). NoNews history n waiter.want ⊎ IsMate places waiter.want) (sym is) (told number waiter quiet)

  pub news_of : (history : List (Entry M)) (given : Option News) (news : News) → given ≡ Some news
      → IfSome given (IsOf history) → IsOf history news
  news_of history given news is of = subst (λ (n : Option News). IfSome n (IsOf history)) is of
