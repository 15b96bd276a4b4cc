-- Names of objects of a kind, and the calls that these take.
use Rattle.std.proofs.Common.{◌≡◌, ℕ, true, List, Option, Some, refl, ap, ◌∙◌}
use Rattle.std.proofs.lemmas.Option.{none-some}
use Rattle.cml_calls.specs.{Kind, Takers, Give, Ask, admits, is_receiver, Row, given, asked}
use Rattle.cml_calls.specs.declared.kind.Kind.TheVariants as kind
use Rattle.cml_calls.specs.declared.table.Give.TheVariants as give
use Rattle.cml_calls.specs.declared.table.Ask.TheVariants as ask
use Rattle.cml_board.specs.{Name, Call, object_in, row_of, takes, given_call, want_in, Fits, kind_of}
use Rattle.cml_grammar.specs.{Action, Named, Given, kind_of_named, kind_named, asked_place, IsMailboxAt, IsChannelAt, IsPortAt, IsFeedAt}
use Rattle.cml_grammar.specs.{UsesWell, used_by, IsSuitedAt}
use Rattle.cml_grammar.specs.declared.forms.Action.TheVariants as action
use Rattle.cml_grammar.specs.declared.forms.Place.TheVariants.{Object}
use Rattle.cml_grammar.specs.declared.names.Named.TheVariants as called
use Rattle.cml_report.specs.{History, call_on, call_of, IsObjectAt}
use Rattle.cml_grammar.proofs.ListLemmas.{mapped_some}
use Rattle.cml_report.proofs.ListLemmas.{passing}

module _ (names : List Given) (at : ℕ) where
  pub mailbox_at : IsMailboxAt names at → IsObjectAt names at kind.Mailbox
  mailbox_at (word, found) = (word, called.Mailbox, found, refl)

  pub channel_at : IsChannelAt names at → IsObjectAt names at kind.Channel
  channel_at (word, found) = (word, called.Channel, found, refl)

  pub port_at : IsPortAt names at → IsObjectAt names at kind.Port
  port_at (word, whose, found) = (word, called.Port whose, found, refl)

  pub feed_port : IsFeedAt names at → IsObjectAt names at kind.Port
  feed_port (word, owner, found) = (word, called.Feed owner, found, refl)

-- a call on an object of a kind that takes it
pub fits_kind : (history : History) (name : Name) (k : Kind) (c : Call (List ℕ)) → kind_of history name.0 ≡ Some k → object_in c ≡ Some name
    → takes k c ≡ true → Fits history c
fits_kind history name k c is on taken = rw (on, is) (refl, taken)

-- A step and the table of calls.

-- the row of a step's call
abbrev pub row_asked : Action → Row
row_asked (action.Give give at message) = given give
row_asked (action.Ask ask at) = asked ask

row_is : (a : Action) (name : Name) → row_of (call_on a name) ≡ row_asked a
row_is (action.Give give.Send at message) name = refl
row_is (action.Give give at message) name = refl
row_is (action.Ask ask.NewPort at) name = refl
row_is (action.Ask ask at) name = refl

object_is : (a : Action) (name : Name) → object_in (call_on a name) ≡ Some name
object_is (action.Give give.Send at message) name = refl
object_is (action.Give give at message) name = refl
object_is (action.Ask ask.NewPort at) name = refl
object_is (action.Ask ask at) name = refl

-- what a call waits for doesn't depend on its message
pub want_is : {M N : Type 0} (give : Give) (name : Name) (one : M) (other : N)
    → want_in (given_call give name one) ≡ want_in (given_call give name other)
want_is give.Send name one other = refl
want_is give name one other = refl

-- the call is made on an object
pub called_on : (object : ℕ → Option ℕ) (a : Action) (c : Call (List ℕ)) → call_of object a ≡ Some c → (name : Name) × (call_on a name ≡ c)
called_on object a c called =
    let is = mapped_some (λ n. call_on a (record { 0 = n })) (object (used_by a)) c called in (record { 0 = is.0 }, is.2)

-- the name at this position is an object's that takes such calls
abbrev pub IsTakerAt : List Given → Takers → ℕ → Type 0
IsTakerAt names takers at = (k : Kind) × IsObjectAt names at k × (admits takers k ≡ true)

with_feeds : (n : Named) (k : Kind) → kind_of_named n ≡ Some k → kind_named n ≡ Some k
with_feeds (called.Feed owner) k e = absurd (none-some k e)
with_feeds n k e = e

object_taker : (names : List Given) (takers : Takers) (at : ℕ) → IsSuitedAt names (Object takers) at → IsTakerAt names takers at
object_taker names takers at (word, n, found, suits) =
    let k = passing (admits takers) (kind_of_named n) suits in
    (k.0, (word, n, found, with_feeds n k.0 k.1), k.2)

asked_taker : (names : List Given) (ask : Ask) (at : ℕ) → IsSuitedAt names (asked_place ask) at → IsTakerAt names (asked ask).takers at
asked_taker names ask.Poll at (word, n, found, suits) =
    let k = passing is_receiver (kind_named n) suits in
    (k.0, (word, n, found, k.1), k.2)
asked_taker names ask at suited = object_taker names (asked ask).takers at suited

-- the name that a step uses is that of an object that takes its call
pub used_taker : (names : List Given) (a : Action) → UsesWell names a → IsTakerAt names (row_asked a).takers (used_by a)
used_taker names (action.Give give at message) uses = object_taker names (given give).takers at uses.0
used_taker names (action.Ask ask at) uses = asked_taker names ask at uses

-- and the call fits it
pub fits_use : (names : List Given) (a : Action) (history : History) (name : Name) → UsesWell names a
    → ((k : Kind) → IsObjectAt names (used_by a) k → kind_of history name.0 ≡ Some k) → Fits history (call_on a name)
fits_use names a history name uses kinds =
    let taker = used_taker names a uses in
    fits_kind history name taker.0 (call_on a name) (kinds taker.0 taker.1) (object_is a name)
    (ap (λ (r : Row). admits r.takers taker.0) (row_is a name) ∙ taker.2)
