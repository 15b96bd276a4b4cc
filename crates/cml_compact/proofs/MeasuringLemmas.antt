-- How many calls an object takes once it is made.
use Rattle.std.proofs.Common.{◌≡◌, ◌≢◌, ℕ, ◌-◌, ◌<◌, ◌≤◌, Bool, true, false, ◌&&◌, cond, List, [], length, take, drop, slice_get, Option}
use Rattle.std.proofs.Common.{Some, None}
use Rattle.std.proofs.Common.{refl, sym, ap, ◌∙◌, arith}
use Rattle.std.specs.Option.{option_map, option_map_or}
use Rattle.std.proofs.lemmas.Bool.{cond-true, cond-false, false≢true}
use Rattle.std.proofs.lemmas.List.{length-drop, length-take}
use Rattle.std.proofs.lemmas.Option.{none-some, same_Some, slice_get_within}
use Rattle.cml_calls.specs.{Kind, is_receiver, is_mailbox, is_channel, is_port, is_variable}
use Rattle.cml_calls.specs.declared.kind.Kind.TheVariants as kind
use Rattle.cml_board.specs.{Entry, Name, Lawful, Origin, port, kind_by, held, made, origin_of, kind_of, is_open, owed, is_a}
use Rattle.cml_board.specs.{channel_of, owed_to}
use Rattle.cml_board.specs.{held_by}
use Rattle.cml_compact.specs.{stock, settled}
use Rattle.cml_compact.specs.Planning.{AreBeginnings}
use Rattle.cml_compact.specs.Stages.{weight, closings, fillings, longest_of, begins_at}
use Rattle.cml_compact.specs.Slowest.{AreSlowest}
use Rattle.cml_compact.proofs.ChannelsLemmas.{port_after}
use Rattle.cml_compact.proofs.StockLemmas.{stock_channel, mailbox_stock, port_stock, port_of, get_within, open_begins}
use Rattle.cml_compact.proofs.SettlingLemmas.{passed_port}
use Rattle.cml_compact.proofs.PassingLemmas.{holds_none}
use Rattle.cml_compact.proofs.FillingLemmas.{others_settle}

module _ {M : Type 0} where
  -- of an object that has no messages nothing is sent
  stock_none : (h : List (Entry M)) (name : ℕ) → is_a is_mailbox h name ≡ false → is_a is_channel h name ≡ false → stock h name ≡ []
  stock_none h name first second =
      cond-false (is_a is_mailbox h name) (owed h name) (cond (is_a is_channel h name) (longest_of h name (length (made h))) []) first
      ∙ cond-false (is_a is_channel h name) (longest_of h name (length (made h))) [] second

  -- a mailbox or a channel takes a call for each message that is sent again
  source_weighs : (h : List (Entry M)) (name : ℕ) → Lawful h → is_a is_port h name ≡ false → is_a is_variable h name ≡ false
      → weight (settled h name) ≡ length (stock h name)
  source_weighs h name lawful isnt empty =
      let same = others_settle h name None lawful isnt (cond-false (is_a is_variable h name) (held h name) None empty) in
      omega (arith, ap weight same)

  pub mailbox_weighs : (h : List (Entry M)) (name : ℕ) → Lawful h → kind_of h name ≡ Some kind.Mailbox
      → length (owed_to h name) ≡ weight (settled h name)
  mailbox_weighs h name lawful is =
      ap length (mailbox_stock h name lawful is)
      ∙ sym (source_weighs h name lawful (ap (λ k. option_map_or is_port k false) is) (ap (λ k. option_map_or is_variable k false) is))

  -- what the slowest port of a channel is owed is sent again
  pub slowest_stock : (h : List (Entry M)) (source : ℕ) (name : Name) (found : List Name) → AreSlowest h (length (made h)) found
      → kind_of h source ≡ Some kind.Channel → slice_get found source ≡ Some name → owed_to h name.0 ≡ stock h source
  slowest_stock h source name found are is at = are.each source name is at ∙ sym (stock_channel h source is)

  pub channel_weighs : (h : List (Entry M)) (source : ℕ) (name : Name) (found : List Name) → Lawful h
      → AreSlowest h (length (made h)) found → kind_of h source ≡ Some kind.Channel → slice_get found source ≡ Some name
      → length (owed_to h name.0) ≡ weight (settled h source)
  channel_weighs h source name found lawful are is at =
      ap length (slowest_stock h source name found are is at)
      ∙ sym (source_weighs h source lawful (ap (λ k. option_map_or is_port k false) is) (ap (λ k. option_map_or is_variable k false) is))

  -- an open port takes one for each message that it passes over, and a closed one takes one
  port_parts : (h : List (Entry M)) (name : ℕ) → is_a is_port h name ≡ true → stock h name ≡ []
  port_parts h name is = by_kind (kind_of h name) refl is
    where
      by_kind : (k : Option Kind) → kind_of h name ≡ k → option_map_or is_port k false ≡ true → stock h name ≡ []
      by_kind (Some kind.Port) e port_is =
          stock_none h name (ap (λ k. option_map_or is_mailbox k false) e) (ap (λ k. option_map_or is_channel k false) e)
      by_kind other e port_is = absurd (false≢true port_is)

  pub open_weighs : (h : List (Entry M)) (name : ℕ) (from slow : Name) (found : List Name) (beginnings : List ℕ) (begins : ℕ) → Lawful h
      → AreSlowest h (length (made h)) found → AreBeginnings h beginnings
      → is_a is_port h name ≡ true → is_open h name ≡ true → channel_of h name ≡ Some from → slice_get found from.0 ≡ Some slow
      → slice_get beginnings name ≡ Some begins
      → (length (owed_to h name) ≤ length (owed_to h slow.0))
      × (begins ≤ length (owed_to h slow.0) - length (owed_to h name))
      × (length (owed_to h slow.0) - length (owed_to h name) - begins ≡ weight (settled h name))
  open_weighs h name from slow found beginnings begins lawful are begin is opened channel_is at there =
      let own = port_of h name from channel_is in
      let source = from.0 in
      let stream = stock h source in
      let all = slowest_stock h source slow found are (port_after h name source own.0 lawful own.1).1 at in
      let fewer = (port_stock h name source own.0 lawful own.1 opened).0 in
      let both : (is_a is_receiver h name && is_open h name) ≡ true =
      ap (λ x. option_map_or is_receiver (option_map kind_by x) false && is_open h name) own.1 ∙ opened in
      let here : owed_to h name ≡ owed h name = cond-true (is_a is_receiver h name && is_open h name) (owed h name) [] both in
      let passed = passed_port h name source own.0 own.1 opened in
      let within : name < length (made h) = slice_get_within (made h) name (port source own.0) own.1 in
      let first = begins_at h source name in
      let known : begins ≡ first = same_Some begins first (sym there ∙ begin.each name source own.0 own.1) in
      let less = open_begins h name source own.0 lawful own.1 opened within in
      let n = length stream - length (owed h name) - first in
      let size : length (take n (drop first stream)) ≡ n = omega (arith, length-take n (drop first stream), length-drop first stream) in (
        omega (arith, fewer, ap length all, ap length here),
        omega (arith, fewer, known, less, ap length all, ap length here),
        omega (
          arith,
          fewer,
          known,
          size,
          ap length all,
          ap length here,
          ap length passed,
          ap length (port_parts h name is),
          ap closings opened,
          ap fillings (holds_none h name is),
        ),
      )

  -- a variable takes one if it holds something
  variable_weighs : (h : List (Entry M)) (name : ℕ) → Lawful h → is_a is_variable h name ≡ true
      → weight (settled h name) ≡ fillings (held h name)
  variable_weighs h name lawful is = by_kind (kind_of h name) refl is
    where
      by_kind : (k : Option Kind) → kind_of h name ≡ k → option_map_or is_variable k false ≡ true
          → weight (settled h name) ≡ fillings (held h name)
      by_kind (Some kind.IVar) e holds =
          let none = stock_none h name (ap (λ k. option_map_or is_mailbox k false) e) (ap (λ k. option_map_or is_channel k false) e) in
          let same = others_settle h name (held h name) lawful (ap (λ k. option_map_or is_port k false) e)
          (cond-true (is_a is_variable h name) (held h name) None is) in
          omega (arith, ap length none, ap weight same)
      by_kind (Some kind.MVar) e holds =
          let none = stock_none h name (ap (λ k. option_map_or is_mailbox k false) e) (ap (λ k. option_map_or is_channel k false) e) in
          let same = others_settle h name (held h name) lawful (ap (λ k. option_map_or is_port k false) e)
          (cond-true (is_a is_variable h name) (held h name) None is) in
          omega (arith, ap length none, ap weight same)
      by_kind other e holds = absurd (false≢true holds)

  holds_parts : (h : List (Entry M)) (name : ℕ) (value : Option M) → held_by h name ≡ Some value
      → (is_a is_variable h name ≡ true) × (held h name ≡ value)
  holds_parts h name value holds = by_variable (is_a is_variable h name) refl
    where
      by_variable : (t : Bool) → is_a is_variable h name ≡ t → (is_a is_variable h name ≡ true) × (held h name ≡ value)
      by_variable true is = (is, same_Some _ _ (sym (cond-true (is_a is_variable h name) (Some (held h name)) None is) ∙ holds))
      by_variable false is =
          absurd (none-some value (sym (cond-false (is_a is_variable h name) (Some (held h name)) None is) ∙ holds))

  pub holding_weighs : (h : List (Entry M)) (name : ℕ) (value : Option M) → Lawful h → held_by h name ≡ Some value
      → fillings value ≡ weight (settled h name)
  holding_weighs h name value lawful holds =
      let parts = holds_parts h name value holds in
      sym (variable_weighs h name lawful parts.0 ∙ ap fillings parts.1)

  -- an object that was made has a kind
  pub kind_made : (h : List (Entry M)) (name : ℕ) → name < length (made h) → kind_of h name ≢ None
  kind_made h name within none = by_origin (origin_of h name) refl
    where
      by_origin : (x : Option Origin) → origin_of h name ≡ x → ⊥
      by_origin (Some origin) e = none-some (kind_by origin) (sym none ∙ ap (option_map kind_by) e)
      by_origin None e = get_within (made h) name within e
