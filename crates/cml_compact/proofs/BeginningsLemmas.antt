-- Where ports begin in a stream that is multicast again, and how much of it is sent before an object is made.
use Rattle.std.proofs.Common.{◌≡◌, ◌≢◌, ℕ, zero, suc, ◌-◌, ◌<◌, ◌≤◌, inl, inr, Bool, true, false, cond, min, List, [], length, take}
use Rattle.std.proofs.Common.{Option, Some, None, refl, ap, ◌∙◌, arith}
use Rattle.std.specs.Option.{option_map}
use Rattle.std.proofs.lemmas.Bool.{cases_Bool, cond-true, cond-false, eq-eqb, eqb-true, false≢true, false_from_ne_true}
use Rattle.std.proofs.lemmas.List.{length-take}
use Rattle.cml_calls.specs.declared.kind.Kind.TheVariants as kind
use Rattle.cml_board.specs.{Entry, Lawful, Origin, mailbox, channel, port, ivar, mvar, kind_by, made, origin_of, kind_of}
use Rattle.cml_board.specs.Counts.{channel_in}
use Rattle.cml_board.specs.Facts.{Facts}
use Rattle.cml_compact.specs.{begun_before, stock}
use Rattle.cml_compact.specs.Stages.{begins_at, fewest_passed, is_port_by, passed_of, placed, sent_before}
use Rattle.cml_compact.proofs.ChannelsLemmas.{port_after}

-- what is a port of a channel has it for its own
pub port_told : (x : Option Origin) (source : ℕ) → is_port_by x source ≡ true → (start : ℕ) × (x ≡ Some (port source start))
port_told (Some (port from start)) source is = (start, ap (λ k. Some (port k start)) (eqb-true from source is))
port_told x source is = absurd (false≢true is)

-- a port of another channel, or no port
pub other_port : (x : Option Origin) (k : ℕ) → ((start : ℕ) → x ≢ Some (port k start)) → is_port_by x k ≡ false
other_port x k other = false_from_ne_true (is_port_by x k) (λ is. let own = port_told x k is in other own.0 own.1)

module _ {M : Type 0} where
  -- an object that is made again has its kind and its channel
  kind_same : (h : List (Entry M)) (n : ℕ) (origin : Origin) → kind_by (placed h n origin) ≡ kind_by origin
  kind_same h n (port source start) = refl
  kind_same h n mailbox = refl
  kind_same h n channel = refl
  kind_same h n ivar = refl
  kind_same h n mvar = refl

  pub kind_placed : (h : List (Entry M)) (n : ℕ) (origin : Option Origin)
      → option_map kind_by (option_map (placed h n) origin) ≡ option_map kind_by origin
  kind_placed h n (Some origin) = ap Some (kind_same h n origin)
  kind_placed h n None = refl

  pub channel_placed : (h : List (Entry M)) (n : ℕ) (origin : Option Origin) → channel_in (option_map (placed h n) origin) ≡ channel_in origin
  channel_placed h n (Some (port source start)) = refl
  channel_placed h n (Some mailbox) = refl
  channel_placed h n (Some channel) = refl
  channel_placed h n (Some ivar) = refl
  channel_placed h n (Some mvar) = refl
  channel_placed h n None = refl

  pub fewest_most : (h : List (Entry M)) (source n k : ℕ) → fewest_passed h source n k ≤ length (stock h source)
  fewest_most h source n zero = omega arith
  fewest_most h source n (suc k) = omega (arith, fewest_most h source (suc n) k)

  pub begins_step : (h : List (Entry M)) (source n : ℕ) → n < length (made h)
      → begins_at h source n ≡ min (passed_of h source n) (begins_at h source (suc n))
  begins_step h source n within =
      let count : length (made h) - n ≡ suc (length (made h) - suc n) = omega (arith, within) in ap (fewest_passed h source n) count

  -- no more is sent before an object than each port from it on has passed
  pub sent_least : (h : List (Entry M)) (source n : ℕ) → n ≤ length (made h) → sent_before h source n ≤ begins_at h source n
  sent_least h source zero within = omega arith
  sent_least h source (suc n) within = by (is_port_by (origin_of h n) source) (sent_least h source n (omega (arith, within)))
    where
      by : (t : Bool) → sent_before h source n ≤ begins_at h source n
          → cond t (begins_at h source n) (sent_before h source n) ≤ begins_at h source (suc n)
      by true least = omega (arith, begins_step h source n (omega (arith, within)))
      by false least = omega (arith, begins_step h source n (omega (arith, within)), least)

  pub sent_most : (h : List (Entry M)) (source n : ℕ) → sent_before h source n ≤ length (stock h source)
  sent_most h source zero = omega arith
  sent_most h source (suc n) = by (is_port_by (origin_of h n) source) (sent_most h source n)
    where
      by : (t : Bool) → sent_before h source n ≤ length (stock h source)
          → cond t (begins_at h source n) (sent_before h source n) ≤ length (stock h source)
      by true most = fewest_most h source n (length (made h) - n)
      by false most = most

  -- what is sent before a port of a channel is made, and before any other object
  pub sent_port : (h : List (Entry M)) (n source start : ℕ) → origin_of h n ≡ Some (port source start)
      → sent_before h source (suc n) ≡ begins_at h source n
  sent_port h n source start is =
      cond-true (is_port_by (origin_of h n) source) (begins_at h source n) (sent_before h source n)
      (ap (λ x. is_port_by x source) is ∙ eq-eqb source source refl)

  pub sent_past : (h : List (Entry M)) (n source : ℕ) → is_port_by (origin_of h n) source ≡ false
      → sent_before h source (suc n) ≡ sent_before h source n
  sent_past h n source isnt = cond-false (is_port_by (origin_of h n) source) (begins_at h source n) (sent_before h source n) isnt

  -- nothing is sent before the channel was made
  pub sent_none : (h : List (Entry M)) (source n : ℕ) → Lawful h → n ≤ suc source → sent_before h source n ≡ 0
  sent_none h source zero lawful within = refl
  sent_none h source (suc n) lawful within = elim (cases_Bool (is_port_by (origin_of h n) source)) [
    | inl is ↦
        let own = port_told (origin_of h n) source is in absurd (omega (arith, within, (port_after h n source own.0 lawful own.1).0))
    | inr isnt ↦ sent_past h n source isnt ∙ sent_none h source n lawful (omega (arith, within))
  ]

  -- nor to what is no channel
  pub sent_other : (h : List (Entry M)) (source n : ℕ) → Lawful h → kind_of h source ≢ Some kind.Channel → sent_before h source n ≡ 0
  sent_other h source zero lawful other = refl
  sent_other h source (suc n) lawful other = elim (cases_Bool (is_port_by (origin_of h n) source)) [
    | inl is ↦ let own = port_told (origin_of h n) source is in absurd (other (port_after h n source own.0 lawful own.1).1)
    | inr isnt ↦ sent_past h n source isnt ∙ sent_other h source n lawful other
  ]

  -- the facts of an object with so many messages of its stream
  abbrev pub begun_with : List (Entry M) → ℕ → List M → Facts M
  begun_with h k sends =
      record { origin = option_map (placed h k) (origin_of h k); opened = true; sent = sends; got = []; held = None }

  pub begun_same : (h : List (Entry M)) (n k : ℕ) → is_port_by (origin_of h n) k ≡ false → begun_before h (suc n) k ≡ begun_before h n k
  begun_same h n k isnt = ap (λ m. begun_with h k (take m (stock h k))) (sent_past h n k isnt)

  pub begun_next : (h : List (Entry M)) (n source start : ℕ) → origin_of h n ≡ Some (port source start)
      → begun_before h (suc n) source ≡ begun_with h source (take (begins_at h source n) (stock h source))
  begun_next h n source start is = ap (λ m. begun_with h source (take m (stock h source))) (sent_port h n source start is)

  pub begun_fresh : (h : List (Entry M)) (n : ℕ) → Lawful h → begun_before h (suc n) n ≡ begun_with h n []
  begun_fresh h n lawful = ap (λ m. begun_with h n (take m (stock h n))) (sent_none h n (suc n) lawful (omega arith))

  pub begun_empty : (h : List (Entry M)) (n name : ℕ) → Lawful h → kind_of h name ≢ Some kind.Channel → begun_before h n name ≡ begun_with h name []
  begun_empty h n name lawful other = ap (λ m. begun_with h name (take m (stock h name))) (sent_other h name n lawful other)

  pub length_begun : (h : List (Entry M)) (n k : ℕ) → length (begun_before h n k).sent ≡ sent_before h k n
  length_begun h n k = omega (arith, length-take (sent_before h k n) (stock h k), sent_most h k n)
