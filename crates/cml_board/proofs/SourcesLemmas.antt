-- Calls that fit name an object of their kind.
use Rattle.std.proofs.Common.{◌≡◌, ℕ, true, false, length, slice_get, Option, Some, None, IsTrue, IsSome, IfSome, refl, sym, ap, ◌∙◌}
use Rattle.std.specs.Option.{option_map, option_map_or}
use Rattle.std.proofs.lemmas.Option.{slice_get_within, some_pair_parts}
use Rattle.std.proofs.lemmas.Bool.{false≢true}
use Rattle.cml_board.specs.{Name, Origin, mailbox, channel, port, kind_by, takes, given_call, Fits, made, origin_of, is_open, is_a, adds}
use Rattle.cml_board.specs.{facts_of, HasLog, cursor_at, open_port}
use Rattle.cml_board.specs.Shown.{Shown}
use Rattle.cml_board.specs.Keeps.{Keeps}
use Rattle.cml_calls.specs.{Kind, Give, is_channel, is_port, is_source}
use Rattle.cml_calls.specs.declared.kind.Kind.TheVariants as kind
use Rattle.cml_calls.specs.declared.table.Give.TheVariants as give
use Rattle.cml_board.proofs.StandingLemmas.{source_stands_mailbox, source_stands_channel, cursor_of_port}

channel_source : (k : Option Kind) → option_map_or is_channel k false ≡ true → option_map_or is_source k false ≡ true
channel_source None is = is
channel_source (Some kind.Channel) is = refl
channel_source (Some other) is = absurd (false≢true is)

module _ {M : Type 0} where
  -- an object that messages are put into has a log
  pub source_stands : (chunk : ℕ) (board : Shown M) (name : ℕ) → Keeps chunk board
      → is_a is_source board.history name ≡ true → HasLog board.objects name
  source_stands chunk board name keeps is = by_origin (origin_of board.history name) refl
    where
      by_origin : (o : Option Origin) → origin_of board.history name ≡ o → HasLog board.objects name
      by_origin None e = absurd (false≢true (sym (ap (λ o. option_map_or is_source (option_map kind_by o) false) e) ∙ is))
      by_origin (Some mailbox) e =
          source_stands_mailbox chunk (length (made board.history)) (facts_of board.history) board.objects name keeps.shows e
          (slice_get_within (made board.history) name mailbox e)
      by_origin (Some channel) e =
          source_stands_channel chunk (length (made board.history)) (facts_of board.history) board.objects name keeps.shows e
          (slice_get_within (made board.history) name channel e)
      by_origin (Some other) e = absurd (false≢true (sym (ap (λ o. option_map_or is_source (option_map kind_by o) false) e) ∙ is))

  pub channel_stands : (chunk : ℕ) (board : Shown M) (name : ℕ) → Keeps chunk board
      → is_a is_channel board.history name ≡ true → HasLog board.objects name
  channel_stands chunk board name keeps is =
      source_stands chunk board name keeps (channel_source (option_map kind_by (origin_of board.history name)) is)

  put_source : (k : Option Kind) (gives : Give) (name : Name) (message : M) → adds gives ≡ true → IsSome k
      → IfSome k (λ kind. IsTrue (takes kind (given_call gives name message))) → option_map_or is_source k false ≡ true
  put_source None gives name message is some takes = absurd (false≢true some)
  put_source (Some kind.Mailbox) gives name message is some takes = refl
  put_source (Some kind.Channel) gives name message is some takes = refl
  put_source (Some other) give.Send name message is some takes = absurd (false≢true takes)
  put_source (Some other) give.Cast name message is some takes = absurd (false≢true takes)
  put_source (Some other) gives name message is some takes = absurd (false≢true is)

  -- a message is put into a log
  pub put_stands : (chunk : ℕ) (board : Shown M) (gives : Give) (name : Name) (message : M) → adds gives ≡ true → Keeps chunk board
      → Fits board.history (given_call gives name message) → HasLog board.objects name.0
  put_stands chunk board give.Send name message is keeps fits =
      source_stands chunk board name.0 keeps
      (put_source (option_map kind_by (origin_of board.history name.0)) give.Send name message is fits.0 fits.1)
  put_stands chunk board give.Cast name message is keeps fits =
      source_stands chunk board name.0 keeps
      (put_source (option_map kind_by (origin_of board.history name.0)) give.Cast name message is fits.0 fits.1)
  put_stands chunk board other name message is keeps fits = absurd (false≢true is)

  -- a port that reads a channel was made on it
  pub port_origin : (chunk : ℕ) (board : Shown M) (name source key : ℕ) → Keeps chunk board → is_a is_port board.history name ≡ true
      → is_open board.history name ≡ true → cursor_at board.objects name ≡ Some (source, key)
      → (start : ℕ) × (origin_of board.history name ≡ Some (port source start))
  port_origin chunk board name source key keeps is opened reads = by_origin (origin_of board.history name) refl
    where
      by_origin : (o : Option Origin) → origin_of board.history name ≡ o
          → (start : ℕ) × (origin_of board.history name ≡ Some (port source start))
      by_origin None e = absurd (false≢true (sym (ap (λ o. option_map_or is_port (option_map kind_by o) false) e) ∙ is))
      by_origin (Some (port from start)) e =
          let within = slice_get_within (made board.history) name (port from start) e in
          let own = cursor_of_port chunk (length (made board.history))
          (facts_of board.history) board.objects name from start keeps.shows e opened within in
          let same = (some_pair_parts from source own.0 key (sym own.1 ∙ reads)).0 in
          (start, e ∙ ap (λ s. Some (port s start)) same)
      by_origin (Some other) e = absurd (false≢true (sym (ap (λ o. option_map_or is_port (option_map kind_by o) false) e) ∙ is))

  -- a port that is found open is one
  pub open_port_told : (chunk : ℕ) (board : Shown M) (name source start key : ℕ) → Keeps chunk board
      → slice_get board.objects name ≡ Some (open_port source start key)
      → (is_a is_port board.history name ≡ true) × (is_open board.history name ≡ true)
  open_port_told chunk board name source start key keeps found =
      let agrees = keeps.shows.each name (open_port source start key) found in
      (ap (λ o. option_map_or is_port (option_map kind_by o) false) agrees.0, agrees.1)
