-- What comes next of a script that was read: the call of each thread's next step is there and fits, and so is that of
-- the next declared object.
use Rattle.std.proofs.Common.{◌≡◌, ℕ, zero, suc, ◌+◌, ◌<◌, ◌≤◌, ◌^◌, List, length, slice_get, true, Option, Some, None}
use Rattle.std.proofs.Common.{MatchOption, refl, sym, ap, subst, ◌∙◌, arith}
use Rattle.std.proofs.lemmas.Option.{same_Some, none-some, slice_get_within}
use Rattle.std.proofs.lemmas.List.{length-map}
use Rattle.std.proofs.lemmas.Bool.{false≢true}
use Rattle.cml_board.specs.{Name, Call, Reply, Lawful, Fits, answer, new_name}
use Rattle.cml_calls.specs.declared.kind.Kind.TheVariants as kind
use Rattle.cml_board.specs.declared.call.Call.TheVariants as call
use Rattle.cml_board.specs.declared.entry.Who.TheVariants.{Seat}
use Rattle.cml_grammar.specs.{Makes, Declaration, Step, Lines, names_of, first_ring, source_of, ReadsDeclaration, ReadsStep, used_by}
use Rattle.cml_grammar.specs.declared.forms.Makes.TheVariants as makes
use Rattle.cml_grammar.proofs.ReadableLemmas.{CanBeRead}
use Rattle.cml_report.specs.{Binding, History, Follows, NoneReady, makes_object, is_object, declared_count, performed, next_position}
use Rattle.cml_report.specs.{positions_where, step_call, call_on, binding_of, IsKnown}
use Rattle.cml_replay.specs.{Executed, Stands, IsNextObject, IsNextPort, IsNext, IsReadyOf, NoneReadyOf, IsLeast, IsLeastBelow, earlier_of}
use Rattle.cml_report.proofs.ListLemmas.{mapped_at, how_many-le, listed}
use Rattle.cml_report.proofs.LineLemmas.{all_at, stands, names_objects, has_seats, asks_for_ports, declaration_object}
use Rattle.cml_report.proofs.QueueLemmas.{position_is, positions_count}
use Rattle.cml_replay.proofs.MakingLemmas.{next_object}
use Rattle.cml_replay.proofs.ReadyLemmas.{none_queued, queued_within, waits_there, ready_there, least_at_first, least_more, least_of_all}
use Rattle.cml_report.proofs.FitLemmas.{fits_kind, channel_at, fits_use}
use Rattle.cml_report.proofs.FollowerLemmas.{named, step_calls}
use Rattle.cml_report.proofs.GivingLemmas.{follows_own}
use Rattle.cml_report.proofs.KeptLemmas.{declared_kind}
use Rattle.cml_replay.proofs.BoundLemmas.{used_is_bound}
use Rattle.cml_replay.proofs.ScheduleLemmas.{at_most}

pub known : (script : Lines) → CanBeRead script → IsKnown script
known script read = record {
  named = names_objects script read.declarations read.declared read.reading.gives read.reading.declarations;
  seats = has_seats script read.steps read.asked read.reading.steps read.reading.threads;
  given = read.reading.given;
  asks = asks_for_ports script read.steps read.asked read.reading.steps;
}

-- the call of a step is there, and fits
pub record IsCall (script : Lines) (history : History) (i : ℕ) : Type 0 where
  pub asked : Call (List ℕ)
  pub calls : step_call script history i ≡ Some asked
  pub fits : Fits history asked

-- the call that makes the next declared object is there, fits, and makes it
pub record IsMaking (executed : Executed) : Type 0 where
  pub asked : Call (List ℕ)
  pub next : IsNextObject executed asked
  pub fits : Fits executed.history asked
  pub answers : answer executed.history asked ≡ Some (new_name executed.history)

-- whether a thread's next step is ready
abbrev Candidate : Lines → History → ℕ → Type 0
Candidate script history seat = (o : Option ℕ) × MatchOption o (NoneReadyOf script history seat) (λ i. IsReadyOf script history seat i)

module _ (script : Lines) (read : CanBeRead script) (plain : first_ring script ≡ None) (history : History) (lawful : Lawful history)
    (follows : Follows script history) where
  -- the limit isn't looked at, and is as high as an execution's may be
  abbrev executed : Executed
  executed = record { script = script; history = history; limit = 2 ^ 32 }

  counts : (xs : List ℕ) × (length xs ≡ 64) × ((k : ℕ) → k < length xs → slice_get xs k ≡ Some (performed history (k + 1)))
  counts = listed (λ thread. performed history (thread + 1)) 64

  bindings : (xs : List Binding) × (length xs ≡ length (names_of script))
      × ((k : ℕ) → k < length xs → slice_get xs k ≡ Some (binding_of script history k))
  bindings = listed (binding_of script history) (length (names_of script))

  -- this many entries can't be more than there are lines
  room : length history ≤ 2 ^ 32
  room =
      omega (
        arith,
        at_most script history follows,
        how_many-le (is_object script) script.declarations,
        ap length read.declared,
        ap length read.asked,
        length-map read.declarations (λ (d : Declaration). source_of d.line),
        length-map read.steps (λ (s : Step). source_of s.line),
        read.reading.few,
        read.reading.short,
      )

  all_stands : Stands executed counts.0 bindings.0
  all_stands = record {
    lawful = lawful;
    room = room;
    bounded = omega arith;
    follows = follows;
    plain = plain;
    known = known script read;
    counted = record { seats = counts.1; each = λ thread lt. counts.2 thread (omega (arith, lt, counts.1)) };
    bound = record { all = bindings.1; each = bindings.2 };
  }

  -- Steps.

  pub next_call : (seat i : ℕ) → declared_count script ≤ length history
      → next_position script history (Seat seat) ≡ Some i → IsCall script history i
  next_call seat i all next =
      let within = queued_within script history seat i next in
      let there =
      stands read.steps i (omega (arith, within, ap length read.asked, length-map read.steps (λ (x : Step). source_of x.line))) in
      let s = there.0 in
      let uses = (all_at (ReadsStep (names_of script)) read.steps i s read.reading.steps there.1).uses in
      let bound = used_is_bound all_stands read.steps i seat s read.asked read.reading.steps read.reading.earlier there.1 next all in
      let name : Name = record { 0 = bound.object } in
      record {
        asked = call_on s.action name;
        calls = step_calls script history read.steps i (used_by s.action) s
            (Some name) read.asked read.reading.steps there.1 refl (sym (ap named bound.stands));
        fits = fits_use (names_of script) s.action history name uses bound.kind;
      }

  candidate : declared_count script ≤ length history → (seat : ℕ) → Candidate script history seat
  candidate all seat = by_next (next_position script history (Seat seat)) refl
    where
      by_answer : (i : ℕ) (c : Call (List ℕ)) (r : Option (Reply (List ℕ))) → next_position script history (Seat seat) ≡ Some i
          → step_call script history i ≡ Some c → answer history c ≡ r → Candidate script history seat
      by_answer i c None next calls e = (None, waits_there script history seat i c next calls e)
      by_answer i c (Some r) next calls e = (Some i, ready_there script history seat i c next calls (λ none. none-some r (sym none ∙ e)))

      by_next : (n : Option ℕ) → next_position script history (Seat seat) ≡ n → Candidate script history seat
      by_next None e = (None, none_queued script history seat e)
      by_next (Some i) e = let c = next_call seat i all e in by_answer i c.asked (answer history c.asked) e c.calls refl

  least_below : declared_count script ≤ length history → (n : ℕ) → (o : Option ℕ) × IsLeastBelow script history n o
  least_below all zero = (None, least_at_first script history (known script read).seats)
  least_below all (suc n) =
      let below = least_below all n in
      let next = candidate all (n + 1) in
      let same : n + 1 ≡ suc n = omega arith in (
        earlier_of below.0 next.0,
        subst (λ m. IsLeastBelow script history m (earlier_of below.0 next.0)) same
            (least_more script history n below.0 next.0 below.1 next.1),
      )

  -- a step is the least that is ready, or none is
  pub least_ready : declared_count script ≤ length history
      → (o : Option ℕ) × MatchOption o (NoneReady script history) (IsLeast script history)
  least_ready all =
      let least = least_below all 64 in
      (least.0, least_of_all script history (known script read).seats least.0 least.1)

  -- Declarations.

  pub next_making : length history < declared_count script → IsMaking executed
  next_making lt =
      let place = stands (positions_where (is_object script) 0 script.declarations) (length history)
      (omega (arith, lt, positions_count (is_object script) 0 script.declarations)) in
      let there = position_is (is_object script) 0 script.declarations (length history) place.0 place.1 in
      let given = stands read.declarations there.place (omega (
        arith,
        slice_get_within script.declarations there.place there.line there.found,
        ap length read.declared,
        length-map read.declarations (λ (x : Declaration). source_of x.line),
      )) in
      let d = given.0 in
      let line =
      mapped_at (λ (x : Declaration). source_of x.line) read.declarations script.declarations there.place d read.declared given.1 in
      let reads = all_at (ReadsDeclaration (names_of script)) read.declarations there.place d read.reading.declarations given.1 in
      let object = sym (declaration_object script d reads)
      ∙ ap (is_object script) (same_Some _ _ (sym line ∙ there.found)) ∙ there.seated in
      by_makes d.makes object (next_object executed (known script read).named there.place d (sym there.behind) line reads
      (read.reading.gives.made there.place d given.1))
    where
      by_port : (channel : ℕ) → IsNextPort executed channel → IsMaking executed
      by_port channel (is_channel, within, o, object, next) =
          let name : Name = record { 0 = o } in
          record {
            asked = call.NewPort name;
            next = next;
            fits = fits_kind history name kind.Channel (call.NewPort name)
                (declared_kind script history all_stands.known.named channel o kind.Channel (follows_own script history all_stands.follows)
                all_stands.lawful within object (channel_at (names_of script) channel is_channel)) refl refl;
            answers = refl;
          }

      by_makes : (m : Makes) → makes_object m ≡ true → IsNext executed m → IsMaking executed
      by_makes makes.Thread is next = absurd (false≢true is)
      by_makes (makes.Port channel) is next = by_port channel next
      by_makes (makes.Feed feed) is next = by_port feed.channel next
      by_makes m is next = record { asked = _; next = next; fits = (tt, tt); answers = refl }
