-- A script has a schedule, and where it ends stalled each thread with steps left waits.
use Rattle.std.proofs.Common.{◌≡◌, ℕ, zero, suc, ◌+◌, ◌<◌, ◌≤◌, ◌⊎◌, [], ◌∷◌, length, slice_get, Option, Some, None}
use Rattle.std.proofs.Common.{MatchOption, refl, sym, subst, ◌∙◌, arith, inl, inr, List}
use Rattle.std.proofs.lemmas.Option.{same_Some, none-some}
use Rattle.std.proofs.lemmas.Bool.{cases_lt}
use Rattle.cml_board.specs.{Call, Reply, Entry, Lawful, Fits, answer, new_name}
use Rattle.cml_board.specs.declared.entry.Who.TheVariants.{Seat}
use Rattle.cml_grammar.specs.{Lines, first_ring}
use Rattle.cml_grammar.proofs.ReadableLemmas.{CanBeRead, can_be_read}
use Rattle.cml_report.specs.{Stop, History, Follows, Ends, NoneReady, declared_count, left, is_called, performed, positions_from}
use Rattle.cml_report.specs.{step_call, WaitsAtNext}
use Rattle.cml_replay.specs.{IsLeast, ScriptsHaveASchedule, StalledThreadsWait, SomeThreadWaits, steps_of_seat}
use Rattle.cml_report.specs.Schedule.{Schedule}
use Rattle.cml_report.specs.declared.stop.Stop.TheVariants.{Done, Stalled, Full}
use Rattle.cml_report.proofs.LineLemmas.{stands}
use Rattle.cml_replay.proofs.PlainLemmas.{plain_maker, plain_count}
use Rattle.cml_report.proofs.QueueLemmas.{positions_count}
use Rattle.cml_report.proofs.GivingLemmas.{next_is}
use Rattle.cml_replay.proofs.ReadyLemmas.{ready_there}
use Rattle.cml_replay.proofs.StandLemmas.{follows_declaration, follows_step}
use Rattle.cml_replay.proofs.WaitingLemmas.{some_behind}
use Rattle.cml_replay.proofs.NextLemmas.{next_call, next_making, least_ready}

-- one more entry comes next
record GoesOn (script : Lines) (history : History) : Type 0 where
  entry : Entry (List ℕ)
  lawful : Lawful (entry ∷ history)
  follows : Follows script (entry ∷ history)

module _ (script : Lines) (read : CanBeRead script) (plain : first_ring script ≡ None) where
  declares : (history : History) → Lawful history → Follows script history → length history < declared_count script → GoesOn script history
  declares history lawful follows lt =
      let making = next_making script read plain history lawful follows lt in
      let entry : Entry (List ℕ) = record { who = Seat 0; call = making.asked; reply = new_name history } in
      record {
        entry = entry;
        lawful = (making.fits, making.answers, lawful);
        follows = follows_declaration script history entry lt
            (record { by = sym (plain_maker script plain (length history)); makes = making.next.makes }) follows;
      }

  performs : (history : History) → Lawful history → Follows script history → declared_count script ≤ length history → (i : ℕ)
      → IsLeast script history i → GoesOn script history
  performs history lawful follows all i l = by_answer (answer history l.asked) refl
    where
      fits : Fits history l.asked
      fits =
          let c = next_call script read plain history lawful follows l.seat i all (next_is script history l.seat i l.asked l.ready) in
          subst (Fits history) (same_Some _ _ (sym c.calls ∙ l.ready.calls)) c.fits

      by_answer : (r : Option (Reply (List ℕ))) → answer history l.asked ≡ r → GoesOn script history
      by_answer None e = absurd (l.ready.answered e)
      by_answer (Some r) e =
          let entry : Entry (List ℕ) = record { who = Seat l.seat; call = l.asked; reply = r } in
          record {
            entry = entry;
            lawful = (fits, e, lawful);
            follows = follows_step script history entry all (record {
              step = i;
              seat = l.seat;
              by = refl;
              ready = l.ready;
              least = λ other by call ready. l.least other by call ready;
            }) follows;
          }

  -- a history that follows the script ends, or goes on where there is room
  ends_or_goes_on : (limit : ℕ) (history : History) → Lawful history → Follows script history → length history ≤ limit
      → ((stop : Stop) × Ends script limit history stop) ⊎ ((length history < limit) × GoesOn script history)
  ends_or_goes_on limit history lawful follows within = elim (cases_lt (length history) (declared_count script)) [
    | inl lt ↦ elim (cases_lt (length history) limit) [
      | inl room ↦ inr (room, declares history lawful follows lt)
      | inr full ↦ inl (Full, (omega (arith, full, within), inr lt))
    ]
    | inr all ↦ elim (cases_lt 0 (left script history)) [
      | inl more ↦ elim (cases_lt (length history) limit) [
        | inl room ↦ let least = least_ready script read plain history lawful follows all in by_least all more room least.0 least.1
        | inr full ↦ inl (Full, (omega (arith, full, within), inl more))
      ]
      | inr none ↦ inl (Done, (all, omega (arith, none)))
    ]
  ]
    where
      by_least : declared_count script ≤ length history → 0 < left script history → length history < limit → (o : Option ℕ)
          → MatchOption o (NoneReady script history) (IsLeast script history)
          → ((stop : Stop) × Ends script limit history stop) ⊎ ((length history < limit) × GoesOn script history)
      by_least all more room None none = inl (Stalled, (room, all, more, none))
      by_least all more room (Some i) least = inr (room, performs history lawful follows all i least)

  -- with room for this many entries more
  schedule_from : (room limit : ℕ) (history : History) → Lawful history → Follows script history → length history + room ≡ limit
      → (later : History) × (stop : Stop) × Schedule script limit later stop
  schedule_from zero limit history lawful follows all = elim (ends_or_goes_on limit history lawful follows (omega (arith, all))) [
    | inl (stop, ends) ↦
        (history, stop, record { plain = plain; lawful = lawful; room = omega (arith, all); follows = follows; ends = ends })
    | inr (less, on) ↦ absurd (omega (arith, less, all))
  ]
  schedule_from (suc room) limit history lawful follows all = elim (ends_or_goes_on limit history lawful follows (omega (arith, all))) [
    | inl (stop, ends) ↦
        (history, stop, record { plain = plain; lawful = lawful; room = omega (arith, all); follows = follows; ends = ends })
    | inr (less, on) ↦ schedule_from room limit (on.entry ∷ history) on.lawful on.follows (omega (arith, all))
  ]

  waits_at_next : (limit : ℕ) (history : History) (seat : ℕ) → Schedule script limit history Stalled
      → performed history seat < steps_of_seat script seat → WaitsAtNext script history seat
  waits_at_next limit history seat s behind =
      let next = stands (positions_from script seat 0 script.steps) (performed history seat)
      (omega (arith, behind, positions_count (is_called script seat) 0 script.steps, plain_count script plain seat script.steps)) in
      let c = next_call script read plain history s.lawful s.follows seat next.0 s.ends.1 next.1 in
      record {
        step = next.0;
        asked = c.asked;
        next = next.1;
        calls = c.calls;
        fits = c.fits;
        waits = by_answer next.0 c.asked (answer history c.asked) next.1 c.calls refl;
      }
    where
      by_answer : (i : ℕ) (call : Call (List ℕ)) (r : Option (Reply (List ℕ)))
          → slice_get (positions_from script seat 0 script.steps) (performed history seat) ≡ Some i → step_call script history i ≡ Some call
          → answer history call ≡ r → answer history call ≡ None
      by_answer i call None next calls e = e
      by_answer i call (Some r) next calls e =
          let ready = ready_there script history seat i call next calls (λ none. none-some r (sym none ∙ e)) in
          absurd (s.ends.3 i seat ready.0 ready.1)

pub has_schedule : ScriptsHaveASchedule
has_schedule text script limit is plain = schedule_from script (can_be_read text script is) plain limit limit [] tt tt (omega arith)

pub stalled_wait : StalledThreadsWait
stalled_wait text script limit history seat is s = waits_at_next script (can_be_read text script is) s.plain limit history seat s

pub some_waits : SomeThreadWaits
some_waits text script limit history is s =
    let read = can_be_read text script is in
    let behind = some_behind script read history s.follows s.ends.2 in
    (behind.0, waits_at_next script read s.plain limit history behind.0 s behind.1)
