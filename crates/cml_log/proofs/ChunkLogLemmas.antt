-- Lemmas on what each call leaves of a log in chunks.
use Rattle.std.proofs.Common.{◌≡◌, ◌≢◌, ℕ, ◌+◌, ◌-◌, ◌/◌, ◌%◌, ◌<◌, ◌≤◌, true, false, List, set, count_by, is_some, Option, Some, None}
use Rattle.std.proofs.Common.{sym, ap, subst, ◌∙◌, arith}
use Rattle.cml_log.specs.Log.{Log}
use Rattle.cml_log.specs.{chunk_of, Address, Cursor, trimmed, with_item, with_place, Opens, Chunks, count_at, LiesAt, end_of, is_idle}
use Rattle.cml_log.specs.{passed, with_count, Pushed, Passed, cursor_at, HoldsChunk, IsHeld, IsTrim, log_of}
use Rattle.cml_log.proofs.LogLemmas.{trimmed-tidy}
use Rattle.cml_log.proofs.PassedLemmas.{idle_before}
use Rattle.cml_log.proofs.StandingLemmas.{standing-lt, weight-elsewhere}
use Rattle.cml_log.proofs.CursorsLemmas.{chunk_of-within, lies-recounted, count-other, given-le_end, IsTidy-shown, IsHeld-passed}
use Rattle.cml_log.proofs.CursorsLemmas.{IsHeld-pushed, shown-pushed, IsHeld-closed, shown-passed, shown-set}
use Rattle.cml_log.proofs.MovedLemmas.{lies_left, idle_left, IsTrim-moved, left, stood, given_on, IsHeld-stepped}
use Rattle.cml_log.proofs.MovedLemmas.{Passed-stepped, IsTrim-given, IsTrim-opened, Opens-shown}

module _ {T : Type 0} where
  -- the chunks are trimmed, and show this log trimmed
  pub record TrimsTo (n : ℕ) (c : Chunks T) (slots : List (Option Cursor)) (l : Log T) : Type 0 where
    pub trim : IsTrim n c slots
    pub log : log_of n c slots ≡ trimmed (chunk_of n) l

  trims_to : (n : ℕ) (c : Chunks T) (slots : List (Option Cursor)) (l : Log T) → IsTrim n c slots → log_of n c slots ≡ trimmed n l
      → TrimsTo n c slots l
  trims_to n c slots l trim log =
      let within = chunk_of-within n trim.is_held.holds_one trim.is_held.small in
      record { trim = trim; log = log ∙ ap (λ m. trimmed m l) (sym within) }

  -- trimmed chunks show a trimmed log
  trims_itself : (n : ℕ) (c : Chunks T) (slots : List (Option Cursor)) (l : Log T) → IsTrim n c slots → log_of n c slots ≡ l
      → TrimsTo n c slots l
  trims_itself n c slots l trim log =
      let tidy = IsTidy-shown n c slots trim.is_held trim.trim in
      trims_to n c slots l trim (sym (trimmed-tidy n (log_of n c slots) tidy.first) ∙ ap (trimmed n) log)

  -- a cursor has come into the chunk at `next`: where the head isn't idle, the chunks are trimmed; where it is, it is the chunk
  -- before, and they are once it is freed
  pub record StandsIn (n : ℕ) (next : Address) (c : Chunks T) (slots : List (Option Cursor)) (l : Log T) : Type 0 where
    pub busy : is_idle n c ≡ false → TrimsTo n c slots l
    pub head : is_idle n c ≡ true → (c.given < end_of n c / n) × (next.number ≡ c.given + 1) × LiesAt c.cells next.number next.at
    pub gone : is_idle n c ≡ true → TrimsTo n (passed n c) slots l

module _ {T : Type 0} (n : ℕ) (c : Chunks T) (slots : List (Option Cursor)) (trim : IsTrim n c slots) where
  -- a push, after which idle chunks are freed
  module _ (after final : Chunks T) (item : T) (pushed : Pushed n c after item) (below : end_of n c < 18446744073709551614)
      (went : Passed n after final) (busy : is_idle n final ≡ false) where
    pub pushed_trims : TrimsTo n final slots (with_item (log_of n c slots) item)
    pushed_trims =
        let held = IsHeld-passed n after slots (IsHeld-pushed n c slots trim.is_held after item pushed below) final went in
        trims_to n final slots _ (record { is_held = held; trim = busy }) (shown-passed n after final slots held busy went
        ∙ ap (trimmed n) (shown-pushed n c slots trim.is_held after item pushed))

  -- a close, after which idle chunks are freed
  module _ (key : ℕ) (cursor : Cursor) (found : cursor_at slots key ≡ Some cursor) (after final : Chunks T) (others : List (Option Cursor))
      (leaves : after ≡ with_count c cursor.at.number cursor.at.at (count_at c.cells cursor.at.number - 1))
      (closes : others ≡ set slots key None) (went : Passed n after final) (busy : is_idle n final ≡ false) where
    pub closed_trims : TrimsTo n final others (with_place (log_of n c slots) key None)
    closed_trims =
        let closed = subst (λ m. IsHeld n m (set slots key None)) (sym leaves) (IsHeld-closed n c slots trim.is_held key cursor found) in
        let held = IsHeld-passed n after others (subst (IsHeld n after) (sym closes) closed) final went in
        trims_to n final others _ (record { is_held = held; trim = busy }) (shown-passed n after final others held busy went
        ∙ ap (λ m. trimmed n (log_of n m others)) leaves
        ∙ ap (λ s. trimmed n (log_of n c s)) closes
        ∙ ap (trimmed n) (shown-set n c slots key None))

  -- a cursor that moves within its chunk
  module _ (key : ℕ) (cursor : Cursor) (found : cursor_at slots key ≡ Some cursor) (below : cursor.place + 1 ≤ end_of n c) where
    module _ (others : List (Option Cursor)) (inside : (cursor.place + 1) % n ≢ 0)
        (moves : others ≡ set slots key (Some (record { at = cursor.at; place = cursor.place + 1 }))) where
      pub moved_trims : TrimsTo n c others (with_place (log_of n c slots) key (Some (cursor.place + 1)))
      moved_trims =
          trims_itself n c others _ (subst (IsTrim n c) (sym moves) (IsTrim-moved n c slots trim key cursor found below inside))
          (ap (log_of n c) moves ∙ shown-set n c slots key (Some (record { at = cursor.at; place = cursor.place + 1 })))

    -- so one cursor more in the next chunk can be counted
    pub room_next : (number : ℕ) → number ≡ cursor.at.number + 1
        → count_at (set c.cells cursor.at.number (Some (cursor.at.at, count_at c.cells cursor.at.number - 1))) number + 1
        ≤ count_by is_some slots
    room_next number numbered =
        let held = trim.is_held.held key cursor found in
        let differs : number ≢ cursor.at.number = λ equal. omega (arith, equal, numbered) in
        let same = count-other c.cells cursor.at.number cursor.at.at (count_at c.cells cursor.at.number - 1) held.lies number differs in
        let elsewhere = weight-elsewhere n number cursor (λ equal. differs (sym equal ∙ sym held.number)) in
        omega (arith, same, trim.is_held.counts number, standing-lt n number slots key cursor found elsewhere)

    -- or into the next
    module _ (next : Address) (others : List (Option Cursor)) (after : Chunks T) (begins : (cursor.place + 1) % n ≡ 0)
        (numbered : next.number ≡ cursor.at.number + 1) (lies : LiesAt c.cells next.number next.at)
        (moves : others ≡ set slots key (Some (record { at = next; place = cursor.place + 1 })))
        (steps : after ≡ stood n c slots trim key cursor found below next begins numbered lies) where
      abbrev l : Chunks T
      l = left n c slots trim key cursor found below next begins numbered lies

      abbrev stands : Chunks T
      stands = stood n c slots trim key cursor found below next begins numbered lies

      abbrev moved : List (Option Cursor)
      moved = set slots key (Some (record { at = next; place = cursor.place + 1 }))

      pub stands_in : StandsIn n next after others (with_place (log_of n c slots) key (Some (cursor.place + 1)))
      stands_in =
          subst (λ m. StandsIn n next m others (with_place (log_of n c slots) key (Some (cursor.place + 1)))) (sym steps)
          (subst (λ s. StandsIn n next stands s (with_place (log_of n c slots) key (Some (cursor.place + 1)))) (sym moves) (record {
            busy = λ busy. trims_itself n stands moved _ (record { is_held = held; trim = busy }) shown;
            head = λ idle. (
              idle_before n stands idle,
              omega (arith, numbered, idle_left n c slots trim key cursor found below next begins numbered lies idle),
              lies-recounted l.cells next.number next.at (count_at l.cells next.number + 1) there next.number next.at there,
            );
            gone = λ idle.
                let went = Passed-stepped n c slots trim key cursor found below next begins numbered lies idle in
                let whole = IsTrim-given n c slots trim key cursor found below next begins numbered lies idle in
                let back = given_on n c slots trim key cursor found below next begins numbered lies in
                trims_to n (passed n stands) moved _ whole
                (shown-passed n stands back moved (IsHeld-passed n stands moved held back went) whole.trim went ∙ ap (trimmed n) shown);
          }))
        where
          held : IsHeld n stands moved
          held = IsHeld-stepped n c slots trim key cursor found below next begins numbered lies

          there : LiesAt l.cells next.number next.at
          there = lies_left n c slots trim key cursor found below next begins numbered lies

          shown : log_of n stands moved ≡ with_place (log_of n c slots) key (Some (cursor.place + 1))
          shown = shown-set n c slots key (Some (record { at = next; place = cursor.place + 1 }))

  -- a cursor that is opened
  module _ (new : List (Option Cursor)) (key : ℕ) (cursor : Cursor) (after : Chunks T) (holds : HoldsChunk n c cursor)
      (vacant : cursor_at slots key ≡ None) (opened : cursor_at new key ≡ Some cursor)
      (others : (other : ℕ) → other ≢ key → cursor_at new other ≡ cursor_at slots other)
      (enters : after ≡ with_count c cursor.at.number cursor.at.at (count_at c.cells cursor.at.number + 1)) where
    pub opened_trim : IsTrim n after new
    opened_trim = subst (λ m. IsTrim n m new) (sym enters) (IsTrim-opened n c slots trim new key cursor holds vacant opened others)

    pub opened_log : Opens (log_of n c slots) (log_of n after new) key cursor.place
    opened_log =
        subst (λ m. Opens (log_of n c slots) (log_of n m new) key cursor.place) (sym enters)
        (Opens-shown n c slots trim new key cursor holds vacant opened others)

  -- a cursor at the end holds the last chunk
  pub end_held : (cursor : Cursor) → cursor.at.number ≡ end_of n c / n → LiesAt c.cells cursor.at.number cursor.at.at
      → cursor.place ≡ end_of n c → HoldsChunk n c cursor
  end_held cursor number lies place =
      record {
        number = number ∙ ap (λ e. e / n) (sym place);
        kept = omega (arith, given-le_end n c slots trim.is_held, number);
        lies = lies;
        within = omega (arith, place);
      }
