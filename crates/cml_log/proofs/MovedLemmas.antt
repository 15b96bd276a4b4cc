-- Lemmas on a cursor that moves, and on one that is opened.
use Rattle.std.proofs.Common.{◌≡◌, ◌≢◌, ◌⊎◌, ℕ, ◌+◌, ◌-◌, ◌*◌, ◌/◌, ◌%◌, ◌<◌, ◌≤◌, ◌&&◌, ◌==◌, true, false, List, set, Option}
use Rattle.std.proofs.Common.{Some, None, refl, sym, ap, subst, ◌∙◌, inl, inr, arith}
use Rattle.std.proofs.Math.Nat.{mod-lt}
use Rattle.std.proofs.lemmas.Bool.{cases_eq, lt-ltb, eq-eqb, false_from_ne_true}
use Rattle.std.proofs.lemmas.Nat.{div-mul-add, mod-mul-add, div-add-mod'}
use Rattle.std.proofs.lemmas.List.{get_or-set_same, get_or-set_other}
use denote.RawPtr.{Ptr}
use Rattle.cml_log.specs.{Address, Cursor, Opens, Chunks, count_at, LiesAt, end_of, is_idle, passed, with_count, Passed, cursor_at}
use Rattle.cml_log.specs.{place_in, weight, standing, HoldsChunk, IsHeld, IsTrim, log_of}
use Rattle.cml_log.proofs.PassedLemmas.{idle_before, idle_bare, Passed-none, Passed-more}
use Rattle.cml_log.proofs.StandingLemmas.{standing-set, standing-opened, weight-here, weight-elsewhere}
use Rattle.cml_log.proofs.CursorsLemmas.{key_within, place_shows, count-here, count-other, lies-recounted, entered, IsHeld-passed}

-- a place and the next are in one chunk, or the next begins one
pub next_in : (n place : ℕ) → 0 < n → (place + 1) % n ≢ 0 → (place + 1) / n ≡ place / n
next_in n place some within = elim (cases_eq (place % n + 1) n) [
  | inl whole ↦ absurd (within (rest_none whole))
  | inr part ↦ ap (λ m. m / n) (sym (one_more (div-add-mod' place n)))
      ∙ div-mul-add (place / n) n (place % n + 1) (omega (arith, mod-lt place some, part))
]
  where
    one_more : place / n * n + place % n ≡ place → place / n * n + (place % n + 1) ≡ place + 1
    one_more same = omega (arith, same)

    rest_none : place % n + 1 ≡ n → (place + 1) % n ≡ 0
    rest_none whole = ap (λ m. m % n) (sym (all whole (div-add-mod' place n))) ∙ mod-mul-add (place / n + 1) n 0 some
      where
        all : place % n + 1 ≡ n → place / n * n + place % n ≡ place → (place / n + 1) * n + 0 ≡ place + 1
        all whole same = omega (arith, whole, same, times (place / n))
          where
            times : (k : ℕ) → (k + 1) * n ≡ k * n + n
            times k = omega arith

pub next_begins : (n place : ℕ) → 0 < n → (place + 1) % n ≡ 0 → (place + 1) / n ≡ place / n + 1
next_begins n place some begins = elim (cases_eq (place % n + 1) n) [
  | inl whole ↦ ap (λ m. m / n) (sym (all whole (div-add-mod' place n))) ∙ div-mul-add (place / n + 1) n 0 some
  | inr part ↦
      let inside : place % n + 1 < n = omega (arith, mod-lt place some, part) in
      let rest : (place + 1) % n ≡ place % n + 1 = ap (λ m. m % n) (sym (one_more (div-add-mod' place n)))
      ∙ mod-mul-add (place / n) n (place % n + 1) inside in
      absurd (omega (arith, rest, begins))
]
  where
    one_more : place / n * n + place % n ≡ place → place / n * n + (place % n + 1) ≡ place + 1
    one_more same = omega (arith, same)

    all : place % n + 1 ≡ n → place / n * n + place % n ≡ place → (place / n + 1) * n + 0 ≡ place + 1
    all whole same = omega (arith, whole, same, times (place / n))
      where
        times : (k : ℕ) → (k + 1) * n ≡ k * n + n
        times k = omega arith

module _ {T : Type 0} (n : ℕ) where
  -- a first chunk with a cursor isn't idle
  pub busy_entered : (c : Chunks T) → 0 < count_at c.cells c.given → is_idle n c ≡ false
  busy_entered c some = false_from_ne_true (is_idle n c) (λ idle. omega (arith, some, idle_bare n c idle))

  -- nor is it after a cursor entered a chunk, if it wasn't before
  pub busy_still : (c after : Chunks T) → is_idle n c ≡ false → after.given ≡ c.given → end_of n after ≡ end_of n c
      → count_at c.cells c.given ≤ count_at after.cells c.given → is_idle n after ≡ false
  busy_still c after busy given end more = false_from_ne_true (is_idle n after) (λ idle.
      let bare : count_at after.cells c.given ≡ 0 = ap (count_at after.cells) (sym given) ∙ idle_bare n after idle in
      let none : count_at c.cells c.given ≡ 0 = omega (arith, bare, more) in
      let before : c.given < end_of n c / n = subst (λ e. c.given < e / n) end (omega (arith, idle_before n after idle, given)) in
      let was : is_idle n c ≡ true = ap (λ b. b && (count_at c.cells c.given == 0)) (lt-ltb c.given (end_of n c / n) before)
      ∙ eq-eqb (count_at c.cells c.given) 0 none in
      absurd (let still = busy in cc))

  -- how many links were followed says nothing of cursors
  pub IsHeld-followed : (c : Chunks T) (slots : List (Option Cursor)) (followed : ℕ) → IsHeld n c slots
      → IsHeld n (record c { followed = followed }) slots
  IsHeld-followed c slots followed ready =
      record {
        holds_one = ready.holds_one;
        small = ready.small;
        bounded = ready.bounded;
        held = λ key cursor found.
            let held = ready.held key cursor found in
            record { number = held.number; kept = held.kept; lies = held.lies; within = held.within };
        counts = ready.counts;
      }

  module _ (c : Chunks T) (slots : List (Option Cursor)) (trim : IsTrim n c slots) where
    -- a cursor moves within its chunk
    module _ (key : ℕ) (cursor : Cursor) (found : cursor_at slots key ≡ Some cursor) (below : cursor.place + 1 ≤ end_of n c) where
      mine : HoldsChunk n c cursor
      mine = trim.is_held.held key cursor found

      moved_or_still : (to : Cursor) (other : ℕ) (held : Cursor) → cursor_at (set slots key (Some to)) other ≡ Some held
          → (held ≡ to) ⊎ (cursor_at slots other ≡ Some held)
      moved_or_still to other held seen = elim (cases_eq other key) [
        | inl equal ↦
            let here : Some to ≡ Some held = sym (get_or-set_same slots key (Some to) None (key_within slots key cursor found))
            ∙ ap (cursor_at (set slots key (Some to))) (sym equal) ∙ seen in
            inl (ap (cursor_or held) (sym here))
        | inr differs ↦ inr (sym (get_or-set_other slots key other (Some to) None differs) ∙ seen)
      ]
        where
          cursor_or : Cursor → Option Cursor → Cursor
          cursor_or default None = default
          cursor_or default (Some held) = held

      pub IsTrim-moved : (cursor.place + 1) % n ≢ 0
          → IsTrim n c (set slots key (Some (record { at = cursor.at; place = cursor.place + 1 })))
      IsTrim-moved inside =
          record {
            is_held = record {
              holds_one = trim.is_held.holds_one;
              small = trim.is_held.small;
              bounded = trim.is_held.bounded;
              held = λ other held seen. by_case other held (moved_or_still to other held seen);
              counts = λ number. trim.is_held.counts number ∙ counted number (cases_eq number cursor.at.number);
            };
            trim = trim.trim;
          }
        where
          to : Cursor
          to = record { at = cursor.at; place = cursor.place + 1 }

          same_chunk : (cursor.place + 1) / n ≡ cursor.place / n
          same_chunk = next_in n cursor.place trim.is_held.holds_one inside

          stays : HoldsChunk n c to
          stays = record { number = mine.number ∙ sym same_chunk; kept = mine.kept; lies = mine.lies; within = below }

          by_case : (other : ℕ) (held : Cursor) → (held ≡ to) ⊎ (cursor_at slots other ≡ Some held) → HoldsChunk n c held
          by_case other held (inl equal) = subst (HoldsChunk n c) (sym equal) stays
          by_case other held (inr before) = trim.is_held.held other held before

          counted : (number : ℕ) → (number ≡ cursor.at.number) ⊎ (number ≢ cursor.at.number)
              → standing n number slots ≡ standing n number (set slots key (Some to))
          counted number (inl equal) =
              let was = weight-here n number cursor (sym mine.number ∙ sym equal) in
              let is = weight-here n number to (same_chunk ∙ sym mine.number ∙ sym equal) in
              omega (arith, standing-set n number slots key cursor (Some to) found, was, is)
          counted number (inr differs) =
              let was = weight-elsewhere n number cursor (λ same. differs (sym same ∙ sym mine.number)) in
              let is = weight-elsewhere n number to (λ same. differs (sym same ∙ same_chunk ∙ sym mine.number)) in
              omega (arith, standing-set n number slots key cursor (Some to) found, was, is)

      -- or into the next
      module _ (next : Address) (begins : (cursor.place + 1) % n ≡ 0) (numbered : next.number ≡ cursor.at.number + 1)
          (lies : LiesAt c.cells next.number next.at) where
        abbrev pub stepped : Cursor
        stepped = record { at = next; place = cursor.place + 1 }

        abbrev pub left : Chunks T
        left = with_count (record c { followed = c.followed + 1 }) cursor.at.number cursor.at.at (count_at c.cells cursor.at.number - 1)

        abbrev pub stood : Chunks T
        stood = with_count left next.number next.at (count_at left.cells next.number + 1)

        pub lies_left : LiesAt left.cells next.number next.at
        lies_left =
            lies-recounted c.cells cursor.at.number cursor.at.at (count_at c.cells cursor.at.number - 1) mine.lies next.number next.at lies

        apart : next.number ≢ cursor.at.number
        apart equal = omega (arith, equal, numbered)

        in_next : (cursor.place + 1) / n ≡ next.number
        in_next = next_begins n cursor.place trim.is_held.holds_one begins ∙ ap (λ m. m + 1) (sym mine.number) ∙ sym numbered

        pub IsHeld-stepped : IsHeld n stood (set slots key (Some stepped))
        IsHeld-stepped =
            record {
              holds_one = trim.is_held.holds_one;
              small = trim.is_held.small;
              bounded = trim.is_held.bounded;
              held = λ other held seen. by_case other held (moved_or_still stepped other held seen);
              counts = λ number. counted number (cases_eq number cursor.at.number) (cases_eq number next.number);
            }
          where
            still : (number : ℕ) (at : Ptr) → LiesAt c.cells number at → LiesAt stood.cells number at
            still number at there =
                lies-recounted left.cells next.number next.at (count_at left.cells next.number + 1) lies_left number at
                (lies-recounted c.cells cursor.at.number cursor.at.at (count_at c.cells cursor.at.number - 1) mine.lies number at there)

            by_case : (other : ℕ) (held : Cursor) → (held ≡ stepped) ⊎ (cursor_at slots other ≡ Some held) → HoldsChunk n stood held
            by_case other held (inl equal) =
                subst (HoldsChunk n stood) (sym equal)
                (record {
                  number = sym in_next;
                  kept = omega (arith, mine.kept, numbered);
                  lies = still next.number next.at lies;
                  within = below;
                })
            by_case other held (inr before) =
                let was = trim.is_held.held other held before in
                record { number = was.number; kept = was.kept; lies = still held.at.number held.at.at was.lies; within = was.within }

            counted : (number : ℕ) → (number ≡ cursor.at.number) ⊎ (number ≢ cursor.at.number) → (number ≡ next.number)
                ⊎ (number ≢ next.number) → count_at stood.cells number ≡ standing n number (set slots key (Some stepped))
            counted number (inl old) (inl new) = absurd (apart (sym new ∙ old))
            counted number (inl old) (inr other) =
                let there = count-other left.cells next.number next.at (count_at left.cells next.number + 1) lies_left number other in
                let here = count-here c.cells cursor.at.number cursor.at.at (count_at c.cells cursor.at.number - 1) mine.lies in
                let was = weight-here n number cursor (sym mine.number ∙ sym old) in
                let is = weight-elsewhere n number stepped (λ same. other (sym same ∙ in_next)) in
                let before = trim.is_held.counts number in
                let same = ap (count_at left.cells) old in
                let counted_old = ap (count_at c.cells) old in
                omega (arith, there, here, was, is, before, same, counted_old, standing-set n number slots key cursor (Some stepped) found)
            counted number (inr other) (inl new) =
                let here = count-here left.cells next.number next.at (count_at left.cells next.number + 1) lies_left in
                let there =
                count-other c.cells cursor.at.number cursor.at.at (count_at c.cells cursor.at.number - 1) mine.lies next.number apart in
                let was = weight-elsewhere n number cursor (λ same. other (sym same ∙ sym mine.number)) in
                let is = weight-here n number stepped (in_next ∙ sym new) in
                let before = trim.is_held.counts number in
                let same = ap (count_at stood.cells) new in
                let counted_old = ap (count_at c.cells) new in
                omega (arith, here, there, was, is, before, same, counted_old, standing-set n number slots key cursor (Some stepped) found)
            counted number (inr other) (inr further) =
                let there = count-other left.cells next.number next.at (count_at left.cells next.number + 1) lies_left number further in
                let here =
                count-other c.cells cursor.at.number cursor.at.at (count_at c.cells cursor.at.number - 1) mine.lies number other in
                let was = weight-elsewhere n number cursor (λ same. other (sym same ∙ sym mine.number)) in
                let is = weight-elsewhere n number stepped (λ same. further (sym same ∙ in_next)) in
                omega (arith, there, here, was, is, trim.is_held.counts number, standing-set n number slots key cursor (Some stepped) found)

        -- a head that fell idle is the chunk that was left
        pub idle_left : is_idle n stood ≡ true → cursor.at.number ≡ c.given
        idle_left idle = elim (cases_eq c.given cursor.at.number) [
          | inl equal ↦ sym equal
          | inr other ↦
              let further : c.given ≢ next.number = λ equal. omega (arith, equal, numbered, mine.kept) in
              let there = count-other left.cells next.number next.at (count_at left.cells next.number + 1) lies_left c.given further in
              let here =
              count-other c.cells cursor.at.number cursor.at.at (count_at c.cells cursor.at.number - 1) mine.lies c.given other in
              let busy = busy_still c stood trim.trim refl refl (omega (arith, there, here)) in
              absurd (let still = idle in cc)
        ]

        abbrev pub given_on : Chunks T
        given_on = record (passed n stood) { followed = stood.followed + 1 }

        pub Passed-stepped : is_idle n stood ≡ true → Passed n stood given_on
        Passed-stepped idle = Passed-more n stood stood (Passed-none n stood) idle

        pub IsTrim-given : is_idle n stood ≡ true → IsTrim n (passed n stood) (set slots key (Some stepped))
        IsTrim-given idle =
            let held = IsHeld-followed given_on (set slots key (Some stepped)) stood.followed
            (IsHeld-passed n stood (set slots key (Some stepped)) IsHeld-stepped given_on (Passed-stepped idle)) in
            let some = entered n (passed n stood) (set slots key (Some stepped)) held key stepped
            (get_or-set_same slots key (Some stepped) None (key_within slots key cursor found)) in
            let head : next.number ≡ stood.given + 1 = omega (arith, numbered, idle_left idle) in
            record {
              is_held = held;
              trim = busy_entered (passed n stood) (subst (λ m. 0 < count_at (passed n stood).cells m) head some);
            }

    -- a cursor is opened in its chunk
    module _ (new : List (Option Cursor)) (key : ℕ) (cursor : Cursor) (holds : HoldsChunk n c cursor) (vacant : cursor_at slots key ≡ None)
        (opened : cursor_at new key ≡ Some cursor) (others : (other : ℕ) → other ≢ key → cursor_at new other ≡ cursor_at slots other) where
      abbrev pub joined : Chunks T
      joined = with_count c cursor.at.number cursor.at.at (count_at c.cells cursor.at.number + 1)

      pub IsTrim-opened : IsTrim n joined new
      IsTrim-opened =
          record {
            is_held = record {
              holds_one = trim.is_held.holds_one;
              small = trim.is_held.small;
              bounded = trim.is_held.bounded;
              held = λ other held seen. elim (cases_eq other key) [
                | inl equal ↦
                    let here : Some cursor ≡ Some held = sym opened ∙ ap (cursor_at new) (sym equal) ∙ seen in
                    subst (HoldsChunk n joined) (ap (cursor_or held) here) (widened cursor holds)
                | inr differs ↦ widened held (trim.is_held.held other held (sym (others other differs) ∙ seen))
              ];
              counts = λ number. counted number (cases_eq number cursor.at.number)
                  ∙ sym (standing-opened n number slots new key cursor vacant opened others);
            };
            trim = busy_still c joined trim.trim refl refl (grown (cases_eq c.given cursor.at.number));
          }
        where
          cursor_or : Cursor → Option Cursor → Cursor
          cursor_or default None = default
          cursor_or default (Some held) = held

          widened : (held : Cursor) → HoldsChunk n c held → HoldsChunk n joined held
          widened held was =
              record {
                number = was.number;
                kept = was.kept;
                lies = lies-recounted c.cells cursor.at.number cursor.at.at
                    (count_at c.cells cursor.at.number + 1) holds.lies held.at.number held.at.at was.lies;
                within = was.within;
              }

          counted : (number : ℕ) → (number ≡ cursor.at.number) ⊎ (number ≢ cursor.at.number)
              → count_at joined.cells number ≡ standing n number slots + weight n number (Some cursor)
          counted number (inl equal) =
              let here = count-here c.cells cursor.at.number cursor.at.at (count_at c.cells cursor.at.number + 1) holds.lies in
              let one = weight-here n number cursor (sym holds.number ∙ sym equal) in
              omega (arith, ap (count_at joined.cells) equal, here, one, trim.is_held.counts number, ap (count_at c.cells) equal)
          counted number (inr differs) =
              let other =
              count-other c.cells cursor.at.number cursor.at.at (count_at c.cells cursor.at.number + 1) holds.lies number differs in
              let none = weight-elsewhere n number cursor (λ same. differs (sym same ∙ sym holds.number)) in
              omega (arith, other, none, trim.is_held.counts number)

          grown : (c.given ≡ cursor.at.number) ⊎ (c.given ≢ cursor.at.number) → count_at c.cells c.given ≤ count_at joined.cells c.given
          grown (inl equal) =
              let here = count-here c.cells cursor.at.number cursor.at.at (count_at c.cells cursor.at.number + 1) holds.lies in
              omega (arith, here, ap (count_at joined.cells) equal, ap (count_at c.cells) equal)
          grown (inr differs) =
              omega (
                arith,
                count-other c.cells cursor.at.number cursor.at.at (count_at c.cells cursor.at.number + 1) holds.lies c.given differs,
              )

      pub Opens-shown : Opens (log_of n c slots) (log_of n joined new) key cursor.place
      Opens-shown =
          record {
            vacant = place_shows slots key ∙ ap place_in vacant;
            opened = place_shows new key ∙ ap place_in opened;
            others = λ other differs. place_shows new other ∙ ap place_in (others other differs) ∙ sym (place_shows slots other);
            first = refl;
            kept = refl;
          }
