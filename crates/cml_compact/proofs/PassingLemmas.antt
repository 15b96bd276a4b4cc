-- A port that was made again passes over what it had received, and then it is settled.
use Rattle.std.proofs.Common.{◌≡◌, ◌≢◌, ℕ, ◌+◌, ◌-◌, ◌<◌, ◌≤◌, true, false, cond, List, [], ◌∷◌, ◌++◌, length, take}
use Rattle.std.proofs.Common.{drop, slice_get, Option, Some, None, unwrap_or, refl, sym, ap, subst, ◌∙◌, arith}
use Rattle.std.specs.Option.{option_map, option_map_or}
use Rattle.std.proofs.lemmas.Bool.{cond-false, and_from, false≢true}
use Rattle.std.proofs.lemmas.List.{length-take}
use Rattle.std.proofs.lemmas.Option.{none-some}
use Rattle.cml_calls.specs.{Kind, is_receiver, is_port, is_variable}
use Rattle.cml_calls.specs.declared.kind.Kind.TheVariants as kind
use Rattle.cml_calls.specs.declared.table.Ask.TheVariants as ask
use Rattle.cml_board.specs.{Entry, Name, Who, Origin, port, kind_by, source_by, start_by, held, Lawful, answer}
use Rattle.cml_board.specs.{origin_of}
use Rattle.cml_board.specs.{kind_of, is_open, sent, got, owed, is_a, owed_count, facts_of}
use Rattle.cml_board.specs.declared.call.Call.TheVariants.{Recv}
use Rattle.cml_board.specs.declared.entry.Reply.TheVariants.{Got}
use Rattle.cml_board.specs.Facts.{Facts}
use Rattle.cml_board.specs.Shown.{Shown}
use Rattle.cml_board.proofs.ListLemmas.{take_next, slice_get_drop}
use Rattle.cml_board.proofs.UnmadeLemmas.{facts_equal}
use Rattle.cml_board.proofs.AnsweringLemmas.{answer_taken}
use Rattle.cml_compact.specs.{stock, stocked, settled}
use Rattle.cml_compact.specs.Stages.{begins_at, placed}
use Rattle.cml_compact.specs.Stepping.{Tells, Changes}
use Rattle.cml_compact.proofs.BeginningsLemmas.{kind_placed}
use Rattle.cml_compact.proofs.AnewLemmas.{changes_none, changes_as, changes_taken}
use Rattle.cml_compact.proofs.ChannelsLemmas.{port_after}
use Rattle.cml_compact.proofs.StockLemmas.{get_within, some_at}
use Rattle.cml_compact.proofs.SettlingLemmas.{passed_port}

module _ {M : Type 0} where
  -- an object that was made again has its kind
  pub kind_anew : (old h : List (Entry M)) (name : ℕ) (facts : Facts M) → facts_of h name ≡ facts
      → facts.origin ≡ option_map (placed old name) (origin_of old name) → kind_of h name ≡ kind_of old name
  kind_anew old h name facts here same =
      ap (λ f. option_map kind_by f.origin) here ∙ ap (option_map kind_by) same ∙ kind_placed old name (origin_of old name)

  -- what is sent again on a channel after a port of it was made
  abbrev pub after_of : List (Entry M) → ℕ → ℕ → List M
  after_of history source name = drop (begins_at history source name) (stock history source)

  -- this many messages were received
  abbrev pub passing : List (Entry M) → ℕ → ℕ → Facts M
  passing history name n =
      record (stocked history name) { got = take n (after_of history (source_by name (origin_of history name)) name) }

  -- what such a port needs of the board that it is on
  pub record Passes (old : List (Entry M)) (start : Shown M) (name source at : ℕ) : Type 0 where
    pub begun : origin_of old name ≡ Some (port source at)
    pub opened : is_open old name ≡ true
    pub sends : sent start.history source ≡ stock old source

  pub passes_of : (old : List (Entry M)) (start : Shown M) (name : ℕ) → is_a is_port old name ≡ true → is_open old name ≡ true
      → sent start.history (source_by name (origin_of old name)) ≡ stock old (source_by name (origin_of old name))
      → (source : ℕ) × (at : ℕ) × Passes old start name source at
  passes_of old start name is opened sends = by_origin (origin_of old name) refl
    where
      by_origin : (x : Option Origin) → origin_of old name ≡ x → (source : ℕ) × (at : ℕ) × Passes old start name source at
      by_origin (Some (port source at)) e = (
        source,
        at,
        record {
          begun = e;
          opened = opened;
          sends = subst (λ x. sent start.history (source_by name x) ≡ stock old (source_by name x)) e sends;
        },
      )
      by_origin x e = absurd (false≢true (sym (ap (λ x. option_map_or is_port (option_map kind_by x) false) e) ∙ is))

  stream_of : (old : List (Entry M)) (name source at n : ℕ) → origin_of old name ≡ Some (port source at)
      → take n (after_of old (source_by name (origin_of old name)) name) ≡ take n (after_of old source name)
  stream_of old name source at n is = ap (λ x. take n (after_of old (source_by name x) name)) is

  pub passing_owed : (old : List (Entry M)) (start was : Shown M) (name source at n : ℕ) → Lawful old → Passes old start name source at
      → n ≤ length (after_of old source name) → Changes start was name (passing old name n)
      → owed was.history name ≡ drop n (after_of old source name)
  passing_owed old start was name source at n lawful own within changes =
      let after = port_after old name source at lawful own.begun in
      let stream = after_of old source name in
      let begun : origin_of was.history name ≡ Some (port source (begins_at old source name)) =
      ap (λ f. f.origin) changes.here ∙ ap (option_map (placed old name)) own.begun in
      let taken : got was.history name ≡ take n stream = ap (λ f. f.got) changes.here ∙ stream_of old name source at n own.begun in
      let count : length (take n stream) ≡ n = omega (arith, length-take n stream) in
      let stays : sent was.history source ≡ stock old source =
      ap (λ f. f.sent) (changes.others source (λ same. absurd (omega (arith, same, after.0)))) ∙ own.sends in
      ap (λ xs. drop (length xs) (drop (start_by (origin_of was.history name))
      (sent was.history (source_by name (origin_of was.history name))))) taken
      ∙ ap (λ m. drop m (drop (start_by (origin_of was.history name)) (sent was.history (source_by name (origin_of was.history name)))))
      count
      ∙ ap (λ x. drop n (drop (start_by x) (sent was.history (source_by name x)))) begun
      ∙ ap (λ xs. drop n (drop (begins_at old source name) xs)) stays

  pub passing_start : (old : List (Entry M)) (start : Shown M) (name : ℕ) → Lawful start.history
      → facts_of start.history name ≡ stocked old name → Changes start start name (passing old name 0)
  passing_start old start name lawful is =
      changes_as start start name (facts_of start.history name) (passing old name 0) (changes_none start name lawful) is

  passing_kind : (old : List (Entry M)) (start was : Shown M) (name source at n : ℕ) → Passes old start name source at
      → Changes start was name (passing old name n) → is_a is_receiver was.history name ≡ true
  passing_kind old start was name source at n own changes =
      ap (λ k. option_map_or is_receiver k false)
      (kind_anew old was.history name (passing old name n) changes.here refl ∙ ap (option_map kind_by) own.begun)

  -- how many messages it is owed at first, and how many it is to be owed
  pub counts_told : (old : List (Entry M)) (start : Shown M) (name source at more left : ℕ) → Lawful old → Lawful start.history
      → Passes old start name source at → facts_of start.history name ≡ stocked old name
      → more ≡ unwrap_or (owed_count start.history name) 0 → left ≡ unwrap_or (owed_count old name) 0
      → (more ≡ length (after_of old source name)) × (left ≡ length (owed old name))
  counts_told old start name source at more left lawful follows own here counts leaves =
      let begins = passing_start old start name follows here in
      let opened : is_open start.history name ≡ true = ap (λ f. f.opened) here in
      let all = passing_owed old start start name source at 0 lawful own (omega arith) begins in (
        counts ∙ counted start.history name (passing_kind old start start name source at 0 own begins) opened ∙ ap length all,
        leaves ∙ counted old name (ap (λ x. option_map_or is_receiver (option_map kind_by x) false) own.begun) own.opened,
      )
    where
      counted : (h : List (Entry M)) (k : ℕ) → is_a is_receiver h k ≡ true → is_open h k ≡ true
          → unwrap_or (owed_count h k) 0 ≡ length (owed h k)
      counted h k is opened =
          ap (λ t. unwrap_or (cond t (Some (length (owed h k))) None) 0) (and_from (is_a is_receiver h k) (is_open h k) is opened)

  -- the next message that it receives
  passing_first : (old : List (Entry M)) (start was : Shown M) (name source at n : ℕ) → Lawful old → Passes old start name source at
      → n < length (after_of old source name) → Changes start was name (passing old name n)
      → (message : M) × (slice_get (owed was.history name) 0 ≡ Some message) × (slice_get (after_of old source name) n ≡ Some message)
  passing_first old start was name source at n lawful own more changes =
      let stream = after_of old source name in
      let some = some_at (slice_get stream n) (get_within stream n more) in
      let last : n + 0 ≡ n = omega arith in
      let here : slice_get (owed was.history name) 0 ≡ slice_get stream n =
      ap (λ xs. slice_get xs 0) (passing_owed old start was name source at n lawful own (omega (arith, more)) changes)
      ∙ slice_get_drop n 0 stream ∙ ap (slice_get stream) last in
      (some.0, here ∙ some.1, some.1)

  pub passing_answered : (old : List (Entry M)) (start was : Shown M) (name : Name) (source at n : ℕ) → Lawful old
      → Passes old start name.0 source at → n < length (after_of old source name.0) → Changes start was name.0 (passing old name.0 n)
      → answer was.history (Recv name) ≢ None
  passing_answered old start was name source at n lawful own more changes = λ none.
      let first = passing_first old start was name.0 source at n lawful own more changes in
      let opened : is_open was.history name.0 ≡ true = ap (λ f. f.opened) changes.here in
      none-some (Got first.0) (sym none ∙ answer_taken was.history ask.Recv name first.0 refl opened first.1)

  pub passing_next : (old : List (Entry M)) (start was now : Shown M) (who : Who) (name : Name) (source at n : ℕ) → Lawful old
      → Passes old start name.0 source at → n < length (after_of old source name.0) → Changes start was name.0 (passing old name.0 n)
      → Tells was now who (Recv name) → Changes start now name.0 (passing old name.0 (n + 1))
  passing_next old start was now who name source at n lawful own more changes tells =
      let first = passing_first old start was name.0 source at n lawful own more changes in
      let opened : is_open was.history name.0 ≡ true = ap (λ f. f.opened) changes.here in
      let stream = after_of old (source_by name.0 (origin_of old name.0)) name.0 in
      let here : slice_get stream n ≡ Some first.0 = ap (λ x. slice_get (after_of old (source_by name.0 x) name.0) n) own.begun ∙ first.2 in
      changes_as start now name.0 (record (stocked old name.0) { got = take n stream ++ first.0 ∷ [] }) (passing old name.0 (n + 1))
      (changes_taken start was now who name first.0 (passing old name.0 n) changes opened first.1 tells)
      (ap {A = List M} (λ xs. record (stocked old name.0) { got = xs }) (sym (take_next stream n first.0 here)))

  -- a port holds nothing
  pub holds_none : (old : List (Entry M)) (name : ℕ) → is_a is_port old name ≡ true
      → cond (is_a is_variable old name) (held old name) None ≡ None
  holds_none old name is = cond-false (is_a is_variable old name) (held old name) None (by_kind (kind_of old name) is)
    where
      by_kind : (k : Option Kind) → option_map_or is_port k false ≡ true → option_map_or is_variable k false ≡ false
      by_kind (Some kind.Port) e = refl
      by_kind None e = refl
      by_kind (Some kind.Mailbox) e = refl
      by_kind (Some kind.Channel) e = refl
      by_kind (Some other) e = absurd (false≢true e)

  pub passing_settled : (old : List (Entry M)) (start : Shown M) (name source at n : ℕ) → Passes old start name source at
      → is_a is_port old name ≡ true → n ≡ length (stock old source) - length (owed old name) - begins_at old source name
      → passing old name n ≡ settled old name
  passing_settled old start name source at n own is all =
      facts_equal (passing old name n) (settled old name) refl (sym own.opened) refl
      (stream_of old name source at n own.begun ∙ ap (λ m. take m (after_of old source name)) all
      ∙ sym (passed_port old name source at own.begun own.opened))
      (sym (holds_none old name is))

  pub passing_end : (old : List (Entry M)) (start now : Shown M) (name source at n : ℕ) → Passes old start name source at
      → is_a is_port old name ≡ true → n ≡ length (stock old source) - length (owed old name) - begins_at old source name
      → Changes start now name (passing old name n) → Changes start now name (settled old name)
  passing_end old start now name source at n own is all changes =
      changes_as start now name (passing old name n) (settled old name) changes (passing_settled old start name source at n own is all)
