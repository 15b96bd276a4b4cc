-- Objects that were made again and settled leave what they left before.
use Rattle.std.proofs.Common.{◌≡◌, ℕ, ◌+◌, ◌-◌, ◌<◌, ◌≤◌, inl, inr, Bool, true, false, ◌&&◌, List, [], length, take, drop, Option}
use Rattle.std.proofs.Common.{Some, None, refl, sym, ap, ◌∙◌, arith}
use Rattle.std.specs.Option.{option_map, option_map_or}
use Rattle.std.proofs.lemmas.Bool.{cases_lt, cond-true, cond-false, and_from, false≢true}
use Rattle.std.proofs.lemmas.List.{drop-drop, length-drop, length-take}
use Rattle.std.proofs.lemmas.Option.{slice_get_past, slice_get_within}
use Rattle.cml_calls.specs.{Kind, is_receiver, is_port, is_variable}
use Rattle.cml_board.specs.{Entry, Origin, mailbox, port, kind_by, source_by, start_by, held, Lawful, made, origin_of, is_open, sent, got}
use Rattle.cml_board.specs.{owed}
use Rattle.cml_board.specs.{is_a, facts_of}
use Rattle.cml_board.specs.Counts.{channel_in}
use Rattle.cml_board.specs.Shown.{Shown}
use Rattle.cml_board.proofs.UnmadeLemmas.{unmade}
use Rattle.cml_compact.specs.{Compacts, LeavesTheSame, stock, passed_over, settled}
use Rattle.cml_compact.specs.Stages.{begins_at, placed}
use Rattle.cml_compact.specs.Stepping.{Reaches}
use Rattle.cml_compact.proofs.AlikeLemmas.{follows_same, same_back}
use Rattle.cml_compact.proofs.AnewLemmas.{same_weights}
use Rattle.cml_compact.proofs.BeginningsLemmas.{kind_placed, channel_placed}
use Rattle.cml_compact.proofs.ChannelsLemmas.{port_after}
use Rattle.cml_compact.proofs.StockLemmas.{stock_mailbox, port_stock, open_begins}

module _ {M : Type 0} where
  -- an object of some kind was made
  pub is_within : (test : Kind → Bool) (h : List (Entry M)) (k : ℕ) → is_a test h k ≡ true → k < length (made h)
  is_within test h k is = elim (cases_lt k (length (made h))) [
    | inl within ↦ within
    | inr past ↦ absurd (false≢true (sym (ap (λ x. option_map_or test (option_map kind_by x) false) (slice_get_past (made h) k past)) ∙ is))
  ]

  origin_settled : (old : List (Entry M)) (most : ℕ) (board : Shown M) (k : ℕ) → Reaches most board (length (made old)) (settled old)
      → origin_of board.history k ≡ option_map (placed old k) (origin_of old k)
  origin_settled old most board k reaches = elim (cases_lt k (length (made old))) [
    | inl within ↦ ap (λ f. f.origin) (reaches.each k within)
    | inr past ↦
        let beyond : length (made board.history) ≤ k = omega (arith, reaches.count, past) in
        slice_get_past (made board.history) k beyond ∙ ap (option_map (placed old k)) (sym (slice_get_past (made old) k past))
  ]

  open_settled : (old : List (Entry M)) (most : ℕ) (board : Shown M) (k : ℕ) → Lawful old
      → Reaches most board (length (made old)) (settled old)
      → is_open board.history k ≡ is_open old k
  open_settled old most board k lawful reaches = elim (cases_lt k (length (made old))) [
    | inl within ↦ ap (λ f. f.opened) (reaches.each k within)
    | inr past ↦
        let beyond : length (made board.history) ≤ k = omega (arith, reaches.count, past) in
        ap (λ f. f.opened) (unmade board.history k reaches.lawful beyond) ∙ sym (ap (λ f. f.opened) (unmade old k lawful past))
  ]

  held_settled : (old : List (Entry M)) (most : ℕ) (board : Shown M) (k : ℕ) → Reaches most board (length (made old)) (settled old)
      → is_a is_variable old k ≡ true → held board.history k ≡ held old k
  held_settled old most board k reaches is =
      ap (λ f. f.held) (reaches.each k (is_within is_variable old k is)) ∙ cond-true (is_a is_variable old k) (held old k) None is

  -- a mailbox is owed what was sent again
  owed_mailbox : (old : List (Entry M)) (most : ℕ) (board : Shown M) (k : ℕ) → Reaches most board (length (made old)) (settled old)
      → origin_of old k ≡ Some mailbox → owed board.history k ≡ owed old k
  owed_mailbox old most board k reaches is =
      let within : k < length (made old) = slice_get_within (made old) k mailbox is in
      let begun : origin_of board.history k ≡ Some mailbox = origin_settled old most board k reaches ∙ ap (option_map (placed old k)) is in
      let stream = stock old (source_by k (origin_of old k)) in
      let begins = begins_at old (source_by k (origin_of old k)) k in
      let none : got board.history k ≡ [] =
      ap (λ f. f.got) (reaches.each k within)
      ∙ cond-false (is_a is_port old k && is_open old k) (take (length stream - length (owed old k) - begins) (drop begins stream)) []
      (ap (λ x. option_map_or is_port (option_map kind_by x) false && is_open old k) is) in
      let sends : sent board.history k ≡ owed old k =
      ap (λ f. f.sent) (reaches.each k within) ∙ stock_mailbox old k (ap (option_map kind_by) is) in
      ap (λ xs. drop (length xs) (drop (start_by (origin_of board.history k))
      (sent board.history (source_by k (origin_of board.history k))))) none
      ∙ ap (λ x. drop (start_by x) (sent board.history (source_by k x))) begun ∙ sends

  -- what an open port passes over
  pub passed_port : (old : List (Entry M)) (k source start : ℕ) → origin_of old k ≡ Some (port source start) → is_open old k ≡ true
      → passed_over old k
      ≡ take (length (stock old source) - length (owed old k) - begins_at old source k) (drop (begins_at old source k) (stock old source))
  passed_port old k source start is opened =
      let from = source_by k (origin_of old k) in
      let stream = stock old from in
      let begins = begins_at old from k in
      cond-true (is_a is_port old k && is_open old k) (take (length stream - length (owed old k) - begins) (drop begins stream)) []
      (and_from (is_a is_port old k) (is_open old k) (ap (λ x. option_map_or is_port (option_map kind_by x) false) is) opened)
      ∙ ap (λ x. take (length (stock old (source_by k x)) - length (owed old k) - begins_at old (source_by k x) k)
      (drop (begins_at old (source_by k x) k) (stock old (source_by k x)))) is

  -- it is owed what was sent again on its channel after it was made, without what it passed over
  owed_port : (old : List (Entry M)) (most : ℕ) (board : Shown M) (k source start : ℕ) → Lawful old
      → Reaches most board (length (made old)) (settled old)
      → origin_of old k ≡ Some (port source start) → is_open old k ≡ true → owed board.history k ≡ owed old k
  owed_port old most board k source start lawful reaches is opened =
      let within : k < length (made old) = slice_get_within (made old) k (port source start) is in
      let own = port_after old k source start lawful is in
      let stream = stock old source in
      let begins = begins_at old source k in
      let all = length stream - length (owed old k) in
      let n = all - begins in
      let after = drop begins stream in
      let fewer = (port_stock old k source start lawful is opened).0 in
      let less : begins ≤ all = open_begins old k source start lawful is opened within in
      let begun : origin_of board.history k ≡ Some (port source begins) =
      origin_settled old most board k reaches ∙ ap (option_map (placed old k)) is in
      let sends : sent board.history source ≡ stream = ap (λ f. f.sent) (reaches.each source (omega (arith, own.0, within))) in
      let passed : got board.history k ≡ take n after =
      ap (λ f. f.got) (reaches.each k within) ∙ passed_port old k source start is opened in
      let count : length (take n after) ≡ n = omega (arith, length-take n after, length-drop begins stream, less, fewer) in
      let both : begins + n ≡ all = omega (arith, less) in
      ap (λ xs. drop (length xs) (drop (start_by (origin_of board.history k))
      (sent board.history (source_by k (origin_of board.history k))))) passed
      ∙ ap (λ m. drop m (drop (start_by (origin_of board.history k)) (sent board.history (source_by k (origin_of board.history k))))) count
      ∙ ap (λ x. drop n (drop (start_by x) (sent board.history (source_by k x)))) begun
      ∙ ap (λ xs. drop n (drop begins xs)) sends ∙ drop-drop n begins stream ∙ ap (λ m. drop m stream) both
      ∙ (port_stock old k source start lawful is opened).1

  owed_settled : (old : List (Entry M)) (most : ℕ) (board : Shown M) (k : ℕ) → Lawful old
      → Reaches most board (length (made old)) (settled old)
      → is_a is_receiver old k ≡ true → is_open old k ≡ true → owed board.history k ≡ owed old k
  owed_settled old most board k lawful reaches is opened = by_origin (origin_of old k) refl
    where
      by_origin : (x : Option Origin) → origin_of old k ≡ x → owed board.history k ≡ owed old k
      by_origin (Some mailbox) e = owed_mailbox old most board k reaches e
      by_origin (Some (port source start)) e = owed_port old most board k source start lawful reaches e opened
      by_origin x e = absurd (false≢true (sym (ap (λ x. option_map_or is_receiver (option_map kind_by x) false) e) ∙ is))

  pub settled_same : (old : List (Entry M)) (most : ℕ) (board : Shown M) → Lawful old
      → Reaches most board (length (made old)) (settled old) → LeavesTheSame old board.history
  settled_same old most board lawful reaches = record {
    kinds = λ k. ap (option_map kind_by) (origin_settled old most board k reaches) ∙ kind_placed old k (origin_of old k);
    channels = λ k. ap channel_in (origin_settled old most board k reaches) ∙ channel_placed old k (origin_of old k);
    opened = λ k. open_settled old most board k lawful reaches;
    owed = λ k is opened. owed_settled old most board k lawful reaches is opened;
    held = λ k is. held_settled old most board k reaches is;
  }

  pub compacts_told : (old : Shown M) (most : ℕ) (new : Shown M) → Lawful old.history
      → Reaches most new (length (made old.history)) (settled old.history) → Compacts old new
  compacts_told old most new lawful reaches =
      let same = settled_same old.history most new lawful reaches in
      record {
        begins = reaches.begins;
        lawful = reaches.lawful;
        leaves = same;
        later = λ since. (
          follows_same old.history new.history since reaches.lawful same,
          follows_same new.history old.history since lawful (same_back old.history new.history same),
        );
        size = reaches.entries ∙ same_weights (facts_of new.history) (settled old.history) (length (made old.history)) reaches.each;
      }
