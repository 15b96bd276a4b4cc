-- The position after what was read of a journal, from its first entry on.
use Rattle.std.proofs.Common.{◌≡◌, ◌⊎◌, inl, inr, ℕ, ◌+◌, ◌%◌, ◌^◌, ◌<◌, Bool, true, false, ◌==◌, nat_lt, if◌then◌else◌, List, [], ◌∷◌}
use Rattle.std.proofs.Common.{◌++◌, length, Option, Some, None, Result, Ok, Err, refl, sym, ap, subst, ◌∙◌, arith, length-append}
use Rattle.std.specs.Prelude.{codes, ⊤, is_some, is_none}
use Rattle.std.specs.Option.{option_to_list}
use Rattle.std.specs.List.{list_any}
use Rattle.std.specs.Str.{bytes_eq}
use Rattle.std.proofs.lemmas.Bool.{eqb-true, ltb-true}
use Rattle.std.proofs.lemmas.Option.{none-some, same_Some}
use Rattle.cml_board.specs.{Entry}
use Rattle.cml_grammar.specs.{is_bad_byte}
use Rattle.cml_journal.specs.{Sum, Summed, sum_by, sum_word, sum_in, What, Form, Link, Stage, ◌>>=◌, entry_in, State, Step, waiting_at}
use Rattle.cml_journal.specs.{end_of, end_by, numbered, tailed, headed, headed_by, header_fault, plain_headed, sealed_headed}
use Rattle.cml_journal.specs.{sealed_where, begun, entered, ended_by, closed_by, sealed_by, inside, from_by, behind_header, line_step}
use Rattle.cml_journal.specs.{line_read, sums_line, kept_behind, header_behind, held, most, turned, no_entry, byte_read, Read, behind, reading}
use Rattle.cml_journal.specs.declared.fault.What.TheVariants.{BadNumber, BadBytes, Gap, WrongEnd, WrongSum, TooMany, TooLong}
use Rattle.cml_journal.specs.declared.reader.Form.TheVariants.{Plain, Sealed}
use Rattle.cml_journal.specs.declared.reader.Link.TheVariants.{Any, First, Unsealed, Behind}
use Rattle.cml_journal.specs.declared.reader.Stage.TheVariants.{Waiting, Headed, Inside}

-- the position that a stage is at
abbrev place : Stage → Option ℕ
place (Waiting before link) = before
place (Headed before form) = before
place (Inside position form) = Some position

-- this many entries after a position are few enough to be counted
abbrev Counts : ℕ → ℕ → Type 0
Counts p n = (n ≡ 0) ⊎ (p + n < 2 ^ 64)

-- a line leads from a position to the one after its entry
abbrev Moves : {M : Type 0} → ℕ → Step M → Type 0
Moves p (Ok told) = (place told.0 ≡ Some (p + length (option_to_list told.1))) × Counts p (length (option_to_list told.1))
Moves p (Err what) = ⊤

-- the same of what is read after a state
abbrev MovesTo : {M : Type 0} → ℕ → Result (State × Option (Entry M)) What → Type 0
MovesTo p (Ok told) = (place told.0.stage ≡ Some (p + length (option_to_list told.1))) × Counts p (length (option_to_list told.1))
MovesTo p (Err what) = ⊤

abbrev Reads : {M : Type 0} → ℕ → Read M → Type 0
Reads p (Ok told) = (place told.0.stage ≡ Some (p + length told.1)) × Counts p (length told.1)
Reads p (Err what) = ⊤

module _ {M : Type 0} (version : ℕ) (read : List ℕ → Option M) where
  stays : (p : ℕ) → Some p ≡ Some (p + 0)
  stays p = ap (λ (n : ℕ). Some n) (omega arith)

  entered_moves : (form : Form) (p : ℕ) (line : List ℕ) → Moves {M = M} p (entered read form p line)
  unfolding entered
  entered_moves form p line = by (entry_in read line)
    where
      sized : (t : Bool) → nat_lt (p + 1) (2 ^ 64) ≡ t → (entry : Entry M)
          → Moves {M = M} p (if t then Ok (Inside (p + 1) form, Some entry) else Err TooMany)
      sized true is entry = (refl, inr (ltb-true (p + 1) (2 ^ 64) is))
      sized false is entry = tt

      by : (r : Result (Entry M) What)
          → Moves {M = M} p (r >>= λ entry. if nat_lt (p + 1) (2 ^ 64) then Ok (Inside (p + 1) form, Some entry) else Err TooMany)
      by (Ok entry) = sized (nat_lt (p + 1) (2 ^ 64)) refl entry
      by (Err what) = tt

  inside_moves : (form : Form) (summed : Summed) (p : ℕ) (line : List ℕ) → Moves {M = M} p (inside read form summed p line)
  unfolding inside
  inside_moves Plain summed p line = by (numbered (codes "end") line)
    where
      same : (t : Bool) → Moves {M = M} p (if t then Ok (Waiting (Some p) Unsealed, None) else Err WrongEnd)
      same true = (stays p, inl refl)
      same false = tt

      by : (end : Option ℕ) → Moves {M = M} p (ended_by read p end line)
      by None = entered_moves Plain p line
      by (Some end) = same (end == p)
  inside_moves Sealed summed p line = by (tailed (codes "end") line)
    where
      sum : Sum
      sum = sum_by summed

      named : (t : Bool) → Moves {M = M} p (if t then Ok (Waiting (Some p) (Behind sum), None) else Err WrongSum)
      named true = (stays p, inl refl)
      named false = tt

      same : (t : Bool) (word : List ℕ) → Moves {M = M} p (if t then sealed_by p sum word else Err WrongEnd)
      same true word = named (bytes_eq word (sum_word sum))
      same false word = tt

      by : (end : Option (ℕ × List ℕ)) → Moves {M = M} p (closed_by read sum p end line)
      by None = entered_moves Sealed p line
      by (Some end) = same (end.0 == p) end.1

  plain_moves : (p : ℕ) (link : Link) → Moves {M = M} p (plain_headed (Some p) link)
  plain_moves p Any = (stays p, inl refl)
  plain_moves p First = (stays p, inl refl)
  plain_moves p Unsealed = (stays p, inl refl)
  plain_moves p (Behind sum) = tt

  where_moves : (p : ℕ) (t : Bool) → Moves {M = M} p (sealed_where (Some p) t)
  where_moves p true = (stays p, inl refl)
  where_moves p false = tt

  sealed_moves : (p : ℕ) (link : Link) (word : Option (List ℕ)) → Moves {M = M} p (sealed_headed (Some p) link word)
  sealed_moves p Any None = where_moves p true
  sealed_moves p Any (Some word) = where_moves p (is_some (sum_in word))
  sealed_moves p First word = where_moves p (is_none word)
  sealed_moves p Unsealed word = tt
  sealed_moves p (Behind sum) None = where_moves p false
  sealed_moves p (Behind sum) (Some word) = where_moves p (bytes_eq word (sum_word sum))

  headed_moves : (p : ℕ) (link : Link) (line : List ℕ) → Moves {M = M} p (headed version (Some p) link line)
  unfolding headed
  headed_moves p link line = by (numbered (codes "journal") line) (tailed (codes "journal") line)
    where
      of_version : (t u : Bool) (word : Option (List ℕ)) (what : What)
          → Moves {M = M} p (if t then plain_headed (Some p) link else if u then sealed_headed (Some p) link word else Err what)
      of_version true u word what = plain_moves p link
      of_version false true word what = sealed_moves p link word
      of_version false false word what = tt

      by : (found : Option ℕ) (tail : Option (ℕ × List ℕ)) → Moves {M = M} p (headed_by version (Some p) link found tail)
      by (Some found) tail = of_version (found == version) (found == version + 2) None (header_fault version found)
      by None (Some found) = of_version false (found.0 == version + 2) (Some found.1) (header_fault version found.0)
      by None None = tt

  begun_inside : (form : Form) (summed : Summed) (p from : ℕ) (line : List ℕ)
      → Moves {M = M} p (begun (Some p) from >>= λ position. inside read form summed position line)
  begun_inside form summed p from line = by (from == p) refl
    where
      by : (t : Bool) → (from == p) ≡ t
          → Moves {M = M} p ((if t then Ok from else Err Gap) >>= λ position. inside read form summed position line)
      by true is = subst (λ (q : ℕ). Moves {M = M} p (inside read form summed q line)) (sym (eqb-true from p is))
          (inside_moves form summed p line)
      by false is = tt

  begun_from : (form : Form) (p from : ℕ) → Moves {M = M} p (begun (Some p) from >>= λ position. Ok (Inside position form, None))
  begun_from form p from = by (from == p) refl
    where
      by : (t : Bool) → (from == p) ≡ t
          → Moves {M = M} p ((if t then Ok from else Err Gap) >>= λ position. Ok (Inside position form, None))
      by true is = (ap (λ (q : ℕ). Some q) (eqb-true from p is) ∙ stays p, inl refl)
      by false is = tt

  behind_header_moves : (form : Form) (summed : Summed) (p : ℕ) (line : List ℕ)
      → Moves {M = M} p (behind_header read form summed (Some p) line)
  unfolding behind_header
  behind_header_moves form summed p line = by (numbered (codes "from") line)
    where
      zeroed : (t : Bool) (from : ℕ)
          → Moves {M = M} p (if t then Err BadNumber else begun (Some p) from >>= λ position. Ok (Inside position form, None))
      zeroed true from = tt
      zeroed false from = begun_from form p from

      by : (found : Option ℕ) → Moves {M = M} p (from_by read form summed (Some p) found line)
      by None = begun_inside form summed p 0 line
      by (Some from) = zeroed (from == 0) from

  step_moves : (p : ℕ) (summed : Summed) (stage : Stage) (line : List ℕ) → place stage ≡ Some p
      → Moves {M = M} p (line_step version read summed stage line)
  step_moves p summed (Waiting before link) line at =
      subst (λ (b : Option ℕ). Moves {M = M} p (headed version b link line)) (sym at) (headed_moves p link line)
  step_moves p summed (Headed before form) line at =
      subst (λ (b : Option ℕ). Moves {M = M} p (behind_header read form summed b line)) (sym at) (behind_header_moves form summed p line)
  step_moves p summed (Inside position form) line at =
      subst (λ (q : ℕ). Moves {M = M} p (inside read form summed q line)) (sym (same_Some position p at)) (inside_moves form summed p line)

  line_moves : (p : ℕ) (summed : Summed) (stage : Stage) (line : List ℕ) → place stage ≡ Some p
      → Moves {M = M} p (line_read version read summed stage line)
  unfolding line_read
  line_moves p summed stage line at = by (list_any is_bad_byte line)
    where
      by : (t : Bool) → Moves {M = M} p (if t then Err BadBytes else line_step version read summed stage line)
      by true = tt
      by false = step_moves p summed stage line at

  turned_moves : (p : ℕ) (state : State) → place state.stage ≡ Some p → MovesTo {M = M} p (turned version read state)
  unfolding turned
  turned_moves p state at =
      by (line_read version read state.summed state.stage state.line) (line_moves p state.summed state.stage state.line at)
    where
      by : (r : Step M) → Moves {M = M} p r
          → MovesTo {M = M} p (r >>= λ step. Ok (
            record {
              stage = step.0;
              lines = (state.lines + 1) % 2 ^ 64;
              kept = kept_behind step.0 state.kept state.header (length state.line);
              header = header_behind step.0 (length state.line);
              line = [];
              summed = sums_line step.0 state.summed state.line;
              over = state.over;
            },
            step.1,
          ))
      by (Ok step) moves = moves
      by (Err what) moves = tt

  byte_moves : (p : ℕ) (state : State) (b : ℕ) → place state.stage ≡ Some p → MovesTo {M = M} p (byte_read version read state b)
  byte_moves p state b at = over state.over (b == 0) (b == 10)
    where
      longer : (t : Bool) → MovesTo {M = M} p (no_entry (if t then Ok (record state { line = state.line ++ b ∷ [] }) else Err TooLong))
      longer true = (at ∙ stays p, inl refl)
      longer false = tt

      by : (t : Bool) → MovesTo {M = M} p (if t then turned version read state else no_entry (held state b))
      by true = turned_moves p state at
      by false = longer (nat_lt (length state.line) most)

      over : (done zero ends : Bool) → MovesTo {M = M} p (if done then Ok (state, None)
          else if zero then Ok (record state { over = true }, None)
          else if ends then turned version read state else no_entry (held state b))
      over true zero ends = (at ∙ stays p, inl refl)
      over false true ends = (at ∙ stays p, inl refl)
      over false false ends = by ends

  reads : (p : ℕ) (state : State) (bytes : List ℕ) → place state.stage ≡ Some p → Reads {M = M} p (reading version read state bytes)
  unfolding reading
  reads p state [] at = (at ∙ stays p, inl refl)
  reads p state (b ∷ bs) at = by (byte_read version read state b) (byte_moves p state b at) (λ q next there. reads q next bs there)
    where
      counts : (found rest : List (Entry M)) → Counts p (length found) → Counts (p + length found) (length rest)
          → Counts p (length (found ++ rest))
      counts found rest (inl none) (inl end) = inl (omega (arith, length-append found rest))
      counts found rest (inr few) (inl end) = inr (omega (arith, length-append found rest))
      counts found rest one (inr fewer) = inr (omega (arith, length-append found rest))

      later : (next : State) (found : Option (Entry M)) (r : Read M) → Counts p (length (option_to_list found))
          → Reads {M = M} (p + length (option_to_list found)) r
          → Reads {M = M} p (behind (option_to_list found) r)
      later next found (Ok told) one moves = (
        moves.0 ∙ ap (λ (n : ℕ). Some n) (omega (arith, length-append (option_to_list found) told.1)),
        counts (option_to_list found) told.1 one moves.1,
      )
      later next found (Err what) one moves = tt

      by : (r : Result (State × Option (Entry M)) What) → MovesTo {M = M} p r
          → ((q : ℕ) (next : State) → place next.stage ≡ Some q → Reads {M = M} q (reading version read next bs))
          → Reads {M = M} p (r >>= λ first. behind (option_to_list first.1) (reading version read first.0 bs))
      by (Ok first) moves on =
          later first.0 first.1 (reading version read first.0 bs) moves.1 (on (p + length (option_to_list first.1)) first.0 moves.0)
      by (Err what) moves on = tt

  ends_at : (stage : Stage) (left end : ℕ) → end_by stage left ≡ Some end → place stage ≡ Some end
  ends_at (Waiting before link) left end is = by (left == 0) is
    where
      by : (t : Bool) → (if t then before else None) ≡ Some end → before ≡ Some end
      by true is = is
      by false is = absurd (none-some end is)
  ends_at (Headed before form) left end is = absurd (none-some end is)
  ends_at (Inside position form) left end is = absurd (none-some end is)

  -- a journal that was read from position 0 on ends after its last entry
  pub ends_behind_last : (bytes : List ℕ) (state : State) (entries : List (Entry M)) (end : ℕ)
      → reading version read (waiting_at 0) bytes ≡ Ok (state, entries)
      → end_of state ≡ Some end → end ≡ length entries
  ends_behind_last bytes state entries end is ended =
      let at = subst (λ (r : Read M). Reads {M = M} 0 r) is (reads 0 (waiting_at 0) bytes refl) in
      same_Some end (length entries) (sym (ends_at state.stage (length state.line) end ended) ∙ at.0 ∙ ap (λ (n : ℕ). Some n) (omega arith))

  fewer : (n : ℕ) → Counts 0 n → n < 2 ^ 64
  fewer n (inl none) = omega (arith, none)
  fewer n (inr few) = omega (arith, few)

  -- the entries of a journal that was read from position 0 on can be counted
  pub entries_are_counted : (bytes : List ℕ) (state : State) (entries : List (Entry M))
      → reading version read (waiting_at 0) bytes ≡ Ok (state, entries) → length entries < 2 ^ 64
  entries_are_counted bytes state entries is =
      fewer (length entries) (subst (λ (r : Read M). Reads {M = M} 0 r) is (reads 0 (waiting_at 0) bytes refl)).1
