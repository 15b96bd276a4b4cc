-- What is read of bytes, however they are cut.
use Rattle.std.proofs.Common.{◌≡◌, ℕ, ◌+◌, ◌<◌, ◌≤◌, Bool, true, false, None, ◌||◌, ◌==◌, nat_lt, nat_le, if◌then◌else◌, List, [], ◌∷◌, ◌++◌}
use Rattle.std.proofs.Common.{zero, suc, ◌-◌, take, length, Option, Result, Ok, Err, refl, sym, ap, subst, ◌∙◌, arith, append_assoc, length-append, ◌⊎◌, inl, inr}
use Rattle.std.specs.Option.{option_to_list}
use Rattle.std.proofs.lemmas.Bool.{or_parts, leb-true, le-leb, ltb-true, lt-ltb, false_from_ne_true, cases_lt}
use Rattle.std.proofs.lemmas.List.{append-nil}
use Rattle.cml_board.specs.{Entry}
use Rattle.cml_journal.specs.{What, Unread, ◌>>=◌, Fails, HasFault, HasFront, Leaves, Meets, State, filled, held, held_all, most, turned, no_entry, byte_read, Read}
use Rattle.cml_journal.specs.{behind, reading, is_end, has_end}
use Rattle.cml_journal.specs.declared.fault.What.TheVariants.{TooLong}
use Rattle.cml_journal.specs.declared.fault.Unread.TheVariants as unread

-- a state with entries before it, and one alone
abbrev pub placed : {M : Type 0} → State → List (Entry M) → Read M
placed state entries = Ok (state, entries)

abbrev pub alone : {M : Type 0} → Result State What → Read M
alone (Ok state) = Ok (state, [])
alone (Err what) = Err what

behind_both : {M : Type 0} (a b : List (Entry M)) (read : Read M) → behind a (behind b read) ≡ behind (a ++ b) read
behind_both {M} a b (Ok x) = ap (λ (es : List (Entry M)). placed x.0 es) (sym (append_assoc a b x.1))
behind_both a b (Err what) = refl

behind_none : {M : Type 0} (read : Read M) → behind [] read ≡ read
behind_none (Ok x) = refl
behind_none (Err what) = refl

-- what is read on, from what was read
abbrev pub on : {M : Type 0} → ℕ → (List ℕ → Option M) → List ℕ → Read M → Read M
on version read rest (Ok first) = behind first.1 (reading version read first.0 rest)
on version read rest (Err what) = Err what

behind_on : {M : Type 0} (version : ℕ) (read : List ℕ → Option M) (rest : List ℕ) (given : List (Entry M)) (r : Read M)
    → behind given (on version read rest r) ≡ on version read rest (behind given r)
behind_on version read rest given (Ok x) = behind_both given x.1 (reading version read x.0 rest)
behind_on version read rest given (Err what) = refl

-- a text is read as its front, and then the rest from there
pub reading-append : {M : Type 0} (version : ℕ) (read : List ℕ → Option M) (state : State) (front rest : List ℕ)
    → reading version read state (front ++ rest) ≡ on version read rest (reading version read state front)
unfolding reading
reading-append version read state [] rest = sym (behind_none (reading version read state rest))
reading-append {M} version read state (b ∷ bs) rest = by (byte_read version read state b) (λ next. reading-append version read next bs rest)
  where
    by : (r : Result (State × Option (Entry M)) What)
        → ((next : State) → reading version read next (bs ++ rest) ≡ on version read rest (reading version read next bs))
        → (r >>= λ first. behind (option_to_list first.1) (reading version read first.0 (bs ++ rest)))
        ≡ on version read rest (r >>= λ first. behind (option_to_list first.1) (reading version read first.0 bs))
    by (Ok x) later = ap (behind (option_to_list x.1)) (later x.0)
        ∙ behind_on version read rest (option_to_list x.1) (reading version read x.0 bs)
    by (Err what) later = refl

abbrev longer : State → ℕ → State
longer state b = record state { line = state.line ++ b ∷ [] }

-- bytes without a line end
pub reading-held : {M : Type 0} (version : ℕ) (read : List ℕ → Option M) (state : State) (bytes : List ℕ)
    → state.over ≡ false → length state.line ≤ most → has_end bytes ≡ false
    → reading version read state bytes ≡ alone {M = M} (held_all state bytes)
unfolding reading
reading-held {M} version read state [] runs short none =
    sym (ap (λ t. alone {M = M} (if t then Ok (record state { line = state.line ++ [] }) else Err TooLong))
    (le-leb (length state.line + 0) most (omega arith))
    ∙ ap (λ (l : List ℕ). placed {M = M} (record state { line = l }) []) (append-nil state.line))
reading-held {M} version read state (b ∷ bs) runs short none =
    let parts = or_parts (is_end b) (has_end bs) none in
    let apart = or_parts (b == 0) (b == 10) parts.0 in
    ap (λ t. (if t then Ok (state, None) else if b == 0 then Ok (record state { over = true }, None)
    else if b == 10 then turned version read state else no_entry (held state b)) >>= λ first.
    behind (option_to_list first.1) (reading version read first.0 bs)) runs
    ∙ ap (λ t. (if t then Ok (record state { over = true }, None)
    else if b == 10 then turned version read state else no_entry (held state b)) >>= λ first.
    behind (option_to_list first.1) (reading version read first.0 bs)) apart.0
    ∙ ap (λ t. (if t then turned version read state else no_entry (held state b)) >>= λ first.
    behind (option_to_list first.1) (reading version read first.0 bs)) apart.1
    ∙ by (cases_lt (length state.line) most) (λ le. reading-held version read (longer state b) bs runs le parts.1)
  where
    by : (length state.line < most) ⊎ (most ≤ length state.line)
        → (length (longer state b).line ≤ most → reading version read (longer state b) bs ≡ alone {M = M} (held_all (longer state b) bs))
        → (no_entry (held state b) >>= λ first. behind (option_to_list first.1) (reading version read first.0 bs))
        ≡ alone {M = M} (held_all state (b ∷ bs))
    by (inl lt) later =
        ap (λ t. no_entry (if t then Ok (longer state b) else Err TooLong) >>= λ first.
        behind (option_to_list first.1) (reading version read first.0 bs)) (lt-ltb (length state.line) most lt)
        ∙ behind_none (reading version read (longer state b) bs)
        ∙ later (omega (arith, lt, length-append state.line (b ∷ [])))
        ∙ ap (λ (n : ℕ). alone {M = M} (if nat_le n most then Ok (record state { line = (state.line ++ b ∷ []) ++ bs }) else Err TooLong))
        (omega (arith, length-append state.line (b ∷ [])))
        ∙ ap (λ (l : List ℕ). alone {M = M} (if nat_le (length state.line + length (b ∷ bs)) most then Ok (record state { line = l })
        else Err TooLong)) (append_assoc state.line (b ∷ []) bs)
    by (inr le) later =
        ap (λ t. no_entry (if t then Ok (longer state b) else Err TooLong) >>= λ first.
        behind (option_to_list first.1) (reading version read first.0 bs))
        (false_from_ne_true (nat_lt (length state.line) most) (λ t. absurd (omega (arith, le, ltb-true _ _ t))))
        ∙ ap (λ t. alone {M = M} (if t then Ok (record state { line = state.line ++ b ∷ bs }) else Err TooLong))
        (sym (false_from_ne_true (nat_le (length state.line + length (b ∷ bs)) most) (λ t. absurd (omega (arith, le, leb-true _ _ t)))))

-- what is read at a line's end, and after it
abbrev pub turning : {M : Type 0} → ℕ → (List ℕ → Option M) → List ℕ → Result State What → Read M
turning version read rest (Ok state) =
    turned version read state >>= λ first. behind (option_to_list first.1) (reading version read first.0 rest)
turning version read rest (Err what) = Err what

pub reading-line : {M : Type 0} (version : ℕ) (read : List ℕ → Option M) (state : State) (front rest : List ℕ)
    → state.over ≡ false → length state.line ≤ most → has_end front ≡ false
    → reading version read state (front ++ 10 ∷ rest) ≡ turning {M = M} version read rest (held_all state front)
unfolding reading
reading-line {M} version read state front rest runs short none =
    reading-append version read state front (10 ∷ rest)
    ∙ ap (on {M = M} version read (10 ∷ rest)) (reading-held version read state front runs short none)
    ∙ by (nat_le (length state.line + length front) most)
  where
    next : State
    next = record state { line = state.line ++ front }

    by : (t : Bool) → on {M = M} version read (10 ∷ rest) (alone (if t then Ok next else Err TooLong))
        ≡ turning version read rest (if t then Ok next else Err TooLong)
    by true =
        behind_none (reading version read next (10 ∷ rest))
        ∙ ap (λ t. (if t then Ok (next, None) else turned version read next) >>= λ first.
        behind (option_to_list first.1) (reading version read first.0 rest)) runs
    by false = refl

-- nothing behind a byte 0 is read
pub reading-over : {M : Type 0} (version : ℕ) (read : List ℕ → Option M) (state : State) (bytes : List ℕ) → state.over ≡ true
    → reading version read state bytes ≡ placed state []
unfolding reading
reading-over version read state [] over = refl
reading-over {M} version read state (b ∷ bs) over =
    ap (λ t. (if t then Ok (state, None) else if b == 0 then Ok (record state { over = true }, None)
    else if b == 10 then turned version read state else no_entry (held state b)) >>= λ first.
    behind (option_to_list first.1) (reading version read first.0 bs)) over
    ∙ behind_none (reading version read state bs)
    ∙ reading-over {M = M} version read state bs over

-- ---- what `next` promises
-- a front of bytes without a line end has none
no_end_in_front : (front rest : List ℕ) → has_end (front ++ rest) ≡ false → has_end front ≡ false
no_end_in_front [] rest none = refl
no_end_in_front (b ∷ bs) rest none =
    let parts = or_parts (is_end b) (has_end (bs ++ rest)) none in
    ap (λ t. t || has_end bs) parts.0 ∙ no_end_in_front bs rest parts.1

-- more bytes than a line may have, up to the first that is too many
record Cuts (k : ℕ) (bytes : List ℕ) : Type 0 where
  byte : ℕ
  rest : List ℕ
  cut : bytes ≡ take k bytes ++ byte ∷ rest
  front : length (take k bytes) ≡ k

cuts : (k : ℕ) (bytes : List ℕ) → k < length bytes → Cuts k bytes
cuts k [] more = absurd (omega (arith, more))
cuts zero (b ∷ bs) more = record { byte = b; rest = bs; cut = refl; front = refl }
cuts (suc k) (b ∷ bs) more =
    let later = cuts k bs (omega (arith, more)) in record {
      byte = later.byte;
      rest = later.rest;
      cut = ap (λ (l : List ℕ). b ∷ l) later.cut;
      front = ap suc later.front;
    }

fits_line : (state : State) (bytes : List ℕ) → length state.line + length bytes ≤ most
    → held_all state bytes ≡ Ok (record state { line = state.line ++ bytes })
fits_line state bytes le = ap (λ t. if t then Ok (record state { line = state.line ++ bytes }) else Err TooLong)
    (le-leb (length state.line + length bytes) most le)

overfills : (state : State) (bytes : List ℕ) → most < length state.line + length bytes → held_all state bytes ≡ Err TooLong
overfills state bytes more = ap (λ t. if t then Ok (record state { line = state.line ++ bytes }) else Err TooLong)
    (false_from_ne_true (nat_le (length state.line + length bytes) most) (λ t. absurd (omega (arith, more, leb-true _ _ t))))

too_many : (state : State) (bytes : List ℕ) (what : What) → held_all state bytes ≡ Err what
    → (most < length state.line + length bytes) × (TooLong ≡ what)
too_many state bytes what fails = by (cases_lt most (length state.line + length bytes))
  where
    failed : Result State What
    failed = Err TooLong

    same : failed ≡ Err what → TooLong ≡ what
    same is = cc

    filling : Result State What
    filling = Ok (record state { line = state.line ++ bytes })

    never : filling ≡ Err what → ⊥
    never is = cc

    by : (most < length state.line + length bytes) ⊎ (length state.line + length bytes ≤ most)
        → (most < length state.line + length bytes) × (TooLong ≡ what)
    by (inl more) = (more, same (sym (overfills state bytes more) ∙ fails))
    by (inr le) = absurd (never (sym (fits_line state bytes le) ∙ fails))

-- bytes that are too many have a fault after those that fill the line
held_breaks : {M : Type 0} (version : ℕ) (read : List ℕ → Option M) (state : State) (bytes : List ℕ) (what : What)
    → state.over ≡ false → length state.line ≤ most → has_end bytes ≡ false → held_all state bytes ≡ Err what
    → (has : HasFault version read state bytes what) × (filled state bytes ≡ has.next)
held_breaks {M} version read state bytes what runs short none fails =
    let (more, long) = too_many state bytes what fails in
    let room = most - length state.line in
    let parts = cuts room bytes (omega (arith, more, short)) in
    let front = take room bytes in
    let until : List ℕ = front ++ parts.byte ∷ [] in
    let whole : bytes ≡ until ++ parts.rest = parts.cut ∙ sym (append_assoc front (parts.byte ∷ []) parts.rest) in
    let free = no_end_in_front front (parts.byte ∷ parts.rest) (subst (λ (l : List ℕ). has_end l ≡ false) parts.cut none) in
    let free_until = no_end_in_front until parts.rest (subst (λ (l : List ℕ). has_end l ≡ false) whole none) in (
      record {
        front = front;
        byte = parts.byte;
        rest = parts.rest;
        whole = parts.cut;
        next = filled state bytes;
        read = reading-held version read state front runs short free
            ∙ ap (alone {M = M}) (fits_line state front (omega (arith, parts.front, short)));
        same_line = refl;
        fault = reading-held version read state until runs short free_until
            ∙ ap (alone {M = M}) (overfills state until (omega (arith, parts.front, short, length-append front (parts.byte ∷ []))))
            ∙ ap (λ (w : What). Err w) long;
      },
      refl,
    )

-- nothing of the bytes is read
read_none : {M : Type 0} (version : ℕ) (read : List ℕ → Option M) (state new : State) (bytes : List ℕ) → new ≡ state
    → HasFront version read state bytes new
unfolding reading
read_none {M} version read state new bytes same = record {
  front = [];
  rest = bytes;
  whole = refl;
  read = ap (λ (s : State). placed {M = M} s []) (sym same);
}

pub fault_held : {M : Type 0} (version : ℕ) (read : List ℕ → Option M) (state new : State) (bytes : List ℕ) (e : Unread)
    → state.over ≡ false → length state.line ≤ most → has_end bytes ≡ false
    → Fails e (held_all state bytes) → Leaves state bytes new e → Meets version read state bytes new e
fault_held version read state new bytes unread.Memory runs short none fails left = read_none version read state new bytes left
fault_held version read state new bytes (unread.Fault what) runs short none fails left =
    let met = held_breaks version read state bytes what runs short none fails in (met.0, left ∙ met.1)

pub fault_front : {M : Type 0} (version : ℕ) (read : List ℕ → Option M) (state new : State) (front rest : List ℕ) (e : Unread)
    → state.over ≡ false → length state.line ≤ most → has_end front ≡ false
    → Fails e (held_all state front) → Leaves state front new e → Meets version read state (front ++ rest) new e
fault_front version read state new front rest unread.Memory runs short none fails left = read_none version read state new (front ++ rest) left
fault_front version read state new front rest (unread.Fault what) runs short none fails left =
    let met = held_breaks version read state front what runs short none fails in
    let first = met.0 in (
      record {
        front = first.front;
        byte = first.byte;
        rest = first.rest ++ rest;
        whole = ap (λ (l : List ℕ). l ++ rest) first.whole ∙ append_assoc first.front (first.byte ∷ first.rest) rest;
        next = first.next;
        read = first.read;
        same_line = first.same_line;
        fault = first.fault;
      },
      left ∙ met.1,
    )

pub fault_turned : {M : Type 0} (version : ℕ) (read : List ℕ → Option M) (state next new : State) (front rest : List ℕ) (e : Unread)
    → state.over ≡ false → length state.line ≤ most → has_end front ≡ false
    → held_all state front ≡ Ok next → next.lines ≡ state.lines → Fails e (turned version read next) → new ≡ next
    → Meets version read state (front ++ 10 ∷ rest) new e
fault_turned {M} version read state next new front rest unread.Memory runs short none held same fails stays = record {
  front = front;
  rest = 10 ∷ rest;
  whole = refl;
  read = reading-held version read state front runs short none ∙ ap (alone {M = M}) held
      ∙ ap (λ (s : State). placed {M = M} s []) (sym stays);
}
fault_turned {M} version read state next new front rest (unread.Fault what) runs short none held same fails stays = (
  record {
    front = front;
    byte = 10;
    rest = rest;
    whole = refl;
    next = next;
    read = reading-held version read state front runs short none ∙ ap (alone {M = M}) held;
    same_line = same;
    fault = reading-line version read state front [] runs short none
        ∙ ap (turning {M = M} version read []) held
        ∙ ap (λ (r : Result (State × Option (Entry M)) What). r >>= λ first.
        behind (option_to_list first.1) (reading version read first.0 [])) fails;
  },
  stays,
)

pub taken_line : {M : Type 0} (version : ℕ) (read : List ℕ → Option M) (state next last : State) (entry : Option (Entry M)) (front : List ℕ)
    → state.over ≡ false → length state.line ≤ most → has_end front ≡ false
    → held_all state front ≡ Ok next → turned version read next ≡ Ok (last, entry)
    → reading version read state (front ++ 10 ∷ []) ≡ Ok (last, option_to_list entry)
unfolding reading
taken_line {M} version read state next last entry front runs short none held turn =
    reading-line version read state front [] runs short none
    ∙ ap (turning {M = M} version read []) held
    ∙ ap (λ (r : Result (State × Option (Entry M)) What). r >>= λ first. behind (option_to_list first.1) (reading version read first.0 []))
    turn
    ∙ ap (λ (es : List (Entry M)). placed last es) (append-nil (option_to_list entry))

-- a byte 0 after bytes of a line ends the text
pub taken_zero : {M : Type 0} (version : ℕ) (read : List ℕ → Option M) (state next last : State) (front rest : List ℕ)
    → state.over ≡ false → length state.line ≤ most → has_end front ≡ false
    → held_all state front ≡ Ok next → next.over ≡ false → last ≡ record next { over = true }
    → reading version read state (front ++ 0 ∷ rest) ≡ placed {M = M} last []
unfolding reading
taken_zero {M} version read state next last front rest runs short none fills running is =
    reading-append version read state front (0 ∷ rest)
    ∙ ap (on {M = M} version read (0 ∷ rest)) (reading-held version read state front runs short none ∙ ap (alone {M = M}) fills)
    ∙ behind_none (reading version read next (0 ∷ rest))
    ∙ ap (λ t. (if t then silent next else silent (record next { over = true })) >>= λ first.
    behind (option_to_list first.1) (reading version read first.0 rest)) running
    ∙ behind_none (reading version read (record next { over = true }) rest)
    ∙ reading-over {M = M} version read (record next { over = true }) rest refl
    ∙ ap (λ (s : State). placed {M = M} s []) (sym is)
  where
    silent : State → Result (State × Option (Entry M)) What
    silent s = Ok (s, None)
