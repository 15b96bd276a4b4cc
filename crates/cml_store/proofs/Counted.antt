-- How much recovery keeps, as a reader counts it.
use Rattle.std.proofs.Common.{◌≡◌, ℕ, zero, suc, ◌+◌, ◌%◌, ◌^◌, ◌<◌, ◌≤◌, Bool, true, false, ◌==◌, nat_lt, if◌then◌else◌, cond, List, [], ◌∷◌, ◌++◌, length, take, Option, Some, None, Result, Ok, Err, refl, sym, ◌∙◌, ap, subst, inl, inr, arith, append_assoc, length-append, true≢false}
use Rattle.std.specs.Prelude.{codes}
use Rattle.std.specs.List.{list_any}
use Rattle.std.specs.Option.{option_to_list}
use Rattle.std.specs.Str.{bytes_eq}
use Rattle.std.proofs.lemmas.Bool.{and_parts, eqb-true}
use Rattle.std.proofs.lemmas.List.{append-nil, take_all, take-append-le}
use Rattle.cml_board.specs.{Entry}
use Rattle.cml_grammar.specs.{is_bad_byte}
use Rattle.cml_journal.specs.{What, Form, Stage, Summed, Read, State, waiting_at, behind, byte_read, held, turned, no_entry, line_read, line_step, reading, most, ◌>>=◌}
use Rattle.cml_journal.specs.{sum_by, sum_word, entry_in, numbered, tailed, headed, headed_by, header_fault, plain_headed, sealed_headed, begun, entered, ended_by, closed_by, sealed_by, inside, from_by, behind_header, header_behind}
use Rattle.cml_journal.specs.declared.fault.What.TheVariants.{BadNumber, BadBytes, NoHeader, WrongEnd, WrongSum, TooMany, TooLong}
use Rattle.cml_journal.specs.declared.reader.Form.TheVariants.{Plain, Sealed}
use Rattle.cml_journal.specs.declared.reader.Link.{Link}
use Rattle.cml_journal.specs.declared.reader.Link.TheVariants.{Unsealed, Behind}
use Rattle.cml_journal.specs.declared.reader.Stage.TheVariants.{Waiting, Headed, Inside}
use Rattle.cml_journal.proofs.FeedLemmas.{on, placed, reading-append}
use Rattle.cml_journal.proofs.WordLemmas.{bind_ok, ok_is, chosen, passed, not_failed}
use Rattle.cml_journal.proofs.LineAddsLemmas.{behind_ok, plain_heads, sealed_heads, turned_to, turning_to}
use Rattle.cml_store.specs.Recovery.{printed, longest, recovered}
use Rattle.cml_store.specs.Texts.{is_whole_at, is_whole_read, is_whole_text}
use Rattle.cml_store.proofs.Keeping.{taken_length}

-- ---- a longest front, with a byte more
module _ (whole : List ℕ → Bool) where
  longest_alike : (n : ℕ) (one other : List ℕ) → ((k : ℕ) → k ≤ n → take k one ≡ take k other)
      → longest whole one n ≡ longest whole other n
  longest_alike zero one other same = refl
  longest_alike (suc n) one other same =
      ap (λ t. cond (whole t) (suc n) (longest whole one n)) (same (suc n) (omega arith))
      ∙ ap (λ m. cond (whole (take (suc n) other)) (suc n) m) (longest_alike n one other (λ k le. same k (omega (arith, le))))

  longest_more : (front : List ℕ) (b : ℕ) (v : Bool) → whole (front ++ b ∷ []) ≡ v
      → longest whole (front ++ b ∷ []) (length (front ++ b ∷ [])) ≡ cond v (length (front ++ b ∷ []))
      (longest whole front (length front))
  longest_more front b v is =
      let text : List ℕ = front ++ b ∷ [] in
      let long : length text ≡ suc (length front) = omega (arith, length-append front (b ∷ [])) in
      let all : take (suc (length front)) text ≡ text = take_all (suc (length front)) text (omega (arith, long)) in
      let before : longest whole text (length front) ≡ longest whole front (length front) =
      longest_alike (length front) text front (λ k le. take-append-le k front (b ∷ []) le) in
      ap (longest whole text) long
      ∙ ap (λ t. cond (whole t) (suc (length front)) (longest whole text (length front))) all
      ∙ ap (λ t. cond t (suc (length front)) (longest whole text (length front))) is
      ∙ ap (λ m. cond v (suc (length front)) m) before
      ∙ ap (λ m. cond v m (longest whole front (length front))) (sym long)

-- ---- which lines are headers
-- a line led to this stage, which isn't that of a header
abbrev IsNoHeader : Stage → Type 0
IsNoHeader (Waiting before link) = Unit {0}
IsNoHeader (Headed before form) = ⊥
IsNoHeader (Inside position form) = Unit {0}

-- a line led from one stage to another, with this entry: a header is only where one may be, and is no entry
abbrev MayLead : {M : Type 0} → (new old : Stage) → Option (Entry M) → Type 0
MayLead (Headed before form) (Waiting end link) entry = entry ≡ None
MayLead (Headed before form) (Headed end other) entry = ⊥
MayLead (Headed before form) (Inside position other) entry = ⊥
MayLead (Waiting before link) old entry = Unit {0}
MayLead (Inside position form) old entry = Unit {0}

-- a header that is the last line has a length only at its stage
abbrev HeaderAt : Stage → ℕ → Type 0
HeaderAt (Waiting before link) header = header ≡ 0
HeaderAt (Headed before form) header = Unit {0}
HeaderAt (Inside position form) header = header ≡ 0

header_at : (stage : Stage) (length : ℕ) → HeaderAt stage (header_behind stage length)
header_at (Waiting before link) length = refl
header_at (Headed before form) length = tt
header_at (Inside position form) length = refl

module _ {M : Type 0} (version : ℕ) (meaning : List ℕ → Option M) where
  from_headed : (stage : Stage) (before : Option ℕ) (form : Form) (entry : Option (Entry M)) → IsNoHeader stage
      → MayLead stage (Headed before form) entry
  from_headed (Waiting end link) before form entry apart = tt
  from_headed (Headed end other) before form entry apart = apart
  from_headed (Inside position other) before form entry apart = tt

  from_inside : (stage : Stage) (position : ℕ) (form : Form) (entry : Option (Entry M)) → IsNoHeader stage
      → MayLead stage (Inside position form) entry
  from_inside (Waiting end link) position form entry apart = tt
  from_inside (Headed end other) position form entry apart = apart
  from_inside (Inside place other) position form entry apart = tt

  from_waiting : (stage : Stage) (before : Option ℕ) (link : Link) (entry : Option (Entry M)) → entry ≡ None
      → MayLead stage (Waiting before link) entry
  from_waiting (Waiting end other) before link entry none = tt
  from_waiting (Headed end form) before link entry none = none
  from_waiting (Inside position form) before link entry none = tt

  entered_leads : (form : Form) (position : ℕ) (line : List ℕ) (told : Stage × Option (Entry M))
      → entered meaning form position line ≡ Ok told → IsNoHeader told.0
  unfolding entered
  entered_leads form position line told e =
      let a = bind_ok (entry_in meaning line)
      (λ entry. if nat_lt (position + 1) (2 ^ 64) then Ok (Inside (position + 1) form, Some entry) else Err TooMany) told e in
      let same = (passed (nat_lt (position + 1) (2 ^ 64)) (Inside (position + 1) form, Some a.0) told TooMany a.2).1 in
      subst (λ (x : Stage × Option (Entry M)). IsNoHeader x.0) same tt

  inside_leads : (form : Form) (summed : Summed) (position : ℕ) (line : List ℕ) (told : Stage × Option (Entry M))
      → inside meaning form summed position line ≡ Ok told → IsNoHeader told.0
  unfolding inside
  inside_leads Plain summed position line told e = by (numbered (codes "end") line) e
    where
      by : (o : Option ℕ) → ended_by meaning position o line ≡ Ok told → IsNoHeader told.0
      by (Some n) f = subst (λ (x : Stage × Option (Entry M)). IsNoHeader x.0)
          (passed (n == position) (Waiting (Some position) Unsealed, None) told WrongEnd f).1 tt
      by None f = entered_leads Plain position line told f
  inside_leads Sealed summed position line told e = by (tailed (codes "end") line) e
    where
      at_place : (t : Bool) (r : Result (Stage × Option (Entry M)) What) → (if t then r else Err WrongEnd) ≡ Ok told
          → r ≡ Ok told
      at_place true r g = g
      at_place false r g = absurd cc

      by : (o : Option (ℕ × List ℕ)) → closed_by meaning (sum_by summed) position o line ≡ Ok told → IsNoHeader told.0
      by (Some found) f =
          let sealed = at_place (found.0 == position) (sealed_by position (sum_by summed) found.1) f in
          let same = (passed (bytes_eq found.1 (sum_word (sum_by summed)))
          (Waiting (Some position) (Behind (sum_by summed)), None) told WrongSum sealed).1 in
          subst (λ (x : Stage × Option (Entry M)). IsNoHeader x.0) same tt
      by None f = entered_leads Sealed position line told f

  behind_leads : (form : Form) (summed : Summed) (before : Option ℕ) (line : List ℕ) (told : Stage × Option (Entry M))
      → behind_header meaning form summed before line ≡ Ok told → IsNoHeader told.0
  unfolding behind_header
  behind_leads form summed before line told e = by (numbered (codes "from") line) e
    where
      by : (o : Option ℕ) → from_by meaning form summed before o line ≡ Ok told → IsNoHeader told.0
      by None f =
          let a = bind_ok (begun before 0) (λ position. inside meaning form summed position line) told f in
          inside_leads form summed a.0 line told a.2
      by (Some n) f =
          let opened : Result (Stage × Option (Entry M)) What =
          begun before n >>= λ position. Ok (Inside position form, None) in
          let opens = (not_failed (n == 0) BadNumber opened told f).1 in
          let a = bind_ok (begun before n) (λ position. Ok (Inside position form, None)) told opens in
          let within : Stage × Option (Entry M) = (Inside a.0 form, None) in
          subst (λ (x : Stage × Option (Entry M)). IsNoHeader x.0) (ok_is within told a.2) tt

  headed_leads : (before : Option ℕ) (link : Link) (line : List ℕ) (told : Stage × Option (Entry M))
      → headed version before link line ≡ Ok told → told.1 ≡ None
  unfolding headed
  headed_leads before link line told e = by (numbered (codes "journal") line) (tailed (codes "journal") line) e
    where
      failed_not : (what : What) → ◌≡◌ {A = Result (Stage × Option (Entry M)) What} (Err what) (Ok told) → ⊥
      failed_not what g = cc

      plain : plain_headed {M = M} before link ≡ Ok told → told.1 ≡ None
      plain f = sym (ap (λ (x : Stage × Option (Entry M)). x.1) (plain_heads before link told f).1)

      sealed : (word : Option (List ℕ)) → sealed_headed {M = M} before link word ≡ Ok told → told.1 ≡ None
      sealed word f = sym (ap (λ (x : Stage × Option (Entry M)). x.1) (sealed_heads before link word told f).same)

      by : (o : Option ℕ) (tail : Option (ℕ × List ℕ)) → headed_by {M = M} version before link o tail ≡ Ok told → told.1 ≡ None
      by (Some n) tail f =
          elim (chosen (n == version) (plain_headed before link) _ (Ok told) f) [
            | inl h ↦ plain h.1
            | inr h ↦
                elim (chosen (n == version + 2) (sealed_headed before link None) (Err (header_fault version n)) (Ok told) h.1) [
                  | inl k ↦ sealed None k.1
                  | inr k ↦ absurd (failed_not (header_fault version n) k.1)
                ]
          ]
      by None (Some found) f =
          elim (chosen (found.0 == version + 2) (sealed_headed before link (Some found.1)) (Err (header_fault version found.0))
          (Ok told) f) [
            | inl k ↦ sealed (Some found.1) k.1
            | inr k ↦ absurd (failed_not (header_fault version found.0) k.1)
          ]
      by None None f = absurd (failed_not NoHeader f)

  pub line_leads : (summed : Summed) (stage : Stage) (line : List ℕ) (told : Stage × Option (Entry M))
      → line_read version meaning summed stage line ≡ Ok told
      → MayLead told.0 stage told.1
  unfolding line_read
  line_leads summed stage line told e =
      by stage (not_failed (list_any is_bad_byte line) BadBytes (line_step version meaning summed stage line) told e).1
    where
      by : (s : Stage) → line_step version meaning summed s line ≡ Ok told → MayLead told.0 s told.1
      by (Waiting before link) f = from_waiting told.0 before link told.1 (headed_leads before link line told f)
      by (Headed before form) f = from_headed told.0 before form told.1 (behind_leads form summed before line told f)
      by (Inside position form) f = from_inside told.0 position form told.1 (inside_leads form summed position line told f)

  -- ---- what a reader counts
  abbrev whole : List ℕ → Bool
  whole bytes = is_whole_text version meaning bytes

  -- These bytes are read so. Up to the first 0 each is kept, or of a header behind what is kept, or of half a line behind that. What
  -- is kept is the longest whole front, and has all entries.
  pub record Counted (front : List ℕ) (state : State) (entries : List (Entry M)) : Type 0 where
    pub is : reading version meaning (waiting_at 0) front ≡ Ok (state, entries)
    pub zeros : (rest : List ℕ) → printed (front ++ rest) ≡ cond state.over (printed front) (front ++ printed rest)
    pub all : state.kept + (state.header + length state.line) ≡ length (printed front)
    pub header : HeaderAt state.stage state.header
    pub longest_is : longest whole (printed front) (length (printed front)) ≡ state.kept
    pub last : State
    pub kept : reading version meaning (waiting_at 0) (take state.kept (printed front)) ≡ Ok (last, entries)

  pub nothing_counted : Counted [] (waiting_at 0) []
  unfolding reading
  nothing_counted = record {
    is = refl;
    zeros = λ rest. refl;
    all = refl;
    header = refl;
    longest_is = refl;
    last = waiting_at 0;
    kept = refl;
  }

  byte_more : (front : List ℕ) (b : ℕ) (state : State) (entries : List (Entry M)) (x : State × Option (Entry M))
      → reading version meaning (waiting_at 0) front ≡ Ok (state, entries) → byte_read version meaning state b ≡ Ok x
      → reading version meaning (waiting_at 0) (front ++ b ∷ []) ≡ Ok (x.0, entries ++ option_to_list x.1)
  unfolding reading
  byte_more front b state entries x is e =
      reading-append version meaning (waiting_at 0) front (b ∷ [])
      ∙ ap (on version meaning (b ∷ [])) is
      ∙ ap (λ (r : Result (State × Option (Entry M)) What). behind entries
      (r >>= λ first. behind (option_to_list first.1) (reading version meaning first.0 []))) e
      ∙ ap (λ (es : List (Entry M)). placed x.0 (entries ++ es)) (append-nil (option_to_list x.1))

  -- the bytes behind a 0 aren't read
  over_more : (front : List ℕ) (b : ℕ) (state next : State) (entries : List (Entry M)) → Counted front state entries
      → printed (front ++ b ∷ []) ≡ printed front → ((rest : List ℕ) → printed (front ++ b ∷ rest) ≡ printed front)
      → next ≡ record state { over = true } → byte_read version meaning state b ≡ Ok (next, None)
      → Counted (front ++ b ∷ []) next entries
  over_more front b state next entries h same zeros is e =
      subst (λ (s : State). byte_read version meaning state b ≡ Ok (s, None) → Counted (front ++ b ∷ []) s entries) (sym is)
      (λ (f : byte_read version meaning state b ≡ Ok (record state { over = true }, None)). record {
        is = byte_more front b state entries (record state { over = true }, None) h.is f
            ∙ ap (λ (es : List (Entry M)). placed (record state { over = true }) es) (append-nil entries);
        zeros = λ rest. ap printed (append_assoc front (b ∷ []) rest) ∙ zeros rest ∙ sym same;
        all = h.all ∙ ap length (sym same);
        header = h.header;
        longest_is = ap (λ t. longest whole t (length t)) same ∙ h.longest_is;
        last = h.last;
        kept = ap (λ t. reading version meaning (waiting_at 0) (take state.kept t)) same ∙ h.kept;
      }) e

  -- a byte before the first 0 is read
  text_more : (front : List ℕ) (b : ℕ) (state : State) (entries : List (Entry M)) (x : State × Option (Entry M))
      → Counted front state entries
      → state.over ≡ false → (b == 0) ≡ false → byte_read version meaning state b ≡ Ok x → x.0.over ≡ false
      → x.0.kept + (x.0.header + length x.0.line) ≡ suc (length (printed front)) → HeaderAt x.0.stage x.0.header
      → (is_whole_at x.0 ≡ false → (x.0.kept ≡ state.kept) × (x.1 ≡ None))
      → Counted (front ++ b ∷ []) x.0 (entries ++ option_to_list x.1)
  text_more front b state entries x h runs some e runs_on all header still = by (is_whole_at x.0) refl
    where
      text : List ℕ
      text = front ++ b ∷ []

      now : reading version meaning (waiting_at 0) text ≡ Ok (x.0, entries ++ option_to_list x.1)
      now = byte_more front b state entries x h.is e

      front_is : printed front ≡ front
      front_is =
          ap printed (sym (append-nil front)) ∙ h.zeros [] ∙ ap (λ t. cond t (printed front) (front ++ [])) runs
          ∙ append-nil front

      after : (rest : List ℕ) → printed (front ++ b ∷ rest) ≡ front ++ b ∷ printed rest
      after rest =
          h.zeros (b ∷ rest) ∙ ap (λ t. cond t (printed front) (front ++ printed (b ∷ rest))) runs
          ∙ ap (λ t. front ++ cond t [] (b ∷ printed rest)) some

      text_is : printed text ≡ text
      text_is = after []

      zeros : (rest : List ℕ) → printed (text ++ rest) ≡ cond x.0.over (printed text) (text ++ printed rest)
      zeros rest =
          ap printed (append_assoc front (b ∷ []) rest) ∙ after rest ∙ sym (append_assoc front (b ∷ []) (printed rest))
          ∙ ap (λ t. cond t (printed text) (text ++ printed rest)) (sym runs_on)

      long : length text ≡ suc (length (printed front))
      long = omega (arith, length-append front (b ∷ []), ap length front_is)

      all_is : x.0.kept + (x.0.header + length x.0.line) ≡ length (printed text)
      all_is = all ∙ sym long ∙ ap length (sym text_is)

      longest_text : (v : Bool) → is_whole_at x.0 ≡ v
          → longest whole (printed text) (length (printed text)) ≡ cond v (length text) state.kept
      longest_text v is =
          ap (λ t. longest whole t (length t)) text_is
          ∙ longest_more whole front b v (ap (λ (r : Read M). is_whole_read r) now ∙ is)
          ∙ ap (λ t. cond v (length text) (longest whole t (length t))) (sym front_is)
          ∙ ap (λ m. cond v (length text) m) h.longest_is

      by : (v : Bool) → is_whole_at x.0 ≡ v → Counted text x.0 (entries ++ option_to_list x.1)
      by true is =
          let parts = and_parts (length x.0.line == 0) (x.0.header == 0) is in
          let kept : length text ≡ x.0.kept =
          omega (arith, all, long, eqb-true (length x.0.line) 0 parts.0, eqb-true x.0.header 0 parts.1) in
          record {
            is = now;
            zeros = zeros;
            all = all_is;
            header = header;
            longest_is = longest_text true is ∙ kept;
            last = x.0;
            kept = ap (λ t. reading version meaning (waiting_at 0) (take x.0.kept t)) text_is
                ∙ ap (λ t. reading version meaning (waiting_at 0) t) (take_all x.0.kept text (omega (arith, kept))) ∙ now;
          }
      by false is =
          let same = still is in
          let below : state.kept ≤ length front = omega (arith, h.all, ap length front_is) in
          let front_kept : take x.0.kept (printed text) ≡ take state.kept (printed front) =
          ap (λ n. take n (printed text)) same.0 ∙ ap (take state.kept) text_is ∙ take-append-le state.kept front (b ∷ []) below
          ∙ ap (take state.kept) (sym front_is) in
          let none : entries ++ option_to_list x.1 ≡ entries = ap (λ (o : Option (Entry M)). entries ++ option_to_list o) same.1
          ∙ append-nil entries in
          record {
            is = now;
            zeros = zeros;
            all = all_is;
            header = header;
            longest_is = longest_text false is ∙ sym same.0;
            last = h.last;
            kept = ap (λ t. reading version meaning (waiting_at 0) t) front_kept ∙ h.kept
                ∙ ap (λ (es : List (Entry M)). placed h.last es) (sym none);
          }

  -- a header is read only where none is the last line
  no_header_yet : (before : Option ℕ) (form : Form) (old : Stage) (header : ℕ) (entry : Option (Entry M)) → HeaderAt old header
      → MayLead (Headed before form) old entry → (header ≡ 0) × (entry ≡ None)
  no_header_yet before form (Waiting end link) header entry at leads = (at, leads)
  no_header_yet before form (Headed end other) header entry at leads = absurd leads
  no_header_yet before form (Inside position other) header entry at leads = absurd leads

  few_bytes : (n m : ℕ) → n ≡ m → m < 2 ^ 64 → n % 2 ^ 64 ≡ m
  few_bytes n m same few = omega (arith, same, few)

  -- a line ends
  line_more : (front : List ℕ) (b : ℕ) (state : State) (entries : List (Entry M)) (x : State × Option (Entry M))
      → Counted front state entries
      → suc (length (printed front)) < 2 ^ 64 → state.over ≡ false → (b == 0) ≡ false → byte_read version meaning state b ≡ Ok x
      → turned version meaning state ≡ Ok x → Counted (front ++ b ∷ []) x.0 (entries ++ option_to_list x.1)
  unfolding turned
  line_more front b state entries x h few runs some e turns =
      let a = bind_ok (line_read version meaning state.summed state.stage state.line) (turning_to state) x turns in
      subst (λ (y : State × Option (Entry M)). byte_read version meaning state b ≡ Ok y → Counted (front ++ b ∷ []) y.0
      (entries ++ option_to_list y.1))
      (ok_is (turned_to state a.0) x a.2) (by a.0.0 a.0.1 (line_leads state.summed state.stage state.line a.0 a.1)) e
    where
      by : (stage : Stage) (entry : Option (Entry M)) → MayLead stage state.stage entry
          → byte_read version meaning state b ≡ Ok (turned_to state (stage, entry))
          → Counted (front ++ b ∷ []) (turned_to state (stage, entry)).0 (entries ++ option_to_list entry)
      by (Headed before form) entry leads f =
          let none = no_header_yet before form state.stage state.header entry h.header leads in
          text_more front b state entries (turned_to state (Headed before form, entry)) h runs some f runs
          (omega (arith, h.all, none.0)) tt (λ _. (refl, none.1))
      by (Waiting before link) entry leads f =
          text_more front b state entries (turned_to state (Waiting before link, entry)) h runs some f runs
          (omega (
            arith,
            few_bytes (state.kept + (state.header + (length state.line + 1))) (suc (length (printed front)))
                (omega (arith, h.all)) few,
          ))
          refl (λ fails. absurd (true≢false fails))
      by (Inside position form) entry leads f =
          text_more front b state entries (turned_to state (Inside position form, entry)) h runs some f runs
          (omega (
            arith,
            few_bytes (state.kept + (state.header + (length state.line + 1))) (suc (length (printed front)))
                (omega (arith, h.all)) few,
          ))
          refl (λ fails. absurd (true≢false fails))

  -- a byte of a line
  held_more : (front : List ℕ) (b : ℕ) (state : State) (entries : List (Entry M)) (x : State × Option (Entry M))
      → Counted front state entries
      → state.over ≡ false → (b == 0) ≡ false → byte_read version meaning state b ≡ Ok x
      → (record state { line = state.line ++ b ∷ [] }, None) ≡ x → Counted (front ++ b ∷ []) x.0 (entries ++ option_to_list x.1)
  held_more front b state entries x h runs some e is =
      subst (λ (y : State × Option (Entry M)). byte_read version meaning state b ≡ Ok y → Counted (front ++ b ∷ []) y.0
      (entries ++ option_to_list y.1)) is
      (λ f. text_more front b state entries (record state { line = state.line ++ b ∷ [] }, None) h runs some f runs
      (omega (arith, h.all, length-append state.line (b ∷ []))) h.header (λ _. (refl, refl))) e

  -- each byte is counted
  pub counts_byte : (front : List ℕ) (b : ℕ) (state : State) (entries : List (Entry M)) (x : State × Option (Entry M))
      → Counted front state entries
      → suc (length front) < 2 ^ 64 → byte_read version meaning state b ≡ Ok x
      → Counted (front ++ b ∷ []) x.0 (entries ++ option_to_list x.1)
  counts_byte front b state entries x h few e = by state.over (b == 0) refl refl e
    where
      none : (next : State) → (next, None) ≡ x → Counted (front ++ b ∷ []) next entries
          → Counted (front ++ b ∷ []) x.0 (entries ++ option_to_list x.1)
      none next is c =
          subst (λ (y : State × Option (Entry M)). Counted (front ++ b ∷ []) y.0 (entries ++ option_to_list y.1)) is
          (subst (λ (es : List (Entry M)). Counted (front ++ b ∷ []) next es) (sym (append-nil entries)) c)

      kept_line : (t : Bool) → no_entry (if t then Ok (record state { line = state.line ++ b ∷ [] }) else Err TooLong) ≡ Ok x
          → (record state { line = state.line ++ b ∷ [] }, None) ≡ x
      kept_line true f = ok_is (record state { line = state.line ++ b ∷ [] }, None) x f
      kept_line false f = absurd cc

      by : (done ends : Bool) → state.over ≡ done → (b == 0) ≡ ends
          → (if done then Ok (state, None) else if ends then Ok (record state { over = true }, None)
          else if b == 10 then turned version meaning state else no_entry (held state b)) ≡ Ok x
          → Counted (front ++ b ∷ []) x.0 (entries ++ option_to_list x.1)
      by true ends over is f =
          let same = ok_is (state, None) x f in
          let behind_it = λ (rest : List ℕ). h.zeros (b ∷ rest)
          ∙ ap (λ t. cond t (printed front) (front ++ printed (b ∷ rest))) over in
          none state same
          (over_more front b state state entries h (behind_it []) behind_it (ap (λ t. record state { over = t }) over)
          (e ∙ ap (λ (y : State × Option (Entry M)). Ok y) (sym same)))
      by false true runs is f =
          let same = ok_is (record state { over = true }, None) x f in
          let behind_it = λ (rest : List ℕ). h.zeros (b ∷ rest)
          ∙ ap (λ t. cond t (printed front) (front ++ printed (b ∷ rest))) runs
          ∙ ap (λ t. front ++ cond t [] (b ∷ printed rest)) is in
          let front_is = sym (ap printed (sym (append-nil front)) ∙ h.zeros []
          ∙ ap (λ t. cond t (printed front) (front ++ [])) runs) in
          none (record state { over = true }) same
          (over_more front b state (record state { over = true }) entries h (behind_it [] ∙ front_is)
          (λ rest. behind_it rest ∙ front_is) refl
          (e ∙ ap (λ (y : State × Option (Entry M)). Ok y) (sym same)))
      by false false runs is f =
          elim (chosen (b == 10) (turned version meaning state) (no_entry (held state b)) (Ok x) f) [
            | inl k ↦ line_more front b state entries x h (omega (arith, few, fewer runs)) runs is e k.1
            | inr k ↦ held_more front b state entries x h runs is e (kept_line (nat_lt (length state.line) most) k.1)
          ]
        where
          fewer : state.over ≡ false → length (printed front) ≤ length front
          fewer runs =
              let is = ap printed (sym (append-nil front)) ∙ h.zeros [] ∙ ap (λ t. cond t (printed front) (front ++ [])) runs
              ∙ append-nil front in
              omega (arith, ap length is)

  counts_on : (rest front : List ℕ) (state last : State) (entries given : List (Entry M)) → Counted front state entries
      → reading version meaning state rest ≡ Ok (last, given) → length front + length rest < 2 ^ 64
      → Counted (front ++ rest) last (entries ++ given)
  unfolding reading
  counts_on [] front state last entries given h is few =
      let same = ok_is (state, []) (last, given) is in
      subst (λ t. Counted t last (entries ++ given)) (sym (append-nil front))
      (subst (λ (x : State × List (Entry M)). Counted front x.0 (entries ++ x.1)) same
      (subst (λ (es : List (Entry M)). Counted front state es) (sym (append-nil entries)) h))
  counts_on (b ∷ bs) front state last entries given h is few =
      let first = bind_ok (byte_read version meaning state b)
      (λ x. behind (option_to_list x.1) (reading version meaning x.0 bs)) (last, given) is in
      let later = behind_ok (option_to_list first.0.1) (reading version meaning first.0.0 bs) (last, given) first.2 in
      let next = counts_byte front b state entries first.0 h (omega (arith, few)) first.1 in
      let all = counts_on bs (front ++ b ∷ []) first.0.0 later.0.0 (entries ++ option_to_list first.0.1) later.0.1 next later.1
      (omega (arith, few, length-append front (b ∷ []))) in
      subst (λ t. Counted t last (entries ++ given)) (append_assoc front (b ∷ []) bs)
      (subst (λ (x : State × List (Entry M)). Counted ((front ++ b ∷ []) ++ bs) x.0 (entries ++ x.1)) later.2
      (subst (λ (es : List (Entry M)). Counted ((front ++ b ∷ []) ++ bs) later.0.0 es)
      (append_assoc entries (option_to_list first.0.1) later.0.1) all))

  -- recovery keeps as many bytes as were counted, and these have the same entries
  pub recovers_counted : (c : List ℕ) (state : State) (entries : List (Entry M)) → length c < 2 ^ 64
      → reading version meaning (waiting_at 0) c ≡ Ok (state, entries)
      → (length (recovered whole c) ≡ state.kept)
      × ((last : State) × (reading version meaning (waiting_at 0) (recovered whole c) ≡ Ok (last, entries)))
  recovers_counted c state entries few is =
      let h = counts_on c [] (waiting_at 0) state [] entries nothing_counted is (omega (arith, few)) in
      let kept_is : recovered whole c ≡ take state.kept (printed c) = ap (λ n. take n (printed c)) h.longest_is in (
        ap length kept_is ∙ taken_length state.kept (printed c) (omega (arith, h.all)),
        (h.last, ap (λ t. reading version meaning (waiting_at 0) t) kept_is ∙ h.kept),
      )
