-- What is kept of a file's bytes.
use Rattle.std.proofs.Common.{◌≡◌, ℕ, zero, suc, ◌≤◌, Bool, true, false, ◌==◌, cond, List, [], ◌∷◌, length, take, position}
use Rattle.std.proofs.Common.{Option, Some, None, refl, sym, ◌∙◌, ap, subst, arith}
use Rattle.std.specs.Option.{option_map}
use Rattle.std.proofs.lemmas.Option.{none-some, same_Some}
use Rattle.cml_grammar.proofs.ListLemmas.{position-cons}
use Rattle.cml_journal.specs.{Halt, HaltTells, IsFaultyJournal, Progress, What, printed}
use Rattle.cml_journal.specs.declared.fault.What.TheVariants as fault
use Rattle.cml_journal.specs.declared.stop.Halt.TheVariants as halt
use Rattle.cml_store.specs.Recovery.{longest, recovered}
use Rattle.cml_file.specs.{IsCause, Stops}
use Rattle.cml_file.specs.declared.refused.Refused.{Refused}
use Rattle.cml_file.specs.declared.refused.Refused.TheVariants.{NoJournal, OtherVersion, OtherMessages, BeginsLater, Changed}
use Rattle.cml_file.specs.declared.refused.Refused.TheVariants.{Unlawful, NoMemory}

abbrev pub first_zero : List ℕ → Option ℕ
first_zero bytes = position (λ b. b == 0) bytes

pub no_zero : (bytes : List ℕ) → first_zero bytes ≡ None → printed bytes ≡ bytes
no_zero [] h = refl
no_zero (b ∷ bs) h = by (b == 0) refl (first_zero bs) refl (sym (position-cons (λ b. b == 0) b bs) ∙ h) (no_zero bs)
  where
    by : (t : Bool) → (b == 0) ≡ t → (o : Option ℕ) → first_zero bs ≡ o → cond t (Some 0) (option_map suc o) ≡ None
        → (first_zero bs ≡ None → printed bs ≡ bs) → printed (b ∷ bs) ≡ b ∷ bs
    by true is o found f later = absurd (none-some 0 (sym f))
    by false is None found f later = ap (λ t. cond t [] (b ∷ printed bs)) is ∙ ap (λ l. b ∷ l) (later found)
    by false is (Some i) found f later = absurd (none-some (suc i) (sym f))

pub zero_parts : (bytes : List ℕ) (i : ℕ) → first_zero bytes ≡ Some i → (i ≤ length bytes) × (printed bytes ≡ take i bytes)
zero_parts [] i h = absurd (none-some i h)
zero_parts (b ∷ bs) i h = by (b == 0) refl (first_zero bs) refl (sym (position-cons (λ b. b == 0) b bs) ∙ h) (zero_parts bs)
  where
    by : (t : Bool) → (b == 0) ≡ t → (o : Option ℕ) → first_zero bs ≡ o → cond t (Some 0) (option_map suc o) ≡ Some i
        → ((j : ℕ) → first_zero bs ≡ Some j → (j ≤ length bs) × (printed bs ≡ take j bs))
        → (i ≤ length (b ∷ bs)) × (printed (b ∷ bs) ≡ take i (b ∷ bs))
    by true is o found f later =
        subst (λ n. (n ≤ length (b ∷ bs)) × (printed (b ∷ bs) ≡ take n (b ∷ bs))) (same_Some 0 i f)
        (omega arith, ap (λ t. cond t [] (b ∷ printed bs)) is)
    by false is None found f later = absurd (none-some i f)
    by false is (Some j) found f later =
        let parts = later j found in
        subst (λ n. (n ≤ length (b ∷ bs)) × (printed (b ∷ bs) ≡ take n (b ∷ bs))) (same_Some (suc j) i f)
        (omega (arith, parts.0), ap (λ t. cond t [] (b ∷ printed bs)) is ∙ ap (λ l. b ∷ l) parts.1)

-- the bytes before the first 0 have no 0
pub printed_again : (bytes : List ℕ) → printed (printed bytes) ≡ printed bytes
printed_again [] = refl
printed_again (b ∷ bs) = by (b == 0) refl (printed_again bs)
  where
    by : (t : Bool) → (b == 0) ≡ t → printed (printed bs) ≡ printed bs
        → printed (cond t [] (b ∷ printed bs)) ≡ cond t [] (b ∷ printed bs)
    by true is later = refl
    by false is later = ap (λ t. cond t [] (b ∷ printed (printed bs))) is ∙ ap (λ l. b ∷ l) later

-- a front of them is one of all bytes
pub take_printed : (bytes : List ℕ) (n : ℕ) → n ≤ length (printed bytes) → take n (printed bytes) ≡ take n bytes
take_printed bytes zero le = refl
take_printed [] (suc n) le = refl
take_printed (b ∷ bs) (suc n) le = by (b == 0) le (take_printed bs n)
  where
    by : (t : Bool) → suc n ≤ length (cond t [] (b ∷ printed bs)) → (n ≤ length (printed bs) → take n (printed bs) ≡ take n bs)
        → take (suc n) (cond t [] (b ∷ printed bs)) ≡ b ∷ take n bs
    by true le later = absurd (omega (arith, le))
    by false le later = ap (λ l. b ∷ l) (later (omega (arith, le)))

-- recovery keeps the same of the bytes before the first 0
pub same_recovered : (whole : List ℕ → Bool) (bytes : List ℕ) → recovered whole (printed bytes) ≡ recovered whole bytes
same_recovered whole bytes = ap (λ (t : List ℕ). take (longest whole t (length t)) t) (printed_again bytes)

-- no more than all is kept
printed_short : (bytes : List ℕ) → length (printed bytes) ≤ length bytes
printed_short [] = omega arith
printed_short (b ∷ bs) = by (b == 0) (printed_short bs)
  where
    by : (t : Bool) → length (printed bs) ≤ length bs → length (cond t [] (b ∷ printed bs)) ≤ length (b ∷ bs)
    by true later = omega arith
    by false later = omega (arith, later)

take_short : (n : ℕ) (xs : List ℕ) → length (take n xs) ≤ length xs
take_short zero xs = omega arith
take_short (suc n) [] = omega arith
take_short (suc n) (x ∷ xs) = omega (arith, take_short n xs)

pub recovered_within : (whole : List ℕ → Bool) (bytes : List ℕ) → length (recovered whole bytes) ≤ length bytes
recovered_within whole bytes =
    omega (arith, take_short (longest whole (printed bytes) (length (printed bytes))) (printed bytes), printed_short bytes)

take_length : (n : ℕ) (xs : List ℕ) → n ≤ length xs → length (take n xs) ≡ n
take_length zero xs le = refl
take_length (suc n) [] le = absurd (omega (arith, le))
take_length (suc n) (x ∷ xs) le = ap suc (take_length n xs (omega (arith, le)))

-- what is kept of the text is a front of all bytes
pub same_front : (bytes text : List ℕ) (n m : ℕ) → text ≡ printed bytes → n ≤ length text → m ≡ length (take n text)
    → take n text ≡ take m bytes
same_front bytes text n m is within long =
    ap (take n) is ∙ take_printed bytes n (subst (λ (t : List ℕ). n ≤ length t) is within)
    ∙ ap (λ (k : ℕ). take k bytes) (sym (long ∙ take_length n text within))

pub same_length : (whole : List ℕ → Bool) (bytes text : List ℕ) (n m : ℕ) → text ≡ printed bytes → n ≡ length (recovered whole text)
    → n ≤ length text → m ≡ length (take n text) → m ≡ length (recovered whole bytes)
same_length whole bytes text n m is kept within long =
    long ∙ take_length n text within ∙ kept ∙ ap (λ (t : List ℕ). length (recovered whole t)) is
    ∙ ap length (same_recovered whole bytes)

module _ {M : Type 0} (version : ℕ) (meaning : List ℕ → Option M) where
  -- a check that halts in a text tells why that is refused
  pub stops : (text : List ℕ) (new : Progress M) (halted : Halt) (told : Refused) → HaltTells version meaning text new halted
      → IsCause halted told → Stops version meaning text told
  stops text new halt.NoMemory NoJournal tells cause = absurd cause
  stops text new halt.NoMemory OtherVersion tells cause = absurd cause
  stops text new halt.NoMemory OtherMessages tells cause = absurd cause
  stops text new halt.NoMemory BeginsLater tells cause = absurd cause
  stops text new halt.NoMemory (Changed number fault) tells cause = absurd cause
  stops text new halt.NoMemory (Unlawful position) tells cause = absurd cause
  stops text new halt.NoMemory NoMemory tells cause = tt
  stops text new (halt.Unlawful at) NoJournal tells cause = absurd cause
  stops text new (halt.Unlawful at) OtherVersion tells cause = absurd cause
  stops text new (halt.Unlawful at) OtherMessages tells cause = absurd cause
  stops text new (halt.Unlawful at) BeginsLater tells cause = absurd cause
  stops text new (halt.Unlawful at) (Changed number fault) tells cause = absurd cause
  stops text new (halt.Unlawful at) (Unlawful position) tells cause =
      subst (λ (n : ℕ). Stops version meaning text (Unlawful n)) (sym cause) (tells.entry, tells.expected, tells.is)
  stops text new (halt.Unlawful at) NoMemory tells cause = absurd cause
  stops text new (halt.Fault line what) NoJournal tells cause =
      (what, subst (λ (n : ℕ). IsFaultyJournal version meaning text n what) cause tells.is)
  stops text new (halt.Fault line what) OtherVersion tells cause =
      subst (λ (n : ℕ). IsFaultyJournal version meaning text n fault.OtherVersion) cause.0
      (subst (λ (w : What). IsFaultyJournal version meaning text line w) cause.1 tells.is)
  stops text new (halt.Fault line what) OtherMessages tells cause =
      subst (λ (n : ℕ). IsFaultyJournal version meaning text n fault.OtherType) cause.0
      (subst (λ (w : What). IsFaultyJournal version meaning text line w) cause.1 tells.is)
  stops text new (halt.Fault line what) BeginsLater tells cause =
      subst (λ (n : ℕ). IsFaultyJournal version meaning text n fault.Gap) cause.0
      (subst (λ (w : What). IsFaultyJournal version meaning text line w) cause.1 tells.is)
  stops text new (halt.Fault line what) (Changed number fault) tells cause =
      subst (λ (n : ℕ). IsFaultyJournal version meaning text n fault) (sym cause.0)
      (subst (λ (w : What). IsFaultyJournal version meaning text line w) (sym cause.1) tells.is)
  stops text new (halt.Fault line what) (Unlawful position) tells cause = absurd cause
  stops text new (halt.Fault line what) NoMemory tells cause = absurd cause
