-- What recovery keeps of such bytes.
use Rattle.std.proofs.Common.{◌≡◌, ◌⊎◌, inl, inr, ⊎_elim, ℕ, zero, suc, ◌<◌, ◌≤◌, Bool, true, false, List, [], ◌∷◌, ◌++◌, length, get_or, take, refl, sym, ◌∙◌, ap, arith, length-take, get_or-take, cond, nat_eq}
use Rattle.std.proofs.lemmas.List.{ext_get_or}
use Rattle.std.proofs.lemmas.Bool.{cases_lt, eqb-true, eqb-false}
use Rattle.std.proofs.lemmas.Grind.{common_steps}
use Rattle.cml_store.specs.Recovery.{printed, IsPrinted, longest, recovered}
use Rattle.cml_store.proofs.Spotty.{Spotty}

differs : (b : ℕ) → nat_eq b 0 ≡ false → b ≡ 0 → ⊥
differs b fails = eqb-false b 0 fails

same : (b : ℕ) → nat_eq b 0 ≡ true → b ≡ 0
same b holds = eqb-true b 0 holds

clash : true ≡ false → ⊥
clash e = cc

pub printed_append : (a b : List ℕ) → IsPrinted a → IsPrinted b → IsPrinted (a ++ b)
printed_append [] b p q = q
printed_append (x ∷ a) b p q = (p.0, printed_append a b p.1 q)

pub printed_take : (n : ℕ) (a : List ℕ) → IsPrinted a → IsPrinted (take n a)
printed_take zero [] p = p
printed_take zero (x ∷ a) p = tt
printed_take (suc n) [] p = p
printed_take (suc n) (x ∷ a) p = (p.0, printed_take n a p.1)

behind : (b : ℕ) (c p : List ℕ) → ((i : ℕ) → i < length p → get_or p i 0 ≡ get_or c i 0) → (i : ℕ) → i < length (b ∷ p)
    → get_or (b ∷ p) i 0 ≡ get_or (b ∷ c) i 0
behind b c p rest zero h = refl
behind b c p rest (suc i) h = rest i (omega (arith, h))

-- the bytes before the first 0 are a front of what is read
pub printed_of : (c : List ℕ) (i : ℕ) → i < length (printed c) → get_or (printed c) i 0 ≡ get_or c i 0
printed_of [] i h = refl
printed_of (b ∷ c) i h =
    elim (nat_eq b 0) as (λ v. i < length (cond v [] (b ∷ printed c)) → get_or (cond v [] (b ∷ printed c)) i 0 ≡ get_or (b ∷ c) i 0) [
      | true ↦ λ none. absurd (omega (arith, none))
      | false ↦ λ some. behind b c (printed c) (printed_of c) i some
    ] h

-- where each byte is the text's or 0, they are a front of the text
pub printed_front : (text c : List ℕ) → IsPrinted text → ((i : ℕ) → (get_or c i 0 ≡ get_or text i 0) ⊎ (get_or c i 0 ≡ 0))
    → printed c ≡ take (length (printed c)) text
printed_front text [] is each = refl
printed_front [] (b ∷ c) is each =
    elim (nat_eq b 0) as (λ v. nat_eq b 0 ≡ v → cond v [] (b ∷ printed c) ≡ take (length (cond v [] (b ∷ printed c))) []) [
      | true ↦ λ _. refl
      | false ↦ λ fails. absurd (differs b fails (⊎_elim (λ (e : b ≡ 0). e) (λ (z : b ≡ 0). z) (each 0)))
    ] refl
printed_front (a ∷ text) (b ∷ c) is each =
    elim (nat_eq b 0) as (λ v. nat_eq b 0 ≡ v → cond v [] (b ∷ printed c) ≡ take (length (cond v [] (b ∷ printed c))) (a ∷ text)) [
      | true ↦ λ _. refl
      | false ↦ λ fails.
          let there : b ≡ a = ⊎_elim (λ (e : b ≡ a). e) (λ (z : b ≡ 0). absurd (differs b fails z)) (each 0) in
          let rest = printed_front text c is.1 (λ i. each (suc i)) in
          ap (λ x. x ∷ printed c) there ∙ ap (λ l. a ∷ l) rest
    ] refl

-- and they have all that is sure
pub printed_long : (s : ℕ) (text c : List ℕ) → IsPrinted text → s ≤ length text → s ≤ length c
    → ((i : ℕ) → i < s → get_or c i 0 ≡ get_or text i 0) → s ≤ length (printed c)
printed_long zero text c is le lc front = omega arith
printed_long (suc s) [] c is le lc front = absurd (omega (arith, le))
printed_long (suc s) (a ∷ text) [] is le lc front = absurd (omega (arith, lc))
printed_long (suc s) (a ∷ text) (b ∷ c) is le lc front =
    elim (nat_eq b 0) as (λ v. nat_eq b 0 ≡ v → suc s ≤ length (cond v [] (b ∷ printed c))) [
      | true ↦ λ holds. absurd (is.0 (sym (front 0 (omega arith)) ∙ same b holds))
      | false ↦ λ fails.
          let rest = printed_long s text c is.1 (omega (arith, le)) (omega (arith, lc)) (λ i h. front (suc i) (omega (arith, h))) in
          omega (arith, rest)
    ] refl

pub take_take : (k n : ℕ) (text : List ℕ) → k ≤ n → take k (take n text) ≡ take k text
take_take k n text le = grind (arith, common_steps)

pub taken_length : (n : ℕ) (text : List ℕ) → n ≤ length text → length (take n text) ≡ n
taken_length n text le = omega (arith, length-take n text)

each_byte : (s k : ℕ) (text c : List ℕ) → Spotty s k text c → (i : ℕ) → (get_or c i 0 ≡ get_or text i 0) ⊎ (get_or c i 0 ≡ 0)
each_byte s k text c sp i =
    ⊎_elim (λ (here : (i < k) × (get_or c i 0 ≡ get_or text i 0)). inl here.1) (λ (z : get_or c i 0 ≡ 0). inr z) (sp.each i)

-- what is read up to the first 0 is a front of the text
pub read_front : (s k : ℕ) (text c : List ℕ) → IsPrinted text → Spotty s k text c → printed c ≡ take (length (printed c)) text
read_front s k text c is sp = printed_front text c is (each_byte s k text c sp)

module _ (whole : List ℕ → Bool) where
  -- a whole front is no longer than the longest
  pub at_longest : (b n : ℕ) (text : List ℕ) → b ≤ n → whole (take b text) ≡ true → b ≤ longest whole text n
  at_longest b zero text le holds = omega (arith, le)
  at_longest b (suc n) text le holds =
      elim (whole (take (suc n) text)) as (λ v. whole (take (suc n) text) ≡ v → b ≤ cond v (suc n) (longest whole text n)) [
        | true ↦ λ _. le
        | false ↦ λ fails. ⊎_elim
            (λ (below : b < suc n). at_longest b n text (omega (arith, below)) holds)
            (λ (top : suc n ≤ b). let is : b ≡ suc n = omega (arith, le, top) in absurd
            (clash (sym holds ∙ ap (λ k. whole (take k text)) is ∙ fails)))
            (cases_lt b (suc n))
      ] refl

  longest_within : (n : ℕ) (text : List ℕ) → longest whole text n ≤ n
  longest_within zero text = omega arith
  longest_within (suc n) text =
      elim (whole (take (suc n) text)) as (λ v. cond v (suc n) (longest whole text n) ≤ suc n) [
        | true ↦ omega arith
        | false ↦ let rest = longest_within n text in omega (arith, rest)
      ]

  longest_whole : (n : ℕ) (text : List ℕ) → whole [] ≡ true → whole (take (longest whole text n) text) ≡ true
  longest_whole zero text none = none
  longest_whole (suc n) text none =
      elim (whole (take (suc n) text)) as (λ v. whole (take (suc n) text) ≡ v → whole
      (take (cond v (suc n) (longest whole text n)) text) ≡ true) [
        | true ↦ λ holds. holds
        | false ↦ λ _. longest_whole n text none
      ] refl

  -- what recovery keeps of a text
  pub record Keeps (s : ℕ) (text c : List ℕ) : Type 0 where
    pub many : ℕ
    pub sure : s ≤ many
    pub within : many ≤ length text
    pub is : recovered whole c ≡ take many text
    pub long : length (recovered whole c) ≡ many
    pub whole_still : whole (take many text) ≡ true
    pub few : length (printed c) ≤ length text

  pub keeps : (s k : ℕ) (text c : List ℕ) → whole [] ≡ true → IsPrinted text → s ≤ length text → whole (take s text) ≡ true
      → Spotty s k text c → Keeps s text c
  keeps s k text c none is_printed le is_whole sp =
      let p = printed c in
      let front : p ≡ take (length p) text = read_front s k text c is_printed sp in
      let long : s ≤ length p = printed_long s text c is_printed le sp.long sp.front in
      let n = longest whole p (length p) in
      let below : n ≤ length p = longest_within (length p) p in
      let fits : length p ≤ length text = omega (arith, ap length front, length-take (length p) text) in
      let taken : (m : ℕ) → m ≤ length p → take m p ≡ take m text = λ m h. ap (take m) front ∙ take_take m (length p) text h in
      let same_n : take n p ≡ take n text = taken n below in
      record {
        many = n;
        sure = at_longest s (length p) p long (ap whole (taken s long) ∙ is_whole);
        within = omega (arith, below, fits);
        is = same_n;
        long = ap length same_n ∙ taken_length n text (omega (arith, below, fits));
        whole_still = ap whole (sym same_n) ∙ longest_whole (length p) p none;
        few = fits;
      }

  -- garbage behind what is sure
  pub behind_sure : (text c : List ℕ) (told : ℕ) → told ≤ length text → told ≤ length c → take told c ≡ take told text
      → IsPrinted text → whole (take told text) ≡ true
      → (told ≤ length (recovered whole c)) × (take told (recovered whole c) ≡ take told text)
  behind_sure text c told le lc same is_printed is_whole =
      let p = printed c in
      let long : told ≤ length p = printed_long told text c is_printed le lc
      (λ i h. sym (get_or-take told c i 0 h) ∙ ap (λ l. get_or l i 0) same ∙ get_or-take told text i 0 h) in
      let front : take told p ≡ take told c = ext_get_or 0 (take told p) (take told c)
      (omega (arith, long, lc, length-take told p, length-take told c))
      (λ i h. let below : i < told = omega (arith, h, length-take told p) in
      get_or-take told p i 0 below ∙ printed_of c i (omega (arith, below, long)) ∙ sym (get_or-take told c i 0 below)) in
      let n = longest whole p (length p) in
      let more : told ≤ n = at_longest told (length p) p long (ap whole (front ∙ same) ∙ is_whole) in
      let within : n ≤ length p = longest_within (length p) p in
      (omega (arith, more, within, length-take n p), take_take told n p more ∙ front ∙ same)
