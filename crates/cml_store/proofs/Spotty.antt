-- Bytes of which a front is sure to be a text's; each later one is the text's too, or 0; and from some place on all are 0.
use Rattle.std.proofs.Common.{◌≡◌, ◌⊎◌, inl, inr, ⊎_elim, ℕ, ◌+◌, ◌-◌, ◌<◌, ◌≤◌, min, max, Bool, true, false, List, [], ◌++◌, length, get_or, take, drop, sym, ◌∙◌, ap, subst, arith, length-append, length-take, length-drop, get_or-drop, get_or-take}
use Rattle.std.proofs.lemmas.List.{get_or_append_left, get_or_past}
use Rattle.std.proofs.lemmas.Bool.{cases_lt}
use Rattle.cml_store.specs.declared.step.Step.{Step}
use Rattle.cml_store.specs.declared.step.Step.TheVariants.{Nothing, Cut, Grow, Store, Sync, SyncFolder}
use Rattle.cml_store.specs.Disk.{Call, IsTorn, IsWritten, IsSized, LeftOf, calls_of, MayEnd}

pub record Spotty (sure most : ℕ) (text c : List ℕ) : Type 0 where
  pub long : sure ≤ length c
  pub front : (i : ℕ) → i < sure → get_or c i 0 ≡ get_or text i 0
  pub each : (i : ℕ) → ((i < most) × (get_or c i 0 ≡ get_or text i 0)) ⊎ (get_or c i 0 ≡ 0)

pub less_sure : (s t k : ℕ) (text c : List ℕ) → s ≤ t → Spotty t k text c → Spotty s k text c
less_sure s t k text c le sp =
    record { long = omega (arith, sp.long, le); front = λ i h. sp.front i (omega (arith, h, le)); each = sp.each }

pub at_most : (s k l : ℕ) (text c : List ℕ) → k ≤ l → Spotty s k text c → Spotty s l text c
at_most s k l text c le sp = record {
  long = sp.long;
  front = sp.front;
  each = λ i. ⊎_elim
      (λ (here : (i < k) × (get_or c i 0 ≡ get_or text i 0)). inl (omega (arith, here.0, le), here.1))
      (λ (z : get_or c i 0 ≡ 0). inr z)
      (sp.each i);
}

-- a front of the bytes that are sure to be kept
pub front_of : (s t k : ℕ) (text c : List ℕ) → s ≤ t → t ≤ k → Spotty t t text c → Spotty s k text c
front_of s t k text c le within sp = less_sure s t k text c le (at_most t t k text c within sp)

-- nothing is sure
pub nothing_left : (k : ℕ) (text : List ℕ) → Spotty 0 k text []
nothing_left k text =
    record { long = omega arith; front = λ i h. absurd (omega (arith, h)); each = λ i. inr (get_or_past [] i 0 (omega arith)) }

-- the text goes on
pub more_text : (s : ℕ) (text more c : List ℕ) → s ≤ length text → Spotty s (length text) text c
    → Spotty s (length (text ++ more)) (text ++ more) c
more_text s text more c le sp = record {
  long = sp.long;
  front = λ i h. sp.front i h ∙ sym (get_or_append_left text more 0 i (omega (arith, h, le)));
  each = λ i. ⊎_elim
      (λ (here : (i < length text) × (get_or c i 0 ≡ get_or text i 0)).
      inl (omega (arith, here.0, length-append text more), here.1 ∙ sym (get_or_append_left text more 0 i here.0)))
      (λ (z : get_or c i 0 ≡ 0). inr z)
      (sp.each i);
}

-- a front of the text is all the text
pub less_text : (k : ℕ) (text c : List ℕ) → k ≤ length text → Spotty k k text c → Spotty k (length (take k text)) (take k text) c
less_text k text c le sp =
    let len : length (take k text) ≡ k = omega (arith, length-take k text, le) in
    record {
      long = sp.long;
      front = λ i h. sp.front i h ∙ sym (get_or-take k text i 0 h);
      each = λ i. ⊎_elim
          (λ (here : (i < k) × (get_or c i 0 ≡ get_or text i 0)). inl
          (omega (arith, here.0, len), here.1 ∙ sym (get_or-take k text i 0 here.0)))
          (λ (z : get_or c i 0 ≡ 0). inr z)
          (sp.each i);
    }

-- the bytes that a store stores
pub stored_length : (from to : ℕ) (text : List ℕ) → from ≤ to → to ≤ length text → from + length (drop from (take to text)) ≡ to
stored_length from to text le within = omega (arith, le, within, length-drop from (take to text), length-take to text)

pub stored_is : (from to i : ℕ) (text : List ℕ) → from ≤ i → i < to
    → get_or (drop from (take to text)) (i - from) 0 ≡ get_or text i 0
stored_is from to i text lo hi =
    let place : from + (i - from) ≡ i = omega (arith, lo) in
    get_or-drop from (take to text) (i - from) 0 ∙ ap (λ k. get_or (take to text) k 0) place ∙ get_or-take to text i 0 hi

-- they are stored in part
pub torn : (s k from to : ℕ) (text old new : List ℕ) → from ≤ to → to ≤ k → to ≤ length text → Spotty s k text old
    → IsTorn from (drop from (take to text)) old new → Spotty s k text new
torn s k from to text old new le most within sp t =
    let len = stored_length from to text le within in
    record {
      long = omega (arith, sp.long, t.no_shorter);
      front = λ i h. ⊎_elim
          (λ (as_before : get_or new i 0 ≡ get_or old i 0). as_before ∙ sp.front i h)
          (λ (here : (from ≤ i) × (i < from + length (drop from (take to text))) ×
          (get_or new i 0 ≡ get_or (drop from (take to text)) (i - from) 0)).
          here.2 ∙ stored_is from to i text here.0 (omega (arith, here.1, len)))
          (t.each i);
      each = λ i. ⊎_elim
          (λ (as_before : get_or new i 0 ≡ get_or old i 0). ⊎_elim
          (λ (e : (i < k) × (get_or old i 0 ≡ get_or text i 0)). inl (e.0, as_before ∙ e.1))
          (λ (z : get_or old i 0 ≡ 0). inr (as_before ∙ z))
          (sp.each i))
          (λ (here : (from ≤ i) × (i < from + length (drop from (take to text))) ×
          (get_or new i 0 ≡ get_or (drop from (take to text)) (i - from) 0)).
          let below : i < to = omega (arith, here.1, len) in
          inl (omega (arith, below, most), here.2 ∙ stored_is from to i text here.0 below))
          (t.each i);
    }

-- they are all stored
pub written : (k from to : ℕ) (text old new : List ℕ) → from ≤ to → to ≤ k → to ≤ length text → Spotty from k text old
    → IsWritten from (drop from (take to text)) old new → Spotty to k text new
written k from to text old new le most within sp w =
    let len = stored_length from to text le within in
    let part = torn from k from to text old new le most within sp w.torn in
    record {
      long = omega (arith, w.long, len);
      front = λ i h. ⊎_elim
          (λ (low : i < from). part.front i low)
          (λ (high : from ≤ i). w.here i high (omega (arith, h, len)) ∙ stored_is from to i text high h)
          (cases_lt i from);
      each = part.each;
    }

-- the file gets a length
pub sized : (s k n : ℕ) (text old new : List ℕ) → s ≤ n → Spotty s k text old → IsSized n old new → Spotty s k text new
sized s k n text old new le sp z = record {
  long = omega (arith, z.long, le);
  front = λ i h. z.each i (omega (arith, h, le)) ∙ sp.front i h;
  each = λ i. ⊎_elim
      (λ (below : i < n). ⊎_elim
      (λ (e : (i < k) × (get_or old i 0 ≡ get_or text i 0)). inl (e.0, z.each i below ∙ e.1))
      (λ (none : get_or old i 0 ≡ 0). inr (z.each i below ∙ none))
      (sp.each i))
      (λ (above : n ≤ i). inr (get_or_past new i 0 (omega (arith, z.long, above))))
      (cases_lt i n);
}

-- nothing is behind its end
pub cut_to : (s k n : ℕ) (text old new : List ℕ) → s ≤ n → Spotty s k text old → IsSized n old new → Spotty s n text new
cut_to s k n text old new le sp z =
    let part = sized s k n text old new le sp z in
    record {
      long = part.long;
      front = part.front;
      each = λ i. ⊎_elim
          (λ (below : i < n). ⊎_elim
          (λ (e : (i < k) × (get_or new i 0 ≡ get_or text i 0)). inl (below, e.1))
          (λ (none : get_or new i 0 ≡ 0). inr none)
          (part.each i))
          (λ (above : n ≤ i). inr (get_or_past new i 0 (omega (arith, z.long, above))))
          (cases_lt i n);
    }

-- a step that harms nothing up to a mark, of a text of which no more than k bytes are stored
abbrev pub Fits : (s k : ℕ) → List ℕ → Step → Type 0
Fits s k text (Store from to) = (from ≤ to) × (to ≤ k) × (to ≤ length text)
Fits s k text (Cut to) = s ≤ to
Fits s k text (Grow to) = s ≤ to
Fits s k text Nothing = Unit {0}
Fits s k text Sync = Unit {0}
Fits s k text SyncFolder = Unit {0}

same : (s k : ℕ) (text old new : List ℕ) → Spotty s k text old → new ≡ old → Spotty s k text new
same s k text old new sp e = subst (λ x. Spotty s k text x) (sym e) sp

sized_part : (s k n : ℕ) (text old new : List ℕ) → s ≤ n → Spotty s k text old
    → (m : ℕ) × (min (length old) n ≤ m) × (m ≤ max (length old) n) × IsSized m old new → Spotty s k text new
sized_part s k n text old new le sp z = sized s k z.0 text old new (omega (arith, sp.long, le, z.1)) sp z.3

-- it is done in part
pub in_part : (s k : ℕ) (text : List ℕ) (step : Step) (old new : List ℕ) → Fits s k text step → Spotty s k text old
    → LeftOf old (calls_of text step) new → Spotty s k text new
in_part s k text (Store from to) old new fits sp left =
    torn s k from to text left.0 new fits.0 fits.1 fits.2 (same s k text old left.0 sp left.1) left.2
in_part s k text (Cut to) old new fits sp left =
    sized_part s k to text left.0 new fits (same s k text old left.0 sp left.1) left.2
in_part s k text (Grow to) old new fits sp left =
    sized_part s k to text left.0 new fits (same s k text old left.0 sp left.1) left.2
in_part s k text Nothing old new fits sp left = same s k text old new sp left
in_part s k text Sync old new fits sp left = same s k text old new sp left
in_part s k text SyncFolder old new fits sp left = same s k text old new sp left

-- it ends
pub may_end : (s k : ℕ) (text : List ℕ) (step : Step) (done : Bool) (old new : List ℕ) → Fits s k text step → Spotty s k text old
    → MayEnd text step done old new → Spotty s k text new
may_end s k text (Store from to) true old new fits sp may = torn s k from to text old new fits.0 fits.1 fits.2 sp may.torn
may_end s k text (Store from to) false old new fits sp may = torn s k from to text old new fits.0 fits.1 fits.2 sp may
may_end s k text (Cut to) true old new fits sp may = sized s k to text old new fits sp may
may_end s k text (Cut to) false old new fits sp may = sized_part s k to text old new fits sp may
may_end s k text (Grow to) true old new fits sp may = sized s k may.0 text old new (omega (arith, fits, may.1)) sp may.3
may_end s k text (Grow to) false old new fits sp may = sized_part s k to text old new fits sp may
may_end s k text Nothing done old new fits sp may = absurd may
may_end s k text Sync done old new fits sp may = absurd may
may_end s k text SyncFolder done old new fits sp may = absurd may

-- a step under way is left in part, with the calls before it
pub started : (s k : ℕ) (text kept : List ℕ) (calls : List Call) (step : Step) → Fits s k text step
    → ((c : List ℕ) → LeftOf kept calls c → Spotty s k text c)
    → (c : List ℕ) → LeftOf kept (calls_of text step ++ calls) c → Spotty s k text c
started s k text kept calls (Store from to) fits old c left =
    torn s k from to text left.0 c fits.0 fits.1 fits.2 (old left.0 left.1) left.2
started s k text kept calls (Cut to) fits old c left = sized_part s k to text left.0 c fits (old left.0 left.1) left.2
started s k text kept calls (Grow to) fits old c left = sized_part s k to text left.0 c fits (old left.0 left.1) left.2
started s k text kept calls Nothing fits old c left = old c left
started s k text kept calls Sync fits old c left = old c left
started s k text kept calls SyncFolder fits old c left = old c left
