-- What is read of a line's words was written so, and what was written is read again.
use Rattle.std.proofs.Common.{◌≡◌, ℕ, ◌<◌, ◌^◌, Bool, true, false, if◌then◌else◌, List, [], ◌∷◌, ◌++◌, Option, Some, None, Result}
use Rattle.std.proofs.Common.{Ok, Err, refl, sym, ap, subst, ◌∙◌, append_assoc, ◌⊎◌, inl, inr}
use Rattle.std.specs.Prelude.{codes}
use Rattle.std.specs.Fmt.{decimal}
use Rattle.std.specs.Str.{bytes_eq}
use Rattle.std.specs.List.{find}
use Rattle.std.proofs.lemmas.Bool.{lt-ltb, ltb-true}
use Rattle.std.proofs.lemmas.Option.{none-some, same_Some}
use Rattle.std.proofs.lemmas.Slice.Eq.{bytes_eq-Decides}
use Rattle.cml_board.specs.{Name, Who}
use Rattle.cml_board.specs.declared.entry.Who.TheVariants.{Seat, Lane, Feed}
use Rattle.cml_journal.specs.{What, number_of, who_word, who_number, who_text, ◌>>=◌, ok_or, cut, without_colon, word_at, last_at}
use Rattle.cml_journal.specs.{number_in, name_in, who_by, who_at}
use Rattle.cml_journal.specs.declared.fault.What.TheVariants.{Short, UnknownWord, NoColon, BadNumber}
use Rattle.cml_journal.specs.NumberLaws.{number_again as number_written, number_only, number_printed}
use Rattle.cml_journal.proofs.CutWordsLemmas.{has_space, cut_again, cut_takes, printed_no_space, colon_no_space, colon_again, colon_takes}

-- the value of a step that did not fail
pub bind_ok : {A B : Type 0} (r : Result A What) (f : A → Result B What) (y : B) → (r >>= f) ≡ Ok y → (x : A) × (r ≡ Ok x) × (f x ≡ Ok y)
bind_ok (Ok x) f y e = (x, refl, e)
bind_ok (Err d) f y e = absurd cc

abbrev done : {A : Type 0} → A → Result A What
done x = Ok x

pub ok_is : {A : Type 0} (x y : A) → done x ≡ done y → x ≡ y
ok_is x y e = cc

pub some_from_ok : {A : Type 0} (what : What) (o : Option A) (x : A) → ok_or what o ≡ Ok x → o ≡ Some x
some_from_ok what None x e = absurd cc
some_from_ok what (Some y) x e = ap Some (ok_is y x e)

-- which way a test went
pub chosen : {A : Type 0} (t : Bool) (x y z : A) → (if t then x else y) ≡ z → ((t ≡ true) × (x ≡ z)) ⊎ ((t ≡ false) × (y ≡ z))
chosen true x y z e = inl (refl, e)
chosen false x y z e = inr (refl, e)

-- where a test decides whether there is a fault, and there is none
pub passed : {A : Type 0} (t : Bool) (x y : A) (what : What) → (if t then done x else Err what) ≡ done y → (t ≡ true) × (x ≡ y)
passed true x y what e = (refl, ok_is x y e)
passed false x y what e = absurd cc

pub not_failed : {A : Type 0} (t : Bool) (what : What) (r : Result A What) (y : A)
    → (if t then Err what else r) ≡ done y → (t ≡ false) × (r ≡ done y)
not_failed true what r y e = absurd cc
not_failed false what r y e = (refl, e)

pub found_passes : {X : Type 0} (p : X → Bool) (xs : List X) (x : X) → find p xs ≡ Some x → p x ≡ true
found_passes p [] x h = absurd (none-some x h)
found_passes {X} p (y ∷ ys) x h = by (p y) refl (found_passes p ys x) h
  where
    by : (t : Bool) → p y ≡ t → (find p ys ≡ Some x → p x ≡ true) → (if t then Some y else find p ys) ≡ Some x → p x ≡ true
    by true e later f = subst (λ (z : X). p z ≡ true) (same_Some y x f) e
    by false e later f = later f

pub same_bytes : (xs ys : List ℕ) → bytes_eq xs ys ≡ true → xs ≡ ys
same_bytes xs ys = (bytes_eq-Decides xs ys).0

pub equal_bytes : (xs : List ℕ) → bytes_eq xs xs ≡ true
equal_bytes xs = (bytes_eq-Decides xs xs).1 refl

-- ---- words
pub word_takes : (line : List ℕ) (x : List ℕ × List ℕ) → word_at line ≡ Ok x → line ≡ x.0 ++ 32 ∷ x.1
unfolding word_at
word_takes line x e = cut_takes line x (some_from_ok Short (cut line) x e)

pub word_again : (word rest : List ℕ) → has_space word ≡ false → word_at (word ++ 32 ∷ rest) ≡ Ok (word, rest)
unfolding word_at
word_again word rest h = ap (ok_or Short) (cut_again word rest h)

pub last_takes : (line : List ℕ) (x : List ℕ × List ℕ) → last_at line ≡ Ok x → line ≡ x.0 ++ 58 ∷ 32 ∷ x.1
unfolding last_at
last_takes line x e =
    let a = bind_ok (word_at line) (λ next. ok_or NoColon (without_colon next.0) >>= λ word. Ok (word, next.1)) x e in
    let b = bind_ok (ok_or NoColon (without_colon a.0.0)) (λ word. Ok (word, a.0.1)) x a.2 in
    let whole : a.0.0 ≡ b.0 ++ 58 ∷ [] = colon_takes a.0.0 b.0 (some_from_ok NoColon (without_colon a.0.0) b.0 b.1) in
    subst (λ (y : List ℕ × List ℕ). line ≡ y.0 ++ 58 ∷ 32 ∷ y.1) (ok_is (b.0, a.0.1) x b.2)
    (word_takes line a.0 a.1 ∙ ap (λ (w : List ℕ). w ++ 32 ∷ a.0.1) whole ∙ append_assoc b.0 (58 ∷ []) (32 ∷ a.0.1))

pub last_again : (word rest : List ℕ) → has_space word ≡ false → last_at (word ++ 58 ∷ 32 ∷ rest) ≡ Ok (word, rest)
unfolding last_at
last_again word rest h =
    ap last_at (sym (append_assoc word (58 ∷ []) (32 ∷ rest)))
    ∙ ap (λ (r : Result (List ℕ × List ℕ) What). r >>= λ next. ok_or NoColon (without_colon next.0) >>= λ w. Ok (w, next.1))
    (word_again (word ++ 58 ∷ []) rest (colon_no_space word h))
    ∙ ap (λ (o : Option (List ℕ)). ok_or NoColon o >>= λ w. Ok (w, rest)) (colon_again word)

-- ---- numbers
pub number_takes : (word : List ℕ) (n : ℕ) → number_in word ≡ Ok n → (word ≡ decimal n) × (n < 2 ^ 64)
unfolding number_in
number_takes word n e =
    let parts = number_only word n (some_from_ok BadNumber (number_of word) n e) in
    (parts.0, ltb-true n (2 ^ 64) parts.1)

pub number_again : (n : ℕ) → n < 2 ^ 64 → number_in (decimal n) ≡ Ok n
unfolding number_in
number_again n small = ap (ok_or BadNumber) (number_written n (lt-ltb n (2 ^ 64) small))

pub number_no_space : (n : ℕ) → n < 2 ^ 64 → has_space (decimal n) ≡ false
number_no_space n small = printed_no_space (decimal n) (number_printed n (lt-ltb n (2 ^ 64) small))

pub name_takes : (word : List ℕ) (name : Name) → name_in word ≡ Ok name → (word ≡ decimal name.0) × (name.0 < 2 ^ 64)
unfolding name_in
name_takes word name e =
    let a = bind_ok (number_in word) (λ number. Ok (record { 0 = number })) name e in
    let made : Name = record { 0 = a.0 } in
    subst (λ (n : Name). (word ≡ decimal n.0) × (n.0 < 2 ^ 64)) (ok_is made name a.2) (number_takes word a.0 a.1)

pub name_again : (name : Name) → name.0 < 2 ^ 64 → name_in (decimal name.0) ≡ Ok name
unfolding name_in
name_again name small = ap (λ (r : Result ℕ What). r >>= λ number. Ok (record { 0 = number })) (number_again name.0 small)

-- ---- who
who_by_takes : (word : List ℕ) (n : ℕ) (who : Who) → who_by word n ≡ Ok who → (word ≡ who_word who) × (n ≡ who_number who)
unfolding who_by
who_by_takes word n who e =
    elim (chosen (bytes_eq word (codes "seat")) (Ok (Seat n)) _ (Ok who) e) [
      | inl h ↦ is (Seat n) (ok_is (Seat n) who h.1) (same_bytes word (codes "seat") h.0, refl)
      | inr h ↦ elim (chosen (bytes_eq word (codes "lane")) (Ok (Lane n)) _ (Ok who) h.1) [
        | inl h ↦ is (Lane n) (ok_is (Lane n) who h.1) (same_bytes word (codes "lane") h.0, refl)
        | inr h ↦
            let (named, same) = passed (bytes_eq word (codes "feed")) (Feed n) who UnknownWord h.1 in
            is (Feed n) same (same_bytes word (codes "feed") named, refl)
      ]
    ]
  where
    is : (made : Who) → made ≡ who → (word ≡ who_word made) × (n ≡ who_number made) → (word ≡ who_word who) × (n ≡ who_number who)
    is made same parts = subst (λ (w : Who). (word ≡ who_word w) × (n ≡ who_number w)) same parts

who_by_again : (who : Who) → who_by (who_word who) (who_number who) ≡ Ok who
unfolding who_by
who_by_again (Seat n) = refl
who_by_again (Lane n) = refl
who_by_again (Feed n) = refl

who_no_space : (who : Who) → has_space (who_word who) ≡ false
who_no_space (Seat n) = refl
who_no_space (Lane n) = refl
who_no_space (Feed n) = refl

pub who_takes : (line : List ℕ) (x : Who × List ℕ) → who_at line ≡ Ok x → (line ≡ who_text x.0 ++ 32 ∷ x.1) × (who_number x.0 < 2 ^ 64)
unfolding who_at
who_takes line x e =
    let a = bind_ok (word_at line)
    (λ word. word_at word.1 >>= λ next. number_in next.0 >>= λ number. who_by word.0 number >>= λ who. Ok (who, next.1)) x e in
    let b = bind_ok (word_at a.0.1) (λ next. number_in next.0 >>= λ number. who_by a.0.0 number >>= λ who. Ok (who, next.1)) x a.2 in
    let c = bind_ok (number_in b.0.0) (λ number. who_by a.0.0 number >>= λ who. Ok (who, b.0.1)) x b.2 in
    let d = bind_ok (who_by a.0.0 c.0) (λ who. Ok (who, b.0.1)) x c.2 in
    let n = number_takes b.0.0 c.0 c.1 in
    let w = who_by_takes a.0.0 c.0 d.0 d.1 in
    let whole : line ≡ who_text d.0 ++ 32 ∷ b.0.1 =
    word_takes line a.0 a.1
    ∙ ap (λ (rest : List ℕ). a.0.0 ++ 32 ∷ rest) (word_takes a.0.1 b.0 b.1 ∙ ap (λ (m : List ℕ). m ++ 32 ∷ b.0.1) (n.0 ∙ ap decimal w.1))
    ∙ ap (λ (v : List ℕ). v ++ 32 ∷ (decimal (who_number d.0) ++ 32 ∷ b.0.1)) w.0
    ∙ sym (append_assoc (who_word d.0) (32 ∷ decimal (who_number d.0)) (32 ∷ b.0.1)) in
    subst (λ (y : Who × List ℕ). (line ≡ who_text y.0 ++ 32 ∷ y.1) × (who_number y.0 < 2 ^ 64)) (ok_is (d.0, b.0.1) x d.2)
    (whole, subst (λ (m : ℕ). m < 2 ^ 64) w.1 n.1)

pub who_again : (who : Who) (rest : List ℕ) → who_number who < 2 ^ 64 → who_at (who_text who ++ 32 ∷ rest) ≡ Ok (who, rest)
unfolding who_at
who_again who rest small =
    let n = decimal (who_number who) in
    ap who_at (append_assoc (who_word who) (32 ∷ n) (32 ∷ rest))
    ∙ rw (
      word_again (who_word who) (n ++ 32 ∷ rest) (who_no_space who),
      word_again n rest (number_no_space (who_number who) small),
      number_again (who_number who) small,
      who_by_again who,
    ) refl
