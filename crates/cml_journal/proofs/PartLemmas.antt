-- A text is written part by part.
use Rattle.std.proofs.Common.{◌≡◌, ℕ, ◌+◌, ◌<◌, Bool, true, false, List, [], ◌∷◌, ◌++◌, length, take, get_or, Option, Some, None, Result}
use Rattle.std.proofs.Common.{Ok, Err, refl, sym, subst, ap, ◌∙◌, append_assoc}
use Rattle.std.specs.Prelude.{OnOk, MatchBool}
use Rattle.std.specs.List.{flat_map, AllByRecursion}
use Rattle.std.specs.Io.KnownBytes.{Appends}
use Rattle.std.proofs.lemmas.List.{append-nil, take_more}
use Rattle.std.proofs.lemmas.List.Concat.{flat_map-append}
use Rattle.std.proofs.lemmas.Bool.{false≢true}
use Rattle.std.specs.Option.{option_map}
use Rattle.cml_journal.specs.{Summed, and_bytes, WritesSummed}
use Rattle.cml_journal.proofs.SumsLemmas.{nothing_more, parts_summed}

pub on_ok : {A E P Q : Type 0} (r : Result A E) → (P → Q) → OnOk r P → OnOk r Q
on_ok (Ok x) f p = f p
on_ok (Err e) f p = tt

pub appends_none : (held : Option (List ℕ)) → Appends held held []
appends_none None = tt
appends_none (Some bytes) = sym (append-nil bytes)

pub appends_both : (held between holds : Option (List ℕ)) (one other : List ℕ) → Appends held between one → Appends between holds other
    → Appends held holds (one ++ other)
appends_both None between holds one other first second = tt
appends_both (Some bytes) None holds one other first second = absurd first
appends_both (Some bytes) (Some more) None one other first second = absurd second
appends_both (Some bytes) (Some more) (Some all) one other first second =
    second ∙ ap (λ (t : List ℕ). t ++ other) first ∙ append_assoc bytes one other

-- a text is summed part by part
abbrev and_text : List ℕ → Option Summed → Option Summed
and_text text summed = option_map (λ (s : Summed). and_bytes s text) summed

and_nothing : (summed : Option Summed) → and_text [] summed ≡ summed
and_nothing None = refl
and_nothing (Some s) = ap (λ (t : Summed). Some t) (nothing_more s)

and_both : (one other : List ℕ) (summed : Option Summed) → and_text other (and_text one summed) ≡ and_text (one ++ other) summed
and_both one other None = refl
and_both one other (Some s) = ap (λ (t : Summed). Some t) (parts_summed s one other)

-- nothing was written yet
pub writes_none : (held : Option (List ℕ)) (text : List ℕ) (summed : Option Summed) → WritesSummed held held text text summed summed
writes_none held text summed = ([], appends_none held, refl, sym (and_nothing summed))

-- all was written
pub writes_all : (held holds : Option (List ℕ)) (text left : List ℕ) (old new : Option Summed) → Appends held holds text → left ≡ []
    → new ≡ and_text text old → WritesSummed held holds text left old new
writes_all held holds text left old new appends empty summed =
    (text, appends, sym (append-nil text) ∙ ap (λ (t : List ℕ). text ++ t) (sym empty), summed)

-- a line more was added, and then a part was written
pub writes_more : (held between holds : Option (List ℕ)) (text before left line later : List ℕ) (old mid new : Option Summed)
    → WritesSummed held between text before old mid → left ≡ before ++ line → WritesSummed between holds left later mid new
    → WritesSummed held holds (text ++ line) later old new
writes_more held between holds text before left line later old mid new first added second = (
  first.0 ++ second.0,
  appends_both held between holds first.0 second.0 first.1 second.1,
  ap (λ (t : List ℕ). t ++ line) first.2 ∙ append_assoc first.0 before line ∙ ap (λ (t : List ℕ). first.0 ++ t) (sym added ∙ second.2)
      ∙ sym (append_assoc first.0 second.0 later),
  second.3 ∙ ap (and_text second.0) first.3 ∙ and_both first.0 second.0 old,
)

-- what is left is written too, and more after it
pub writes_end : (held between holds : Option (List ℕ)) (text left last more : List ℕ) (old new : Option Summed)
    → WritesSummed held between text left old new → Appends between holds last → last ≡ left ++ more
    → Appends held holds (text ++ more)
writes_end held between holds text left last more old new first appends is =
    subst (Appends held holds) (ap (λ (t : List ℕ). first.0 ++ t) is ∙ sym (append_assoc first.0 left more)
    ∙ ap (λ (t : List ℕ). t ++ more) (sym first.2))
    (appends_both held between holds first.0 last first.1 appends)

-- with what is left, the whole text is summed
pub writes_sum : (held holds : Option (List ℕ)) (text left : List ℕ) (old : Summed) (new : Option Summed)
    → WritesSummed held holds text left (Some old) new → and_text left new ≡ Some (and_bytes old text)
writes_sum held holds text left old new writes =
    ap (and_text left) writes.3 ∙ and_both writes.0 left (Some old)
    ∙ ap (λ (t : List ℕ). and_text t (Some old)) (sym writes.2)

-- one entry more
pub lines_more : {E : Type 0} (line : E → List ℕ) (text : List ℕ) (entries : List E) (i : ℕ) (d : E) → i < length entries
    → (text ++ flat_map line (take i entries)) ++ line (get_or entries i d) ≡ text ++ flat_map line (take (i + 1) entries)
lines_more line text entries i d within =
    append_assoc text (flat_map line (take i entries)) (line (get_or entries i d))
    ∙ ap (λ (t : List ℕ). text ++ t) (ap (λ (t : List ℕ). flat_map line (take i entries) ++ t)
    (sym (append-nil (line (get_or entries i d))))
    ∙ sym (flat_map-append line (take i entries) (get_or entries i d ∷ [])) ∙ ap (flat_map line) (sym (take_more entries i d within)))

-- each of one more of them holds
pub all_more : {E : Type 0} (P : E → Type 0) (xs : List E) (i : ℕ) (d : E) → i < length xs → AllByRecursion P (take i xs)
    → P (get_or xs i d) → AllByRecursion P (take (i + 1) xs)
all_more {E = E} P xs i d within all one = subst (AllByRecursion P) (sym (take_more xs i d within)) (all_then (take i xs) all)
  where
    all_then : (ys : List E) → AllByRecursion P ys → AllByRecursion P (ys ++ get_or xs i d ∷ [])
    all_then [] some = (one, tt)
    all_then (y ∷ ys) some = (some.0, all_then ys some.1)

-- what is so is so
pub when_so : (P Q : Type 0) (b : Bool) → MatchBool b P Q → b ≡ true → P
when_so P Q true p e = p
when_so P Q false q e = absurd (false≢true e)
