-- Which line gives which name, with one more declaration and with one more step.
use Rattle.std.proofs.Common.{◌≡◌, ℕ, ◌+◌, ◌<◌, ◌≤◌, true, cond, List, [], ◌∷◌, ◌++◌, length, slice_get, Option, Some, None}
use Rattle.std.proofs.Common.{is_some, sym, ap, ◌∙◌, arith, inl, inr, ◌⊎◌, true≢false, count_by}
use Rattle.std.proofs.lemmas.List.{append-nil, length-append, take-append-le}
use Rattle.std.proofs.lemmas.List.Sums.{sum_by_push}
use Rattle.std.proofs.lemmas.Option.{none-some, slice_get_within}
use Rattle.std.proofs.Math.Seq.{take-append_seam}
use Rattle.cml_grammar.specs.{Named, Given, given_as, SourceLine, seat_of_step, declared_word, asked_word, is_giving, names_before}
use Rattle.cml_grammar.specs.{GivesPort, GivesDeclared, IsGivenAt, NamesAreGiven}
use Rattle.cml_grammar.specs.declared.names.Named.TheVariants as called
use Rattle.cml_grammar.specs.declared.names.Users.TheVariants as users
use Rattle.cml_grammar.proofs.ListLemmas.{slice_get-append, slice_get-push, slice_get-push-cases, each-push}
use Rattle.cml_grammar.proofs.GrowingLemmas.{seat_of_step-append}

-- one more declaration, where no step was seen
pub given-declaration : (names : List Given) (declared : List SourceLine) (line : SourceLine) (word : List ℕ) (n : Named)
    → NamesAreGiven names declared [] → declared_word line.words ≡ Some word
    → NamesAreGiven (names ++ (word, n) ∷ []) (declared ++ line ∷ []) []
given-declaration names declared line word n h there =
    let more : List Given = (word, n) ∷ [] in
    let same : length names ≡ length declared = omega (arith, h.total) in
    record {
      total = omega (arith, same, length-append names more, length-append declared (line ∷ []));
      declares = each-push (λ i (l : SourceLine). GivesDeclared (names ++ more) i l.words) declared line
          (λ i l found. let g = h.declares i l found in (g.0, g.1, g.2, slice_get-append names more i _ g.3))
          (word, n, there, ap (slice_get (names ++ more)) (sym same) ∙ slice_get-push names (word, n));
      steps = λ k l found. absurd (none-some l found);
      each = λ i g found. inl
          (omega (arith, same, slice_get_within (names ++ more) i g found, length-append names more, length-append declared (line ∷ [])));
    }

-- ---- one more step
module _ (names more : List Given) (declared asked : List SourceLine) (line : SourceLine) (h : NamesAreGiven names declared asked) where
  -- what is before the earlier steps, and before this one
  pub before_same : (k : ℕ) → k ≤ length asked → names_before declared (asked ++ line ∷ []) k ≡ names_before declared asked k
  before_same k le = ap (λ (ls : List SourceLine). length declared + count_by is_giving ls) (take-append-le k asked (line ∷ []) le)

  pub before_last : names_before declared (asked ++ line ∷ []) (length asked) ≡ length names
  before_last = ap (λ (ls : List SourceLine). length declared + count_by is_giving ls) (take-append_seam asked (line ∷ [])) ∙ sym h.total

  declares_more : (i : ℕ) (l : SourceLine) → slice_get declared i ≡ Some l → GivesDeclared (names ++ more) i l.words
  declares_more i l found = let g = h.declares i l found in (g.0, g.1, g.2, slice_get-append names more i _ g.3)

  steps_more : (k : ℕ) (l : SourceLine) → slice_get asked k ≡ Some l → is_giving l ≡ true
      → GivesPort (names ++ more) (names_before declared (asked ++ line ∷ []) k) l.words
  steps_more k l found gives =
      let g = h.steps k l found gives in (
        g.0,
        g.1,
        g.2,
        seat_of_step-append names more l.words g.1 g.3,
        ap (slice_get (names ++ more)) (before_same k (omega (arith, slice_get_within asked k l found)))
            ∙ slice_get-append names more _ _ g.4,
      )

  each_more : (i : ℕ) (g : Given) → slice_get names i ≡ Some g → (i < length declared) ⊎ IsGivenAt declared (asked ++ line ∷ []) i
  each_more i g found = elim (h.each i g found) [
    | inl a ↦ inl a
    | inr b ↦ inr (
      b.0,
      b.1,
      slice_get-append asked (line ∷ []) b.0 b.1 b.2,
      b.3,
      b.4 ∙ sym (before_same b.0 (omega (arith, slice_get_within asked b.0 b.1 b.2))),
    )
  ]

pub given-step : (names : List Given) (declared asked : List SourceLine) (line : SourceLine) (seat : ℕ) (o : Option (List ℕ))
    → NamesAreGiven names declared asked → asked_word line.words ≡ o → seat_of_step names line.words ≡ Some seat
    → NamesAreGiven (names ++ given_as (called.Port (users.One seat)) o) declared (asked ++ line ∷ [])
given-step names declared asked line seat None h e asks =
    let counted : count_by is_giving (asked ++ line ∷ []) ≡ count_by is_giving asked + 0 = sum_by_push _ asked line
    ∙ ap (λ (w : Option (List ℕ)). count_by is_giving asked + cond (is_some w) 1 0) e in
    record {
      total = omega (arith, h.total, counted, length-append names []);
      declares = declares_more names [] declared asked line h;
      steps = each-push (λ k (l : SourceLine). is_giving l ≡ true → GivesPort (names ++ [])
          (names_before declared (asked ++ line ∷ []) k) l.words) asked line (steps_more names [] declared asked line h)
          (λ t. absurd (true≢false (sym t ∙ ap is_some e)));
      each = λ i g found. each_more names [] declared asked line h i g
          (ap (λ (gs : List Given). slice_get gs i) (sym (append-nil names)) ∙ found);
    }
given-step names declared asked line seat (Some word) h e asks =
    let more : List Given = (word, called.Port (users.One seat)) ∷ [] in
    let counted : count_by is_giving (asked ++ line ∷ []) ≡ count_by is_giving asked + 1 = sum_by_push _ asked line
    ∙ ap (λ (w : Option (List ℕ)). count_by is_giving asked + cond (is_some w) 1 0) e in
    record {
      total = omega (arith, h.total, counted, length-append names more);
      declares = declares_more names more declared asked line h;
      steps = each-push (λ k (l : SourceLine). is_giving l ≡ true → GivesPort (names ++ more)
          (names_before declared (asked ++ line ∷ []) k) l.words) asked line (steps_more names more declared asked line h)
          (λ t. (
            word,
            seat,
            e,
            seat_of_step-append names more line.words seat asks,
            ap (slice_get (names ++ more)) (before_last names more declared asked line h)
                ∙ slice_get-push names (word, called.Port (users.One seat)),
          ));
      each = λ i g found. elim (slice_get-push-cases names (word, called.Port (users.One seat)) i g found) [
        | inl before ↦ each_more names more declared asked line h i g before
        | inr last ↦
            inr (length asked, line, slice_get-push asked line, ap is_some e, last.0 ∙ sym (before_last names more declared asked line h))
      ];
    }
