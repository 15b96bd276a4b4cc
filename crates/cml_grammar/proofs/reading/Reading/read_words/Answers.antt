use Rattle.std.proofs.Common.{◌≡◌, ℕ, ◌==◌, not, List, map, Bor, inr, refl, sym, ap, ◌∙◌}
use Rattle.std.specs.Map.{keys_of}
use Rattle.cml_grammar.specs.{words_of, has_empty_word, form_of, fault_in_words, scope_of, texts_of, shown}
use Rattle.cml_grammar.proofs.ReadingLemmas.{fault_found, nothing_left, whichever}
use Rattle.cml_grammar.proofs.reading.Reading.read_words.Goals.{After-fault_in_form}
use Rattle.cml_grammar.proofs.reading.Reading.read_words.Goals as goal

-- the fault that the code finds is that of the words
same_fault : (c : After-fault_in_form) → c.fault_in_form.result ≡ fault_in_words (scope_of c.args.self.now) (words_of c.args.text.now)
same_fault c =
    let i = c.self.inside in
    c.fault_in_form.ensures ∙ fault_found c.args.self.now _ i.kept.version (texts_of i.kept.names.entries) (not c.is_empty-started.result)
    (keys_of i.kept.capacities.entries) (map (λ (w : Bor (List ℕ)). w.now) c.in_ok-words.words.items)
    (words_of c.args.text.now) (shown c.of_words-form.result)
    c.self.view_is refl c.self.invariant.names (ap not c.is_empty-started.ensures ∙ ap (λ n. not (n == 0)) i.kept.steps.ok.0
    ∙ sym c.self.invariant.started) (sym c.self.invariant.ends)
    c.in_ok-words.ensures (ap (λ (ws : List (Bor (List ℕ))). has_empty_word (map (λ w. w.now) ws)) (sym c.deref.ensures.value)
    ∙ sym c.has_empty_word.ensures ∙ c.if-has_empty_word.false)
    (c.of_words-form.ensures
    ∙ ap (λ (ws : List (Bor (List ℕ))). form_of (texts_of i.kept.names.entries) (map (λ w. w.now) ws)) c.deref-2.ensures.value)

pub returns-in-Some-clause-fault : goal.returns-in-Some-clause-fault
returns-in-Some-clause-fault c = inr (sym (same_fault (goal.at.returns-in-Some-clause-fault c).After-fault_in_form) ∙ c.in-Some.is)

pub lay-requires-clause-fits : goal.lay-requires-clause-fits
lay-requires-clause-fits c =
    ap (λ bytes. fault_in_words (scope_of c.args.self.now) (words_of bytes)) c.in_ok-text.ensures.ok
    ∙ sym (same_fault (goal.at.lay-requires-clause-fits c).After-fault_in_form) ∙ nothing_left c.fault_in_form.result c.in_default.not-Some

pub returns-in-Lane-clause-fits : goal.returns-in-Lane-clause-fits
returns-in-Lane-clause-fits c = whichever c.lay.result (sym (same_fault (goal.at.returns-in-Lane-clause-fits c).After-fault_in_form)
    ∙ nothing_left c.fault_in_form.result c.in_default.not-Some)

pub declare-requires-clause-fits : goal.declare-requires-clause-fits
declare-requires-clause-fits c =
    ap (λ bytes. fault_in_words (scope_of c.args.self.now) (words_of bytes)) c.in_ok-text.ensures.ok
    ∙ sym (same_fault (goal.at.declare-requires-clause-fits c).After-fault_in_form)
    ∙ nothing_left c.fault_in_form.result c.in_default.not-Some

pub step-requires-clause-fits : goal.step-requires-clause-fits
step-requires-clause-fits c =
    ap (λ bytes. fault_in_words (scope_of c.args.self.now) (words_of bytes)) c.in_ok-text.ensures.ok
    ∙ sym (same_fault (goal.at.step-requires-clause-fits c).After-fault_in_form) ∙ nothing_left c.fault_in_form.result c.in_default.not-Some
