-- The name that a thread's next step uses is bound to an object of its kind.
use Rattle.std.proofs.Common.{◌≡◌, ℕ, ◌<◌, ◌≤◌, List, length, map, get_or, slice_get, Option, Some, sym, ap, subst, ◌∙◌, arith}
use Rattle.std.specs.Prelude.{All}
use Rattle.std.specs.Option.{option_map}
use Rattle.std.proofs.lemmas.Option.{slice_get-get_or}
use Rattle.std.proofs.lemmas.List.{length-map}
use Rattle.cml_board.specs.{Name}
use Rattle.cml_board.specs.declared.entry.Who.TheVariants.{Seat}
use Rattle.cml_grammar.specs.{Step, names_of, source_of, ReadsStep, UsesEarlier, used_by}
use Rattle.cml_report.specs.{Binding, History, next_position, declared_count, object_of, AreBindings}
use Rattle.cml_replay.specs.{Executed, Stands, IsNextStep, IsBound}
use Rattle.cml_report.proofs.LineLemmas.{all_at}
use Rattle.cml_report.proofs.GivingLemmas.{follows_own}
use Rattle.cml_report.proofs.BindingLemmas.{script_steps}
use Rattle.cml_report.proofs.UseLemmas.{used_object, used_stands_for, object_kind_at}

module _ {executed : Executed} {counts : List ℕ} {bindings : List Binding} (stands : Stands executed counts bindings) where
  pub used_is_bound : (items : List Step) (i seat : ℕ) (s : Step) → map (λ x. source_of x.line) items ≡ executed.script.steps
      → All (ReadsStep (names_of executed.script)) items → UsesEarlier executed.script items → slice_get items i ≡ Some s
      → next_position executed.script executed.history (Seat seat) ≡ Some i → declared_count executed.script ≤ length executed.history
      → IsBound executed (used_by s.action)
  used_is_bound items i seat s lines reads uses_earlier item next declared =
      let own = follows_own executed.script executed.history stands.follows in
      let object = used_stands_for executed.script executed.history stands.known items i seat s
      (script_steps executed.script executed.history own stands.lawful) lines reads uses_earlier item next declared in
      record {
        named = used_object (names_of executed.script) s.action (all_at (ReadsStep (names_of executed.script)) items i s reads item).uses;
        object = object.0;
        stands = object.1;
        kind = λ k is. object_kind_at executed.script executed.history stands.known
            (used_by s.action) object.0 k own stands.lawful object.1 is;
      }

pub used_stands : (p old : Executed) (counts : List ℕ) (bindings : List Binding) → p ≡ old → Stands p counts bindings
    → (items : List Step) (i : ℕ) (d : Step) → map (λ x. source_of x.line) items ≡ p.script.steps
    → All (ReadsStep (names_of p.script)) items → UsesEarlier p.script items
    → i < length old.script.steps → IsNextStep old i → declared_count old.script ≤ length old.history
    → IsBound old (used_by (get_or items i d).action)
used_stands p old counts bindings view stands items i d lines reads uses_earlier within next declared =
    let here : i < length items = omega (
      arith,
      within,
      ap (λ (r : Executed). length r.script.steps) view,
      ap length lines,
      length-map items (λ (x : Step). source_of x.line),
    ) in
    let step = subst (λ (r : Executed). IsNextStep r i) (sym view) next in
    subst (λ (r : Executed). IsBound r (used_by (get_or items i d).action)) view
    (used_is_bound stands items i step.0 (get_or items i d) lines reads uses_earlier (slice_get-get_or items i d here) step.1
    (subst (λ (r : Executed). declared_count r.script ≤ length r.history) (sym view) declared))

-- what is looked up for a name that has an object
pub bound_is : (p old : Executed) (counts : List ℕ) (bindings slice : List Binding) (at made : ℕ) (r : Option Name) → p ≡ old
    → Stands p counts bindings → (bound : IsBound old at) → length p.history ≡ made → slice ≡ bindings
    → ((history : History) → length history ≡ made → AreBindings p.script history slice
    → r ≡ option_map (λ o. record { 0 = o }) (object_of p.script history at)) → r ≡ Some (record { 0 = bound.object })
bound_is p old counts bindings slice at made r view stands bound long same told =
    let named = λ (n : ℕ). let name : Name = record { 0 = n } in name in
    told p.history long (subst (AreBindings p.script p.history) (sym same) stands.bound)
    ∙ ap (λ (q : Executed). option_map named (object_of q.script q.history at)) view
    ∙ ap (option_map named) bound.stands
