-- What is kept of a history: each name's object and each thread's count, also with one more entry.
use Rattle.std.proofs.Common.{◌≡◌, ℕ, ◌+◌, ◌-◌, ◌<◌, ◌≤◌, Bool, true, false, cond, eqb, ltb, List, [], ◌∷◌, length, take, get_or, slice_get}
use Rattle.std.proofs.Common.{slice_set, replicate, Option, Some, None, IfSome, IsSome, refl, sym, ap, subst, ◌∙◌, arith, inl, inr}
use Rattle.cml_board.specs.{Entry, kind_of, Lawful}
use Rattle.cml_grammar.specs.{Lines, names_of, names_before, NamesAreGiven}
use Rattle.std.proofs.lemmas.Option.{same_Some, none-some, slice_get_within, slice_get_read}
use Rattle.std.proofs.lemmas.List.{length-set, length-replicate, get_or-replicate}
use Rattle.std.proofs.lemmas.Bool.{eq-eqb, ne_eqb, cases_eq, cases_lt, le-ltb, lt-ltb, false≢true}
use Rattle.cml_calls.specs.{Kind}
use Rattle.cml_report.specs.{how_many, Binding, History, is_object, performed, declared_count, declared_object, object_of, made_of}
use Rattle.cml_report.specs.{given_by, bound_by, binding_of, port_bound, port_made, IsOfScript, IsKnown, NamesObjects, HasSeats}
use Rattle.cml_report.specs.{AsksForPorts, IsObject, IsObjectAt, AreBindings, with_binding, AreCounts}
use Rattle.cml_report.specs.declared.binding.Binding.TheVariants as binding
use Rattle.cml_grammar.specs.declared.names.Named.TheVariants as called
use Rattle.cml_grammar.specs.declared.names.Users.TheVariants as users
use Rattle.cml_board.proofs.ListLemmas.{slice_get-set_other}
use Rattle.cml_report.proofs.ListLemmas.{set_at}
use Rattle.cml_report.proofs.GivingLemmas.{giver, given_line}
use Rattle.cml_report.proofs.BindingLemmas.{bound_more}
use Rattle.cml_report.proofs.KindLemmas.{object_made, object_kind_is, declared_made}

module _ (script : Lines) (history : History) (at : ℕ) where
  pub object_declared : at < length script.declarations → object_of script history at ≡ declared_object script history at
  object_declared lt = ap (λ t. cond t (declared_object script history at) (port_bound (binding_of script history at)))
      (lt-ltb at (length script.declarations) lt)

  pub object_given : length script.declarations ≤ at → object_of script history at ≡ port_bound (binding_of script history at)
  object_given ge = ap (λ t. cond t (declared_object script history at) (port_bound (binding_of script history at)))
      (le-ltb at (length script.declarations) ge)

  pub made_declared : at < length script.declarations → made_of script history at ≡ declared_object script history at
  unfolding made_of
  made_declared lt = ap (λ t. cond t (declared_object script history at) (port_made (binding_of script history at)))
      (lt-ltb at (length script.declarations) lt)

  pub made_given : length script.declarations ≤ at → made_of script history at ≡ port_made (binding_of script history at)
  unfolding made_of
  made_given ge = ap (λ t. cond t (declared_object script history at) (port_made (binding_of script history at)))
      (le-ltb at (length script.declarations) ge)

-- what is read of the lists that are kept

pub binding_at : (script : Lines) (history : History) (bindings : List Binding) (at : ℕ) (b : Binding) → AreBindings script history bindings
    → at < length (names_of script) → b ≡ get_or bindings at b → b ≡ binding_of script history at
binding_at script history bindings at b bound within read =
    let lt : at < length bindings = omega (arith, within, bound.all) in
    same_Some _ _ (sym (slice_get_read bindings (length bindings) at b refl lt read) ∙ bound.each at lt)

pub count_at : (history : History) (counts : List ℕ) (thread n : ℕ) → AreCounts history counts → thread < 64 → n ≡ get_or counts thread n
    → n ≡ performed history (thread + 1)
count_at history counts thread n counted lt read =
    let within : thread < length counts = omega (arith, counted.seats) in
    same_Some _ _ (sym (slice_get_read counts (length counts) thread n refl within read) ∙ counted.each thread lt)

-- if a declared name has an object, it is the one of the name's number
pub declared_is : (script : Lines) (history : History) (at n : ℕ) → n ≡ how_many (is_object script) (take at script.declarations)
    → IsSome (declared_object script history at) → declared_object script history at ≡ Some n
declared_is script history at n number made =
    by_test (ltb (how_many (is_object script) (take at script.declarations)) (length history)) made
  where
    by_test : (t : Bool) → IsSome (cond t (Some (how_many (is_object script) (take at script.declarations))) None)
        → cond t (Some (how_many (is_object script) (take at script.declarations))) None ≡ Some n
    by_test true some = ap Some (sym number)
    by_test false none = absurd (false≢true none)

-- an object that is looked up among those that are made is itself, and made
below : (object made n : ℕ) → cond (ltb object made) (Some object) None ≡ Some n → (object < made) × (object ≡ n)
below object made n e = elim (cases_lt object made) [
  | inl lt ↦ (lt, same_Some object n (sym (ap (λ t. cond t (Some object) None) (lt-ltb object made lt)) ∙ e))
  | inr ge ↦ absurd (none-some n (sym (ap (λ t. cond t (Some object) None) (le-ltb object made ge)) ∙ e))
]

module _ (script : Lines) (history : History) (named : NamesObjects script) where
  -- the object of a declared name is of the name's kind
  pub declared_kind : (at n : ℕ) (k : Kind) → IsOfScript script history → Lawful history → at < length script.declarations
      → declared_object script history at ≡ Some n → IsObjectAt (names_of script) at k → kind_of history n ≡ Some k
  declared_kind at n k own lawful within e is =
      let here = below (how_many (is_object script) (take at script.declarations)) (length history) n e in
      let d = named at k within is in
      ap (kind_of history) (sym here.1) ∙ object_kind_is script history at d.0 k own lawful here.0 d.1 d.2

  -- once all are made, each declared name has its object
  pub declared_stands : (at : ℕ) → declared_count script ≤ length history → at < length script.declarations → IsObject (names_of script) at
      → (n : ℕ) × (declared_object script history at ≡ Some n)
  declared_stands at declared within object =
      let d = named at object.0 within object.1 in (
        how_many (is_object script) (take at script.declarations),
        object_made script history at (declared_made script history at d.0 object.0 declared d.1 d.2),
      )

-- a name that was given something, and all others as they were
pub bindings_more : (script : Lines) (before : History) (entry : Entry (List ℕ)) (bindings : List Binding) (g : Option ℕ)
    → AsksForPorts script → HasSeats script → giver script before entry.who ≡ g → AreBindings script before bindings
    → AreBindings script (entry ∷ before) (with_binding bindings g (bound_by entry.call entry.reply))
bindings_more script before entry bindings None asks seats e b = record {
  all = b.all;
  each = λ at lt. b.each at lt ∙ ap Some (sym (bound_more script asks seats before entry at None e));
}
bindings_more script before entry bindings (Some n) asks seats e b = record {
  all = length-set bindings n (bound_by entry.call entry.reply) ∙ b.all;
  each = λ at lt. elim (cases_eq n at) [
    | inl here ↦
        let within : n < length bindings = omega (arith, lt, here, length-set bindings n (bound_by entry.call entry.reply)) in
        let test : eqb n at ≡ true = eq-eqb n at here in
        subst (λ t. slice_get (slice_set bindings n (bound_by entry.call entry.reply)) t ≡ Some (bound_by entry.call entry.reply)) here
        (set_at bindings n (bound_by entry.call entry.reply) within)
        ∙ ap Some (sym (bound_more script asks seats before entry at (Some n) e
        ∙ ap (λ t. cond t (bound_by entry.call entry.reply) (binding_of script before at)) test))
    | inr other ↦
        let within : at < length bindings = omega (arith, lt, length-set bindings n (bound_by entry.call entry.reply)) in
        let test : eqb n at ≡ false = ne_eqb n at other in
        slice_get-set_other bindings n at (bound_by entry.call entry.reply) (λ z. other (sym z)) ∙ b.each at within
        ∙ ap Some (sym (bound_more script asks seats before entry at (Some n) e
        ∙ ap (λ t. cond t (bound_by entry.call entry.reply) (binding_of script before at)) test))
  ];
}

-- a name that a step gives is one of the script's
pub given_within : (script : Lines) (i at : ℕ) → NamesAreGiven (names_of script) script.declarations script.steps
    → given_by script i ≡ Some at → at < length (names_of script)
given_within script i at given by =
    let line = given_line script i at by in
    let port = given.steps i line.0 line.1 line.2 in
    omega (
      arith,
      slice_get_within (names_of script) (names_before script.declarations script.steps i) (port.0, called.Port (users.One port.1)) port.4,
      line.3,
    )

pub bind_within : (script : Lines) (history : History) (bindings : List Binding) (i : ℕ) (g : Option ℕ) → IsKnown script
    → AreBindings script history bindings → g ≡ given_by script i → IfSome g (λ at. at < length bindings)
bind_within script history bindings i None known bound given = tt
bind_within script history bindings i (Some at) known bound given =
    omega (arith, given_within script i at known.given (sym given), bound.all)

slice_get_replicated : {X : Type 0} (n i : ℕ) (x : X) → i < n → slice_get (replicate n x) i ≡ Some x
slice_get_replicated n i x lt =
    slice_get_read (replicate n x) (length (replicate n x)) i x refl (omega (arith, lt, length-replicate n x))
    (sym (get_or-replicate n i x x lt))

-- nothing was performed
pub unbound : (script : Lines) (n : ℕ) (history : History) → history ≡ [] → n ≡ length (names_of script)
    → AreBindings script history (replicate n binding.Unbound)
unbound script n history none all = record {
  all = length-replicate n binding.Unbound ∙ all;
  each = λ at lt. slice_get_replicated n at binding.Unbound (omega (arith, lt, length-replicate n binding.Unbound))
      ∙ ap (λ h. Some (binding_of script h at)) (sym none);
}

pub counted_none : (history : History) (counts : List ℕ) → history ≡ [] → counts ≡ replicate 64 0 → AreCounts history counts
counted_none history counts none all = subst (λ h. AreCounts h counts) (sym none) (subst (AreCounts []) (sym all) (record {
  seats = refl;
  each = λ thread lt. slice_get_replicated 64 thread 0 lt;
}))
