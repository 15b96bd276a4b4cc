-- Which entries open a script's journal.
use Rattle.std.proofs.Common.{◌≡◌, ℕ, ◌≤◌, [], ◌∷◌, length, MatchBool, subst, arith}
use Rattle.std.proofs.lemmas.Bool.{lt-ltb}
use Rattle.cml_grammar.specs.{Lines}
use Rattle.cml_script.specs.{History, declared_count, IsDeclaration, IsOfScript, IsOfCaller, AreByMakers}

-- the declared objects are an opening
pub opens : (script : Lines) (history : History) → IsOfScript script history
    → length history ≤ declared_count script → AreByMakers script history
opens script [] own few = tt
opens script (entry ∷ before) own few =
    let first : IsDeclaration script before entry =
    subst (λ t. MatchBool t (IsDeclaration script before entry) (IsOfCaller script before entry entry.who))
    (lt-ltb (length before) (declared_count script) (omega (arith, few))) own.0 in
    (first.by, opens script before own.1 (omega (arith, few)))
