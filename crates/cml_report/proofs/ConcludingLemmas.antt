-- When what was taken of a feed is what its port received.
use Rattle.std.proofs.Common.{◌≡◌, ℕ, Bool, false, Option, Some, None, sym, ap, ◌∙◌}
use Rattle.std.specs.Prelude.{◌↔◌, IsTrue, unwrap_or, is_none}
use Rattle.std.specs.Option.{option_map}
use Rattle.std.proofs.lemmas.Option.{same_Some, none-some}
use Rattle.std.proofs.lemmas.Bool.{false≢true}
use Rattle.cml_board.specs.{Name, got_count}
use Rattle.cml_grammar.specs.{Lines}
use Rattle.cml_report.specs.{History, feed_at, declared_object, Tallied, taken_from, taken_by, IsTakenAt}

pub named_object : (o : Option ℕ) (name : Name) → Some name ≡ option_map (λ n. record { 0 = n }) o → o ≡ Some name.0
named_object None name is = absurd (none-some name (sym is))
named_object (Some n) name is = ap Some (sym (ap (λ (x : Name). x.0) (same_Some _ _ is)))

pub taken_iff : (script : Lines) (history : History) (tally : Tallied) (at object taken got : ℕ) (feed : Option ℕ) (t : Bool)
    → (IsTrue t → taken ≡ got) → (taken ≡ got → IsTrue t)
    → feed ≡ feed_at script at → is_none feed ≡ false → declared_object script history at ≡ Some object → taken ≡ taken_from tally feed
    → got ≡ unwrap_or (got_count history object) 0
    → IsTrue t ↔ IsTakenAt script history tally at
taken_iff script history tally at object taken got None t to from is some made takes gets = absurd (false≢true (sym some))
taken_iff script history tally at object taken got (Some feed) t to from is some made takes gets =
    let by : taken ≡ taken_by script tally at = takes ∙ ap (taken_from tally) is in (
      (λ yes f o there here.
          let same : got ≡ unwrap_or (got_count history o) 0 = gets
          ∙ ap (λ n. unwrap_or (got_count history n) 0) (same_Some object o (sym made ∙ here)) in
          sym by ∙ to yes ∙ same),
      (λ all. from (by ∙ all feed object (sym is) made ∙ sym gets)),
    )
