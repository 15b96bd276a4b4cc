use Rattle.std.proofs.Common.{◌≡◌, Bool, is_some, refl, string_bytes, ap, subst, ◌∙◌}
use Rattle.cml_board.specs.{count_of}
use Rattle.cml_journal.specs.{State, last_sum}
use Rattle.cml.specs.{IsCompactOf}
use Rattle.cml.proofs.EndingsLemmas.{same_state}
use Rattle.cml.proofs.check.checking.compact_of.Goals as goal

pub returns-in_ok-compacted-in-Some : goal.returns-in_ok-compacted-in-Some
returns-in_ok-compacted-in-Some g c = λ bytes so is.
    let check = c.args.check.now in
    let count = count_of check.checker in
    let same = same_state g.M.Written.VERSION g.M.Written.meaning g.M.Written.text bytes check count so is in
    let sealed : c.is_some-sealed.result ≡ is_some (last_sum is.state) = c.is_some-sealed.ensures ∙ ap is_some c.sum.ensures
    ∙ ap (λ (s : State). is_some (last_sum s)) same in
    record {
      short = refl;
      count = count;
      is = is;
      restored = c.in-Some.restored;
      left = c.in-Some.ensures.restored bytes so;
      says = subst (λ (b : Bool). IsCompactOf g.M.Written.VERSION g.M.Written.text b c.in-Some.restored
          (string_bytes c.in_ok-compacted-in-Some.field-0)) sealed c.in_ok-compacted-in-Some.ensures.made;
    }
