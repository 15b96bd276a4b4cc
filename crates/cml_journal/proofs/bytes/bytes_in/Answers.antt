use Rattle.std.proofs.Common.{◌≡◌, ℕ, Bool, true, false, if◌then◌else◌, ◌==◌, ◌++◌, Some, None, length, ◌∙◌, ap, refl}
use Rattle.std.specs.Bool.{then_some}
use Rattle.std.specs.Global.{Vec}
use Rattle.std.specs.Option.{option_map}
use Rattle.cml_journal.specs.{bytes_in}
use Rattle.cml_journal.proofs.EscapeStepsLemmas.{goes_on, ends}
use Rattle.cml_journal.proofs.bytes.bytes_in.Goals as goal

pub loop-byte-preserved : goal.loop-byte-preserved
loop-byte-preserved c =
    ap (λ front. option_map (λ more. front ++ more) (bytes_in c.in-Some.later.now)) c.in_ok-push.ensures.items
    ∙ goes_on c.loop-byte.bytes.items c.loop-byte.rest.now c.in-Some.byte c.in-Some.later.now
    (bytes_in c.args.text.now) c.in-Some.ensures c.loop-byte.invariant

items_shown : (t : Bool) (v : Vec ℕ) → option_map (λ (v : Vec ℕ). v.items) (then_some t v) ≡ (if t then Some v.items else None)
items_shown true v = refl
items_shown false v = refl

pub returns : goal.returns
returns c =
    ap (option_map (λ (v : Vec ℕ). v.items)) (c.then_some.ensures ∙ ap (λ t. then_some t c.loop-byte.bytes) c.is_empty.ensures)
    ∙ items_shown (length c.loop-byte.rest.now == 0) c.loop-byte.bytes
    ∙ ends c.loop-byte.bytes.items c.loop-byte.rest.now (bytes_in c.args.text.now) c.in_default.ensures c.loop-byte.invariant
