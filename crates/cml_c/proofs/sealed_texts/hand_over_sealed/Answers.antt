use Rattle.std.proofs.Common.{◌+◌, ◌<◌, ◌^◌, length, inl, inr, refl, arith}
use Rattle.cml_c.specs.declared.code.Code.TheVariants.{NoMemory}
use Rattle.cml_c.proofs.sealed_texts.hand_over_sealed.Goals as goal

pub returns-else-code-number : goal.returns-else-code-number
returns-else-code-number g c =
    let within : c.args.from + length c.args.entries.now < 2 ^ 64 = omega (arith, c.if-entries-from.false) in
    elim c.hand_over_new-code.ensures [
      | inl done ↦ absurd (omega (arith, done.0, c.number-in-Ok.ensures, c.if-code-number.false))
      | inr none ↦ inr (inl (within, (NoMemory, none.0, tt), refl, none.2))
    ]
