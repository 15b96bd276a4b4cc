use Rattle.std.proofs.Common.{◌+◌, ◌<◌, ◌^◌, ℕ, List, length, inl, inr, subst, arith}
use Rattle.cml_c.specs.declared.code.Code.TheVariants.{NoMemory}
use Rattle.cml_c.specs.{IsHanded}
use Rattle.cml_c.proofs.texts.hand_over_text.Goals as goal

pub returns-in-Ok : goal.returns-in-Ok
returns-in-Ok g c =
    let within : c.args.from + length c.args.entries.now < 2 ^ 64 = omega (arith, c.if-entries-from.false) in
    elim c.hand_over_new.ensures [
      | inl done ↦ inl (
        within,
        done.0,
        c.in-Ok.ensures.short,
        subst (λ (text : List ℕ). IsHanded text c.hand_over_new.new.message) c.in-Ok.ensures.text done.1,
      )
      | inr none ↦ inr (inl (within, (NoMemory, none.0, tt), none.2))
    ]
