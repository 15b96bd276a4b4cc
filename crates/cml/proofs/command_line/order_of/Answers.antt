use Rattle.std.proofs.Common.{codes, ◌≡◌, ◌∙◌, ap, refl, sym, ℕ, Bool, true, false, bytes_eq, Option, Some}
use Rattle.clap.specs.Words.{Text, found_of, one_text}
use Rattle.cml.specs.{Finds, FindsFlag, FindsLimit, form_if, Order}
use Rattle.cml_report.specs.{Form}
use Rattle.cml.specs.declared.asked.Order.TheVariants.{Replay, Run, Explore, Check, Compact}
use Rattle.cml.proofs.command_line.order_of.Goals as goal

module _ (name : Text) (found : Text → Option Text) (limit : ℕ) (form : Form)
    (forms : (set : Bool) → FindsFlag found (codes "journal") set → form ≡ form_if set) where
  -- two words of one length are told apart faster so than by their letters' numbers
  apart : (a b : Text) → bytes_eq a b ≡ false → bytes_eq b b ≡ true → name ≡ a → name ≡ b → ⊥
  apart a b differ same is_a is_b = let odd : false ≡ true = sym differ ∙ ap (λ n. bytes_eq n b) (sym is_a ∙ is_b) ∙ same in cc

  performs : ((l : ℕ) → FindsLimit found (codes "limit") l → limit ≡ l) → (order : Order) → Finds name found order
      → (name ≡ codes "replay" → ◌≡◌ {A = Option Order} (Some (Replay limit form)) (Some order))
      × (name ≡ codes "run" → ◌≡◌ {A = Option Order} (Some (Run limit form)) (Some order))
  performs limits (Replay l f) has = (λ is. cc (limits l has.1.0, forms has.1.1 has.1.2), λ is. cc)
  performs limits (Run l f) has = (λ is. cc, λ is. cc (limits l has.1.0, forms has.1.1 has.1.2))
  performs limits (Explore l f) has = (λ is. cc, λ is. cc)
  performs limits (Check state) has = (λ is. cc, λ is. cc)
  performs limits Compact has = (λ is. cc, λ is. cc)

  explores : ((l : ℕ) → FindsLimit found (codes "states") l → limit ≡ l) → (order : Order) → Finds name found order
      → name ≡ codes "explore" → ◌≡◌ {A = Option Order} (Some (Explore limit form)) (Some order)
  explores limits (Explore l f) has is = cc (limits l has.1.0, forms has.1.1 has.1.2)
  explores limits (Replay l f) has is = absurd (apart (codes "replay") (codes "explore") refl refl has.0 is)
  explores limits (Run l f) has is = absurd (apart (codes "run") (codes "explore") refl refl has.0 is)
  explores limits (Check state) has is = absurd (apart (codes "check") (codes "explore") refl refl has.0 is)
  explores limits Compact has is = absurd (apart (codes "compact") (codes "explore") refl refl has is)

pub returns-in-replay : goal.returns-in-replay
returns-in-replay c = λ order has. (performs c.args.name.now (one_text (found_of c.args.found.now)) c.limit_in.result c.form_in.result
    c.form_in.ensures c.limit_in.ensures order has).0 c.in-replay.is

pub returns-in-run : goal.returns-in-run
returns-in-run c = λ order has. (performs c.args.name.now (one_text (found_of c.args.found.now)) c.limit_in-in-run.result
    c.form_in-in-run.result c.form_in-in-run.ensures c.limit_in-in-run.ensures order has).1 c.in-run.is

pub returns-in-explore : goal.returns-in-explore
returns-in-explore c = λ order has. explores c.args.name.now (one_text (found_of c.args.found.now)) c.states_in.result
    c.form_in-in-explore.result c.form_in-in-explore.ensures c.states_in.ensures order has c.in-explore.is
