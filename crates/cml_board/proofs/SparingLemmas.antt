-- Where want of memory refuses a call, the call needed more than what was reserved.
use Rattle.std.proofs.Common.{◌≡◌, ℕ, ◌-◌, ◌<◌, ◌%◌, ◌||◌, Bool, true, false, not, List, length, Some, refl, sym, ap, ◌∙◌, arith}
use Rattle.std.proofs.lemmas.Bool.{false≢true, true≢false, eq-eqb}
use Rattle.cml_log.specs.Log.{Log}
use Rattle.cml_log.specs.{next_of}
use Rattle.cml_board.specs.{Call, Name, Entry, given_call, adds, answer, made, sent, facts_of, log_at, HasLog, IsSpared, tells_name}
use Rattle.cml_board.specs.{tells_message, has_message, fills_chunk, ends_chunk, shares}
use Rattle.cml_board.specs.Shown.{Shown}
use Rattle.cml_board.specs.Keeps.{Keeps}
use Rattle.cml_board.specs.declared.entry.Reply.TheVariants.{Made, Got}
use Rattle.cml_calls.specs.{Give}
use Rattle.cml_calls.specs.declared.table.Give.TheVariants as give
use Rattle.cml_board.proofs.StandingLemmas.{next_is}

or_true : (b c : Bool) → b ≡ true → (b || c) ≡ true
or_true true c e = refl
or_true false c e = absurd (false≢true e)

or_right : (b c : Bool) → c ≡ true → (b || c) ≡ true
or_right true c e = refl
or_right false c e = e

unsure : (sure shared : Bool) → sure ≡ false → shared ≡ true → (sure || not shared) ≡ true → ⊥
unsure true shared never is spared = true≢false never
unsure false true never is spared = false≢true spared
unsure false false never is spared = false≢true is

module _ {M : Type 0} where
  -- nothing was reserved
  pub no_room : {chunk : ℕ} {sure : Bool} {a b : Shown M} (call : Call M) → a ≡ b → a.reserved < 1 → ¬ (IsSpared chunk sure b call)
  no_room {chunk} {sure} {a} {b} call view none = λ spared. omega (arith, none, spared.reserved, ap (λ (s : Shown M). s.reserved) view)

  -- it makes an object
  pub making_takes : {chunk : ℕ} {sure : Bool} (board : Shown M) (call : Call M) (name : Name)
      → answer board.history call ≡ Some (Made name) → ¬ (IsSpared chunk sure board call)
  making_takes {chunk} {sure} board call name answers = λ spared. true≢false (sym (ap tells_name answers) ∙ spared.makes_none)

  -- its message is shared
  pub call_takes : {chunk : ℕ} {sure : Bool} (board : Shown M) (call : Call M) → has_message call ≡ true → sure ≡ false
      → ¬ (IsSpared chunk sure board call)
  call_takes {chunk} {sure} board call has never = λ spared.
      unsure sure (shares board.history call) never
      (or_true (has_message call) (tells_message (answer board.history call)) has) spared.shares_none

  -- each call that gives a message has one
  pub gives_message : (gives : Give) (name : Name) (message : M) → has_message (given_call gives name message) ≡ true
  gives_message give.Send name message = refl
  gives_message other name message = refl

  -- a message is shared for its answer
  pub answer_takes : {chunk : ℕ} {sure : Bool} (board : Shown M) (call : Call M) (message : M)
      → answer board.history call ≡ Some (Got message) → sure ≡ false → ¬ (IsSpared chunk sure board call)
  answer_takes {chunk} {sure} board call message answers never = λ spared.
      unsure sure (shares board.history call) never
      (or_right (has_message call) (tells_message (answer board.history call)) (ap tells_message answers)) spared.shares_none

  fills : (chunk : ℕ) (h : List (Entry M)) (gives : Give) (name : Name) (message : M) → adds gives ≡ true
      → ends_chunk chunk (length (sent h name.0)) ≡ true
      → fills_chunk chunk h (given_call gives name message) ≡ true
  fills chunk h give.Send name message is ends = ends
  fills chunk h give.Cast name message is ends = ends
  fills chunk h other name message is ends = absurd (true≢false (sym is))

  -- it fills a chunk
  pub filling_takes : (chunk : ℕ) {sure : Bool} {a b : Shown M} (gives : Give) (name : Name) (message : M) → adds gives ≡ true → a ≡ b
      → Keeps chunk a → HasLog b.objects name.0
      → ((log : Log M) → log_at a.objects name.0 ≡ Some log → next_of log % chunk ≡ chunk - 1)
      → ¬ (IsSpared chunk sure b (given_call gives name message))
  filling_takes chunk {sure} {a} {b} gives name message is view keeps stands full = λ spared.
      let found : log_at a.objects name.0 ≡ Some stands.log = ap (λ (s : Shown M). log_at s.objects name.0) view ∙ stands.found in
      let next = next_is chunk (length (made a.history)) (facts_of a.history) a.objects name.0 stands.log keeps.shows found in
      let sent_is : next_of stands.log ≡ length (sent b.history name.0) = next
      ∙ ap (λ (s : Shown M). length (sent s.history name.0)) view in
      let ends : length (sent b.history name.0) % chunk ≡ chunk - 1 = ap (λ n. n % chunk) (sym sent_is) ∙ full stands.log found in
      true≢false (sym (fills chunk b.history gives name message is (eq-eqb (length (sent b.history name.0) % chunk) (chunk - 1) ends))
      ∙ spared.fills_none)
