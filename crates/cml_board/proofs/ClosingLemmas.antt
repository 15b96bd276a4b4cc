-- Only ports are closed.
use Rattle.std.proofs.Common.{◌≡◌, ℕ, Bool, true, false, not, cond, ◌&&◌, eqb, List, [], ◌∷◌, Option, Some, None, IsTrue}
use Rattle.std.proofs.Common.{IsSome, IfSome, refl, sym, ap, ◌∙◌}
use Rattle.std.specs.Option.{option_map}
use Rattle.std.proofs.lemmas.Option.{none-some, same_Some}
use Rattle.std.proofs.lemmas.Bool.{eqb-true, false≢true, true≢false}
use Rattle.cml_calls.specs.{Kind, is_port}
use Rattle.cml_calls.specs.declared.kind.Kind.TheVariants as kind
use Rattle.cml_board.specs.{Call, Reply, Entry, Origin, kind_by, Lawful, Fits, made, begun_by, if_made, origin_of, kind_of, is_open, closes}
use Rattle.cml_board.specs.{is_done}
use Rattle.cml_board.specs.declared.call.Call.TheVariants.{ClosePort}
use Rattle.cml_board.proofs.ListLemmas.{slice_get-append_some}

-- a kind that takes a close is a port's
port_kind : (k : Option Kind) → IsSome k → IfSome k (λ kind. IsTrue (is_port kind)) → k ≡ Some kind.Port
port_kind None some is = absurd (false≢true some)
port_kind (Some kind.Port) some is = refl
port_kind (Some other) some is = absurd (false≢true is)

map_some : (o : Option Origin) (k : Kind) → option_map kind_by o ≡ Some k → (origin : Origin) × (o ≡ Some origin) × (kind_by origin ≡ k)
map_some None k e = absurd (none-some k e)
map_some (Some origin) k e = (origin, refl, same_Some _ _ e)

module _ {M : Type 0} where
  -- an object stays of its kind
  pub kind_kept : (entry : Entry M) (before : List (Entry M)) (object : ℕ) (k : Kind) → kind_of before object ≡ Some k
      → kind_of (entry ∷ before) object ≡ Some k
  kind_kept entry before object k is =
      let found = map_some (origin_of before object) k is in
      ap (option_map kind_by) (slice_get-append_some (made before)
      (if_made entry.reply (begun_by (made before) before entry.call)) object found.0 found.1) ∙ ap Some found.2

  closed_by : (before : List (Entry M)) (call : Call M) (reply : Reply M) (object : ℕ) → Fits before call → closes call reply object ≡ true
      → kind_of before object ≡ Some kind.Port
  closed_by before (ClosePort name) reply object fits closed = by_name (eqb name.0 object) refl closed
    where
      by_name : (t : Bool) → eqb name.0 object ≡ t → cond t (is_done reply) false ≡ true → kind_of before object ≡ Some kind.Port
      by_name true e done = ap (kind_of before) (sym (eqb-true name.0 object e)) ∙ port_kind (kind_of before name.0) fits.0 fits.1
      by_name false e done = absurd (false≢true done)
  closed_by before call reply object fits closed = absurd (false≢true closed)

  -- what is closed is a port
  pub closed_is_port : (history : List (Entry M)) (object : ℕ) → Lawful history → is_open history object ≡ false
      → kind_of history object ≡ Some kind.Port
  closed_is_port [] object lawful closed = absurd (true≢false closed)
  closed_is_port (entry ∷ before) object lawful closed =
      by_cases (closed_is_port before object lawful.2) (is_open before object) (closes entry.call entry.reply object) refl refl closed
    where
      by_cases : (is_open before object ≡ false → kind_of before object ≡ Some kind.Port) → (o c : Bool) → is_open before object ≡ o
          → closes entry.call entry.reply object ≡ c → (o && not c) ≡ false → kind_of (entry ∷ before) object ≡ Some kind.Port
      by_cases earlier false c was now e = kind_kept entry before object kind.Port (earlier was)
      by_cases earlier true true was now e =
          kind_kept entry before object kind.Port (closed_by before entry.call entry.reply object lawful.0 now)
      by_cases earlier true false was now e = absurd (true≢false e)

  -- so a mailbox is always open
  pub mailbox_open : (history : List (Entry M)) (object : ℕ) → Lawful history
      → kind_of history object ≡ Some kind.Mailbox → is_open history object ≡ true
  mailbox_open history object lawful is = by_cases (is_open history object) refl
    where
      by_cases : (t : Bool) → is_open history object ≡ t → t ≡ true
      by_cases true e = refl
      by_cases false e =
          absurd (let clash : kind.Mailbox ≡ kind.Port = same_Some _ _ (sym is ∙ closed_is_port history object lawful e) in cc)
