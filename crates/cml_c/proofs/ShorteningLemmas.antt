-- A journal that was read and is made short.
use Rattle.std.proofs.Common.{◌≡◌, ℕ, List, Option, None, refl, sym, ap, subst, ◌∙◌, inl, inr}
use Rattle.std.specs.Prelude.{Box}
use Rattle.std.specs.declared.alloc.Global.{Global}
use Rattle.std_alloc.specs.Box.{with_value}
use Rattle.cml_board.specs.{Entry, RestoredShown}
use Rattle.cml_compact.specs.{IsShortJournal, last_seat}
use Rattle.cml_journal.specs.{Halt, Progress, IsSoFar, IsRestored}
use Rattle.cml_c.specs.declared.code.Code.TheVariants.{Unlawful}
use Rattle.cml_c.specs.{Slot, Owned, Resource, number, ShortensBy, WritesShort, left_stopped, told_stopped}
use Rattle.cml_c.specs.declared.owned.Resource.TheVariants.{JournalCheck, Spent}

-- what is written of some entries is written of such entries
pub such_are_written : {M : Type 0} (IsSuch IsThis : List (Entry M) → Type 0) (wrap : Resource M → Owned) (from to : Slot)
    (before after told : ℕ) → ((entries : List (Entry M)) → IsThis entries → IsSuch entries)
    → WritesShort IsThis wrap from to before after told → WritesShort IsSuch wrap from to before after told
such_are_written IsSuch IsThis wrap from to before after told such (inl written) = inl (record {
  done = written.done;
  taken = written.taken;
  such = such written.taken.items written.such;
  written = written.written;
  count = written.count;
})
such_are_written IsSuch IsThis wrap from to before after told such (inr none) = inr none

module _ {M : Type 0} (version : ℕ) (meaning : List ℕ → Option M) (wrap : Resource M → Owned) (from : Slot) (before : ℕ)
    (reading : Box (Progress M) Global) where
  -- a reading gave a board, and its short journal is written
  pub is_shortened : (now : Progress M) (restored : RestoredShown M) (to : Slot) (after told : ℕ) → now ≡ reading.value
      → ((bytes : List ℕ) → IsSoFar version meaning bytes now → IsRestored version meaning bytes 1 restored)
      → WritesShort (IsShortJournal restored.board (last_seat restored.makers.seats)) wrap from to before after told
      → ShortensBy version meaning wrap from to before after reading Spent told
  is_shortened now restored to after told same read (inl written) =
      inl (record {
        gives = record {
          done = written.done;
          taken = written.taken;
          such = record {
            restored = restored;
            read = subst (λ (p : Progress M). (bytes : List ℕ) → IsSoFar version meaning bytes p
                → IsRestored version meaning bytes 1 restored) same read;
            short = written.such;
          };
          written = written.written;
          count = written.count;
        };
        spent = refl;
      })
  is_shortened now restored to after told same read (inr none) =
      inr (none.2, inr (record { code = none.0; kept = refl; slot = none.1 }))

  -- it gave none, and is as it was
  pub shortens_none : (now new : Progress M) (told : ℕ) → now ≡ reading.value → reading.value.halt ≡ None
      → (new ≡ now) × ((bytes : List ℕ) → IsSoFar version meaning bytes now → ⊥) → told ≡ number Unlawful
      → ShortensBy version meaning wrap from from before before reading (JournalCheck (with_value reading new)) told
  shortens_none now new told same running stopped code =
      inr (
        refl,
        inl (record {
          never = subst (λ (p : Progress M). (bytes : List ℕ) → IsSoFar version meaning bytes p → ⊥) same stopped.1;
          none = record {
            code = code ∙ ap (λ (h : Option Halt). number (told_stopped h)) (sym running);
            kept = ap (λ (p : Progress M). JournalCheck (with_value reading p)) (stopped.0 ∙ same)
                ∙ ap (λ (h : Option Halt). left_stopped reading h) (sym running);
            slot = refl;
          };
        }),
      )
