-- Names as they are kept, by their bytes, and lines, by their words.
use Rattle.std.proofs.Common.{◌≡◌, ℕ, suc, Bool, true, false, List, [], ◌∷◌, ◌++◌, ◌||◌, position, Some, refl, sym, ap}
use Rattle.std.proofs.Common.{◌∙◌, cond, if◌then◌else◌, String, string_bytes}
use Rattle.std.specs.Global.{Global}
use Rattle.std.specs.List.{list_any, join_with_byte}
use Rattle.std.specs.Option.{option_map}
use Rattle.std.specs.Str.{bytes_eq}
use Rattle.std.specs.String.{string_eq}
use Rattle.std.proofs.lemmas.List.{map-append}
use Rattle.std.proofs.lemmas.List.Splits.{join_with_byte-slice_split}
use Rattle.indexmap.specs.IndexSet.{insert_key}
use Rattle.cml_grammar.specs.{words_of}
use Rattle.cml_grammar.proofs.ListLemmas.{position-cons}
use Rattle.cml_chart.specs.{names_of, is_among, with_name, column_of}

pub among_texts : (keys : List (String Global)) (word : List ℕ)
    → list_any (λ k. bytes_eq word (string_bytes k)) keys ≡ is_among (names_of keys) word
among_texts [] word = refl
among_texts (k ∷ ks) word = ap (λ t. bytes_eq word (string_bytes k) || t) (among_texts ks word)

pub column_texts : (keys : List (String Global)) (word : List ℕ)
    → position (λ k. bytes_eq word (string_bytes k)) keys ≡ column_of (names_of keys) word
column_texts [] word = refl
column_texts (k ∷ ks) word =
    position-cons (λ k. bytes_eq word (string_bytes k)) k ks
    ∙ ap (λ r. cond (bytes_eq word (string_bytes k)) (Some 0) (option_map suc r)) (column_texts ks word)
    ∙ sym (position-cons (bytes_eq word) (string_bytes k) (names_of ks))

-- a name that is put in goes after the others, if it is not among them
pub put_in : (keys : List (String Global)) (name : String Global)
    → names_of (insert_key string_eq keys name) ≡ with_name (names_of keys) (string_bytes name)
put_in keys name = by (list_any (string_eq name) keys)
    ∙ ap (λ t. if t then names_of keys else names_of keys ++ string_bytes name ∷ []) (among_texts keys (string_bytes name))
  where
    by : (t : Bool) → names_of (if t then keys else keys ++ name ∷ [])
        ≡ (if t then names_of keys else names_of keys ++ string_bytes name ∷ [])
    by true = refl
    by false = map-append string_bytes keys (name ∷ [])

-- a line's words, with a space between each two, are the line
pub words_make_line : (line : List ℕ) → join_with_byte 32 (words_of line) ≡ line
words_make_line line = join_with_byte-slice_split 32 line
