-- The columns of a chart, by their names.
use Rattle.std.specs.Prelude.{ℕ, suc, Bool, true, false, List, [], ◌∷◌, ◌++◌, map, Option, Some, None, String, string_bytes}
use Rattle.std.specs.Prelude.{position, codes, if◌then◌else◌}
use Rattle.std.specs.Global.{Global}
use Rattle.std.specs.List.{list_any}
use Rattle.std.specs.Option.{option_map_or}
use Rattle.std.specs.Str.{bytes_eq}
use Rattle.cml_chart.specs.Threads.{Standing}
use Rattle.cml_chart.specs.Lines.{Words, Doer, thread, lane, feed, Deed, Thing}

-- what the column of who acts is called
abbrev pub doer_text : Doer → List ℕ
doer_text (thread name) = name
doer_text (lane number) = codes "lane " ++ number
doer_text (feed number) = codes "feed " ++ number

abbrev pub names_of : List (String Global) → Words
names_of keys = map string_bytes keys

-- the column of a name, from 0
abbrev pub column_of : Words → List ℕ → Option ℕ
column_of names word = position (bytes_eq word) names

abbrev pub is_among : Words → List ℕ → Bool
is_among names word = list_any (bytes_eq word) names

-- the names, and after them one that is not among them yet
abbrev pub with_name : Words → List ℕ → Words
with_name names word = if is_among names word then names else names ++ word ∷ []

-- .. and after them those of these, each once
abbrev pub each_once : Words → List (Option (List ℕ)) → Words
each_once names [] = names
each_once names (found ∷ later) = each_once (option_map_or (with_name names) found names) later

-- who acts in a line, where it is a thread, or where lanes and feeds are asked for one of those
abbrev pub doer_in : Bool → Deed → Option (List ℕ)
doer_in rings d = named_in rings d.doer
  where
    named_in : Bool → Doer → Option (List ℕ)
    named_in false (thread name) = Some name
    named_in true (thread name) = None
    named_in false doer = None
    named_in true doer = Some (doer_text doer)

-- the name of a thread of the script
abbrev pub name_in : Standing → Option (List ℕ)
name_in s = Some s.name

-- the threads of the script, those others that act, and then the lanes and feeds, each in the order of their first lines
abbrev pub threads_of : List Standing → List Deed → Words
threads_of threads deeds = each_once (each_once [] (map name_in threads)) (map (doer_in false) deeds)

abbrev pub doers_of : List Standing → List Deed → Words
doers_of threads deeds = each_once (threads_of threads deeds) (map (doer_in true) deeds)

-- the number of the first line, where these have numbers from k on, whose object has the name of an earlier column
abbrev pub taken_from : Words → ℕ → List Thing → Option ℕ
taken_from names k [] = None
taken_from names k (t ∷ ts) = if is_among names t.name then Some k else taken_from (names ++ t.name ∷ []) (suc k) ts
