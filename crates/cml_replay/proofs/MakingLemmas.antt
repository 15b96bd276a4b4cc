-- What a declaration makes is the next object.
use Rattle.std.proofs.Common.{◌≡◌, ℕ, ◌<◌, true, false, List, length, take, slice_get, Some, refl, ap, ◌∙◌, arith}
use Rattle.std.specs.Option.{option_map, option_map_or, option_and_then}
use Rattle.std.proofs.lemmas.Option.{slice_get_within}
use Rattle.cml_board.specs.{Call}
use Rattle.cml_board.specs.declared.call.Call.TheVariants as call
use Rattle.cml_calls.specs.declared.kind.Kind.TheVariants as kind
use Rattle.cml_grammar.specs.declared.names.Named.TheVariants as called
use Rattle.cml_grammar.specs.{Makes, SourceLine, names_of, makes_of, Declaration, source_of, ReadsDeclaration, IsMadeWell, IsChannelAt}
use Rattle.cml_grammar.specs.declared.forms.Makes.TheVariants as makes
use Rattle.cml_report.specs.{NamesObjects, how_many, objects_of, call_in, making_call, makes_object, is_object, declared_object}
use Rattle.cml_replay.specs.{Executed, IsNextObject, IsNextPort, IsNext}
use Rattle.cml_report.proofs.ListLemmas.{filter_at, counted_mono}
use Rattle.cml_report.proofs.KindLemmas.{counted_below, kind_object, object_made}

-- what a declaration makes is the next object, where those before it are made
pub next_object : (executed : Executed) (names : NamesObjects executed.script) (i : ℕ) (d : Declaration)
    → length executed.history ≡ how_many (is_object executed.script) (take i executed.script.declarations)
    → slice_get executed.script.declarations i ≡ Some (source_of d.line) → ReadsDeclaration (names_of executed.script) d
    → IsMadeWell (names_of executed.script) i d.makes → IsNext executed d.makes
next_object executed names i d made found reads uses = by_makes d.makes refl uses
  where
    line : SourceLine
    line = source_of d.line

    next : (m : Makes) (c : Call (List ℕ)) → d.makes ≡ m → makes_object m ≡ true
        → making_call (declared_object executed.script executed.history) m ≡ Some c → IsNextObject executed c
    next m c e object making =
        let makes : makes_of (names_of executed.script) line.words ≡ Some m = reads.makes ∙ ap Some e in
        let is : is_object executed.script line ≡ true = ap (λ o. option_map_or makes_object o false) makes ∙ object in
        let there = filter_at (is_object executed.script) executed.script.declarations i line found is in
        record {
          left = omega (arith, made, counted_below (is_object executed.script) executed.script.declarations i line found is);
          makes =
              ap (λ n. option_and_then (call_in executed.script executed.history) (slice_get (objects_of executed.script) n)) made
              ∙ ap (option_and_then (call_in executed.script executed.history)) there
              ∙ ap (option_and_then (making_call (declared_object executed.script executed.history))) makes ∙ making;
        }

    port_next : (source : ℕ) (m : Makes) → d.makes ≡ m → makes_object m ≡ true
        → making_call (declared_object executed.script executed.history) m
        ≡ option_map (λ n. call.NewPort (record { 0 = n })) (declared_object executed.script executed.history source)
        → IsChannelAt (names_of executed.script) source → source < i → IsNextPort executed source
    port_next source m e object making is_channel earlier =
        let within : source < length executed.script.declarations =
        omega (arith, earlier, slice_get_within executed.script.declarations i line found) in
        let given = names source kind.Channel within (is_channel.0, called.Channel, is_channel.1, refl) in
        let below = counted_mono (is_object executed.script) executed.script.declarations source i given.0 earlier given.1
        (kind_object executed.script given.0 kind.Channel given.2) in
        let there = object_made executed.script executed.history source (omega (arith, below, made)) in
        let o : ℕ = how_many (is_object executed.script) (take source executed.script.declarations) in (
          is_channel,
          within,
          o,
          there,
          next m (call.NewPort (record { 0 = o })) e object (making ∙ ap (option_map (λ n. call.NewPort (record { 0 = n }))) there),
        )

    by_makes : (m : Makes) → d.makes ≡ m → IsMadeWell (names_of executed.script) i m → IsNext executed m
    by_makes makes.Thread e uses = tt
    by_makes (makes.Port source) e (is_channel, earlier) = port_next source (makes.Port source) e refl refl is_channel earlier
    by_makes (makes.Feed feed) e (is_channel, earlier, seat, capacity) =
        port_next feed.channel (makes.Feed feed) e refl refl is_channel earlier
    by_makes m e uses = next m _ e refl refl
