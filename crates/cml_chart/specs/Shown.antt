-- What was read, by the bytes of its words and not by where they lie in memory.
use Rattle.std.specs.Prelude.{ℕ, ◌+◌, List, length, map}
use Rattle.std.specs.Option.{option_map}
use denote.Ref.{Bor}
use Rattle.cml_chart.specs.declared.report.Actor.{Actor}
use Rattle.cml_chart.specs.declared.report.Actor.TheVariants as actor
use Rattle.cml_chart.specs.declared.report.Act.{Act}
use Rattle.cml_chart.specs.declared.report.Object.{Object}
use Rattle.cml_chart.specs.declared.report.End.{End}
use Rattle.cml_chart.specs.declared.report.Report.{Report}
use Rattle.cml_chart.specs.declared.report.Line.{Line as ReadLine}
use Rattle.cml_chart.specs.declared.report.Line.TheVariants as read
use Rattle.cml_chart.specs.declared.report.reading.Reading.{Reading}
use Rattle.cml_chart.specs.Reading.{SoFar, Told, report}
use Rattle.cml_chart.specs.Lines.{Words, Doer, thread, lane, feed, Deed, Thing, Ended, Line, deed, thing, ended}

abbrev pub texts : List (Bor (List ℕ)) → Words
texts words = map (λ w. w.now) words

abbrev pub shown_actor : Actor → Doer
shown_actor (actor.Thread name) = thread name.now
shown_actor (actor.Lane number) = lane number.now
shown_actor (actor.Feed number) = feed number.now

abbrev pub shown_act : Act → Deed
shown_act a = record {
  doer = shown_actor a.actor;
  verb = a.verb;
  word = a.word.now;
  object = a.object.now;
  with = option_map (λ (w : Bor (List ℕ)). w.now) a.with;
  reply = a.reply.now;
  line = a.line.now;
}

abbrev pub shown_object : Object → Thing
shown_object o = record { kind = o.kind.now; name = o.name.now; line = o.line.now }

abbrev pub shown_end : End → Ended
shown_end e = record { stop = e.stop.now; line = e.line.now }

abbrev pub shown_report : Report → Told
shown_report r = report (map shown_act r.acts.items) (map shown_object r.objects.items) (shown_end r.end)

abbrev pub shown_line : ReadLine → Line
shown_line (read.Act a) = deed (shown_act a)
shown_line (read.Object o) = thing (shown_object o)
shown_line (read.End e) = ended (shown_end e)

abbrev pub so_far : Reading → SoFar
so_far r = record { deeds = map shown_act r.acts.items; things = map shown_object r.objects.items; end = option_map shown_end r.end }

-- how many lines of the first and the second part there are
abbrev pub line_count : Reading → ℕ
line_count r = length r.acts.items + length r.objects.items
