pub mod Input
pub mod Words
pub mod Names
pub mod Forms
pub mod Faults
pub mod Script
pub mod Meaning
pub mod Giving
pub mod Rings
pub mod Reading
pub mod Shown
pub mod Flaws
pub mod Suiting
pub mod Laws
pub mod Statuses
-- the names that others import from here
pub use Input.{IsReadUpTo}
pub use Words.{has_empty_word, is_bad_byte, is_skipped, parts_of, words_of}
pub use Names.{Given, is_called, is_capacity, is_given, is_letter, is_name, is_name_byte, is_number, is_reserved, kind_named, kind_of_named}
pub use Names.{named, position_of, seat_in, seat_of, thread_count}
pub use Forms.{asked_place, declaration, declared_places, declares_of, form_of, fresh_word, is_fresh, is_lane_word, is_name_place}
pub use Forms.{is_others, is_poll, is_used, lane, lane_places, named_by, no_step, owner_of, places_of, rest_of, seat_of_form, step}
pub use Forms.{step_form, step_places, suits, unknown, verb_of}
pub use Faults.{Ends, IsFaultOf, IsWhat, Scope, after, after_words, any_word, are_same, at_line, declares_thread, ends_by, fault_at}
pub use Faults.{fault_at_end, fault_from, fault_in, fault_in_words, fault_of, first_of, given_as, gives, is_bad_header, is_bad_name}
pub use Faults.{is_bad_number, is_bad_text, is_declaration, is_declaring, is_lane, is_lane_taken, is_late, is_no_step, is_not_yours}
pub use Faults.{is_step, is_taken, is_unknown, is_unknown_name, is_wrong_kind, lays, says, start, tests_of_form, version_in, version_of}
pub use Script.{IsScript, Lines, Says, SourceLine, source, with_line}
pub use Meaning.{action_by, action_of, all_ends, asked_by, ends_of, feed_by, makes_by, makes_of, names_of, scope_after, scope_of}
pub use Meaning.{seat_of_step}
pub use Giving.{GivesDeclared, GivesPort, IsGivenAt, NamesAreGiven, asked_word, declared_word, is_giving, names_before}
pub use Rings.{Laid, capacity_of, declares_feed, first_feed, first_lane, first_ring, is_feed, lane_by, lane_of, lesser, makes_feed}
pub use Reading.{Gives, GivesAt, GivesNames, IsCapacity, IsChannelAt, IsFeedAt, IsMadeWell, IsMailboxAt, IsPortAt, IsReadSoFar, IsReading}
pub use Reading.{IsSeat, IsSeatedWithin, IsTargetAt, IsVariableAt, IsYours, MayUse, ReadsDeclaration, ReadsLane, ReadsStep, UsesEarlier}
pub use Reading.{UsesWell, capacities_of, gives_name, source_of, texts_of, threads_by, used_by, view_of, with_next, with_words}
pub use Shown.{shown}
pub use Flaws.{has_flaw}
pub use Suiting.{AllSuit, IsSuitedAt, IsUsed, Suits}
pub use Laws.{FaultlessTextsAreScripts, NumbersArePrinted, NumbersAreTexts, PrintedNumbersAreRead, ScriptsHaveNoFault, TextsAreOneScript}
pub use Laws.{WordsMakeLines}
pub use Statuses.{EndsUnordered, IsShowing, error_status}
pub use declared.fault.Fault.{Fault}
pub use declared.fault.What.{What}
pub use declared.forms.Action.{Action}
pub use declared.forms.Declares.{Declares}
pub use declared.forms.FeedMaking.{FeedMaking}
pub use declared.forms.Makes.{Makes}
pub use declared.forms.Place.{Place}
pub use declared.forms.Verb.{Verb}
pub use declared.input.Unread.{Unread}
pub use declared.names.Named.{Named}
pub use declared.names.Users.{Users}
pub use declared.script.Declaration.{Declaration}
pub use declared.script.Lane.{Lane}
pub use declared.script.Line.{Line}
pub use declared.script.Step.{Step}
