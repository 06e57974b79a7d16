-- What is said of an outline holds no float, so its bytes are its text.
use Rattle.std.proofs.Common.{◌≡◌, ◌∙◌, ap, refl, ℕ, List, [], ◌∷◌, false, map}
use Rattle.serde_json.specs.Data.{Data}
use Rattle.serde_json.specs.View.{items_of}
use Rattle.serde_json.specs.Written.{compact_text, has_float, items_have_float}
use Rattle.lx_forest.specs.Forest.{Forest}
use Rattle.lx_forest.specs.Lookups.{preorder}
use Rattle.lx_outline.specs.Outline.{entries_among}
use Rattle.lx_outline.specs.declared.event.Event.{Event}
use Rattle.lx_outline.specs.declared.event.Event.TheVariants.{Destroyed, Created, Updated}
use Rattle.lx_outline.specs.declared.headings.Entry.{Entry}
use Rattle.lx_serving.specs.Outlining.{about_data, entry_data, event_data}
use Rattle.lx_serving.specs.declared.asking.AboutOutline.{AboutOutline}
use Rattle.lx_serving.specs.declared.asking.AboutOutline.TheVariants.{Headings, LastEvents}

whole_entries : (entries : List Entry) → items_have_float (items_of (map entry_data entries)) ≡ false
whole_entries [] = refl
whole_entries (e ∷ entries) = whole_entries entries

whole_events : (events : List Event) → items_have_float (items_of (map event_data events)) ≡ false
whole_events [] = refl
whole_events (Destroyed k ∷ events) = whole_events events
whole_events (Created k ∷ events) = whole_events events
whole_events (Updated k ∷ events) = whole_events events

whole_about : (about : AboutOutline) (f : Forest) (events : List Event) → has_float (about_data about f events) ≡ false
whole_about Headings f events = rw (whole_entries (entries_among f (preorder f))) refl
whole_about LastEvents f events = rw (whole_events events) refl

pub text_about : (about : AboutOutline) (f : Forest) (events : List Event) (d : Data) (bytes : List ℕ) → d ≡ about_data about f events
    → (has_float d ≡ false → bytes ≡ compact_text d) → bytes ≡ compact_text (about_data about f events)
text_about about f events d bytes is written = written (ap has_float is ∙ whole_about about f events) ∙ ap compact_text is
