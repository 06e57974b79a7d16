-- What lines about views, and about the outline, ask for, over JSON values.
use Rattle.std.specs.Prelude.{◌≡◌, ℕ, List, [], ◌∷◌, codes, if◌then◌else◌, Option, None, Some, option_map, option_and_then}
use Rattle.std.specs.Option.{option_or}
use Rattle.std.specs.Str.{bytes_eq}
use Rattle.serde_json.specs.Data.{Data, object, no_members, member, Items, no_items, item}
use Rattle.serde_json.specs.Find.{as_array}
use Rattle.lx_node.specs.Limits.{last_u32}
use Rattle.lx_script.specs.Grammar.{IsJson}
use Rattle.lx_fields.specs.Values.{named, number_within}
use Rattle.lx_serving.specs.declared.asking.AboutViews.{AboutViews}
use Rattle.lx_serving.specs.declared.asking.AboutViews.TheVariants.{Attach, Deliver, Html, Detach}
use Rattle.lx_serving.specs.declared.asking.AboutOutline.{AboutOutline}
use Rattle.lx_serving.specs.declared.asking.AboutOutline.TheVariants.{Headings, LastEvents}

-- ---- which lines

-- the value of the member of that name, where an object has it and no other
abbrev pub sole_member : List ℕ → Data → Option Data
sole_member name (object (member other d no_members)) = if bytes_eq other name then Some d else None
sole_member name d = None

-- a line of a layer's own: an object whose only member is the one of the layer's name, with this value
pub record IsOwn (name line : List ℕ) (asked : Data) : Type 0 where
  pub value : Data
  pub json : IsJson line value
  pub sole : sole_member name value ≡ Some asked

-- any line that isn't a layer's own, JSON or not
abbrev pub IsOther : List ℕ → List ℕ → Type 0
IsOther name line = (value : Data) → IsJson line value → sole_member name value ≡ None

-- ---- what they ask for: "attach", ["deliver",V], ["html",V] or ["detach",V], where V is from 0 to 4,294,967,295

-- the word that asks for a new view
abbrev pub attaching : List (List ℕ × AboutViews)
attaching = (codes "attach", Attach) ∷ []

-- the words that ask something of one view
abbrev pub of_views : List (List ℕ × (ℕ → AboutViews))
of_views = (codes "deliver", λ v. Deliver v) ∷ (codes "html", λ v. Html v) ∷ (codes "detach", λ v. Detach v) ∷ []

-- what a word asks of the view of a number
abbrev pub asked_of : Data → Data → Option AboutViews
asked_of word said = option_and_then (λ v. option_map (λ asks. asks v) (named of_views word)) (number_within 0 last_u32 said)

-- two items: a word, and a view's number
abbrev pub about_one : Items → Option AboutViews
about_one (item word (item said no_items)) = asked_of word said
about_one items = None

-- what the value of the layer's member asks for, if it is of one of these forms
abbrev pub about_views : Data → Option AboutViews
about_views d = option_or (named attaching d) (option_and_then about_one (as_array d))

-- ---- what lines about the outline ask for: "outline" or "events"

-- the words that ask about the outline
abbrev pub of_outline : List (List ℕ × AboutOutline)
of_outline = (codes "outline", Headings) ∷ (codes "events", LastEvents) ∷ []

-- what the value of the layer's member asks for, if it is one of these words
abbrev pub about_outline : Data → Option AboutOutline
about_outline d = named of_outline d
