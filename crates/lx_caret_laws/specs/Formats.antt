-- What it means to format what is selected in a text.
use Rattle.std.specs.Prelude.{ℕ, ◌^◌, ◌≡◌, ◌≢◌, true, false, not, map, List, [], ◌∷◌, ◌++◌, Some, Ok}
use Rattle.lx_node.specs.declared.fields.TextFields.{TextFields}
use Rattle.lx_text.specs.Texts.{text_length, front_of, rest_of, slice_of}
use Rattle.lx_forest.specs.Forest.{Forest}
use Rattle.lx_forest.specs.Lookups.{has, label_of, kind_of, fields_of, parent_of, children_of}
use Rattle.lx_draft.specs.Working.{Working}
use Rattle.lx_edit_laws.specs.Reading.{in_place_of}
use Rattle.lx_caret.specs.Formatting.{has_bit, excluded, switched, format_at, format_text_step}
use Rattle.lx_caret_laws.specs.Deleting.{IsSelectedIn}
use Rattle.lx_caret_laws.specs.Reading.{said, said_by}

-- the formats of what a node says, one for each character
abbrev pub formats_said : Forest → ℕ → List ℕ
formats_said f k = map (λ c. format_at f k) (said f k)

-- the formats of what nodes say, one after another
abbrev pub formats_by : Forest → List ℕ → List ℕ
formats_by f [] = []
formats_by f (k ∷ ks) = formats_said f k ++ formats_by f ks

-- one format for each of these characters
abbrev pub all_of : ℕ → List ℕ → List ℕ
all_of format text = map (λ c. format) text

-- a format with a bit set if it doesn't have it, and else cleared
abbrev pub turned : ℕ → ℕ → ℕ
turned bit format = switched (not (has_bit bit format)) bit format

-- Texts stand in the place of the text k and say what it said. What was selected has the bit switched: set if the text didn't have
-- it, and else cleared. All other characters have their format still, and each other node its label.
pub record IsFormattedIn (bit k from to : ℕ) (text : TextFields) (w v : Working) : Type 0 where
  pub texts : List ℕ
  pub order : (p : ℕ) → parent_of w.forest k ≡ Some p → children_of v.forest p ≡ in_place_of k texts (children_of w.forest p)
  pub read : said_by v.forest texts ≡ text.text
  pub formats : formats_by v.forest texts ≡ all_of text.format (front_of from text.text) ++
      (all_of (turned bit text.format) (slice_of from to text.text) ++ all_of text.format (rest_of to text.text))
  pub others : (q : ℕ) → has q w.forest ≡ true → q ≢ k → label_of v.forest q ≡ label_of w.forest q

-- each node has its kind, its fields, its place and its children as before
pub record IsAsBefore (w v : Working) : Type 0 where
  pub kind : (q : ℕ) → kind_of v.forest q ≡ kind_of w.forest q
  pub fields : (q : ℕ) → fields_of v.forest q ≡ fields_of w.forest q
  pub parent : (q : ℕ) → parent_of v.forest q ≡ parent_of w.forest q
  pub children : (q : ℕ) → children_of v.forest q ≡ children_of w.forest q

-- what is selected in a normal text has a format switched, and nothing else has; to switch it again gives back what was
pub record FormattingIsExact : Type 0 where
  pub switched_there : (bit k from to format : ℕ) (text : TextFields) (w v : Working) → IsSelectedIn k from to format text w →
      format_text_step bit w ≡ Ok v → IsFormattedIn bit k from to text w v
  -- a format has the bit then exactly if it didn't have it
  pub has_it : (i format : ℕ) → has_bit (2 ^ i) (turned (2 ^ i) format) ≡ not (has_bit (2 ^ i) format)
  -- switched twice it is as before, unless it had the bit that this one excludes
  pub back : (i format : ℕ) → has_bit (excluded (2 ^ i)) format ≡ false → turned (2 ^ i) (turned (2 ^ i) format) ≡ format
  -- so a whole text that is formatted twice, and every other node, is as before
  pub twice : (i k format : ℕ) (text : TextFields) (w u v : Working) → IsSelectedIn k 0 (text_length text.text) format text w →
      has_bit (excluded (2 ^ i)) text.format ≡ false → format_text_step (2 ^ i) w ≡ Ok u → format_text_step (2 ^ i) u ≡ Ok v → IsAsBefore w v
