-- The step that appends a text to a draft, as the edits that it makes.
use Rattle.std.specs.Prelude.{ℕ, List, [], ◌∷◌, Result, Ok}
use Rattle.lx_node.specs.declared.kind.Kind.TheVariants.{Paragraph, Text}
use Rattle.lx_node.specs.declared.cause.Cause.{Cause}
use Rattle.lx_node.specs.Plain.{plain_element, plain_text}
use Rattle.lx_forest.specs.Lookups.{size_of}
use Rattle.lx_draft.specs.Working.{Working}
use Rattle.lx_draft.specs.Faults.{after}
use Rattle.lx_draft.specs.Steps.{new_step, put_step}

-- a new text in a node without children
abbrev pub text_step : ℕ → List ℕ → Working → Result Working Cause
text_step parent text w = after (new_step Text (plain_text text) w) (λ v. put_step w.next_key parent 0 v)

-- a new text, unless it is empty
abbrev pub text_put : ℕ → List ℕ → Working → Result Working Cause
text_put parent [] w = Ok w
text_put parent (c ∷ text) w = text_step parent (c ∷ text) w

-- a new paragraph, the text in it, and the paragraph at the root's end
unfoldable pub appended : List ℕ → Working → Result Working Cause
appended text w =
    after (new_step Paragraph plain_element w) (λ made.
    after (text_put w.next_key text made) (λ full. put_step w.next_key 0 (size_of full.forest 0) full))
