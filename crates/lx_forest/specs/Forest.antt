-- Forests: nodes in nested lists, as a reader of an editor state thinks of them.
use Rattle.std.specs.Prelude.{ℕ, List}
use Rattle.lx_trees.specs.Trees.{Trees, nil, tree, joined}
use Rattle.lx_node.specs.declared.kind.Kind.{Kind}
use Rattle.lx_node.specs.declared.kind.Kind.TheVariants.{Root, Paragraph, Text}
use Rattle.lx_node.specs.declared.fields.Fields.{Fields}
use Rattle.lx_node.specs.Plain.{plain_element, plain_text}

-- what a node is, beside where it is
pub record Label : Type 0 where
  pub key : ℕ
  pub kind : Kind
  pub fields : Fields

-- nodes in nested lists; the first tree is the root's, and those after it are detached
abbrev pub Forest : Type 0
Forest = Trees Label

-- the root of an empty document, of which nothing is set
abbrev pub root_label : Label
root_label = record { key = 0; kind = Root; fields = plain_element }

-- a paragraph of which nothing is set
abbrev pub paragraph_label : ℕ → Label
paragraph_label key = record { key = key; kind = Paragraph; fields = plain_element }

-- a text of which only the characters are set
abbrev pub text_label : ℕ → List ℕ → Label
text_label key text = record { key = key; kind = Text; fields = plain_text text }

-- the root alone
abbrev pub root_alone : Forest
root_alone = tree root_label nil nil

-- the forest with trees put after the root's children
abbrev pub with_last : Forest → Forest → Forest
with_last nil new = nil
with_last (tree root below rest) new = tree root (joined below new) rest
