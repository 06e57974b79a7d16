-- A committed tree is within the limits under which an outline follows it.
use Rattle.std.proofs.Common.{subst, ℕ, ◌≤◌, length, arith}
use Rattle.lx_node.specs.Limits.{most_characters}
use Rattle.lx_node.specs.Strings.{characters_of, characters_of_text}
use Rattle.lx_trees.specs.Trees.{nil, tree}
use Rattle.lx_node.specs.declared.fields.Fields.{Fields}
use Rattle.lx_node.specs.declared.fields.Fields.TheVariants as fields
use Rattle.lx_forest.specs.Forest.{Forest, Label}
use Rattle.lx_forest.specs.Weights.{weight}
use Rattle.lx_links.specs.Characters.{characters_in as all_in}
use Rattle.lx_select.specs.declared.selection.Selection.{Selection}
use Rattle.lx_outline.specs.Outline.{characters_in, own_text}
use Rattle.lx_editor.specs.Standing.{IsState}
use Rattle.lx_editor.proofs.Limits.{few_characters, all_in_tree}
use Rattle.lx_serving.specs.Outlining.{IsWithin}

-- a node's text is one of its strings
fewer_in_fields : (own : Fields) → length (own_text own) ≤ characters_of own
unfolding characters_of characters_of_text
fewer_in_fields (fields.Text text) = omega arith
fewer_in_fields (fields.Element element) = omega arith
fewer_in_fields (fields.Embed source) = omega arith
fewer_in_fields fields.Bare = omega arith

weighs_less : (of more : Label → ℕ) → ((l : Label) → of l ≤ more l) → (f : Forest) → weight of f ≤ weight more f
weighs_less of more less nil = omega arith
weighs_less of more less (tree l below rest) =
    omega (arith, less l, weighs_less of more less below, weighs_less of more less rest)

pub within_state : (f : Forest) (s : Selection) (k : ℕ) → IsState f s k → IsWithin f
within_state f s k state =
    let all : weight all_in f ≤ most_characters = subst (λ n. n ≤ most_characters) (all_in_tree f s k state) (few_characters f s k state) in
    record {
      in_order = state.in_order;
      alone = state.alone;
      few = state.start.few;
      short = omega (arith, all, weighs_less characters_in all_in (λ l. fewer_in_fields l.fields) f);
    }
