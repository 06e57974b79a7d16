-- A new editor's state is one from which an update may start.
use Rattle.std.proofs.Common.{◌≡◌, ◌<◌, ◌≤◌, ℕ, refl, sym, subst, arith}
use Rattle.std.proofs.lemmas.Bool.Decides.{eqb_tells}
use Rattle.lx_forest.specs.Forest.{Forest, root_alone}
use Rattle.lx_forest.specs.Lookups.{IsForest}
use Rattle.lx_forest.proofs.Edits.{has-root}
use Rattle.lx_forest.proofs.Loose.{moved-none}
use Rattle.lx_select.specs.declared.selection.Selection.{Selection}
use Rattle.std.proofs.Common.{[], ◌≢◌}
use Rattle.lx_trees.specs.Trees.{nil}
use Rattle.lx_marks.specs.Marks.{Marked, unmarked}
use Rattle.lx_links.specs.Stands.{Sound}
use Rattle.lx_node.specs.Limits.{most_depth, most_characters}
use Rattle.lx_node.specs.Strings.{characters_of, characters_of_element, characters_of_extra}
use Rattle.lx_draft.specs.Sizes.{tree_characters}
use Rattle.lx_draft.specs.Working.{MayStart, started}
use Rattle.lx_draft.specs.Drafted.{IsDrafted}
use Rattle.lx_draft.proofs.Short.{short-whole}

no_characters : tree_characters root_alone ≡ 0
unfolding characters_of characters_of_element characters_of_extra
no_characters = refl

root_characters : tree_characters root_alone ≤ most_characters
root_characters = omega (arith, no_characters)

pub start_anew : (f : Forest) → f ≡ root_alone → MayStart f 1
start_anew f e = subst (λ g. MayStart g 1) (sym e) (record {
  next = omega arith;
  free = λ q above. grind (arith, above, eqb_tells 0 q);
  few = omega arith;
  whole = λ q there. grind (arith, there, eqb_tells 0 q);
  shallow = λ q d at. grind (arith, at, eqb_tells 0 q);
  characters = root_characters;
})

-- the root's key is below the next one
first_key : (f : Forest) (next_key : ℕ) → IsForest f → MayStart f next_key → 0 < next_key
first_key f next_key h m = grind (arith, m.free 0, has-root f h)

-- a draft of a state in which nothing is detached or too deep
pub drafted_start : (f : Forest) (s : Selection) (next_key : ℕ) → IsForest f → MayStart f next_key → IsDrafted (started f s next_key) []
drafted_start f s next_key h m = record {
  working = record {
    counted = omega arith;
    edits = omega arith;
    written = omega arith;
    first = first_key f next_key h m;
    next = omega (arith, m.next);
    free = m.free;
    few = omega (arith, m.few);
    short = short-whole f m.whole m.characters;
  };
  raised = λ q p noted up. absurd (grind (arith, noted));
  raised_fresh = λ q p noted up. absurd (grind (arith, noted));
  moved = moved-none most_depth f h m.whole (λ q d at deep. absurd (omega (arith, m.shallow q d at, deep)));
}

pub drafted_as : (old f : Forest) (s : Selection) (next_key : ℕ) (marks fresh loose : Marked) → f ≡ old → old ≢ nil → Sound old → MayStart old next_key
    → marks ≡ unmarked → fresh ≡ unmarked → loose ≡ unmarked
    → IsDrafted (record { forest = f; selection = s; next_key = next_key; marks = marks; fresh = fresh; counted = 0; edits = 0; written = 0 }) loose.leaves
drafted_as old f s next_key marks fresh loose same living sound may a b c =
    rw (same, a, b, c) (drafted_start old s next_key (sound.in_order living) may)
