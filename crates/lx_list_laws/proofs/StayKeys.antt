-- The nodes that points are on, as nodes are made, taken and put.
use Rattle.std.proofs.Common.{◌≡◌, ◌≢◌, ◌∙◌, ℕ, List, [], ◌∷◌, Option, None, Some, Ok, refl, sym, ap, ap₂, subst, inl, inr}
use Rattle.std.specs.Option.{option_or}
use Rattle.std.proofs.lemmas.Bool.Decides.{eqb_tells}
use Rattle.lx_node.specs.declared.kind.Kind.{Kind}
use Rattle.lx_node.specs.declared.fields.Fields.{Fields}
use Rattle.lx_node.specs.declared.cause.Point.{Point}
use Rattle.lx_select.specs.declared.selection.Selection.{Selection}
use Rattle.lx_select.specs.declared.selection.Selection.TheVariants.{Nothing, Range, Nodes, Cells}
use Rattle.lx_select.specs.Selection.{each_point, ends_of, carried, carried_point}
use Rattle.lx_select.specs.Rules.{take_moves, put_moves, carry_moves}
use Rattle.lx_forest.specs.Lookups.{parent_of, index_of, size_of}
use Rattle.lx_links.specs.Faults.{detach_fault}
use Rattle.lx_draft.specs.Working.{Working}
use Rattle.lx_draft.specs.Faults.{over_counts, put_fault}
use Rattle.lx_draft.specs.Steps.{take_points, node_taken, node_placed, new_step, take_step, put_step}
use Rattle.lx_draft.specs.Beside.{before_at, put_before_step}
use Rattle.lx_draft.proofs.Covered.{answered}
use Rattle.lx_edit.specs.InTurn.{in_turn}
use Rattle.lx_edit.specs.Edits.{moved_to_end}
use Rattle.lx_edit.proofs.Climbed.{first_part}
use Rattle.lx_caret.specs.Lying.{EachPoint}
use Rattle.lx_caret.proofs.Fit.{key_of_put}
use Rattle.lx_caret.proofs.Moves.{key_of_take}
use Rattle.lx_list_laws.proofs.LevelSteps.{was_made}

-- the nodes of a range's two points
abbrev pub keys_of : Selection → Option (ℕ × ℕ)
keys_of (Range a b format) = Some (a.key, b.key)
keys_of other = None

-- each point of a range is on a node that has a property
abbrev pub EachKey : (ℕ → Type 0) → Working → Type 0
EachKey P w = EachPoint (λ x. P x.key) w.selection

-- of two nodes the one and the other
abbrev anchor_key : Option (ℕ × ℕ) → ℕ
anchor_key None = 0
anchor_key (Some (a, b)) = a

abbrev focus_key : Option (ℕ × ℕ) → ℕ
focus_key None = 0
focus_key (Some (a, b)) = b

keys_alike : (P : ℕ → Type 0) (s t : Selection) → keys_of t ≡ keys_of s → EachPoint (λ x. P x.key) s → EachPoint (λ x. P x.key) t
keys_alike P (Range a b format) (Range c d other) same each =
    (subst P (sym (ap anchor_key same)) each.0, subst P (sym (ap focus_key same)) each.1)
keys_alike P s (Range c d other) same each = absurd (cc)
keys_alike P s Nothing same each = tt
keys_alike P s (Nodes keys) same each = tt
keys_alike P s (Cells t a b) same each = tt

-- where points are on the nodes where they were, what held of those nodes holds
pub each_same : (P : ℕ → Type 0) (w v : Working) → keys_of v.selection ≡ keys_of w.selection → EachKey P w → EachKey P v
each_same P w v same each = keys_alike P w.selection v.selection same each

pub same_moved : (moved : Point → Point) (s : Selection) → ((x : Point) → (moved x).key ≡ x.key) → keys_of (each_point moved s) ≡ keys_of s
same_moved moved (Range a b format) each = ap₂ (λ x y. Some (x, y)) (each a) (each b)
same_moved moved other each = refl

-- ---- steps that leave each point on its node

pub same_new : (kind : Kind) (fields : Fields) (w v : Working) → new_step kind fields w ≡ Ok v → keys_of v.selection ≡ keys_of w.selection
same_new kind fields w v e = ap keys_of (was_made kind fields w v e).selection

pub same_take : (k : ℕ) (w v : Working) → take_step k w ≡ Ok v → keys_of v.selection ≡ keys_of w.selection
unfolding take_step
same_take k w v e =
    let told = answered (option_or (detach_fault k w.forest) (over_counts w)) (node_taken k w) v e in
    ap (λ (x : Working). keys_of x.selection) (sym told.1) ∙ by_place (parent_of w.forest k) (index_of w.forest k) where
      by_place : (p i : Option ℕ) → keys_of (take_points p i w.selection) ≡ keys_of w.selection
      by_place None i = refl
      by_place (Some p) None = refl
      by_place (Some p) (Some i) = same_moved (take_moves p i) w.selection (key_of_take p i)

pub same_put : (k p index : ℕ) (w v : Working) → put_step k p index w ≡ Ok v → keys_of v.selection ≡ keys_of w.selection
unfolding put_step
same_put k p index w v e =
    let told = answered (option_or (put_fault k p index w.forest) (over_counts w)) (node_placed k p index w) v e in
    ap (λ (x : Working). keys_of x.selection) (sym told.1) ∙ same_moved (put_moves p index) w.selection (key_of_put p index)

same_before_at : (k other : ℕ) (p index : Option ℕ) (w v : Working) → before_at k other p index w ≡ Ok v → keys_of v.selection ≡ keys_of w.selection
same_before_at k other (Some p) (Some index) w v e = same_put k p index w v e
same_before_at k other None index w v e = absurd (cc)
same_before_at k other (Some p) None w v e = absurd (cc)

pub same_before : (k other : ℕ) (w v : Working) → put_before_step k other w ≡ Ok v → keys_of v.selection ≡ keys_of w.selection
unfolding put_before_step
same_before k other w v e = same_before_at k other (parent_of w.forest other) (index_of w.forest other) w v e

pub same_to_end : (to k : ℕ) (w v : Working) → moved_to_end to k w ≡ Ok v → keys_of v.selection ≡ keys_of w.selection
unfolding moved_to_end
same_to_end to k w v e =
    let a = first_part (take_step k w) (λ u. put_step k to (size_of u.forest to) u) v e in
    same_put k to (size_of a.0.forest to) a.0 v a.2 ∙ same_take k w a.0 a.1

pub same_each : (to : ℕ) (ks : List ℕ) (w v : Working) → in_turn (moved_to_end to) ks w ≡ Ok v → keys_of v.selection ≡ keys_of w.selection
unfolding in_turn
same_each to [] w v e = let is : w ≡ v = cc in ap (λ (x : Working). keys_of x.selection) (sym is)
same_each to (k ∷ ks) w v e =
    let a = first_part (moved_to_end to k w) (in_turn (moved_to_end to) ks) v e in
    same_each to ks a.0 v a.2 ∙ same_to_end to k w a.0 a.1

-- ---- points that go along

pub carry_key : (from to at : ℕ) (x : Point) → x.key ≡ from → (carry_moves from to at x).key ≡ to
unfolding carry_moves
carry_key from to at x own = elim (eqb_tells x.key from) [
  | inl same ↦ rw same.0 refl
  | inr other ↦ absurd (other.1 own)
]

brought_point : (P Q : ℕ → Type 0) (from to at : ℕ) (before now : Point) → (P from → Q to) → ((q : ℕ) → q ≢ from → P q → Q q) → now.key ≡ before.key
    → P before.key → Q (carried_point from (carry_moves from to at) before now).key
brought_point P Q from to at before now goes stays same so = elim (eqb_tells before.key from) [
  | inl own ↦ rw own.0 (subst Q (sym (carry_key from to at before own.1)) (goes (subst P own.1 so)))
  | inr other ↦ rw other.0 (subst Q (sym same) (stays before.key other.1 so))
]

-- points that were on a node go to another, and the others stay
pub keys_brought : (P Q : ℕ → Type 0) (from to at : ℕ) (s t : Selection) → (P from → Q to) → ((q : ℕ) → q ≢ from → P q → Q q) → keys_of t ≡ keys_of s
    → EachPoint (λ x. P x.key) s → EachPoint (λ x. Q x.key) (carried from (carry_moves from to at) (ends_of s) t)
keys_brought P Q from to at (Range a b format) (Range c d other) goes stays same each = (
  brought_point P Q from to at a c goes stays (ap anchor_key same) each.0,
  brought_point P Q from to at b d goes stays (ap focus_key same) each.1,
)
keys_brought P Q from to at s (Range c d other) goes stays same each = absurd (cc)
keys_brought P Q from to at (Range a b format) t goes stays same each = absurd (cc)
keys_brought P Q from to at s Nothing goes stays same each = tt
keys_brought P Q from to at s (Nodes keys) goes stays same each = tt
keys_brought P Q from to at s (Cells x y z) goes stays same each = tt
