-- Rules that have no edits of a node: they are passed over.
use Rattle.std.proofs.Common.{◌≡◌, ℕ, false, List, [], ◌∷◌, Option, None, Some, option_map, refl}
use Rattle.lx_trees.specs.Spots.{Spot}
use Rattle.lx_node.specs.declared.kind.Kind.{Kind}
use Rattle.lx_node.specs.declared.node.View.{View}
use Rattle.lx_forest.specs.Forest.{Forest, Label}
use Rattle.lx_forest.specs.Lookups.{spot, kind_of}
use Rattle.lx_forest.specs.Views.{viewed}
use Rattle.lx_draft.specs.Working.{Working}
use Rattle.lx_edit.specs.InTurn.{in_turn}
use Rattle.lx_rules.specs.Answers.{Answers, asked}
use Rattle.lx_rules.specs.Types.{is_on}
use Rattle.lx_settle.specs.Acting.{answered_at, rule_step}

-- ---- why it has none

-- a rule has no edits of nodes of a kind
HasNoEdits : Kind → Answers → Type 0
HasNoEdits kind rule = (v : View) → v.kind ≡ kind → rule v ≡ []

quiet_type : (rows : ℕ) (acts : Answers) (kind : Kind) → is_on rows kind ≡ false → HasNoEdits kind (asked rows acts)
unfolding HasNoEdits
quiet_type rows acts kind off v same = rw same (rw off refl)

-- ---- what it does

unanswered : (f : Forest) (k : ℕ) (s : Option (Spot Label)) (kind : Kind) (acts : Answers) → Some kind ≡ option_map (λ (l : Label). l.kind) (option_map (λ (t : Spot Label). t.label) s)
    → HasNoEdits kind acts → answered_at (option_map (viewed f k) s) acts ≡ []
unfolding HasNoEdits
unanswered f k None kind acts is none = refl
unanswered f k (Some t) kind acts is none = none (viewed f k t) (cc)

-- a rule of other types has nothing to do at the node of a key, and the rules after it come to what all come to
pub quiet_passed : (k : ℕ) (w : Working) (kind : Kind) (rows : ℕ) (acts : Answers) (rest : List Answers) → Some kind ≡ kind_of w.forest k → is_on rows kind ≡ false
    → in_turn (rule_step k) rest w ≡ in_turn (rule_step k) (asked rows acts ∷ rest) w
unfolding in_turn rule_step
quiet_passed k w kind rows acts rest is off =
    rw (unanswered w.forest k (spot w.forest k) kind (asked rows acts) is (quiet_type rows acts kind off)) refl
