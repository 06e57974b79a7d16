-- What is known of links whose nodes stand for a forest.
use Rattle.std.proofs.Common.{ℕ, ◌≡◌, ◌≢◌, ◌<◌, ◌^◌, Option, None, Some, option_map, refl, sym, ap, ◌∙◌, subst, arith}
use Rattle.std.specs.FinMap.{get}
use Rattle.lx_trees.specs.Trees.{nil}
use Rattle.lx_trees.specs.NamedTrees.{total}
use Rattle.lx_node.specs.declared.node.Node.{Node}
use Rattle.lx_forest.specs.Forest.{Forest}
use Rattle.lx_forest.specs.Lookups.{key_of, kind_of, IsHeld}
use Rattle.lx_forest.proofs.Ordered.{ordered}
use Rattle.lx_joints.specs.Stands as joints
use Rattle.lx_joints.specs.Stands.{AreRecords}
use Rattle.lx_joints.proofs.Stands as stands
use Rattle.lx_links.specs.Changes.{links_of, with_links}
use Rattle.lx_node.specs.Kinds.{may_hold}
use Rattle.lx_node.specs.declared.kind.Kind.TheVariants.{Root}
use Rattle.lx_forest.specs.Records.{record_at, StandsFor}
use Rattle.lx_forest.specs.Suited.{IsSuited}
use Rattle.lx_forest.proofs.Suited.{IsSuited-nil}
use Rattle.lx_store.specs.Differing.{AreSameTo}
use Rattle.lx_links.specs.Stands.{Nodes, node_of, node_at, record_of, records, Stands, Standing, Holds, Sound, forest_in, forest_in-stands, forest_in-is}

pub stood : (held : Option Nodes) (s : Standing held) (f : Forest) → forest_in held s ≡ f → Stands held f
stood held s f e = subst (Stands held) e (forest_in-stands held s)

-- a map that is held stands for the forest, and where none is held it is empty
pub stood_by : (held : Option Nodes) (s : Standing held) (f : Forest) (m : Nodes) → forest_in held s ≡ f → held ≡ Some m → Holds m f
stood_by held s f m e h = subst (λ x. Stands x f) h (stood held s f e)

pub failed_by : (held : Option Nodes) (s : Standing held) (f : Forest) → forest_in held s ≡ f → held ≡ None → f ≡ nil
failed_by held s f e h = subst (λ x. Stands x f) h (stood held s f e)

pub are : AreRecords links_of with_links record_of node_of
are = record { linked = λ q n. refl; relinked_is = λ q l n. refl; back = λ q n. refl }

-- a map that stands for a forest stands for its trees
pub rooted : (m : Nodes) (f : Forest) → StandsFor (records m) f → joints.Stands record_of key_of (get m) f
rooted m f s = record { in_order = ordered s.in_order; same = s.same; small = s.small }

pub get_stands : (m : Nodes) (f : Forest) (q : ℕ) → StandsFor (records m) f → get m q ≡ option_map node_of (record_at f q)
get_stands m f q s = stands.get_stands key_of record_of links_of with_links node_of are (get m) f q (s.same q)

pub node_by : (held : Option Nodes) (s : Standing held) (f : Forest) (m : Nodes) (q : ℕ) → forest_in held s ≡ f → held ≡ Some m
    → get m q ≡ option_map node_of (record_at f q)
node_by held s f m q e h = get_stands m f q (stood_by held s f m e h).stands

pub no_node : (f : Forest) (q : ℕ) → f ≡ nil → None ≡ option_map node_of (record_at f q)
no_node f q e = let P : Forest → Type 0 = λ g. None ≡ option_map node_of (record_at g q) in subst P (sym e) refl

IsHeld-nil : IsHeld may_hold nil
IsHeld-nil = record { each = λ q p e. cc }

sound_held : (held : Option Nodes) (f : Forest) → Stands held f → Sound f
sound_held None f h = record {
  in_order = λ no. absurd (no h);
  held = subst (λ g. IsHeld may_hold g) (sym h) IsHeld-nil;
  suited = subst IsSuited (sym h) IsSuited-nil;
  small = subst (λ g. total g < 2 ^ 32) (sym h) (omega arith);
}
sound_held (Some m) f h = record { in_order = λ no. h.stands.in_order; held = h.held; suited = h.suited; small = h.stands.small }

pub sound : (held : Option Nodes) (s : Standing held) (f : Forest) → forest_in held s ≡ f → Sound f
sound held s f e = sound_held held f (stood held s f e)

pub held_living : (m : Nodes) (f : Forest) → Holds m f → f ≢ nil
held_living m f s e = let P : Forest → Type 0 = λ g. kind_of g 0 ≡ Some Root in let h : None ≡ Some Root = subst P e s.stands.in_order.root in cc

-- what is held now
pub fails : (held : Option Nodes) (s : Standing held) → held ≡ None → forest_in held s ≡ nil
fails held s e = forest_in-is held s nil (subst (λ x. Stands x nil) (sym e) refl)

pub is_now : (m : Nodes) (s : Standing (Some m)) (f : Forest) → Holds m f → forest_in (Some m) s ≡ f
is_now m s f h = forest_in-is (Some m) s f h

pub same_stands : (m n : Nodes) (f : Forest) → Holds m f → n ≡ m → Holds n f
same_stands m n f h e = let P : Nodes → Type 0 = λ x. Holds x f in subst P (sym e) h

-- ---- where two links differ

-- what two maps say of equal items, the two forests say of equal nodes
pub same_nodes : (m n : Nodes) (f g : Forest) (from : ℕ) (o : Option ℕ) → ((q : ℕ) → get m q ≡ node_at f q) → ((q : ℕ) → get n q ≡ node_at g q)
    → AreSameTo (get m) (get n) from o → AreSameTo (node_at f) (node_at g) from o
same_nodes m n f g from None first second same = λ q up. sym (first q) ∙ same q up ∙ second q
same_nodes m n f g from (Some to) first second same = (
  same.0,
  λ q up under. sym (first q) ∙ same.1 q up under ∙ second q,
  λ e. same.2 (first to ∙ e ∙ sym (second to)),
)
