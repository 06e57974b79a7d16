-- What a map has at each key after a node was put in, taken out or changed.
use Rattle.std.proofs.Common.{ℕ, ◌≡◌, Bool, true, false, cond, eqb, Option, None, Some, option_map, IfSome, inl, inr, refl, sym, ap, ◌∙◌}
use Rattle.std.proofs.lemmas.Bool.Decides.{eqb_tells}
use Rattle.std.specs.Cmp.{nat_cmp_total, unsigned_tied}
use Rattle.std.specs.FinMap.{get, insert, remove, get-insert, get-remove}
use Rattle.lx_node.specs.declared.node.Node.{Node}
use Rattle.lx_store.specs.Edits.{with_item, with_edit}
use Rattle.lx_joints.specs.declared.links.Change.{Change}
use Rattle.lx_joints.specs.Changes.{Differs, on_links, changed}
use Rattle.lx_joints.proofs.Changes.{changed-elsewhere, one_differs}
use Rattle.lx_links.specs.Stands.{Nodes}
use Rattle.lx_links.specs.Changes.{links_of, with_links}

pub insert_at : (m : Nodes) (k : ℕ) (n : Node) (q : ℕ) → get (insert m k n) q ≡ cond (eqb q k) (Some n) (get m q)
insert_at m k n q = get-insert nat_cmp_total m k n q ∙ ap (λ b. cond b (Some n) (get m q)) (unsigned_tied q k)

pub remove_at : (m : Nodes) (k q : ℕ) → get (remove m k) q ≡ cond (eqb q k) None (get m q)
remove_at m k q = get-remove nat_cmp_total m k q ∙ ap (λ b. cond b None (get m q)) (unsigned_tied q k)

-- a map whose item under one key was edited, where there is one
edited_at : (m : Nodes) (k : ℕ) (edited : Node → Node) (o : Option Node) (q : ℕ) → get m k ≡ o
    → get (with_item m k (option_map edited o)) q ≡ cond (eqb q k) (option_map edited o) (get m q)
edited_at m k edited None q none = elim (eqb_tells q k) [
  | inl here ↦ ap (get m) here.1 ∙ none ∙ ap (λ b. cond b None (get m q)) (sym here.0)
  | inr other ↦ ap (λ b. cond b None (get m q)) (sym other.0)
]
edited_at m k edited (Some n) q there = insert_at m k (edited n) q

-- the node of the key was changed, where there is one
pub node_differs : (old new : Nodes) (k : ℕ) (change : Bool → Node → Node) → ((n : Node) → change false n ≡ n) → new ≡ with_edit (change true) k old
    → Differs (λ q. change (eqb q k)) (get old) (get new)
node_differs old new k change stays is =
    one_differs change stays (get old) (get new) k (λ q. ap (λ m. get m q) is ∙ edited_at old k (change true) (get old k) q refl)

-- so were its links
pub links_differ : (old new : Nodes) (k : ℕ) (c : Change) → new ≡ with_edit (λ n. with_links (changed c true (links_of n)) n) k old
    → Differs (on_links links_of with_links (λ q. changed c (eqb q k))) (get old) (get new)
links_differ old new k c is =
    node_differs old new k (λ b n. with_links (changed c b (links_of n)) n) (λ n. ap (λ l. with_links l n) (changed-elsewhere c (links_of n))) is

-- what holds of the item that is there
pub if_there : {X : Type 0} (P : X → Type 0) (o : Option X) → ((x : X) → o ≡ Some x → P x) → IfSome o P
if_there P None h = tt
if_there P (Some x) h = h x refl
