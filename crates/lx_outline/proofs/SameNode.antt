-- What two nodes that were read say of the two trees.
use Rattle.std.proofs.Common.{◌≡◌, ◌∙◌, ℕ, Bool, true, false, not, Some, inl, inr, sym, ap}
use Rattle.std.specs.Prelude.{IsTrue, ◌↔◌}
use Rattle.std.proofs.lemmas.Bool.{cases_Bool}
use Rattle.std.proofs.lemmas.Option.{same_Some}
use Rattle.lx_node.specs.declared.node.Node.{Node}
use Rattle.lx_forest.specs.Forest.{Forest}
use Rattle.lx_forest.specs.Lookups.{children_of}
use Rattle.lx_links.proofs.Seen.{Seen}
use Rattle.lx_outline.specs.Events.{IsSame, IsUpdated}
use Rattle.lx_outline.specs.Parts.{IsSameNode}

same_nodes : (old new : Forest) (q : ℕ) (a b : Node) → Seen old q a → Seen new q b → IsSame old new q → IsSameNode a b
same_nodes old new q a b s t same = record {
  kind = same_Some a.kind b.kind (sym s.kind ∙ same.kind ∙ t.kind);
  fields = same_Some a.fields b.fields (sym s.fields ∙ same.fields ∙ t.fields);
  parent = s.parent ∙ same.parent ∙ sym t.parent;
}

same_by : (old new : Forest) (q : ℕ) (a b : Node) → Seen old q a → Seen new q b → IsSameNode a b → children_of old q ≡ children_of new q → IsSame old new q
same_by old new q a b s t same children = record {
  kind = s.kind ∙ ap (λ x. Some x) same.kind ∙ sym t.kind;
  fields = s.fields ∙ ap (λ x. Some x) same.fields ∙ sym t.fields;
  parent = sym s.parent ∙ same.parent ∙ t.parent;
  children = children;
}

not_both : (b : Bool) → b ≡ true → not b ≡ true → ⊥
not_both true e f = cc
not_both false e f = cc

-- where the nodes themselves are others
pub updated_by_node : (old new : Forest) (q : ℕ) (a b : Node) (r : Bool) → Seen old q a → Seen new q b → (IsTrue r ↔ IsSameNode a b) → r ≡ false
    → (IsTrue (not r) → IsUpdated old new q) × (IsUpdated old new q → IsTrue (not r))
updated_by_node old new q a b r s t test other = (
  λ e. (s.has, t.has, λ same. not_both r (test.1 (same_nodes old new q a b s t same)) e),
  λ u. ap not other,
)

-- where they are the same, and the children are asked
pub updated_by_children : (old new : Forest) (q : ℕ) (a b : Node) (r children : Bool) → Seen old q a → Seen new q b → (IsTrue r ↔ IsSameNode a b) → r ≡ true
    → (IsTrue children ↔ (children_of old q ≡ children_of new q))
    → (IsTrue (not children) → IsUpdated old new q) × (IsUpdated old new q → IsTrue (not children))
updated_by_children old new q a b r children s t test same_node children_test = (
  λ e. (s.has, t.has, λ same. not_both children (children_test.1 same.children) e),
  λ u. elim (cases_Bool children) [
    | inl alike ↦ absurd (u.2 (same_by old new q a b s t (test.0 same_node) (children_test.0 alike)))
    | inr others ↦ ap not others
  ],
)
