-- What two nodes that were read say of the two trees.
use Rattle.std.proofs.Common.{◌≡◌, ◌∙◌, ℕ, true, false, Some, sym, ap, inl, inr}
use Rattle.std.proofs.lemmas.Option.{same_Some}
use Rattle.lx_node.specs.declared.node.Node.{Node}
use Rattle.lx_forest.specs.Forest.{Forest}
use Rattle.lx_forest.specs.Lookups.{has}
use Rattle.lx_links.proofs.Seen.{Seen}
use Rattle.lx_compare.specs.Differing.{IsSameNode, IsUnchanged}
use Rattle.lx_compare.specs.Places.{IsAsBefore}

pub unchanged_by : (old new : Forest) (q : ℕ) (a b : Node) → Seen old q a → Seen new q b → IsSameNode a b → IsUnchanged old new q
unchanged_by old new q a b s t same = record {
  was = s.has;
  stays = t.has;
  fields = s.fields ∙ ap (λ x. Some x) same.fields ∙ sym t.fields;
  parent = sym s.parent ∙ same.parent ∙ t.parent;
  previous = sym s.prev ∙ same.previous ∙ t.prev;
  next = sym s.next ∙ same.next ∙ t.next;
}

same_by : (old new : Forest) (q : ℕ) (a b : Node) → Seen old q a → Seen new q b → IsUnchanged old new q → IsSameNode a b
same_by old new q a b s t u = record {
  fields = same_Some a.fields b.fields (sym s.fields ∙ u.fields ∙ t.fields);
  parent = s.parent ∙ u.parent ∙ sym t.parent;
  previous = s.prev ∙ u.previous ∙ sym t.prev;
  next = s.next ∙ u.next ∙ sym t.next;
}

pub same_there : (old new : Forest) (q : ℕ) (a b : Node) → Seen old q a → Seen new q b → IsAsBefore old new q → IsSameNode a b
same_there old new q a b s t (inl absent) = absurd (let clash : true ≡ false = sym s.has ∙ absent.0 in cc)
same_there old new q a b s t (inr same) = same_by old new q a b s t same

-- a node that is as before is in both trees, or in neither
pub in_both : (old new : Forest) (q : ℕ) → IsAsBefore old new q → has q old ≡ has q new
in_both old new q (inl absent) = absent.0 ∙ sym absent.1
in_both old new q (inr same) = same.was ∙ sym same.stays
