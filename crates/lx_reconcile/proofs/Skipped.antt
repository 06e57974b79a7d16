-- What is below a node without a mark is the same in both trees.
use Rattle.std.proofs.Common.{◌≡◌, ◌∙◌, ◌+◌, ◌<◌, ℕ, true, false, List, [], ◌∷◌, Some, option_map, zero, suc, refl, sym, ap, arith, append-nil}
use Rattle.std.proofs.lemmas.Bool.{false_from_ne_true, true_from_ne_false, false≢true}
use Rattle.std.proofs.lemmas.Bool.Decides.{eqb_tells}
use Rattle.std.proofs.lemmas.Option.{same_Some}
use Rattle.lx_trees.specs.Trees.{nil, tree, joined}
use Rattle.lx_trees.specs.NamedTrees.{total}
use Rattle.lx_trees.specs.Siblings.{is_among}
use Rattle.lx_node.specs.declared.kind.Kind.{Kind}
use Rattle.lx_node.specs.declared.fields.Fields.{Fields}
use Rattle.lx_host.specs.Hosts.{HostTree}
use Rattle.lx_host.specs.declared.op.Op.{Op}
use Rattle.lx_forest.specs.Forest.{Label, Forest}
use Rattle.lx_forest.specs.Lookups.{has, alone, children_of, trees_of}
use Rattle.lx_forest.proofs.Walks.{total-alone-lt}
use Rattle.lx_links.proofs.Placed.{parent_of-child}
use Rattle.lx_forest.specs.Covered.{Marking}
use Rattle.lx_reconcile.specs.Covering.{IsUnchanged}
use Rattle.lx_reconcile.specs.Handled.{IsReconciled}
use Rattle.lx_reconcile.specs.Making.{IsBetween, Reconciles}
use Rattle.lx_reconcile.proofs.StartEnd.{child_stands}
use Rattle.lx_reconcile.proofs.Walked.{reconciled_same}
use Rattle.lx_reconcile.proofs.Children.{stands_there}

same_label : (l : Label) (key : ℕ) (kind : Kind) (fields : Fields) → l.key ≡ key → kind ≡ l.kind → fields ≡ l.fields
    → l ≡ record { key = key; kind = kind; fields = fields }
same_label l key kind fields e f g = rw (← e, f, g) refl

trees_same : (f g : Forest) (ks : List ℕ) → ((c : ℕ) → is_among c ks ≡ true → alone c f ≡ alone c g) → trees_of f ks ≡ trees_of g ks
trees_same f g [] same = refl
trees_same f g (k ∷ ks) same =
    ap (λ t. joined t (trees_of f ks)) (same k (grind (arith, eqb_tells k k)))
    ∙ ap (joined (alone k g)) (trees_same f g ks (λ c e. same c (grind (arith, e))))

module _ (old new : Forest) (mk : Marking) (v : HostTree) (b : IsBetween old new mk v) where
  pub untouched : (k : ℕ) → mk.noted k ≡ false → mk.touched k ≡ false
  untouched k plain = false_from_ne_true (mk.touched k) (λ marked. false≢true (sym plain ∙ b.noted k marked))

  was_there : (k : ℕ) → has k new ≡ true → mk.noted k ≡ false → has k old ≡ true
  was_there k there plain = true_from_ne_false (has k old) (λ out. false≢true (sym (untouched k plain) ∙ b.covered.made k out there))

  child_unmarked : (k c : ℕ) → mk.noted k ≡ false → is_among c (children_of new k) ≡ true → mk.noted c ≡ false
  child_unmarked k c plain among =
      false_from_ne_true (mk.noted c) (λ marked. false≢true (sym plain ∙ b.covered.above c k (parent_of-child new c k b.sound among) marked))

  same_below : (fuel k : ℕ) → total (alone k new) < fuel → has k new ≡ true → mk.noted k ≡ false → alone k new ≡ alone k old
  same_below zero k small there plain = absurd (omega (arith, small))
  same_below (suc fuel) k small there plain =
      let was = was_there k there plain in
      let alike : IsUnchanged old new k = b.covered.alike k was there (untouched k plain) in
      let x = stands_there old k b.view.before was in
      let y = stands_there new k b.view.after there in
      let kinds : Some y.label.kind ≡ Some x.label.kind =
      sym (ap (option_map (λ (l : Label). l.kind)) y.label_is) ∙ sym (b.covered.kinds k was there) ∙ ap (option_map (λ (l : Label). l.kind)) x.label_is in
      let fields : Some y.label.fields ≡ Some x.label.fields =
      sym (ap (option_map (λ (l : Label). l.fields)) y.label_is) ∙ sym alike.fields ∙ ap (option_map (λ (l : Label). l.fields)) x.label_is in
      let labels : y.label ≡ x.label =
      same_label y.label x.label.key x.label.kind x.label.fields (y.key ∙ sym x.key) (sym (same_Some _ _ kinds)) (sym (same_Some _ _ fields)) in
      let below : trees_of new (children_of new k) ≡ trees_of old (children_of new k) = trees_same new old (children_of new k)
      (λ c among. same_below fuel c (omega (arith, small, total-alone-lt new c k b.view.after (parent_of-child new c k b.sound among)))
      (child_stands new k c b.view.after among) (child_unmarked k c plain among)) in
      y.tree_is
      ∙ ap (λ l. tree l y.below nil) labels
      ∙ ap (λ t. tree x.label t nil) (y.below_is ∙ below ∙ ap (trees_of old) (sym alike.children) ∙ sym x.below_is)
      ∙ sym x.tree_is

  -- nothing is done there
  pub done_plain : (k n : ℕ) → has k new ≡ true → mk.noted k ≡ false → IsReconciled old new v k n [] n
  done_plain k n there plain = reconciled_same b.view (was_there k there plain) (same_below (total (alone k new) + 1) k (omega arith) there plain)

  pub skipped : (k n : ℕ) (start : List Op) → has k new ≡ true → mk.noted k ≡ false → Reconciles old new mk v k n start start n
  skipped k n start there plain = record { pushed = []; list = sym (append-nil start); due = tt; done = done_plain k n there plain }
