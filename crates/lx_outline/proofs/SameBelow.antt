-- A heading below which no node was created or updated has the same tree in both.
use Rattle.std.proofs.Common.{◌≡◌, ◌∙◌, ℕ, ◌+◌, ◌<◌, true, zero, suc, List, [], ◌∷◌, Some, refl, sym, ap, arith}
use Rattle.std.specs.Prelude.{option_map}
use Rattle.std.proofs.lemmas.Bool.Decides.{eqb_tells}
use Rattle.std.proofs.lemmas.Option.{same_Some}
use Rattle.lx_trees.specs.Siblings.{is_among, is_named}
use Rattle.lx_trees.specs.Spots.{children_at}
use Rattle.lx_trees.specs.Trees.{nil, tree, joined}
use Rattle.lx_trees.specs.NamedTrees.{total}
use Rattle.lx_forest.specs.Forest.{Label, Forest}
use Rattle.lx_forest.specs.Lookups.{has, kind_of, parent_of, children_of, alone, trees_of, is_within, IsForest}
use Rattle.lx_forest.proofs.Edits.{key-spot}
use Rattle.lx_forest.proofs.Lookups.{alone-spot, has-child, parent_of-self}
use Rattle.lx_forest.proofs.Walks.{total-alone-lt}
use Rattle.lx_forest.proofs.Within.{is_within-self, is_within-trans, is_within-up}
use Rattle.lx_links.specs.Stands.{Sound}
use Rattle.lx_links.proofs.Placed.{parent_of-child}
use Rattle.lx_links.proofs.Up.{in_order_at}
use Rattle.lx_outline.specs.Events.{IsSame}
use Rattle.lx_outline.specs.Outline.{text_of, heading_by, heading_at}
use Rattle.lx_outline.proofs.HeadingText.{IsThere, is_there}

label_same : (x y : Label) → x.key ≡ y.key → x.kind ≡ y.kind → x.fields ≡ y.fields → x ≡ y
label_same x y e f g = rw (e, f, g) refl

tree_at : (f : Forest) (q : ℕ) (s : IsThere f q) → IsForest f → alone q f ≡ tree s.at.label (trees_of f (children_of f q)) nil
tree_at f q s h = alone-spot f q s.at h s.at_is ∙ ap (λ ks. tree s.at.label (trees_of f ks) nil) (sym (ap children_at s.at_is))

trees_same : (f g : Forest) (ks : List ℕ) → ((c : ℕ) → is_among c ks ≡ true → alone c f ≡ alone c g) → trees_of f ks ≡ trees_of g ks
trees_same f g [] same = refl
trees_same f g (k ∷ ks) same =
    ap (λ t. joined t (trees_of f ks)) (same k (grind (arith, eqb_tells k k)))
    ∙ ap (joined (alone k g)) (trees_same f g ks (λ c e. same c (grind (arith, e))))

pub child_within : (f : Forest) (q c : ℕ) → IsForest f → has q f ≡ true → parent_of f c ≡ Some q → is_within f q c ≡ true
child_within f q c h there up =
    is_within-up f q c q h up
    (λ same. let own : is_named (parent_of f c) c ≡ true = ap (λ o. is_named o c) up
    ∙ (grind (arith, same, eqb_tells c q)) in let none = parent_of-self f c h in cc)
    ∙ is_within-self f q ∙ there

-- what is the same in both at a node, and the node is in both
abbrev pub IsKept : Forest → Forest → ℕ → Type 0
IsKept old new q = (has q old ≡ true) × IsSame old new q

same_label : (old new : Forest) (q : ℕ) (x : IsThere old q) (y : IsThere new q) → IsSame old new q → y.at.label ≡ x.at.label
same_label old new q x y same =
    let kinds : Some x.at.label.kind ≡ Some y.at.label.kind = sym x.kind_is ∙ same.kind ∙ y.kind_is in
    let fields : Some x.at.label.fields ≡ Some y.at.label.fields =
    sym (ap (option_map (λ (l : Label). l.fields)) x.label_is) ∙ same.fields ∙ ap (option_map (λ (l : Label). l.fields)) y.label_is in
    label_same y.at.label x.at.label (key-spot new q y.at y.at_is ∙ sym (key-spot old q x.at x.at_is)) (sym (same_Some _ _ kinds)) (sym (same_Some _ _ fields))

module _ (old new : Forest) (before : Sound old) (after : Sound new) where
  same_by : (fuel q : ℕ) → total (alone q new) < fuel → has q new ≡ true → ((r : ℕ) → is_within new q r ≡ true → IsKept old new r) → alone q new ≡ alone q old
  same_by zero q small there kept = absurd (omega (arith, small))
  same_by (suc fuel) q small there kept =
      let own = kept q (is_within-self new q ∙ there) in
      let h = in_order_at new q after there in
      let x = is_there old q own.0 in
      let y = is_there new q there in
      let below : trees_of new (children_of new q) ≡ trees_of old (children_of new q) = trees_same new old (children_of new q)
      (λ c among.
      let up : parent_of new c ≡ Some q = parent_of-child new c q after among in
      same_by fuel c (omega (arith, small, total-alone-lt new c q h up)) (has-child new c q up)
      (λ r inside. kept r (is_within-trans new q c r h (child_within new q c h there up) inside))) in
      tree_at new q y h
      ∙ ap (λ l. tree l (trees_of new (children_of new q)) nil) (same_label old new q x y own.1)
      ∙ ap (λ t. tree x.at.label t nil) (below ∙ ap (trees_of old) (sym own.1.children))
      ∙ sym (tree_at old q x (in_order_at old q before own.0))

  pub heading_kept : (q : ℕ) → has q new ≡ true → ((r : ℕ) → is_within new q r ≡ true → IsKept old new r) → heading_at old q ≡ heading_at new q
  heading_kept q there kept =
      ap (λ o. heading_by o (text_of (alone q old))) (kept q (is_within-self new q ∙ there)).1.kind
      ∙ ap (λ t. heading_by (kind_of new q) (text_of t)) (sym (same_by (total (alone q new) + 1) q (omega arith) there kept))
