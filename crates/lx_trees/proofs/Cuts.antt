-- All names in preorder, cut before one of them.
use Rattle.std.proofs.Common.{◌≡◌, ℕ, ◌<◌, true, eqb, List, [], ◌∷◌, ◌++◌, sym, ap, ◌∙◌, arith, append_assoc, subst, inl, inr}
use Rattle.std.specs.Prelude.{unwrap_or}
use Rattle.std.proofs.lemmas.Bool.{cases_lt}
use Rattle.std.proofs.lemmas.Bool.Decides.{eqb_tells}
use Rattle.std.proofs.lemmas.List.{append-nil}
use Rattle.lx_trees.specs.Trees.{Trees, nil, tree}
use Rattle.lx_trees.specs.NamedTrees.{IsDistinct, count, preorder, alone}
use Rattle.lx_trees.specs.Walks.{behind_before, from}
use Rattle.lx_trees.proofs.NamedTrees.{alone-absent, joined-nil}
use Rattle.lx_trees.proofs.Walks.{behind_before-below, behind_before-rest}

module _ {A : Type 0} (name : A → ℕ) where
  -- the names from q on, in trees that these follow
  abbrev from_before : List ℕ → Trees A → ℕ → List ℕ
  from_before after t q = preorder name (alone name q t) ++ unwrap_or (behind_before name after t q) []

  -- These names come before q: after them comes the tree of q, and then what comes after that.
  record IsFront (after : List ℕ) (t : Trees A) (q : ℕ) (front : List ℕ) : Type 0 where
    split : preorder name t ++ after ≡ front ++ from_before after t q

  front_here : (after : List ℕ) (a : A) (below rest : Trees A) → count name (name a) rest ≡ 0 → IsFront after (tree a below rest) (name a) []
  front_here after a below rest gone =
      let own : eqb (name a) (name a) ≡ true = grind (arith, eqb_tells (name a) (name a)) in
      record {
        split = rw (own, alone-absent name (name a) rest gone)
            (ap (λ ks. name a ∷ ks)
            (append_assoc (preorder name below) (preorder name rest) after
            ∙ ap (λ ks. ks ++ (preorder name rest ++ after)) (sym (append-nil (preorder name below)))));
      }

  -- where the name is below the first label, and where it comes after
  front_below : (after : List ℕ) (q : ℕ) (a : A) (below rest : Trees A) (front : List ℕ) → count name q (tree a below rest) < 2 → 0 < count name q below →
      IsFront (preorder name rest ++ after) below q front → IsFront after (tree a below rest) q (name a ∷ front)
  front_below after q a below rest front once some lower =
      let tree_of : alone name q (tree a below rest) ≡ alone name q below =
      grind (arith, once, some, eqb_tells (name a) q, alone-absent name q rest, joined-nil (alone name q below)) in
      record {
        split = rw (tree_of, behind_before-below name after a below rest q once some)
            (ap (λ ks. name a ∷ ks) (append_assoc (preorder name below) (preorder name rest) after ∙ lower.split));
      }

  front_rest : (after : List ℕ) (q : ℕ) (a : A) (below rest : Trees A) (front : List ℕ) → count name q (tree a below rest) < 2 → 0 < count name q rest →
      IsFront after rest q front → IsFront after (tree a below rest) q (name a ∷ preorder name below ++ front)
  front_rest after q a below rest front once some later =
      let tree_of : alone name q (tree a below rest) ≡ alone name q rest = grind (arith, once, some, eqb_tells (name a) q, alone-absent name q below) in
      record {
        split = rw (tree_of, behind_before-rest name after a below rest q once some)
            (ap (λ ks. name a ∷ ks)
            (append_assoc (preorder name below) (preorder name rest) after ∙ ap (λ ks. preorder name below ++ ks) later.split
            ∙ sym (append_assoc (preorder name below) front (from_before after rest q))));
      }

  front_of : (after : List ℕ) (t : Trees A) (q : ℕ) → IsDistinct name t → 0 < count name q t → (front : List ℕ) × IsFront after t q front
  front_of after nil q once some = absurd (omega arith)
  front_of after (tree a below rest) q once some =
      elim (eqb_tells (name a) q) [
        | inl own ↦ ([], subst (λ x. IsFront after (tree a below rest) x []) own.1 (front_here after a below rest (grind (arith, own, once q))))
        | inr other ↦ elim (cases_lt 0 (count name q below)) [
          | inl inner ↦
              let lower = front_of (preorder name rest ++ after) below q (λ x. omega (arith, once x)) inner in
              (name a ∷ lower.0, front_below after q a below rest lower.0 (once q) inner lower.1)
          | inr outer ↦
              let there : 0 < count name q rest = grind (arith, other, some, outer) in
              let later = front_of after rest q (λ x. omega (arith, once x)) there in
              (name a ∷ preorder name below ++ later.0, front_rest after q a below rest later.0 (once q) there later.1)
        ]
      ]

  -- the names in preorder are some front, and then those from q on
  pub preorder-cut : (t : Trees A) (q : ℕ) → IsDistinct name t → 0 < count name q t → (front : List ℕ) × (preorder name t ≡ front ++ from name t q)
  preorder-cut t q once some =
      let cut = front_of [] t q once some in
      (cut.0, sym (append-nil (preorder name t)) ∙ cut.1.split)
