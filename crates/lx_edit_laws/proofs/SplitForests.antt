-- A forest in which a text was cut: what it leaves is written, and a new text that has the rest comes right after it.
use Rattle.std.proofs.Common.{◌≡◌, ◌≢◌, ◌∙◌, ℕ, ◌+◌, false, cond, eqb, ◌||◌, [], ◌∷◌, Option, None, Some, refl, sym, ap, arith}
use Rattle.std.specs.Prelude.{option_map, slice_get}
use Rattle.std.proofs.lemmas.Bool.Decides.{eqb_tells}
use Rattle.lx_trees.specs.Siblings.{index_in}
use Rattle.lx_node.specs.declared.fields.Fields.{Fields}
use Rattle.lx_forest.specs.Forest.{Forest, Label}
use Rattle.lx_forest.specs.Lookups.{has, label_of, parent_of, children_of, index_of, children_below, IsForest}
use Rattle.lx_forest.specs.Edits.{with_new, with_fields, put_in, fields_at, CanPut}
use Rattle.lx_forest.proofs.Edits.{count-with_new, count-with_fields, count-put_in}
use Rattle.lx_forest.proofs.Order.{IsForest-with_new, IsForest-with_fields, IsForest-put_in}
use Rattle.lx_forest.proofs.Lookups.{NoRepeats-children_of, key-label_of, has-child, label_of-with_new, label_of-with_fields, label_of-put_in, parent_of-with_new, parent_of-with_fields, parent_of-put_in, children_of-with_new, children_of-with_fields, children_of-put_in}
use Rattle.lx_edit_laws.specs.Reading.{in_place_of}
use Rattle.lx_edit_laws.proofs.ReadingPlaces.{names_with-behind}

-- in g the text k of f has the fields x, and a new node of the label l comes right after it, below p
pub record CutsTo (f g : Forest) (k p : ℕ) (x : Fields) (l : Label) : Type 0 where
  pub in_order : IsForest g
  pub keys : (q : ℕ) → has q g ≡ (has q f || eqb q l.key)
  pub new : label_of g l.key ≡ Some l
  pub own : (m : Label) → label_of f k ≡ Some m → label_of g k ≡ Some (record { key = k; kind = m.kind; fields = x })
  pub labels : (q : ℕ) → q ≢ k → q ≢ l.key → label_of g q ≡ label_of f q
  pub up : parent_of g l.key ≡ Some p
  pub parents : (q : ℕ) → q ≢ l.key → parent_of g q ≡ parent_of f q
  pub order : children_of g p ≡ in_place_of k (k ∷ l.key ∷ []) (children_of f p)
  pub children : (q : ℕ) → q ≢ p → children_of g q ≡ children_of f q

-- a forest with a new node, and with the fields of another
module _ (f : Forest) (k p i : ℕ) (x : Fields) (l : Label) (h : IsForest f) (free : has l.key f ≡ false) (up : parent_of f k ≡ Some p) where
  abbrev a : Forest
  a = with_new l f

  abbrev halved : Forest
  halved = with_fields k x a

  a_ordered : IsForest a
  a_ordered = IsForest-with_new l f h free

  b_ordered : IsForest halved
  b_ordered = IsForest-with_fields k x a a_ordered

  apart : k ≢ l.key
  apart same = absurd (grind (arith, same, free, has-child f k p up))

  pub parent_halved : (q : ℕ) → parent_of halved q ≡ parent_of f q
  parent_halved q = parent_of-with_fields k x a q ∙ parent_of-with_new l f q h free

  pub children_halved : (q : ℕ) → children_of halved q ≡ children_of f q
  children_halved q = children_of-with_fields k x a q ∙ children_of-with_new l f q h free

  label_halved : (q : ℕ) → label_of halved q ≡ option_map (fields_at k x) (cond (eqb q l.key) (Some l) (label_of f q))
  label_halved q = label_of-with_fields k x a q ∙ ap (option_map (fields_at k x)) (label_of-with_new l f q h free)

  new_halved : label_of halved l.key ≡ Some l
  new_halved = label_halved l.key ∙ grind (arith, apart, eqb_tells l.key l.key, eqb_tells l.key k)

  own_halved : (m : Label) → label_of f k ≡ Some m → label_of halved k ≡ Some (record { key = k; kind = m.kind; fields = x })
  own_halved m is = label_halved k ∙ grind (arith, apart, is, eqb_tells k l.key, eqb_tells k k, key-label_of f k m is)

  other_halved : (q : ℕ) (o : Option Label) → label_of f q ≡ o → q ≢ k → q ≢ l.key → label_of halved q ≡ o
  other_halved q None is other old = label_halved q ∙ grind (arith, is, old, eqb_tells q l.key)
  other_halved q (Some m) is other old = label_halved q ∙ grind (arith, is, old, other, eqb_tells q l.key, eqb_tells q k, key-label_of f q m is)

  keys_halved : (q : ℕ) → has q halved ≡ (has q f || eqb q l.key)
  keys_halved q = grind (arith, count-with_fields q k x a, count-with_new q l f, eqb_tells q l.key, eqb_tells l.key q)

  -- put right after k
  pub cuts : CanPut p l.key halved → index_of halved k ≡ Some i → CutsTo f (put_in p (slice_get (children_of halved p) (i + 1)) l.key halved) k p x l
  cuts can at =
      let before : Option ℕ = slice_get (children_of halved p) (i + 1) in
      let n : ℕ = l.key in
      let g : Forest = put_in p before n halved in
      let place : index_in (children_of halved p) k ≡ Some i = sym (ap (λ o. index_in (children_below halved o) k) (parent_halved k ∙ up)) ∙ at in
      record {
        in_order = IsForest-put_in p before n halved b_ordered can;
        keys = λ q. grind (arith, count-put_in q p before n halved b_ordered can.parent can.outside, keys_halved q);
        new = label_of-put_in p before n halved n b_ordered can ∙ new_halved;
        own = λ m is. label_of-put_in p before n halved k b_ordered can ∙ own_halved m is;
        labels = λ q other old. label_of-put_in p before n halved q b_ordered can ∙ other_halved q (label_of f q) refl other old;
        up = parent_of-put_in p before n halved n b_ordered can ∙ grind (arith, eqb_tells n n);
        parents = λ q old. parent_of-put_in p before n halved q b_ordered can ∙ grind (arith, old, eqb_tells q n, parent_halved q);
        order =
            children_of-put_in p before n halved p b_ordered can ∙ grind (arith, eqb_tells p p)
            ∙ names_with-behind n k i (children_of halved p) (NoRepeats-children_of halved p b_ordered) place
            ∙ ap (in_place_of k (k ∷ n ∷ [])) (children_halved p);
        children = λ q other. children_of-put_in p before n halved q b_ordered can ∙ grind (arith, other, eqb_tells q p, children_halved q);
      }
