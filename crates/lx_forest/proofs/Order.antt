-- Each edit leaves a forest in order, and forests in order are equal where their keys stand alike.
use Rattle.std.proofs.Common.{◌≡◌, ℕ, true, false, eqb, [], ◌∷◌, Option, refl, ap, ◌∙◌, arith}
use Rattle.std.proofs.lemmas.Bool.Decides.{eqb_tells}
use Rattle.lx_node.specs.declared.fields.Fields.{Fields}
use Rattle.lx_trees.proofs.NamedTrees.{names-mapped, names-alone}
use Rattle.lx_forest.specs.Forest.{Label, Forest}
use Rattle.lx_forest.specs.Lookups.{key_of, has, roots, spot, is_attached, rises, IsForest}
use Rattle.lx_forest.specs.Edits.{with_new, fields_at, with_fields, take_out, put_in, drop_detached, CanPut}
use Rattle.lx_forest.proofs.Edits.{count-with_new, count-with_fields, count-take_out, count-put_in, count-drop_detached, has-root}
use Rattle.lx_forest.proofs.Lookups.{kind_of-with_new, kind_of-with_fields, kind_of-take_out, kind_of-put_in, kind_of-drop_detached}
use Rattle.lx_trees.proofs.Order as rootedOrder
use Rattle.lx_forest.proofs.Ordered.{ordered}

-- ---- in order after each edit

free_not_root : (f : Forest) (q : ℕ) → IsForest f → has q f ≡ false → eqb 0 q ≡ false
free_not_root f q h free = grind (arith, has-root f h, eqb_tells 0 q)

roots_set : (k : ℕ) (fields : Fields) (f : Forest) → roots (with_fields k fields f) ≡ roots f
unfolding with_fields
roots_set k fields f = names-mapped key_of (fields_at k fields) (λ l. refl) f

roots_dropped : (f : Forest) → IsForest f → roots (drop_detached f) ≡ 0 ∷ []
unfolding drop_detached
roots_dropped f h = names-alone key_of 0 f (grind (arith, h.once 0, has-root f h))

pub is_attached-root : (f : Forest) → IsForest f → is_attached f 0 ≡ true
is_attached-root f h1 = rootedOrder.is_attached-root key_of f (ordered h1)

pub IsForest-with_new : (l : Label) (f : Forest) → IsForest f → has l.key f ≡ false → IsForest (with_new l f)
unfolding with_new
IsForest-with_new l f h free = record {
  once = λ q. grind (arith, count-with_new q l f, h.once q, eqb_tells l.key q);
  rising = (rootedOrder.IsOrdered-with_new key_of l f (ordered h) free).rising;
  root = kind_of-with_new l f 0 h free ∙ rw (free_not_root f l.key h free) h.root;
}

pub IsForest-with_fields : (k : ℕ) (fields : Fields) (f : Forest) → IsForest f → IsForest (with_fields k fields f)
IsForest-with_fields k fields f h = record {
  once = λ q. omega (arith, count-with_fields q k fields f, h.once q);
  rising = ap rises (roots_set k fields f) ∙ h.rising;
  root = kind_of-with_fields k fields f 0 ∙ h.root;
}

pub IsForest-take_out : (k : ℕ) (f : Forest) → IsForest f → IsForest (take_out k f)
unfolding take_out
IsForest-take_out k f h = record {
  once = λ q. omega (arith, count-take_out q k f, h.once q);
  rising = (rootedOrder.IsOrdered-take_out key_of k f (ordered h)).rising;
  root = kind_of-take_out k f 0 h ∙ h.root;
}

pub IsForest-put_in : (p : ℕ) (before : Option ℕ) (k : ℕ) (f : Forest) → IsForest f → CanPut p k f → IsForest (put_in p before k f)
unfolding put_in
IsForest-put_in p before k f h c = record {
  once = λ q. omega (arith, count-put_in q p before k f h c.parent c.outside, h.once q);
  rising = (rootedOrder.IsOrdered-put_in key_of p before k f (ordered h) c).rising;
  root = kind_of-put_in p before k f 0 h c ∙ h.root;
}

pub IsForest-drop_detached : (f : Forest) → IsForest f → IsForest (drop_detached f)
IsForest-drop_detached f h = record {
  once = λ q. grind (arith, count-drop_detached q f h);
  rising = ap rises (roots_dropped f h);
  root = kind_of-drop_detached f 0 h ∙ rw (is_attached-root f h) h.root;
}

-- ---- forests in order whose keys stand alike are equal

pub same_forest : (f g : Forest) → IsForest f → IsForest g → ((q : ℕ) → spot f q ≡ spot g q) → f ≡ g
same_forest f g h1 h2 h3 = rootedOrder.same_forest key_of f g (ordered h1) (ordered h2) h3
