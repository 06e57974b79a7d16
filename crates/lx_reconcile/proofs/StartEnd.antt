-- How the children of a host are before the first move, and after the last.
use Rattle.std.proofs.Common.{◌≡◌, ◌≢◌, ◌∙◌, ◌+◌, ◌<◌, ℕ, Bool, true, false, cond, eqb, ltb, List, [], ◌∷◌, ◌++◌, Option, None, Some, option_map, refl, sym, ap, subst, arith, eq-eqb, eqb-true, ltb-true, append-nil}
use Rattle.std.specs.List.{AllByRecursion}
use Rattle.std.proofs.lemmas.Bool.Decides.{eqb_tells}
use Rattle.std.proofs.lemmas.Bool.{and_parts}
use Rattle.std.proofs.lemmas.Option.{same_Some}
use Rattle.lx_trees.specs.Trees.{Trees, nil, tree, joined}
use Rattle.lx_trees.specs.NamedTrees as named
use Rattle.lx_trees.specs.Siblings.{is_among, is_named}
use Rattle.lx_trees.specs.Spots.{Spot, spot_below, children_at}
use Rattle.lx_trees.proofs.NamedTrees as trees
use Rattle.lx_trees.proofs.Subtrees.{alone-spot_below, count-alone-le}
use Rattle.lx_host.specs.declared.op.Op.{Op}
use Rattle.lx_host.specs.Branches.{IsRooted}
use Rattle.lx_host.specs.Hosts.{Face, Host, HostTree, id_of, shape_of, count, alone, Leads, IsNumbered}
use Rattle.lx_forest.specs.Forest.{Label, Forest}
use Rattle.lx_forest.specs.Lookups as forest
use Rattle.lx_forest.specs.Lookups.{key_of, spot, parent_of, children_of, trees_of, IsForest, rises, rises_from}
use Rattle.lx_forest.proofs.Edits.{is_some-spot, parent_of-root, has-root}
use Rattle.lx_forest.proofs.Lookups.{is_among-children_of, has-child, trees_of-roots}
use Rattle.lx_render.specs.Render.{render, face_of, last_kind}
use Rattle.lx_reconcile.specs.Allowed.{Shows, hosts_of, IsKept, IsDue, AllWriteAnew, AreAllowed}
use Rattle.lx_reconcile.specs.Reconciled.{flat, host_in, AreReconciled, IsAt, IsUnderWay}
use Rattle.lx_reconcile.proofs.Children.{stands_there}
use Rattle.lx_reconcile.proofs.Families.{alone-at}
use Rattle.lx_reconcile.proofs.Kept.{kept_there}
use Rattle.lx_reconcile.proofs.Shown.{key_in, shape_of-joined, render-joined, hosts_of-joined, shows_first, count-shown, names-shown, alone-shown, children-shown, hosts_of-none, hosts_of-one, count-hosts_of, among_one, alone-host, hosts_of-alone}

-- ---- a node that a host shows

pub record IsShownAt (old : Forest) (v : HostTree) (k : ℕ) : Type 0 where
  pub host : Host
  pub is : alone (host_in v k) v.hosts ≡ tree host (flat (λ c. alone (host_in v c) v.hosts) (children_of old k)) nil
  pub id : host.id ≡ host_in v k
  pub face : (l : Label) (below : Forest) → forest.alone k old ≡ tree l below nil → host.face ≡ face_of l (last_kind below)
  pub key : host.face.key ≡ k
  pub only : hosts_of k v.hosts ≡ host_in v k ∷ []

has_tells : (n : ℕ) → n < 2 → ltb 0 n ≡ true → n ≡ 1
has_tells n once some = omega (arith, once, ltb-true 0 n some)

pub count_one : (old : Forest) (v : HostTree) (k : ℕ) → IsForest old → Shows v old → forest.has k old ≡ true → named.count key_in k v.hosts ≡ 1
count_one old v k h shows there = count-shown k v.hosts old shows ∙ has_tells (forest.count k old) (h.once k) there

pub only_host : (old : Forest) (v : HostTree) (k : ℕ) → IsForest old → Shows v old → forest.has k old ≡ true → hosts_of k v.hosts ≡ host_in v k ∷ []
only_host old v k h shows there = hosts_of-one k v.hosts (count_one old v k h shows there)

same_tree : (old : Forest) (v : HostTree) (k : ℕ) → IsForest old → Shows v old → IsNumbered v → forest.has k old ≡ true
    → named.alone key_in k v.hosts ≡ alone (host_in v k) v.hosts
same_tree old v k h shows n there = alone-host k (host_in v k) v.hosts n.once (count_one old v k h shows there) (only_host old v k h shows there)

gathered-flat : (old : Forest) (v : HostTree) (cs : List ℕ) → IsForest old → Shows v old → IsNumbered v
    → ((c : ℕ) → is_among c cs ≡ true → forest.has c old ≡ true)
    → named.gathered key_in v.hosts cs ≡ flat (λ c. alone (host_in v c) v.hosts) cs
gathered-flat old v [] h shows n there = refl
gathered-flat old v (c ∷ cs) h shows n there =
    ap (λ t. joined t (named.gathered key_in v.hosts cs)) (same_tree old v c h shows n (there c (grind (arith, eqb_tells c c))))
    ∙ ap (joined (alone (host_in v c) v.hosts)) (gathered-flat old v cs h shows n (λ d e. there d (grind (arith, e))))

some_children : {A : Type 0} (xs : List ℕ) (o : Option (Spot A)) → Some xs ≡ option_map (λ (s : Spot A). s.children) o → xs ≡ children_at o
some_children xs None e = absurd (cc)
some_children xs (Some s) e = same_Some xs s.children e

pub child_stands : (f : Forest) (k c : ℕ) → IsForest f → is_among c (children_of f k) ≡ true → forest.has c f ≡ true
child_stands f k c h among = grind (arith, among, is_among-children_of f c k h, has-child f c)

pub is_shown_at : (old : Forest) (v : HostTree) (k : ℕ) → IsForest old → Shows v old → IsNumbered v → forest.has k old ≡ true → IsShownAt old v k
is_shown_at old v k h shows n there = from_spot (spot_below key_in None v.hosts k) refl (children-shown k None None v.hosts old shows) where
  from_spot : (o : Option (Spot Host)) → spot_below key_in None v.hosts k ≡ o
      → option_map (λ (s : Spot Host). s.children) o ≡ option_map (λ (s : Spot Label). s.children) (spot old k) → IsShownAt old v k
  from_spot None at e = absurd (grind (arith, e, there, is_some-spot old k))
  from_spot (Some s) at e =
      let kids : s.children ≡ children_of old k = some_children s.children (spot old k) e in
      let keyed : named.alone key_in k v.hosts ≡ tree s.label (named.gathered key_in v.hosts s.children) nil =
      alone-spot_below key_in None v.hosts k s (λ q. subst (λ m. m < 2) (sym (count-shown q v.hosts old shows)) (h.once q)) at in
      let below : named.gathered key_in v.hosts s.children ≡ flat (λ c. alone (host_in v c) v.hosts) (children_of old k) =
      ap (named.gathered key_in v.hosts) kids ∙ gathered-flat old v (children_of old k) h shows n (λ c e. child_stands old k c h e) in
      let same = same_tree old v k h shows n there in
      let is : alone (host_in v k) v.hosts ≡ tree s.label (flat (λ c. alone (host_in v c) v.hosts) (children_of old k)) nil =
      sym same ∙ keyed ∙ ap (λ t. tree s.label t nil) below in
      let only = only_host old v k h shows there in
      let one : count (host_in v k) v.hosts ≡ 1 =
      omega (arith, n.once (host_in v k), count-hosts_of k (host_in v k) v.hosts (among_one (host_in v k) (hosts_of k v.hosts) only)) in
      let ids : s.label.id ∷ [] ≡ host_in v k ∷ [] = sym (ap (named.names id_of) is) ∙ trees.names-alone id_of (host_in v k) v.hosts one in
      let keys : s.label.face.key ∷ [] ≡ k ∷ [] = sym (ap (named.names key_in) keyed) ∙ trees.names-alone key_in k v.hosts (count_one old v k h shows there) in
      record {
        host = s.label;
        is = is;
        id = cc;
        face = λ l below e. (shows_first s.label (named.gathered key_in v.hosts s.children) nil l below nil
            (sym (ap shape_of keyed) ∙ alone-shown k v.hosts old shows ∙ ap render e)).face;
        key = cc;
        only = only;
      }

pub shown_at_id : (old : Forest) (v : HostTree) (k : ℕ) → IsForest old → Shows v old → IsNumbered v → forest.has k old ≡ true
    → IsAt (host_in v k) (alone (host_in v k) v.hosts)
shown_at_id old v k h shows n there =
    let s = is_shown_at old v k h shows n there in
    record { host = s.host; below = flat (λ c. alone (host_in v c) v.hosts) (children_of old k); is = s.is; id = s.id }

rises_first : (x : ℕ) (xs : List ℕ) → rises (x ∷ xs) ≡ true → x ≡ 0
rises_first x xs e = eqb-true x 0 (and_parts (eqb x 0) (rises_from 0 xs) e).0

root_key : (t : Trees Host) (f : Forest) (x : Host) (below : Trees Host) → IsForest f → shape_of t ≡ render f → IsRooted t → alone 0 t ≡ tree x below nil
    → x.face.key ≡ 0
root_key nil f x below h shows rooted e = absurd rooted
root_key (tree a b r) f x below h shows rooted e =
    let own : tree a b (alone 0 r) ≡ tree x below nil = rw (eq-eqb a.id 0 rooted) at e in
    let same : a ≡ x = cc in
    sym (ap (λ (z : Host). z.face.key) same)
    ∙ rises_first a.face.key (named.names key_in r) (ap rises (names-shown (tree a b r) f shows) ∙ h.rising)

-- no child is shown by host 0
pub not_root : (old : Forest) (v : HostTree) (k c : ℕ) → IsForest old → Shows v old → IsNumbered v → IsRooted v.hosts → is_among c (children_of old k) ≡ true
    → host_in v c ≢ 0
not_root old v k c h shows n rooted among zero =
    let s = is_shown_at old v c h shows n (child_stands old k c h among) in
    let key =
    root_key v.hosts old s.host (flat (λ c. alone (host_in v c) v.hosts) (children_of old c)) h shows rooted
    (ap (λ i. alone i v.hosts) (sym zero) ∙ s.is) in
    let root : c ≡ 0 = sym s.key ∙ key in
    let named : is_named (parent_of old c) k ≡ true = sym (is_among-children_of old c k h) ∙ among in
    let none : is_named (parent_of old c) k ≡ false = ap (λ o. is_named o k) (ap (parent_of old) root ∙ parent_of-root old h) in
    cc

-- before the first move
pub is_started : (old new : Forest) (v : HostTree) (k : ℕ) → IsForest old → Shows v old → IsNumbered v
    → IsUnderWay old new v [] (children_of old k) (host_in v) (λ c. alone (host_in v c) v.hosts)
is_started old new v k h shows n = record {
  at = λ c among. shown_at_id old v c h shows n (child_stands old k c h among);
  done = λ c among handled. absurd (cc);
  waiting = λ c among waits. (refl, refl);
}

-- ---- what is handled

-- the shape of the trees of some nodes
pub shape_of-flat : (old new : Forest) (v : HostTree) (family : ℕ → Trees Host) (cs : List ℕ)
    → ((c : ℕ) → is_among c cs ≡ true → AreReconciled old new v c (family c))
    → shape_of (flat family cs) ≡ render (trees_of new cs)
shape_of-flat old new v family [] done = refl
shape_of-flat old new v family (c ∷ cs) done =
    shape_of-joined (family c) (flat family cs)
    ∙ ap (λ t. joined t (shape_of (flat family cs))) (done c (grind (arith, eqb_tells c c))).shape
    ∙ ap (joined (render (forest.alone c new))) (shape_of-flat old new v family cs (λ d e. done d (grind (arith, e))))
    ∙ sym (render-joined (forest.alone c new) (trees_of new cs))

-- trees that show a node's tree have a host for a key just where the key is in it
shown_none : (q k : ℕ) (new : Forest) (t : Trees Host) → shape_of t ≡ render (forest.alone k new) → forest.count q (forest.alone k new) ≡ 0 → hosts_of q t ≡ []
shown_none q k new t shape none = hosts_of-none q t (count-shown q t (forest.alone k new) shape ∙ none)

pub hosts_of-flat : (old new : Forest) (v : HostTree) (family : ℕ → Trees Host) (cs : List ℕ) (q : ℕ)
    → ((c : ℕ) → is_among c cs ≡ true → AreReconciled old new v c (family c))
    → IsKept old new q → forest.count q (trees_of new cs) ≡ 1 → hosts_of q (flat family cs) ≡ hosts_of q v.hosts
hosts_of-flat old new v family [] q done kept one = absurd (omega (arith, one))
hosts_of-flat old new v family (c ∷ cs) q done kept one =
    let here = done c (grind (arith, eqb_tells c c)) in
    let later = λ (d : ℕ) (e : is_among d cs ≡ true). done d (grind (arith, e)) in
    grind (
      arith,
      one,
      trees.count-joined key_of q (forest.alone c new) (trees_of new cs),
      hosts_of-joined q (family c) (flat family cs),
      here.keeps q kept,
      hosts_of-none q (flat family cs),
      count-shown q (flat family cs) (trees_of new cs) (shape_of-flat old new v family cs later),
      shown_none q c new (family c) here.shape,
      append-nil (hosts_of q v.hosts),
      hosts_of-flat old new v family cs q later kept,
    )

-- ---- a tree that is the same in both

pub shown_same : (old new : Forest) (v : HostTree) (k : ℕ) → IsForest old → Shows v old → IsNumbered v → forest.has k old ≡ true
    → forest.alone k new ≡ forest.alone k old
    → AreReconciled old new v k (alone (host_in v k) v.hosts)
shown_same old new v k h shows n there same =
    let keyed : named.alone key_in k v.hosts ≡ alone (host_in v k) v.hosts = same_tree old v k h shows n there in
    let shape : shape_of (named.alone key_in k v.hosts) ≡ render (forest.alone k old) = alone-shown k v.hosts old shows in
    record {
      shape = sym (ap shape_of keyed) ∙ shape ∙ sym (ap render same);
      keeps = λ q kept inside.
          let in_old : 0 < forest.count q (forest.alone k old) = ltb-true 0 (forest.count q (forest.alone k old)) (sym (ap (forest.has q) same) ∙ inside) in
          let out : named.count key_in q (named.without key_in k v.hosts) ≡ 0 =
          omega (
            arith,
            in_old,
            h.once q,
            count-shown q v.hosts old shows,
            count-shown q (named.alone key_in k v.hosts) (forest.alone k old) shape,
            trees.count-without-alone key_in q k v.hosts,
          ) in
          sym (ap (hosts_of q) keyed) ∙ hosts_of-alone q k v.hosts out;
    }

-- ---- after the last move

-- the label of a key's tree has that key
label_key : (f : Forest) (k : ℕ) (l : Label) (below : Forest) → IsForest f → forest.alone k f ≡ tree l below nil → l.key ≡ k
label_key f k l below h is =
    grind (arith, ap (named.names key_of) is, h.once k, trees.names-alone key_of k f, trees.alone-absent key_of k f)

-- what a node's host shows, and all below it
pub are_reconciled : (old new : Forest) (v : HostTree) (k : ℕ) (a : Host) (l : Label) (family : ℕ → Trees Host) → IsForest old → IsForest new → Shows v old
    → forest.alone k new ≡ tree l (trees_of new (children_of new k)) nil
    → a.face ≡ face_of l (last_kind (trees_of new (children_of new k)))
    → a.id ≡ host_in v k
    → ((c : ℕ) → is_among c (children_of new k) ≡ true → AreReconciled old new v c (family c))
    → AreReconciled old new v k (tree a (flat family (children_of new k)) nil)
are_reconciled old new v k a l family g h shows is face id done =
    let cs = children_of new k in
    let kids = trees_of new cs in
    let shape : shape_of (flat family cs) ≡ render kids = shape_of-flat old new v family cs done in
    let whole : shape_of (tree a (flat family cs) nil) ≡ render (forest.alone k new) =
    ap (λ f. tree f (shape_of (flat family cs)) nil) face ∙ ap (λ t. tree (face_of l (last_kind kids)) t nil) shape ∙ sym (ap render is) in
    record {
      shape = whole;
      keeps = λ q kept inside.
          let key : a.face.key ≡ l.key = ap (λ (x : Face). x.key) face in
          let own_key : l.key ≡ k = label_key new k l kids h is in
          let counted : cond (eqb a.face.key q) 1 0 + forest.count q kids ≡ forest.count q (forest.alone k new) =
          ap {B = ℕ} (λ x. cond (eqb x q) 1 0 + forest.count q kids) key ∙ omega (arith, ap (forest.count q) is) in
          let one : cond (eqb a.face.key q) 1 0 + forest.count q kids ≡ 1 =
          counted ∙ has_tells (forest.count q (forest.alone k new)) (omega (arith, h.once q, count-alone-le key_of q k new)) inside in
          grind (
            arith,
            one,
            id,
            key,
            own_key,
            eqb_tells a.face.key q,
            hosts_of-none q (flat family cs),
            count-shown q (flat family cs) kids shape,
            only_host old v q g shows (kept_there old new q g h kept).0,
            append-nil (hosts_of q (flat family cs)),
            hosts_of-flat old new v family cs q done kept,
          );
    }

-- ---- the whole

shape_nil : (t : Trees Host) → shape_of t ≡ nil → t ≡ nil
shape_nil nil e = refl
shape_nil (tree a b r) e = absurd (cc)

-- where nothing is detached, the host tree is that of host 0
pub root_at : (t : Trees Host) (f : Forest) → IsForest f → forest.alone 0 f ≡ f → shape_of t ≡ render f → IsRooted t → IsAt 0 t
root_at nil f h whole shows rooted = absurd rooted
root_at (tree a b r) f h whole shows rooted =
    let s = stands_there f 0 h (has-root f h) in
    let first = shows_first a b r s.label s.below nil (shows ∙ ap render (sym whole ∙ s.tree_is)) in
    record { host = a; below = b; is = ap (tree a b) (shape_nil r first.rest); id = rooted }

pub root_id : (old : Forest) (v : HostTree) → IsForest old → Shows v old → IsRooted v.hosts → IsAt 0 v.hosts → host_in v 0 ≡ 0
root_id old v h shows rooted at =
    let own : alone 0 v.hosts ≡ tree at.host at.below nil = alone-at 0 v.hosts at ∙ at.is in
    let key : at.host.face.key ≡ 0 = root_key v.hosts old at.host at.below h shows rooted own in
    let list : at.host.id ∷ (hosts_of 0 at.below ++ []) ≡ host_in v 0 ∷ [] =
    rw (eq-eqb at.host.face.key 0 key) at (sym (ap (hosts_of 0) at.is) ∙ only_host old v 0 h shows (has-root old h)) in
    let same : at.host.id ≡ host_in v 0 = cc in
    sym same ∙ at.id

pub is_allowed : (old new : Forest) (touched : ℕ → Bool) (v : HostTree) (ops : List Op) (to : Trees Host) (m : ℕ) → IsForest old → IsForest new
    → forest.alone 0 new ≡ new
    → AreReconciled old new v 0 to → Leads v ops (record { hosts = to; next = m }) → AllByRecursion (IsDue old new touched v) ops → AllWriteAnew v ops
    → AreAllowed old new touched v ops (record { hosts = to; next = m })
is_allowed old new touched v ops to m g h whole r leads due writes = record {
  due = due;
  writes = writes;
  leads = leads;
  shows = r.shape ∙ ap render whole;
  keeps = λ q kept. r.keeps q kept (ap (forest.has q) whole ∙ (kept_there old new q g h kept).1);
}

-- nothing is detached where the root's tree is the only one
pub one_tree : (f : Forest) → IsForest f → forest.roots f ≡ 0 ∷ [] → forest.alone 0 f ≡ f
one_tree f h only = sym (trees.joined-nil (forest.alone 0 f)) ∙ ap (trees_of f) (sym only) ∙ trees_of-roots f h
