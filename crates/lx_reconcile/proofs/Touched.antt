-- What each operation owes, by the marks that cover two trees.
use Rattle.std.proofs.Common.{◌≡◌, ◌∙◌, ◌<◌, ◌≤◌, ℕ, true, false, List, [], ◌∷◌, ◌++◌, length, length-append, Option, None, Some, option_map, inl, inr, refl, sym, ap, subst, arith, cond, eqb}
use Rattle.std.specs.List.{AllByRecursion}
use Rattle.std.proofs.lemmas.Bool.{cases_Bool, false_from_ne_true, true_from_ne_false}
use Rattle.std.proofs.lemmas.Bool.Decides.{eqb_tells}
use Rattle.std.proofs.lemmas.Option.{same_Some}
use Rattle.lx_trees.specs.Trees.{Trees, nil, tree}
use Rattle.lx_trees.specs.Siblings.{is_among, last_of}
use Rattle.lx_trees.proofs.Siblings.{is_among-append}
use Rattle.lx_node.specs.declared.kind.Kind.{Kind}
use Rattle.lx_host.specs.declared.op.Op.{Op}
use Rattle.lx_host.specs.declared.op.Op.TheVariants as op
use Rattle.lx_host.specs.Hosts as hosts
use Rattle.lx_host.specs.Hosts.{Host, HostTree, count, IsNumbered}
use Rattle.lx_forest.specs.Forest.{Label, Forest}
use Rattle.lx_forest.specs.Lookups.{has, label_of, parent_of, children_of, last_child, alone}
use Rattle.lx_forest.specs.Views.{kind_at}
use Rattle.lx_links.specs.Stands.{Sound}
use Rattle.lx_links.proofs.Placed.{parent_of-child}
use Rattle.lx_forest.specs.Covered.{Marking}
use Rattle.lx_reconcile.specs.Covering.{AreCoveredByParents}
use Rattle.lx_reconcile.specs.Allowed.{KeepsOrder, hosts_of, new_host, of_touched, of_child, IsDue}
use Rattle.lx_reconcile.specs.Created.{create_op, creation_of}
use Rattle.lx_reconcile.specs.Changing.{IsWriteAt, is_text, is_attr, is_break}
use Rattle.lx_reconcile.specs.Making.{IsBetween}
use Rattle.lx_reconcile.specs.Reconciled.{host_in}
use Rattle.lx_reconcile.proofs.Created.{has_if, has_not}
use Rattle.lx_reconcile.proofs.Children.{stands_there}
use Rattle.lx_reconcile.proofs.Due.{creation_each}
use Rattle.lx_reconcile.proofs.Shown.{count-hosts_of, among_one}
use Rattle.lx_reconcile.proofs.StartEnd.{only_host, child_stands}
use Rattle.lx_reconcile.proofs.Lists.{last_of-among}

-- ---- hosts and what they show

hosts_apart : (i q : ℕ) (t : Trees Host) → count i t ≡ 0 → is_among i (hosts_of q t) ≡ false
hosts_apart i q t none = false_from_ne_true (is_among i (hosts_of q t)) (λ there. omega (arith, none, count-hosts_of q i t there))

-- a host shows one node
pub one_shown : (i q c : ℕ) (t : Trees Host) → count i t < 2 → is_among i (hosts_of q t) ≡ true → is_among i (hosts_of c t) ≡ true → q ≡ c
one_shown i q c nil once e d = absurd (cc)
one_shown i q c (tree h b r) once e d =
    let own = cond (eqb h.face.key q) (h.id ∷ []) [] in
    let other = cond (eqb h.face.key c) (h.id ∷ []) [] in
    grind (
      arith,
      eqb_tells h.face.key q,
      eqb_tells h.face.key c,
      eqb_tells h.id i,
      is_among-append i (own ++ hosts_of q b) (hosts_of q r),
      is_among-append i own (hosts_of q b),
      is_among-append i (other ++ hosts_of c b) (hosts_of c r),
      is_among-append i other (hosts_of c b),
      count-hosts_of q i b,
      count-hosts_of q i r,
      count-hosts_of c i b,
      count-hosts_of c i r,
      one_shown i q c b,
      one_shown i q c r,
    )

-- ---- lists

pub none_pushed : (start end pushed : List Op) → end ≡ start ++ pushed → end ≡ start → pushed ≡ []
none_pushed start end [] is same = refl
none_pushed start end (x ∷ xs) is same = absurd (omega (arith, ap length is, ap length same, length-append start (x ∷ xs)))

each_weaker : (P Q : Op → Type 0) (ops : List Op) → ((op : Op) → P op → Q op) → AllByRecursion P ops → AllByRecursion Q ops
each_weaker P Q [] weaker all = tt
each_weaker P Q (op ∷ ops) weaker all = (weaker op all.0, each_weaker P Q ops weaker all.1)

module _ (old new : Forest) (mk : Marking) (v : HostTree) where
  abbrev pub Due : Op → Type 0
  Due = IsDue old new mk.touched v

  -- ---- what is marked

  pub children_touched : (k : ℕ) → AreCoveredByParents old new mk → has k old ≡ true → has k new ≡ true
      → (children_of old k ≡ children_of new k → ⊥)
      → mk.touched k ≡ true
  children_touched k c was is other = true_from_ne_false (mk.touched k) (λ plain. other (c.alike k was is plain).children)

  pub label_touched : (k : ℕ) (x y : Label) → AreCoveredByParents old new mk → has k old ≡ true → has k new ≡ true
      → label_of old k ≡ Some x → label_of new k ≡ Some y
      → (x.kind ≡ y.kind → x.fields ≡ y.fields → ⊥) → mk.touched k ≡ true
  label_touched k x y c was is was_label is_label other = true_from_ne_false (mk.touched k) (λ plain.
      let kinds : Some x.kind ≡ Some y.kind =
      sym (ap (option_map (λ (l : Label). l.kind)) was_label) ∙ c.kinds k was is ∙ ap (option_map (λ (l : Label). l.kind)) is_label in
      let fields : Some x.fields ≡ Some y.fields =
      sym (ap (option_map (λ (l : Label). l.fields)) was_label) ∙ (c.alike k was is plain).fields ∙ ap (option_map (λ (l : Label). l.fields)) is_label in
      other (same_Some x.kind y.kind kinds) (same_Some x.fields y.fields fields))

  -- the last child of an untouched node has the same kind in both
  pub last_same : (k : ℕ) → AreCoveredByParents old new mk → Sound old → Sound new → IsBetween old new mk v
      → children_of old k ≡ children_of new k
      → kind_at old (last_child old k) ≡ kind_at new (last_child new k)
  last_same k c s t b same = by_last (last_child old k) refl (sym (ap last_of same)) where
    by_last : (o : Option ℕ) → last_child old k ≡ o → last_child new k ≡ last_child old k → kind_at old (last_child old k) ≡ kind_at new (last_child new k)
    by_last None e d = ap (kind_at old) e ∙ sym (ap (kind_at new) (d ∙ e))
    by_last (Some q) e d =
        ap (kind_at old) e
        ∙ c.kinds q (child_stands old k q b.view.before (last_of-among (children_of old k) q e))
        (child_stands new k q b.view.after (last_of-among (children_of new k) q (d ∙ e)))
        ∙ sym (ap (kind_at new) (d ∙ e))

  -- ---- operations about new hosts

  new_absent : (id : ℕ) → IsNumbered v → v.next ≤ id → count id v.hosts ≡ 0
  new_absent id n from = n.below id (omega (arith, from))

  pub create_due : (id : ℕ) (label : Label) (last : Option Kind) → IsNumbered v → v.next ≤ id → Due (create_op id label last)
  create_due id label last n from = record { subject = new_host id (has_not id v.hosts (new_absent id n from)); place = tt; drop = tt }

  pub new_due : (parent id : ℕ) (before : Option ℕ) → IsNumbered v → v.next ≤ id → Due (op.Place parent id before)
  new_due parent id before n from = record {
    subject = new_host id (has_not id v.hosts (new_absent id n from));
    place = λ key up kept is order. hosts_apart id key v.hosts (new_absent id n from);
    drop = tt;
  }

  pub creation_due : (id c : ℕ) → IsBetween old new mk v → has c new ≡ true → v.next ≤ id → AllByRecursion Due (creation_of id (alone c new))
  creation_due id c b there from =
      let s = stands_there new c b.view.after there in
      subst (λ t. AllByRecursion Due (creation_of id t)) (sym s.tree_is)
      (creation_each Due v.next (λ id label last from. create_due id label last b.view.numbered from)
      (λ parent id from. new_due parent id None b.view.numbered from) id s.label s.below from)

  -- ---- operations about hosts of the view

  shows_it : (c : ℕ) → IsBetween old new mk v → has c old ≡ true → is_among (host_in v c) (hosts_of c v.hosts) ≡ true
  shows_it c b there = among_one (host_in v c) (hosts_of c v.hosts) (only_host old v c b.view.before b.view.shows there)

  host_there : (c : ℕ) → IsBetween old new mk v → has c old ≡ true → hosts.has (host_in v c) v.hosts ≡ true
  host_there c b there = has_if (host_in v c) v.hosts (count-hosts_of c (host_in v c) v.hosts (shows_it c b there))

  -- the host of a child goes
  pub child_drop_due : (k c : ℕ) → IsBetween old new mk v → has k new ≡ true → is_among c (children_of old k) ≡ true → mk.touched k ≡ true
      → Due (op.Drop (host_in v c))
  child_drop_due k c b stays among marked =
      let there = child_stands old k c b.view.before among in
      record {
        subject = of_child (host_in v c) c k (shows_it c b there) (parent_of-child old c k b.was_sound among) stays marked;
        place = tt;
        drop = host_there c b there;
      }

  -- a host goes whose own node is touched
  pub drop_due : (c : ℕ) → IsBetween old new mk v → has c old ≡ true → mk.touched c ≡ true → Due (op.Drop (host_in v c))
  drop_due c b there marked = record { subject = of_touched (host_in v c) c (shows_it c b there) marked; place = tt; drop = host_there c b there }

  -- a child is placed, where the children don't keep their order
  pub place_due : (k c parent : ℕ) (before : Option ℕ) → IsBetween old new mk v → has k new ≡ true → is_among c (children_of old k) ≡ true
      → is_among c (children_of new k) ≡ true → mk.touched k ≡ true → (KeepsOrder old new k → ⊥) → Due (op.Place parent (host_in v c) before)
  place_due k c parent before b stays among among_new marked other =
      let there = child_stands old k c b.view.before among in
      let shown = shows_it c b there in
      record {
        subject = of_child (host_in v c) c k shown (parent_of-child old c k b.was_sound among) stays marked;
        place = λ key up kept is order. false_from_ne_true (is_among (host_in v c) (hosts_of key v.hosts)) (λ too.
            let same : key ≡ c = one_shown (host_in v c) key c v.hosts (b.view.numbered.once (host_in v c)) too shown in
            let parents : Some up ≡ Some k = sym is ∙ ap (parent_of new) same ∙ parent_of-child new c k b.sound among_new in
            other (subst (KeepsOrder old new) (same_Some up k parents) order));
        drop = tt;
      }

  -- what is written at the host of a touched node
  write_due : (k : ℕ) → IsBetween old new mk v → has k old ≡ true → mk.touched k ≡ true → (op : Op) → IsWriteAt (host_in v k) op → Due op
  write_due k b there marked _ (is_text text) = record { subject = of_touched (host_in v k) k (shows_it k b there) marked; place = tt; drop = tt }
  write_due k b there marked _ (is_attr name value) = record { subject = of_touched (host_in v k) k (shows_it k b there) marked; place = tt; drop = tt }
  write_due k b there marked _ (is_break ending) = record { subject = of_touched (host_in v k) k (shows_it k b there) marked; place = tt; drop = tt }

  -- either the node is touched, or nothing is written
  pub writes_due : (k : ℕ) (start end pushed : List Op) → IsBetween old new mk v → has k old ≡ true → end ≡ start ++ pushed
      → AllByRecursion (IsWriteAt (host_in v k)) pushed → (mk.touched k ≡ false → end ≡ start) → AllByRecursion Due pushed
  writes_due k start end pushed b there is only none = elim (cases_Bool (mk.touched k)) [
    | inl marked ↦ each_weaker (IsWriteAt (host_in v k)) Due pushed (write_due k b there marked) only
    | inr plain ↦ subst (AllByRecursion Due) (sym (none_pushed start end pushed is (none plain))) tt
  ]
