-- The moves of a host's children by a walk, from the first to the last.
use Rattle.std.proofs.Common.{◌≡◌, ◌≢◌, ◌∙◌, ◌+◌, ◌≤◌, ℕ, ◌&&◌, Bool, true, false, not, List, [], ◌∷◌, ◌++◌, map, Option, None, Some, option_map, refl, sym, ap, subst, arith, inl, inr, ne_eqb}
use Rattle.std.specs.List.{AllByRecursion}
use Rattle.std.proofs.lemmas.List.Elements.{recursion_from_All}
use Rattle.std.proofs.lemmas.Bool.Decides.{eqb_tells}
use Rattle.std.proofs.lemmas.Option.{same_Some}
use Rattle.lx_node.specs.Limits.{last_u32}
use Rattle.lx_trees.specs.Trees.{Trees, nil, tree}
use Rattle.lx_trees.specs.NamedTrees.{total}
use Rattle.lx_trees.specs.Siblings.{is_among, is_named, is_place, NoRepeats, names_without, names_with}
use Rattle.lx_trees.proofs.Siblings.{is_among-names_with, is_among-names_without}
use Rattle.lx_host.specs.declared.op.Op.{Op}
use Rattle.lx_host.specs.declared.op.Op.TheVariants as op
use Rattle.lx_host.specs.Hosts.{Host, HostTree, alone}
use Rattle.lx_forest.specs.Forest.{Label, Forest}
use Rattle.lx_forest.specs.Lookups as forest
use Rattle.lx_forest.specs.Lookups.{children_of, trees_of, label_of, IsForest}
use Rattle.lx_forest.proofs.Lookups.{NoRepeats-children_of}
use Rattle.lx_reconcile.specs.Allowed.{IsDue, unkept, IsKept, AreAllowed}
use Rattle.lx_render.specs.Render.{tag_of, face_of, last_kind, render}
use Rattle.lx_reconcile.specs.declared.moves.Move.{Move}
use Rattle.lx_reconcile.specs.declared.moves.Move.TheVariants.{Stay, Leave, Make, Place}
use Rattle.lx_reconcile.specs.Created.{creation_of, numbered}
use Rattle.lx_reconcile.specs.Reconciled.{LeadsAt, host_in, flat, AreReconciled, IsAt, IsUnderWay}
use Rattle.lx_reconcile.specs.Handled.{IsReconciled}
use Rattle.lx_reconcile.specs.Walk.{child_of, moved, suits_children, is_waiting, standing, leaving, IsWalk}
use Rattle.lx_reconcile.specs.ToCome.{IsView, AreToCome, IsInWalk}
use Rattle.lx_reconcile.proofs.Children.{stands_there}
use Rattle.lx_reconcile.proofs.Kept.{not_kept_new, not_kept_tag, kept_up}
use Rattle.lx_reconcile.proofs.UnkeptNodes.{unkept-joined, unkept-below, unkept-all, new_unkept, other_unkept}
use Rattle.lx_reconcile.proofs.StartEnd.{IsShownAt, child_stands, not_root, one_tree, shown_at_id, shown_same, is_started, are_reconciled, is_allowed, root_at, root_id}
use Rattle.std.proofs.lemmas.Bool.{and_parts, not-true}
use Rattle.lx_reconcile.proofs.Lists.{is_among-missing, once-filter}
use Rattle.lx_reconcile.proofs.InTurn.{children_among}
use Rattle.lx_reconcile.proofs.Created.{host_tree, shape_of-numbered}
use Rattle.lx_reconcile.proofs.Families.{with_entry, alone-at}
use Rattle.lx_reconcile.proofs.Frames.{at_same, at_then, at_whole}
use Rattle.lx_reconcile.proofs.OneMove.{at_stay, at_gone, at_new, at_moved, at_again, without_key}

-- ---- the children that moves are of

children_once : (ms : List Move) → NoRepeats (standing ms) → NoRepeats (leaving ms)
    → ((q : ℕ) → is_among q (standing ms) ≡ true → is_among q (leaving ms) ≡ false) → NoRepeats (map child_of ms)
children_once [] s l apart = tt
children_once (Leave k ∷ ms) s l apart =
    (grind (arith, children_among k ms, l.0, apart k, eqb_tells k k), children_once ms s l.1 (λ q e. grind (arith, apart q e)))
children_once (m ∷ ms) s l apart = (
  grind (arith, children_among (child_of m) ms, s.0, apart (child_of m), eqb_tells (child_of m) (child_of m)),
  children_once ms s.1 l (λ q e. apart q (grind (arith, e))),
)

-- ---- before the first move

pub all_to_come : (olds news : List ℕ) (ms : List Move) → NoRepeats olds → NoRepeats news → IsWalk olds news ms → AreToCome olds news [] olds ms
all_to_come olds news ms o n w = record {
  can = w.can;
  unhandled = w.unhandled;
  suited = recursion_from_All (λ m. suits_children olds m ≡ true) ms w.suited;
  once = children_once ms (subst NoRepeats (sym w.stands) n) (subst NoRepeats (sym w.leaves) (once-filter (λ k. not (is_among k news)) olds o))
      (λ q e. ap (is_among q) w.leaves ∙ grind (arith, is_among-missing olds news q, sym (ap (is_among q) w.stands) ∙ e));
  fresh = λ q e. refl;
  leads = w.leads;
  each = λ q e. children_among q ms ∙ grind (arith, e, ap (is_among q) w.stands);
  stays = λ q e. sym (ap (is_among q) w.stands) ∙ e;
  gone = λ q e. grind (arith, is_among-missing olds news q, sym (ap (is_among q) w.leaves) ∙ e);
  order = w.kept_order;
}

-- ---- after a move

later_step : (m : Move) (ms : List Move) (q : ℕ) → is_among q (standing ms) ≡ true → is_among q (standing (m ∷ ms)) ≡ true
later_step (Leave k) ms q e = e
later_step _ ms q e = grind (arith, e)

later_leaves : (m : Move) (ms : List Move) (q : ℕ) → is_among q (leaving ms) ≡ true → is_among q (leaving (m ∷ ms)) ≡ true
later_leaves (Leave k) ms q e = grind (arith, e)
later_leaves _ ms q e = e

pub one_came : (olds news handled now : List ℕ) (m : Move) (ms : List Move) → AreToCome olds news handled now (m ∷ ms)
    → AreToCome olds news (child_of m ∷ handled) (moved m now) ms
one_came olds news handled now m ms t = record {
  can = t.can.1;
  unhandled = t.unhandled.1;
  suited = t.suited.1;
  once = t.once.1;
  fresh = λ q e. grind (arith, e, t.once.0, t.fresh q, eqb_tells (child_of m) q);
  leads = t.leads;
  each = λ q e. grind (arith, t.each q e);
  stays = λ q e. t.stays q (later_step m ms q e);
  gone = λ q e. t.gone q (later_leaves m ms q e);
  order = λ e. grind (arith, t.order e);
}

-- a child that is placed stays then
pub placed_stays : (olds news handled now : List ℕ) (c : ℕ) (before : Option ℕ) (ms : List Move) → is_among c (moved (Place c before) now) ≡ true
    → AreToCome olds news handled now (Place c before ∷ ms)
    → AreToCome olds news handled (moved (Place c before) now) (Stay c ∷ ms)
placed_stays olds news handled now c before ms there t = record {
  can = (there, t.can.1);
  unhandled = (refl, t.unhandled.1);
  suited = t.suited;
  once = t.once;
  fresh = t.fresh;
  leads = t.leads;
  each = t.each;
  stays = t.stays;
  gone = t.gone;
  order = λ e. grind (arith, t.order e);
}

-- ---- the next move

own_fresh : (olds news handled now : List ℕ) (m : Move) (ms : List Move) → AreToCome olds news handled now (m ∷ ms) → is_among (child_of m) handled ≡ false
own_fresh olds news handled now m ms t = t.fresh (child_of m) (grind (arith, eqb_tells (child_of m) (child_of m)))

placed_there : (c : ℕ) (before : Option ℕ) (now : List ℕ) → is_among c (names_with before (c ∷ []) (names_without c now)) ≡ true
placed_there c before now = is_among-names_with before (c ∷ []) (names_without c now) c ∙ grind (arith, eqb_tells c c)

-- ---- which children are handled, after a move

among_handled : (d c : ℕ) (handled : List ℕ) → d ≢ c → is_among d (c ∷ handled) ≡ true → is_among d handled ≡ true
among_handled d c handled other e = rw (ne_eqb c d (λ x. other (sym x))) at e

not_handled : (d c : ℕ) (handled : List ℕ) → is_among d (c ∷ handled) ≡ false → (d ≢ c) × (is_among d handled ≡ false)
not_handled d c handled e = (λ same. grind (arith, e, eqb_tells c d, same), grind (arith, e))

made_at : (n : ℕ) (label : Label) (below : Forest) → IsAt n (numbered n (render (tree label below nil)))
made_at n label below =
    record { host = record { id = n; face = face_of label (last_kind below) }; below = numbered (n + 1) (render below); is = refl; id = refl }

module _ {old new : Forest} {v : HostTree} where
  -- one child has another tree now, which shows it
  under_way_entry : {handled cs : List ℕ} (cs_after : List ℕ) {ids : ℕ → ℕ} {family : ℕ → Trees Host} (c i : ℕ) (to : Trees Host)
      → IsUnderWay old new v handled cs ids family
      → ((d : ℕ) → is_among d cs_after ≡ true → d ≢ c → is_among d cs ≡ true) → IsAt i to → AreReconciled old new v c to
      → IsUnderWay old new v (c ∷ handled) cs_after (with_entry c i ids) (with_entry c to family)
  under_way_entry {handled} cs_after c i to u sub to_at to_is = record {
    at = λ d among. elim (eqb_tells d c) [
      | inl same ↦ rw same.0 to_at
      | inr other ↦ rw other.0 (u.at d (sub d among other.1))
    ];
    done = λ d among done. elim (eqb_tells d c) [
      | inl same ↦ rw same.0 (subst (λ x. AreReconciled old new v x to) (sym same.1) to_is)
      | inr other ↦ rw other.0 (u.done d (sub d among other.1) (among_handled d c handled other.1 done))
    ];
    waiting = λ d among waits.
        let later = not_handled d c handled waits in
        rw (ne_eqb d c later.0) (u.waiting d (sub d among later.0) later.1);
  }

  -- a node that is made: none that is kept is in its tree
  made_shown : (k n : ℕ) → IsForest new → (IsKept old new k → ⊥) → AreReconciled old new v k (numbered n (render (forest.alone k new)))
  made_shown k n h anew = record {
    shape = shape_of-numbered n (render (forest.alone k new));
    keeps = λ q kept inside. absurd (anew (kept_up old new k q h kept inside));
  }

  -- the ids that the view has
  before_id : (olds : List ℕ) {handled cs : List ℕ} {ids : ℕ → ℕ} {family : ℕ → Trees Host} (before : Option ℕ) → IsUnderWay old new v handled cs ids family
      → is_place before cs ≡ true
      → is_waiting olds handled before ≡ true → option_map ids before ≡ option_map (host_in v) before
  before_id olds None u place waits = refl
  before_id olds (Some b) u place waits = ap (λ i. Some i) (u.waiting b place (grind (arith, waits))).0

-- ---- how many aren't kept

module _ (old new : Forest) where
  one_less : (k c : ℕ) (ks : List ℕ)
      → unkept old (Some k) (trees_of new (c ∷ ks)) ≡ unkept old (Some k) (forest.alone c new) + unkept old (Some k) (trees_of new ks)
  one_less k c ks = unkept-joined old (Some k) (forest.alone c new) (trees_of new ks)

  -- below a child no more than in its tree
  pub child_unkept : (k c : ℕ) → IsForest new → forest.has c new ≡ true
      → unkept old (Some c) (trees_of new (children_of new c)) ≤ unkept old (Some k) (forest.alone c new)
  child_unkept k c h there =
      let s = stands_there new c h there in
      omega (
        arith,
        ap (unkept old (Some k)) s.tree_is,
        ap (λ q. unkept old (Some q) s.below) s.key,
        ap (unkept old (Some c)) s.below_is,
        unkept-below old (Some k) s.label s.below,
      )

  -- all in the tree of a child that wasn't one, or was another element
  pub made_unkept : (k c : ℕ) → IsForest old → IsForest new → forest.has c new ≡ true → is_among c (children_of old k) ≡ false
      → unkept old (Some k) (forest.alone c new) ≡ total (forest.alone c new)
  made_unkept k c g h there out =
      let s = stands_there new c h there in
      ap (unkept old (Some k)) s.tree_is
      ∙ unkept-all old (Some k) s.label s.below (new_unkept old k s.label g (ap (λ q. is_among q (children_of old k)) s.key ∙ out))
      ∙ ap total (sym s.tree_is)

  pub again_unkept : (k c : ℕ) {x y : Label} → IsForest old → IsForest new → forest.has c new ≡ true → label_of old c ≡ Some x → label_of new c ≡ Some y
      → (tag_of x.kind x.fields ≡ tag_of y.kind y.fields → ⊥)
      → unkept old (Some k) (forest.alone c new) ≡ total (forest.alone c new)
  again_unkept k c {x} {y} g h there was is other =
      let s = stands_there new c h there in
      let own : s.label ≡ y = same_Some s.label y (sym s.label_is ∙ is) in
      ap (unkept old (Some k)) s.tree_is
      ∙ unkept-all old (Some k) s.label s.below
      (other_unkept old k x s.label g (ap (label_of old) s.key ∙ was) (λ e. other (e ∙ ap (λ (l : Label). tag_of l.kind l.fields) own)))
      ∙ ap total (sym s.tree_is)

-- ---- one move after another

module _ {old new : Forest} {v : HostTree} where
  pub walk_start : {k n : ℕ} {ms : List Move} → IsView old new v → (s : IsShownAt old v k) → IsWalk (children_of old k) (children_of new k) ms
      → IsInWalk old new v k n [] s.host ms n
  walk_start {k} {n} {ms} view s w =
      let start = alone (host_in v k) v.hosts in
      record {
        handled = [];
        now = children_of old k;
        ids = host_in v;
        family = λ c. alone (host_in v c) v.hosts;
        id = s.id;
        leads = subst (λ t. LeadsAt (host_in v k) start n [] t n) s.is
            (at_same (host_in v k) start n
            (record { host = s.host; below = flat (λ c. alone (host_in v c) v.hosts) (children_of old k); is = s.is; id = s.id }));
        under_way = is_started old new v k view.before view.shows view.numbered;
        to_come = all_to_come (children_of old k) (children_of new k) ms (NoRepeats-children_of old k view.before) (NoRepeats-children_of new k view.after) w;
        rises = omega arith;
        grows = omega (arith, ap (λ ks. unkept old (Some k) (trees_of new ks)) w.stands);
      }

  -- more operations, which make of the host and of the family that are there now these ones
  walked_on : {k n : ℕ} {ops : List Op} {a : Host} {before : List Move} {m : ℕ} (w : IsInWalk old new v k n ops a before m) (more : List Op) (b : Host)
      (handled now : List ℕ)
      (ids : ℕ → ℕ) (family : ℕ → Trees Host) (after : List Move) (l : ℕ) → b.id ≡ a.id
      → LeadsAt (host_in v k) (tree a (flat w.family w.now) nil) m more (tree b (flat family now) nil) l
      → IsUnderWay old new v handled now ids family → AreToCome (children_of old k) (children_of new k) handled now after
      → m ≤ l → l + unkept old (Some k) (trees_of new (standing after)) ≤ m + unkept old (Some k) (trees_of new (standing before))
      → IsInWalk old new v k n (ops ++ more) b after l
  walked_on {k} {n} {ops} {a} {m} w more b handled now ids family after l same step under_way to_come rises grows = record {
    handled = handled;
    now = now;
    ids = ids;
    family = family;
    id = same ∙ w.id;
    leads = at_then (host_in v k) (alone (host_in v k) v.hosts) n ops (tree a (flat w.family w.now) nil) m more (tree b (flat family now) nil) l w.leads step
        (record { host = a; below = flat w.family w.now; is = refl; id = w.id });
    under_way = under_way;
    to_come = to_come;
    rises = omega (arith, w.rises, rises);
    grows = omega (arith, w.grows, grows);
  }

  -- there are ids left for the next child that is there in the end
  pub walk_room : {k n : ℕ} {ops : List Op} {a : Host} {s : Move} {ms : List Move} {m : ℕ} (c : ℕ) → IsInWalk old new v k n ops a (s ∷ ms) m
      → standing (s ∷ ms) ≡ c ∷ standing ms
      → m + unkept old (Some k) (forest.alone c new) ≤ n + unkept old (Some k) (trees_of new (children_of new k))
  walk_room {k} {ms} c w stands = omega (arith, w.grows, ap (λ ks. unkept old (Some k) (trees_of new ks)) stands, one_less old new k c (standing ms))

  -- what a move's child is: among the children before, and among those after
  pub walk_both : {k n : ℕ} {ops : List Op} {a : Host} {c : ℕ} {ms : List Move} {m : ℕ} → IsInWalk old new v k n ops a (Stay c ∷ ms) m
      → (is_among c (children_of old k) ≡ true) × (is_among c (children_of new k) ≡ true)
  walk_both {c} w = (w.to_come.suited.0, w.to_come.stays c (grind (arith, eqb_tells c c)))

  pub walk_stay : {k n : ℕ} {ops : List Op} {a : Host} {c : ℕ} {ms : List Move} {m : ℕ} {more : List Op} {l : ℕ} → IsForest new → forest.has c new ≡ true
      → IsInWalk old new v k n ops a (Stay c ∷ ms) m → IsReconciled old new v c m more l
      → IsInWalk old new v k n (ops ++ more) a ms l
  walk_stay {k} {a} {c} {ms} {m} {more} {l} h there w r =
      let u = w.under_way in
      let here = w.to_come.can.0 in
      let was = u.waiting c here (own_fresh (children_of old k) (children_of new k) w.handled w.now (Stay c) ms w.to_come) in
      let inner : LeadsAt (w.ids c) (w.family c) m more r.to l = subst (λ t. t) (λ i. LeadsAt (sym was.0 i) (sym was.1 i) m more r.to l) r.leads in
      walked_on w more a (c ∷ w.handled) w.now (with_entry c (host_in v c) w.ids) (with_entry c r.to w.family) ms l refl
      (at_stay (host_in v k) a w.ids w.family w.now m c more r.to l w.id u.at here inner)
      (under_way_entry w.now c (host_in v c) r.to u (λ d among other. among) r.at r.shown)
      (one_came (children_of old k) (children_of new k) w.handled w.now (Stay c) ms w.to_come)
      r.rises (omega (arith, r.grows, one_less old new k c (standing ms), child_unkept old new k c h there))

  -- a child that was one has its host of before, which isn't the root's
  own_id : {k n : ℕ} {ops : List Op} {a : Host} (s : Move) {ms : List Move} {m : ℕ} → IsView old new v → (w : IsInWalk old new v k n ops a (s ∷ ms) m)
      → is_among (child_of s) w.now ≡ true
      → is_among (child_of s) (children_of old k) ≡ true → (w.ids (child_of s) ≡ host_in v (child_of s)) × (w.ids (child_of s) ≢ 0)
  own_id {k} s {ms} view w here among =
      let own = (w.under_way.waiting (child_of s) here (own_fresh (children_of old k) (children_of new k) w.handled w.now s ms w.to_come)).0 in
      (own, λ e. not_root old v k (child_of s) view.before view.shows view.numbered view.rooted among (sym own ∙ e))

  pub walk_leave : {k n : ℕ} {ops : List Op} {a : Host} {c : ℕ} {ms : List Move} {m : ℕ} → IsView old new v → IsInWalk old new v k n ops a (Leave c ∷ ms) m
      → IsInWalk old new v k n (ops ++ op.Drop (host_in v c) ∷ []) a ms m
  walk_leave {k} {a} {c} {ms} {m} view w =
      let u = w.under_way in
      let here = w.to_come.can.0 in
      let own = own_id (Leave c) view w here w.to_come.suited.0 in
      let then = tree a (flat w.family (names_without c w.now)) nil in
      walked_on w (op.Drop (host_in v c) ∷ []) a (c ∷ w.handled) (names_without c w.now) w.ids w.family ms m refl
      (subst (λ i. LeadsAt (host_in v k) (tree a (flat w.family w.now) nil) m (op.Drop i ∷ []) then m) own.0
      (at_gone (host_in v k) a w.ids w.family w.now m c w.id u.at here own.1))
      (record {
        at = λ d among. u.at d (without_key c d w.now among).0;
        done = λ d among done. u.done d (without_key c d w.now among).0 (among_handled d c w.handled (without_key c d w.now among).1 done);
        waiting = λ d among waits. u.waiting d (without_key c d w.now among).0 (not_handled d c w.handled waits).1;
      })
      (one_came (children_of old k) (children_of new k) w.handled w.now (Leave c) ms w.to_come) (omega arith) (omega arith)

  -- a child is placed, and stays then
  pub walk_place : {k n : ℕ} {ops : List Op} {a : Host} {c : ℕ} {before : Option ℕ} {ms : List Move} {m : ℕ} → IsView old new v
      → IsInWalk old new v k n ops a (Place c before ∷ ms) m
      → IsInWalk old new v k n (ops ++ op.Place (host_in v k) (host_in v c) (option_map (host_in v) before) ∷ []) a (Stay c ∷ ms) m
  walk_place {k} {a} {c} {before} {ms} {m} view w =
      let u = w.under_way in
      let t = w.to_come in
      let can = and_parts (is_among c w.now) (is_place before w.now && not (is_named before c)) t.can.0 in
      let place = and_parts (is_place before w.now) (not (is_named before c)) can.1 in
      let own = own_id (Place c before) view w can.0 t.suited.0 in
      let after = names_with before (c ∷ []) (names_without c w.now) in
      let named = before_id (children_of old k) before u place.0 t.unhandled.0 in
      walked_on w (op.Place (host_in v k) (host_in v c) (option_map (host_in v) before) ∷ []) a w.handled after w.ids w.family (Stay c ∷ ms) m refl
      (subst (λ t. t)
      (λ i. LeadsAt (host_in v k) (tree a (flat w.family w.now) nil) m (op.Place (host_in v k) (own.0 i) (named i) ∷ []) (tree a (flat w.family after) nil)
      m)
      (at_moved (host_in v k) a w.ids w.family w.now m c before w.id u.at can.0 own.1 place.0 (not-true (is_named before c) place.1)))
      (record {
        at = λ d among. u.at d (was_among d among);
        done = λ d among. u.done d (was_among d among);
        waiting = λ d among. u.waiting d (was_among d among);
      })
      (placed_stays (children_of old k) (children_of new k) w.handled w.now c before ms (placed_there c before w.now) t) (omega arith) (omega arith)
    where
      was_among : (d : ℕ) → is_among d (names_with before (c ∷ []) (names_without c w.now)) ≡ true → is_among d w.now ≡ true
      was_among d e =
          let can = w.to_come.can.0 in
          grind (arith, e, can, is_among-names_with before (c ∷ []) (names_without c w.now) d, is_among-names_without c d w.now, eqb_tells c d)

  pub walk_make : {k n : ℕ} {ops : List Op} {a : Host} {c : ℕ} {before : Option ℕ} {ms : List Move} {m : ℕ} → IsView old new v
      → IsInWalk old new v k n ops a (Make c before ∷ ms) m
      → m + total (forest.alone c new) ≤ last_u32
      → IsInWalk old new v k n (ops ++ (creation_of m (forest.alone c new) ++ op.Place (host_in v k) m (option_map (host_in v) before) ∷ [])) a ms
      (m + total (forest.alone c new))
  walk_make {k} {a} {c} {before} {ms} {m} view w room =
      let u = w.under_way in
      let t = w.to_come in
      let can = and_parts (not (is_among c w.now)) (is_place before w.now) t.can.0 in
      let among : is_among c (children_of new k) ≡ true = t.stays c (grind (arith, eqb_tells c c)) in
      let there = child_stands new k c view.after among in
      let s = stands_there new c view.after there in
      let other = not-true (is_among c (children_of old k)) t.suited.0 in
      let after = names_with before (c ∷ []) w.now in
      let to : Forest → Trees Host = λ f. numbered m (render f) in
      let Makes : Forest → Option ℕ → Type 0 = λ f o.
      LeadsAt (host_in v k) (tree a (flat w.family w.now) nil) m (creation_of m f ++ op.Place (host_in v k) m o ∷ [])
      (tree a (flat (with_entry c (to f) w.family) after) nil) (m + total f) in
      let step : Makes (forest.alone c new) (option_map (host_in v) before) =
      subst (Makes (forest.alone c new)) (before_id (children_of old k) before u can.1 t.unhandled.0)
      (subst (λ f. m + total f ≤ last_u32 → Makes f (option_map w.ids before)) (sym s.tree_is)
      (at_new (host_in v k) a w.ids w.family w.now m c before s.label s.below w.id u.at (not-true (is_among c w.now) can.0) can.1) room) in
      walked_on w _ a (c ∷ w.handled) after (with_entry c m w.ids) (with_entry c (to (forest.alone c new)) w.family) ms (m + total (forest.alone c new)) refl
      step
      (under_way_entry after c m (to (forest.alone c new)) u (λ d e differs. was_among d e differs)
      (subst (λ f. IsAt m (to f)) (sym s.tree_is) (made_at m s.label s.below))
      (made_shown c m view.after (not_kept_new old new k c view.before view.after among other)))
      (one_came (children_of old k) (children_of new k) w.handled w.now (Make c before) ms t)
      (omega arith) (omega (arith, one_less old new k c (standing ms), made_unkept old new k c view.before view.after there other))
    where
      was_among : (d : ℕ) → is_among d (names_with before (c ∷ []) w.now) ≡ true → d ≢ c → is_among d w.now ≡ true
      was_among d e other = grind (arith, e, is_among-names_with before (c ∷ []) w.now d, eqb_tells c d, other)

  -- a child whose element is another one is made anew in place of the old one
  pub walk_again : {k n : ℕ} {ops : List Op} {a : Host} {c : ℕ} {ms : List Move} {m : ℕ} {x y : Label} → IsView old new v
      → IsInWalk old new v k n ops a (Stay c ∷ ms) m
      → label_of old c ≡ Some x → label_of new c ≡ Some y → (tag_of x.kind x.fields ≡ tag_of y.kind y.fields → ⊥)
      → m + total (forest.alone c new) ≤ last_u32
      → IsInWalk old new v k n
      (ops ++ ((creation_of m (forest.alone c new) ++ op.Place (host_in v k) m (Some (host_in v c)) ∷ []) ++ op.Drop (host_in v c) ∷ [])) a ms
      (m + total (forest.alone c new))
  walk_again {k} {a} {c} {ms} {m} {x} {y} view w was is other room =
      let u = w.under_way in
      let t = w.to_come in
      let among = (walk_both w).1 in
      let there = child_stands new k c view.after among in
      let s = stands_there new c view.after there in
      let own = own_id (Stay c) view w t.can.0 t.suited.0 in
      let to : Forest → Trees Host = λ f. numbered m (render f) in
      let Makes : Forest → ℕ → Type 0 = λ f i.
      LeadsAt (host_in v k) (tree a (flat w.family w.now) nil) m ((creation_of m f ++ op.Place (host_in v k) m (Some i) ∷ []) ++ op.Drop i ∷ [])
      (tree a (flat (with_entry c (to f) w.family) w.now) nil) (m + total f) in
      let step : Makes (forest.alone c new) (host_in v c) =
      subst (Makes (forest.alone c new)) own.0
      (subst (λ f. m + total f ≤ last_u32 → Makes f (w.ids c)) (sym s.tree_is)
      (at_again (host_in v k) a w.ids w.family w.now m c s.label s.below w.id u.at t.can.0 own.1) room) in
      walked_on w _ a (c ∷ w.handled) w.now (with_entry c m w.ids) (with_entry c (to (forest.alone c new)) w.family) ms (m + total (forest.alone c new)) refl
      step
      (under_way_entry w.now c m (to (forest.alone c new)) u (λ d e differs. e) (subst (λ f. IsAt m (to f)) (sym s.tree_is) (made_at m s.label s.below))
      (made_shown c m view.after (not_kept_tag old new k c x y view.before view.after among was is other)))
      (one_came (children_of old k) (children_of new k) w.handled w.now (Stay c) ms t)
      (omega arith) (omega (arith, one_less old new k c (standing ms), again_unkept old new k c view.before view.after there was is other))

  -- the host's own face changes
  pub walk_face : {k n : ℕ} {ops : List Op} {a : Host} {ms : List Move} {m : ℕ} {b : Host} (more : List Op) → IsInWalk old new v k n ops a ms m → b.id ≡ a.id
      → ((kids : Trees Host) → LeadsAt (host_in v k) (tree a kids nil) m more (tree b kids nil) m)
      → IsInWalk old new v k n (ops ++ more) b ms m
  walk_face {ms} {m} {b} more w same step =
      walked_on w more b w.handled w.now w.ids w.family ms m same (step (flat w.family w.now)) w.under_way w.to_come (omega arith) (omega arith)

  -- no move is left
  pub walk_end : {k n : ℕ} {ops : List Op} {a : Host} {m : ℕ} {l : Label} → IsView old new v → IsInWalk old new v k n ops a [] m
      → forest.alone k new ≡ tree l (trees_of new (children_of new k)) nil
      → a.face ≡ face_of l (last_kind (trees_of new (children_of new k)))
      → IsReconciled old new v k n ops m
  walk_end {k} {n} {ops} {a} {m} {l} view w is face =
      let same = w.to_come.leads in
      let u : IsUnderWay old new v w.handled (children_of new k) w.ids w.family =
      subst (λ xs. IsUnderWay old new v w.handled xs w.ids w.family) same w.under_way in
      record {
        to = tree a (flat w.family (children_of new k)) nil;
        leads = subst (λ xs. LeadsAt (host_in v k) (alone (host_in v k) v.hosts) n ops (tree a (flat w.family xs) nil) m) same w.leads;
        at = record { host = a; below = flat w.family (children_of new k); is = refl; id = w.id };
        shown = are_reconciled old new v k a l w.family view.before view.after view.shows is face w.id
            (λ c here. u.done c here (grind (arith, w.to_come.each c here)));
        rises = w.rises;
        grows = omega (arith, w.grows);
      }

  -- a node whose tree is the same in both: nothing is done
  pub reconciled_same : {k n : ℕ} → IsView old new v → forest.has k old ≡ true → forest.alone k new ≡ forest.alone k old → IsReconciled old new v k n [] n
  reconciled_same {k} {n} view there same =
      let at = shown_at_id old v k view.before view.shows view.numbered there in
      record {
        to = alone (host_in v k) v.hosts;
        leads = at_same (host_in v k) (alone (host_in v k) v.hosts) n at;
        at = at;
        shown = shown_same old new v k view.before view.shows view.numbered there same;
        rises = omega arith;
        grows = omega arith;
      }

  -- the whole
  pub walk_whole : {touched : ℕ → Bool} {ops : List Op} {m : ℕ} → IsView old new v → forest.roots old ≡ 0 ∷ [] → forest.roots new ≡ 0 ∷ []
      → IsReconciled old new v 0 v.next ops m
      → AllByRecursion (IsDue old new touched v) ops → (hosts : Trees Host) × AreAllowed old new touched v ops (host_tree hosts m)
  walk_whole {touched} {ops} {m} view was is r due =
      let at = root_at v.hosts old view.before (one_tree old view.before was) view.shows view.rooted in
      let zero = root_id old v view.before view.shows view.rooted at in
      let from : alone (host_in v 0) v.hosts ≡ v.hosts = ap (λ i. alone i v.hosts) zero ∙ alone-at 0 v.hosts at in
      let leads : LeadsAt 0 v.hosts v.next ops r.to m = subst (λ t. t) (λ i. LeadsAt (zero i) (from i) v.next ops r.to m) r.leads in
      let there = at_whole v ops r.to m at view.numbered leads in
      (r.to, is_allowed old new touched v ops r.to m view.before view.after (one_tree new view.after is) r.shown there.0 due there.2)
