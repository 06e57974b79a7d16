-- What the operations for a node and its children come to, by what the code knows.
use Rattle.std.specs.Result.{OnOk}
use Rattle.std.proofs.Common.{Result, Ok, Err, ◌≡◌, ◌∙◌, ◌+◌, ◌*◌, ◌<◌, ◌≤◌, ℕ, Bool, true, false, not, List, [], ◌∷◌, ◌++◌, length, Option, None, Some, option_map, refl, sym, ap, subst, arith, append_assoc, append-nil, take, drop, get_or}
use Rattle.std.proofs.lemmas.Bool.Decides.{eqb_tells}
use Rattle.std.proofs.lemmas.List.{take_more, drop_more, take-append-drop}
use Rattle.std.proofs.lemmas.Option.{same_Some}
use Rattle.std.proofs.lemmas.Result.{on_ok_weaker}
use Rattle.lx_node.specs.Limits.{last_u32}
use Rattle.lx_trees.specs.Trees.{nil}
use Rattle.lx_trees.specs.NamedTrees.{total}
use Rattle.lx_trees.specs.Siblings.{is_among}
use Rattle.lx_node.specs.declared.node.Node.{Node}
use Rattle.lx_trees.proofs.NamedTrees.{total-joined}
use Rattle.lx_host.specs.declared.op.Op.{Op}
use Rattle.lx_host.specs.declared.op.Op.TheVariants as op
use Rattle.lx_host.specs.Hosts.{HostTree}
use Rattle.lx_host.specs.Html.{first_tree}
use Rattle.lx_host.specs.Lookups as hosts
use Rattle.lx_forest.specs.Forest.{Label, Forest}
use Rattle.lx_forest.specs.Lookups.{alone, has, roots, label_of, children_of, trees_of}
use Rattle.lx_forest.specs.Records.{record_at}
use Rattle.lx_forest.proofs.Lookups.{has-child, has-parent_of}
use Rattle.lx_forest.proofs.Walks.{total-alone-lt}
use Rattle.lx_links.specs.Stands.{node_of}
use Rattle.lx_links.proofs.Placed.{parent_of-child}
use Rattle.lx_forest.specs.Covered.{Marking}
use Rattle.lx_reconcile.specs.Allowed.{KeepsOrder, common, hosts_of, unkept}
use Rattle.lx_render.specs.Render.{tag_of}
use Rattle.lx_reconcile.specs.declared.moves.Move.{Move}
use Rattle.lx_reconcile.specs.declared.moves.Move.TheVariants.{Stay, Leave, Make, Place}
use Rattle.lx_reconcile.specs.Created.{creation_of}
use Rattle.lx_reconcile.specs.Making.{IsBetween, Reconciles, MakesMoves, AreComing, IsNext, standing_total}
use Rattle.lx_reconcile.specs.Reconciled.{host_in}
use Rattle.lx_reconcile.specs.ToCome.{IsInWalk}
use Rattle.lx_reconcile.specs.Walk.{is_waiting, standing, child_of}
use Rattle.lx_links.proofs.Read.{label_from, is_read, label_read}
use Rattle.lx_reconcile.proofs.Children.{StandsThere, stands_there}
use Rattle.lx_reconcile.specs.Reading.{reads_in, reads_below}
use Rattle.lx_reconcile.proofs.InTurn.{standing-append}
use Rattle.lx_reconcile.proofs.Reading.{reads_append, reads-alone, reads_unkept, reads_kept, roots_of}
use Rattle.lx_reconcile.proofs.UnkeptNodes.{new_unkept, other_unkept, same_kept}
use Rattle.lx_reconcile.proofs.Due.{each_append}
use Rattle.lx_reconcile.proofs.Touched.{Due, children_touched, label_touched, creation_due, new_due, child_drop_due, drop_due, place_due}
use Rattle.lx_reconcile.proofs.Skipped.{skipped}
use Rattle.lx_reconcile.proofs.StartEnd.{only_host, child_stands}
use Rattle.lx_reconcile.proofs.Walked.{child_unkept, made_unkept, again_unkept, walk_room, walk_both, walk_stay, walk_leave, walk_place, walk_make, walk_again}
use Rattle.std.proofs.lemmas.Bool.{and_parts, not-true, false≢true, true≢false}
use Rattle.lx_reconcile.proofs.HostOf.{one_shows}

-- ---- the host that shows a node

found_is : (k : ℕ) (v : HostTree) (o : Option ℕ) → o ≡ hosts.host_of k (first_tree v.hosts) → first_tree v.hosts ≡ v.hosts
    → hosts_of k v.hosts ≡ host_in v k ∷ [] → o ≡ Some (host_in v k)
found_is k v o e whole shown = e ∙ ap (hosts.host_of k) whole ∙ one_shows k (host_in v k) v.hosts shown

pub found_id : (k : ℕ) (v : HostTree) (id : ℕ) → Some id ≡ hosts.host_of k (first_tree v.hosts) → first_tree v.hosts ≡ v.hosts
    → hosts_of k v.hosts ≡ host_in v k ∷ [] → id ≡ host_in v k
found_id k v id e whole shown = same_Some id (host_in v k) (found_is k v (Some id) e whole shown)

pub found_none : (k : ℕ) (v : HostTree) → None ≡ hosts.host_of k (first_tree v.hosts) → first_tree v.hosts ≡ v.hosts → hosts_of k v.hosts ≡ host_in v k ∷ []
    → 0 ≡ host_in v k
found_none k v e whole shown = absurd (let h = found_is k v None e whole shown in cc)

-- ---- where a source has been read, its forest is the same

module _ {f f_now g g_now : Forest} (e : f_now ≡ f) (d : g_now ≡ g) where
  pub reads_still : (noted : ℕ → Bool) (k : ℕ) → reads_below f_now g_now noted k ≡ reads_below f g noted k
  reads_still noted k = λ i. reads_below (e i) (d i) noted k

  pub move_reads_still : (noted : ℕ → Bool) (p : Option ℕ) (ks : List ℕ) → reads_in f_now noted p (trees_of g_now ks) ≡ reads_in f noted p (trees_of g ks)
  move_reads_still noted p ks = λ i. reads_in (e i) noted p (trees_of (d i) ks)

pub child_node_less : {f f_now : Forest} → f_now ≡ f → (k : ℕ) → 4 * total (alone k f_now) + 1 < 4 * total (alone k f) + 2
child_node_less e k = omega (arith, ap (λ f. total (alone k f)) e)

-- ---- the next move

waiting_among : (olds handled : List ℕ) (before : Option ℕ) (b : ℕ) → is_waiting olds handled before ≡ true → before ≡ Some b → is_among b olds ≡ true
waiting_among olds handled before b e is =
    let own : is_waiting olds handled (Some b) ≡ true = sym (ap (is_waiting olds handled) is) ∙ e in
    (and_parts (is_among b olds) (not (is_among b handled)) own).0

next_behind : {old new : Forest} {v : HostTree} {k n : ℕ} {s : Move} → IsNext old new v k s n → v.next ≤ n
next_behind x = omega (arith, x.are.behind, x.are.walk.rises)

on_ok_both : {A E : Type 0} (r : Result A E) {P Q R : Type 0} → (P → Q → R) → OnOk r P → OnOk r Q → OnOk r R
on_ok_both (Ok a) then p q = then p q
on_ok_both (Err a) then p q = tt

module _ {old new : Forest} {mk : Marking} {v : HostTree} (b : IsBetween old new mk v) where
  -- the host of a child is found
  child_shown : (k c : ℕ) → is_among c (children_of old k) ≡ true → hosts_of c v.hosts ≡ host_in v c ∷ []
  child_shown k c among = only_host old v c b.view.before b.view.shows (child_stands old k c b.view.before among)

  was_there : (k c : ℕ) → is_among c (children_of old k) ≡ true → has k old ≡ true
  was_there k c among = has-parent_of old c k (parent_of-child old c k b.was_sound among)

  pub after_there : (k c : ℕ) → is_among c (children_of new k) ≡ true → has c new ≡ true
  after_there k c among = has-child new c k (parent_of-child new c k b.sound among)

  makes_stay : {k c n : ℕ} {start end : List Op} {m : ℕ} → has c new ≡ true → Reconciles old new mk v c n start end m
      → MakesMoves old new mk v k (Stay c ∷ []) n start end m
  makes_stay there r = record { pushed = r.pushed; list = r.list; due = r.due; leads = λ from ops a more w. walk_stay b.view.after there w r.done }

-- ---- a child that stays

module _ {old new : Forest} {mk : Marking} {v : HostTree} {k c n : ℕ} (b : IsBetween old new mk v) (x : IsNext old new v k (Stay c) n) where
  pub stay_behind : v.next ≤ n
  stay_behind = next_behind x

  pub stay_before : has c old ≡ true
  stay_before = child_stands old k c b.view.before (walk_both x.are.walk).0

  pub stay_after : has c new ≡ true
  stay_after = after_there b k c (walk_both x.are.walk).1

  pub stay_shown : hosts_of c v.hosts ≡ host_in v c ∷ []
  stay_shown = child_shown b k c (walk_both x.are.walk).0

  pub stay_room : n + unkept old (Some c) (trees_of new (children_of new c)) ≤ last_u32
  stay_room = omega (arith, x.are.room, walk_room c x.are.walk refl, child_unkept old new k c b.view.after stay_after)

  -- nothing is done for a child without a mark
  pub stay_skipped : (start : List Op) → mk.noted c ≡ false → MakesMoves old new mk v k (Stay c ∷ []) n start start n
  stay_skipped start plain = makes_stay b stay_after (skipped old new mk v b c n start stay_after plain)

  pub stay_done : {A E : Type 0} (r : Result A E) {f_now g_now : Forest} (start end : List Op) (m : ℕ) → f_now ≡ old → g_now ≡ new
      → OnOk r (Reconciles f_now g_now mk v c n start end m) → OnOk r (MakesMoves old new mk v k (Stay c ∷ []) n start end m)
  stay_done r start end m e d = on_ok_weaker r (λ done. makes_stay b stay_after (subst (λ t. t) (λ i. Reconciles (e i) (d i) mk v c n start end m) done))

  module _ {was now : Node} (was_is : Some was ≡ option_map node_of (record_at old c)) (now_is : Some now ≡ option_map node_of (record_at new c)) where
    was_label : label_of old c ≡ Some (label_from c was)
    was_label = label_read old c was (is_read old c was b.was_sound was_is)

    now_label : label_of new c ≡ Some (label_from c now)
    now_label = label_read new c now (is_read new c now b.sound now_is)

    own_label : (t : StandsThere new c) → t.label ≡ label_from c now
    own_label t = same_Some t.label (label_from c now) (sym t.label_is ∙ now_label)

    pub node_reads : tag_of was.kind was.fields ≡ tag_of now.kind now.fields → mk.noted c ≡ true
        → reads_in old mk.noted (Some k) (alone c new) ≡ 2 + reads_below old new mk.noted c
    node_reads same marked =
        let t = stands_there new c b.view.after stay_after in
        let kept = same_kept old k (label_from c was) t.label b.view.before (ap (λ q. is_among q (children_of old k)) t.key ∙ (walk_both x.are.walk).0)
        (ap (label_of old) t.key ∙ was_label) (same ∙ sym (ap (λ (l : Label). tag_of l.kind l.fields) (own_label t))) in
        ap (reads_in old mk.noted (Some k)) t.tree_is
        ∙ omega (
          arith,
          reads_kept old mk.noted (Some k) t.label t.below kept (ap mk.noted t.key ∙ marked),
          ap (λ q. length (children_of old q)) t.key,
          ap length (ap roots t.below_is ∙ roots_of new (children_of new c) b.view.after (λ d e. after_there b c d e)),
          ap (λ q. reads_in old mk.noted (Some q) t.below) t.key,
          ap (reads_in old mk.noted (Some c)) t.below_is,
        )

    -- where it is made anew, with another element
    module _ (other : tag_of was.kind was.fields ≡ tag_of now.kind now.fields → ⊥) where
      pub again_room : n + total (alone c new) ≤ last_u32
      again_room =
          omega (arith, x.are.room, walk_room c x.are.walk refl, again_unkept old new k c b.view.before b.view.after stay_after was_label now_label other)

      -- with another element it has another kind or other fields
      again_touched : mk.touched c ≡ true
      again_touched =
          label_touched old new mk v c (label_from c was) (label_from c now) b.covered stay_before stay_after was_label now_label
          (λ kinds fields. other (ap (λ k. tag_of k was.fields) kinds ∙ ap (tag_of now.kind) fields))

      pub again_done : {A E : Type 0} (r : Result A E) {h i : ℕ} {new_now : Forest} (start end : List Op) (m : ℕ) → new_now ≡ new → h ≡ host_in v k
          → i ≡ host_in v c
          → OnOk r (end ≡ start ++ creation_of n (alone c new_now) ++ op.Place h n (Some i) ∷ [] ++ op.Drop i ∷ []) → OnOk r (m ≡ n + total (alone c new_now))
          → OnOk r (MakesMoves old new mk v k (Stay c ∷ []) n start end m)
      again_done r start end m d id own =
          let made = creation_of n (alone c new) in
          let placing = op.Place (host_in v k) n (Some (host_in v c)) ∷ [] in
          let dropping = op.Drop (host_in v c) ∷ [] in
          on_ok_both r (λ is next. record {
            pushed = (made ++ placing) ++ dropping;
            list =
                is
                ∙ (λ j. start ++ creation_of n (alone c (d j)) ++ op.Place (id j) n (Some (own j)) ∷ [] ++ op.Drop (own j) ∷ [])
                ∙ ap (λ l. l ++ dropping) (append_assoc start made placing)
                ∙ append_assoc start (made ++ placing) dropping;
            due = each_append (Due old new mk v) (made ++ placing) dropping
                (each_append (Due old new mk v) made placing (creation_due old new mk v n c b stay_after stay_behind)
                (new_due old new mk v (host_in v k) n (Some (host_in v c)) b.view.numbered stay_behind, tt))
                (drop_due old new mk v c b stay_before again_touched, tt);
            leads = λ low ops a more w.
                subst (IsInWalk old new v k low (ops ++ ((made ++ placing) ++ dropping)) a more) (sym (next ∙ ap (λ y. n + total (alone c y)) d))
                (walk_again b.view w was_label now_label other again_room);
          })

      pub again_reads : reads_in old mk.noted (Some k) (alone c new) ≡ 2 + 2 * total (alone c new)
      again_reads =
          let t = stands_there new c b.view.after stay_after in
          ap (reads_in old mk.noted (Some k)) t.tree_is
          ∙ reads_unkept old mk.noted (Some k) t.label t.below
          (other_unkept old k (label_from c was) t.label b.view.before (ap (label_of old) t.key ∙ was_label)
          (λ e. other (e ∙ ap (λ (l : Label). tag_of l.kind l.fields) (own_label t))))
          ∙ ap (λ y. 2 + 2 * total y) (sym t.tree_is)

-- ---- how much smaller the trees become

one_total : (new : Forest) (c : ℕ) → total (trees_of new (c ∷ [])) ≡ total (alone c new)
one_total new c = omega (arith, total-joined (alone c new) nil)

module _ {old new : Forest} {mk : Marking} {v : HostTree} (b : IsBetween old new mk v) where
  standing_less : (k c : ℕ) → is_among c (children_of new k) ≡ true → 4 * total (trees_of new (c ∷ [])) + 3 < 4 * total (alone k new)
  standing_less k c among = omega (arith, one_total new c, total-alone-lt new c k b.view.after (parent_of-child new c k b.sound among))

  move_less : {k : ℕ} (s : Move) {n : ℕ} → IsNext old new v k s n → 4 * standing_total new (s ∷ []) + 3 < 4 * total (alone k new)
  move_less {k} (Leave c) x = omega (arith, ap total (stands_there new k b.view.after x.are.there).tree_is)
  move_less {k} s x = standing_less k (child_of s) (x.are.walk.to_come.stays (child_of s) (grind (arith, eqb_tells (child_of s) (child_of s))))

  pub move_less_still : {k : ℕ} {s : Move} {n : ℕ} {new_now : Forest} → new_now ≡ new → IsNext old new v k s n
      → 4 * standing_total new_now (s ∷ []) + 3 < 4 * total (alone k new)
  move_less_still {k} {s} d x = subst (λ y. 4 * standing_total y (s ∷ []) + 3 < 4 * total (alone k new)) (sym d) (move_less s x)

-- a move after which this child is there
module _ (new : Forest) (s : Move) {c : ℕ} (e : standing (s ∷ []) ≡ c ∷ []) where
  pub one_less : 4 * total (alone c new) + 2 < 4 * standing_total new (s ∷ []) + 3
  one_less = omega (arith, one_total new c, ap (λ ks. total (trees_of new ks)) e)

  pub one_reads : (old : Forest) (noted : ℕ → Bool) (k : ℕ)
      → reads_in old noted (Some k) (trees_of new (standing (s ∷ []))) ≡ reads_in old noted (Some k) (alone c new)
  one_reads old noted k = ap (λ ks. reads_in old noted (Some k) (trees_of new ks)) e ∙ reads-alone old new noted (Some k) c

-- ---- one move, by which of them it is

module _ {old new : Forest} {mk : Marking} {v : HostTree} {k c n : ℕ} (b : IsBetween old new mk v) (x : IsNext old new v k (Leave c) n) where
  leave_among : is_among c (children_of old k) ≡ true
  leave_among = x.are.walk.to_come.suited.0

  pub leave_shown : hosts_of c v.hosts ≡ host_in v c ∷ []
  leave_shown = child_shown b k c leave_among

  -- a child left, so the children differ
  leave_touched : mk.touched k ≡ true
  leave_touched =
      children_touched old new mk v k b.covered (was_there b k c leave_among) x.are.there
      (λ same. false≢true (sym (x.are.walk.to_come.gone c (grind (arith, eqb_tells c c))) ∙ sym (ap (is_among c) same) ∙ leave_among))

  pub leave_done : {h : ℕ} {start end : List Op} → h ≡ host_in v c → end ≡ start ++ op.Drop h ∷ [] → MakesMoves old new mk v k (Leave c ∷ []) n start end n
  leave_done {start} id is = record {
    pushed = op.Drop (host_in v c) ∷ [];
    list = is ∙ ap (λ i. start ++ op.Drop i ∷ []) id;
    due = (child_drop_due old new mk v k c b x.are.there leave_among leave_touched, tt);
    leads = λ from ops a more w. walk_leave b.view w;
  }

module _ {old new : Forest} {mk : Marking} {v : HostTree} {k c n : ℕ} {before : Option ℕ} (b : IsBetween old new mk v)
    (x : IsNext old new v k (Make c before) n) where
  make_other : is_among c (children_of old k) ≡ false
  make_other = not-true (is_among c (children_of old k)) x.are.walk.to_come.suited.0

  pub make_there : has c new ≡ true
  make_there = after_there b k c (x.are.walk.to_come.stays c (grind (arith, eqb_tells c c)))

  pub make_before : (q : ℕ) → before ≡ Some q → hosts_of q v.hosts ≡ host_in v q ∷ []
  make_before q is = child_shown b k q (waiting_among (children_of old k) x.are.walk.handled before q x.are.walk.to_come.unhandled.0 is)

  pub make_room : n + total (alone c new) ≤ last_u32
  make_room = omega (arith, x.are.room, walk_room c x.are.walk refl, made_unkept old new k c b.view.before b.view.after make_there make_other)

  pub make_done : {A E : Type 0} (r : Result A E) {h : ℕ} {place : Option ℕ} (start end : List Op) (m : ℕ) → h ≡ host_in v k
      → place ≡ option_map (host_in v) before
      → OnOk r (end ≡ start ++ creation_of n (alone c new) ++ op.Place h n place ∷ []) → OnOk r (m ≡ n + total (alone c new))
      → OnOk r (MakesMoves old new mk v k (Make c before ∷ []) n start end m)
  make_done r start end m id at =
      let made = creation_of n (alone c new) in
      let placing = op.Place (host_in v k) n (option_map (host_in v) before) ∷ [] in
      on_ok_both r (λ is next. record {
        pushed = made ++ placing;
        list = is ∙ (λ j. start ++ made ++ op.Place (id j) n (at j) ∷ []) ∙ append_assoc start made placing;
        due = each_append (Due old new mk v) made placing (creation_due old new mk v n c b make_there (next_behind x))
            (new_due old new mk v (host_in v k) n (option_map (host_in v) before) b.view.numbered (next_behind x), tt);
        leads = λ low ops a more w. subst (IsInWalk old new v k low (ops ++ (made ++ placing)) a more) (sym next) (walk_make b.view w make_room);
      })

  pub make_reads : reads_in old mk.noted (Some k) (trees_of new (standing (Make c before ∷ []))) ≡ 2 + 2 * total (alone c new)
  make_reads =
      let t = stands_there new c b.view.after make_there in
      reads-alone old new mk.noted (Some k) c
      ∙ ap (reads_in old mk.noted (Some k)) t.tree_is
      ∙ reads_unkept old mk.noted (Some k) t.label t.below
      (new_unkept old k t.label b.view.before (ap (λ q. is_among q (children_of old k)) t.key ∙ make_other))
      ∙ ap (λ y. 2 + 2 * total y) (sym t.tree_is)

module _ {old new : Forest} {mk : Marking} {v : HostTree} {k c n : ℕ} {before : Option ℕ} (b : IsBetween old new mk v)
    (x : IsNext old new v k (Place c before) n) where
  place_among : is_among c (children_of old k) ≡ true
  place_among = x.are.walk.to_come.suited.0

  pub place_shown : hosts_of c v.hosts ≡ host_in v c ∷ []
  place_shown = child_shown b k c place_among

  pub place_before : (q : ℕ) → before ≡ Some q → hosts_of q v.hosts ≡ host_in v q ∷ []
  place_before q is = child_shown b k q (waiting_among (children_of old k) x.are.walk.handled before q x.are.walk.to_come.unhandled.0 is)

  -- where a child was placed, it stays next
  pub placed_next : IsNext old new v k (Stay c) n
  placed_next =
      record {
        more = x.more;
        are = record {
          from = x.are.from;
          ops = _;
          a = x.are.a;
          walk = walk_place b.view x.are.walk;
          behind = x.are.behind;
          room = x.are.room;
          there = x.are.there;
        };
      }

  -- a child is placed, so the children don't keep their order, and differ
  placed_order : KeepsOrder old new k → ⊥
  placed_order order = true≢false (x.are.walk.to_come.order order)

  place_touched : mk.touched k ≡ true
  place_touched =
      children_touched old new mk v k b.covered (was_there b k c place_among) x.are.there
      (λ same. placed_order (ap (λ ys. common ys (children_of new k)) same ∙ sym (ap (common (children_of new k)) same)))

  pub place_done : {A E : Type 0} (r : Result A E) {h i : ℕ} {place : Option ℕ} (start mid end : List Op) (m : ℕ) → h ≡ host_in v k → i ≡ host_in v c
      → place ≡ option_map (host_in v) before → mid ≡ start ++ op.Place h i place ∷ []
      → OnOk r (MakesMoves old new mk v k (Stay c ∷ []) n mid end m) → OnOk r (MakesMoves old new mk v k (Place c before ∷ []) n start end m)
  place_done r start mid end m id own at is =
      let placing = op.Place (host_in v k) (host_in v c) (option_map (host_in v) before) ∷ [] in
      let first : mid ≡ start ++ placing = is ∙ (λ j. start ++ op.Place (id j) (own j) (at j) ∷ []) in
      let stays = x.are.walk.to_come.stays c (grind (arith, eqb_tells c c)) in
      on_ok_weaker r (λ r. record {
        pushed = placing ++ r.pushed;
        list = r.list ∙ ap (λ l. l ++ r.pushed) first ∙ append_assoc start placing r.pushed;
        due = each_append (Due old new mk v) placing r.pushed
            (place_due old new mk v k c (host_in v k) (option_map (host_in v) before) b x.are.there place_among stays place_touched placed_order, tt) r.due;
        leads = λ from ops a more w.
            subst (λ l. IsInWalk old new v k from l a more m) (append_assoc ops placing r.pushed) (r.leads from (ops ++ placing) a more (walk_place b.view w));
      })

-- ---- one move after another

module _ {old new : Forest} {mk : Marking} {v : HostTree} {k : ℕ} where
  pub makes_none : {n : ℕ} {start : List Op} → MakesMoves old new mk v k [] n start start n
  makes_none {n} {start} = record {
    pushed = [];
    list = sym (append-nil start);
    due = tt;
    leads = λ from ops a more w. subst (λ l. IsInWalk old new v k from l a more n) (sym (append-nil ops)) w;
  }

  -- these moves, then those
  pub makes_both : (xs ys : List Move) {n m l : ℕ} {start mid end : List Op} → MakesMoves old new mk v k xs n start mid m
      → MakesMoves old new mk v k ys m mid end l → MakesMoves old new mk v k (xs ++ ys) n start end l
  makes_both xs ys {n} {l} {start} first then = record {
    pushed = first.pushed ++ then.pushed;
    list = then.list ∙ ap (λ x. x ++ then.pushed) first.list ∙ append_assoc start first.pushed then.pushed;
    due = each_append (Due old new mk v) first.pushed then.pushed first.due then.due;
    leads = λ from ops a more w.
        subst (λ x. IsInWalk old new v k from x a more l) (append_assoc ops first.pushed then.pushed)
        (then.leads from (ops ++ first.pushed) a more
        (first.leads from ops a (ys ++ more) (subst (λ x. IsInWalk old new v k from ops a x n) (append_assoc xs ys more) w)));
  }

  -- of these moves those up to place i are made, and the next one is s
  pub makes_next : (moves : List Move) (i : ℕ) {s : Move} {n m l : ℕ} {start mid end : List Op} → i < length moves → s ≡ get_or moves i s
      → MakesMoves old new mk v k (take i moves) n start mid m → MakesMoves old new mk v k (s ∷ []) m mid end l
      → MakesMoves old new mk v k (take (i + 1) moves) n start end l
  makes_next moves i {s} {n} {l} {start} {end} within item first then =
      subst (λ x. MakesMoves old new mk v k x n start end l) (sym (take_more moves i s within ∙ ap (λ y. take i moves ++ y ∷ []) (sym item)))
      (makes_both (take i moves) (s ∷ []) first then)

  pub is_next : {moves : List Move} (i : ℕ) {s : Move} {n m : ℕ} {start mid : List Op} → i < length moves → s ≡ get_or moves i s → AreComing old new v k moves n
      → MakesMoves old new mk v k (take i moves) n start mid m → IsNext old new v k s m
  is_next {moves} i {s} {n} within item x made =
      let behind = drop (i + 1) moves ++ x.more in
      let here : drop i moves ≡ s ∷ drop (i + 1) moves = drop_more moves i s within ∙ ap (λ y. y ∷ drop (i + 1) moves) (sym item) in
      let split : moves ++ x.more ≡ take i moves ++ s ∷ behind =
      ap (λ z. z ++ x.more) (sym (take-append-drop i moves)) ∙ append_assoc (take i moves) (drop i moves) x.more
      ∙ ap (λ z. take i moves ++ (z ++ x.more)) here in
      let walk : IsInWalk old new v k x.are.from x.are.ops x.are.a (take i moves ++ s ∷ behind) n =
      subst (λ z. IsInWalk old new v k x.are.from x.are.ops x.are.a z n) split x.are.walk in
      record {
        more = behind;
        are = record {
          from = x.are.from;
          ops = x.are.ops ++ made.pushed;
          a = x.are.a;
          walk = made.leads x.are.from x.are.ops x.are.a (s ∷ behind) walk;
          behind = x.are.behind;
          room = x.are.room;
          there = x.are.there;
        };
      }

-- ---- how many reads go to some of the moves

module _ (old new : Forest) (noted : ℕ → Bool) (k : ℕ) (moves : List Move) (i : ℕ) where
  pub take_reads : (s : Move) → i < length moves → s ≡ get_or moves i s
      → reads_in old noted (Some k) (trees_of new (standing (take (i + 1) moves)))
      ≡ reads_in old noted (Some k) (trees_of new (standing (take i moves))) + reads_in old noted (Some k) (trees_of new (standing (s ∷ [])))
  take_reads s within item =
      ap (λ ms. reads_in old noted (Some k) (trees_of new (standing ms))) (take_more moves i s within ∙ ap (λ y. take i moves ++ y ∷ []) (sym item))
      ∙ ap (λ ks. reads_in old noted (Some k) (trees_of new ks)) (standing-append (take i moves) (s ∷ []))
      ∙ reads_append old new noted (Some k) (standing (take i moves)) (standing (s ∷ []))

  pub part_reads : reads_in old noted (Some k) (trees_of new (standing (take i moves))) ≤ reads_in old noted (Some k) (trees_of new (standing moves))
  part_reads =
      let all : reads_in old noted (Some k) (trees_of new (standing moves))
      ≡ reads_in old noted (Some k) (trees_of new (standing (take i moves))) + reads_in old noted (Some k) (trees_of new (standing (drop i moves))) =
      ap (λ ms. reads_in old noted (Some k) (trees_of new (standing ms))) (sym (take-append-drop i moves))
      ∙ ap (λ ks. reads_in old noted (Some k) (trees_of new ks)) (standing-append (take i moves) (drop i moves))
      ∙ reads_append old new noted (Some k) (standing (take i moves)) (standing (drop i moves)) in
      omega (arith, all)
