-- What a sweep leaves of a draft, and when it may be committed.
use Rattle.std.proofs.Common.{◌≡◌, ◌≢◌, ℕ, ◌-◌, ◌^◌, ◌<◌, ◌≤◌, false, List, Option, None, Some, refl, sym, ap, ◌∙◌, subst, arith, Result, Ok, Err}
use Rattle.std.specs.Prelude.{OnOk}
use Rattle.std.specs.Option.{option_or}
use Rattle.std.proofs.lemmas.Bool.Decides.{nat_tests}
use Rattle.lx_trees.specs.Trees.{nil}
use Rattle.lx_trees.specs.NamedTrees.{total}
use Rattle.lx_node.specs.Strings.{capped}
use Rattle.lx_node.specs.declared.cause.Cause.{Cause}
use Rattle.lx_node.specs.declared.cause.Limit.{Limit}
use Rattle.lx_node.specs.declared.cause.Limit.TheVariants.{Depth, Nodes, Characters, KeyCount}
use Rattle.lx_forest.specs.Forest.{Forest}
use Rattle.lx_forest.specs.Lookups.{has, IsForest}
use Rattle.lx_forest.specs.Edits.{drop_detached}
use Rattle.lx_forest.proofs.Edits.{total-drop_detached-le}
use Rattle.lx_links.specs.Stands.{Sound}
use Rattle.lx_links.proofs.Up.{not_within}
use Rattle.lx_forest.proofs.Loose.{moved-drop_detached}
use Rattle.lx_forest.proofs.Order.{IsForest-drop_detached}
use Rattle.lx_forest.proofs.Weights.{drop_detached-twice}
use Rattle.lx_draft.proofs.Raised.{raised-drop_detached}
use Rattle.lx_draft.proofs.Short.{short-drop_detached}
use Rattle.lx_draft.proofs.Depths.{whole_of, le-tree_depth}
use Rattle.lx_node.specs.Limits.{most_depth, most_nodes, most_characters, most_key}
use Rattle.lx_draft.specs.Working.{Working, IsWorking, MayStart}
use Rattle.lx_draft.specs.Drafted.{IsDrafted}
use Rattle.lx_draft.specs.Selecting.{selection_lost}
use Rattle.lx_draft.specs.Faults.{over}
use Rattle.lx_draft.specs.Freezing.{freeze_fault, limits_fault, tree_depth, tree_characters}

-- ---- the invariant

-- what isn't there isn't in the root's tree
absent_swept : (f : Forest) (q : ℕ) → has q f ≡ false → has q (drop_detached f) ≡ false
unfolding drop_detached
absent_swept f q absent = not_within f 0 q absent

working_swept : (w : Working) → IsForest w.forest → IsWorking w → IsWorking (record w { forest = drop_detached w.forest })
working_swept w h i =
    record {
      counted = i.counted;
      edits = i.edits;
      written = i.written;
      first = i.first;
      next = i.next;
      free = λ q above. absent_swept w.forest q (i.free q above);
      few = omega (arith, i.few, total-drop_detached-le w.forest);
      short = short-drop_detached w.forest w.written h i.short;
    }

pub drafted_swept : (v w : Working) (ks : List ℕ) (f : Forest) → w ≡ v → Sound v.forest → v.forest ≢ nil → IsDrafted w ks → f ≡ drop_detached w.forest
    → IsDrafted (record w { forest = f }) ks
drafted_swept v w ks f same sound living i e =
    let in_order : IsForest w.forest = subst (λ (u : Working). IsForest u.forest) (sym same) (sound.in_order living) in
    subst (λ g. IsDrafted (record w { forest = g }) ks) (sym e)
    (record { working = working_swept w in_order i.working; moved = moved-drop_detached most_depth w.forest ks in_order i.moved; raised = raised-drop_detached w.forest w.marks in_order i.raised; raised_fresh = raised-drop_detached w.forest w.fresh in_order i.raised_fresh })

-- what is left of the forest after a sweep
pub swept_whole : {E : Type 0} (r : Result Unit E) (v w new : Working) (f : Forest) → Sound v.forest → v.forest ≢ nil → f ≡ drop_detached v.forest
    → w.forest ≡ f → OnOk r (new ≡ w) → OnOk r (drop_detached new.forest ≡ new.forest)
swept_whole (Err e) v w new f sound living dropped same kept = tt
swept_whole (Ok u) v w new f sound living dropped same kept =
    let all : new.forest ≡ drop_detached v.forest = ap (λ (x : Working). x.forest) kept ∙ same ∙ dropped in
    subst (λ x. drop_detached x ≡ x) (sym all) (drop_detached-twice v.forest (sound.in_order living))

pub swept_in_order : {E : Type 0} (r : Result Unit E) (v w new : Working) (f : Forest) → Sound v.forest → v.forest ≢ nil → f ≡ drop_detached v.forest
    → w.forest ≡ f → OnOk r (new ≡ w) → OnOk r (IsForest new.forest)
swept_in_order (Err e) v w new f sound living dropped same kept = tt
swept_in_order (Ok u) v w new f sound living dropped same kept =
    subst IsForest (sym (ap (λ (x : Working). x.forest) kept ∙ same ∙ dropped)) (IsForest-drop_detached v.forest (sound.in_order living))

-- ---- the limits

none_first : (a b : Option Cause) → option_or a b ≡ None → a ≡ None
none_first None b h = refl
none_first (Some cause) b h = h

none_then : (a b : Option Cause) → option_or a b ≡ None → b ≡ None
none_then None b h = h
none_then (Some cause) b h = absurd (cc)

within : (limit : Limit) (most n : ℕ) → most < 2 ^ 64 - 1 → over limit most n ≡ None → n ≤ most
unfolding capped
within limit most n small h = grind (arith, nat_tests)

-- from a forest that is beyond no limit an update may start
pub within_limits : (f : Forest) (next : ℕ) → IsForest f → ((q : ℕ) → next ≤ q → has q f ≡ false) → drop_detached f ≡ f → limits_fault f next ≡ None
    → MayStart f next
within_limits f next h free same none =
    let wide = none_then (over Depth most_depth (tree_depth f)) _ none in
    let long = none_then (over Nodes most_nodes (total f)) _ wide in
    let last = none_then (over Characters most_characters (tree_characters f)) _ long in
    record {
      next = within KeyCount most_key next (omega arith) last;
      free = free;
      few = within Nodes most_nodes (total f) (omega arith) (none_first (over Nodes most_nodes (total f)) _ wide);
      whole = λ q there. whole_of f q h same there;
      shallow =
          λ q d at. omega
          (arith, le-tree_depth f q d at, within Depth most_depth (tree_depth f) (omega arith) (none_first (over Depth most_depth (tree_depth f)) _ none));
      characters = within Characters most_characters (tree_characters f) (omega arith) (none_first (over Characters most_characters (tree_characters f)) _ long);
    }

-- a draft that nothing keeps from being committed leaves such a forest
pub may_start : (w : Working) → IsWorking w → IsForest w.forest → drop_detached w.forest ≡ w.forest → freeze_fault w ≡ None → MayStart w.forest w.next_key
may_start w i h same none = within_limits w.forest w.next_key h i.free same (none_then (selection_lost w.selection w.forest) _ none)
