-- What is kept of hosts beside their links, after operations.
use Rattle.std.proofs.Common.{ℕ, ◌≡◌, ◌+◌, ◌*◌, ◌<◌, ◌≤◌, ◌^◌, Bool, true, false, cond, eqb, nat_eq, [], Option, None, Some, refl, sym, ap, ◌∙◌, subst, arith, inl, inr}
use Rattle.std.proofs.lemmas.Bool.Decides.{eqb_tells}
use Rattle.std.proofs.lemmas.Option.{same_Some}
use Rattle.std.specs.HashMap.{HashMap}
use Rattle.std.specs.Map.{lookup}
use Rattle.indexmap.specs.IndexMap.{get}
use Rattle.lx_trees.specs.Trees.{Trees, nil, tree, joined}
use Rattle.lx_trees.specs.NamedTrees.{total}
use Rattle.lx_trees.proofs.NamedTrees.{count-joined, count-put_below, count-without-alone, count-mapped}
use Rattle.lx_host.specs.Hosts.{Host, HostTree, Face, id_of, count, alone, without, put_below, one_host, root_face, changed, changed_at, effect}
use Rattle.lx_host.specs.Html.{first_tree}
use Rattle.lx_host.specs.Lookups.{host_of}
use Rattle.lx_host.specs.declared.op.Op.TheVariants.{Create, Place, Drop}
use Rattle.lx_host.proofs.Standing as standing
use Rattle.lx_trees.specs.Lookups.{IsOrdered, is_attached}
use Rattle.lx_trees.proofs.Edits.{outside_once}
use Rattle.lx_trees.proofs.Leaves.{total-numbered}
use Rattle.lx_host.specs.declared.keys.Shown.{Shown}
use Rattle.lx_host.specs.Shown.{with_one}
use Rattle.lx_host.specs.Stands.{FitsPlace}
use Rattle.lx_host.specs.Weights.{weighed, shows, id_shown, shown, ids_shown, entry_by, entry_of, AreKeyed, IsKept}
use Rattle.lx_host.proofs.Weights.{weighed-joined, weighed-mapped, weighed-put_below, weighed-without-alone, only_host, no_host, none_shown, one_shown, shown_counted}

weighed_placed : (w : Host → ℕ) (p k : ℕ) (before : Option ℕ) (f : Trees Host) → IsOrdered id_of f → FitsPlace p k before f
    → weighed w (put_below p before (alone k f) (without k f)) ≡ weighed w f
weighed_placed w p k before f h c =
    weighed-put_below w id_of p before (alone k f) (without k f) (outside_once id_of p k f h c.parent_in c.apart)
    ∙ omega (arith, weighed-without-alone w id_of k f)

pub keyed_placed : {S : Type 0} (keys : HashMap ℕ Shown S) (p k : ℕ) (before : Option ℕ) (f : Trees Host) → IsOrdered id_of f → FitsPlace p k before f
    → AreKeyed keys f → AreKeyed keys (put_below p before (alone k f) (without k f))
keyed_placed keys p k before f h c keyed = record {
  each = λ key. keyed.each key
      ∙ sym (ap (λ n. entry_by n (ids_shown key (put_below p before (alone k f) (without k f)))) (weighed_placed (shows key) p k before f h c)
      ∙ ap (entry_by (shown key f)) (weighed_placed (id_shown key) p k before f h c));
}

pub kept_placed : {S : Type 0} (keys : HashMap ℕ Shown S) (next p k : ℕ) (before : Option ℕ) (f g : Trees Host)
    → g ≡ put_below p before (alone k f) (without k f) → IsOrdered id_of f → FitsPlace p k before f → IsKept keys next f → IsKept keys next g
kept_placed keys next p k before f g e h c kept =
    let made : IsKept keys next (put_below p before (alone k f) (without k f)) = record {
      keyed = keyed_placed keys p k before f h c kept.keyed;
      below = λ q l. omega
          (arith, kept.below q l, count-put_below id_of q p before (alone k f) (without k f) (outside_once id_of p k f h c.parent_in c.apart), count-without-alone id_of q k f);
    } in
    subst (IsKept keys next) (sym e) made

-- a host tree and the fields that it is of, after an edit of its hosts
pub tree_with : (make : Trees Host → Trees Host) (w : HostTree) (f g : Trees Host) (next : ℕ) → ◌≡◌ {A = HostTree} (record { hosts = f; next = next }) w
    → g ≡ make f → ◌≡◌ {A = HostTree} (record { hosts = g; next = next }) (record { hosts = make w.hosts; next = w.next })
tree_with make w f g next e is =
    let P : HostTree → Type 0 = λ v. ◌≡◌ {A = HostTree} (record { hosts = g; next = next }) (record { hosts = make v.hosts; next = v.next }) in
    subst P e (ap (λ h. record { hosts = h; next = next }) is)

pub placed_tree : (p k : ℕ) (before : Option ℕ) (w : HostTree) (f g : Trees Host) (next : ℕ) → ◌≡◌ {A = HostTree} (record { hosts = f; next = next }) w
    → g ≡ put_below p before (alone k f) (without k f) → ◌≡◌ {A = HostTree} (record { hosts = g; next = next }) (effect (Place p k before) w)
placed_tree p k before w f g next e is =
    tree_with (λ h. put_below p before (alone k h) (without k h)) w f g next e is ∙ standing.effect_place p k before w

-- ---- created

entry_more : (n ids id : ℕ) → (n ≡ 0 → ids ≡ 0)
    → cond (eqb (n + 1) 0) None (Some (record { hosts = n + 1; ids = ids + id })) ≡ Some (with_one id (entry_by n ids))
entry_more n ids id none =
    let more : eqb (n + 1) 0 ≡ false = grind (arith, eqb_tells (n + 1) 0) in
    ap (λ b. cond b None (Some (record { hosts = n + 1; ids = ids + id }))) more
    ∙ elim (eqb_tells n 0) [
      | inl here ↦
          let counted : n + 1 ≡ 1 = omega (arith, here.1) in
          let sum : ids + id ≡ id = omega (arith, none here.1) in
          rw (counted, sum) (sym (ap (λ b. Some (with_one id (cond b None (Some (record { hosts = n; ids = ids }))))) here.0))
      | inr other ↦ sym (ap (λ b. Some (with_one id (cond b None (Some (record { hosts = n; ids = ids }))))) other.0)
    ]

entry_same : (n ids : ℕ) → entry_by (n + 0) (ids + 0) ≡ entry_by n ids
entry_same n ids = let e : n + 0 ≡ n = omega arith in let i : ids + 0 ≡ ids = omega arith in rw (e, i) refl

created_entry : (key id : ℕ) (face : Face) (f : Trees Host)
    → entry_of key (joined f (one_host id face)) ≡ cond (nat_eq face.key key) (Some (with_one id (entry_of key f))) (entry_of key f)
created_entry key id face f = by (eqb face.key key) refl where
  counted : (w : Host → ℕ) → weighed w (joined f (one_host id face)) ≡ weighed w f + w (record { id = id; face = face })
  counted w = weighed-joined w f (one_host id face) ∙ omega arith

  by : (b : Bool) → eqb face.key key ≡ b → entry_of key (joined f (one_host id face)) ≡ cond b (Some (with_one id (entry_of key f))) (entry_of key f)
  by true e = rw (counted (shows key), counted (id_shown key), e) (entry_more (shown key f) (ids_shown key f) id (λ none. (none_shown key 0 f none).1))
  by false e = rw (counted (shows key), counted (id_shown key), e) (entry_same (shown key f) (ids_shown key f))

pub keyed_created : {S : Type 0} (old new : HashMap ℕ Shown S) (key id : ℕ) (face : Face) (f : Trees Host) → AreKeyed old f → key ≡ face.key
    → ((k : ℕ) → get nat_eq new k ≡ cond (nat_eq key k) (Some (with_one id (get nat_eq old key))) (get nat_eq old k))
    → AreKeyed new (joined f (one_host id face))
keyed_created old new key id face f keyed is each = record { each = λ k. each k ∙ at k (eqb key k) refl } where
  at : (k : ℕ) (b : Bool) → eqb key k ≡ b
      → cond (nat_eq key k) (Some (with_one id (get nat_eq old key))) (get nat_eq old k) ≡ entry_of k (joined f (one_host id face))
  at k true e =
      let own : key ≡ k = grind (arith, e, eqb_tells key k) in
      let own' : eqb face.key k ≡ true = ap (λ x. eqb x k) (sym is) ∙ e in
      ap (λ b. cond b (Some (with_one id (get nat_eq old key))) (get nat_eq old k)) e
      ∙ ap (λ o. Some (with_one id o)) (ap (get nat_eq old) own ∙ keyed.each k)
      ∙ sym (created_entry k id face f ∙ ap (λ b. cond b (Some (with_one id (entry_of k f))) (entry_of k f)) own')
  at k false e =
      let other : eqb face.key k ≡ false = ap (λ x. eqb x k) (sym is) ∙ e in
      ap (λ b. cond b (Some (with_one id (get nat_eq old key))) (get nat_eq old k)) e
      ∙ keyed.each k
      ∙ sym (created_entry k id face f ∙ ap (λ b. cond b (Some (with_one id (entry_of k f))) (entry_of k f)) other)

-- the numbers that a key has are small
shown-le : (key : ℕ) (t : Trees Host) → shown key t ≤ total t
shown-le key nil = omega arith
shown-le key (tree host below rest) = grind (arith, shown-le key below, shown-le key rest)

ids-le : (n key : ℕ) (t : Trees Host) → ((q : ℕ) → n < q + 1 → count q t ≡ 0) → n < 2 ^ 32 → ids_shown key t ≤ 2 ^ 32 * total t
ids-le n key nil above small = omega arith
ids-le n key (tree host below rest) above small =
    let id : host.id < n = grind (arith, above host.id, eqb_tells host.id host.id) in
    let b = ids-le n key below (λ q l. omega (arith, above q l)) small in
    let r = ids-le n key rest (λ q l. omega (arith, above q l)) small in
    grind (arith, id, b, r, small)

from_cond : (b : Bool) (r s : Shown) → cond b None (Some r) ≡ Some s → (b ≡ false) × (r ≡ s)
from_cond true r s e = cc
from_cond false r s e = (refl, same_Some r s e)

none_cond : (b : Bool) (r : Shown) → cond b None (Some r) ≡ None → b ≡ true
none_cond true r e = refl
none_cond false r e = cc

shown_entry : (n ids : ℕ) (s : Shown) → entry_by n ids ≡ Some s → (s.hosts ≡ n) × (s.ids ≡ ids) × (0 < n)
shown_entry n ids s e =
    let same = from_cond (eqb n 0) (record { hosts = n; ids = ids }) s e in
    (sym (ap (λ (x : Shown). x.hosts) same.1), sym (ap (λ (x : Shown). x.ids) same.1), grind (arith, same.0, eqb_tells n 0))

pub small_entry : {S : Type 0} (keys : HashMap ℕ Shown S) (next key id : ℕ) (f : Trees Host) (s : Shown) → IsOrdered id_of f → IsKept keys next f
    → standing.FitsCreate id next → get nat_eq keys key ≡ Some s → (s.hosts + 1 < 2 ^ 32) × (s.ids + id < 2 ^ 64)
small_entry keys next key id f s h kept fits e =
    let t = shown_entry (shown key f) (ids_shown key f) s (sym (kept.keyed.each key) ∙ e) in
    let few = total-numbered id_of next f h kept.below in
    (omega (arith, t.0, shown-le key f, few, fits.below), omega (arith, t.1, ids-le next key f kept.below (omega (arith, fits.below)), few, fits.below, fits.is_next))

-- ---- a host tree and the fields that it is of

pub created_tree : (id : ℕ) (face : Face) (w : HostTree) (f g : Trees Host) (next : ℕ) → ◌≡◌ {A = HostTree} (record { hosts = f; next = next }) w
    → g ≡ joined f (one_host id face)
    → ◌≡◌ {A = HostTree} (record { hosts = g; next = next + 1 }) (effect (Create id face.key face.tag face.attrs face.text face.ending) w)
unfolding effect
created_tree id face w f g next e is =
    let P : HostTree → Type 0 =
    λ v. ◌≡◌ {A = HostTree} (record { hosts = g; next = next + 1 }) (record { hosts = joined v.hosts (one_host id face); next = v.next + 1 }) in
    subst P e (ap (λ h. record { hosts = h; next = next + 1 }) is)

pub kept_created : {S : Type 0} (old new : HashMap ℕ Shown S) (next key id : ℕ) (face : Face) (f g : Trees Host) → g ≡ joined f (one_host id face)
    → IsKept old next f → id ≡ next → key ≡ face.key
    → ((k : ℕ) → get nat_eq new k ≡ cond (nat_eq key k) (Some (with_one id (get nat_eq old key))) (get nat_eq old k)) → IsKept new (next + 1) g
kept_created old new next key id face f g e kept is named each =
    let made : IsKept new (next + 1) (joined f (one_host id face)) = record {
      keyed = keyed_created old new key id face f kept.keyed named each;
      below = λ q l. grind (arith, kept.below q, count-joined id_of q f (one_host id face), is, eqb_tells id q, l);
    } in
    subst (IsKept new (next + 1)) (sym e) made

-- ---- the host of a key

pub host_none : {S : Type 0} (keys : HashMap ℕ Shown S) (next key : ℕ) (f : Trees Host) → IsOrdered id_of f → IsKept keys next f → get nat_eq keys key ≡ None
    → None ≡ host_of key (first_tree f)
host_none keys next key f h kept e =
    let none = none_cond (eqb (shown key f) 0) (record { hosts = shown key f; ids = ids_shown key f }) (sym (kept.keyed.each key) ∙ e) in
    sym (no_host key f h (grind (arith, none, eqb_tells (shown key f) 0)))

pub host_one : {S : Type 0} (keys : HashMap ℕ Shown S) (next key : ℕ) (f : Trees Host) (s : Shown) → IsOrdered id_of f → IsKept keys next f → shown key f < 2
    → get nat_eq keys key ≡ Some s → host_of key (first_tree f) ≡ cond (is_attached id_of f s.ids) (Some s.ids) None
host_one keys next key f s h kept few e =
    let t = shown_entry (shown key f) (ids_shown key f) s (sym (kept.keyed.each key) ∙ e) in
    only_host key s.ids f h (omega (arith, t.2, few)) (sym t.1)

pub few_shown : {S : Type 0} (keys : HashMap ℕ Shown S) (next key : ℕ) (f : Trees Host) (s : Shown) → IsKept keys next f → s.hosts < 2
    → get nat_eq keys key ≡ Some s → shown key f < 2
few_shown keys next key f s kept few e =
    omega (arith, few, (shown_entry (shown key f) (ids_shown key f) s (sym (kept.keyed.each key) ∙ e)).0)

-- its id is below the next one
pub one_below : {S : Type 0} (keys : HashMap ℕ Shown S) (next key : ℕ) (f : Trees Host) (s : Shown) → IsKept keys next f → shown key f < 2
    → get nat_eq keys key ≡ Some s → s.ids < next
one_below keys next key f s kept few e =
    let t = shown_entry (shown key f) (ids_shown key f) s (sym (kept.keyed.each key) ∙ e) in
    let there = one_shown key s.ids f (omega (arith, t.2, few)) in
    grind (arith, there, t.1, eqb_tells s.ids (ids_shown key f), shown_counted key s.ids f, kept.below s.ids)

-- ---- dropped

pub dropped_tree : (id : ℕ) (w : HostTree) (f g : Trees Host) (next : ℕ) → ◌≡◌ {A = HostTree} (record { hosts = f; next = next }) w → g ≡ without id f
    → ◌≡◌ {A = HostTree} (record { hosts = g; next = next }) (effect (Drop id) w)
dropped_tree id w f g next e is = tree_with (without id) w f g next e is ∙ standing.effect_drop id w

pub kept_dropped : {S : Type 0} (new : HashMap ℕ Shown S) (next id : ℕ) (f g : Trees Host) → g ≡ without id f → ((q : ℕ) → next < q + 1 → count q f ≡ 0)
    → AreKeyed new g → IsKept new next g
kept_dropped new next id f g e below keyed = record { keyed = keyed; below = λ q l. omega (arith, ap (count q) e, below q l, count-without-alone id_of q id f) }

-- ---- what a host shows changed, beside its key

key_stays : (id : ℕ) (change : Face → Face) → ((face : Face) → (change face).key ≡ face.key) → (host : Host)
    → (changed_at id change host).face.key ≡ host.face.key
key_stays id change same host = by (eqb host.id id) where
  by : (b : Bool) → (cond b (change host.face) host.face).key ≡ host.face.key
  by true = same host.face
  by false = refl

pub kept_changed : {S : Type 0} (keys : HashMap ℕ Shown S) (next id : ℕ) (change : Face → Face) (f g : Trees Host)
    → ((face : Face) → (change face).key ≡ face.key) → g ≡ changed id change f → IsKept keys next f → IsKept keys next g
kept_changed keys next id change f g same e kept =
    let n : (key : ℕ) → shown key (changed id change f) ≡ shown key f =
    λ key. weighed-mapped (shows key) (changed_at id change) (λ host. ap (λ k. cond (eqb k key) 1 0) (key_stays id change same host)) f in
    let m : (key : ℕ) → ids_shown key (changed id change f) ≡ ids_shown key f =
    λ key. weighed-mapped (id_shown key) (changed_at id change) (λ host. ap (λ k. cond (eqb k key) host.id 0) (key_stays id change same host)) f in
    let made : IsKept keys next (changed id change f) = record {
      keyed = record {
        each = λ key. kept.keyed.each key
            ∙ sym (ap (λ k. entry_by k (ids_shown key (changed id change f))) (n key) ∙ ap (entry_by (shown key f)) (m key));
      };
      below = λ q l. count-mapped id_of (changed_at id change) (λ a. refl) q f ∙ kept.below q l;
    } in
    subst (IsKept keys next) (sym e) made

-- ---- host 0 alone

root_entry : (q : ℕ) (b : Bool) → eqb 0 q ≡ b → cond b (Some (record { hosts = 1; ids = 0 })) None ≡ entry_of q (one_host 0 root_face)
root_entry q true e = rw e refl
root_entry q false e = rw e refl

pub root_kept : {S : Type 0} (old new : HashMap ℕ Shown S) (f : Trees Host) → f ≡ one_host 0 root_face → old.entries ≡ []
    → ((q : ℕ) → get nat_eq new q ≡ cond (nat_eq 0 q) (Some (record { hosts = 1; ids = 0 })) (get nat_eq old q)) → IsKept new 1 f
root_kept old new f is empty put =
    let made : IsKept new 1 (one_host 0 root_face) = record {
      keyed = record {
        each = λ q. put q ∙ ap (λ o. cond (nat_eq 0 q) (Some (record { hosts = 1; ids = 0 })) o) (ap (λ es. lookup (nat_eq q) es) empty)
            ∙ root_entry q (eqb 0 q) refl;
      };
      below = λ q l. grind (arith, eqb_tells 0 q, l);
    } in
    subst (IsKept new 1) (sym is) made
