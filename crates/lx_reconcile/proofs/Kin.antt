-- The marked children of a node, as they are found by their hosts.
use Rattle.std.proofs.Common.{◌≡◌, ◌∙◌, ◌+◌, ◌<◌, ◌≤◌, ◌^◌, ◌||◌, ℕ, true, false, cond, nat_eq, List, [], ◌∷◌, ◌++◌, map, length, length-append, Option, None, Some, is_some, inl, inr, refl, sym, ap, arith, append-nil, ◌&&◌}
use Rattle.std.specs.Prelude.{filter}
use Rattle.std.specs.HashMap.{HashMap}
use Rattle.std.specs.Map.{keys_of}
use Rattle.std.proofs.lemmas.Bool.Decides.{eqb_tells}
use Rattle.std.proofs.lemmas.Bool.{cases_lt, cases_Bool, and_parts}
use Rattle.std.proofs.lemmas.Option.{same_Some}
use Rattle.indexmap.specs.IndexMap.{get}
use Rattle.lx_trees.specs.Trees.{Trees, nil, tree}
use Rattle.lx_trees.specs.NamedTrees as named
use Rattle.lx_trees.specs.Siblings.{is_among, is_named, NoRepeats}
use Rattle.lx_trees.specs.Spots.{Spot, spot, children_at}
use Rattle.lx_trees.proofs.NamedTrees as trees
use Rattle.lx_trees.proofs.Siblings.{is_among-append}
use Rattle.lx_marks.specs.Marks.{Marked, is_noted}
use Rattle.lx_marks.proofs.Flagged.{is_some-flag_in}
use Rattle.lx_trees.specs.Lookups as rooted
use Rattle.lx_trees.specs.Lookups.{IsOrdered}
use Rattle.lx_trees.proofs.Lookups as lookups
use Rattle.lx_trees.proofs.Edits.{is_some-spot}
use Rattle.lx_host.specs.Branches.{IsRooted}
use Rattle.lx_host.specs.Hosts.{Host, HostTree, id_of, count, alone, ids_of}
use Rattle.lx_host.specs.Html.{first_tree}
use Rattle.lx_host.specs.Lookups.{host_of}
use Rattle.lx_forest.specs.Forest.{Forest}
use Rattle.lx_forest.specs.Lookups as forest
use Rattle.lx_forest.specs.Lookups.{children_of}
use Rattle.lx_forest.proofs.Lookups.{NoRepeats-children_of}
use Rattle.lx_forest.specs.Covered.{Marking}
use Rattle.lx_reconcile.specs.declared.family.Family.{Family}
use Rattle.lx_reconcile.specs.Families.{right_above, host_above, shown_below, family_of, with_child, marked_keys, AreFamilies}
use Rattle.lx_reconcile.specs.Making.{IsBetween}
use Rattle.lx_reconcile.specs.Reconciled.{flat, host_in}
use Rattle.lx_reconcile.specs.Windows.{marked_among}
use Rattle.lx_reconcile.proofs.Families.{ids_of-flat, is_among-ids}
use Rattle.lx_reconcile.proofs.Shown.{count-shown}
use Rattle.lx_reconcile.proofs.StartEnd.{IsShownAt, is_shown_at, shown_at_id, only_host, child_stands}
use Rattle.lx_reconcile.proofs.Lists.{filter-among, once-filter}
use Rattle.lx_reconcile.proofs.HostOf.{one_shows, none_shows}
use Rattle.lx_reconcile.proofs.Reading.{weight, weight-some}

-- ---- the table, one marked node after another

below-push : (v : HostTree) (host key : ℕ) (keys : List ℕ)
    → shown_below v host (keys ++ key ∷ []) ≡ shown_below v host keys ++ cond (is_named (host_above v key) host) (key ∷ []) []
below-push v host key [] = refl
below-push v host key (x ∷ keys) = grind (arith, below-push v host key keys)

family-push : (key : ℕ) (keys : List ℕ) → family_of (keys ++ key ∷ []) ≡ Some (with_child key (family_of keys))
family-push key [] = refl
family-push key (x ∷ keys) = ap (λ n. Some (record { child = x; size = n + 1 })) (length-append keys (key ∷ []))

pub families_other : {S : Type 0} (v : HostTree) (key : ℕ) (keys : List ℕ) (made : HashMap ℕ Family S) → host_above v key ≡ None → AreFamilies v keys made
    → AreFamilies v (keys ++ key ∷ []) made
families_other v key keys made none are = record {
  each = λ host. are.each host
      ∙ sym (ap family_of
      (below-push v host key keys ∙ ap (λ o. shown_below v host keys ++ cond (is_named o host) (key ∷ []) []) none ∙ append-nil (shown_below v host keys)));
}

pub families_more : {S T : Type 0} (v : HostTree) (key above : ℕ) (keys : List ℕ) (old : HashMap ℕ Family S) (new : HashMap ℕ Family T)
    → host_above v key ≡ Some above → AreFamilies v keys old
    → ((q : ℕ) → get nat_eq new q ≡ cond (nat_eq above q) (Some (with_child key (get nat_eq old above))) (get nat_eq old q))
    → AreFamilies v (keys ++ key ∷ []) new
families_more v key above keys old new is are each = record { each = at } where
  at : (host : ℕ) → get nat_eq new host ≡ family_of (shown_below v host (keys ++ key ∷ []))
  at host =
      grind (
        arith,
        is,
        eqb_tells above host,
        eqb_tells host above,
        each host,
        are.each above,
        are.each host,
        family-push key (shown_below v host keys),
        below-push v host key keys,
        append-nil (shown_below v host keys),
      )

below-short : (v : HostTree) (host : ℕ) (keys : List ℕ) → length (shown_below v host keys) ≤ length keys
below-short v host [] = omega arith
below-short v host (x ∷ keys) = grind (arith, below-short v host keys)

family_size : (keys : List ℕ) (x : Family) → family_of keys ≡ Some x → x.size ≤ length keys
family_size [] x e = absurd (cc)
family_size (k ∷ keys) x e = omega (arith, ap (λ (f : Family). f.size) (same_Some _ _ e))

-- no family is larger than the keys that were looked at
pub families_small : {S : Type 0} (v : HostTree) (keys : List ℕ) (made : HashMap ℕ Family S) → AreFamilies v keys made → length keys + 1 < 2 ^ 64
    → (host : ℕ) (x : Family) → get nat_eq made host ≡ Some x → x.size + 1 < 2 ^ 64
families_small v keys made are small host x e =
    omega (arith, small, family_size (shown_below v host keys) x (sym (are.each host) ∙ e), below-short v host keys)

-- ---- lists

weight-one : (xs : List ℕ) → weight (λ k. 1) xs ≡ length xs
weight-one [] = refl
weight-one (x ∷ xs) = omega (arith, weight-one xs)

-- what is once in one list, and all of it in another one, is no longer than that
no_longer : (xs ys : List ℕ) → NoRepeats xs → ((q : ℕ) → is_among q xs ≡ true → is_among q ys ≡ true) → length xs ≤ length ys
no_longer xs ys once there = omega (arith, weight-some (λ k. 1) xs ys once (λ k e. inr (there k e)), weight-one xs, weight-one ys)

-- ---- which keys are marked

pub noted_among : (m : Marked) (q : ℕ) → is_among q (marked_keys m) ≡ is_noted m q
noted_among m q = is_among-append q m.leaves (keys_of m.elements) ∙ ap (λ b. is_among q m.leaves || b) (sym (is_some-flag_in m.elements q))

-- ---- hosts above and below

names-gathered : (f : Trees Host) (ks : List ℕ) → ((q : ℕ) → is_among q ks ≡ true → count q f ≡ 1) → ids_of (named.gathered id_of f ks) ≡ ks
names-gathered f [] there = refl
names-gathered f (k ∷ ks) there =
    trees.names-joined id_of (alone k f) (named.gathered id_of f ks)
    ∙ ap (λ xs. xs ++ ids_of (named.gathered id_of f ks)) (trees.names-alone id_of k f (there k (grind (arith, eqb_tells k k))))
    ∙ ap (λ xs. k ∷ xs) (names-gathered f ks (λ q e. there q (grind (arith, e))))

module _ (old new : Forest) (mk : Marking) (v : HostTree) (b : IsBetween old new mk v) where
  ordered : IsOrdered id_of v.hosts
  ordered = record { once = b.view.numbered.once; rising = rising v.hosts b.view.rooted b.whole } where
    rising : (t : Trees Host) → IsRooted t → first_tree t ≡ t → rooted.rises (ids_of t) ≡ true
    rising nil rooted whole = absurd rooted
    rising (tree host below nil) rooted whole = grind (arith, rooted, eqb_tells host.id 0)
    rising (tree host below (tree x y z)) rooted whole = absurd (cc)

  -- the hosts of a node's children are those right below its own
  hosts_below : (k : ℕ) → forest.has k old ≡ true → rooted.children_of id_of v.hosts (host_in v k) ≡ map (host_in v) (children_of old k)
  hosts_below k there = from_spot (spot id_of v.hosts (host_in v k)) refl where
    s : IsShownAt old v k
    s = is_shown_at old v k b.view.before b.view.shows b.view.numbered there

    kids : Trees Host
    kids = flat (λ c. alone (host_in v c) v.hosts) (children_of old k)

    from_spot : (o : Option (Spot Host)) → spot id_of v.hosts (host_in v k) ≡ o
        → rooted.children_of id_of v.hosts (host_in v k) ≡ map (host_in v) (children_of old k)
    from_spot None at =
        absurd (let none : alone (host_in v k) v.hosts
        ≡ nil = trees.alone-absent id_of (host_in v k) v.hosts
        (let out = sym (is_some-spot id_of v.hosts (host_in v k)) ∙ ap is_some at in grind (arith, out)) in let some = s.is in cc)
    from_spot (Some x) at =
        let same : tree x.label (named.gathered id_of v.hosts x.children) nil ≡ tree s.host kids nil =
        sym (lookups.alone-spot id_of v.hosts (host_in v k) x ordered at) ∙ s.is in
        let below : named.gathered id_of v.hosts x.children ≡ kids = cc in
        let own : rooted.children_of id_of v.hosts (host_in v k) ≡ x.children = ap children_at at in
        own
        ∙ sym (names-gathered v.hosts x.children (λ q e. child_counted q (ap (is_among q) own ∙ e)))
        ∙ ap ids_of below
        ∙ ids_of-flat (host_in v) (λ c. alone (host_in v c) v.hosts) (children_of old k)
        (λ c e. shown_at_id old v c b.view.before b.view.shows b.view.numbered (child_stands old k c b.view.before e))
      where
        child_counted : (q : ℕ) → is_among q (rooted.children_of id_of v.hosts (host_in v k)) ≡ true → count q v.hosts ≡ 1
        child_counted q e =
            grind (arith, e, lookups.is_among-children_of id_of v.hosts q (host_in v k) ordered, b.view.numbered.once q, lookups.has-child id_of v.hosts q)

  -- the host of a node that is there
  host_found : (c : ℕ) → forest.has c old ≡ true → host_of c (first_tree v.hosts) ≡ Some (host_in v c)
  host_found c there =
      ap (host_of c) b.whole
      ∙ one_shows c (host_in v c) v.hosts (only_host old v c b.view.before b.view.shows there)

  above_is : (c k : ℕ) → forest.has c old ≡ true → forest.has k old ≡ true
      → is_named (host_above v c) (host_in v k) ≡ is_among (host_in v c) (map (host_in v) (children_of old k))
  above_is c k there up =
      ap (λ o. is_named (right_above v o) (host_in v k)) (host_found c there)
      ∙ sym (lookups.is_among-children_of id_of v.hosts (host_in v c) (host_in v k) ordered)
      ∙ ap (is_among (host_in v c)) (hosts_below k up)

  -- no two nodes have one host
  one_host : (c d : ℕ) → forest.has c old ≡ true → forest.has d old ≡ true → host_in v c ≡ host_in v d → c ≡ d
  one_host c d there too same =
      let s = is_shown_at old v c b.view.before b.view.shows b.view.numbered there in
      let t = is_shown_at old v d b.view.before b.view.shows b.view.numbered too in
      let trees_same : tree s.host (flat (λ c. alone (host_in v c) v.hosts) (children_of old c)) nil
      ≡ tree t.host (flat (λ c. alone (host_in v c) v.hosts) (children_of old d)) nil =
      sym s.is ∙ ap (λ i. alone i v.hosts) same ∙ t.is in
      let hosts_same : s.host ≡ t.host = cc in
      sym s.key ∙ ap (λ (h : Host). h.face.key) hosts_same ∙ t.key

  among_hosts : (c : ℕ) (ks : List ℕ) → forest.has c old ≡ true → ((q : ℕ) → is_among q ks ≡ true → forest.has q old ≡ true)
      → is_among (host_in v c) (map (host_in v) ks) ≡ true → is_among c ks ≡ true
  among_hosts c [] there all e = absurd (cc)
  among_hosts c (k ∷ ks) there all e =
      grind (
        arith,
        e,
        eqb_tells (host_in v k) (host_in v c),
        eqb_tells k c,
        one_host k c (all k (grind (arith, eqb_tells k k))) there,
        among_hosts c ks there (λ q e. all q (grind (arith, e))),
      )

  -- whose hosts are right below a node's are its children
  pub child_above : (c k : ℕ) → forest.has k old ≡ true → is_named (host_above v c) (host_in v k) ≡ true → is_among c (children_of old k) ≡ true
  child_above c k up e = elim (cases_lt 0 (forest.count c old)) [
    | inl some ↦
        let there : forest.has c old ≡ true = grind (arith, some) in
        among_hosts c (children_of old k) there (λ q among. child_stands old k q b.view.before among) (sym (above_is c k there up) ∙ e)
    | inr none ↦
        let out : host_of c (first_tree v.hosts) ≡ None =
        ap (host_of c) b.whole ∙ none_shows c v.hosts (count-shown c v.hosts old b.view.shows ∙ omega (arith, none)) in
        absurd (let no = ap (λ o. is_named (right_above v o) (host_in v k)) out in cc)
  ]

  pub above_child : (c k : ℕ) → forest.has k old ≡ true → is_among c (children_of old k) ≡ true → is_named (host_above v c) (host_in v k) ≡ true
  above_child c k up among = above_is c k (child_stands old k c b.view.before among) up ∙ is_among-ids (host_in v) c (children_of old k) among

  -- ---- the family of a node

  module _ {S : Type 0} (m : Marked) (families : HashMap ℕ Family S) (are : AreFamilies v (marked_keys m) families) where
    among_below : (q k : ℕ) → forest.has k old ≡ true → is_among q (children_of old k) ≡ true → is_noted m q ≡ true
        → is_among q (shown_below v (host_in v k) (marked_keys m)) ≡ true
    among_below q k up among marked =
        filter-among (λ key. is_named (host_above v key) (host_in v k)) (marked_keys m) q
        ∙ ap (λ b. b && is_named (host_above v q) (host_in v k)) (noted_among m q ∙ marked) ∙ above_child q k up among

    fewer : (k : ℕ) → forest.has k old ≡ true → marked_among (is_noted m) (children_of old k) ≤ length (shown_below v (host_in v k) (marked_keys m))
    fewer k up =
        no_longer (filter (is_noted m) (children_of old k)) (shown_below v (host_in v k) (marked_keys m))
        (once-filter (is_noted m) (children_of old k) (NoRepeats-children_of old k b.view.before))
        (λ q e. let t = and_parts (is_among q (children_of old k)) (is_noted m q) (sym (filter-among (is_noted m) (children_of old k) q) ∙ e) in among_below q k
        up t.0 t.1)

    -- what is known of it where there is one
    pub record IsFamily (k : ℕ) (x : Family) : Type 0 where
      pub child : is_among x.child (children_of old k) ≡ true
      pub marked : is_noted m x.child ≡ true
      pub size : marked_among (is_noted m) (children_of old k) ≤ x.size

    pub is_family : (k : ℕ) (x : Family) → forest.has k old ≡ true → get nat_eq families (host_in v k) ≡ Some x → IsFamily k x
    is_family k x up e = by_list (shown_below v (host_in v k) (marked_keys m)) refl (sym (are.each (host_in v k)) ∙ e) where
      by_list : (ks : List ℕ) → shown_below v (host_in v k) (marked_keys m) ≡ ks → family_of (shown_below v (host_in v k) (marked_keys m)) ≡ Some x
          → IsFamily k x
      by_list [] is some = absurd (let none = ap family_of is in cc)
      by_list (c ∷ ks) is some =
          let own : record { child = c; size = length ks + 1 } ≡ x = same_Some _ x (sym (ap family_of is) ∙ some) in
          let first : c ≡ x.child = ap (λ (f : Family). f.child) own in
          let among : is_among x.child (shown_below v (host_in v k) (marked_keys m)) ≡ true =
          ap (is_among x.child) is ∙ grind (arith, first, eqb_tells c x.child) in
          let t = and_parts (is_among x.child (marked_keys m)) (is_named (host_above v x.child) (host_in v k))
          (sym (filter-among (λ key. is_named (host_above v key) (host_in v k)) (marked_keys m) x.child) ∙ among) in
          record {
            child = child_above x.child k up t.1;
            marked = sym (noted_among m x.child) ∙ t.0;
            size = omega (arith, fewer k up, ap length is, ap (λ (f : Family). f.size) own);
          }

    -- where there is none, no child carries a mark
    pub no_family : (k : ℕ) → forest.has k old ≡ true → get nat_eq families (host_in v k) ≡ None → (q : ℕ) → is_among q (children_of old k) ≡ true
        → is_noted m q ≡ false
    no_family k up e q among = elim (cases_Bool (is_noted m q)) [
      | inr plain ↦ plain
      | inl marked ↦ absurd (no_list (shown_below v (host_in v k) (marked_keys m)) (sym (are.each (host_in v k)) ∙ e) (among_below q k up among marked))
    ] where
      no_list : (ks : List ℕ) → family_of ks ≡ None → is_among q ks ≡ true → ⊥
      no_list [] none e = absurd (grind (arith, e))
      no_list (k ∷ ks) none e = absurd (cc)
