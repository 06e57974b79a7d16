-- What the operations make of a new host tree that are to make it show a tree.
use Rattle.std.proofs.Common.{◌≡◌, ◌≢◌, ◌∙◌, ◌+◌, ◌≤◌, ℕ, true, false, List, [], ◌∷◌, ◌++◌, Option, None, Some, option_map, refl, sym, ap, subst, arith, ne_eqb, append_assoc, append-nil}
use Rattle.std.proofs.lemmas.Option.{same_Some}
use Rattle.lx_node.specs.Limits.{last_u32}
use Rattle.lx_trees.specs.Trees.{nil, tree}
use Rattle.lx_node.specs.Kinds.{is_text_block}
use Rattle.lx_trees.specs.NamedTrees.{total}
use Rattle.lx_trees.proofs.NamedTrees.{total-without-alone}
use Rattle.lx_node.specs.declared.kind.Kind.TheVariants.{Root}
use Rattle.lx_node.specs.declared.node.Node.{Node}
use Rattle.lx_host.specs.declared.tag.Name.{Name}
use Rattle.lx_host.specs.declared.tag.Tag.TheVariants.{Div}
use Rattle.lx_host.specs.declared.op.Op.{Op}
use Rattle.lx_host.specs.Branches as hosts
use Rattle.lx_host.specs.Hosts.{Face, HostTree, one_host, shape_of, Leads, FitInTurn, new_tree}
use Rattle.lx_host.specs.Words.{names_rise, with_attribute}
use Rattle.lx_forest.specs.Forest.{Label, Forest}
use Rattle.lx_forest.specs.Lookups.{key_of, alone, trees_of, children_of}
use Rattle.lx_forest.specs.Records.{record_at}
use Rattle.lx_forest.proofs.Edits.{has-root}
use Rattle.lx_links.specs.Stands.{node_of, Sound}
use Rattle.lx_reconcile.specs.Allowed.{Shows}
use Rattle.lx_render.specs.Render.{render, face_of, last_kind, attributes_of, text_of}
use Rattle.lx_reconcile.specs.Created.{numbered, creations, attribute_ops, text_ops, fresh_ops}
use Rattle.lx_render.proofs.Rising.{attributes_are}
use Rattle.lx_links.proofs.Read.{is_read, tree_read}
use Rattle.lx_reconcile.proofs.Children.{stands_there, total_read}
use Rattle.lx_reconcile.proofs.Created.{host_tree, Leads-append, Leads-fits, Leads-same, IsReadyFor, created, shape_of-numbered, fits_write}
use Rattle.lx_reconcile.proofs.Written.{IsBehind, with_behind, behind_done}
use Rattle.lx_host.proofs.Standing.{effect_attr, effect_text}
use Rattle.lx_reconcile.specs.Changing.{is_attr, is_text}

-- ---- host 0 alone

-- what it shows with these attributes and this text
abbrev root_with : List (Name × List ℕ) → Option (List ℕ) → Face
root_with attributes text = record { key = 0; tag = Div; attrs = attributes; text = text; ending = false }

abbrev alone_with : List (Name × List ℕ) → Option (List ℕ) → HostTree
alone_with attributes text = host_tree (one_host 0 (root_with attributes text)) 1

attributes_lead : (xs ys : List (Name × List ℕ)) → IsBehind xs ys → Leads (alone_with xs None) (attribute_ops 0 ys) (alone_with (xs ++ ys) None)
attributes_lead xs [] b = ap (λ l. alone_with l None) (append-nil xs)
attributes_lead xs (y ∷ ys) b =
    let last : with_attribute y.0 (Some y.1) xs ≡ xs ++ y ∷ [] =
    ap (with_attribute y.0 (Some y.1)) (sym (append-nil xs)) ∙ with_behind y.0 (Some y.1) xs [] (b.first y ys refl) in (
      alone_with (xs ++ y ∷ []) None,
      sym (fits_write (is_attr y.0 (Some y.1)) (alone_with xs None)),
      sym (ap (λ l. alone_with l None) last) ∙ effect_attr 0 y.0 (Some y.1) (alone_with xs None),
      subst (λ l. Leads (alone_with (xs ++ y ∷ []) None) (attribute_ops 0 ys) (alone_with l None)) (append_assoc xs (y ∷ []) ys)
          (attributes_lead (xs ++ y ∷ []) ys (behind_done xs y ys b)),
    )

text_leads : (attributes : List (Name × List ℕ)) (text : Option (List ℕ)) → Leads (alone_with attributes None) (text_ops 0 text) (alone_with attributes text)
text_leads attributes None = refl
text_leads attributes (Some text) =
    (alone_with attributes (Some text), sym (fits_write (is_text text) (alone_with attributes None)), effect_text 0 text (alone_with attributes None), refl)

-- ---- the whole

ready_alone : (attributes : List (Name × List ℕ)) (text : Option (List ℕ)) (more : ℕ) → 1 + more ≤ last_u32
    → IsReadyFor 0 more (one_host 0 (root_with attributes text)) 1
ready_alone attributes text more room = record {
  free = λ q h. rw (ne_eqb 0 q (omega (arith, h))) refl;
  once = refl;
  room = room;
}

-- what the operations lead to
abbrev pub shown_by : Label → Forest → HostTree
shown_by label below =
    host_tree (tree (record { id = 0; face = root_with (attributes_of label.kind label.fields) (text_of label.fields) }) (numbered 1 (render below)) nil)
    (1 + total below)

pub fresh_leads : (label : Label) (below : Forest) → 1 + total below ≤ last_u32 → Leads new_tree (fresh_ops (tree label below nil)) (shown_by label below)
fresh_leads label below room =
    let attributes = attributes_of label.kind label.fields in
    let text = text_of label.fields in
    let rising : names_rise attributes ≡ true = (attributes_are label.kind label.fields).rise in
    Leads-append (attribute_ops 0 attributes ++ text_ops 0 text) (creations 0 1 below) new_tree (alone_with attributes text) (shown_by label below)
    (Leads-append (attribute_ops 0 attributes) (text_ops 0 text) new_tree (alone_with attributes None) (alone_with attributes text)
    (attributes_lead [] attributes (record { rise = rising; first = λ a more is. tt })) (text_leads attributes text))
    (created 0 1 (one_host 0 (root_with attributes text)) below (ready_alone attributes text (total below) room))

shows_root : (label : Label) (below : Forest) → label.key ≡ 0 → label.kind ≡ Root → Shows (shown_by label below) (tree label below nil)
unfolding is_text_block
shows_root label below key kind =
    let face : root_with (attributes_of label.kind label.fields) (text_of label.fields) ≡ face_of label (last_kind below) = rw (key, kind) refl in
    ap (λ s. tree (root_with (attributes_of label.kind label.fields) (text_of label.fields)) s nil) (shape_of-numbered 1 (render below))
    ∙ ap (λ f. tree f (render below) nil) face

-- ---- the root's tree of links

-- the root as it is in a forest
pub record IsRooted (f : Forest) : Type 0 where
  pub label : Label
  pub below : Forest
  pub tree_is : alone 0 f ≡ tree label below nil
  pub key : label.key ≡ 0
  pub kind : label.kind ≡ Root
  pub room : 1 + total below ≤ last_u32

pub is_rooted : (f : Forest) → Sound f → f ≢ nil → IsRooted f
is_rooted f s living =
    let h = s.in_order living in
    let r = stands_there f 0 h (has-root f h) in
    record {
      label = r.label;
      below = r.below;
      tree_is = r.tree_is;
      key = r.key;
      kind = same_Some r.label.kind Root (sym r.kind ∙ h.root);
      room = omega (arith, s.small, ap total r.tree_is, total-without-alone key_of 0 f);
    }

pub fresh_fits : (f : Forest) (ops : List Op) → Sound f → f ≢ nil → ops ≡ fresh_ops (alone 0 f) → FitInTurn new_tree ops
fresh_fits f ops s living is =
    let r = is_rooted f s living in
    let P : List Op → Type 0 = λ o. FitInTurn new_tree o in
    subst P (sym (is ∙ ap fresh_ops r.tree_is))
    (Leads-fits (fresh_ops (tree r.label r.below nil)) new_tree (shown_by r.label r.below) (fresh_leads r.label r.below r.room))

module _ (f : Forest) (ops : List Op) (view : HostTree) (s : Sound f) (living : f ≢ nil) (is : ops ≡ fresh_ops (alone 0 f)) (leads : Leads new_tree ops view)
  where
    root : IsRooted f
    root = is_rooted f s living

    view_is : view ≡ shown_by root.label root.below
    view_is =
        let these : Leads new_tree (fresh_ops (tree root.label root.below nil)) view =
        subst (λ o. Leads new_tree o view) (is ∙ ap fresh_ops root.tree_is) leads in
        Leads-same (fresh_ops (tree root.label root.below nil)) new_tree view (shown_by root.label root.below) these
        (fresh_leads root.label root.below root.room)

    pub fresh_shows : Shows view (alone 0 f)
    fresh_shows =
        ap (λ (v : HostTree). shape_of v.hosts) view_is
        ∙ shows_root root.label root.below root.key root.kind
        ∙ sym (ap render root.tree_is)

    pub fresh_rooted : hosts.IsRooted view.hosts
    fresh_rooted = subst (λ (v : HostTree). hosts.IsRooted v.hosts) (sym view_is) refl

    pub fresh_next : view.next ≡ total (alone 0 f)
    fresh_next = omega (arith, ap (λ (v : HostTree). v.next) view_is, ap total root.tree_is)

-- ---- what is pushed for the root's tree

pub root_room : (f g : Forest) (key : ℕ) (n : Node) → g ≡ f → Sound f → Some n ≡ option_map node_of (record_at f key)
    → 1 + total (trees_of g (children_of g key)) ≤ last_u32
root_room f g key n same s read =
    let r = is_read f key n s read in
    omega (arith, s.small, total_read f key n r, total-without-alone key_of key f, ap (λ f. total (trees_of f (children_of f key))) same)

pub root_pushed : (f g : Forest) (key : ℕ) (n : Node) (mid new : List Op) → g ≡ f → key ≡ 0 → Sound f → Some n ≡ option_map node_of (record_at f key)
    → mid ≡ attribute_ops 0 (attributes_of n.kind n.fields) ++ text_ops 0 (text_of n.fields)
    → new ≡ mid ++ creations 0 1 (trees_of g (children_of g key))
    → new ≡ fresh_ops (alone 0 f)
root_pushed f g key n mid new same root s read first then =
    let r = is_read f key n s read in
    then
    ∙ ap (λ f. mid ++ creations 0 1 (trees_of f (children_of f key))) same
    ∙ ap (λ ops. ops ++ creations 0 1 (trees_of f (children_of f key))) first
    ∙ sym (ap fresh_ops (tree_read f key n r))
    ∙ ap (λ k. fresh_ops (alone k f)) root
