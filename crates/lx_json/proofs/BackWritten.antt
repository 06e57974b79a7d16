-- The object of a node, from its node in links and the objects of its children.
use Rattle.std.proofs.Common.{◌≡◌, ◌∙◌, ℕ, true, List, [], ◌∷◌, ◌++◌, map, Option, None, Some, is_some, Result, Ok, Err, refl, sym, ap, subst, arith, append_assoc, append-nil, ◌<◌}
use Rattle.std.specs.Prelude.{option_map, IfOk}
use Rattle.std.proofs.lemmas.Bool.Decides.{eqb_tells}
use Rattle.std.proofs.lemmas.Option.{same_Some}
use Rattle.serde_json.specs.declared.value.Value.{Value}
use Rattle.serde_json.specs.Data.{Data, no_items, item}
use Rattle.serde_json.specs.View.{view, items_of, items_view}
use Rattle.lx_trees.specs.Trees.{nil, tree, joined}
use Rattle.lx_trees.specs.NamedTrees.{total}
use Rattle.lx_trees.specs.Siblings.{is_among}
use Rattle.lx_trees.specs.Spots.{Spot, children_at}
use Rattle.lx_node.specs.OfKind.{IsOfKind}
use Rattle.lx_node.specs.declared.kind.Kind.{Kind}
use Rattle.lx_node.specs.declared.fields.Fields.{Fields}
use Rattle.lx_node.specs.declared.node.Node.{Node}
use Rattle.lx_forest.specs.Forest.{Label, Forest}
use Rattle.lx_forest.specs.Lookups.{spot, has, alone, trees_of, parent_of, children_of, siblings}
use Rattle.lx_forest.specs.Records.{linked, record_at}
use Rattle.lx_forest.specs.Suited.{is_suited}
use Rattle.lx_forest.proofs.Edits.{is_some-spot, key-spot}
use Rattle.lx_forest.proofs.Lookups.{alone-spot, has-child}
use Rattle.lx_forest.proofs.Walks.{total-alone-lt}
use Rattle.lx_links.specs.Stands.{node_of, Sound}
use Rattle.lx_links.proofs.Placed.{parent_of-child}
use Rattle.lx_links.proofs.Read.{IsRead, tree_read, kind_read}
use Rattle.lx_links.proofs.Up.{in_order_at}
use Rattle.lx_fields.specs.Documents.{document_fields}
use Rattle.lx_fields.specs.Exporting.{node_data}
use Rattle.lx_json.specs.Exporting.{trees_data}
use Rattle.lx_json.specs.GivenBack.{AreGivenBack}

-- a key that is there is found
pub is_found : (f : Forest) (key : ℕ) → has key f ≡ true → None ≡ option_map node_of (record_at f key) → ⊥
is_found f key there none = grind (arith, there, none, is_some-spot f key)

-- ---- what is written for trees, as a list

abbrev pub written : Forest → List Data
written nil = []
written (tree l below rest) = node_data l.kind l.fields (trees_data below) ∷ written rest

pub items_of-written : (f : Forest) → items_of (written f) ≡ trees_data f
unfolding trees_data
items_of-written nil = refl
items_of-written (tree l below rest) = ap (item (node_data l.kind l.fields (trees_data below))) (items_of-written rest)

pub written-joined : (s t : Forest) → written (joined s t) ≡ written s ++ written t
written-joined nil t = refl
written-joined (tree l below rest) t = ap (λ ds. node_data l.kind l.fields (trees_data below) ∷ ds) (written-joined rest t)

one_written : (f : Forest) (d : Data) → trees_data f ≡ item d no_items → written f ≡ d ∷ []
unfolding trees_data
one_written nil d e = absurd (cc)
one_written (tree l below nil) d e = ap (λ x. x ∷ []) (let same : node_data l.kind l.fields (trees_data below) ≡ d = cc in same)
one_written (tree l below (tree m under rest)) d e = absurd (cc)

told-joined : (s t : Forest) → AreGivenBack s → AreGivenBack t → AreGivenBack (joined s t)
told-joined nil t told more = more
told-joined (tree l below rest) t told more = (told.0, told.1, told-joined rest t told.2 more)

-- ---- the children one after another

-- The objects for some of the children are written, and these are left: the objects for them come after those.
pub record IsWrittenUpTo (f : Forest) (all left : List ℕ) (values : List Value) : Type 0 where
  pub part : (q : ℕ) → is_among q left ≡ true → is_among q all ≡ true
  pub objects : map view values ++ written (trees_of f left) ≡ written (trees_of f all)
  pub told : AreGivenBack (trees_of f left) → AreGivenBack (trees_of f all)

pub map_more : (values : List Value) (v : Value) → map view (values ++ v ∷ []) ≡ map view values ++ view v ∷ []
map_more [] v = refl
map_more (x ∷ values) v = ap (λ ds. view x ∷ ds) (map_more values v)

-- one child more
pub written_more : (f : Forest) (all left rest : List ℕ) (k : ℕ) (values new : List Value) (v : Value) → IsWrittenUpTo f all left values → left ≡ k ∷ rest
    → new ≡ values ++ v ∷ []
    → trees_data (alone k f) ≡ item (view v) no_items → AreGivenBack (alone k f) → IsWrittenUpTo f all rest new
written_more f all left rest k values new v m first is own told = record {
  part = λ q among. m.part q (ap (is_among q) first ∙ grind (arith, among));
  objects =
      ap (λ vs. map view vs ++ written (trees_of f rest)) is
      ∙ ap (λ ds. ds ++ written (trees_of f rest)) (map_more values v)
      ∙ append_assoc (map view values) (view v ∷ []) (written (trees_of f rest))
      ∙ ap (λ ds. map view values ++ (ds ++ written (trees_of f rest))) (sym (one_written (alone k f) (view v) own))
      ∙ ap (λ ds. map view values ++ ds) (sym (written-joined (alone k f) (trees_of f rest)))
      ∙ sym (ap (λ ks. map view values ++ written (trees_of f ks)) first)
      ∙ m.objects;
  told = λ others. m.told (subst (λ ks. AreGivenBack (trees_of f ks)) (sym first) (told-joined (alone k f) (trees_of f rest) told others));
}

-- what the call for a child needs
pub record IsChildLeft (f : Forest) (key child : ℕ) : Type 0 where
  pub there : has child f ≡ true
  pub smaller : total (alone child f) < total (alone key f)

pub child_left : (f : Forest) (key child : ℕ) (all left rest : List ℕ) (values : List Value) → Sound f → all ≡ children_of f key
    → IsWrittenUpTo f all left values → left ≡ child ∷ rest → IsChildLeft f key child
child_left f key child all left rest values s is m first =
    let among : is_among child left ≡ true = ap (is_among child) first ∙ grind (arith, eqb_tells child child) in
    let up : parent_of f child ≡ Some key = parent_of-child f child key s (sym (ap (is_among child) is) ∙ m.part child among) in
    let there : has child f ≡ true = has-child f child key up in
    record { there = there; smaller = total-alone-lt f child key (in_order_at f child s there) up }

-- ---- all children

all_written : (f : Forest) (key : ℕ) (all left : List ℕ) (values : List Value) → all ≡ children_of f key → left ≡ [] → IsWrittenUpTo f all left values
    → items_view values ≡ trees_data (trees_of f (children_of f key))
all_written f key all left values is none m =
    ap items_of
    (sym (append-nil (map view values)) ∙ sym (ap (λ ks. map view values ++ written (trees_of f ks)) none) ∙ m.objects
    ∙ ap (λ ks. written (trees_of f ks)) is)
    ∙ items_of-written (trees_of f (children_of f key))

pub node_written : {E : Type 0} (r : Result Value E) (f : Forest) (key : ℕ) (n : Node) (all left : List ℕ) (values : List Value) → IsRead f key n
    → all ≡ children_of f key → left ≡ [] → IsWrittenUpTo f all left values
    → IfOk r (λ v. view v ≡ node_data n.kind n.fields (items_view values)) → IfOk r (λ v. trees_data (alone key f) ≡ item (view v) no_items)
unfolding trees_data
node_written (Err e) f key n all left values read is none m made = tt
node_written (Ok v) f key n all left values read is none m made =
    ap trees_data (tree_read f key n read)
    ∙ ap (λ ds. item (node_data n.kind n.fields ds) no_items) (sym (all_written f key all left values is none m))
    ∙ ap (λ d. item d no_items) (sym made)

pub node_told : {E : Type 0} (r : Result Value E) (f : Forest) (key : ℕ) (n : Node) (all left : List ℕ) (values : List Value) → Sound f → IsRead f key n
    → all ≡ children_of f key → left ≡ [] → IsWrittenUpTo f all left values
    → IfOk r (λ v. view v ≡ node_data n.kind n.fields (items_view values)) → IfOk r (λ v. document_fields n.kind (view v) ≡ Ok n.fields)
    → IfOk r (λ v. AreGivenBack (alone key f))
node_told (Err e) f key n all left values sound read is none m made back = tt
node_told (Ok v) f key n all left values sound read is none m made back =
    let below = trees_of f (children_of f key) in
    let object : view v ≡ node_data n.kind n.fields (trees_data below) = made ∙ ap (node_data n.kind n.fields) (all_written f key all left values is none m) in
    let told : AreGivenBack below = subst (λ ks. AreGivenBack (trees_of f ks)) is (m.told (subst (λ ks. AreGivenBack (trees_of f ks)) (sym none) tt)) in
    subst AreGivenBack (sym (tree_read f key n read)) (record { of_kind = kind_read f key n sound read; fields = ap (document_fields n.kind) (sym object) ∙ back }, told, tt)
